use Rattle.std.proofs.Common.{rules, ◌≡◌, length, sym, ◌∙◌}
use Rattle.wasm_machine.proofs.Views.{outer_long}
use Rattle.wasm_machine.proofs.frame.WasmFrame.depth.Goals as goal

pub returns : goal.returns
returns c =
    let n : c.len.result ≡ length c.self.inside.outer.items = search rules in
    n ∙ sym (outer_long _ _ _ _ _ _ _ _ _ c.self.view_is)
