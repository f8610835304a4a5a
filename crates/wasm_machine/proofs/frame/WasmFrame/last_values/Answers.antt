use Rattle.std.proofs.Common.{rules, ap, ◌∙◌, ◌≡◌, length, ◌-◌, drop}
use Rattle.std.specs.Prelude.{reverse}
use Rattle.std.proofs.lemmas.List.{take_rest}
use Rattle.wasm_machine.proofs.Views.{last_is}
use Rattle.wasm_machine.proofs.frame.WasmFrame.last_values.Goals as goal

pub returns : goal.returns
returns c =
    let n : c.len.result ≡ length c.self.inside.words.items = search rules in
    let e = last_is _ _ _ _ _ _ _ _ _ c.len.result _ c.self.view_is c.self.invariant.2.0 c.requires n in
    record { ok = ap reverse (c.in_ok-values.ensures.items ∙ take_rest c.deref.result.now (c.len.result - c.args.n) ∙ ap (drop (c.len.result - c.args.n)) c.deref.ensures.value) ∙ e }
