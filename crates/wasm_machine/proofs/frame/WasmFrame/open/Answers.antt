use Rattle.std.proofs.Common.{◌≡◌, length, rules}
use Rattle.wasm_machine.proofs.Views.{opened_is, outer_within}
use Rattle.wasm_machine.proofs.frame.WasmFrame.open.Goals as goal

pub push_reserved-requires : goal.push_reserved-requires
push_reserved-requires c = outer_within _ _ _ _ _ _ c.self.inside.outer.items _ _ _ _ c.self.view_is c.self.inside.outer.ok.0 c.requires.few c.self.invariant.1

pub returns : goal.returns
returns c =
    let e : c.len.result ≡ length c.self.inside.words.items = search rules in
    let f = opened_is _ _ _ _ _ _ _ _ _ c.args.n c.args.arity c.args.again c.args.block _ c.self.view_is c.self.invariant.2 c.push_reserved.ensures.items c.requires.enough in
    rw e f
