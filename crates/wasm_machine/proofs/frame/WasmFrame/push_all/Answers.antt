use Rattle.wasm_machine.proofs.Views.{pushed_all_is, words_more}
use Rattle.wasm_machine.proofs.frame.WasmFrame.push_all.Goals as goal

pub unreachable-requires : goal.unreachable-requires
unreachable-requires c = words_more _ _ _ _ _ _ _ _ _ _ _ _ c.self.view_is c.self.invariant.2 c.self.inside.words.ok.0 c.requires c.self.invariant.0 c.in-Err.ensures.full

pub returns : goal.returns
returns c = pushed_all_is _ _ _ _ _ _ _ _ _ _ _ c.self.view_is c.self.invariant.2 c.in-Ok.ensures.items
