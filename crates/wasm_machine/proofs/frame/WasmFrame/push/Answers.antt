use Rattle.wasm_machine.proofs.Views.{pushed_is, words_within}
use Rattle.wasm_machine.proofs.frame.WasmFrame.push.Goals as goal

pub push_reserved-requires : goal.push_reserved-requires
push_reserved-requires c = words_within _ _ _ _ _ _ _ _ _ _ _ c.self.view_is c.self.invariant.2 c.self.inside.words.ok.0 c.requires c.self.invariant.0

pub returns : goal.returns
returns c = pushed_is _ _ _ _ _ _ _ _ _ _ _ c.self.view_is c.self.invariant.2 c.push_reserved.ensures.items
