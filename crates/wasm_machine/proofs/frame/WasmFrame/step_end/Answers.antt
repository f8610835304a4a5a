use Rattle.wasm_machine.proofs.Parts.{end_can, end_makes, end_grew, end_leaves}
use Rattle.wasm_machine.proofs.frame.WasmFrame.step_end.Goals as goal

pub end_list-requires : goal.end_list-requires
end_list-requires c = end_can c.args.store.now c.args.self.now c.requires.fits.1 c.requires.ended

pub returns-clause-makes : goal.returns-clause-makes
returns-clause-makes c = end_makes c.args.store.now c.args.self.now c.end_list.new.self c.in_ok-effect.effect c.requires.fits.1 c.requires.ended c.in_ok-effect.ensures.ok

pub returns-clause-fits : goal.returns-clause-fits
returns-clause-fits c = λ R f. end_leaves c.args.store.now c.args.self.now c.end_list.new.self c.in_ok-effect.effect f c.requires.ended c.in_ok-effect.ensures.ok

pub returns-clause-grew : goal.returns-clause-grew
returns-clause-grew c = λ F. end_grew c.args.store.now c.args.self.now c.end_list.new.self c.in_ok-effect.effect c.requires.ended c.in_ok-effect.ensures.ok F
