use Rattle.std.proofs.Common.{ap, ◌∙◌}
use Rattle.wasm_machine.specs.View.{View, term_of}
use Rattle.wasm_machine.specs.Growth.{growth_of}
use Rattle.wasm_machine.proofs.Kept.{module_live}
use Rattle.wasm_machine.proofs.StepLaws.{Fetched, fetched_at, fetched_fits, step_makes, step_grew}
use Rattle.wasm_machine.proofs.frame.WasmFrame.step.Goals as goal
use Rattle.wasm_machine.proofs.frame.WasmFrame.step.Goals.{In-Some}

gone : (c : In-Some) → Fetched c.args.store.now c.args.self.now c.fetch.new.self c.in-Some.sort
gone c = record { rest = c.in-Some.ensures.0; sort_is = c.in-Some.ensures.1; advanced_is = c.in-Some.ensures.2 }

pub fetch-requires : goal.fetch-requires
fetch-requires c = module_live c.args.store.now _ _ c.args.self.now c.requires.1

pub perform-requires : goal.perform-requires
perform-requires c = fetched_at c.args.store.now c.args.self.now c.fetch.new.self c.in-Some.sort (gone (goal.at.perform-requires c).In-Some) c.requires.0 c.requires.1

pub returns-in-Ok-clause-makes : goal.returns-in-Ok-clause-makes
returns-in-Ok-clause-makes c = step_makes c.args.store.now c.args.self.now c.fetch.new.self c.in-Some.sort (gone (goal.at.returns-in-Ok-clause-makes c).In-Some) c.in-Ok.effect _ _ c.in-Ok.ensures.ok.makes

pub returns-in-Ok-clause-fits : goal.returns-in-Ok-clause-fits
returns-in-Ok-clause-fits c = λ R f. c.in-Ok.ensures.ok.fits R (fetched_fits c.args.store.now c.args.self.now c.fetch.new.self c.in-Some.sort (gone (goal.at.returns-in-Ok-clause-fits c).In-Some) f)

pub returns-in-Ok-clause-grew : goal.returns-in-Ok-clause-grew
returns-in-Ok-clause-grew c = λ F. step_grew c.args.store.now c.args.self.now c.fetch.new.self c.in-Some.sort (gone (goal.at.returns-in-Ok-clause-grew c).In-Some) c.in-Ok.effect c.in-Ok.ensures.ok.grew F

pub returns-in_ok-effect-in-None-clause-grew : goal.returns-in_ok-effect-in-None-clause-grew
returns-in_ok-effect-in-None-clause-grew c = λ F. c.in_ok-effect-in-None.ensures.grew F ∙ ap (λ (v : View). growth_of c.args.store.now F (term_of c.args.store.now v)) c.in-None.ensures.1
