use Rattle.std.proofs.Common.{◌-◌}
use Rattle.wasm_machine.specs.View.{term_of}
use Rattle.wasm_calls.proofs.Steps.{same_code, step_leads, step_leaves}
use Rattle.wasm_calls.proofs.activations.Activations.step.Goals as goal

pub returns-clause-leads : goal.returns-clause-leads
returns-clause-leads c = step_leads c.args.store.now c.args.self.now c.in_ok-effect.effect c.step.new.store c.step.new.self c.args.needs c.requires.charge c.requires.enough c.in_ok-effect.ensures.makes

pub returns-clause-leaves : goal.returns-clause-leaves
returns-clause-leaves c =
    step_leaves c.frames_stay.ensures.waits c.args.store.now c.args.self.now c.in_ok-effect.effect c.step.new.store c.step.new.self (c.args.self.now.left - c.args.needs) c.in_ok-effect.ensures.later c.in_ok-effect.ensures.makes c.in_ok-effect.ensures.fits

pub returns-clause-code : goal.returns-clause-code
returns-clause-code c = same_code c.args.store.now (term_of c.args.store.now c.args.self.now.top) c.in_ok-effect.effect c.step.new.store c.step.new.self c.in_ok-effect.ensures.makes
