use Rattle.host_laws.proofs.WaitingSteps.{steps_wait, focus_is_of_frame}
use Rattle.host_laws.proofs.laws.steps_wait.Goals as goal

pub returns-clause-steps : goal.returns-clause-steps
returns-clause-steps c = steps_wait

pub returns-clause-focus : goal.returns-clause-focus
returns-clause-focus c = focus_is_of_frame
