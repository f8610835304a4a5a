use Rattle.host_laws.proofs.LiveSteps.{steps_stay_live}
use Rattle.host_laws.proofs.laws.steps_stay_live.Goals as goal

pub returns : goal.returns
returns c =
    steps_stay_live c.sound_calls.ensures.calls c.sound_calls.ensures.constructions c.sound_calls.ensures.member_calls c.sound_calls.ensures.pushes
