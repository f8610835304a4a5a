use Rattle.host_laws.proofs.LiveSteps.{answered_frames_are_live, frames_begin_live}
use Rattle.host_laws.proofs.laws.live_frames.Goals as goal

pub returns-clause-begun : goal.returns-clause-begun
returns-clause-begun c = frames_begin_live

pub returns-clause-answered : goal.returns-clause-answered
returns-clause-answered c = answered_frames_are_live
