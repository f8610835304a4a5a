use Rattle.host_builtins.proofs.Soundness.{calls_sound, constructions_sound, member_calls_sound, pushes_sound}
use Rattle.host_builtins.proofs.laws.sound_calls.Goals as goal

pub returns-clause-calls : goal.returns-clause-calls
returns-clause-calls c = calls_sound c.adding.ensures.fresh c.adding.ensures.keeps_objects c.writing.ensures.keeps_kinds

pub returns-clause-constructions : goal.returns-clause-constructions
returns-clause-constructions c = constructions_sound c.adding.ensures.fresh c.adding.ensures.keeps_objects c.writing.ensures.keeps_kinds

pub returns-clause-member_calls : goal.returns-clause-member_calls
returns-clause-member_calls c = member_calls_sound c.adding.ensures.fresh c.adding.ensures.keeps_objects c.writing.ensures.keeps_kinds

pub returns-clause-pushes : goal.returns-clause-pushes
returns-clause-pushes c = pushes_sound c.adding.ensures.fresh c.adding.ensures.keeps_objects c.writing.ensures.keeps_kinds
