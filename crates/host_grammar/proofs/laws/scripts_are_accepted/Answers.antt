use Rattle.host_grammar.proofs.Main.{accepted_script, script_reached, one_script}
use Rattle.host_grammar.proofs.laws.scripts_are_accepted.Goals as goal

pub returns-clause-sound : goal.returns-clause-sound
returns-clause-sound c = accepted_script

pub returns-clause-complete : goal.returns-clause-complete
returns-clause-complete c = script_reached

pub returns-clause-one : goal.returns-clause-one
returns-clause-one c = one_script
