use Rattle.std.proofs.Common.{sym, ◌∙◌, ap}
use Rattle.host_states.specs.Moves as spec
use Rattle.host_states.proofs.Simulates.{whole_sim}
use Rattle.host_states.proofs.reader.Reader.is_whole.Goals as goal

pub returns : goal.returns
returns c = λ s h. c.ends.ensures ∙ ap spec.is_whole (sym h) ∙ whole_sim s
