use Rattle.host_values.proofs.LawLemmas.{binding_keeps_objects, writing_keeps_kinds, writing_keeps_others}
use Rattle.host_values.proofs.laws.writing.Goals as goal

pub returns-clause-keeps_kinds : goal.returns-clause-keeps_kinds
returns-clause-keeps_kinds c = writing_keeps_kinds

pub returns-clause-keeps_others : goal.returns-clause-keeps_others
returns-clause-keeps_others c = writing_keeps_others

pub returns-clause-bindings_apart : goal.returns-clause-bindings_apart
returns-clause-bindings_apart c = binding_keeps_objects
