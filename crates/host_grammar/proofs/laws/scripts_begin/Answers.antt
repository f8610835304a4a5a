use Rattle.std.proofs.Common.{[], sym, subst}
use Rattle.std.proofs.lemmas.List.{append-nil}
use Rattle.host_grammar.specs.Conditions.{IsScript}
use Rattle.host_grammar.proofs.laws.scripts_begin.Goals as goal

pub returns : goal.returns
returns c = λ tokens len s h. ([], s, subst (λ y. IsScript y s) (sym (append-nil _)) h.0)
