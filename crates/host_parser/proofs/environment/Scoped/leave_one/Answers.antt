use Rattle.std.proofs.Common.{sym, ◌∙◌, ap, ◌++◌, ◌∷◌, []}
use Rattle.host_parser.proofs.Maps.{uncovered}
use Rattle.host_parser.proofs.environment.Scoped.leave_one.Goals as goal

pub returns-in_ok-uncover : goal.returns-in_ok-uncover
returns-in_ok-uncover c = λ e h. uncovered e c.args.self.now c.uncover.new.self c.in-Some.shadow (record { popped = c.in-Some.ensures.items ∙ ap (λ z. z ++ c.in-Some.shadow ∷ []) (sym (ap (λ v. v.items) c.in_ok-uncover.ensures.shadows)); map = c.in_ok-uncover.ensures.map }) h
