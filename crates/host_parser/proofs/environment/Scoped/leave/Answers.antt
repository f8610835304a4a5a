use Rattle.std.proofs.Common.{sym, subst}
use Rattle.host_parser.specs.Scoping.{Holds}
use Rattle.host_parser.specs.Resolving.{left}
use Rattle.host_parser.proofs.Maps.{left_more}
use Rattle.host_parser.proofs.environment.Scoped.leave.Goals as goal

pub loop-preserved : goal.loop-preserved
loop-preserved c = λ e h. subst (λ z. Holds z c.leave_one.new.self) (sym (left_more c.loop.counter e)) (c.in_ok-leave_one.ensures (left c.loop.counter e) (c.loop.invariant e h))
