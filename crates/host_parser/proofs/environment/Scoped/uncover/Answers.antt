use Rattle.std.proofs.Common.{sym, ◌∙◌, refl}
use Rattle.host_parser.proofs.Maps.{map_less}
use Rattle.host_parser.proofs.environment.Scoped.uncover.Goals as goal

pub returns-in_ok-insert-in-Some-clause-map : goal.returns-in_ok-insert-in-Some-clause-map
returns-in_ok-insert-in-Some-clause-map c = λ es b f h. map_less c.args.self.now.bound.entries c.insert.new.self.entries c.args.name b _ c.args.name.now es refl c.in_ok-insert-in-Some.ensures.updates.0 (sym c.in-Some.is ∙ f) h

pub returns-in-None-clause-map : goal.returns-in-None-clause-map
returns-in-None-clause-map c = λ es b f h. map_less c.args.self.now.bound.entries c.remove.new.self.entries c.args.name b _ c.args.name.now es refl c.remove.ensures.updates.0 (sym c.in-None.is ∙ f) h
