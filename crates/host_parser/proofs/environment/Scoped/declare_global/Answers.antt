use Rattle.std.specs.Prelude.{◌∷◌}
use Rattle.std.proofs.Common.{subst}
use Rattle.host_parser.specs.declared.binding.Binding.TheVariants as bindings
use Rattle.host_parser.specs.Names.{entry}
use Rattle.host_parser.specs.Scoping.{IsMap}
use Rattle.host_parser.proofs.Maps.{map_more}
use Rattle.host_parser.proofs.environment.Scoped.declare_global.Goals as goal

pub returns-clause-map : goal.returns-clause-map
returns-clause-map c = λ es h. subst (λ k. IsMap c.insert.new.self.entries (entry c.args.declared.now.name (bindings.Global (record { number = c.args.number; constant = k })) ∷ es)) c.is_constant.ensures
    (map_more c.args.self.now.bound.entries c.insert.new.self.entries c.as_str.result _ c.args.declared.now.name es c.as_str.ensures c.in_ok-insert.ensures.updates.0 h)
