use Rattle.std.specs.Prelude.{◌≡◌, ◌∷◌, ◌++◌, reverse, length}
use Rattle.std.proofs.Common.{sym, ◌∙◌, ap, subst}
use Rattle.std.proofs.lemmas.List.{length-reverse}
use Rattle.host_parser.specs.declared.binding.Binding.TheVariants as bindings
use Rattle.host_parser.specs.Names.{entry, local, found, is_constant}
use Rattle.host_parser.specs.Scoping.{IsMap}
use Rattle.host_parser.proofs.Maps.{map_more, shadows_more, shadows_length}
use Rattle.host_parser.proofs.environment.Scoped.declare.Goals as goal

pub returns : goal.returns
returns c = λ e h.
    let count : c.len.result ≡ length e.locals = c.len.ensures ∙ c.args.self.now.shadows.ok.0 ∙ sym (length-reverse c.args.self.now.shadows.items) ∙ shadows_length e.globals e.locals (reverse c.args.self.now.shadows.items) h.shadows in
    record {
      bound = subst (λ k. IsMap c.insert.new.self.entries (entry c.args.declared.now.name (bindings.Local (record { number = k; constant = is_constant c.args.declared.now.declares })) ∷ (e.locals ++ e.globals))) count
          (subst (λ k. IsMap c.insert.new.self.entries (entry c.args.declared.now.name (bindings.Local (record { number = c.len.result; constant = k })) ∷ (e.locals ++ e.globals))) c.is_constant.ensures
          (map_more c.args.self.now.bound.entries c.insert.new.self.entries c.as_str-name.result _ c.args.declared.now.name (e.locals ++ e.globals) c.as_str-name.ensures c.in_ok-shadowed.ensures.updates.0 h.bound));
      shadows = shadows_more e.globals e.locals c.args.self.now.shadows.items c.push.new.self.items _ (local (length e.locals) c.args.declared.now) c.in_ok-push.ensures.items c.as_str-name.ensures
          (c.in_ok-shadowed.ensures.old ∙ h.bound c.as_str-name.result ∙ ap (λ n. found n (e.locals ++ e.globals)) c.as_str-name.ensures) h.shadows;
    }
