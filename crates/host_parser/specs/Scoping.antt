-- Private: what a map of names holds of an environment.
use Rattle.std.specs.Prelude.{◌≡◌, ℕ, List, [], ◌∷◌, ◌++◌, reverse}
use Rattle.std.specs.Cmp.Lexicographic.{slice_cmp}
use Rattle.std.specs.Ordering.{is_eq, nat_cmp}
use Rattle.std.specs.Map.{lookup}
use denote.Ref.{Bor}
use Rattle.host_nodes.specs.declared.form.Mention.{Mention}
use Rattle.host_parser.specs.declared.binding.Binding.{Binding}
use Rattle.host_parser.specs.declared.environment.Shadow.{Shadow}
use Rattle.host_parser.specs.declared.environment.Scoped as code_scoped
use Rattle.host_parser.specs.declared.resolve.Resolver.{Resolver}
use Rattle.host_parser.specs.Names.{Entry, Environment, found}
use Rattle.host_parser.specs.Resolving.{resolved}

-- the map gives for each name what these entries bind it to
abbrev pub IsMap : List (Bor (List ℕ) × Binding) → List Entry → Type 0
IsMap m es = (q : Bor (List ℕ)) → lookup (λ k. is_eq (slice_cmp nat_cmp q.now k.now)) m ≡ found q.now es

-- what each local shadows
abbrev pub AreShadows : List Entry → List Entry → List Shadow → Type 0
AreShadows gs [] [] = Unit {0}
AreShadows gs (e ∷ es) (s ∷ ss) = (s.name.now ≡ e.name) × (s.shadowed ≡ found e.name (es ++ gs)) × AreShadows gs es ss
AreShadows gs _ _ = ⊥

pub record Holds (e : Environment) (x : code_scoped.Scoped) : Type 0 where
  pub bound : IsMap x.bound.entries (e.locals ++ e.globals)
  pub shadows : AreShadows e.globals e.locals (reverse x.shadows.items)

-- what is left to resolve gives these bindings
pub record Leaves (x : Resolver) (ms : List Mention) (bs : List Binding) : Type 0 where
  pub environment : Environment
  pub holds : Holds environment x.scoped
  pub gives : resolved environment (reverse x.counts.items) ms (reverse x.bindings.items) ≡ bs
