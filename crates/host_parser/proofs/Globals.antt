-- The names of a script's scope are numbered one after the other.
use Rattle.std.specs.Prelude.{◌≡◌, ℕ, List, [], ◌∷◌, reverse}
use Rattle.std.proofs.Common.{sym, ◌∙◌, ap, subst}
use Rattle.host_nodes.specs.declared.form.Declared.{Declared}
use Rattle.host_parser.specs.declared.environment.Scoped.{Scoped}
use Rattle.host_parser.specs.Names.{Entry, global, global_at, global_entries, function_count, next_function, next_variable, script_environment}
use Rattle.host_parser.specs.Scoping.{IsMap, AreShadows, Holds}

-- what is left to number gives the names of the scope
pub record Numbers (ds : List Declared) (x : Scoped) (rest : List Declared) (f v : ℕ) : Type 0 where
  pub entries : List Entry
  pub map : IsMap x.bound.entries entries
  pub shadows : x.shadows.items ≡ []
  pub left : global_entries f v rest entries ≡ global_entries 0 (function_count ds) ds []

pub numbers_first : (ds : List Declared) (x : Scoped) (v : ℕ) → v ≡ function_count ds → IsMap x.bound.entries [] → x.shadows.items ≡ [] → Numbers ds x ds 0 v
numbers_first ds x v e m s = record { entries = []; map = m; shadows = s; left = ap (λ k. global_entries 0 k ds []) e }

pub numbers_more : (ds : List Declared) (x y : Scoped) (d : Declared) (rest : List Declared) (f v n : ℕ) → n ≡ global_at d.declares f v
    → ((es : List Entry) → IsMap x.bound.entries es → IsMap y.bound.entries (global n d ∷ es)) → y.shadows ≡ x.shadows → Numbers ds x (d ∷ rest) f v
    → Numbers ds y rest (next_function d.declares f) (next_variable d.declares v)
numbers_more ds x y d rest f v n e m s k = record {
  entries = global n d ∷ k.entries;
  map = m k.entries k.map;
  shadows = ap (λ z. z.items) s ∙ k.shadows;
  left = ap (λ i. global_entries (next_function d.declares f) (next_variable d.declares v) rest (global i d ∷ k.entries)) e ∙ k.left;
}

pub numbered : (ds : List Declared) (x : Scoped) (f v : ℕ) → Numbers ds x [] f v → Holds (script_environment ds) x
numbered ds x f v k = record { bound = subst (λ es. IsMap x.bound.entries es) k.left k.map; shadows = subst (λ z. AreShadows (global_entries 0 (function_count ds) ds []) [] z) (sym (ap reverse k.shadows)) tt }
