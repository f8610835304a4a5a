-- The map of names after a declaration.
use Rattle.std.proofs.Common.{◌≡◌, ℕ, List, Option, Some, Bool, true, false, refl, sym, String, Global, string_bytes, ap, ◌∙◌, cond}
use Rattle.std.proofs.lemmas.Map.Text.{hash_map_updates_text}
use Rattle.std.specs.HashMap as hash
use Rattle.std.specs.Str.{bytes_eq}
use Rattle.std.specs.String.{string_eq}
use Rattle.std.specs.Option.{option_map}
use Rattle.embed_script.specs.declared.value.Bound.{Bound}
use Rattle.embed_script.specs.Evaluation.{Bindings}
use Rattle.embed_script.specs.Outcome.{bound}
use Rattle.embed_script.specs.Tasks.{Names, IsBoundAs, binding_of}

-- what a name is bound to
pub found : (b : Bindings) (names : Names) (name : List ℕ) (o : Option Bound) → IsBoundAs b names → o ≡ hash.get_by_text names name → b name ≡ option_map binding_of o
found b names name o is same = sym (is name) ∙ ap (λ x. option_map binding_of x) (sym same)

pub chosen : (t : Bool) (v : Bound) (o : Option Bound) → option_map binding_of (cond t (Some v) o) ≡ cond t (Some (binding_of v)) (option_map binding_of o)
chosen true v o = refl
chosen false v o = refl

pub bound_more : (b : Bindings) (old new : Names) (key : String Global) (name : List ℕ) (v : Bound) → IsBoundAs b old → string_bytes key ≡ name
    → hash.UpdatesBy string_eq (λ k. bytes_eq (string_bytes key) (string_bytes k)) old new (Some v) → IsBoundAs (bound b name (binding_of v)) new
bound_more b old new key name v is same updates = λ q.
    ap (λ o. option_map binding_of o) (hash_map_updates_text (string_bytes key) old new (Some v) updates q)
    ∙ chosen (bytes_eq (string_bytes key) q) v (hash.get_by_text old q)
    ∙ ap (λ r. cond (bytes_eq (string_bytes key) q) (Some (binding_of v)) r) (is q)
    ∙ ap (λ n. cond (bytes_eq n q) (Some (binding_of v)) (b q)) same
