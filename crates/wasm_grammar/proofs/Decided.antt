-- What a decoder tells of bytes, by what is read of them.
use Rattle.std.proofs.Common.{◌≡◌, ℕ, List, Option, Some, None, refl, sym, ap, subst, ◌∙◌}
use Rattle.std.specs.Prelude.{IfSome}
use Rattle.wasm_syntax.specs.declared.module.Module.{Module}
use Rattle.wasm_grammar.specs.declared.built.Foreign.{Foreign}
use Rattle.wasm_grammar.specs.declared.built.Leaf.{Leaf}
use Rattle.wasm_grammar.specs.declared.built.Built.{Built}
use Rattle.wasm_grammar.specs.declared.held.Parts.{Parts}
use Rattle.wasm_grammar.specs.Module.{ModuleTree, make_parts, module_with, Spells, module_in}
use Rattle.wasm_grammar.specs.Decoding.{Decoded, module_is, malformed, outside, Decodes, by_leaf, read_as}
use Rattle.wasm_grammar.proofs.Steps.{none_some}
use Rattle.wasm_grammar.proofs.Whole.{module_takes, module_again}

first_found : (bytes : List ℕ) (p : Parts) (b : Built) (first : Option Leaf) (tree : ModuleTree) → Spells bytes tree → (p, b) ≡ make_parts tree → b.first ≡ first → Decodes bytes (by_leaf bytes p b first)
first_found bytes p b None tree is made e = (tree, is, ap (λ (z : Parts × Built). z.1.first) (sym made) ∙ e, ap (λ (z : Parts × Built). module_with z.0 z.1.blocks) made)
first_found bytes p b (Some leaf) tree is made e = (tree, is, leaf, ap (λ (z : Parts × Built). z.1.first) (sym made) ∙ e, refl, refl)

read_found : (bytes : List ℕ) (r : Option (Parts × Built)) → module_in bytes ≡ r → Decodes bytes (read_as bytes r)
read_found bytes None e = λ tree is. none_some (make_parts tree) (sym e ∙ module_again bytes tree is)
read_found bytes (Some x) e = let t = module_takes bytes x e in first_found bytes x.0 x.1 x.1.first t.tree t.spelled t.made refl

-- what is read decodes the bytes
pub read_decodes : (bytes : List ℕ) → Decodes bytes (read_as bytes (module_in bytes))
read_decodes bytes = read_found bytes (module_in bytes) refl

is_read : (bytes : List ℕ) (tree : ModuleTree) → Spells bytes tree → read_as bytes (module_in bytes) ≡ read_as bytes (Some (make_parts tree))
is_read bytes tree is = ap (read_as bytes) (module_again bytes tree is)

not_read : (bytes : List ℕ) (r : Option (Parts × Built)) → module_in bytes ≡ r → ((tree : ModuleTree) → Spells bytes tree → ⊥) → read_as bytes r ≡ malformed
not_read bytes None e h = refl
not_read bytes (Some x) e h = let t = module_takes bytes x e in absurd (h t.tree t.spelled)

-- and nothing else does
pub decodes_read : (bytes : List ℕ) (d : Decoded) → Decodes bytes d → read_as bytes (module_in bytes) ≡ d
decodes_read bytes (module_is m) p =
    is_read bytes p.0 p.1 ∙ ap (by_leaf bytes (make_parts p.0).0 (make_parts p.0).1) p.2 ∙ ap (λ (n : Module). module_is n) (sym p.3)
decodes_read bytes malformed p = not_read bytes (module_in bytes) refl p
decodes_read bytes (outside place what) p =
    is_read bytes p.0 p.1 ∙ ap (by_leaf bytes (make_parts p.0).0 (make_parts p.0).1) p.3 ∙ ap (λ (k : ℕ). outside k p.2.what) (sym p.4) ∙ ap (λ (w : Foreign). outside place w) (sym p.5)

-- an answer that tells this is exact
pub exactly : (bytes : List ℕ) (answer : Option Decoded) → IfSome answer (λ d. d ≡ read_as bytes (module_in bytes)) → IfSome answer (Decodes bytes)
exactly bytes None h = tt
exactly bytes (Some d) h = subst (Decodes bytes) (sym h) (read_decodes bytes)

pub alone : (bytes : List ℕ) (answer : Option Decoded) → IfSome answer (λ d. d ≡ read_as bytes (module_in bytes)) → (d : Decoded) → Decodes bytes d → IfSome answer (λ a. a ≡ d)
alone bytes None h d p = tt
alone bytes (Some a) h d p = h ∙ decodes_read bytes d p
