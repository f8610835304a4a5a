-- The instructions that the opcodes of plain tokens choose hold no blocks.
use Rattle.std.proofs.Common.{◌≡◌, ℕ, Bool, true, false, cond, eqb, ltb, not, ◌&&◌, List, [], ◌∷◌, refl, sym, subst, rules}
use Rattle.wasm_syntax.specs.declared.types.ValType.{ValType}
use Rattle.wasm_syntax.specs.declared.instructions.MemArg.{MemArg}
use Rattle.wasm_syntax.specs.declared.instructions.Instr.{Instr}
use Rattle.wasm_syntax.specs.declared.instructions.Instr.TheVariants as i
use Rattle.wasm_syntax.specs.Numbering.{nested_in}
use Rattle.wasm_grammar.specs.declared.built.Foreign.TheVariants as w
use Rattle.wasm_grammar.specs.Forms.{Items}
use Rattle.wasm_grammar.specs.Leaves.{leaf_before}
use Rattle.wasm_grammar.specs.Opcodes.{Shape, unknown, alone, one_index, indices, access, word, wide_word, reference, labels, result_types, zero, two_zeros, data_index, data_zero, begins_block, begins_loop, begins_if, goes_on, ends, float_bytes, float_access, float_leaf, rows, bulk_rows, shape_in, is_float, shape_of, bulk_shape, prefixed_shape}
use Rattle.wasm_grammar.specs.Instructions.{TokenTree, IsShaped, IsVectorConstant, IsToken}
use Rattle.wasm_grammar.specs.Instructions as u
use Rattle.wasm_grammar.specs.Code.{plain_token, Code, done, plain, block, loop, choice, choice_one, tokens}

abbrev pub IsFlat : Instr → Type 0
IsFlat x = nested_in x ≡ []

abbrev pub FlatShape : Shape → Type 0
FlatShape (alone x) = IsFlat x
FlatShape (one_index f) = (n : ℕ) → IsFlat (f n)
FlatShape (indices f) = (n k : ℕ) → IsFlat (f n k)
FlatShape (access f) = (m : MemArg) → IsFlat (f m)
FlatShape (word f) = (n : ℕ) → IsFlat (f n)
FlatShape (wide_word f) = (n : ℕ) → IsFlat (f n)
FlatShape (reference f) = (t : ValType) → IsFlat (f t)
FlatShape (labels f) = (ls : List ℕ) (n : ℕ) → IsFlat (f ls n)
FlatShape (zero x) = IsFlat x
FlatShape (two_zeros x) = IsFlat x
FlatShape (data_index f) = (n : ℕ) → IsFlat (f n)
FlatShape (data_zero f) = (n : ℕ) → IsFlat (f n)
FlatShape _ = Unit {0}

-- the same as records, so that a row of the table is found by its form
record ShapeFlat (sh : Shape) : Type 0 where
  pub flat : FlatShape sh

-- a row of the table, or what stands below it
either : (c : Bool) (x y : Shape) → FlatShape x → ShapeFlat y → ShapeFlat (cond c x y)
either true x y f g = record { flat = f }
either false x y f g = g

-- each row of a table
abbrev FlatRows : List (ℕ × Shape) → Type 0
FlatRows [] = Unit {0}
FlatRows (row ∷ table) = FlatShape row.1 × FlatRows table

found_flat : (table : List (ℕ × Shape)) → FlatRows table → (b : ℕ) → ShapeFlat (shape_in table b)
found_flat [] h b = record { flat = tt }
found_flat (row ∷ table) h b = either (eqb b row.0) row.1 (shape_in table b) h.0 (found_flat table h.1 b)

rows_flat : FlatRows rows
unfolding rows
rows_flat = search rules

bulk_rows_flat : FlatRows bulk_rows
bulk_rows_flat = search rules

shape_of_flat : (b : ℕ) → ShapeFlat (shape_of b)
unfolding shape_of
shape_of_flat b = either (is_float b) (float_bytes 0) _ tt (found_flat rows rows_flat b)

bulk_shape_flat : (n : ℕ) → ShapeFlat (bulk_shape n)
unfolding bulk_shape
bulk_shape_flat n = found_flat bulk_rows bulk_rows_flat n

prefixed_flat : (left n : ℕ) → ShapeFlat (prefixed_shape left n)
unfolding prefixed_shape
prefixed_flat left n = either (ltb n 8) (float_leaf (leaf_before left w.Float)) _ tt (bulk_shape_flat n)

-- ---- tokens

abbrev pub FlatToken : TokenTree → Type 0
FlatToken (u.plain x) = IsFlat x
FlatToken (u.data_access x) = IsFlat x
FlatToken _ = Unit {0}

shaped_flat : (sh : Shape) (after : ℕ) (bytes : List ℕ) (t : TokenTree) → FlatShape sh → IsShaped sh after bytes t → FlatToken t
shaped_flat unknown after bytes t f p = absurd p
shaped_flat (alone x) after bytes t f p = subst FlatToken (sym p.1) f
shaped_flat (one_index g) after bytes t f p = subst FlatToken (sym p.is_made) (f p.of)
shaped_flat (indices g) after bytes t f p = subst FlatToken (sym p.is_made) (f p.of.0 p.of.1)
shaped_flat (access g) after bytes t f p = subst FlatToken (sym p.is_made) (f p.of)
shaped_flat (word g) after bytes t f p = subst FlatToken (sym p.is_made) (f p.of)
shaped_flat (wide_word g) after bytes t f p = subst FlatToken (sym p.is_made) (f p.of)
shaped_flat (reference g) after bytes t f p = subst FlatToken (sym p.is_made) (f p.of)
shaped_flat (labels g) after bytes t f p = subst FlatToken (sym p.is_made) (f p.of.0 p.of.1)
shaped_flat result_types after bytes t f p = subst FlatToken (sym p.is_made) tt
shaped_flat (zero x) after bytes t f p = subst FlatToken (sym p.is_made) f
shaped_flat (two_zeros x) after bytes t f p = subst FlatToken (sym p.is_made) f
shaped_flat (data_index g) after bytes t f p = subst FlatToken (sym p.is_made) (f p.of)
shaped_flat (data_zero g) after bytes t f p = subst FlatToken (sym p.is_made) (f p.of.0)
shaped_flat begins_block after bytes t f p = subst FlatToken (sym p.is_made) tt
shaped_flat begins_loop after bytes t f p = subst FlatToken (sym p.is_made) tt
shaped_flat begins_if after bytes t f p = subst FlatToken (sym p.is_made) tt
shaped_flat goes_on after bytes t f p = subst FlatToken (sym p.1) tt
shaped_flat ends after bytes t f p = subst FlatToken (sym p.1) tt
shaped_flat (float_bytes n) after bytes t f p = subst FlatToken (sym p.is_made) tt
shaped_flat float_access after bytes t f p = subst FlatToken (sym p.is_made) tt
shaped_flat (float_leaf l) after bytes t f p = subst FlatToken (sym p.1) tt

by_test : (c : Bool) (P Q R : Type 0) → (P → R) → (Q → R) → cond c P Q → R
by_test true P Q R f g p = f p
by_test false P Q R f g p = g p

token_flat : (e : Bool) (after : ℕ) (bytes : List ℕ) (t : TokenTree) → IsToken e after bytes t → FlatToken t
token_flat e after [] t p = absurd p
token_flat e after (b ∷ bytes) t p =
    by_test (eqb b 252) _ _ (FlatToken t) (λ q. shaped_flat _ _ _ t (prefixed_flat _ q.number).flat q.chosen) (
    by_test (eqb b 253 && not e) _ _ (FlatToken t) (λ q. subst FlatToken (sym q.is_made) tt) (
    shaped_flat (shape_of b) after bytes t (shape_of_flat b).flat)) p

-- ---- code

abbrev AllFlat : List TokenTree → Type 0
AllFlat [] = Unit {0}
AllFlat (t ∷ ts) = FlatToken t × AllFlat ts

items_flat : (e : Bool) (after : ℕ) (bytes : List ℕ) (ts : List TokenTree) → Items (IsToken e) after bytes ts → AllFlat ts
items_flat e after bytes [] p = tt
items_flat e after bytes (t ∷ ts) p = (token_flat e _ p.0 t p.3, items_flat e after p.1 ts p.4)

abbrev pub FlatCode : Code → Type 0
FlatCode done = Unit {0}
FlatCode (plain x c) = FlatToken (plain_token x) × FlatCode c
FlatCode (block tree body c) = FlatCode body × FlatCode c
FlatCode (loop tree body c) = FlatCode body × FlatCode c
FlatCode (choice tree one two c) = FlatCode one × FlatCode two × FlatCode c
FlatCode (choice_one tree one c) = FlatCode one × FlatCode c

tokens_flat : (c : Code) (ts : List TokenTree) → AllFlat (tokens c ts) → FlatCode c × AllFlat ts
tokens_flat done ts h = (tt, h)
tokens_flat (plain x c) ts h = let r = tokens_flat c ts h.1 in ((h.0, r.0), r.1)
tokens_flat (block tree body c) ts h = let b = tokens_flat body (u.end_of ∷ tokens c ts) h.1 in let r = tokens_flat c ts b.1.1 in ((b.0, r.0), r.1)
tokens_flat (loop tree body c) ts h = let b = tokens_flat body (u.end_of ∷ tokens c ts) h.1 in let r = tokens_flat c ts b.1.1 in ((b.0, r.0), r.1)
tokens_flat (choice tree one two c) ts h =
    let a = tokens_flat one (u.otherwise ∷ tokens two (u.end_of ∷ tokens c ts)) h.1 in
    let b = tokens_flat two (u.end_of ∷ tokens c ts) a.1.1 in
    let r = tokens_flat c ts b.1.1 in
    ((a.0, b.0, r.0), r.1)
tokens_flat (choice_one tree one c) ts h = let b = tokens_flat one (u.end_of ∷ tokens c ts) h.1 in let r = tokens_flat c ts b.1.1 in ((b.0, r.0), r.1)

pub code_flat : (e : Bool) (after : ℕ) (bytes : List ℕ) (c : Code) → Items (IsToken e) after bytes (tokens c (u.end_of ∷ [])) → FlatCode c
code_flat e after bytes c p = (tokens_flat c (u.end_of ∷ []) (items_flat e after bytes _ p)).0
