-- Reading items one after the other, as a loop does.
use Rattle.std.proofs.Common.{◌≡◌, ℕ, suc, ◌-◌, ◌+◌, ◌≤◌, ◌<◌, List, [], ◌∷◌, ◌++◌, Option, Some, None, refl, sym, ap, ◌∙◌, append_assoc, arith}
use Rattle.std.proofs.lemmas.List.{append-nil}
use Rattle.wasm_grammar.specs.declared.fault.ReadError.{ReadError}
use Rattle.wasm_grammar.specs.declared.fault.ReadError.TheVariants as errors
use Rattle.wasm_grammar.specs.Answers.{Refuses}
use Rattle.wasm_grammar.specs.Reading.{◌>>=◌}
use Rattle.wasm_grammar.specs.Threads.{Reader, items_in}

-- the items that were read, before those that are still read
abbrev pub behind : {S B : Type 0} → List B → Option ((List B × S) × List ℕ) → Option ((List B × S) × List ℕ)
behind items told = told >>= λ x. Some ((items ++ x.0.0, x.0.1), x.1)

one_more : {S B : Type 0} (items : List B) (item : B) (told : Option ((List B × S) × List ℕ)) → behind items (told >>= λ x. Some ((item ∷ x.0.0, x.0.1), x.1)) ≡ behind (items ++ item ∷ []) told
one_more {S} {B} items item (Some x) = ap (λ (all : List B). Some ((all, x.0.1), x.1)) (simp append_assoc)
one_more items item None = refl

module _ {S B : Type 0} (read : Reader S B) (items : List B) (count i : ℕ) (s : S) (after : ℕ) (bytes : List ℕ) (total : Option ((List B × S) × List ℕ)) (so_far : behind items (items_in read (count - i) s after bytes) ≡ total) where
  pub next_item : i < count → (item : B) (then : S) (rest : List ℕ) → read s after bytes ≡ Some ((item, then), rest) → behind (items ++ item ∷ []) (items_in read (count - (i + 1)) then after rest) ≡ total
  unfolding items_in
  next_item lt item then rest e =
      let k : count - i ≡ suc (count - (i + 1)) = omega arith in
      let one : behind items (items_in read (count - i) s after bytes) ≡ behind (items ++ item ∷ []) (items_in read (count - (i + 1)) then after rest) = rw (k, e) (one_more items item (items_in read (count - (i + 1)) then after rest)) in
      sym one ∙ so_far

  pub no_item : i < count → (error : ReadError) → Refuses error (read s after bytes) → Refuses error total
  unfolding items_in
  no_item lt errors.NoMemory e = tt
  no_item lt errors.Malformed e =
      let k : count - i ≡ suc (count - (i + 1)) = omega arith in
      let one : behind items (items_in read (count - i) s after bytes) ≡ None = rw (k, e) refl in
      sym so_far ∙ one

  pub last_item : count ≤ i → total ≡ Some ((items, s), bytes)
  unfolding items_in
  last_item le =
      let k : count - i ≡ 0 = omega arith in
      let one : behind items (items_in read (count - i) s after bytes) ≡ Some ((items, s), bytes) = rw k (ap (λ (all : List B). Some ((all, s), bytes)) (append-nil items)) in
      sym so_far ∙ one
