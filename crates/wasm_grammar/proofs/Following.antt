-- The loop that reads sections in their order.
use Rattle.std.proofs.Common.{◌≡◌, ℕ, suc, ◌+◌, ◌-◌, ◌<◌, ◌≤◌, true, false, List, [], ◌∷◌, length, Option, Some, None, refl, sym, subst, ◌∙◌, arith}
use Rattle.std.proofs.lemmas.List.{nil_from_length}
use Rattle.wasm_grammar.specs.declared.built.Built.{Built}
use Rattle.wasm_grammar.specs.declared.held.Held.{Held}
use Rattle.wasm_grammar.specs.declared.held.Parts.{Parts}
use Rattle.wasm_grammar.specs.declared.fault.ReadError.{ReadError}
use Rattle.wasm_grammar.specs.declared.fault.ReadError.TheVariants as errors
use Rattle.wasm_grammar.specs.Answers.{Refuses}
use Rattle.wasm_grammar.specs.Reading.{◌>>=◌}
use Rattle.wasm_grammar.specs.Sections.{may_follow, last_of, section_in, held_place, all_in}
use Rattle.wasm_grammar.specs.Module.{hold, held_of}

held_more : (p : Parts) (last : ℕ) (h : Held) (r : Option (List Held × Built)) → may_follow last (held_place h) ≡ true → held_of p last (r >>= λ xs. Some (h ∷ xs.0, xs.1)) ≡ held_of (hold p h) (last_of last (held_place h)) r
held_more p last h None e = refl
held_more p last h (Some x) e = rw e refl

held_not : (p : Parts) (last : ℕ) (h : Held) (r : Option (List Held × Built)) → may_follow last (held_place h) ≡ false → held_of p last (r >>= λ xs. Some (h ∷ xs.0, xs.1)) ≡ None
held_not p last h None e = refl
held_not p last h (Some x) e = rw e refl

module _ (p : Parts) (count i last : ℕ) (s : Built) (b : ℕ) (bs : List ℕ) (total : Option (Parts × Built)) (lt : i < count) (so_far : held_of p last (all_in section_in (count - i) s 0 (b ∷ bs)) ≡ total) where
  opened : held_of p last (all_in section_in (suc (count - (i + 1))) s 0 (b ∷ bs)) ≡ total
  opened = let k : suc (count - (i + 1)) ≡ count - i = omega arith in rw k so_far

  next_section : (h : Held) (t : Built) (rest : List ℕ) → section_in s 0 (b ∷ bs) ≡ Some ((h, t), rest) → may_follow last (held_place h) ≡ true → held_of (hold p h) (last_of last (held_place h)) (all_in section_in (count - (i + 1)) t 0 rest) ≡ total
  unfolding all_in
  next_section h t rest e f =
      let one : held_of p last (all_in section_in (suc (count - (i + 1))) s 0 (b ∷ bs)) ≡ held_of (hold p h) (last_of last (held_place h)) (all_in section_in (count - (i + 1)) t 0 rest) = rw e (held_more p last h (all_in section_in (count - (i + 1)) t 0 rest) f) in
      sym one ∙ opened

  out_of_order : (h : Held) (t : Built) (rest : List ℕ) → section_in s 0 (b ∷ bs) ≡ Some ((h, t), rest) → may_follow last (held_place h) ≡ false → total ≡ None
  unfolding all_in
  out_of_order h t rest e f =
      let one : held_of p last (all_in section_in (suc (count - (i + 1))) s 0 (b ∷ bs)) ≡ None = rw e (held_not p last h (all_in section_in (count - (i + 1)) t 0 rest) f) in
      sym opened ∙ one

  no_section : (error : ReadError) → Refuses error (section_in s 0 (b ∷ bs)) → Refuses error total
  unfolding all_in
  no_section errors.NoMemory h = tt
  no_section errors.Malformed h =
      let one : held_of p last (all_in section_in (suc (count - (i + 1))) s 0 (b ∷ bs)) ≡ None = rw h refl in
      sym opened ∙ one

no_fuel : (p : Parts) (last : ℕ) (s : Built) (bytes : List ℕ) → 0 < length bytes → held_of p last (all_in section_in 0 s 0 bytes) ≡ None
unfolding all_in
no_fuel p last s [] h = absurd (omega arith)
no_fuel p last s (b ∷ bs) h = refl

module _ (p : Parts) (count i last : ℕ) (s : Built) (bytes : List ℕ) (total : Option (Parts × Built)) (so_far : held_of p last (all_in section_in (count - i) s 0 bytes) ≡ total) where
  pub next_of : i < count → 0 < length bytes → (h : Held) (t : Built) (rest : List ℕ) → section_in s 0 bytes ≡ Some ((h, t), rest) → may_follow last (held_place h) ≡ true → held_of (hold p h) (last_of last (held_place h)) (all_in section_in (count - (i + 1)) t 0 rest) ≡ total
  next_of lt some h t rest e f = elim bytes as (λ (w : List ℕ). 0 < length w → held_of p last (all_in section_in (count - i) s 0 w) ≡ total → section_in s 0 w ≡ Some ((h, t), rest) → held_of (hold p h) (last_of last (held_place h)) (all_in section_in (count - (i + 1)) t 0 rest) ≡ total) [
    | [] ↦ λ l g e. absurd (omega arith)
    | b ∷ bs ↦ λ l g e. next_section p count i last s b bs total lt g h t rest e f
  ] some so_far e

  pub not_of : i < count → 0 < length bytes → (h : Held) (t : Built) (rest : List ℕ) → section_in s 0 bytes ≡ Some ((h, t), rest) → may_follow last (held_place h) ≡ false → total ≡ None
  not_of lt some h t rest e f = elim bytes as (λ (w : List ℕ). 0 < length w → held_of p last (all_in section_in (count - i) s 0 w) ≡ total → section_in s 0 w ≡ Some ((h, t), rest) → total ≡ None) [
    | [] ↦ λ l g e. absurd (omega arith)
    | b ∷ bs ↦ λ l g e. out_of_order p count i last s b bs total lt g h t rest e f
  ] some so_far e

  pub no_of : i < count → 0 < length bytes → (error : ReadError) → Refuses error (section_in s 0 bytes) → Refuses error total
  no_of lt some error e = elim bytes as (λ (w : List ℕ). 0 < length w → held_of p last (all_in section_in (count - i) s 0 w) ≡ total → Refuses error (section_in s 0 w) → Refuses error total) [
    | [] ↦ λ l g e. absurd (omega arith)
    | b ∷ bs ↦ λ l g e. no_section p count i last s b bs total lt g error e
  ] some so_far e

  pub all_of : length bytes ≡ 0 → total ≡ Some (p, s)
  unfolding all_in
  all_of none =
      let nil : bytes ≡ [] = nil_from_length bytes none in
      let f : held_of p last (all_in section_in (count - i) s 0 []) ≡ total = subst (λ (w : List ℕ). held_of p last (all_in section_in (count - i) s 0 w) ≡ total) nil so_far in
      sym f

  pub too_many : count ≤ i → 0 < length bytes → total ≡ None
  too_many le some =
      let k : count - i ≡ 0 = omega arith in
      let f : held_of p last (all_in section_in 0 s 0 bytes) ≡ total = subst (λ (n : ℕ). held_of p last (all_in section_in n s 0 bytes) ≡ total) k so_far in
      sym f ∙ no_fuel p last s bytes some
