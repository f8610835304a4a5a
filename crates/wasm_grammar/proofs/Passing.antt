-- The loop that reads an expression.
use Rattle.std.proofs.Common.{◌≡◌, ℕ, suc, ◌+◌, ◌-◌, ◌<◌, ◌≤◌, Bool, true, false, ◌&&◌, List, [], ◌∷◌, length, reverse, Option, Some, None, refl, sym, ap, subst, ◌∙◌, ◌↔◌, IsTrue, arith}
use Rattle.std.proofs.lemmas.List.{length-reverse, nil_from_length}
use Rattle.wasm_grammar.specs.declared.built.Built.{Built}
use Rattle.wasm_grammar.specs.declared.blocks.Level.{Level}
use Rattle.wasm_grammar.specs.declared.tokens.Token.{Token}
use Rattle.wasm_grammar.specs.declared.tokens.Token.TheVariants as t
use Rattle.wasm_grammar.specs.declared.fault.ReadError.{ReadError}
use Rattle.wasm_grammar.specs.declared.fault.ReadError.TheVariants as errors
use Rattle.wasm_grammar.specs.Answers.{Refuses}
use Rattle.wasm_grammar.specs.Instructions.{token_in}
use Rattle.wasm_grammar.specs.Running.{State, step, with_built, is_last, begins_simd, cut_at, run}

opened : (e : Bool) (count i : ℕ) (lt : i < count) (s : State) (after : ℕ) (bytes : List ℕ) (total : Option (State × List ℕ)) → run e (count - i) s after bytes ≡ total → run e (suc (count - (i + 1))) s after bytes ≡ total
opened e count i lt s after bytes total so_far = let k : suc (count - (i + 1)) ≡ count - i = omega arith in rw k so_far

module _ (e : Bool) (count i : ℕ) (lt : i < count) (s : State) (after : ℕ) (bytes : List ℕ) (total : Option (State × List ℕ)) (so_far : run e (count - i) s after bytes ≡ total) (plain : (e && begins_simd bytes) ≡ false) where
  pub goes_on : (tok : Token) (b : Built) (mid : List ℕ) (s' : State) → token_in e s.built after bytes ≡ Some ((tok, b), mid) → is_last s.levels tok ≡ false → step (with_built s b) tok ≡ Some s' → run e (count - (i + 1)) s' after mid ≡ total
  unfolding run
  goes_on tok b mid s' h f g =
      let one : run e (suc (count - (i + 1))) s after bytes ≡ run e (count - (i + 1)) s' after mid = rw (plain, h, f, g) refl in
      sym one ∙ opened e count i lt s after bytes total so_far

  pub stops : (tok : Token) (b : Built) (mid : List ℕ) → token_in e s.built after bytes ≡ Some ((tok, b), mid) → is_last s.levels tok ≡ true → total ≡ Some (with_built s b, mid)
  unfolding run
  stops tok b mid h f =
      let one : run e (suc (count - (i + 1))) s after bytes ≡ Some (with_built s b, mid) = rw (plain, h, f) refl in
      sym (opened e count i lt s after bytes total so_far) ∙ one

  pub no_token : (error : ReadError) → Refuses error (token_in e s.built after bytes) → Refuses error total
  unfolding run
  no_token errors.NoMemory h = tt
  no_token errors.Malformed h =
      let one : run e (suc (count - (i + 1))) s after bytes ≡ None = rw (plain, h) refl in
      sym (opened e count i lt s after bytes total so_far) ∙ one

  pub no_step : (tok : Token) (b : Built) (mid : List ℕ) (error : ReadError) → token_in e s.built after bytes ≡ Some ((tok, b), mid) → is_last s.levels tok ≡ false → Refuses error (step (with_built s b) tok) → Refuses error total
  unfolding run
  no_step tok b mid errors.NoMemory h f g = tt
  no_step tok b mid errors.Malformed h f g =
      let one : run e (suc (count - (i + 1))) s after bytes ≡ None = rw (plain, h, f, g) refl in
      sym (opened e count i lt s after bytes total so_far) ∙ one

pub cuts : (e : Bool) (count i : ℕ) (lt : i < count) (s : State) (after : ℕ) (bytes : List ℕ) (total : Option (State × List ℕ)) → run e (count - i) s after bytes ≡ total → (e && begins_simd bytes) ≡ true → total ≡ Some (cut_at (after + length bytes) s.built, [])
unfolding run
cuts e count i lt s after bytes total so_far h =
    let one : run e (suc (count - (i + 1))) s after bytes ≡ Some (cut_at (after + length bytes) s.built, []) = rw h refl in
    sym (opened e count i lt s after bytes total so_far) ∙ one

pub run_out : (e : Bool) (count i : ℕ) (s : State) (after : ℕ) (bytes : List ℕ) (total : Option (State × List ℕ)) → count ≤ i → run e (count - i) s after bytes ≡ total → total ≡ None
unfolding run
run_out e count i s after bytes total le h =
    let k : count - i ≡ 0 = omega arith in
    let h' : run e 0 s after bytes ≡ total = subst (λ (m : ℕ). run e m s after bytes ≡ total) k h in
    sym h'

-- whether no block is open
empty_reversed : (ls : List Level) (b : Bool) → (b ≡ true → ls ≡ []) → (ls ≡ [] → b ≡ true) → b ≡ is_last ls t.End
empty_reversed [] b f g = g refl
empty_reversed (l ∷ ls) true f g = absurd (cc (f refl))
empty_reversed (l ∷ ls) false f g = refl

pub last_is : (ls : List Level) (b : Bool) → IsTrue b ↔ (ls ≡ []) → b ≡ is_last (reverse ls) t.End
last_is ls b h = empty_reversed (reverse ls) b (λ e. ap reverse (h.0 e)) (λ e. h.1 (nil_from_length ls (sym (length-reverse ls) ∙ ap length e)))
