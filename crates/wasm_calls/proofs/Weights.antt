-- A rewriting keeps the modules, instances and functions of the store, and makes a term lighter but for its charge.
use Rattle.std.proofs.Common.{◌≡◌, ℕ, zero, suc, ◌+◌, ◌*◌, ◌≤◌, ◌<◌, List, [], ◌∷◌, refl, sym, subst, arith, Option, Some, None, true, false, cond, length}
use Rattle.std.specs.Prelude.{◌==◌}
use Rattle.wasm_syntax.specs.declared.value.Value.{Value}
use Rattle.wasm_syntax.specs.declared.instructions.Instr.{Instr}
use Rattle.wasm_syntax.specs.declared.sorts.Sort.{Sort}
use Rattle.wasm_syntax.specs.declared.sorts.Sort.TheVariants as sort
use Rattle.wasm_syntax.specs.Sorts.{sort_of}
use Rattle.wasm_store.specs.Store.{Store}
use Rattle.wasm_machine.specs.Terms.{FrameState, Kind, label, frame, Level, Term, here, invoke, trap, throw, inside, with_form}
use Rattle.wasm_machine.specs.Charges.{charge_by, charge_in, charge_of}
use Rattle.wasm_machine.specs.Reduction.{Act, goes, branches, returns, cannot, act, Does, asks, rewrites, gives, breaks, leaves, calls, traps, throws, stuck, under, renewed, gives_some, breaks_from, leaves_from, ends_from, acted, ended, next_in, in_level, reduce, topmost}
use Rattle.wasm_calls.specs.Calls.{weight}
use Rattle.wasm_store.specs.Whole.{HasSameCode}
use Rattle.wasm_calls.proofs.Keeping.{same, IsGentle, gentle}

pub record IsLighter (s r : Store) (t u : Term) : Type 0 where
  pub code : HasSameCode s r
  pub less : weight u < weight t + 4 * charge_of t

-- what is shown of each thing that a term does
abbrev pub IsFine : Store → Term → Does → Type 0
IsFine s t asks = t ≡ here
IsFine s t (rewrites r G u) = IsLighter s r t u
IsFine s t (gives vs is) = 0 < weight t + 4 * charge_of t
IsFine s t (calls a args) = (u : Term) → weight (with_form u t) + 3 ≡ weight t + weight u
IsFine s t (breaks l vs) = Unit {0}
IsFine s t (leaves vs) = Unit {0}
IsFine s t (traps cause) = Unit {0}
IsFine s t (throws v) = Unit {0}
IsFine s t stuck = Unit {0}

-- each instruction takes a unit
charge_some : (k : Sort) (vs : List Value) → 1 ≤ charge_by k vs
charge_some (sort.Simple p) vs = omega arith
charge_some _ vs = omega arith

charge_under : (t : Term) (vs : List Value) (is : List Instr) → charge_of t ≤ charge_in vs is t
charge_under here vs is = omega arith
charge_under (invoke a args) vs is = omega arith
charge_under (trap cause) vs is = omega arith
charge_under (throw v) vs is = omega arith
charge_under (inside l t) vs is = omega arith

module _ (s : Store) where
  fine_some : (l : Level) (t : Term) (o : Option (List Value)) (is : List Instr) → IsFine s (inside l t) (gives_some o is)
  fine_some l t None is = tt
  fine_some l t (Some vs) is = omega arith

  fine_breaks : (l : Level) (t : Term) (k : Kind) (j : ℕ) (vs : List Value) → IsFine s (inside l t) (breaks_from k j vs)
  fine_breaks l t (label n next) zero vs = fine_some l t (topmost n vs) next
  fine_breaks l t (label n next) (suc j) vs = tt
  fine_breaks l t (frame n G) j vs = tt

  fine_leaves : (l : Level) (t : Term) (k : Kind) (vs : List Value) → IsFine s (inside l t) (leaves_from k vs)
  fine_leaves l t (label n next) vs = tt
  fine_leaves l t (frame n G) vs = fine_some l t (topmost n vs) []

  fine_renewed : (l : Level) (t : Term) (k : Kind) (F : FrameState) (r : Store) (G : FrameState) (vs : List Value) (u : Term) (is : List Instr)
      → HasSameCode s r → suc (weight u) < weight (inside l t) + 4 * charge_of (inside l t) → IsFine s (inside l t) (renewed k F r G vs u is)
  fine_renewed l t (label n next) F r G vs u is c h = record { code = c; less = h }
  fine_renewed l t (frame n old) F r G vs u is c h = record { code = c; less = h }

  fine_ended : (l : Level) (k : Kind) (vs : List Value) → IsFine s (inside l here) (ended k vs)
  fine_ended l (label n next) vs = omega arith
  fine_ended l (frame n G) vs = elim (length vs == n) as (λ b. IsFine s (inside l here) (cond b (gives vs []) stuck)) [ true ↦ omega arith | false ↦ tt ]

  fine_acted : (l : Level) (F : FrameState) (is : List Instr) (a : Act) → IsGentle s a → 1 ≤ charge_of (inside l here) → IsFine s (inside l here) (acted l.kind F is a)
  fine_acted l F is (goes r G vs form) g c = fine_renewed l here l.kind F r _ vs form is g.0 (omega (arith, g.1, c))
  fine_acted l F is (branches j vs) g c = fine_breaks l here l.kind j vs
  fine_acted l F is (returns vs) g c = fine_leaves l here l.kind vs
  fine_acted l F is cannot g c = tt

  fine_next : (k : Kind) (F : FrameState) (vs : List Value) (is : List Instr) → IsFine s (inside (record { kind = k; values = vs; rest = is }) here) (next_in s k F vs is)
  fine_next k F vs [] = fine_ended _ k vs
  fine_next k F vs (i ∷ is) = fine_acted (record { kind = k; values = vs; rest = i ∷ is }) F is (act s (under k F) i vs) (gentle s (under k F) i vs) (charge_some (sort_of i) vs)

  fine_ends : (l : Level) (t : Term) (k : Kind) (F : FrameState) (u : Term) (d : Does) → weight u ≡ 0 → IsFine s (inside l t) d → IsFine s (inside l t) (ends_from k s F u d)
  fine_ends l t (label n next) F u d e h = h
  fine_ends l t (frame n G) F u d e h = record { code = same s; less = omega (arith, e) }

  fine_level : (F : FrameState) (l : Level) (t : Term) (d : Does) → IsFine s t d → IsFine s (inside l t) (in_level s F l d)
  fine_level F l t asks h = subst (λ (u : Term). IsFine s (inside l u) (in_level s F l asks)) (sym h) (fine_next l.kind F l.values l.rest)
  fine_level F l t (rewrites r G u) h = fine_renewed l t l.kind F r G l.values u l.rest h.code (omega (arith, h.less, charge_under t l.values l.rest))
  fine_level F l t (gives vs is) h = fine_renewed l t l.kind F s _ _ here _ (same s) (omega (arith, h, charge_under t l.values l.rest))
  fine_level F l t (breaks j vs) h = fine_breaks l t l.kind j vs
  fine_level F l t (leaves vs) h = fine_leaves l t l.kind vs
  fine_level F l t (calls a args) h = λ u. omega (arith, h u)
  fine_level F l t (traps cause) h = fine_ends l t l.kind F (trap cause) (traps cause) refl tt
  fine_level F l t (throws v) h = fine_ends l t l.kind F (throw v) (throws v) refl tt
  fine_level F l t stuck h = tt

  pub fine : (F : FrameState) (t : Term) → IsFine s t (reduce s F t)
  fine F here = refl
  fine F (invoke a args) = λ u. omega arith
  fine F (trap cause) = tt
  fine F (throw v) = tt
  fine F (inside l t) = fine_level F l t (reduce s (under l.kind F) t) (fine (under l.kind F) t)
