-- A chain of operators is read, and closing what was read gives it again.
use Rattle.std.specs.Prelude.{◌≡◌, ℕ, zero, suc, ◌<◌, List, [], ◌∷◌, Option, Some, None, refl}
use Rattle.std.proofs.Common.{◌∙◌, ap, arith}
use Rattle.host_lexer.specs.declared.token.Mark.{Mark}
use Rattle.host_lexer.specs.declared.token.Mark.TheVariants as marks
use Rattle.host_lexer.specs.declared.token.TokenKind.TheVariants as kinds
use Rattle.host_grammar.specs.Derivations.{Chain, Expr, Operator, Postfix, Spot, Unary, and, divided, equals, greater, greater_equals, less, less_equals, lift, minus, more, not_equals, operand, or, plus, postfix, prefixed, remainder, times}
use Rattle.host_grammar.specs.Printing.{Printed, mark, operator_mark}
use Rattle.host_grammar.specs.Machine.{Left, Lefts, Level, OfExpr, Sigil, State, also, before, close, expr_of, fresh_lefts, had, have, level, no_left, nothing_left, operated, operator_at, pushed, sigil, want, with_left, wrap}
use Rattle.host_grammar.proofs.Heads.{read, read_step}

-- the operand within prefixes, and the prefixes, the innermost first
abbrev pub core : Unary → Postfix
core (postfix p) = p
core (prefixed o p u) = core u

abbrev pub sigils_of : Unary → List Sigil → List Sigil
sigils_of (postfix p) ps = ps
sigils_of (prefixed o p u) ps = sigils_of u (sigil o p ∷ ps)

pub wrap_again : (u : Unary) (ps : List Sigil) → wrap (sigils_of u ps) (postfix (core u)) ≡ wrap ps u
wrap_again (postfix p) ps = refl
wrap_again (prefixed o p u) ps = wrap_again u (sigil o p ∷ ps)

-- the last operand of a chain, and what stands before it
abbrev pub last_of : {n : ℕ} → Chain n → Unary
last_of (operand u) = u
last_of (lift c) = last_of c
last_of (more c o p e) = last_of e

abbrev pub lefts_of : {n : ℕ} → Chain n → Lefts n
lefts_of (operand u) = no_left
lefts_of (lift c) = also nothing_left (lefts_of c)
lefts_of (more c o p e) = also (before c o p) (lefts_of e)

pub close_again : {n : ℕ} (c : Chain n) → close (lefts_of c) (last_of c) ≡ c
close_again (operand u) = refl
close_again (lift c) = ap lift (close_again c)
close_again (more c o p e) = ap (more c o p) (close_again e)

-- the levels outside of level n
pub data Outer : ℕ → Type 0 where
  top : Outer 6
  under_left : {n : ℕ} → Left n → Outer (suc n) → Outer n

abbrev pub plug : {n : ℕ} → Outer n → Lefts n → Lefts 6
plug top ls = ls
plug (under_left l o) ls = plug o (also l ls)

abbrev pub option_plug : {n : ℕ} → Outer n → Option (Lefts n) → Option (Lefts 6)
option_plug o None = None
option_plug o (Some q) = Some (plug o q)

plugged : {n : ℕ} (l : Left n) (o : Outer (suc n)) (q : Option (Lefts n)) → option_plug o (elim q [ None ↦ None | Some x ↦ Some (also l x) ]) ≡ option_plug (under_left l o) q
plugged l o None = refl
plugged l o (Some x) = refl

plug_top : (q : Option (Lefts 6)) → q ≡ option_plug top q
plug_top None = refl
plug_top (Some x) = refl

-- each operator has one level
abbrev pub rank : Mark → ℕ
rank marks.Star = 0
rank marks.Slash = 0
rank marks.Percent = 0
rank marks.Plus = 1
rank marks.Minus = 1
rank marks.Less = 2
rank marks.Greater = 2
rank marks.LessEquals = 2
rank marks.GreaterEquals = 2
rank marks.StrictEquals = 3
rank marks.StrictNotEquals = 3
rank marks.And = 4
rank _ = 5

rank_of : {n : ℕ} (o : Operator n) → rank (operator_mark o) ≡ n
rank_of times = refl
rank_of divided = refl
rank_of remainder = refl
rank_of plus = refl
rank_of minus = refl
rank_of less = refl
rank_of greater = refl
rank_of less_equals = refl
rank_of greater_equals = refl
rank_of equals = refl
rank_of not_equals = refl
rank_of and = refl
rank_of or = refl

rank_at : (n : ℕ) (m : Mark) (o : Operator n) → operator_at n m ≡ Some o → rank m ≡ n
rank_at zero marks.Star o h = refl
rank_at zero marks.Slash o h = refl
rank_at zero marks.Percent o h = refl
rank_at (suc zero) marks.Plus o h = refl
rank_at (suc zero) marks.Minus o h = refl
rank_at (suc (suc zero)) marks.Less o h = refl
rank_at (suc (suc zero)) marks.Greater o h = refl
rank_at (suc (suc zero)) marks.LessEquals o h = refl
rank_at (suc (suc zero)) marks.GreaterEquals o h = refl
rank_at (suc (suc (suc zero))) marks.StrictEquals o h = refl
rank_at (suc (suc (suc zero))) marks.StrictNotEquals o h = refl
rank_at (suc (suc (suc (suc zero)))) marks.And o h = refl
rank_at (suc (suc (suc (suc (suc zero))))) marks.Or o h = refl
rank_at _ _ o h = cc

operator_of : {n : ℕ} (o : Operator n) → operator_at n (operator_mark o) ≡ Some o
operator_of times = refl
operator_of divided = refl
operator_of remainder = refl
operator_of plus = refl
operator_of minus = refl
operator_of less = refl
operator_of greater = refl
operator_of less_equals = refl
operator_of greater_equals = refl
operator_of equals = refl
operator_of not_equals = refl
operator_of and = refl
operator_of or = refl

not_at : (r n : ℕ) (m : Mark) (x : Option (Operator n)) → rank m ≡ r → r < n → operator_at n m ≡ x → operator_at n m ≡ None
not_at r n m None e h q = q
not_at r n m (Some o) e h q = let k : rank m ≡ n = rank_at n m o q in absurd (omega arith)

other_level : (r n : ℕ) (o : Operator r) → r < n → operator_at n (operator_mark o) ≡ None
other_level r n o h = not_at r n (operator_mark o) (operator_at n (operator_mark o)) (rank_of o) h refl

abbrev pub push_in : (n : ℕ) (m : Mark) (p : Spot) (u : Unary) → Left n → Lefts n → Option (Operator n) → Option (Lefts (suc n))
push_in n m p u l ls x = elim x [
  | Some o ↦ Some (also (before (with_left l (close ls u)) o p) (fresh_lefts n))
  | None ↦ elim (pushed m p u ls) [ None ↦ None | Some q ↦ Some (also l q) ]
]

pushed_plug : (r : ℕ) (x : Operator r) (p : Spot) (u : Unary) {n : ℕ} (o : Outer n) (ls : Lefts n) → r < n → pushed (operator_mark x) p u (plug o ls) ≡ option_plug o (pushed (operator_mark x) p u ls)
pushed_plug r x p u top ls h = plug_top (pushed (operator_mark x) p u ls)
pushed_plug r x p u (under_left {n} l o) ls h = pushed_plug r x p u o (also l ls) (omega arith)
    ∙ ap (option_plug o) (ap (push_in n (operator_mark x) p u l ls) (other_level r n x h)) ∙ plugged l o (pushed (operator_mark x) p u ls)

pushed_at : {n : ℕ} (x : Operator n) (p : Spot) (u : Unary) (l : Left n) (ls : Lefts n) → pushed (operator_mark x) p u (also l ls) ≡ Some (also (before (with_left l (close ls u)) x p) (fresh_lefts n))
pushed_at {n} x p u l ls = ap (push_in n (operator_mark x) p u l ls) (operator_of x)

pushed_after : {n : ℕ} (x : Operator n) (p : Spot) (c : Chain (suc n)) → pushed (operator_mark x) p (last_of c) (lefts_of c) ≡ Some (also (before c x p) (fresh_lefts n))
pushed_after {n} x p (lift c) = pushed_at x p (last_of c) nothing_left (lefts_of c) ∙ ap (λ z. Some (also (before (lift z) x p) (fresh_lefts n))) (close_again c)
pushed_after {n} x p (more a y q c) = pushed_at x p (last_of c) (before a y q) (lefts_of c) ∙ ap (λ z. Some (also (before (more a y q z) x p) (fresh_lefts n))) (close_again c)

-- the state after a chain
abbrev pub after_chain : {n : ℕ} → Outer n → Chain n → OfExpr → State
after_chain o c s = have (core (last_of c)) (level (plug o (lefts_of c)) (sigils_of (last_of c) [])) s

abbrev pub after_expr : Expr → OfExpr → State
after_expr e s = have (core (last_of e)) (level (lefts_of e) (sigils_of (last_of e) [])) s

pub expr_again : (e : Expr) → expr_of (level (lefts_of e) (sigils_of (last_of e) [])) (core (last_of e)) ≡ e
expr_again e = ap (close (lefts_of e)) (wrap_again (last_of e) []) ∙ close_again e

had_operator : (u : Postfix) (l : Level) (s : OfExpr) (p : Spot) {n : ℕ} (o : Operator n) → had u l s p (kinds.Mark (operator_mark o)) ≡ operated l u s p (operator_mark o)
had_operator u l s p times = refl
had_operator u l s p divided = refl
had_operator u l s p remainder = refl
had_operator u l s p plus = refl
had_operator u l s p minus = refl
had_operator u l s p less = refl
had_operator u l s p greater = refl
had_operator u l s p less_equals = refl
had_operator u l s p greater_equals = refl
had_operator u l s p equals = refl
had_operator u l s p not_equals = refl
had_operator u l s p and = refl
had_operator u l s p or = refl

-- an operator of a level, after a chain of that level
pub operator : {n : ℕ} (o : Outer (suc n)) (c : Chain (suc n)) (x : Operator n) (p : Spot) (s : OfExpr) (y : List Printed)
    → read (after_chain o c s) (mark (operator_mark x) p ∷ y) ≡ read (want (level (plug o (also (before c x p) (fresh_lefts n))) []) s) y
operator {n} o c x p s y =
    let e : pushed (operator_mark x) p (last_of c) (plug o (lefts_of c)) ≡ Some (plug o (also (before c x p) (fresh_lefts n)))
    = pushed_plug n x p (last_of c) o (lefts_of c) (omega arith) ∙ ap (option_plug o) (pushed_after x p c) in
    let f : pushed (operator_mark x) p (wrap (sigils_of (last_of c) []) (postfix (core (last_of c)))) (plug o (lefts_of c)) ≡ Some (plug o (also (before c x p) (fresh_lefts n)))
    = ap (λ z. pushed (operator_mark x) p z (plug o (lefts_of c))) (wrap_again (last_of c) []) ∙ e in
    read_step (after_chain o c s) (want (level (plug o (also (before c x p) (fresh_lefts n))) []) s) (mark (operator_mark x) p) y
    (had_operator (core (last_of c)) (level (plug o (lefts_of c)) (sigils_of (last_of c) [])) s p x
    ∙ ap (λ q. elim q [ None ↦ None | Some r ↦ Some (want (level r []) s) ]) f)
