-- Closing the chains and prefixes before an operand gives the table after the expression, and an operator moves them as the machine does.
use Rattle.std.specs.Prelude.{◌≡◌, ℕ, zero, suc, ◌<◌, ◌≤◌, ◌==◌, nat_lt, Bool, true, false, cond, List, [], ◌∷◌, ◌++◌, Option, Some, None, refl}
use Rattle.std.proofs.Common.{sym, ◌∙◌, ap, subst, arith}
use Rattle.std.proofs.lemmas.Bool.Decides.{nat_tests}
use Rattle.host_lexer.specs.declared.token.Mark.{Mark}
use Rattle.host_lexer.specs.declared.token.Mark.TheVariants as marks
use Rattle.host_grammar.specs.Derivations.{Spot, Prefix, Unary, postfix, prefixed, Postfix, Operator}
use Rattle.host_grammar.specs.Conditions.{first_of, first_of_unary, first_of_postfix}
use Rattle.host_grammar.specs.Machine as machine
use Rattle.host_grammar.specs.Machine.{Left, nothing_left, before, Lefts, no_left, also, Sigil, sigil, level, wrap, close, with_left, fresh_lefts, pushed, operator_at, expr_of}
use Rattle.host_nodes.specs.declared.form.BinaryOperator.{BinaryOperator}
use Rattle.host_nodes.specs.declared.form.Operand.{Operand}
use Rattle.host_nodes.specs.declared.state.Group.{Group}
use Rattle.host_nodes.specs.declared.state.Level.{Level}
use Rattle.host_nodes.specs.declared.state.Prefixed.{Prefixed}
use Rattle.host_nodes.specs.Tables.{Table, last, operator_of, prefix_of, operand_of, operands, parts_after, chain_after, unary_after, postfix_after}
use Rattle.host_nodes.specs.Building as b
use Rattle.host_nodes.specs.declared.state.Ranked.{Ranked}
use Rattle.host_nodes.specs.Building.{Tightened, tightened, group_of, joined, close_prefixes, close_group, close_groups, closed_table, ranked, ranked_of, or_here, begun, place_or_none}
use Rattle.host_nodes.specs.Images.{left_after, left_group, lefts_after, groups_on, prefixes, left_first, lefts_first, sigils_first, level_after, level_of}

-- the place of the first token
sigils_here : (ps : List Sigil) (q p : ℕ) → or_here (sigils_first ps (Some q)) p ≡ sigils_first ps (Some q)
sigils_here [] q p = refl
sigils_here (sigil o r ∷ ps) q p = sigils_here ps r.place p

here_sigils : (ps : List Sigil) (p : ℕ) → or_here (sigils_first ps None) p ≡ sigils_first ps (Some p)
here_sigils [] p = refl
here_sigils (sigil o r ∷ ps) p = sigils_here ps r.place p

here_left : {n : ℕ} (l : Left n) (f : Option ℕ) (p : ℕ) → or_here (left_first l f) p ≡ left_first l (or_here f p)
here_left nothing_left f p = refl
here_left (before c o q) f p = refl

here_lefts : {n : ℕ} (ls : Lefts n) (f : Option ℕ) (p : ℕ) → or_here (lefts_first ls f) p ≡ lefts_first ls (or_here f p)
here_lefts no_left f p = refl
here_lefts (also l ls) f p = here_left l (lefts_first ls f) p ∙ ap (left_first l) (here_lefts ls f p)

here : {n : ℕ} (ls : Lefts n) (ps : List Sigil) (p : ℕ) → or_here (lefts_first ls (sigils_first ps None)) p ≡ lefts_first ls (sigils_first ps (Some p))
here ls ps p = here_lefts ls (sigils_first ps None) p ∙ ap (lefts_first ls) (here_sigils ps p)

abbrev pub level_with : List Group → List Prefixed → Option ℕ → Level
level_with gs ps f = record { groups = gs; prefixes = ps; first = f }

pub begun_level : (l : machine.Level) (t : Table) (p : ℕ) → begun (level_of l t None) p ≡ level_of l t (Some p)
begun_level (level ls ps) t p = ap (level_with (groups_on ls t []) (prefixes ps)) (here ls ps p)

-- closing
pub wraps : (ps : List Sigil) (u : Unary) (t : Table) → close_prefixes (prefixes ps) (unary_after u t) ≡ unary_after (wrap ps u) t
wraps [] u t = refl
wraps (sigil o p ∷ ps) u t = wraps ps (prefixed o p u) t

pub closes : {n : ℕ} (ls : Lefts n) (u : Unary) (t : Table) (gs : List Group) → close_groups (groups_on ls t gs) (unary_after u (lefts_after ls t)) ≡ close_groups gs (chain_after (close ls u) t)
closes no_left u t gs = refl
closes (also nothing_left ls) u t gs = closes ls u t gs
closes (also {n} (before c o p) ls) u t gs = closes ls u (parts_after c t) (group_of n (operands c (operator_of o) p.place t) ∷ gs)

pub closed : (l : machine.Level) (u : Postfix) (t : Table) (f : Option ℕ) → closed_table (level_of l t f) (postfix_after u (level_after l t)) ≡ chain_after (expr_of l u) t
closed (level ls ps) u t f = ap (close_groups (groups_on ls t [])) (wraps ps (postfix u) (lefts_after ls t)) ∙ closes ls (wrap ps (postfix u)) t []

-- the first token of what is closed
first_wrap : (ps : List Sigil) (u : Unary) → sigils_first ps (Some (first_of_unary u).spot.place) ≡ Some (first_of_unary (wrap ps u)).spot.place
first_wrap [] u = refl
first_wrap (sigil o p ∷ ps) u = first_wrap ps (prefixed o p u)

first_close : {n : ℕ} (ls : Lefts n) (u : Unary) → lefts_first ls (Some (first_of_unary u).spot.place) ≡ Some (first_of (close ls u)).spot.place
first_close no_left u = refl
first_close (also nothing_left ls) u = first_close ls u
first_close (also (before c o p) ls) u = refl

first_level : (l : machine.Level) (t : Table) (u : Postfix) → (level_of l t (Some (first_of_postfix u).spot.place)).first ≡ Some (first_of (expr_of l u)).spot.place
first_level (level ls ps) t u = ap (lefts_first ls) (first_wrap ps (postfix u)) ∙ first_close ls (wrap ps (postfix u))

pub first_place : (l : machine.Level) (t : Table) (u : Postfix) → place_or_none (level_of l t (Some (first_of_postfix u).spot.place)).first ≡ (first_of (expr_of l u)).spot.place
first_place l t u = ap place_or_none (first_level l t u)

-- the rank of an operator is its level
abbrev pub Agrees : (n : ℕ) → Option (Operator n) → Mark → Type 0
Agrees n None m = Unit {0}
Agrees n (Some o) m = ranked_of m ≡ ranked n (operator_of o)

agrees : (n : ℕ) (m : Mark) → Agrees n (operator_at n m) m
agrees zero marks.Star = refl
agrees zero marks.Slash = refl
agrees zero marks.Percent = refl
agrees (suc zero) marks.Plus = refl
agrees (suc zero) marks.Minus = refl
agrees (suc (suc zero)) marks.Less = refl
agrees (suc (suc zero)) marks.Greater = refl
agrees (suc (suc zero)) marks.LessEquals = refl
agrees (suc (suc zero)) marks.GreaterEquals = refl
agrees (suc (suc (suc zero))) marks.StrictEquals = refl
agrees (suc (suc (suc zero))) marks.StrictNotEquals = refl
agrees (suc (suc (suc (suc zero)))) marks.And = refl
agrees (suc (suc (suc (suc (suc zero))))) marks.Or = refl
agrees _ _ = tt

abbrev rank_or_none : Option Ranked → ℕ
rank_or_none None = 0
rank_or_none (Some k) = k.rank

-- the chains that bind tighter are closed
not_less : (n : ℕ) → nat_lt n n ≡ false
not_less n = grind (arith, nat_tests)

same : (n : ℕ) → (n == n) ≡ true
same n = grind (arith, nat_tests)

tight_all : {n : ℕ} (ls : Lefts n) (w : Unary) (t : Table) (gs : List Group) (r : ℕ) → n ≤ r
    → tightened r (groups_on ls t gs) (unary_after w (lefts_after ls t)) ≡ tightened r gs (chain_after (close ls w) t)
tight_all no_left w t gs r h = refl
tight_all (also {n} nothing_left ls) w t gs r h = tight_all ls w t gs r (omega arith)
tight_all (also {n} (before c o p) ls) w t gs r h = tight_all ls w (parts_after c t) (group_of n (operands c (operator_of o) p.place t) ∷ gs) r (omega arith)
    ∙ ap (λ (z : Bool). cond z (tightened r gs (close_group (group_of n (operands c (operator_of o) p.place t)) (chain_after (close ls w) (parts_after c t))))
    (record { groups = group_of n (operands c (operator_of o) p.place t) ∷ gs; table = chain_after (close ls w) (parts_after c t) })) (is_less n r h)
  where
    is_less : (k s : ℕ) → suc k ≤ s → nat_lt k s ≡ true
    is_less k s e = grind (arith, nat_tests)

abbrev pub IsAbove : ℕ → List Group → Type 0
IsAbove r [] = Unit {0}
IsAbove r (g ∷ gs) = (nat_lt g.rank r ≡ false) × ((g.rank == r) ≡ false)

tight_none : (r : ℕ) (gs : List Group) (t : Table) → IsAbove r gs → tightened r gs t ≡ record { groups = gs; table = t }
tight_none r [] t h = refl
tight_none r (g ∷ gs) t h = ap (λ (z : Bool). cond z (tightened r gs (close_group g t)) (record { groups = g ∷ gs; table = t })) h.0

joined_none : (r : ℕ) (o : Operand) (gs : List Group) → IsAbove r gs → joined r o gs ≡ group_of r (o ∷ []) ∷ gs
joined_none r o [] h = refl
joined_none r o (g ∷ gs) h = ap (λ (z : Bool). cond z (group_of r (g.operands ++ o ∷ []) ∷ gs) (group_of r (o ∷ []) ∷ g ∷ gs)) h.1

fresh_groups : (n : ℕ) (t : Table) (gs : List Group) → groups_on (fresh_lefts n) t gs ≡ gs
fresh_groups zero t gs = refl
fresh_groups (suc n) t gs = fresh_groups n t gs

fresh_after : (n : ℕ) (t : Table) → lefts_after (fresh_lefts n) t ≡ t
fresh_after zero t = refl
fresh_after (suc n) t = fresh_after n t

-- the groups after an operator
abbrev pub joins : ℕ → BinaryOperator → ℕ → Tightened → List Group
joins r o p u = joined r (operand_of (last u.table) o p) u.groups

abbrev pub tight : {n : ℕ} → ℕ → Unary → Lefts n → Table → List Group → Tightened
tight r w ls t gs = tightened r (groups_on ls t gs) (unary_after w (lefts_after ls t))

pub record IsPushed {n : ℕ} (r : ℕ) (o : BinaryOperator) (p : ℕ) (w : Unary) (ls : Lefts n) (t : Table) (gs : List Group) (q : Lefts n) : Type 0 where
  pub groups : joins r o p (tight r w ls t gs) ≡ groups_on q t gs
  pub table : (tight r w ls t gs).table ≡ lefts_after q t
  pub first : lefts_first q None ≡ lefts_first ls (Some (first_of_unary w).spot.place)

abbrev pub Pushes : {n : ℕ} → ℕ → BinaryOperator → ℕ → Unary → Lefts n → Table → List Group → Option (Lefts n) → Type 0
Pushes r o p w ls t gs None = Unit {0}
Pushes r o p w ls t gs (Some q) = IsPushed r o p w ls t gs q

-- at an operator of this level
first_here : {n : ℕ} (l : Left n) (ls : Lefts n) (w : Unary) → Some (first_of (with_left l (close ls w))).spot.place ≡ left_first l (lefts_first ls (Some (first_of_unary w).spot.place))
first_here nothing_left ls w = sym (first_close ls w)
first_here (before c o p) ls w = refl

here_tight : {n : ℕ} (l : Left n) (ls : Lefts n) (w : Unary) (t : Table) (gs : List Group) → IsAbove n gs
    → tight n w (also l ls) t gs ≡ record { groups = left_group l t gs; table = chain_after (close ls w) (left_after l t) }
here_tight {n} nothing_left ls w t gs h = tight_all ls w t gs n (omega arith) ∙ tight_none n gs (chain_after (close ls w) t) h
here_tight {n} (before c o p) ls w t gs h = tight_all ls w (parts_after c t) (group_of n (operands c (operator_of o) p.place t) ∷ gs) n (omega arith)
    ∙ ap (λ (z : Bool). cond z (tightened n gs (close_group (group_of n (operands c (operator_of o) p.place t)) (chain_after (close ls w) (parts_after c t))))
    (record { groups = group_of n (operands c (operator_of o) p.place t) ∷ gs; table = chain_after (close ls w) (parts_after c t) })) (not_less n)

here_joined : {n : ℕ} (l : Left n) (ls : Lefts n) (w : Unary) (t : Table) (gs : List Group) (o : Operator n) (p : Spot) → IsAbove n gs
    → joins n (operator_of o) p.place (record { groups = left_group l t gs; table = chain_after (close ls w) (left_after l t) }) ≡ group_of n (operands (with_left l (close ls w)) (operator_of o) p.place t) ∷ gs
here_joined {n} nothing_left ls w t gs o p h = joined_none n (operand_of (last (chain_after (close ls w) t)) (operator_of o) p.place) gs h
here_joined {n} (before c y q) ls w t gs o p h = ap (λ (z : Bool). cond z
    (group_of n (operands c (operator_of y) q.place t ++ operand_of (last (chain_after (close ls w) (parts_after c t))) (operator_of o) p.place ∷ []) ∷ gs)
    (group_of n (operand_of (last (chain_after (close ls w) (parts_after c t))) (operator_of o) p.place ∷ []) ∷ group_of n (operands c (operator_of y) q.place t) ∷ gs)) (same n)

here_after : {n : ℕ} (l : Left n) (ls : Lefts n) (w : Unary) (t : Table) → parts_after (with_left l (close ls w)) t ≡ chain_after (close ls w) (left_after l t)
here_after nothing_left ls w t = refl
here_after (before c y q) ls w t = refl

is_here : {n : ℕ} (l : Left n) (ls : Lefts n) (w : Unary) (t : Table) (gs : List Group) (o : Operator n) (p : Spot) → IsAbove n gs
    → IsPushed n (operator_of o) p.place w (also l ls) t gs (also (before (with_left l (close ls w)) o p) (fresh_lefts n))
is_here {n} l ls w t gs o p h = record {
  groups = ap (joins n (operator_of o) p.place) (here_tight l ls w t gs h) ∙ here_joined l ls w t gs o p h
      ∙ sym (fresh_groups n (parts_after (with_left l (close ls w)) t) (group_of n (operands (with_left l (close ls w)) (operator_of o) p.place t) ∷ gs));
  table = ap (λ (u : Tightened). u.table) (here_tight l ls w t gs h) ∙ sym (here_after l ls w t) ∙ sym (fresh_after n (parts_after (with_left l (close ls w)) t));
  first = first_here l ls w;
}

-- the rank of an operator that is found is below
abbrev pub IsBelow : {A : Type 0} → ℕ → ℕ → Option A → Type 0
IsBelow n r None = Unit {0}
IsBelow n r (Some q) = r < n

same_rank : (m : Mark) (n r : ℕ) (o : BinaryOperator) (x : BinaryOperator) → ranked_of m ≡ ranked r o → ranked_of m ≡ ranked n x → r ≡ n
same_rank m n r o x e f = ap rank_or_none (sym e ∙ f)

abbrev operator_or : BinaryOperator → Option Ranked → BinaryOperator
operator_or d None = d
operator_or d (Some k) = k.operator

same_operator : (m : Mark) (n r : ℕ) (o : BinaryOperator) (x : BinaryOperator) → ranked_of m ≡ ranked r o → ranked_of m ≡ ranked n x → o ≡ x
same_operator m n r o x e f = ap (operator_or o) (sym e ∙ f)

below_here : {n : ℕ} (m : Mark) (r : ℕ) (o : BinaryOperator) (p : Spot) (w : Unary) (l : Left n) (ls : Lefts n) (x : Option (Operator n)) (y : Option (Lefts n))
    → ranked_of m ≡ ranked r o → Agrees n x m → IsBelow n r y
    → IsBelow (suc n) r (elim x [
      | Some z ↦ Some (also (before (with_left l (close ls w)) z p) (fresh_lefts n))
      | None ↦ elim y [ None ↦ None | Some q ↦ Some (also l q) ]
    ])
below_here {n} m r o p w l ls (Some z) y e a h = let s : r ≡ n = same_rank m n r o (operator_of z) e a in omega arith
below_here m r o p w l ls None None e a h = tt
below_here {n} m r o p w l ls None (Some q) e a h = omega arith

below : {n : ℕ} (m : Mark) (r : ℕ) (o : BinaryOperator) (p : Spot) (w : Unary) (ls : Lefts n) → ranked_of m ≡ ranked r o → IsBelow n r (pushed m p w ls)
below m r o p w no_left e = tt
below m r o p w (also {n} l ls) e = below_here m r o p w l ls (operator_at n m) (pushed m p w ls) e (agrees n m) (below m r o p w ls e)

above : {n : ℕ} (r : ℕ) (l : Left n) (t : Table) (gs : List Group) → r < n → IsAbove r gs → IsAbove r (left_group l t gs)
above r nothing_left t gs h a = a
above {n} r (before c o p) t gs h a = (not_under n r h, other n r h)
  where
    not_under : (k s : ℕ) → s < k → nat_lt k s ≡ false
    not_under k s e = grind (arith, nat_tests)

    other : (k s : ℕ) → s < k → (k == s) ≡ false
    other k s e = grind (arith, nat_tests)

pushes_here : {n : ℕ} (m : Mark) (r : ℕ) (o : BinaryOperator) (p : Spot) (w : Unary) (l : Left n) (ls : Lefts n) (t : Table) (gs : List Group) (x : Option (Operator n)) (y : Option (Lefts n))
    → ranked_of m ≡ ranked r o → Agrees n x m → IsAbove r gs → IsBelow n r y → ((hs : List Group) → IsAbove r hs → Pushes r o p.place w ls (left_after l t) hs y)
    → Pushes r o p.place w (also l ls) t gs (elim x [
      | Some z ↦ Some (also (before (with_left l (close ls w)) z p) (fresh_lefts n))
      | None ↦ elim y [ None ↦ None | Some q ↦ Some (also l q) ]
    ])
pushes_here {n} m r o p w l ls t gs (Some z) y e a h k g = subst (λ (i : ℕ). IsPushed i o p.place w (also l ls) t gs (also (before (with_left l (close ls w)) z p) (fresh_lefts n))) (sym (same_rank m n r o (operator_of z) e a))
    (subst (λ (i : BinaryOperator). IsPushed n i p.place w (also l ls) t gs (also (before (with_left l (close ls w)) z p) (fresh_lefts n))) (sym (same_operator m n r o (operator_of z) e a))
    (is_here l ls w t gs z p (subst (λ (i : ℕ). IsAbove i gs) (same_rank m n r o (operator_of z) e a) h)))
pushes_here m r o p w l ls t gs None None e a h k g = tt
pushes_here m r o p w l ls t gs None (Some q) e a h k g = let f : IsPushed r o p.place w ls (left_after l t) (left_group l t gs) q = g (left_group l t gs) (above r l t gs k h) in record {
  groups = f.groups;
  table = f.table;
  first = ap (left_first l) f.first;
}

pub pushes : {n : ℕ} (m : Mark) (r : ℕ) (o : BinaryOperator) (p : Spot) (w : Unary) (ls : Lefts n) (t : Table) (gs : List Group) → ranked_of m ≡ ranked r o → IsAbove r gs
    → Pushes r o p.place w ls t gs (pushed m p w ls)
pushes m r o p w no_left t gs e h = tt
pushes m r o p w (also {n} l ls) t gs e h = pushes_here m r o p w l ls t gs (operator_at n m) (pushed m p w ls) e (agrees n m) h (below m r o p w ls e)
    (λ hs k. pushes m r o p w ls (left_after l t) hs e k)

-- a mark that is an operator somewhere has a rank
abbrev pub HasRank : {A : Type 0} → Option A → Option Ranked → Type 0
HasRank None k = Unit {0}
HasRank (Some q) k = (x : Ranked) × (k ≡ Some x)

has_here : {n : ℕ} (m : Mark) (p : Spot) (w : Unary) (l : Left n) (ls : Lefts n) (x : Option (Operator n)) (y : Option (Lefts n)) → Agrees n x m → HasRank y (ranked_of m)
    → HasRank (elim x [
      | Some z ↦ Some (also (before (with_left l (close ls w)) z p) (fresh_lefts n))
      | None ↦ elim y [ None ↦ None | Some q ↦ Some (also l q) ]
    ]) (ranked_of m)
has_here m p w l ls (Some z) y a h = (_, a)
has_here m p w l ls None None a h = tt
has_here m p w l ls None (Some q) a h = h

pub has_rank : {n : ℕ} (m : Mark) (p : Spot) (w : Unary) (ls : Lefts n) → HasRank (pushed m p w ls) (ranked_of m)
has_rank m p w no_left = tt
has_rank m p w (also {n} l ls) = has_here m p w l ls (operator_at n m) (pushed m p w ls) (agrees n m) (has_rank m p w ls)

pub prefixed_level : (ls : Lefts 6) (ps : List Sigil) (t : Table) (o : Prefix) (p : Spot) → b.prefixed (prefix_of o) p.place (level_of (level ls ps) t None) ≡ level_of (level ls (sigil o p ∷ ps)) t None
prefixed_level ls ps t o p = ap (level_with (groups_on ls t []) (record { operator = prefix_of o; place = p.place } ∷ prefixes ps)) (here ls ps p.place)

pub first_wrapped : (ls : Lefts 6) (ps : List Sigil) (u : Unary) → lefts_first ls (sigils_first ps (Some (first_of_unary u).spot.place)) ≡ lefts_first ls (Some (first_of_unary (wrap ps u)).spot.place)
first_wrapped ls ps u = ap (lefts_first ls) (first_wrap ps u)
