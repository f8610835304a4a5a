-- A token does to what the reader shows what it does to the machine's state.
use Rattle.std.specs.Prelude.{◌≡◌, ℕ, suc, ◌<◌, ◌≤◌, nat_lt, Bool, true, false, cond, List, [], ◌∷◌, Option, Some, None, refl}
use Rattle.std.proofs.Common.{sym, ◌∙◌, ap, subst, arith, inl, inr}
use Rattle.std.proofs.lemmas.Bool.Decides.{nat_tests}
use Rattle.host_lexer.specs.declared.token.Token.{Token}
use Rattle.host_grammar.specs.Printing.{seen}
use Rattle.host_lexer.specs.declared.token.Word.TheVariants as words
use Rattle.host_lexer.specs.declared.token.Mark.{Mark}
use Rattle.host_lexer.specs.declared.token.Mark.TheVariants as marks
use Rattle.host_lexer.specs.declared.token.TokenKind.{TokenKind}
use Rattle.host_lexer.specs.declared.token.TokenKind.TheVariants as kinds
use Rattle.host_states.specs.declared.state.Level as code_level
use Rattle.host_states.specs.declared.state.InExpression.{InExpression}
use Rattle.host_states.specs.declared.state.InExpression.TheVariants as at
use Rattle.host_states.specs.declared.state.Open.{Open}
use Rattle.host_states.specs.declared.state.InStatement.TheVariants as on
use Rattle.host_states.specs.declared.state.Open.TheVariants as opens_on
use Rattle.host_states.specs.declared.state.Move.{Move}
use Rattle.host_states.specs.declared.reader.Reader.{Reader}
use Rattle.host_states.specs.Moves as spec
use Rattle.host_states.specs.Moves.{Outcome, refused, too_deep, went, Moves, opening}
use Rattle.host_states.specs.Shapes.{shape, accepts, Follows, around, item_around, stmt_stack, item_stack, block_stack, expr_stack, level_of, operand_at}
use Rattle.host_grammar.specs.Derivations.{Spot, Named, Any, Postfix, member, Members, no_member, and_member, no_item, break_off, continue_on, Operator, Unary, postfix, Target, Stmt, Block, Items, Names, Item, Script, statement, if_then, if_else, while_do, and_item, and_part, LetDecls, Exprs, PropList}
use Rattle.host_grammar.specs.Refusals.{most_open}
use Rattle.host_grammar.specs.Machine as machine
use Rattle.host_grammar.specs.Machine.{Before, Left, nothing_left, before, Lefts, no_left, also, Level, level, fresh, OfExpr, in_paren, in_index, in_call, in_array, in_new, in_prop, in_assign, in_if, in_while, in_return, in_throw, in_let, in_const, OfStmt, item_of, then_of, else_of, body_of, OfItem, in_script, in_block, OfBlock, block_of, try_of, catch_of, catch_name_of, function_of, State, want, have, dotted, argument, element, given, new_begun, new_named, new_dotted, property, named_key, other_key, items, begun, complete, if_begun, while_begun, break_begun, continue_begun, return_begun, throw_begun, try_begun, try_read, catch_begun, catch_opened, catch_named, catch_closed, let_begun, let_named, const_begun, const_named, function_begun, function_named, parameter, parameter_read, parameters_read, is_fresh, target_of, pushed, wrap, next_of, fresh_lefts, start}
use Rattle.host_grammar.specs.Spelling.{depth, stmt_depth, item_depth, under}
use Rattle.host_grammar.specs.Counting as counting

-- a step of the machine, how many constructs its token opens, and what the reader does
abbrev pub Sim : Option State → ℕ → Outcome → Type 0
Sim None n o = o ≡ refused
Sim (Some q) n o = o ≡ cond (nat_lt most_open n) too_deep (went (shape q))

opened_at : (d : ℕ) (b : Bool) (k : ℕ → Outcome) → (elim (cond b None (Some (suc d))) [ None ↦ too_deep | Some e ↦ k e ]) ≡ cond b too_deep (k (suc d))
opened_at d true k = refl
opened_at d false k = refl

pub opened : (d : ℕ) (k : ℕ → Outcome) → opening d k ≡ cond (nat_lt most_open (suc d)) too_deep (k (suc d))
opened d k = opened_at d (nat_lt most_open (suc d)) k

less_too : (n : ℕ) → nat_lt most_open n ≡ true → nat_lt most_open (suc n) ≡ true
less_too n h = grind (arith, nat_tests)

twice_at : (d : ℕ) (b c : Bool) → nat_lt most_open (suc d) ≡ b → nat_lt most_open (suc (suc d)) ≡ c → (k : ℕ → Outcome)
    → (elim (cond b None (Some (suc d))) [ None ↦ too_deep | Some e ↦ opening e k ]) ≡ cond c too_deep (k (suc (suc d)))
twice_at d true true e f k = refl
twice_at d true false e f k = let g : nat_lt most_open (suc (suc d)) ≡ true = less_too (suc d) e in cc
twice_at d false c e f k = opened (suc d) k ∙ ap (λ z. cond z too_deep (k (suc (suc d)))) f

pub opened_twice : (d : ℕ) (k : ℕ → Outcome) → opening d (λ e. opening e k) ≡ cond (nat_lt most_open (suc (suc d))) too_deep (k (suc (suc d)))
opened_twice d k = twice_at d (nat_lt most_open (suc d)) (nat_lt most_open (suc (suc d))) refl refl k

-- from the reader's function to what its step says
too_many : (n : ℕ) → nat_lt most_open n ≡ true → most_open < n
too_many n h = grind (arith, nat_tests)

not_too_many : (n : ℕ) → nat_lt most_open n ≡ false → n ≤ most_open
not_too_many n h = grind (arith, nat_tests)

follows_some : (q : State) (n : ℕ) (b : Bool) (m : Move) (r : Reader) → nat_lt most_open n ≡ b → Moves (cond b too_deep (went (shape q))) m r → Follows (Some q) n m r
follows_some q n true m r e h = inl (too_many n e, h)
follows_some q n false m r e h = inr (not_too_many n e, h.0, h.1)

pub follows : (o : Option State) (n : ℕ) (x : Outcome) (m : Move) (r : Reader) → Sim o n x → Moves x m r → Follows o n m r
follows None n x m r e h = subst (λ z. Moves z m r) e h
follows (Some q) n x m r e h = follows_some q n (nat_lt most_open n) m r refl (subst (λ z. Moves z m r) e h)

-- where an operand begins
wanted_sim : (l : Level) (s : OfExpr) (p : Spot) (t : TokenKind) → Sim (machine.wanted l s p t) (counting.operand_opens (under l s) t) (spec.wanted (level_of l s) (expr_stack s) t)
wanted_sim l s p (kinds.Name n) = refl
wanted_sim l s p (kinds.Number n) = refl
wanted_sim l s p (kinds.BigInt n) = refl
wanted_sim l s p (kinds.Text n) = refl
wanted_sim l s p (kinds.Word words.True) = refl
wanted_sim l s p (kinds.Word words.False) = refl
wanted_sim l s p (kinds.Word words.Null) = refl
wanted_sim l s p (kinds.Word words.Undefined) = refl
wanted_sim (level ls ps) s p (kinds.Word words.TypeOf) = opened (under (level ls ps) s) _
wanted_sim l s p (kinds.Word words.New) = opened (under l s) _
wanted_sim (level ls ps) s p (kinds.Mark marks.Minus) = opened (under (level ls ps) s) _
wanted_sim (level ls ps) s p (kinds.Mark marks.Not) = opened (under (level ls ps) s) _
wanted_sim l s p (kinds.Mark marks.OpenParen) = opened (under l s) _
wanted_sim l s p (kinds.Mark marks.OpenBracket) = opened (under l s) _
wanted_sim l s p (kinds.Mark marks.OpenBrace) = opened (under l s) _
wanted_sim l s p _ = refl

closed_sim : (u : Postfix) (l : Level) (s : OfExpr) (p : Spot) → Sim (machine.closed u l s p) 0 (spec.closed (expr_stack s))
closed_sim u l (in_paren f k s) p = refl
closed_sim u l (in_call g f es k s) p = refl
closed_sim u l (in_new w n ms f es k s) p = refl
closed_sim u l (in_if w f s) p = refl
closed_sim u l (in_while w f s) p = refl
closed_sim u l _ p = refl

bracketed_sim : (u : Postfix) (l : Level) (s : OfExpr) (p : Spot) → Sim (machine.bracketed u l s p) 0 (spec.bracketed (expr_stack s))
bracketed_sim u l (in_index g f k s) p = refl
bracketed_sim u l (in_array f es k s) p = refl
bracketed_sim u l _ p = refl

braced_sim : (u : Postfix) (l : Level) (s : OfExpr) (p : Spot) → Sim (machine.braced u l s p) 0 (spec.braced (expr_stack s))
braced_sim u l (in_prop f ps k c m s) p = refl
braced_sim u l _ p = refl

parted_sim : (u : Postfix) (l : Level) (s : OfExpr) (p : Spot) → Sim (machine.parted u l s p) 0 (spec.parted (level_of l s) (expr_stack s))
parted_sim u l (in_call g f es k s) p = refl
parted_sim u l (in_new w n ms f es k s) p = refl
parted_sim u l (in_array f es k s) p = refl
parted_sim u l (in_prop f ps k c m s) p = refl
parted_sim u l (in_let w ls n m o) p = refl
parted_sim u l (in_const w ls n m o) p = refl
parted_sim u l _ p = refl

next_sim : (o : OfItem) (x : Item) → shape (items (next_of o x)) ≡ spec.in_statement on.Items (item_around o) (item_stack o)
next_sim (in_script s) x = refl
next_sim (in_block xs b) x = refl

ended_sim : (u : Postfix) (l : Level) (s : OfExpr) (p : Spot) → Sim (machine.ended u l s p) 0 (spec.ended (expr_stack s))
ended_sim u l (machine.in_expression s) p = refl
ended_sim u l (in_assign g m s) p = refl
ended_sim u l (in_return w s) p = refl
ended_sim u l (in_throw w s) p = refl
ended_sim u l (in_let w ls n m (in_script s)) p = refl
ended_sim u l (in_let w ls n m (in_block xs b)) p = refl
ended_sim u l (in_const w ls n m (in_script s)) p = refl
ended_sim u l (in_const w ls n m (in_block xs b)) p = refl
ended_sim u l _ p = refl

-- whether an operand may be assigned to
abbrev pub may_be : Option Target → Bool
may_be None = false
may_be (Some g) = true

later_sim : (o : Option Target) (s : OfExpr) (l : code_level.Level) → l.bare ≡ false → spec.equated (may_be o) l (expr_stack s) ≡ refused
later_sim None s l e = refl
later_sim (Some g) (machine.in_expression s) l e = ap (λ z. cond z (went (spec.in_expression at.Want (spec.fresh_at l.base) (opens_on.Assign (around s) ∷ stmt_stack s))) refused) e
later_sim (Some g) _ l e = refl

equated_none : (o : Option Target) (b : Bool) (s : OfStmt) (p : Spot)
    → Sim (cond b (machine.assigned o s p) None) 0 (spec.equated (may_be o) (record { bare = b; base = stmt_depth s; depth = stmt_depth s }) (opens_on.Expression (around s) ∷ stmt_stack s))
equated_none None true s p = refl
equated_none None false s p = refl
equated_none (Some g) true s p = refl
equated_none (Some g) false s p = refl

other_sim : (o : Option Target) (l : code_level.Level) (x : Open) (st : List Open) → spec.equated true l (x ∷ st) ≡ refused → spec.equated (may_be o) l (x ∷ st) ≡ refused
other_sim None l x st h = refl
other_sim (Some g) l x st h = h

equated_sim : (u : Postfix) (l : Level) (s : OfExpr) (p : Spot) → Sim (machine.equated u l s p) 0 (spec.equated (may_be (target_of u)) (level_of l s) (expr_stack s))
equated_sim u (level ls []) (machine.in_expression s) p = equated_none (target_of u) (is_fresh ls) s p
equated_sim u (level ls (q ∷ ps)) s p = later_sim (target_of u) s (level_of (level ls (q ∷ ps)) s) refl
equated_sim u (level ls []) _ p = other_sim (target_of u) _ _ _ refl

-- an operator
fresh_not : {n : ℕ} (l : Left n) (q : Lefts n) → is_fresh q ≡ false → is_fresh (also l q) ≡ false
fresh_not nothing_left q h = h
fresh_not (before c o p) q h = refl

abbrev pub NotFresh : {n : ℕ} → Option (Lefts n) → Type 0
NotFresh None = Unit {0}
NotFresh (Some q) = is_fresh q ≡ false

pushed_here : (m : Mark) (p : Spot) (u : Unary) {n : ℕ} (l : Left n) (ls : Lefts n) (o : Option (Operator n)) (q : Option (Lefts n)) → NotFresh q
    → NotFresh (elim o [
      | Some x ↦ Some (also (before (machine.with_left l (machine.close ls u)) x p) (fresh_lefts n))
      | None ↦ elim q [ None ↦ None | Some r ↦ Some (also l r) ]
    ])
pushed_here m p u l ls (Some x) q h = refl
pushed_here m p u l ls None None h = tt
pushed_here m p u l ls None (Some r) h = fresh_not l r h

pushed_later : (m : Mark) (p : Spot) (u : Unary) {n : ℕ} (ls : Lefts n) → NotFresh (pushed m p u ls)
pushed_later m p u no_left = tt
pushed_later m p u (also {n} l ls) = pushed_here m p u l ls (machine.operator_at n m) (pushed m p u ls) (pushed_later m p u ls)

abbrev pub is_some : {A : Type 0} → Option A → Bool
is_some None = false
is_some (Some a) = true

pushed_some : (m : Mark) (p : Spot) (u : Unary) (ls : Lefts 6) → is_some (pushed m p u ls) ≡ spec.is_operator m
pushed_some marks.Star p u (also a (also b (also c (also d (also e (also f no_left)))))) = refl
pushed_some marks.Slash p u (also a (also b (also c (also d (also e (also f no_left)))))) = refl
pushed_some marks.Percent p u (also a (also b (also c (also d (also e (also f no_left)))))) = refl
pushed_some marks.Plus p u (also a (also b (also c (also d (also e (also f no_left)))))) = refl
pushed_some marks.Minus p u (also a (also b (also c (also d (also e (also f no_left)))))) = refl
pushed_some marks.Less p u (also a (also b (also c (also d (also e (also f no_left)))))) = refl
pushed_some marks.Greater p u (also a (also b (also c (also d (also e (also f no_left)))))) = refl
pushed_some marks.LessEquals p u (also a (also b (also c (also d (also e (also f no_left)))))) = refl
pushed_some marks.GreaterEquals p u (also a (also b (also c (also d (also e (also f no_left)))))) = refl
pushed_some marks.StrictEquals p u (also a (also b (also c (also d (also e (also f no_left)))))) = refl
pushed_some marks.StrictNotEquals p u (also a (also b (also c (also d (also e (also f no_left)))))) = refl
pushed_some marks.And p u (also a (also b (also c (also d (also e (also f no_left)))))) = refl
pushed_some marks.Or p u (also a (also b (also c (also d (also e (also f no_left)))))) = refl
pushed_some _ p u (also a (also b (also c (also d (also e (also f no_left)))))) = refl

operated_at : (s : OfExpr) (q : Option (Lefts 6)) (l : code_level.Level) → l.base ≡ depth s → (b : Bool) → is_some q ≡ b → NotFresh q
    → Sim (elim q [ None ↦ None | Some r ↦ Some (want (level r []) s) ]) 0 (cond b (went (spec.in_expression at.Want (spec.later_at l.base l.base) (expr_stack s))) refused)
operated_at s None l e true h k = cc
operated_at s None l e false h k = refl
operated_at s (Some q) l e true h k = ap (λ z. went (spec.in_expression at.Want (spec.later_at z z) (expr_stack s))) e
    ∙ ap (λ z. went (spec.in_expression at.Want (record { bare = z; base = depth s; depth = depth s }) (expr_stack s))) (sym k)
operated_at s (Some q) l e false h k = cc

operated_sim : (u : Postfix) (l : Level) (s : OfExpr) (p : Spot) (m : Mark) → Sim (machine.operated l u s p m) 0 (spec.operated (level_of l s) (expr_stack s) m)
operated_sim u (level ls ps) s p m = operated_at s (pushed m p (wrap ps (postfix u)) ls) (level_of (level ls ps) s) refl (spec.is_operator m) (pushed_some m p (wrap ps (postfix u)) ls) (pushed_later m p (wrap ps (postfix u)) ls)

had_sim : (u : Postfix) (l : Level) (s : OfExpr) (p : Spot) (t : TokenKind) → Sim (machine.had u l s p t) (counting.index_opens (under l s) t) (spec.had (may_be (target_of u)) (level_of l s) (expr_stack s) t)
had_sim u l s p (kinds.Mark marks.Dot) = refl
had_sim u l s p (kinds.Mark marks.OpenBracket) = opened (under l s) _
had_sim u l s p (kinds.Mark marks.OpenParen) = opened (under l s) _
had_sim u l s p (kinds.Mark marks.CloseParen) = closed_sim u l s p
had_sim u l s p (kinds.Mark marks.CloseBracket) = bracketed_sim u l s p
had_sim u l s p (kinds.Mark marks.CloseBrace) = braced_sim u l s p
had_sim u l s p (kinds.Mark marks.Comma) = parted_sim u l s p
had_sim u l s p (kinds.Mark marks.Semicolon) = ended_sim u l s p
had_sim u l s p (kinds.Mark marks.Equals) = equated_sim u l s p
had_sim u l s p (kinds.Mark m) = operated_sim u l s p m
had_sim u l s p _ = refl

have_at : (o : Option Target) (l : code_level.Level) (st : List Open) (t : TokenKind) → spec.expression_moved (elim o [ None ↦ at.Have | Some g ↦ at.Target ]) l st t ≡ spec.had (may_be o) l st t
have_at None l st t = refl
have_at (Some g) l st t = refl

have_sim : (u : Postfix) (l : Level) (s : OfExpr) (p : Spot) (t : TokenKind) → Sim (machine.had u l s p t) (counting.index_opens (under l s) t) (spec.expression_moved (operand_at u) (level_of l s) (expr_stack s) t)
have_sim u l s p t = subst (λ z. Sim (machine.had u l s p t) (counting.index_opens (under l s) t) z) (sym (have_at (target_of u) (level_of l s) (expr_stack s) t)) (had_sim u l s p t)

argued_sim : (g : Postfix) (f : Spot) (es : Before Exprs) (l : Level) (s : OfExpr) (p : Spot) (t : TokenKind)
    → Sim (machine.argued g f es l s p t) (counting.operand_opens (suc (under l s)) t) (spec.list_goes_on marks.CloseParen (level_of fresh (in_call g f es l s)) (expr_stack (in_call g f es l s)) t)
argued_sim g f es l s p (kinds.Mark marks.CloseParen) = refl
argued_sim g f es l s p t = wanted_sim fresh (in_call g f es l s) p t

elemented_sim : (f : Spot) (es : Before Exprs) (l : Level) (s : OfExpr) (p : Spot) (t : TokenKind)
    → Sim (machine.elemented f es l s p t) (counting.operand_opens (suc (under l s)) t) (spec.list_goes_on marks.CloseBracket (level_of fresh (in_array f es l s)) (expr_stack (in_array f es l s)) t)
elemented_sim f es l s p (kinds.Mark marks.CloseBracket) = refl
elemented_sim f es l s p t = wanted_sim fresh (in_array f es l s) p t

giving_sim : (w : Spot) (n : Named) (ms : Members) (f : Spot) (es : Before Exprs) (l : Level) (s : OfExpr) (p : Spot) (t : TokenKind)
    → Sim (machine.giving w n ms f es l s p t) (counting.operand_opens (suc (suc (under l s))) t) (spec.list_goes_on marks.CloseParen (level_of fresh (in_new w n ms f es l s)) (expr_stack (in_new w n ms f es l s)) t)
giving_sim w n ms f es l s p (kinds.Mark marks.CloseParen) = refl
giving_sim w n ms f es l s p t = wanted_sim fresh (in_new w n ms f es l s) p t

newly_named_sim : (w : Spot) (n : Named) (ms : Members) (l : Level) (s : OfExpr) (p : Spot) (t : TokenKind)
    → Sim (machine.newly_named w n ms l s p t) (counting.list_opens (suc (under l s)) t) (spec.newly_named (level_of l s) (expr_stack s) t)
newly_named_sim w n ms l s p (kinds.Mark marks.Dot) = refl
newly_named_sim w n ms l s p (kinds.Mark marks.OpenParen) = opened_twice (under l s) _
newly_named_sim w n ms l s p _ = refl

propertied_sim : (f : Spot) (ps : Before PropList) (l : Level) (s : OfExpr) (p : Spot) (t : TokenKind)
    → Sim (machine.propertied f ps l s p t) 0 (spec.propertied (spec.fresh_at (suc (under l s))) (opens_on.Object (level_of l s) ∷ expr_stack s) t)
propertied_sim f ps l s p (kinds.Mark marks.CloseBrace) = refl
propertied_sim f ps l s p (kinds.Name n) = refl
propertied_sim f ps l s p (kinds.Word w) = refl
propertied_sim f ps l s p (kinds.Text t) = refl
propertied_sim f ps l s p _ = refl

name_keyed_sim : (f : Spot) (ps : Before PropList) (n : Named) (l : Level) (s : OfExpr) (p : Spot) (t : TokenKind)
    → Sim (machine.name_keyed f ps n l s p t) 0 (spec.name_keyed (spec.fresh_at (suc (under l s))) (opens_on.Object (level_of l s) ∷ expr_stack s) t)
name_keyed_sim f ps n l s p (kinds.Mark marks.Colon) = refl
name_keyed_sim f ps n l s p (kinds.Mark marks.Comma) = refl
name_keyed_sim f ps n l s p (kinds.Mark marks.CloseBrace) = refl
name_keyed_sim f ps n l s p _ = refl

where_sim : (b : Bool) (q : State) → Sim (cond b (Some q) None) 0 (cond b (went (shape q)) refused)
where_sim true q = refl
where_sim false q = refl

started_sim : (s : OfStmt) (p : Spot) (t : TokenKind) → Sim (machine.started s p t) (counting.stmt_opens (stmt_depth s) t) (spec.started (around s) (stmt_stack s) t)
started_sim s p (kinds.Mark marks.Semicolon) = refl
started_sim s p (kinds.Mark marks.OpenBrace) = opened (stmt_depth s) _
started_sim s p (kinds.Word words.If) = opened (stmt_depth s) _
started_sim s p (kinds.Word words.While) = opened (stmt_depth s) _
started_sim s p (kinds.Word words.Break) = where_sim (machine.in_loop s) (break_begun p s)
started_sim s p (kinds.Word words.Continue) = where_sim (machine.in_loop s) (continue_begun p s)
started_sim s p (kinds.Word words.Return) = where_sim (machine.in_function s) (return_begun p s)
started_sim s p (kinds.Word words.Throw) = refl
started_sim s p (kinds.Word words.Try) = refl
started_sim s p t = wanted_sim fresh (machine.in_expression s) p t

block_sim : (xs : Items) (b : OfBlock) (p : Spot) → Sim (machine.block_ended xs b p) 0 (spec.block_ended (block_stack b))
block_sim xs (block_of f s) p = refl
block_sim xs (try_of w f s) p = refl
block_sim xs (catch_of w b c f s) p = refl
block_sim xs (catch_name_of w b c f n t g s) p = refl
block_sim xs (function_of s w n f ps t g) p = refl

no_function : (b : OfBlock) → spec.function_begins (block_stack b) ≡ refused
no_function (block_of f s) = refl
no_function (try_of w f s) = refl
no_function (catch_of w b c f s) = refl
no_function (catch_name_of w b c f n t g s) = refl
no_function (function_of s w n f ps t g) = refl

itemed_sim : (o : OfItem) (p : Spot) (t : TokenKind) → Sim (machine.itemed o p t) (counting.stmt_opens (item_depth o) t) (spec.itemed (item_around o) (item_stack o) t)
itemed_sim (in_block xs b) p (kinds.Mark marks.CloseBrace) = block_sim xs b p
itemed_sim (in_script s) p (kinds.Mark marks.CloseBrace) = refl
itemed_sim (in_script s) p (kinds.Word words.Function) = refl
itemed_sim (in_block xs b) p (kinds.Word words.Function) = no_function b
itemed_sim o p (kinds.Word words.Let) = refl
itemed_sim o p (kinds.Word words.Const) = refl
itemed_sim o p t = started_sim (item_of o) p t

item_after : (o : OfItem) (x : Item) (p : Spot) (t : TokenKind) → Sim (machine.itemed (next_of o x) p t) (counting.stmt_opens (item_depth o) t)
    (spec.itemed (spec.settled (item_around o) (item_stack o) false).0 (spec.settled (item_around o) (item_stack o) false).1 t)
item_after (in_script s) x p t = itemed_sim (in_script (and_part s x)) p t
item_after (in_block xs (block_of f s)) x p t = itemed_sim (in_block (and_item xs x) (block_of f s)) p t
item_after (in_block xs (try_of w f s)) x p t = itemed_sim (in_block (and_item xs x) (try_of w f s)) p t
item_after (in_block xs (catch_of w b c f s)) x p t = itemed_sim (in_block (and_item xs x) (catch_of w b c f s)) p t
item_after (in_block xs (catch_name_of w b c f n q g s)) x p t = itemed_sim (in_block (and_item xs x) (catch_name_of w b c f n q g s)) p t
item_after (in_block xs (function_of s w n f ps q g)) x p t = itemed_sim (in_block (and_item xs x) (function_of s w n f ps q g)) p t

after_sim : (s : OfStmt) (st : Stmt) (p : Spot) (t : TokenKind) → Sim (machine.after st s p t) (counting.after_opens s t) (spec.after (around s) (stmt_stack s) t)
after_sim (item_of (in_script s)) st p (kinds.Word words.Else) = refl
after_sim (item_of (in_block xs (block_of f s))) st p (kinds.Word words.Else) = refl
after_sim (item_of (in_block xs (try_of w f s))) st p (kinds.Word words.Else) = refl
after_sim (item_of (in_block xs (catch_of w b c f s))) st p (kinds.Word words.Else) = refl
after_sim (item_of (in_block xs (catch_name_of w b c f n q g s))) st p (kinds.Word words.Else) = refl
after_sim (item_of (in_block xs (function_of s w n f ps q g))) st p (kinds.Word words.Else) = refl
after_sim (item_of o) st p t = item_after o (statement st) p t
after_sim (then_of w f e c s) st p (kinds.Word words.Else) = refl
after_sim (then_of w f e c s) st p t = after_sim s (if_then w f e c st) p t
after_sim (else_of w f e c a q s) st p (kinds.Word words.Else) = after_sim s (if_else w f e c a q st) p (kinds.Word words.Else)
after_sim (else_of w f e c a q s) st p t = after_sim s (if_else w f e c a q st) p t
after_sim (body_of w f e c s) st p (kinds.Word words.Else) = after_sim s (while_do w f e c st) p (kinds.Word words.Else)
after_sim (body_of w f e c s) st p t = after_sim s (while_do w f e c st) p t

let_goes_on_sim : (w : Spot) (ls : Before LetDecls) (n : Named) (o : OfItem) (p : Spot) (t : TokenKind) → Sim (machine.let_goes_on w ls n o p t) 0 (spec.let_goes_on (item_around o) (item_stack o) t)
let_goes_on_sim w ls n o p (kinds.Mark marks.Equals) = refl
let_goes_on_sim w ls n o p (kinds.Mark marks.Comma) = refl
let_goes_on_sim w ls n (in_script s) p (kinds.Mark marks.Semicolon) = refl
let_goes_on_sim w ls n (in_block xs b) p (kinds.Mark marks.Semicolon) = refl
let_goes_on_sim w ls n o p _ = refl

on_line_sim : (b : Bool) (o : Option State) (n : ℕ) (x : Outcome) → Sim o n x → Sim (cond b None o) n (cond b refused x)
on_line_sim true o n x h = refl
on_line_sim false o n x h = h

returned_sim : (w : Spot) (s : OfStmt) (p : Spot) (t : TokenKind) → Sim (machine.returned w s p t) (counting.operand_opens (stmt_depth s) t) (spec.returned p.after_line (around s) (stmt_stack s) t)
returned_sim w s p (kinds.Mark marks.Semicolon) = refl
returned_sim w s p t = on_line_sim p.after_line (machine.wanted fresh (in_return w s) p t) (counting.operand_opens (stmt_depth s) t) (spec.wanted (level_of fresh (in_return w s)) (expr_stack (in_return w s)) t) (wanted_sim fresh (in_return w s) p t)

parametered_sim : (s : Script) (w : Spot) (n : Named) (f : Spot) (ns : Before Names) (p : Spot) (t : TokenKind) → Sim (machine.parametered s w n f ns p t) 0 (spec.parametered [] t)
parametered_sim s w n f ns p (kinds.Mark marks.CloseParen) = refl
parametered_sim s w n f ns p (kinds.Name m) = refl
parametered_sim s w n f ns p _ = refl

parameter_goes_on_sim : (s : Script) (w : Spot) (n : Named) (f : Spot) (ns : Names) (p : Spot) (t : TokenKind) → Sim (machine.parameter_goes_on s w n f ns p t) 0 (spec.parameter_goes_on [] t)
parameter_goes_on_sim s w n f ns p (kinds.Mark marks.Comma) = refl
parameter_goes_on_sim s w n f ns p (kinds.Mark marks.CloseParen) = refl
parameter_goes_on_sim s w n f ns p _ = refl

caught_sim : (w : Spot) (b : Block) (c : Spot) (s : OfStmt) (p : Spot) (t : TokenKind) → Sim (machine.caught w b c s p t) (suc (stmt_depth s)) (spec.caught (around s) (stmt_stack s) t)
caught_sim w b c s p (kinds.Mark marks.OpenBrace) = opened (stmt_depth s) _
caught_sim w b c s p (kinds.Mark marks.OpenParen) = opened (stmt_depth s) _
caught_sim w b c s p _ = refl

-- a token of one kind, a name, or any name
mark_sim : (m : Mark) (t : TokenKind) (q : State) (n : ℕ) (x : Outcome) → x ≡ cond (nat_lt most_open n) too_deep (went (shape q)) → Sim (machine.at_mark m t q) n (spec.mark_to m x t)
mark_sim marks.OpenParen (kinds.Mark marks.OpenParen) q n x h = h
mark_sim marks.CloseParen (kinds.Mark marks.CloseParen) q n x h = h
mark_sim marks.OpenBrace (kinds.Mark marks.OpenBrace) q n x h = h
mark_sim marks.Semicolon (kinds.Mark marks.Semicolon) q n x h = h
mark_sim marks.Equals (kinds.Mark marks.Equals) q n x h = h
mark_sim marks.Colon (kinds.Mark marks.Colon) q n x h = h
mark_sim _ _ q n x h = refl

name_sim : (t : TokenKind) (q : List ℕ → State) (r : Reader) → ((n : List ℕ) → r ≡ shape (q n)) → Sim (machine.at_name t q) 0 (spec.name_to r t)
name_sim (kinds.Name n) q r h = ap went (h n)
name_sim _ q r h = refl

any_sim : (t : TokenKind) (p : Spot) (q : Any → State) (a : InExpression) (l : code_level.Level) (st : List Open) → ((x : Any) → spec.in_expression a l st ≡ shape (q x)) → Sim (machine.at_any (machine.any_at p t) q) 0 (spec.any_to a l st t)
any_sim (kinds.Name n) p q a l st h = ap went (h _)
any_sim (kinds.Word w) p q a l st h = ap went (h _)
any_sim _ p q a l st h = refl

catch_sim : (t : TokenKind) (q : State) → Sim (machine.at_catch t q) 0 (spec.catch_to (went (shape q)) t)
catch_sim (kinds.Word words.Catch) q = refl
catch_sim _ q = refl

pub moves_sim : (s : State) (p : Spot) (t : TokenKind) → Sim (machine.moved s p t) (counting.opens s t) (spec.moved (shape s) p.after_line t)
moves_sim (want l s) p t = wanted_sim l s p t
moves_sim (have u l s) p t = have_sim u l s p t
moves_sim (dotted u d l s) p t = any_sim t p (λ a. have (member u d a) l s) at.Target (level_of l s) (expr_stack s) (λ a. refl)
moves_sim (argument g f es l s) p t = argued_sim g f es l s p t
moves_sim (element f es l s) p t = elemented_sim f es l s p t
moves_sim (given w n ms f es l s) p t = giving_sim w n ms f es l s p t
moves_sim (new_begun w l s) p t = name_sim t (λ n. new_named w (machine.named_at n p) no_member l s) _ (λ n. refl)
moves_sim (new_named w n ms l s) p t = newly_named_sim w n ms l s p t
moves_sim (new_dotted w n ms d l s) p t = any_sim t p (λ a. new_named w n (and_member ms d a) l s) at.NewNamed (level_of l s) (expr_stack s) (λ a. refl)
moves_sim (property f ps l s) p t = propertied_sim f ps l s p t
moves_sim (named_key f ps n l s) p t = name_keyed_sim f ps n l s p t
moves_sim (other_key f ps k l s) p t = mark_sim marks.Colon t (want fresh (in_prop f ps k p l s)) 0 _ refl
moves_sim (items o) p t = itemed_sim o p t
moves_sim (begun s) p t = started_sim s p t
moves_sim (complete st s) p t = after_sim s st p t
moves_sim (if_begun w s) p t = mark_sim marks.OpenParen t (want fresh (in_if w p s)) (suc (suc (stmt_depth s))) _ (opened (suc (stmt_depth s)) _)
moves_sim (while_begun w s) p t = mark_sim marks.OpenParen t (want fresh (in_while w p s)) (suc (suc (stmt_depth s))) _ (opened (suc (stmt_depth s)) _)
moves_sim (break_begun w s) p t = mark_sim marks.Semicolon t (complete (break_off w p) s) 0 _ refl
moves_sim (continue_begun w s) p t = mark_sim marks.Semicolon t (complete (continue_on w p) s) 0 _ refl
moves_sim (return_begun w s) p t = returned_sim w s p t
moves_sim (throw_begun w s) p t = on_line_sim p.after_line (machine.wanted fresh (in_throw w s) p t) (counting.operand_opens (stmt_depth s) t) (spec.wanted (level_of fresh (in_throw w s)) (expr_stack (in_throw w s)) t) (wanted_sim fresh (in_throw w s) p t)
moves_sim (try_begun w s) p t = mark_sim marks.OpenBrace t (items (in_block no_item (try_of w p s))) (suc (stmt_depth s)) _ (opened (stmt_depth s) _)
moves_sim (try_read w b s) p t = catch_sim t (catch_begun w b p s)
moves_sim (catch_begun w b c s) p t = caught_sim w b c s p t
moves_sim (catch_opened w b c f s) p t = name_sim t (λ n. catch_named w b c f (machine.named_at n p) s) _ (λ n. refl)
moves_sim (catch_named w b c f n s) p t = mark_sim marks.CloseParen t (catch_closed w b c f n p s) 0 _ refl
moves_sim (catch_closed w b c f n q s) p t = mark_sim marks.OpenBrace t (items (in_block no_item (catch_name_of w b c f n q p s))) (suc (stmt_depth s)) _ (opened (stmt_depth s) _)
moves_sim (let_begun w ls o) p t = name_sim t (λ n. let_named w ls (machine.named_at n p) o) _ (λ n. refl)
moves_sim (let_named w ls n o) p t = let_goes_on_sim w ls n o p t
moves_sim (const_begun w ls o) p t = name_sim t (λ n. const_named w ls (machine.named_at n p) o) _ (λ n. refl)
moves_sim (const_named w ls n o) p t = mark_sim marks.Equals t (want fresh (in_const w ls n p o)) 0 _ refl
moves_sim (function_begun s w) p t = name_sim t (λ n. function_named s w (machine.named_at n p)) _ (λ n. refl)
moves_sim (function_named s w n) p t = mark_sim marks.OpenParen t (parameter s w n p machine.none_before) 1 _ refl
moves_sim (parameter s w n f ns) p t = parametered_sim s w n f ns p t
moves_sim (parameter_read s w n f ns) p t = parameter_goes_on_sim s w n f ns p t
moves_sim (parameters_read s w n f ps q) p t = mark_sim marks.OpenBrace t (items (in_block no_item (function_of s w n f ps q p))) 1 _ refl

-- the tokens may end where the machine accepts
settled_whole : (o : OfItem) (st : Stmt) → spec.is_empty (spec.settled (item_around o) (item_stack o) false).1 ≡ accepts (machine.ends st (item_of o))
settled_whole (in_script s) st = refl
settled_whole (in_block xs (block_of f s)) st = refl
settled_whole (in_block xs (try_of w f s)) st = refl
settled_whole (in_block xs (catch_of w b c f s)) st = refl
settled_whole (in_block xs (catch_name_of w b c f n q g s)) st = refl
settled_whole (in_block xs (function_of s w n f ps q g)) st = refl

ends_whole : (s : OfStmt) (st : Stmt) → spec.is_empty (spec.settled (around s) (stmt_stack s) false).1 ≡ accepts (machine.ends st s)
ends_whole (item_of o) st = settled_whole o st
ends_whole (then_of w f e c s) st = ends_whole s (if_then w f e c st)
ends_whole (else_of w f e c a q s) st = ends_whole s (if_else w f e c a q st)
ends_whole (body_of w f e c s) st = ends_whole s (while_do w f e c st)

pub whole_sim : (s : State) → spec.is_whole (shape s) ≡ accepts (machine.accept s)
whole_sim (items (in_script s)) = refl
whole_sim (items (in_block xs (block_of f s))) = refl
whole_sim (items (in_block xs (try_of w f s))) = refl
whole_sim (items (in_block xs (catch_of w b c f s))) = refl
whole_sim (items (in_block xs (catch_name_of w b c f n q g s))) = refl
whole_sim (items (in_block xs (function_of s w n f ps q g))) = refl
whole_sim (complete st s) = ends_whole s st
whole_sim _ = refl

pub stepped : (s : State) (r : Reader) (t : Token) (m : Move) (q : Reader) → shape s ≡ r → Moves (spec.moved r t.after_line t.kind) m q → Follows (machine.step s (seen t)) (counting.opens s t.kind) m q
stepped s r t m q h k = follows (machine.step s (seen t)) (counting.opens s t.kind) (spec.moved r t.after_line t.kind) m q
    (subst (λ z. Sim (machine.step s (seen t)) (counting.opens s t.kind) (spec.moved z t.after_line t.kind)) h (moves_sim s (seen t).spot t.kind)) k
