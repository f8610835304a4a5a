-- What the reader has read is what its state spells, and each token opens as many constructs as are counted.
use Rattle.std.specs.Prelude.{◌≡◌, ℕ, zero, suc, List, [], ◌∷◌, Option, Some, None, Bool, true, false, cond, refl}
use Rattle.std.proofs.Common.{sym, ◌∙◌, ap}
use Rattle.host_lexer.specs.declared.token.Word.TheVariants as words
use Rattle.host_lexer.specs.declared.token.Mark.{Mark}
use Rattle.host_lexer.specs.declared.token.Mark.TheVariants as marks
use Rattle.host_lexer.specs.declared.token.TokenKind.{TokenKind}
use Rattle.host_lexer.specs.declared.token.TokenKind.TheVariants as kinds
use Rattle.host_grammar.specs.Derivations.{Any, Block, ConstDecl, ConstDecls, Expr, Exprs, Item, Items, LetDecl, LetDecls, Members, Named, Names, Operator, Postfix, Prop, PropList, Script, Spot, Stmt, Target, Unary, and, and_member, and_part, any_name, any_word, array, break_off, call, continue_on, divided, equals, greater, greater_equals, if_else, if_then, index, less, less_equals, literal, member, minus, name, new, no_item, no_member, not_equals, object, or, paren, plus, postfix, primary, remainder, statement, times, to_index, to_member, to_name, while_do}
use Rattle.host_grammar.specs.Printing.{Printed, any_of, chain_then, const_then, consts_then, exprs_then, item_then, let_then, lets_then, listed_then, mark, name_of, names_then, operator_mark, params_then, plain, postfix_then, prop_list_then, prop_then, props_then, script_then, stmt_then, target_then, unary_then, word}
use Rattle.host_grammar.specs.Machine.{Before, Left, Lefts, Level, OfBlock, OfExpr, OfItem, OfStmt, Sigil, State, accept, after, also, any_at, argued, argument, assigned, at_any, at_catch, at_mark, at_name, before, begun, block_ended, block_of, body_of, braced, bracketed, break_begun, catch_begun, catch_closed, catch_name_of, catch_named, catch_of, catch_opened, caught, close, closed, comma_after, complete, const_begun, const_named, consts_with, continue_begun, dotted, element, elemented, else_of, ended, ends, equated, exprs_with, fresh, fresh_lefts, function_begun, function_named, function_of, given, giving, had, have, if_begun, in_array, in_assign, in_block, in_call, in_const, in_expression, in_function, in_if, in_index, in_let, in_loop, in_new, in_paren, in_prop, in_return, in_script, in_throw, in_while, is_fresh, item_of, itemed, items, let_begun, let_goes_on, let_named, lets_with, level, listed_of, moved, name_keyed, named_at, named_key, names_with, new_begun, new_dotted, new_named, newly_named, next_of, no_left, none_before, nothing_left, operated, operator_at, other_key, parameter, parameter_goes_on, parameter_read, parametered, parameters_read, params_of, parted, propertied, property, props_of, props_with, pushed, return_begun, returned, started, target_of, then_of, throw_begun, try_begun, try_of, try_read, want, wanted, while_begun, with_left, wrap}
use Rattle.host_grammar.specs.Spelling.{consts_before, depth, expr_before, exprs_before, item_before, item_depth, left_then, lefts_then, lets_before, names_before, props_before, state_then, stmt_before, stmt_depth, under}
use Rattle.host_grammar.specs.Counting.{after_opens, index_opens, list_opens, opens, operand_opens, stmt_opens}
use Rattle.host_grammar.proofs.Closing.{close_then, expr_of_then, with_left_then, wrap_then}

exprs_with_then : (d : ℕ) (b : Before Exprs) (e : Expr) (y : List Printed) → exprs_then d (exprs_with b e) y ≡ exprs_before d b (chain_then d e y)
exprs_with_then d none_before e y = refl
exprs_with_then d (comma_after es c) e y = refl

listed_of_then : (d : ℕ) (b : Before Exprs) (y : List Printed) → listed_then d (listed_of b) y ≡ exprs_before d b y
listed_of_then d none_before y = refl
listed_of_then d (comma_after es c) y = refl

props_with_then : (d : ℕ) (b : Before PropList) (p : Prop) (y : List Printed) → prop_list_then d (props_with b p) y ≡ props_before d b (prop_then d p y)
props_with_then d none_before p y = refl
props_with_then d (comma_after ps c) p y = refl

props_of_then : (d : ℕ) (b : Before PropList) (y : List Printed) → props_then d (props_of b) y ≡ props_before d b y
props_of_then d none_before y = refl
props_of_then d (comma_after ps c) y = refl

lets_with_then : (d : ℕ) (b : Before LetDecls) (l : LetDecl) (y : List Printed) → lets_then d (lets_with b l) y ≡ lets_before d b (let_then d l y)
lets_with_then d none_before l y = refl
lets_with_then d (comma_after ls c) l y = refl

consts_with_then : (d : ℕ) (b : Before ConstDecls) (l : ConstDecl) (y : List Printed) → consts_then d (consts_with b l) y ≡ consts_before d b (const_then d l y)
consts_with_then d none_before l y = refl
consts_with_then d (comma_after ls c) l y = refl

names_with_then : (b : Before Names) (n : Named) (y : List Printed) → names_then (names_with b n) y ≡ names_before b (name_of n ∷ y)
names_with_then none_before n y = refl
names_with_then (comma_after ns c) n y = refl

params_of_then : (b : Before Names) (y : List Printed) → params_then (params_of b) y ≡ names_before b y
params_of_then none_before y = refl
params_of_then (comma_after ns c) y = refl

next_of_then : (o : OfItem) (x : Item) (y : List Printed) → item_before (next_of o x) y ≡ item_before o (item_then (item_depth o) x y)
next_of_then (in_script s) x y = refl
next_of_then (in_block xs b) x y = refl

next_of_depth : (o : OfItem) (x : Item) → item_depth (next_of o x) ≡ item_depth o
next_of_depth (in_script s) x = refl
next_of_depth (in_block xs b) x = refl

-- a token that opens the n-th construct, or none
abbrev pub printed : ℕ → TokenKind → Spot → Printed
printed n k p = record { sign = record { kind = k; spot = p }; nth = n }

-- what the state after a token spells, where there is one
abbrev pub Spells : Option State → (List Printed → List Printed) → Printed → Type 0
Spells None f m = Unit {0}
Spells (Some r) f m = (y : List Printed) → state_then r y ≡ f (m ∷ y)

wanted_spells : (l : Level) (s : OfExpr) (p : Spot) (t : TokenKind) → Spells (wanted l s p t) (state_then (want l s)) (printed (operand_opens (under l s) t) t p)
wanted_spells l s p (kinds.Name n) = λ y. refl
wanted_spells l s p (kinds.Number n) = λ y. refl
wanted_spells l s p (kinds.BigInt n) = λ y. refl
wanted_spells l s p (kinds.Text n) = λ y. refl
wanted_spells l s p (kinds.Word words.True) = λ y. refl
wanted_spells l s p (kinds.Word words.False) = λ y. refl
wanted_spells l s p (kinds.Word words.Null) = λ y. refl
wanted_spells l s p (kinds.Word words.Undefined) = λ y. refl
wanted_spells (level ls ps) s p (kinds.Word words.TypeOf) = λ y. refl
wanted_spells l s p (kinds.Word words.New) = λ y. refl
wanted_spells (level ls ps) s p (kinds.Mark marks.Minus) = λ y. refl
wanted_spells (level ls ps) s p (kinds.Mark marks.Not) = λ y. refl
wanted_spells l s p (kinds.Mark marks.OpenParen) = λ y. refl
wanted_spells l s p (kinds.Mark marks.OpenBracket) = λ y. refl
wanted_spells l s p (kinds.Mark marks.OpenBrace) = λ y. refl
wanted_spells l s p _ = tt

closed_spells : (u : Postfix) (l : Level) (s : OfExpr) (p : Spot) → Spells (closed u l s p) (state_then (have u l s)) (mark marks.CloseParen p)
closed_spells u l (in_paren f k s) p = λ y. simp expr_of_then
closed_spells u l (in_call g f es k s) p = λ y. simp (exprs_with_then, expr_of_then)
closed_spells u l (in_new w n ms f es k s) p = λ y. simp (exprs_with_then, expr_of_then)
closed_spells u l (in_if w f s) p = λ y. simp expr_of_then
closed_spells u l (in_while w f s) p = λ y. simp expr_of_then
closed_spells u l _ p = tt

bracketed_spells : (u : Postfix) (l : Level) (s : OfExpr) (p : Spot) → Spells (bracketed u l s p) (state_then (have u l s)) (mark marks.CloseBracket p)
bracketed_spells u l (in_index g f k s) p = λ y. simp expr_of_then
bracketed_spells u l (in_array f es k s) p = λ y. simp (exprs_with_then, expr_of_then)
bracketed_spells u l _ p = tt

braced_spells : (u : Postfix) (l : Level) (s : OfExpr) (p : Spot) → Spells (braced u l s p) (state_then (have u l s)) (mark marks.CloseBrace p)
braced_spells u l (in_prop f ps k c m s) p = λ y. simp (props_with_then, expr_of_then)
braced_spells u l _ p = tt

parted_spells : (u : Postfix) (l : Level) (s : OfExpr) (p : Spot) → Spells (parted u l s p) (state_then (have u l s)) (mark marks.Comma p)
parted_spells u l (in_call g f es k s) p = λ y. simp (exprs_with_then, expr_of_then)
parted_spells u l (in_new w n ms f es k s) p = λ y. simp (exprs_with_then, expr_of_then)
parted_spells u l (in_array f es k s) p = λ y. simp (exprs_with_then, expr_of_then)
parted_spells u l (in_prop f ps k c m s) p = λ y. simp (props_with_then, expr_of_then)
parted_spells u l (in_let w ls n m o) p = λ y. simp (lets_with_then, expr_of_then)
parted_spells u l (in_const w ls n m o) p = λ y. simp (consts_with_then, expr_of_then)
parted_spells u l _ p = tt

ended_spells : (u : Postfix) (l : Level) (s : OfExpr) (p : Spot) → Spells (ended u l s p) (state_then (have u l s)) (mark marks.Semicolon p)
ended_spells u l (in_expression s) p = λ y. simp expr_of_then
ended_spells u l (in_assign g m s) p = λ y. simp expr_of_then
ended_spells u l (in_return w s) p = λ y. simp expr_of_then
ended_spells u l (in_throw w s) p = λ y. simp expr_of_then
ended_spells u l (in_let w ls n m o) p = λ y. simp (next_of_then, lets_with_then, expr_of_then)
ended_spells u l (in_const w ls n m o) p = λ y. simp (next_of_then, consts_with_then, expr_of_then)
ended_spells u l _ p = tt

-- a level with nothing open spells nothing
fresh_spells : {n : ℕ} (d : ℕ) (ls : Lefts n) (y : List Printed) → is_fresh ls ≡ true → lefts_then d ls y ≡ y
fresh_spells d no_left y h = refl
fresh_spells d (also nothing_left ls) y h = fresh_spells d ls y h
fresh_spells d (also (before c o p) ls) y h = cc

target_spells : (d : ℕ) (u : Postfix) (g : Target) (y : List Printed) → target_of u ≡ Some g → target_then d g y ≡ postfix_then d u y
target_spells d (primary (literal l p)) g y h = cc
target_spells d (primary (name n)) g y h = let e : to_name n ≡ g = cc in ap (λ x. target_then d x y) (sym e)
target_spells d (primary (paren f e t)) g y h = cc
target_spells d (primary (array f l t)) g y h = cc
target_spells d (primary (object f ps t)) g y h = cc
target_spells d (primary (new w n ms f l t)) g y h = cc
target_spells d (member u q a) g y h = let e : to_member u q a ≡ g = cc in ap (λ x. target_then d x y) (sym e)
target_spells d (index u f e t) g y h = let e : to_index u f e t ≡ g = cc in ap (λ x. target_then d x y) (sym e)
target_spells d (call u f l t) g y h = cc

assigned_spells : (u : Postfix) (ls : Lefts 6) (s : OfStmt) (p : Spot) (o : Option Target) → target_of u ≡ o → (b : Bool) → is_fresh ls ≡ b
    → Spells (cond b (assigned o s p) None) (state_then (have u (level ls []) (in_expression s))) (mark marks.Equals p)
assigned_spells u ls s p None e true h = tt
assigned_spells u ls s p (Some g) e true h = λ y. ap (stmt_before s) (target_spells (stmt_depth s) u g (mark marks.Equals p ∷ y) e ∙ sym (fresh_spells (stmt_depth s) ls _ h))
assigned_spells u ls s p o e false h = tt

equated_spells : (u : Postfix) (l : Level) (s : OfExpr) (p : Spot) → Spells (equated u l s p) (state_then (have u l s)) (mark marks.Equals p)
equated_spells u (level ls []) (in_expression s) p = assigned_spells u ls s p (target_of u) refl (is_fresh ls) refl
equated_spells u l s p = tt

-- an operator
operator_again : (n : ℕ) (m : Mark) (o : Operator n) → operator_at n m ≡ Some o → operator_mark o ≡ m
operator_again zero marks.Star o h = let e : times ≡ o = cc in ap operator_mark (sym e)
operator_again zero marks.Slash o h = let e : divided ≡ o = cc in ap operator_mark (sym e)
operator_again zero marks.Percent o h = let e : remainder ≡ o = cc in ap operator_mark (sym e)
operator_again (suc zero) marks.Plus o h = let e : plus ≡ o = cc in ap operator_mark (sym e)
operator_again (suc zero) marks.Minus o h = let e : minus ≡ o = cc in ap operator_mark (sym e)
operator_again (suc (suc zero)) marks.Less o h = let e : less ≡ o = cc in ap operator_mark (sym e)
operator_again (suc (suc zero)) marks.Greater o h = let e : greater ≡ o = cc in ap operator_mark (sym e)
operator_again (suc (suc zero)) marks.LessEquals o h = let e : less_equals ≡ o = cc in ap operator_mark (sym e)
operator_again (suc (suc zero)) marks.GreaterEquals o h = let e : greater_equals ≡ o = cc in ap operator_mark (sym e)
operator_again (suc (suc (suc zero))) marks.StrictEquals o h = let e : equals ≡ o = cc in ap operator_mark (sym e)
operator_again (suc (suc (suc zero))) marks.StrictNotEquals o h = let e : not_equals ≡ o = cc in ap operator_mark (sym e)
operator_again (suc (suc (suc (suc zero)))) marks.And o h = let e : and ≡ o = cc in ap operator_mark (sym e)
operator_again (suc (suc (suc (suc (suc zero))))) marks.Or o h = let e : or ≡ o = cc in ap operator_mark (sym e)
operator_again _ _ o h = cc

fresh_then : (d n : ℕ) (y : List Printed) → lefts_then d (fresh_lefts n) y ≡ y
fresh_then d zero y = refl
fresh_then d (suc n) y = fresh_then d n y

-- what the levels after an operator spell
abbrev pub LeftsSpell : {n : ℕ} → ℕ → Option (Lefts n) → List Printed → (List Printed → List Printed) → List Printed → Type 0
LeftsSpell d None z f y = Unit {0}
LeftsSpell d (Some q) z f y = lefts_then d q y ≡ f z

pushed_here : (d : ℕ) (m : Mark) (p : Spot) (u : Unary) {n : ℕ} (l : Left n) (ls : Lefts n) (y : List Printed) (o : Option (Operator n)) → operator_at n m ≡ o
    → (q : Option (Lefts n)) → LeftsSpell d q (mark m p ∷ y) (λ z. lefts_then d ls (unary_then d u z)) y
    → LeftsSpell d (elim o [
      | Some x ↦ Some (also (before (with_left l (close ls u)) x p) (fresh_lefts n))
      | None ↦ elim q [ None ↦ None | Some r ↦ Some (also l r) ]
    ]) (mark m p ∷ y) (λ z. left_then d l (lefts_then d ls (unary_then d u z))) y
pushed_here d m p u {n} l ls y (Some o) e q h = with_left_then d l (close ls u) _ ∙ ap (left_then d l) (close_then d ls u _
    ∙ ap (λ z. lefts_then d ls (unary_then d u z)) (ap (λ z. mark (operator_mark o) p ∷ z) (fresh_then d n y) ∙ ap (λ x. mark x p ∷ y) (operator_again n m o e)))
pushed_here d m p u {n} l ls y None e None h = tt
pushed_here d m p u {n} l ls y None e (Some r) h = ap (left_then d l) h

pub pushed_spells : (d : ℕ) (m : Mark) (p : Spot) (u : Unary) {n : ℕ} (ls : Lefts n) (y : List Printed) → LeftsSpell d (pushed m p u ls) (mark m p ∷ y) (λ z. lefts_then d ls (unary_then d u z)) y
pushed_spells d m p u no_left y = tt
pushed_spells d m p u (also {n} l ls) y = pushed_here d m p u l ls y (operator_at n m) refl (pushed m p u ls) (pushed_spells d m p u ls y)

operated_on : (u : Postfix) (ls : Lefts 6) (ps : List Sigil) (s : OfExpr) (p : Spot) (m : Mark) (q : Option (Lefts 6))
    → ((y : List Printed) → LeftsSpell (depth s) q (mark m p ∷ y) (λ z. lefts_then (depth s) ls (unary_then (depth s) (wrap ps (postfix u)) z)) y)
    → Spells (elim q [ None ↦ None | Some r ↦ Some (want (level r []) s) ]) (state_then (have u (level ls ps) s)) (mark m p)
operated_on u ls ps s p m None h = tt
operated_on u ls ps s p m (Some q) h = λ y. ap (expr_before s) (h y ∙ ap (lefts_then (depth s) ls) (wrap_then (depth s) ps (postfix u) (mark m p ∷ y)))

operated_spells : (u : Postfix) (l : Level) (s : OfExpr) (p : Spot) (m : Mark) → Spells (operated l u s p m) (state_then (have u l s)) (mark m p)
operated_spells u (level ls ps) s p m = operated_on u ls ps s p m (pushed m p (wrap ps (postfix u)) ls) (λ y. pushed_spells (depth s) m p (wrap ps (postfix u)) ls y)

had_spells : (u : Postfix) (l : Level) (s : OfExpr) (p : Spot) (t : TokenKind) → Spells (had u l s p t) (state_then (have u l s)) (printed (index_opens (under l s) t) t p)
had_spells u l s p (kinds.Mark marks.Dot) = λ y. refl
had_spells u l s p (kinds.Mark marks.OpenBracket) = λ y. refl
had_spells u l s p (kinds.Mark marks.OpenParen) = λ y. refl
had_spells u l s p (kinds.Mark marks.CloseParen) = closed_spells u l s p
had_spells u l s p (kinds.Mark marks.CloseBracket) = bracketed_spells u l s p
had_spells u l s p (kinds.Mark marks.CloseBrace) = braced_spells u l s p
had_spells u l s p (kinds.Mark marks.Comma) = parted_spells u l s p
had_spells u l s p (kinds.Mark marks.Semicolon) = ended_spells u l s p
had_spells u l s p (kinds.Mark marks.Equals) = equated_spells u l s p
had_spells u l s p (kinds.Mark m) = operated_spells u l s p m
had_spells u l s p _ = tt

argued_spells : (g : Postfix) (f : Spot) (es : Before Exprs) (l : Level) (s : OfExpr) (p : Spot) (t : TokenKind)
    → Spells (argued g f es l s p t) (state_then (argument g f es l s)) (printed (operand_opens (suc (under l s)) t) t p)
argued_spells g f es l s p (kinds.Mark marks.CloseParen) = λ y. simp listed_of_then
argued_spells g f es l s p t = wanted_spells fresh (in_call g f es l s) p t

elemented_spells : (f : Spot) (es : Before Exprs) (l : Level) (s : OfExpr) (p : Spot) (t : TokenKind)
    → Spells (elemented f es l s p t) (state_then (element f es l s)) (printed (operand_opens (suc (under l s)) t) t p)
elemented_spells f es l s p (kinds.Mark marks.CloseBracket) = λ y. simp listed_of_then
elemented_spells f es l s p t = wanted_spells fresh (in_array f es l s) p t

giving_spells : (w : Spot) (n : Named) (ms : Members) (f : Spot) (es : Before Exprs) (l : Level) (s : OfExpr) (p : Spot) (t : TokenKind)
    → Spells (giving w n ms f es l s p t) (state_then (given w n ms f es l s)) (printed (operand_opens (suc (suc (under l s))) t) t p)
giving_spells w n ms f es l s p (kinds.Mark marks.CloseParen) = λ y. simp listed_of_then
giving_spells w n ms f es l s p t = wanted_spells fresh (in_new w n ms f es l s) p t

newly_named_spells : (w : Spot) (n : Named) (ms : Members) (l : Level) (s : OfExpr) (p : Spot) (t : TokenKind)
    → Spells (newly_named w n ms l s p t) (state_then (new_named w n ms l s)) (printed (list_opens (suc (under l s)) t) t p)
newly_named_spells w n ms l s p (kinds.Mark marks.Dot) = λ y. refl
newly_named_spells w n ms l s p (kinds.Mark marks.OpenParen) = λ y. refl
newly_named_spells w n ms l s p _ = tt

propertied_spells : (f : Spot) (ps : Before PropList) (l : Level) (s : OfExpr) (p : Spot) (t : TokenKind) → Spells (propertied f ps l s p t) (state_then (property f ps l s)) (plain t p)
propertied_spells f ps l s p (kinds.Mark marks.CloseBrace) = λ y. simp props_of_then
propertied_spells f ps l s p (kinds.Name n) = λ y. refl
propertied_spells f ps l s p (kinds.Word w) = λ y. refl
propertied_spells f ps l s p (kinds.Text t) = λ y. refl
propertied_spells f ps l s p _ = tt

name_keyed_spells : (f : Spot) (ps : Before PropList) (n : Named) (l : Level) (s : OfExpr) (p : Spot) (t : TokenKind) → Spells (name_keyed f ps n l s p t) (state_then (named_key f ps n l s)) (plain t p)
name_keyed_spells f ps n l s p (kinds.Mark marks.Colon) = λ y. refl
name_keyed_spells f ps n l s p (kinds.Mark marks.Comma) = λ y. simp props_with_then
name_keyed_spells f ps n l s p (kinds.Mark marks.CloseBrace) = λ y. simp props_with_then
name_keyed_spells f ps n l s p _ = tt

break_spells : (s : OfStmt) (p : Spot) (b : Bool) → Spells (cond b (Some (break_begun p s)) None) (state_then (begun s)) (word words.Break p)
break_spells s p true = λ y. refl
break_spells s p false = tt

continue_spells : (s : OfStmt) (p : Spot) (b : Bool) → Spells (cond b (Some (continue_begun p s)) None) (state_then (begun s)) (word words.Continue p)
continue_spells s p true = λ y. refl
continue_spells s p false = tt

return_spells : (s : OfStmt) (p : Spot) (b : Bool) → Spells (cond b (Some (return_begun p s)) None) (state_then (begun s)) (word words.Return p)
return_spells s p true = λ y. refl
return_spells s p false = tt

started_spells : (s : OfStmt) (p : Spot) (t : TokenKind) → Spells (started s p t) (state_then (begun s)) (printed (stmt_opens (stmt_depth s) t) t p)
started_spells s p (kinds.Mark marks.Semicolon) = λ y. refl
started_spells s p (kinds.Mark marks.OpenBrace) = λ y. refl
started_spells s p (kinds.Word words.If) = λ y. refl
started_spells s p (kinds.Word words.While) = λ y. refl
started_spells s p (kinds.Word words.Break) = break_spells s p (in_loop s)
started_spells s p (kinds.Word words.Continue) = continue_spells s p (in_loop s)
started_spells s p (kinds.Word words.Return) = return_spells s p (in_function s)
started_spells s p (kinds.Word words.Throw) = λ y. refl
started_spells s p (kinds.Word words.Try) = λ y. refl
started_spells s p t = wanted_spells fresh (in_expression s) p t

block_ended_spells : (xs : Items) (b : OfBlock) (p : Spot) → Spells (block_ended xs b p) (state_then (items (in_block xs b))) (mark marks.CloseBrace p)
block_ended_spells xs (block_of f s) p = λ y. refl
block_ended_spells xs (try_of w f s) p = λ y. refl
block_ended_spells xs (catch_of w b c f s) p = λ y. refl
block_ended_spells xs (catch_name_of w b c f n t g s) p = λ y. refl
block_ended_spells xs (function_of s w n f ps t g) p = λ y. refl

itemed_spells : (o : OfItem) (p : Spot) (t : TokenKind) → Spells (itemed o p t) (state_then (items o)) (printed (stmt_opens (item_depth o) t) t p)
itemed_spells (in_block xs b) p (kinds.Mark marks.CloseBrace) = block_ended_spells xs b p
itemed_spells (in_script s) p (kinds.Word words.Function) = λ y. refl
itemed_spells o p (kinds.Word words.Let) = λ y. refl
itemed_spells o p (kinds.Word words.Const) = λ y. refl
itemed_spells o p t = started_spells (item_of o) p t

-- spelling after a part that is the same
spells_at : (o : Option State) (f g : List Printed → List Printed) (m n : Printed) → ((y : List Printed) → f (m ∷ y) ≡ g (n ∷ y)) → Spells o f m → Spells o g n
spells_at None f g m n e h = tt
spells_at (Some r) f g m n e h = λ y. h y ∙ e y

after_item_spells : (st : Stmt) (o : OfItem) (p : Spot) (t : TokenKind) (y : List Printed)
    → state_then (items (next_of o (statement st))) (printed (stmt_opens (item_depth (next_of o (statement st))) t) t p ∷ y)
    ≡ state_then (complete st (item_of o)) (printed (stmt_opens (item_depth o) t) t p ∷ y)
after_item_spells st o p t y = next_of_then o (statement st) _ ∙ ap (λ d. item_before o (stmt_then (item_depth o) st (printed (stmt_opens d t) t p ∷ y))) (next_of_depth o (statement st))

after_spells : (s : OfStmt) (st : Stmt) (p : Spot) (t : TokenKind) → Spells (after st s p t) (state_then (complete st s)) (printed (after_opens s t) t p)
after_spells (item_of o) st p t = spells_at (itemed (next_of o (statement st)) p t) (state_then (items (next_of o (statement st)))) (state_then (complete st (item_of o)))
    (printed (stmt_opens (item_depth (next_of o (statement st))) t) t p) (printed (stmt_opens (item_depth o) t) t p) (after_item_spells st o p t) (itemed_spells (next_of o (statement st)) p t)
after_spells (then_of w f e c s) st p (kinds.Word words.Else) = λ y. refl
after_spells (then_of w f e c s) st p t = after_spells s (if_then w f e c st) p t
after_spells (else_of w f e c a q s) st p t = after_spells s (if_else w f e c a q st) p t
after_spells (body_of w f e c s) st p t = after_spells s (while_do w f e c st) p t

let_goes_on_spells : (w : Spot) (ls : Before LetDecls) (n : Named) (o : OfItem) (p : Spot) (t : TokenKind) → Spells (let_goes_on w ls n o p t) (state_then (let_named w ls n o)) (plain t p)
let_goes_on_spells w ls n o p (kinds.Mark marks.Equals) = λ y. refl
let_goes_on_spells w ls n o p (kinds.Mark marks.Comma) = λ y. simp lets_with_then
let_goes_on_spells w ls n o p (kinds.Mark marks.Semicolon) = λ y. simp (next_of_then, lets_with_then)
let_goes_on_spells w ls n o p _ = tt

on_line_spells : (b : Bool) (o : Option State) (f : List Printed → List Printed) (m : Printed) → Spells o f m → Spells (cond b None o) f m
on_line_spells true o f m h = tt
on_line_spells false o f m h = h

returned_spells : (w : Spot) (s : OfStmt) (p : Spot) (t : TokenKind) → Spells (returned w s p t) (state_then (return_begun w s)) (printed (operand_opens (stmt_depth s) t) t p)
returned_spells w s p (kinds.Mark marks.Semicolon) = λ y. refl
returned_spells w s p t = on_line_spells p.after_line (wanted fresh (in_return w s) p t) (state_then (return_begun w s)) (printed (operand_opens (stmt_depth s) t) t p) (wanted_spells fresh (in_return w s) p t)

parametered_spells : (s : Script) (w : Spot) (n : Named) (f : Spot) (ns : Before Names) (p : Spot) (t : TokenKind) → Spells (parametered s w n f ns p t) (state_then (parameter s w n f ns)) (plain t p)
parametered_spells s w n f ns p (kinds.Mark marks.CloseParen) = λ y. simp params_of_then
parametered_spells s w n f ns p (kinds.Name m) = λ y. simp names_with_then
parametered_spells s w n f ns p _ = tt

parameter_goes_on_spells : (s : Script) (w : Spot) (n : Named) (f : Spot) (ns : Names) (p : Spot) (t : TokenKind) → Spells (parameter_goes_on s w n f ns p t) (state_then (parameter_read s w n f ns)) (plain t p)
parameter_goes_on_spells s w n f ns p (kinds.Mark marks.Comma) = λ y. refl
parameter_goes_on_spells s w n f ns p (kinds.Mark marks.CloseParen) = λ y. refl
parameter_goes_on_spells s w n f ns p _ = tt

caught_spells : (w : Spot) (b : Block) (c : Spot) (s : OfStmt) (p : Spot) (t : TokenKind) → Spells (caught w b c s p t) (state_then (catch_begun w b c s)) (printed (suc (stmt_depth s)) t p)
caught_spells w b c s p (kinds.Mark marks.OpenBrace) = λ y. refl
caught_spells w b c s p (kinds.Mark marks.OpenParen) = λ y. refl
caught_spells w b c s p _ = tt

-- a token of one kind, a name, or any name
mark_spells : (m : Mark) (t : TokenKind) (r : State) (f : List Printed → List Printed) (n : ℕ) (p : Spot) → ((y : List Printed) → state_then r y ≡ f (printed n (kinds.Mark m) p ∷ y)) → Spells (at_mark m t r) f (printed n t p)
mark_spells marks.OpenParen (kinds.Mark marks.OpenParen) r f n p h = h
mark_spells marks.CloseParen (kinds.Mark marks.CloseParen) r f n p h = h
mark_spells marks.OpenBrace (kinds.Mark marks.OpenBrace) r f n p h = h
mark_spells marks.Semicolon (kinds.Mark marks.Semicolon) r f n p h = h
mark_spells marks.Equals (kinds.Mark marks.Equals) r f n p h = h
mark_spells marks.Colon (kinds.Mark marks.Colon) r f n p h = h
mark_spells _ _ r f n p h = tt

name_spells : (t : TokenKind) (r : List ℕ → State) (f : List Printed → List Printed) (p : Spot) → ((n : List ℕ) (y : List Printed) → state_then (r n) y ≡ f (name_of (named_at n p) ∷ y)) → Spells (at_name t r) f (plain t p)
name_spells (kinds.Name n) r f p h = h n
name_spells _ r f p h = tt

any_spells : (t : TokenKind) (r : Any → State) (f : List Printed → List Printed) (p : Spot) → ((a : Any) (y : List Printed) → state_then (r a) y ≡ f (any_of a ∷ y)) → Spells (at_any (any_at p t) r) f (plain t p)
any_spells (kinds.Name n) r f p h = h (any_name (named_at n p))
any_spells (kinds.Word w) r f p h = h (any_word w p)
any_spells _ r f p h = tt

catch_spells : (t : TokenKind) (r : State) (f : List Printed → List Printed) (p : Spot) → ((y : List Printed) → state_then r y ≡ f (word words.Catch p ∷ y)) → Spells (at_catch t r) f (plain t p)
catch_spells (kinds.Word words.Catch) r f p h = h
catch_spells _ r f p h = tt

pub moves_spell : (s : State) (p : Spot) (t : TokenKind) → Spells (moved s p t) (state_then s) (printed (opens s t) t p)
moves_spell (want l s) p t = wanted_spells l s p t
moves_spell (have u l s) p t = had_spells u l s p t
moves_spell (dotted u d l s) p t = any_spells t (λ a. have (member u d a) l s) (state_then (dotted u d l s)) p (λ a y. refl)
moves_spell (argument g f es l s) p t = argued_spells g f es l s p t
moves_spell (element f es l s) p t = elemented_spells f es l s p t
moves_spell (given w n ms f es l s) p t = giving_spells w n ms f es l s p t
moves_spell (new_begun w l s) p t = name_spells t (λ n. new_named w (named_at n p) no_member l s) (state_then (new_begun w l s)) p (λ n y. refl)
moves_spell (new_named w n ms l s) p t = newly_named_spells w n ms l s p t
moves_spell (new_dotted w n ms d l s) p t = any_spells t (λ a. new_named w n (and_member ms d a) l s) (state_then (new_dotted w n ms d l s)) p (λ a y. refl)
moves_spell (property f ps l s) p t = propertied_spells f ps l s p t
moves_spell (named_key f ps n l s) p t = name_keyed_spells f ps n l s p t
moves_spell (other_key f ps k l s) p t = mark_spells marks.Colon t (want fresh (in_prop f ps k p l s)) (state_then (other_key f ps k l s)) 0 p (λ y. refl)
moves_spell (items o) p t = itemed_spells o p t
moves_spell (begun s) p t = started_spells s p t
moves_spell (complete st s) p t = after_spells s st p t
moves_spell (if_begun w s) p t = mark_spells marks.OpenParen t (want fresh (in_if w p s)) (state_then (if_begun w s)) (suc (suc (stmt_depth s))) p (λ y. refl)
moves_spell (while_begun w s) p t = mark_spells marks.OpenParen t (want fresh (in_while w p s)) (state_then (while_begun w s)) (suc (suc (stmt_depth s))) p (λ y. refl)
moves_spell (break_begun w s) p t = mark_spells marks.Semicolon t (complete (break_off w p) s) (state_then (break_begun w s)) 0 p (λ y. refl)
moves_spell (continue_begun w s) p t = mark_spells marks.Semicolon t (complete (continue_on w p) s) (state_then (continue_begun w s)) 0 p (λ y. refl)
moves_spell (return_begun w s) p t = returned_spells w s p t
moves_spell (throw_begun w s) p t = on_line_spells p.after_line (wanted fresh (in_throw w s) p t) (state_then (throw_begun w s)) (printed (operand_opens (stmt_depth s) t) t p) (wanted_spells fresh (in_throw w s) p t)
moves_spell (try_begun w s) p t = mark_spells marks.OpenBrace t (items (in_block no_item (try_of w p s))) (state_then (try_begun w s)) (suc (stmt_depth s)) p (λ y. refl)
moves_spell (try_read w b s) p t = catch_spells t (catch_begun w b p s) (state_then (try_read w b s)) p (λ y. refl)
moves_spell (catch_begun w b c s) p t = caught_spells w b c s p t
moves_spell (catch_opened w b c f s) p t = name_spells t (λ n. catch_named w b c f (named_at n p) s) (state_then (catch_opened w b c f s)) p (λ n y. refl)
moves_spell (catch_named w b c f n s) p t = mark_spells marks.CloseParen t (catch_closed w b c f n p s) (state_then (catch_named w b c f n s)) 0 p (λ y. refl)
moves_spell (catch_closed w b c f n q s) p t = mark_spells marks.OpenBrace t (items (in_block no_item (catch_name_of w b c f n q p s))) (state_then (catch_closed w b c f n q s)) (suc (stmt_depth s)) p (λ y. refl)
moves_spell (let_begun w ls o) p t = name_spells t (λ n. let_named w ls (named_at n p) o) (state_then (let_begun w ls o)) p (λ n y. refl)
moves_spell (let_named w ls n o) p t = let_goes_on_spells w ls n o p t
moves_spell (const_begun w ls o) p t = name_spells t (λ n. const_named w ls (named_at n p) o) (state_then (const_begun w ls o)) p (λ n y. refl)
moves_spell (const_named w ls n o) p t = mark_spells marks.Equals t (want fresh (in_const w ls n p o)) (state_then (const_named w ls n o)) 0 p (λ y. refl)
moves_spell (function_begun s w) p t = name_spells t (λ n. function_named s w (named_at n p)) (state_then (function_begun s w)) p (λ n y. refl)
moves_spell (function_named s w n) p t = mark_spells marks.OpenParen t (parameter s w n p none_before) (state_then (function_named s w n)) 1 p (λ y. refl)
moves_spell (parameter s w n f ns) p t = parametered_spells s w n f ns p t
moves_spell (parameter_read s w n f ns) p t = parameter_goes_on_spells s w n f ns p t
moves_spell (parameters_read s w n f ps q) p t = mark_spells marks.OpenBrace t (items (in_block no_item (function_of s w n f ps q p))) (state_then (parameters_read s w n f ps q)) 1 p (λ y. refl)

-- a script that ends is spelt by its last state
ends_spell : (s : OfStmt) (st : Stmt) (r : Script) → ends st s ≡ Some r → script_then r [] ≡ state_then (complete st s) []
ends_spell (item_of (in_script s)) st r h = let e : and_part s (statement st) ≡ r = cc in ap (λ x. script_then x []) (sym e)
ends_spell (item_of (in_block xs b)) st r h = cc
ends_spell (then_of w f e c s) st r h = ends_spell s (if_then w f e c st) r h
ends_spell (else_of w f e c a q s) st r h = ends_spell s (if_else w f e c a q st) r h
ends_spell (body_of w f e c s) st r h = ends_spell s (while_do w f e c st) r h

pub accept_spells : (s : State) (r : Script) → accept s ≡ Some r → script_then r [] ≡ state_then s []
accept_spells (items (in_script s)) r h = let e : s ≡ r = cc in ap (λ x. script_then x []) (sym e)
accept_spells (complete st s) r h = ends_spell s st r h
accept_spells _ r h = cc
