-- The first token of a part, and what it leads to.
use Rattle.std.specs.Prelude.{◌≡◌, ℕ, List, [], ◌∷◌, Option, Some, None, Bool, true, false, cond, refl}
use Rattle.std.proofs.Common.{sym, ap, subst}
use Rattle.host_lexer.specs.declared.token.Word.TheVariants as words
use Rattle.host_lexer.specs.declared.token.Mark.TheVariants as marks
use Rattle.host_lexer.specs.declared.token.TokenKind.{TokenKind}
use Rattle.host_lexer.specs.declared.token.TokenKind.TheVariants as kinds
use Rattle.host_grammar.specs.Derivations.{Block, Chain, Expr, Exprs, Item, Literal, Members, Named, Postfix, Primary, Script, Spot, Stmt, Target, Unary, array, assign, big_int, block, braces, break_off, call, consts, continue_on, empty, expression, false_word, if_else, if_then, index, lets, lift, literal, member, more, name, negative, new, not_, null_word, number, object, operand, paren, postfix, prefixed, primary, return_none, return_value, statement, text, throw_value, to_index, to_member, to_name, true_word, try_catch, try_catch_name, type_of, undefined_word, while_do}
use Rattle.host_grammar.specs.Printing.{Printed, Sign, chain_then, item_then, kind_of, mark, postfix_then, primary_then, stmt_then, target_then, unary_then, word}
use Rattle.host_grammar.specs.Conditions.{BeginsWithNoBrace, OnOneLine, first_of, first_of_postfix, first_of_primary, first_of_target, first_of_unary}
use Rattle.host_grammar.specs.Machine.{Before, Level, OfExpr, OfItem, OfStmt, State, accept, argued, argument, begun, element, elemented, fresh, given, giving, in_array, in_block, in_call, in_expression, in_new, in_return, in_script, in_throw, item_of, itemed, items, return_begun, returned, started, step, throw_begun, want, wanted}

-- what the rest of some tokens is read as
abbrev pub read : State → List Printed → Option Script
read s [] = accept s
read s (m ∷ ms) = elim (step s m.sign) [ None ↦ None | Some r ↦ read r ms ]

pub read_step : (s r : State) (m : Printed) (y : List Printed) → step s m.sign ≡ Some r → read s (m ∷ y) ≡ read r y
read_step s r m y e = ap (λ o. elim o [ None ↦ None | Some r ↦ read r y ]) e

abbrev pub HeadIs : Sign → List Printed → Type 0
HeadIs g [] = ⊥
HeadIs g (m ∷ ms) = m.sign ≡ g

-- two states that a token leads to the same
pub same_at : (a b : State) (ms : List Printed) (g : Sign) → HeadIs g ms → step a g ≡ step b g → read a ms ≡ read b ms
same_at a b [] g h e = absurd h
same_at a b (m ∷ ms) g h e = ap (λ o. elim o [ None ↦ None | Some r ↦ read r ms ]) (subst (λ x. step a x ≡ step b x) (sym h) e)

-- what an expression may begin with
abbrev pub can_begin : TokenKind → Bool
can_begin (kinds.Name n) = true
can_begin (kinds.Number n) = true
can_begin (kinds.BigInt n) = true
can_begin (kinds.Text t) = true
can_begin (kinds.Word words.True) = true
can_begin (kinds.Word words.False) = true
can_begin (kinds.Word words.Null) = true
can_begin (kinds.Word words.Undefined) = true
can_begin (kinds.Word words.TypeOf) = true
can_begin (kinds.Word words.New) = true
can_begin (kinds.Mark marks.Minus) = true
can_begin (kinds.Mark marks.Not) = true
can_begin (kinds.Mark marks.OpenParen) = true
can_begin (kinds.Mark marks.OpenBracket) = true
can_begin (kinds.Mark marks.OpenBrace) = true
can_begin _ = false

primary_head : (d : ℕ) (p : Primary) (y : List Printed) → HeadIs (first_of_primary p) (primary_then d p y)
primary_head d (literal l p) y = refl
primary_head d (name n) y = refl
primary_head d (paren f e t) y = refl
primary_head d (array f l t) y = refl
primary_head d (object f ps t) y = refl
primary_head d (new w n ms f l t) y = refl

pub postfix_head : (d : ℕ) (p : Postfix) (y : List Printed) → HeadIs (first_of_postfix p) (postfix_then d p y)
postfix_head d (primary p) y = primary_head d p y
postfix_head d (member p q a) y = postfix_head d p _
postfix_head d (index p f e t) y = postfix_head d p _
postfix_head d (call p f l t) y = postfix_head d p _

unary_head : (d : ℕ) (u : Unary) (y : List Printed) → HeadIs (first_of_unary u) (unary_then d u y)
unary_head d (postfix p) y = postfix_head d p y
unary_head d (prefixed o p u) y = refl

pub chain_head : {n : ℕ} (d : ℕ) (c : Chain n) (y : List Printed) → HeadIs (first_of c) (chain_then d c y)
chain_head d (operand u) y = unary_head d u y
chain_head d (lift c) y = chain_head d c y
chain_head d (more c o p e) y = chain_head d c _

literal_begins : (l : Literal) → can_begin (kind_of l) ≡ true
literal_begins (number n) = refl
literal_begins (big_int n) = refl
literal_begins (text t) = refl
literal_begins true_word = refl
literal_begins false_word = refl
literal_begins null_word = refl
literal_begins undefined_word = refl

primary_begins : (p : Primary) → can_begin (first_of_primary p).kind ≡ true
primary_begins (literal l p) = literal_begins l
primary_begins (name n) = refl
primary_begins (paren f e t) = refl
primary_begins (array f l t) = refl
primary_begins (object f ps t) = refl
primary_begins (new w n ms f l t) = refl

pub postfix_begins : (p : Postfix) → can_begin (first_of_postfix p).kind ≡ true
postfix_begins (primary p) = primary_begins p
postfix_begins (member p q a) = postfix_begins p
postfix_begins (index p f e t) = postfix_begins p
postfix_begins (call p f l t) = postfix_begins p

unary_begins : (u : Unary) → can_begin (first_of_unary u).kind ≡ true
unary_begins (postfix p) = postfix_begins p
unary_begins (prefixed negative p u) = refl
unary_begins (prefixed not_ p u) = refl
unary_begins (prefixed type_of p u) = refl

pub chain_begins : {n : ℕ} (c : Chain n) → can_begin (first_of c).kind ≡ true
chain_begins (operand u) = unary_begins u
chain_begins (lift c) = chain_begins c
chain_begins (more c o p e) = chain_begins c

-- where an expression may begin, its first token does not end a list
argued_is : (g : Postfix) (f : Spot) (es : Before Exprs) (l : Level) (s : OfExpr) (p : Spot) (t : TokenKind) → can_begin t ≡ true → argued g f es l s p t ≡ wanted fresh (in_call g f es l s) p t
argued_is g f es l s p (kinds.Mark marks.CloseParen) h = cc
argued_is g f es l s p _ h = refl

elemented_is : (f : Spot) (es : Before Exprs) (l : Level) (s : OfExpr) (p : Spot) (t : TokenKind) → can_begin t ≡ true → elemented f es l s p t ≡ wanted fresh (in_array f es l s) p t
elemented_is f es l s p (kinds.Mark marks.CloseBracket) h = cc
elemented_is f es l s p _ h = refl

giving_is : (w : Spot) (n : Named) (ms : Members) (f : Spot) (es : Before Exprs) (l : Level) (s : OfExpr) (p : Spot) (t : TokenKind) → can_begin t ≡ true
    → giving w n ms f es l s p t ≡ wanted fresh (in_new w n ms f es l s) p t
giving_is w n ms f es l s p (kinds.Mark marks.CloseParen) h = cc
giving_is w n ms f es l s p _ h = refl

started_is : (s : OfStmt) (p : Spot) (t : TokenKind) → can_begin t ≡ true → ¬ (t ≡ kinds.Mark marks.OpenBrace) → started s p t ≡ wanted fresh (in_expression s) p t
started_is s p (kinds.Mark marks.Semicolon) h b = cc
started_is s p (kinds.Mark marks.OpenBrace) h b = absurd (b refl)
started_is s p (kinds.Word words.If) h b = cc
started_is s p (kinds.Word words.While) h b = cc
started_is s p (kinds.Word words.Break) h b = cc
started_is s p (kinds.Word words.Continue) h b = cc
started_is s p (kinds.Word words.Return) h b = cc
started_is s p (kinds.Word words.Throw) h b = cc
started_is s p (kinds.Word words.Try) h b = cc
started_is s p _ h b = refl

returned_is : (w : Spot) (s : OfStmt) (p : Spot) (t : TokenKind) → can_begin t ≡ true → p.after_line ≡ false → returned w s p t ≡ wanted fresh (in_return w s) p t
returned_is w s p (kinds.Mark marks.Semicolon) h b = cc
returned_is w s p t h b = ap (λ x. cond x None (wanted fresh (in_return w s) p t)) b

thrown_is : (w : Spot) (s : OfStmt) (p : Spot) (t : TokenKind) → p.after_line ≡ false → step (throw_begun w s) (record { kind = t; spot = p }) ≡ wanted fresh (in_throw w s) p t
thrown_is w s p t b = ap (λ x. cond x None (wanted fresh (in_throw w s) p t)) b

pub argument_enters : (g : Postfix) (f : Spot) (es : Before Exprs) (l : Level) (s : OfExpr) (d : ℕ) (e : Expr) (y : List Printed)
    → read (argument g f es l s) (chain_then d e y) ≡ read (want fresh (in_call g f es l s)) (chain_then d e y)
argument_enters g f es l s d e y = same_at (argument g f es l s) (want fresh (in_call g f es l s)) (chain_then d e y) (first_of e) (chain_head d e y)
    (argued_is g f es l s (first_of e).spot (first_of e).kind (chain_begins e))

pub element_enters : (f : Spot) (es : Before Exprs) (l : Level) (s : OfExpr) (d : ℕ) (e : Expr) (y : List Printed)
    → read (element f es l s) (chain_then d e y) ≡ read (want fresh (in_array f es l s)) (chain_then d e y)
element_enters f es l s d e y = same_at (element f es l s) (want fresh (in_array f es l s)) (chain_then d e y) (first_of e) (chain_head d e y)
    (elemented_is f es l s (first_of e).spot (first_of e).kind (chain_begins e))

pub given_enters : (w : Spot) (n : Named) (ms : Members) (f : Spot) (es : Before Exprs) (l : Level) (s : OfExpr) (d : ℕ) (e : Expr) (y : List Printed)
    → read (given w n ms f es l s) (chain_then d e y) ≡ read (want fresh (in_new w n ms f es l s)) (chain_then d e y)
given_enters w n ms f es l s d e y = same_at (given w n ms f es l s) (want fresh (in_new w n ms f es l s)) (chain_then d e y) (first_of e) (chain_head d e y)
    (giving_is w n ms f es l s (first_of e).spot (first_of e).kind (chain_begins e))

pub expression_enters : (s : OfStmt) (d : ℕ) (e : Expr) (y : List Printed) → BeginsWithNoBrace (first_of e)
    → read (begun s) (chain_then d e y) ≡ read (want fresh (in_expression s)) (chain_then d e y)
expression_enters s d e y b = same_at (begun s) (want fresh (in_expression s)) (chain_then d e y) (first_of e) (chain_head d e y)
    (started_is s (first_of e).spot (first_of e).kind (chain_begins e) b)

pub target_enters : (s : OfStmt) (d : ℕ) (u : Postfix) (y : List Printed) → BeginsWithNoBrace (first_of_postfix u)
    → read (begun s) (postfix_then d u y) ≡ read (want fresh (in_expression s)) (postfix_then d u y)
target_enters s d u y b = same_at (begun s) (want fresh (in_expression s)) (postfix_then d u y) (first_of_postfix u) (postfix_head d u y)
    (started_is s (first_of_postfix u).spot (first_of_postfix u).kind (postfix_begins u) b)

pub return_enters : (w : Spot) (s : OfStmt) (d : ℕ) (e : Expr) (y : List Printed) → OnOneLine (first_of e)
    → read (return_begun w s) (chain_then d e y) ≡ read (want fresh (in_return w s)) (chain_then d e y)
return_enters w s d e y b = same_at (return_begun w s) (want fresh (in_return w s)) (chain_then d e y) (first_of e) (chain_head d e y)
    (returned_is w s (first_of e).spot (first_of e).kind (chain_begins e) b)

pub throw_enters : (w : Spot) (s : OfStmt) (d : ℕ) (e : Expr) (y : List Printed) → OnOneLine (first_of e)
    → read (throw_begun w s) (chain_then d e y) ≡ read (want fresh (in_throw w s)) (chain_then d e y)
throw_enters w s d e y b = same_at (throw_begun w s) (want fresh (in_throw w s)) (chain_then d e y) (first_of e) (chain_head d e y)
    (thrown_is w s (first_of e).spot (first_of e).kind b)

-- what a statement may begin with
abbrev pub can_start : TokenKind → Bool
can_start (kinds.Mark marks.CloseBrace) = false
can_start (kinds.Word words.Function) = false
can_start (kinds.Word words.Let) = false
can_start (kinds.Word words.Const) = false
can_start (kinds.Word words.Else) = false
can_start _ = true

starts_too : (t : TokenKind) → can_begin t ≡ true → can_start t ≡ true
starts_too (kinds.Mark marks.CloseBrace) h = cc
starts_too (kinds.Word words.Function) h = cc
starts_too (kinds.Word words.Let) h = cc
starts_too (kinds.Word words.Const) h = cc
starts_too (kinds.Word words.Else) h = cc
starts_too _ h = refl

abbrev pub first_of_block : Block → Sign
first_of_block (braces f xs t) = record { kind = kinds.Mark marks.OpenBrace; spot = f }

abbrev pub first_of_stmt : Stmt → Sign
first_of_stmt (empty p) = (mark marks.Semicolon p).sign
first_of_stmt (block b) = first_of_block b
first_of_stmt (expression e q) = first_of e
first_of_stmt (assign g m e q) = first_of_target g
first_of_stmt (if_then w f e t s) = (word words.If w).sign
first_of_stmt (if_else w f e t s o r) = (word words.If w).sign
first_of_stmt (while_do w f e t s) = (word words.While w).sign
first_of_stmt (break_off w q) = (word words.Break w).sign
first_of_stmt (continue_on w q) = (word words.Continue w).sign
first_of_stmt (return_none w q) = (word words.Return w).sign
first_of_stmt (return_value w e q) = (word words.Return w).sign
first_of_stmt (throw_value w e q) = (word words.Throw w).sign
first_of_stmt (try_catch w b c h) = (word words.Try w).sign
first_of_stmt (try_catch_name w b c f n t h) = (word words.Try w).sign

target_head : (d : ℕ) (g : Target) (y : List Printed) → HeadIs (first_of_target g) (target_then d g y)
target_head d (to_name n) y = refl
target_head d (to_member p q a) y = postfix_head d p _
target_head d (to_index p f e t) y = postfix_head d p _

target_begins : (g : Target) → can_begin (first_of_target g).kind ≡ true
target_begins (to_name n) = refl
target_begins (to_member p q a) = postfix_begins p
target_begins (to_index p f e t) = postfix_begins p

stmt_head : (d : ℕ) (st : Stmt) (y : List Printed) → HeadIs (first_of_stmt st) (stmt_then d st y)
stmt_head d (empty p) y = refl
stmt_head d (block (braces f xs t)) y = refl
stmt_head d (expression e q) y = chain_head d e _
stmt_head d (assign g m e q) y = target_head d g _
stmt_head d (if_then w f e t s) y = refl
stmt_head d (if_else w f e t s o r) y = refl
stmt_head d (while_do w f e t s) y = refl
stmt_head d (break_off w q) y = refl
stmt_head d (continue_on w q) y = refl
stmt_head d (return_none w q) y = refl
stmt_head d (return_value w e q) y = refl
stmt_head d (throw_value w e q) y = refl
stmt_head d (try_catch w b c h) y = refl
stmt_head d (try_catch_name w b c f n t h) y = refl

stmt_starts : (st : Stmt) → can_start (first_of_stmt st).kind ≡ true
stmt_starts (empty p) = refl
stmt_starts (block (braces f xs t)) = refl
stmt_starts (expression e q) = starts_too (first_of e).kind (chain_begins e)
stmt_starts (assign g m e q) = starts_too (first_of_target g).kind (target_begins g)
stmt_starts (if_then w f e t s) = refl
stmt_starts (if_else w f e t s o r) = refl
stmt_starts (while_do w f e t s) = refl
stmt_starts (break_off w q) = refl
stmt_starts (continue_on w q) = refl
stmt_starts (return_none w q) = refl
stmt_starts (return_value w e q) = refl
stmt_starts (throw_value w e q) = refl
stmt_starts (try_catch w b c h) = refl
stmt_starts (try_catch_name w b c f n t h) = refl

itemed_is : (o : OfItem) (p : Spot) (t : TokenKind) → can_start t ≡ true → itemed o p t ≡ started (item_of o) p t
itemed_is (in_block xs b) p (kinds.Mark marks.CloseBrace) h = cc
itemed_is (in_script s) p (kinds.Word words.Function) h = cc
itemed_is (in_block xs b) p (kinds.Word words.Let) h = cc
itemed_is (in_block xs b) p (kinds.Word words.Const) h = cc
itemed_is (in_script s) p (kinds.Word words.Let) h = cc
itemed_is (in_script s) p (kinds.Word words.Const) h = cc
itemed_is (in_block xs b) p _ h = refl
itemed_is (in_script s) p _ h = refl

pub statement_enters : (o : OfItem) (d : ℕ) (st : Stmt) (y : List Printed) → read (items o) (stmt_then d st y) ≡ read (begun (item_of o)) (stmt_then d st y)
statement_enters o d st y = same_at (items o) (begun (item_of o)) (stmt_then d st y) (first_of_stmt st) (stmt_head d st y)
    (itemed_is o (first_of_stmt st).spot (first_of_stmt st).kind (stmt_starts st))

-- what follows is no `else`
abbrev pub is_else : TokenKind → Bool
is_else (kinds.Word words.Else) = true
is_else _ = false

abbrev pub NotElse : List Printed → Type 0
NotElse [] = Unit {0}
NotElse (m ∷ ms) = is_else m.sign.kind ≡ false

starts_not_else : (t : TokenKind) → can_start t ≡ true → is_else t ≡ false
starts_not_else (kinds.Word words.Else) h = cc
starts_not_else _ h = refl

not_else_at : (g : Sign) (ms : List Printed) → HeadIs g ms → is_else g.kind ≡ false → NotElse ms
not_else_at g [] h e = tt
not_else_at g (m ∷ ms) h e = subst (λ x. is_else x.kind ≡ false) (sym h) e

pub stmt_not_else : (d : ℕ) (st : Stmt) (y : List Printed) → NotElse (stmt_then d st y)
stmt_not_else d st y = not_else_at (first_of_stmt st) (stmt_then d st y) (stmt_head d st y) (starts_not_else (first_of_stmt st).kind (stmt_starts st))

pub item_not_else : (d : ℕ) (x : Item) (y : List Printed) → NotElse (item_then d x y)
item_not_else d (lets w ls q) y = refl
item_not_else d (consts w ls q) y = refl
item_not_else d (statement st) y = stmt_not_else d st y
