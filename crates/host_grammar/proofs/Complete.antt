-- The machine reads what a derivation spells.
use Rattle.std.specs.Prelude.{◌≡◌, ℕ, suc, List, [], ◌∷◌, Some, None, Bool, true, false, cond, refl}
use Rattle.std.proofs.Common.{◌∙◌, ap}
use Rattle.host_lexer.specs.declared.token.Word.TheVariants as words
use Rattle.host_lexer.specs.declared.token.Mark.TheVariants as marks
use Rattle.host_lexer.specs.declared.token.TokenKind.{TokenKind}
use Rattle.host_lexer.specs.declared.token.TokenKind.TheVariants as kinds
use Rattle.host_grammar.specs.Derivations.{Any, Chain, ConstDecl, ConstDecls, Expr, Exprs, Function, Item, Items, Key, LetDecl, LetDecls, Listed, Literal, Members, Named, Names, Params, Postfix, Prefix, Primary, Prop, PropList, Props, Script, Spot, Stmt, Target, Unary, and_const, and_function, and_item, and_let, and_member, and_name, and_one, and_part, and_prop, any_key, any_name, any_word, array, assign, big_int, block, braces, break_off, call, const_to, consts, continue_on, empty, expression, false_word, function, if_else, if_then, index, keyed, lets, lift, listed, listed_on, literal, member, more, name, negative, new, no_item, no_member, no_param, no_part, no_props, not_, nothing, null_word, number, object, one, one_const, one_let, one_name, one_prop, operand, params, params_on, paren, postfix, prefixed, primary, props, props_on, return_none, return_value, set_to, short, statement, text, text_key, throw_value, to_index, to_member, to_name, true_word, try_catch, try_catch_name, type_of, undefined_word, unset, while_do}
use Rattle.host_grammar.specs.Printing.{Printed, any_of, block_then, chain_then, const_then, consts_then, exprs_then, function_then, item_then, items_then, key_of, kind_of, let_then, lets_then, listed_then, mark, members_then, name_of, names_then, opening, operator_mark, params_then, plain, postfix_then, prefix_kind, primary_then, prop_list_then, prop_then, props_then, script_then, stmt_then, target_then, unary_then, word}
use Rattle.host_grammar.specs.Conditions.{AreFine, BeginsWithNoBrace, IsFine, IsFineFunction, IsFineItem, IsFineScript, ends_open, first_of_target}
use Rattle.host_grammar.specs.Machine.{Before, Lefts, Level, OfBlock, OfExpr, OfItem, OfStmt, Sigil, State, after, argument, before, begun, block_in_function, block_in_loop, block_of, body_of, break_begun, catch_name_of, catch_of, comma_after, complete, const_begun, consts_with, continue_begun, dotted, element, else_of, expr_of, exprs_with, fresh, fresh_lefts, function_of, given, have, in_array, in_assign, in_block, in_call, in_const, in_expression, in_function, in_if, in_index, in_let, in_loop, in_new, in_paren, in_prop, in_return, in_script, in_throw, in_while, item_in_function, item_in_loop, item_of, items, let_begun, let_named, lets_with, level, listed_of, named_key, new_dotted, new_named, next_item, no_left, none_before, nothing_left, parameter, parameter_read, parameters_read, property, props_with, return_begun, sigil, start, then_of, try_of, want}
use Rattle.host_grammar.proofs.Chained.{Outer, after_chain, after_expr, core, expr_again, last_of, lefts_of, operator, plug, sigils_of, top, under_left}
use Rattle.host_grammar.proofs.Heads.{NotElse, argument_enters, element_enters, expression_enters, given_enters, is_else, item_not_else, read, read_step, return_enters, statement_enters, target_enters, throw_enters}

-- the expressions and declarations of a list
abbrev pub before_last : Exprs → Before Exprs
before_last (one e) = none_before
before_last (and_one es c e) = comma_after es c

abbrev pub last_expr : Exprs → Expr
last_expr (one e) = e
last_expr (and_one es c e) = e

abbrev pub closing : Before Exprs → Expr → Exprs
closing b e = exprs_with b (expr_of (level (lefts_of e) (sigils_of (last_of e) [])) (core (last_of e)))

exprs_again : (es : Exprs) → closing (before_last es) (last_expr es) ≡ es
exprs_again (one e) = ap one (expr_again e)
exprs_again (and_one es c e) = ap (and_one es c) (expr_again e)

-- a place of a list: its states and what is open in its expressions
pub record ListPlace : Type 0 where
  pub at_list : Before Exprs → State
  pub around : Before Exprs → OfExpr
  pub goes : Listed → State
  pub last_sign : Printed
  pub enters : (b : Before Exprs) (d : ℕ) (e : Expr) (y : List Printed) → read (at_list b) (chain_then d e y) ≡ read (want fresh (around b)) (chain_then d e y)
  pub parts : (b : Before Exprs) (u : Postfix) (l : Level) (p : Spot) (y : List Printed) → read (have u l (around b)) (mark marks.Comma p ∷ y) ≡ read (at_list (comma_after (exprs_with b (expr_of l u)) p)) y
  pub closes : (b : Before Exprs) (u : Postfix) (l : Level) (y : List Printed) → read (have u l (around b)) (last_sign ∷ y) ≡ read (goes (listed (exprs_with b (expr_of l u)))) y
  pub ends_list : (b : Before Exprs) (y : List Printed) → read (at_list b) (last_sign ∷ y) ≡ read (goes (listed_of b)) y

abbrev call_place : Postfix → Spot → Level → OfExpr → Spot → ListPlace
call_place g f l s t = record {
  at_list = λ b. argument g f b l s;
  around = λ b. in_call g f b l s;
  goes = λ x. have (call g f x t) l s;
  last_sign = mark marks.CloseParen t;
  enters = λ b d e y. argument_enters g f b l s d e y;
  parts = λ b u k p y. refl;
  closes = λ b u k y. refl;
  ends_list = λ b y. refl;
}

abbrev array_place : Spot → Level → OfExpr → Spot → ListPlace
array_place f l s t = record {
  at_list = λ b. element f b l s;
  around = λ b. in_array f b l s;
  goes = λ x. have (primary (array f x t)) l s;
  last_sign = mark marks.CloseBracket t;
  enters = λ b d e y. element_enters f b l s d e y;
  parts = λ b u k p y. refl;
  closes = λ b u k y. refl;
  ends_list = λ b y. refl;
}

abbrev new_place : Spot → Named → Members → Spot → Level → OfExpr → Spot → ListPlace
new_place w n ms f l s t = record {
  at_list = λ b. given w n ms f b l s;
  around = λ b. in_new w n ms f b l s;
  goes = λ x. have (primary (new w n ms f x t)) l s;
  last_sign = mark marks.CloseParen t;
  enters = λ b d e y. given_enters w n ms f b l s d e y;
  parts = λ b u k p y. refl;
  closes = λ b u k y. refl;
  ends_list = λ b y. refl;
}

-- the properties of an object
abbrev pub before_last_prop : PropList → Before PropList
before_last_prop (one_prop p) = none_before
before_last_prop (and_prop ps c p) = comma_after ps c

abbrev pub last_prop : PropList → Prop
last_prop (one_prop p) = p
last_prop (and_prop ps c p) = p

props_again : (ps : PropList) → props_with (before_last_prop ps) (last_prop ps) ≡ ps
props_again (one_prop p) = refl
props_again (and_prop ps c p) = refl

-- the state after a property
abbrev pub after_prop : Prop → Spot → Before PropList → Level → OfExpr → State
after_prop (keyed k c e) f b l s = after_expr e (in_prop f b k c l s)
after_prop (short n) f b l s = named_key f b n l s

prop_parts : (p : Prop) (f : Spot) (b : Before PropList) (l : Level) (s : OfExpr) (c : Spot) (y : List Printed)
    → read (after_prop p f b l s) (mark marks.Comma c ∷ y) ≡ read (property f (comma_after (props_with b p) c) l s) y
prop_parts (keyed k q e) f b l s c y = ap (λ x. read (property f (comma_after (props_with b (keyed k q x)) c) l s) y) (expr_again e)
prop_parts (short n) f b l s c y = refl

prop_closes : (p : Prop) (f : Spot) (b : Before PropList) (l : Level) (s : OfExpr) (t : Spot) (y : List Printed)
    → read (after_prop p f b l s) (mark marks.CloseBrace t ∷ y) ≡ read (have (primary (object f (props (props_with b p)) t)) l s) y
prop_closes (keyed k q e) f b l s t y = ap (λ x. read (have (primary (object f (props (props_with b (keyed k q x))) t)) l s) y) (expr_again e)
prop_closes (short n) f b l s t y = refl

-- a name or a word after a dot
run_any : (a : Any) (u : Postfix) (q : Spot) (l : Level) (s : OfExpr) (y : List Printed) → read (dotted u q l s) (any_of a ∷ y) ≡ read (have (member u q a) l s) y
run_any (any_name n) u q l s y = refl
run_any (any_word w p) u q l s y = refl

run_new_any : (a : Any) (w : Spot) (n : Named) (ms : Members) (q : Spot) (l : Level) (s : OfExpr) (y : List Printed)
    → read (new_dotted w n ms q l s) (any_of a ∷ y) ≡ read (new_named w n (and_member ms q a) l s) y
run_new_any (any_name n) w m ms q l s y = refl
run_new_any (any_word v p) w m ms q l s y = refl

run_members : (ms : Members) (w : Spot) (n : Named) (l : Level) (s : OfExpr) (y : List Printed) → read (new_named w n no_member l s) (members_then ms y) ≡ read (new_named w n ms l s) y
run_members no_member w n l s y = refl
run_members (and_member ms d a) w n l s y = run_members ms w n l s (mark marks.Dot d ∷ any_of a ∷ y) ∙ run_new_any a w n ms d l s y

run_key : (k : Key) (c : Spot) (f : Spot) (b : Before PropList) (l : Level) (s : OfExpr) (y : List Printed)
    → read (property f b l s) (key_of k ∷ mark marks.Colon c ∷ y) ≡ read (want fresh (in_prop f b k c l s)) y
run_key (any_key (any_name n)) c f b l s y = refl
run_key (any_key (any_word w p)) c f b l s y = refl
run_key (text_key t p) c f b l s y = refl

run_literal : (k : Literal) (p : Spot) (l : Level) (s : OfExpr) (y : List Printed) → read (want l s) (plain (kind_of k) p ∷ y) ≡ read (have (primary (literal k p)) l s) y
run_literal (number n) p l s y = refl
run_literal (big_int n) p l s y = refl
run_literal (text t) p l s y = refl
run_literal true_word p l s y = refl
run_literal false_word p l s y = refl
run_literal null_word p l s y = refl
run_literal undefined_word p l s y = refl

run_prefix : (o : Prefix) (d : ℕ) (p : Spot) (ls : Lefts 6) (ps : List Sigil) (s : OfExpr) (y : List Printed)
    → read (want (level ls ps) s) (opening d (prefix_kind o) p ∷ y) ≡ read (want (level ls (sigil o p ∷ ps)) s) y
run_prefix negative d p ls ps s y = refl
run_prefix not_ d p ls ps s y = refl
run_prefix type_of d p ls ps s y = refl

mutual
  pub run_chain : {n : ℕ} (d : ℕ) (c : Chain n) (o : Outer n) (s : OfExpr) (y : List Printed) → read (want (level (plug o (fresh_lefts n)) []) s) (chain_then d c y) ≡ read (after_chain o c s) y
  run_chain d (operand u) o s y = run_unary d u (plug o no_left) [] s y
  run_chain d (lift c) o s y = run_chain d c (under_left nothing_left o) s y
  run_chain d (more c x p e) o s y = run_chain d c o s (mark (operator_mark x) p ∷ chain_then d e y) ∙ operator o c x p s (chain_then d e y) ∙ run_chain d e (under_left (before c x p) o) s y

  pub run_unary : (d : ℕ) (u : Unary) (ls : Lefts 6) (ps : List Sigil) (s : OfExpr) (y : List Printed) → read (want (level ls ps) s) (unary_then d u y) ≡ read (have (core u) (level ls (sigils_of u ps)) s) y
  run_unary d (postfix p) ls ps s y = run_postfix d p (level ls ps) s y
  run_unary d (prefixed o p u) ls ps s y = run_prefix o d p ls ps s (unary_then (suc d) u y) ∙ run_unary (suc d) u ls (sigil o p ∷ ps) s y

  pub run_postfix : (d : ℕ) (u : Postfix) (l : Level) (s : OfExpr) (y : List Printed) → read (want l s) (postfix_then d u y) ≡ read (have u l s) y
  run_postfix d (primary p) l s y = run_primary d p l s y
  run_postfix d (member u q a) l s y = run_postfix d u l s (mark marks.Dot q ∷ any_of a ∷ y) ∙ run_any a u q l s y
  run_postfix d (index u f e t) l s y = run_postfix d u l s (opening d (kinds.Mark marks.OpenBracket) f ∷ chain_then (suc d) e (mark marks.CloseBracket t ∷ y))
      ∙ run_chain (suc d) e top (in_index u f l s) (mark marks.CloseBracket t ∷ y) ∙ ap (λ x. read (have (index u f x t) l s) y) (expr_again e)
  run_postfix d (call u f x t) l s y = run_postfix d u l s (opening d (kinds.Mark marks.OpenParen) f ∷ listed_then (suc d) x (mark marks.CloseParen t ∷ y))
      ∙ run_listed (suc d) x (call_place u f l s t) y

  pub run_primary : (d : ℕ) (p : Primary) (l : Level) (s : OfExpr) (y : List Printed) → read (want l s) (primary_then d p y) ≡ read (have (primary p) l s) y
  run_primary d (literal k p) l s y = run_literal k p l s y
  run_primary d (name n) l s y = refl
  run_primary d (paren f e t) l s y = run_chain (suc d) e top (in_paren f l s) (mark marks.CloseParen t ∷ y) ∙ ap (λ x. read (have (primary (paren f x t)) l s) y) (expr_again e)
  run_primary d (array f x t) l s y = run_listed (suc d) x (array_place f l s t) y
  run_primary d (object f ps t) l s y = run_props (suc d) ps f l s t y
  run_primary d (new w n ms f x t) l s y = run_members ms w n l s (opening (suc d) (kinds.Mark marks.OpenParen) f ∷ listed_then (suc (suc d)) x (mark marks.CloseParen t ∷ y))
      ∙ run_listed (suc (suc d)) x (new_place w n ms f l s t) y

  pub run_listed : (d : ℕ) (x : Listed) (L : ListPlace) (y : List Printed) → read (L.at_list none_before) (listed_then d x (L.last_sign ∷ y)) ≡ read (L.goes x) y
  run_listed d nothing L y = L.ends_list none_before y
  run_listed d (listed es) L y = run_exprs d es L (L.last_sign ∷ y)
      ∙ L.closes (before_last es) (core (last_of (last_expr es))) (level (lefts_of (last_expr es)) (sigils_of (last_of (last_expr es)) [])) y
      ∙ ap (λ x. read (L.goes (listed x)) y) (exprs_again es)
  run_listed d (listed_on es c) L y = run_exprs d es L (mark marks.Comma c ∷ L.last_sign ∷ y)
      ∙ L.parts (before_last es) (core (last_of (last_expr es))) (level (lefts_of (last_expr es)) (sigils_of (last_of (last_expr es)) [])) c (L.last_sign ∷ y)
      ∙ L.ends_list (comma_after (closing (before_last es) (last_expr es)) c) y ∙ ap (λ x. read (L.goes (listed_on x c)) y) (exprs_again es)

  pub run_exprs : (d : ℕ) (es : Exprs) (L : ListPlace) (y : List Printed) → read (L.at_list none_before) (exprs_then d es y) ≡ read (after_expr (last_expr es) (L.around (before_last es))) y
  run_exprs d (one e) L y = L.enters none_before d e y ∙ run_chain d e top (L.around none_before) y
  run_exprs d (and_one es c e) L y = run_exprs d es L (mark marks.Comma c ∷ chain_then d e y)
      ∙ L.parts (before_last es) (core (last_of (last_expr es))) (level (lefts_of (last_expr es)) (sigils_of (last_of (last_expr es)) [])) c (chain_then d e y)
      ∙ ap (λ x. read (L.at_list (comma_after x c)) (chain_then d e y)) (exprs_again es)
      ∙ L.enters (comma_after es c) d e y ∙ run_chain d e top (L.around (comma_after es c)) y

  pub run_props : (d : ℕ) (ps : Props) (f : Spot) (l : Level) (s : OfExpr) (t : Spot) (y : List Printed)
      → read (property f none_before l s) (props_then d ps (mark marks.CloseBrace t ∷ y)) ≡ read (have (primary (object f ps t)) l s) y
  run_props d no_props f l s t y = refl
  run_props d (props ps) f l s t y = run_prop_list d ps f l s (mark marks.CloseBrace t ∷ y) ∙ prop_closes (last_prop ps) f (before_last_prop ps) l s t y
      ∙ ap (λ x. read (have (primary (object f (props x) t)) l s) y) (props_again ps)
  run_props d (props_on ps c) f l s t y = run_prop_list d ps f l s (mark marks.Comma c ∷ mark marks.CloseBrace t ∷ y) ∙ prop_parts (last_prop ps) f (before_last_prop ps) l s c (mark marks.CloseBrace t ∷ y)
      ∙ ap (λ x. read (have (primary (object f (props_on x c) t)) l s) y) (props_again ps)

  pub run_prop_list : (d : ℕ) (ps : PropList) (f : Spot) (l : Level) (s : OfExpr) (y : List Printed)
      → read (property f none_before l s) (prop_list_then d ps y) ≡ read (after_prop (last_prop ps) f (before_last_prop ps) l s) y
  run_prop_list d (one_prop p) f l s y = run_prop d p f none_before l s y
  run_prop_list d (and_prop ps c p) f l s y = run_prop_list d ps f l s (mark marks.Comma c ∷ prop_then d p y) ∙ prop_parts (last_prop ps) f (before_last_prop ps) l s c (prop_then d p y)
      ∙ ap (λ x. read (property f (comma_after x c) l s) (prop_then d p y)) (props_again ps) ∙ run_prop d p f (comma_after ps c) l s y

  pub run_prop : (d : ℕ) (p : Prop) (f : Spot) (b : Before PropList) (l : Level) (s : OfExpr) (y : List Printed) → read (property f b l s) (prop_then d p y) ≡ read (after_prop p f b l s) y
  run_prop d (keyed k c e) f b l s y = run_key k c f b l s (chain_then d e y) ∙ run_chain d e top (in_prop f b k c l s) y
  run_prop d (short n) f b l s y = refl

-- an assignment's target
run_target : (d : ℕ) (g : Target) (m : Spot) (s : OfStmt) (y : List Printed) → BeginsWithNoBrace (first_of_target g)
    → read (begun s) (target_then d g (mark marks.Equals m ∷ y)) ≡ read (want fresh (in_assign g m s)) y
run_target d (to_name n) m s y b = refl
run_target d (to_member u q a) m s y b = target_enters s d u (mark marks.Dot q ∷ any_of a ∷ mark marks.Equals m ∷ y) b
    ∙ run_postfix d u fresh (in_expression s) (mark marks.Dot q ∷ any_of a ∷ mark marks.Equals m ∷ y) ∙ run_any a u q fresh (in_expression s) (mark marks.Equals m ∷ y)
run_target d (to_index u f e t) m s y b = target_enters s d u (opening d (kinds.Mark marks.OpenBracket) f ∷ chain_then (suc d) e (mark marks.CloseBracket t ∷ mark marks.Equals m ∷ y)) b
    ∙ run_postfix d u fresh (in_expression s) (opening d (kinds.Mark marks.OpenBracket) f ∷ chain_then (suc d) e (mark marks.CloseBracket t ∷ mark marks.Equals m ∷ y))
    ∙ run_chain (suc d) e top (in_index u f fresh (in_expression s)) (mark marks.CloseBracket t ∷ mark marks.Equals m ∷ y)
    ∙ ap (λ x. read (have (index u f x t) fresh (in_expression s)) (mark marks.Equals m ∷ y)) (expr_again e)

-- declarations
abbrev pub before_last_let : LetDecls → Before LetDecls
before_last_let (one_let l) = none_before
before_last_let (and_let ls c l) = comma_after ls c

abbrev pub last_let : LetDecls → LetDecl
last_let (one_let l) = l
last_let (and_let ls c l) = l

lets_again : (ls : LetDecls) → lets_with (before_last_let ls) (last_let ls) ≡ ls
lets_again (one_let l) = refl
lets_again (and_let ls c l) = refl

abbrev pub after_let : LetDecl → Spot → Before LetDecls → OfItem → State
after_let (unset n) w b o = let_named w b n o
after_let (set_to n m e) w b o = after_expr e (in_let w b n m o)

let_parts : (l : LetDecl) (w : Spot) (b : Before LetDecls) (o : OfItem) (c : Spot) (y : List Printed)
    → read (after_let l w b o) (mark marks.Comma c ∷ y) ≡ read (let_begun w (comma_after (lets_with b l) c) o) y
let_parts (unset n) w b o c y = refl
let_parts (set_to n m e) w b o c y = ap (λ x. read (let_begun w (comma_after (lets_with b (set_to n m x)) c) o) y) (expr_again e)

let_ends : (l : LetDecl) (w : Spot) (b : Before LetDecls) (o : OfItem) (q : Spot) (y : List Printed)
    → read (after_let l w b o) (mark marks.Semicolon q ∷ y) ≡ read (next_item o (lets w (lets_with b l) q)) y
let_ends (unset n) w b o q y = refl
let_ends (set_to n m e) w b o q y = ap (λ x. read (next_item o (lets w (lets_with b (set_to n m x)) q)) y) (expr_again e)

run_let : (d : ℕ) (l : LetDecl) (w : Spot) (b : Before LetDecls) (o : OfItem) (y : List Printed) → read (let_begun w b o) (let_then d l y) ≡ read (after_let l w b o) y
run_let d (unset n) w b o y = refl
run_let d (set_to n m e) w b o y = run_chain d e top (in_let w b n m o) y

run_lets : (d : ℕ) (ls : LetDecls) (w : Spot) (o : OfItem) (y : List Printed) → read (let_begun w none_before o) (lets_then d ls y) ≡ read (after_let (last_let ls) w (before_last_let ls) o) y
run_lets d (one_let l) w o y = run_let d l w none_before o y
run_lets d (and_let ls c l) w o y = run_lets d ls w o (mark marks.Comma c ∷ let_then d l y) ∙ let_parts (last_let ls) w (before_last_let ls) o c (let_then d l y)
    ∙ ap (λ x. read (let_begun w (comma_after x c) o) (let_then d l y)) (lets_again ls) ∙ run_let d l w (comma_after ls c) o y

abbrev pub before_last_const : ConstDecls → Before ConstDecls
before_last_const (one_const l) = none_before
before_last_const (and_const ls c l) = comma_after ls c

abbrev pub last_const : ConstDecls → ConstDecl
last_const (one_const l) = l
last_const (and_const ls c l) = l

consts_again : (ls : ConstDecls) → consts_with (before_last_const ls) (last_const ls) ≡ ls
consts_again (one_const l) = refl
consts_again (and_const ls c l) = refl

abbrev pub after_const : ConstDecl → Spot → Before ConstDecls → OfItem → State
after_const (const_to n m e) w b o = after_expr e (in_const w b n m o)

const_parts : (l : ConstDecl) (w : Spot) (b : Before ConstDecls) (o : OfItem) (c : Spot) (y : List Printed)
    → read (after_const l w b o) (mark marks.Comma c ∷ y) ≡ read (const_begun w (comma_after (consts_with b l) c) o) y
const_parts (const_to n m e) w b o c y = ap (λ x. read (const_begun w (comma_after (consts_with b (const_to n m x)) c) o) y) (expr_again e)

const_ends : (l : ConstDecl) (w : Spot) (b : Before ConstDecls) (o : OfItem) (q : Spot) (y : List Printed)
    → read (after_const l w b o) (mark marks.Semicolon q ∷ y) ≡ read (next_item o (consts w (consts_with b l) q)) y
const_ends (const_to n m e) w b o q y = ap (λ x. read (next_item o (consts w (consts_with b (const_to n m x)) q)) y) (expr_again e)

run_const : (d : ℕ) (l : ConstDecl) (w : Spot) (b : Before ConstDecls) (o : OfItem) (y : List Printed) → read (const_begun w b o) (const_then d l y) ≡ read (after_const l w b o) y
run_const d (const_to n m e) w b o y = run_chain d e top (in_const w b n m o) y

run_consts : (d : ℕ) (ls : ConstDecls) (w : Spot) (o : OfItem) (y : List Printed) → read (const_begun w none_before o) (consts_then d ls y) ≡ read (after_const (last_const ls) w (before_last_const ls) o) y
run_consts d (one_const l) w o y = run_const d l w none_before o y
run_consts d (and_const ls c l) w o y = run_consts d ls w o (mark marks.Comma c ∷ const_then d l y) ∙ const_parts (last_const ls) w (before_last_const ls) o c (const_then d l y)
    ∙ ap (λ x. read (const_begun w (comma_after x c) o) (const_then d l y)) (consts_again ls) ∙ run_const d l w (comma_after ls c) o y

-- a statement that is read goes into what is open, where no `else` follows
pub item_closes : (st : Stmt) (o : OfItem) (y : List Printed) → read (complete st (item_of o)) y ≡ read (next_item o (statement st)) y
item_closes st (in_script s) [] = refl
item_closes st (in_block xs b) [] = refl
item_closes st (in_script s) (m ∷ y) = refl
item_closes st (in_block xs b) (m ∷ y) = refl

after_if : (st : Stmt) (w f : Spot) (e : Expr) (t : Spot) (s : OfStmt) (p : Spot) (k : TokenKind) → is_else k ≡ false → after st (then_of w f e t s) p k ≡ after (if_then w f e t st) s p k
after_if st w f e t s p (kinds.Word words.Else) h = cc
after_if st w f e t s p _ h = refl

pub if_closes : (st : Stmt) (w f : Spot) (e : Expr) (t : Spot) (s : OfStmt) (y : List Printed) → NotElse y → read (complete st (then_of w f e t s)) y ≡ read (complete (if_then w f e t st) s) y
if_closes st w f e t s [] h = refl
if_closes st w f e t s (m ∷ y) h = ap (λ o. elim o [ None ↦ None | Some r ↦ read r y ]) (after_if st w f e t s m.sign.spot m.sign.kind h)

pub else_closes : (st : Stmt) (w f : Spot) (e : Expr) (t : Spot) (a : Stmt) (q : Spot) (s : OfStmt) (y : List Printed)
    → read (complete st (else_of w f e t a q s)) y ≡ read (complete (if_else w f e t a q st) s) y
else_closes st w f e t a q s [] = refl
else_closes st w f e t a q s (m ∷ y) = refl

pub loop_closes : (st : Stmt) (w f : Spot) (e : Expr) (t : Spot) (s : OfStmt) (y : List Printed) → read (complete st (body_of w f e t s)) y ≡ read (complete (while_do w f e t st) s) y
loop_closes st w f e t s [] = refl
loop_closes st w f e t s (m ∷ y) = refl

run_break : (w q : Spot) (s : OfStmt) (y : List Printed) (b : Bool) → in_loop s ≡ b → b ≡ true → read (begun s) (word words.Break w ∷ mark marks.Semicolon q ∷ y) ≡ read (complete (break_off w q) s) y
run_break w q s y b e h = read_step (begun s) (break_begun w s) (word words.Break w) (mark marks.Semicolon q ∷ y) (ap (λ x. cond x (Some (break_begun w s)) None) (e ∙ h))

run_continue : (w q : Spot) (s : OfStmt) (y : List Printed) → in_loop s ≡ true → read (begun s) (word words.Continue w ∷ mark marks.Semicolon q ∷ y) ≡ read (complete (continue_on w q) s) y
run_continue w q s y h = read_step (begun s) (continue_begun w s) (word words.Continue w) (mark marks.Semicolon q ∷ y) (ap (λ x. cond x (Some (continue_begun w s)) None) h)

run_return : (w : Spot) (s : OfStmt) (y : List Printed) → in_function s ≡ true → read (begun s) (word words.Return w ∷ y) ≡ read (return_begun w s) y
run_return w s y h = read_step (begun s) (return_begun w s) (word words.Return w) y (ap (λ x. cond x (Some (return_begun w s)) None) h)

mutual
  pub run_stmt : (d : ℕ) (st : Stmt) (s : OfStmt) (y : List Printed) → IsFine (in_loop s) (in_function s) st → (ends_open st ≡ true → NotElse y) → read (begun s) (stmt_then d st y) ≡ read (complete st s) y
  run_stmt d (empty p) s y f h = refl
  run_stmt d (block (braces f xs t)) s y a h = run_items (suc d) xs (block_of f s) (mark marks.CloseBrace t ∷ y) a refl
  run_stmt d (expression e q) s y b h = expression_enters s d e (mark marks.Semicolon q ∷ y) b ∙ run_chain d e top (in_expression s) (mark marks.Semicolon q ∷ y)
      ∙ ap (λ x. read (complete (expression x q) s) y) (expr_again e)
  run_stmt d (assign g m e q) s y b h = run_target d g m s (chain_then d e (mark marks.Semicolon q ∷ y)) b ∙ run_chain d e top (in_assign g m s) (mark marks.Semicolon q ∷ y)
      ∙ ap (λ x. read (complete (assign g m x q) s) y) (expr_again e)
  run_stmt d (if_then w f e t st) s y b h = run_chain (suc (suc d)) e top (in_if w f s) (mark marks.CloseParen t ∷ stmt_then (suc d) st y)
      ∙ ap (λ x. read (begun (then_of w f x t s)) (stmt_then (suc d) st y)) (expr_again e) ∙ run_stmt (suc d) st (then_of w f e t s) y b (λ _. h refl) ∙ if_closes st w f e t s y (h refl)
  run_stmt d (if_else w f e t st q r) s y b h = run_chain (suc (suc d)) e top (in_if w f s) (mark marks.CloseParen t ∷ stmt_then (suc d) st (word words.Else q ∷ stmt_then (suc d) r y))
      ∙ ap (λ x. read (begun (then_of w f x t s)) (stmt_then (suc d) st (word words.Else q ∷ stmt_then (suc d) r y))) (expr_again e)
      ∙ run_stmt (suc d) st (then_of w f e t s) (word words.Else q ∷ stmt_then (suc d) r y) b.1 (λ k. let n : ends_open st ≡ false = b.0 in cc)
      ∙ run_stmt (suc d) r (else_of w f e t st q s) y b.2 h ∙ else_closes r w f e t st q s y
  run_stmt d (while_do w f e t st) s y b h = run_chain (suc (suc d)) e top (in_while w f s) (mark marks.CloseParen t ∷ stmt_then (suc d) st y)
      ∙ ap (λ x. read (begun (body_of w f x t s)) (stmt_then (suc d) st y)) (expr_again e) ∙ run_stmt (suc d) st (body_of w f e t s) y b h ∙ loop_closes st w f e t s y
  run_stmt d (break_off w q) s y b h = run_break w q s y (in_loop s) refl b
  run_stmt d (continue_on w q) s y b h = run_continue w q s y b
  run_stmt d (return_none w q) s y b h = run_return w s (mark marks.Semicolon q ∷ y) b
  run_stmt d (return_value w e q) s y b h = run_return w s (chain_then d e (mark marks.Semicolon q ∷ y)) b.0 ∙ return_enters w s d e (mark marks.Semicolon q ∷ y) b.1
      ∙ run_chain d e top (in_return w s) (mark marks.Semicolon q ∷ y) ∙ ap (λ x. read (complete (return_value w x q) s) y) (expr_again e)
  run_stmt d (throw_value w e q) s y b h = throw_enters w s d e (mark marks.Semicolon q ∷ y) b
      ∙ run_chain d e top (in_throw w s) (mark marks.Semicolon q ∷ y) ∙ ap (λ x. read (complete (throw_value w x q) s) y) (expr_again e)
  run_stmt d (try_catch w (braces f xs t) c (braces g zs u)) s y b h = run_items (suc d) xs (try_of w f s) (mark marks.CloseBrace t ∷ word words.Catch c ∷ block_then d (braces g zs u) y) b.0 refl
      ∙ run_items (suc d) zs (catch_of w (braces f xs t) c g s) (mark marks.CloseBrace u ∷ y) b.1 refl
  run_stmt d (try_catch_name w (braces f xs t) c k n q (braces g zs u)) s y b h = run_items (suc d) xs (try_of w f s)
      (mark marks.CloseBrace t ∷ word words.Catch c ∷ opening d (kinds.Mark marks.OpenParen) k ∷ name_of n ∷ mark marks.CloseParen q ∷ block_then d (braces g zs u) y) b.0 refl
      ∙ run_items (suc d) zs (catch_name_of w (braces f xs t) c k n q g s) (mark marks.CloseBrace u ∷ y) b.1 refl

  pub run_items : (d : ℕ) (xs : Items) (b : OfBlock) (y : List Printed) → AreFine (block_in_loop b) (block_in_function b) xs → NotElse y → read (items (in_block no_item b)) (items_then d xs y) ≡ read (items (in_block xs b)) y
  run_items d no_item b y f h = refl
  run_items d (and_item xs x) b y f h = run_items d xs b (item_then d x y) f.0 (item_not_else d x y) ∙ run_item d x (in_block xs b) y f.1 h

  pub run_item : (d : ℕ) (x : Item) (o : OfItem) (y : List Printed) → IsFineItem (item_in_loop o) (item_in_function o) x → NotElse y → read (items o) (item_then d x y) ≡ read (next_item o x) y
  run_item d (lets w ls q) (in_script s) y f h = run_lets d ls w (in_script s) (mark marks.Semicolon q ∷ y) ∙ let_ends (last_let ls) w (before_last_let ls) (in_script s) q y
      ∙ ap (λ x. read (next_item (in_script s) (lets w x q)) y) (lets_again ls)
  run_item d (lets w ls q) (in_block xs b) y f h = run_lets d ls w (in_block xs b) (mark marks.Semicolon q ∷ y) ∙ let_ends (last_let ls) w (before_last_let ls) (in_block xs b) q y
      ∙ ap (λ x. read (next_item (in_block xs b) (lets w x q)) y) (lets_again ls)
  run_item d (consts w ls q) (in_script s) y f h = run_consts d ls w (in_script s) (mark marks.Semicolon q ∷ y) ∙ const_ends (last_const ls) w (before_last_const ls) (in_script s) q y
      ∙ ap (λ x. read (next_item (in_script s) (consts w x q)) y) (consts_again ls)
  run_item d (consts w ls q) (in_block xs b) y f h = run_consts d ls w (in_block xs b) (mark marks.Semicolon q ∷ y) ∙ const_ends (last_const ls) w (before_last_const ls) (in_block xs b) q y
      ∙ ap (λ x. read (next_item (in_block xs b) (consts w x q)) y) (consts_again ls)
  run_item d (statement st) o y f h = statement_enters o d st y ∙ run_stmt d st (item_of o) y f (λ _. h) ∙ item_closes st o y

-- functions
run_names : (ns : Names) (s : Script) (w : Spot) (n : Named) (f : Spot) (y : List Printed) → read (parameter s w n f none_before) (names_then ns y) ≡ read (parameter_read s w n f ns) y
run_names (one_name m) s w n f y = refl
run_names (and_name ns c m) s w n f y = run_names ns s w n f (mark marks.Comma c ∷ name_of m ∷ y)

run_params : (ps : Params) (s : Script) (w : Spot) (n : Named) (f t : Spot) (y : List Printed)
    → read (parameter s w n f none_before) (params_then ps (mark marks.CloseParen t ∷ y)) ≡ read (parameters_read s w n f ps t) y
run_params no_param s w n f t y = refl
run_params (params ns) s w n f t y = run_names ns s w n f (mark marks.CloseParen t ∷ y)
run_params (params_on ns c) s w n f t y = run_names ns s w n f (mark marks.Comma c ∷ mark marks.CloseParen t ∷ y)

run_function : (f : Function) (s : Script) (y : List Printed) → IsFineFunction f → read (items (in_script s)) (function_then f y) ≡ read (items (in_script (and_function s f))) y
run_function (function w n g ps t (braces k xs u)) s y f = run_params ps s w n g t (block_then 0 (braces k xs u) y)
    ∙ run_items 1 xs (function_of s w n g ps t k) (mark marks.CloseBrace u ∷ y) f refl

function_not_else : (f : Function) (y : List Printed) → NotElse (function_then f y)
function_not_else (function w n g ps t b) y = refl

run_script : (s : Script) (y : List Printed) → IsFineScript s → NotElse y → read start (script_then s y) ≡ read (items (in_script s)) y
run_script no_part y f h = refl
run_script (and_function s g) y f h = run_script s (function_then g y) f.0 (function_not_else g y) ∙ run_function g s y f.1
run_script (and_part s x) y f h = run_script s (item_then 0 x y) f.0 (item_not_else 0 x y) ∙ run_item 0 x (in_script s) y f.1 h

-- each script is read, with its derivation
pub scripts_are_read : (s : Script) → IsFineScript s → read start (script_then s []) ≡ Some s
scripts_are_read s f = run_script s [] f tt
