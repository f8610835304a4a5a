-- What is kept in a state meets the conditions beside the productions.
use Rattle.std.specs.Prelude.{◌≡◌, ℕ, List, [], ◌∷◌, Option, Some, None, Bool, true, false, cond, refl}
use Rattle.std.proofs.Common.{sym, ◌∙◌, ap, subst, ◌⊎◌, inl, inr}
use Rattle.host_lexer.specs.declared.token.Word.TheVariants as words
use Rattle.host_lexer.specs.declared.token.Mark.{Mark}
use Rattle.host_lexer.specs.declared.token.Mark.TheVariants as marks
use Rattle.host_lexer.specs.declared.token.TokenKind.{TokenKind}
use Rattle.host_lexer.specs.declared.token.TokenKind.TheVariants as kinds
use Rattle.host_grammar.specs.Derivations.{Any, Block, Chain, Exprs, Item, Items, LetDecls, Members, Named, Names, Operator, Postfix, PropList, Script, Spot, Stmt, Target, Unary, and_member, and_part, array, break_off, call, const_to, consts, continue_on, if_else, if_then, index, lets, literal, member, name, new, no_item, no_member, object, paren, postfix, prefixed, primary, set_to, statement, to_index, to_member, to_name, unset, while_do}
use Rattle.host_grammar.specs.Printing.{Sign, prefix_kind}
use Rattle.host_grammar.specs.Conditions.{AreFine, BeginsWithNoBrace, IsFine, IsFineBlock, IsFineItem, IsFineScript, OnOneLine, ends_open, first_of, first_of_postfix, first_of_target, first_of_unary}
use Rattle.host_grammar.specs.Machine.{Before, Left, Lefts, Level, OfBlock, OfExpr, OfItem, OfStmt, Sigil, State, accept, after, also, any_at, argued, argument, assigned, at_any, at_catch, at_mark, at_name, before, begun, block_ended, block_in_function, block_in_loop, block_of, body_of, braced, bracketed, break_begun, catch_begun, catch_closed, catch_name_of, catch_named, catch_of, catch_opened, caught, close, closed, complete, const_begun, const_named, consts_with, continue_begun, dotted, element, elemented, else_of, ended, ends, equated, expr_of, fresh, fresh_lefts, function_begun, function_named, function_of, given, giving, had, have, if_begun, in_array, in_assign, in_block, in_call, in_const, in_expression, in_function, in_if, in_index, in_let, in_loop, in_new, in_paren, in_prop, in_return, in_script, in_throw, in_while, is_fresh, item_in_function, item_in_loop, item_of, itemed, items, let_begun, let_goes_on, let_named, lets_with, level, moved, name_keyed, named_at, named_key, new_begun, new_dotted, new_named, newly_named, next_of, no_left, none_before, nothing_left, operated, operator_at, other_key, parameter, parameter_goes_on, parameter_read, parametered, parameters_read, parted, propertied, property, pushed, return_begun, returned, sigil, started, target_of, then_of, throw_begun, try_begun, try_of, try_read, want, wanted, while_begun, with_left, wrap}
use Rattle.host_grammar.proofs.Heads.{is_else}

-- the first token of what is read at a level, by that of its last operand
abbrev pub lead_left : {n : ℕ} → Left n → Sign → Sign
lead_left nothing_left g = g
lead_left (before c o p) g = first_of c

abbrev pub lead_lefts : {n : ℕ} → Lefts n → Sign → Sign
lead_lefts no_left g = g
lead_lefts (also l ls) g = lead_left l (lead_lefts ls g)

abbrev pub lead_sigils : List Sigil → Sign → Sign
lead_sigils [] g = g
lead_sigils (sigil o p ∷ ps) g = lead_sigils ps (record { kind = prefix_kind o; spot = p })

abbrev pub lead : Level → Sign → Sign
lead (level ls ps) g = lead_lefts ls (lead_sigils ps g)

lead_with : {n : ℕ} (l : Left n) (c : Chain n) → first_of (with_left l c) ≡ lead_left l (first_of c)
lead_with nothing_left c = refl
lead_with (before a o p) c = refl

lead_close : {n : ℕ} (ls : Lefts n) (u : Unary) → first_of (close ls u) ≡ lead_lefts ls (first_of_unary u)
lead_close no_left u = refl
lead_close (also l ls) u = lead_with l (close ls u) ∙ ap (lead_left l) (lead_close ls u)

lead_wrap : (ps : List Sigil) (u : Unary) → first_of_unary (wrap ps u) ≡ lead_sigils ps (first_of_unary u)
lead_wrap [] u = refl
lead_wrap (sigil o p ∷ ps) u = lead_wrap ps (prefixed o p u)

lead_is : (l : Level) (u : Postfix) → first_of (expr_of l u) ≡ lead l (first_of_postfix u)
lead_is (level ls ps) u = lead_close ls (wrap ps (postfix u)) ∙ ap (lead_lefts ls) (lead_wrap ps (postfix u))

-- the first token of an expression may stand there
abbrev pub LeadsWell : OfExpr → Sign → Type 0
LeadsWell (in_expression s) g = BeginsWithNoBrace g
LeadsWell (in_return w s) g = OnOneLine g
LeadsWell (in_throw w s) g = OnOneLine g
LeadsWell _ g = Unit {0}

abbrev pub at_sign : TokenKind → Spot → Sign
at_sign k p = record { kind = k; spot = p }

abbrev mutual
  pub OfExprFine : OfExpr → Type 0
  OfExprFine (in_paren f l s) = LeadsWell s (lead l (at_sign (kinds.Mark marks.OpenParen) f)) × OfExprFine s
  OfExprFine (in_index g f l s) = LeadsWell s (lead l (first_of_postfix g)) × OfExprFine s
  OfExprFine (in_call g f es l s) = LeadsWell s (lead l (first_of_postfix g)) × OfExprFine s
  OfExprFine (in_array f es l s) = LeadsWell s (lead l (at_sign (kinds.Mark marks.OpenBracket) f)) × OfExprFine s
  OfExprFine (in_new w n ms f es l s) = LeadsWell s (lead l (at_sign (kinds.Word words.New) w)) × OfExprFine s
  OfExprFine (in_prop f ps k c l s) = LeadsWell s (lead l (at_sign (kinds.Mark marks.OpenBrace) f)) × OfExprFine s
  OfExprFine (in_expression s) = OfStmtFine s
  OfExprFine (in_assign g m s) = BeginsWithNoBrace (first_of_target g) × OfStmtFine s
  OfExprFine (in_if w f s) = OfStmtFine s
  OfExprFine (in_while w f s) = OfStmtFine s
  OfExprFine (in_return w s) = (in_function s ≡ true) × OfStmtFine s
  OfExprFine (in_throw w s) = OfStmtFine s
  OfExprFine (in_let w ls n m o) = OfItemFine o
  OfExprFine (in_const w ls n m o) = OfItemFine o

  pub OfStmtFine : OfStmt → Type 0
  OfStmtFine (item_of o) = OfItemFine o
  OfStmtFine (then_of w f e t s) = OfStmtFine s
  OfStmtFine (else_of w f e t st q s) = (ends_open st ≡ false) × IsFine (in_loop s) (in_function s) st × OfStmtFine s
  OfStmtFine (body_of w f e t s) = OfStmtFine s

  pub OfItemFine : OfItem → Type 0
  OfItemFine (in_script s) = IsFineScript s
  OfItemFine (in_block xs b) = AreFine (block_in_loop b) (block_in_function b) xs × OfBlockFine b

  pub OfBlockFine : OfBlock → Type 0
  OfBlockFine (block_of f s) = OfStmtFine s
  OfBlockFine (try_of w f s) = OfStmtFine s
  OfBlockFine (catch_of w b c f s) = IsFineBlock (in_loop s) (in_function s) b × OfStmtFine s
  OfBlockFine (catch_name_of w b c f n t g s) = IsFineBlock (in_loop s) (in_function s) b × OfStmtFine s
  OfBlockFine (function_of s w n f ps t g) = IsFineScript s

abbrev pub StateFine : State → Type 0
StateFine (want l s) = ((g : Sign) → LeadsWell s (lead l g)) × OfExprFine s
StateFine (have u l s) = LeadsWell s (lead l (first_of_postfix u)) × OfExprFine s
StateFine (dotted u d l s) = LeadsWell s (lead l (first_of_postfix u)) × OfExprFine s
StateFine (argument g f es l s) = LeadsWell s (lead l (first_of_postfix g)) × OfExprFine s
StateFine (element f es l s) = LeadsWell s (lead l (at_sign (kinds.Mark marks.OpenBracket) f)) × OfExprFine s
StateFine (given w n ms f es l s) = LeadsWell s (lead l (at_sign (kinds.Word words.New) w)) × OfExprFine s
StateFine (new_begun w l s) = LeadsWell s (lead l (at_sign (kinds.Word words.New) w)) × OfExprFine s
StateFine (new_named w n ms l s) = LeadsWell s (lead l (at_sign (kinds.Word words.New) w)) × OfExprFine s
StateFine (new_dotted w n ms d l s) = LeadsWell s (lead l (at_sign (kinds.Word words.New) w)) × OfExprFine s
StateFine (property f ps l s) = LeadsWell s (lead l (at_sign (kinds.Mark marks.OpenBrace) f)) × OfExprFine s
StateFine (named_key f ps n l s) = LeadsWell s (lead l (at_sign (kinds.Mark marks.OpenBrace) f)) × OfExprFine s
StateFine (other_key f ps k l s) = LeadsWell s (lead l (at_sign (kinds.Mark marks.OpenBrace) f)) × OfExprFine s
StateFine (items o) = OfItemFine o
StateFine (begun s) = OfStmtFine s
StateFine (complete st s) = (ends_open st ≡ false) × IsFine (in_loop s) (in_function s) st × OfStmtFine s
StateFine (if_begun w s) = OfStmtFine s
StateFine (while_begun w s) = OfStmtFine s
StateFine (break_begun w s) = (in_loop s ≡ true) × OfStmtFine s
StateFine (continue_begun w s) = (in_loop s ≡ true) × OfStmtFine s
StateFine (return_begun w s) = (in_function s ≡ true) × OfStmtFine s
StateFine (throw_begun w s) = OfStmtFine s
StateFine (try_begun w s) = OfStmtFine s
StateFine (try_read w b s) = IsFineBlock (in_loop s) (in_function s) b × OfStmtFine s
StateFine (catch_begun w b c s) = IsFineBlock (in_loop s) (in_function s) b × OfStmtFine s
StateFine (catch_opened w b c f s) = IsFineBlock (in_loop s) (in_function s) b × OfStmtFine s
StateFine (catch_named w b c f n s) = IsFineBlock (in_loop s) (in_function s) b × OfStmtFine s
StateFine (catch_closed w b c f n t s) = IsFineBlock (in_loop s) (in_function s) b × OfStmtFine s
StateFine (let_begun w ls o) = OfItemFine o
StateFine (let_named w ls n o) = OfItemFine o
StateFine (const_begun w ls o) = OfItemFine o
StateFine (const_named w ls n o) = OfItemFine o
StateFine (function_begun s w) = IsFineScript s
StateFine (function_named s w n) = IsFineScript s
StateFine (parameter s w n f ns) = IsFineScript s
StateFine (parameter_read s w n f ns) = IsFineScript s
StateFine (parameters_read s w n f ps t) = IsFineScript s

abbrev pub Keeps : Option State → Type 0
Keeps None = Unit {0}
Keeps (Some r) = StateFine r

wanted_keeps : (l : Level) (s : OfExpr) (p : Spot) (t : TokenKind) → LeadsWell s (lead l (at_sign t p)) → OfExprFine s → Keeps (wanted l s p t)
wanted_keeps l s p (kinds.Name n) h f = (h, f)
wanted_keeps l s p (kinds.Number n) h f = (h, f)
wanted_keeps l s p (kinds.BigInt n) h f = (h, f)
wanted_keeps l s p (kinds.Text t) h f = (h, f)
wanted_keeps l s p (kinds.Word words.True) h f = (h, f)
wanted_keeps l s p (kinds.Word words.False) h f = (h, f)
wanted_keeps l s p (kinds.Word words.Null) h f = (h, f)
wanted_keeps l s p (kinds.Word words.Undefined) h f = (h, f)
wanted_keeps (level ls ps) s p (kinds.Word words.TypeOf) h f = ((λ g. h), f)
wanted_keeps l s p (kinds.Word words.New) h f = (h, f)
wanted_keeps (level ls ps) s p (kinds.Mark marks.Minus) h f = ((λ g. h), f)
wanted_keeps (level ls ps) s p (kinds.Mark marks.Not) h f = ((λ g. h), f)
wanted_keeps l s p (kinds.Mark marks.OpenParen) h f = ((λ g. tt), (h, f))
wanted_keeps l s p (kinds.Mark marks.OpenBracket) h f = (h, f)
wanted_keeps l s p (kinds.Mark marks.OpenBrace) h f = (h, f)
wanted_keeps l s p _ h f = tt

closed_keeps : (u : Postfix) (l : Level) (s : OfExpr) (p : Spot) → StateFine (have u l s) → Keeps (closed u l s p)
closed_keeps u l (in_paren g k s) p f = f.1
closed_keeps u l (in_call g q es k s) p f = f.1
closed_keeps u l (in_new w n ms q es k s) p f = f.1
closed_keeps u l (in_if w q s) p f = f.1
closed_keeps u l (in_while w q s) p f = f.1
closed_keeps u l _ p f = tt

bracketed_keeps : (u : Postfix) (l : Level) (s : OfExpr) (p : Spot) → StateFine (have u l s) → Keeps (bracketed u l s p)
bracketed_keeps u l (in_index g q k s) p f = f.1
bracketed_keeps u l (in_array q es k s) p f = f.1
bracketed_keeps u l _ p f = tt

braced_keeps : (u : Postfix) (l : Level) (s : OfExpr) (p : Spot) → StateFine (have u l s) → Keeps (braced u l s p)
braced_keeps u l (in_prop q ps y c k s) p f = f.1
braced_keeps u l _ p f = tt

parted_keeps : (u : Postfix) (l : Level) (s : OfExpr) (p : Spot) → StateFine (have u l s) → Keeps (parted u l s p)
parted_keeps u l (in_call g q es k s) p f = f.1
parted_keeps u l (in_new w n ms q es k s) p f = f.1
parted_keeps u l (in_array q es k s) p f = f.1
parted_keeps u l (in_prop q ps y c k s) p f = f.1
parted_keeps u l (in_let w ls n m o) p f = f.1
parted_keeps u l (in_const w ls n m o) p f = f.1
parted_keeps u l _ p f = tt

next_keeps : (o : OfItem) (x : Item) → IsFineItem (item_in_loop o) (item_in_function o) x → OfItemFine o → OfItemFine (next_of o x)
next_keeps (in_script s) x h f = (f, h)
next_keeps (in_block xs b) x h f = ((f.0, h), f.1)

ended_keeps : (u : Postfix) (l : Level) (s : OfExpr) (p : Spot) → StateFine (have u l s) → Keeps (ended u l s p)
ended_keeps u l (in_expression s) p f = (refl, subst BeginsWithNoBrace (sym (lead_is l u)) f.0, f.1)
ended_keeps u l (in_assign g m s) p f = (refl, f.1.0, f.1.1)
ended_keeps u l (in_return w s) p f = (refl, (f.1.0, subst OnOneLine (sym (lead_is l u)) f.0), f.1.1)
ended_keeps u l (in_throw w s) p f = (refl, subst OnOneLine (sym (lead_is l u)) f.0, f.1)
ended_keeps u l (in_let w ls n m o) p f = next_keeps o (lets w (lets_with ls (set_to n m (expr_of l u))) p) tt f.1
ended_keeps u l (in_const w ls n m o) p f = next_keeps o (consts w (consts_with ls (const_to n m (expr_of l u))) p) tt f.1
ended_keeps u l _ p f = tt

fresh_leads : {n : ℕ} (ls : Lefts n) (g : Sign) → is_fresh ls ≡ true → lead_lefts ls g ≡ g
fresh_leads no_left g h = refl
fresh_leads (also nothing_left ls) g h = fresh_leads ls g h
fresh_leads (also (before c o p) ls) g h = cc

target_first : (u : Postfix) (g : Target) → target_of u ≡ Some g → first_of_target g ≡ first_of_postfix u
target_first (primary (literal l p)) g h = cc
target_first (primary (name n)) g h = let e : to_name n ≡ g = cc in ap first_of_target (sym e)
target_first (primary (paren f e t)) g h = cc
target_first (primary (array f l t)) g h = cc
target_first (primary (object f ps t)) g h = cc
target_first (primary (new w n ms f l t)) g h = cc
target_first (member u q a) g h = let e : to_member u q a ≡ g = cc in ap first_of_target (sym e)
target_first (index u f e t) g h = let e : to_index u f e t ≡ g = cc in ap first_of_target (sym e)
target_first (call u f l t) g h = cc

assigned_keeps : (u : Postfix) (ls : Lefts 6) (s : OfStmt) (p : Spot) (o : Option Target) → target_of u ≡ o → (b : Bool) → is_fresh ls ≡ b → StateFine (have u (level ls []) (in_expression s))
    → Keeps (cond b (assigned o s p) None)
assigned_keeps u ls s p None e true h f = tt
assigned_keeps u ls s p (Some g) e true h f = ((λ _. tt), (subst BeginsWithNoBrace (fresh_leads ls (first_of_postfix u) h ∙ sym (target_first u g e)) f.0, f.1))
assigned_keeps u ls s p o e false h f = tt

equated_keeps : (u : Postfix) (l : Level) (s : OfExpr) (p : Spot) → StateFine (have u l s) → Keeps (equated u l s p)
equated_keeps u (level ls []) (in_expression s) p f = assigned_keeps u ls s p (target_of u) refl (is_fresh ls) refl f
equated_keeps u l s p f = tt

abbrev pub LeftsLead : {n : ℕ} → Option (Lefts n) → Sign → Sign → Type 0
LeftsLead None g h = Unit {0}
LeftsLead (Some q) g h = lead_lefts q g ≡ h

pushed_here : (m : Mark) (p : Spot) (u : Unary) {n : ℕ} (l : Left n) (ls : Lefts n) (g : Sign) (o : Option (Operator n)) (q : Option (Lefts n)) → LeftsLead q g (lead_lefts ls (first_of_unary u))
    → LeftsLead (elim o [
      | Some x ↦ Some (also (before (with_left l (close ls u)) x p) (fresh_lefts n))
      | None ↦ elim q [ None ↦ None | Some r ↦ Some (also l r) ]
    ]) g (lead_left l (lead_lefts ls (first_of_unary u)))
pushed_here m p u l ls g (Some x) q h = lead_with l (close ls u) ∙ ap (lead_left l) (lead_close ls u)
pushed_here m p u l ls g None None h = tt
pushed_here m p u l ls g None (Some r) h = ap (lead_left l) h

pushed_leads : (m : Mark) (p : Spot) (u : Unary) {n : ℕ} (ls : Lefts n) (g : Sign) → LeftsLead (pushed m p u ls) g (lead_lefts ls (first_of_unary u))
pushed_leads m p u no_left g = tt
pushed_leads m p u (also {n} l ls) g = pushed_here m p u l ls g (operator_at n m) (pushed m p u ls) (pushed_leads m p u ls g)

operated_on : (u : Postfix) (ls : Lefts 6) (ps : List Sigil) (s : OfExpr) (q : Option (Lefts 6)) → ((g : Sign) → LeftsLead q g (lead_lefts ls (first_of_unary (wrap ps (postfix u)))))
    → StateFine (have u (level ls ps) s) → Keeps (elim q [ None ↦ None | Some r ↦ Some (want (level r []) s) ])
operated_on u ls ps s None h f = tt
operated_on u ls ps s (Some q) h f = ((λ g. subst (LeadsWell s) (sym (h g ∙ ap (lead_lefts ls) (lead_wrap ps (postfix u)))) f.0), f.1)

operated_keeps : (u : Postfix) (l : Level) (s : OfExpr) (p : Spot) (m : Mark) → StateFine (have u l s) → Keeps (operated l u s p m)
operated_keeps u (level ls ps) s p m f = operated_on u ls ps s (pushed m p (wrap ps (postfix u)) ls) (λ g. pushed_leads m p (wrap ps (postfix u)) ls g) f

had_keeps : (u : Postfix) (l : Level) (s : OfExpr) (p : Spot) (t : TokenKind) → StateFine (have u l s) → Keeps (had u l s p t)
had_keeps u l s p (kinds.Mark marks.Dot) f = f
had_keeps u l s p (kinds.Mark marks.OpenBracket) f = ((λ g. tt), f)
had_keeps u l s p (kinds.Mark marks.OpenParen) f = f
had_keeps u l s p (kinds.Mark marks.CloseParen) f = closed_keeps u l s p f
had_keeps u l s p (kinds.Mark marks.CloseBracket) f = bracketed_keeps u l s p f
had_keeps u l s p (kinds.Mark marks.CloseBrace) f = braced_keeps u l s p f
had_keeps u l s p (kinds.Mark marks.Comma) f = parted_keeps u l s p f
had_keeps u l s p (kinds.Mark marks.Semicolon) f = ended_keeps u l s p f
had_keeps u l s p (kinds.Mark marks.Equals) f = equated_keeps u l s p f
had_keeps u l s p (kinds.Mark m) f = operated_keeps u l s p m f
had_keeps u l s p _ f = tt

argued_keeps : (g : Postfix) (q : Spot) (es : Before Exprs) (l : Level) (s : OfExpr) (p : Spot) (t : TokenKind) → StateFine (argument g q es l s) → Keeps (argued g q es l s p t)
argued_keeps g q es l s p (kinds.Mark marks.CloseParen) f = f
argued_keeps g q es l s p t f = wanted_keeps fresh (in_call g q es l s) p t tt f

elemented_keeps : (q : Spot) (es : Before Exprs) (l : Level) (s : OfExpr) (p : Spot) (t : TokenKind) → StateFine (element q es l s) → Keeps (elemented q es l s p t)
elemented_keeps q es l s p (kinds.Mark marks.CloseBracket) f = f
elemented_keeps q es l s p t f = wanted_keeps fresh (in_array q es l s) p t tt f

giving_keeps : (w : Spot) (n : Named) (ms : Members) (q : Spot) (es : Before Exprs) (l : Level) (s : OfExpr) (p : Spot) (t : TokenKind) → StateFine (given w n ms q es l s) → Keeps (giving w n ms q es l s p t)
giving_keeps w n ms q es l s p (kinds.Mark marks.CloseParen) f = f
giving_keeps w n ms q es l s p t f = wanted_keeps fresh (in_new w n ms q es l s) p t tt f

newly_named_keeps : (w : Spot) (n : Named) (ms : Members) (l : Level) (s : OfExpr) (p : Spot) (t : TokenKind) → StateFine (new_named w n ms l s) → Keeps (newly_named w n ms l s p t)
newly_named_keeps w n ms l s p (kinds.Mark marks.Dot) f = f
newly_named_keeps w n ms l s p (kinds.Mark marks.OpenParen) f = f
newly_named_keeps w n ms l s p _ f = tt

propertied_keeps : (q : Spot) (ps : Before PropList) (l : Level) (s : OfExpr) (p : Spot) (t : TokenKind) → StateFine (property q ps l s) → Keeps (propertied q ps l s p t)
propertied_keeps q ps l s p (kinds.Mark marks.CloseBrace) f = f
propertied_keeps q ps l s p (kinds.Name n) f = f
propertied_keeps q ps l s p (kinds.Word w) f = f
propertied_keeps q ps l s p (kinds.Text t) f = f
propertied_keeps q ps l s p _ f = tt

name_keyed_keeps : (q : Spot) (ps : Before PropList) (n : Named) (l : Level) (s : OfExpr) (p : Spot) (t : TokenKind) → StateFine (named_key q ps n l s) → Keeps (name_keyed q ps n l s p t)
name_keyed_keeps q ps n l s p (kinds.Mark marks.Colon) f = ((λ g. tt), f)
name_keyed_keeps q ps n l s p (kinds.Mark marks.Comma) f = f
name_keyed_keeps q ps n l s p (kinds.Mark marks.CloseBrace) f = f
name_keyed_keeps q ps n l s p _ f = tt

break_keeps : (s : OfStmt) (p : Spot) (b : Bool) → in_loop s ≡ b → OfStmtFine s → Keeps (cond b (Some (break_begun p s)) None)
break_keeps s p true e f = (e, f)
break_keeps s p false e f = tt

continue_keeps : (s : OfStmt) (p : Spot) (b : Bool) → in_loop s ≡ b → OfStmtFine s → Keeps (cond b (Some (continue_begun p s)) None)
continue_keeps s p true e f = (e, f)
continue_keeps s p false e f = tt

return_keeps : (s : OfStmt) (p : Spot) (b : Bool) → in_function s ≡ b → OfStmtFine s → Keeps (cond b (Some (return_begun p s)) None)
return_keeps s p true e f = (e, f)
return_keeps s p false e f = tt

abbrev pub is_brace : TokenKind → Bool
is_brace (kinds.Mark marks.OpenBrace) = true
is_brace _ = false

no_brace : (t : TokenKind) → is_brace t ≡ false → ¬ (t ≡ kinds.Mark marks.OpenBrace)
no_brace t h e = let k : true ≡ false = sym (ap is_brace e) ∙ h in absurd cc

started_keeps : (s : OfStmt) (p : Spot) (t : TokenKind) → OfStmtFine s → Keeps (started s p t)
started_keeps s p (kinds.Mark marks.Semicolon) f = (refl, tt, f)
started_keeps s p (kinds.Mark marks.OpenBrace) f = (tt, f)
started_keeps s p (kinds.Word words.If) f = f
started_keeps s p (kinds.Word words.While) f = f
started_keeps s p (kinds.Word words.Break) f = break_keeps s p (in_loop s) refl f
started_keeps s p (kinds.Word words.Continue) f = continue_keeps s p (in_loop s) refl f
started_keeps s p (kinds.Word words.Return) f = return_keeps s p (in_function s) refl f
started_keeps s p (kinds.Word words.Throw) f = f
started_keeps s p (kinds.Word words.Try) f = f
started_keeps s p t f = wanted_keeps fresh (in_expression s) p t (no_brace t refl) f

block_keeps : (xs : Items) (b : OfBlock) (p : Spot) → AreFine (block_in_loop b) (block_in_function b) xs → OfBlockFine b → Keeps (block_ended xs b p)
block_keeps xs (block_of g s) p a f = (refl, a, f)
block_keeps xs (try_of w g s) p a f = (a, f)
block_keeps xs (catch_of w b c g s) p a f = (refl, (f.0, a), f.1)
block_keeps xs (catch_name_of w b c q n t g s) p a f = (refl, (f.0, a), f.1)
block_keeps xs (function_of s w n q ps t g) p a f = (f, a)

itemed_keeps : (o : OfItem) (p : Spot) (t : TokenKind) → OfItemFine o → Keeps (itemed o p t)
itemed_keeps (in_block xs b) p (kinds.Mark marks.CloseBrace) f = block_keeps xs b p f.0 f.1
itemed_keeps (in_script s) p (kinds.Word words.Function) f = f
itemed_keeps o p (kinds.Word words.Let) f = f
itemed_keeps o p (kinds.Word words.Const) f = f
itemed_keeps o p t f = started_keeps (item_of o) p t f

-- an `else` comes only after a statement that doesn't end in an `if` without one
after_keeps : (s : OfStmt) (st : Stmt) (p : Spot) (t : TokenKind) → (ends_open st ≡ false) ⊎ (is_else t ≡ false) → IsFine (in_loop s) (in_function s) st → OfStmtFine s → Keeps (after st s p t)
after_keeps (item_of o) st p t h a f = itemed_keeps (next_of o (statement st)) p t (next_keeps o (statement st) a f)
after_keeps (then_of w q e c s) st p (kinds.Word words.Else) (inl h) a f = (h, a, f)
after_keeps (then_of w q e c s) st p (kinds.Word words.Else) (inr h) a f = absurd cc
after_keeps (then_of w q e c s) st p t h a f = after_keeps s (if_then w q e c st) p t (inr refl) a f
after_keeps (else_of w q e c su k s) st p t h a f = after_keeps s (if_else w q e c su k st) p t h (f.0, f.1, a) f.2
after_keeps (body_of w q e c s) st p t h a f = after_keeps s (while_do w q e c st) p t h a f

let_goes_on_keeps : (w : Spot) (ls : Before LetDecls) (n : Named) (o : OfItem) (p : Spot) (t : TokenKind) → OfItemFine o → Keeps (let_goes_on w ls n o p t)
let_goes_on_keeps w ls n o p (kinds.Mark marks.Equals) f = ((λ g. tt), f)
let_goes_on_keeps w ls n o p (kinds.Mark marks.Comma) f = f
let_goes_on_keeps w ls n o p (kinds.Mark marks.Semicolon) f = next_keeps o (lets w (lets_with ls (unset n)) p) tt f
let_goes_on_keeps w ls n o p _ f = tt

on_line_keeps : (b : Bool) (o : Option State) → (b ≡ false → Keeps o) → Keeps (cond b None o)
on_line_keeps true o h = tt
on_line_keeps false o h = h refl

returned_keeps : (w : Spot) (s : OfStmt) (p : Spot) (t : TokenKind) → (in_function s ≡ true) × OfStmtFine s → Keeps (returned w s p t)
returned_keeps w s p (kinds.Mark marks.Semicolon) f = (refl, f.0, f.1)
returned_keeps w s p t f = on_line_keeps p.after_line (wanted fresh (in_return w s) p t) (λ e. wanted_keeps fresh (in_return w s) p t e f)

parametered_keeps : (s : Script) (w : Spot) (n : Named) (q : Spot) (ns : Before Names) (p : Spot) (t : TokenKind) → IsFineScript s → Keeps (parametered s w n q ns p t)
parametered_keeps s w n q ns p (kinds.Mark marks.CloseParen) f = f
parametered_keeps s w n q ns p (kinds.Name m) f = f
parametered_keeps s w n q ns p _ f = tt

parameter_goes_on_keeps : (s : Script) (w : Spot) (n : Named) (q : Spot) (ns : Names) (p : Spot) (t : TokenKind) → IsFineScript s → Keeps (parameter_goes_on s w n q ns p t)
parameter_goes_on_keeps s w n q ns p (kinds.Mark marks.Comma) f = f
parameter_goes_on_keeps s w n q ns p (kinds.Mark marks.CloseParen) f = f
parameter_goes_on_keeps s w n q ns p _ f = tt

caught_keeps : (w : Spot) (b : Block) (c : Spot) (s : OfStmt) (p : Spot) (t : TokenKind) → StateFine (catch_begun w b c s) → Keeps (caught w b c s p t)
caught_keeps w b c s p (kinds.Mark marks.OpenBrace) f = (tt, f)
caught_keeps w b c s p (kinds.Mark marks.OpenParen) f = f
caught_keeps w b c s p _ f = tt

mark_keeps : (m : Mark) (t : TokenKind) (r : State) → StateFine r → Keeps (at_mark m t r)
mark_keeps marks.OpenParen (kinds.Mark marks.OpenParen) r h = h
mark_keeps marks.CloseParen (kinds.Mark marks.CloseParen) r h = h
mark_keeps marks.OpenBrace (kinds.Mark marks.OpenBrace) r h = h
mark_keeps marks.Semicolon (kinds.Mark marks.Semicolon) r h = h
mark_keeps marks.Equals (kinds.Mark marks.Equals) r h = h
mark_keeps marks.Colon (kinds.Mark marks.Colon) r h = h
mark_keeps _ _ r h = tt

name_keeps : (t : TokenKind) (r : List ℕ → State) → ((n : List ℕ) → StateFine (r n)) → Keeps (at_name t r)
name_keeps (kinds.Name n) r h = h n
name_keeps _ r h = tt

any_keeps : (o : Option Any) (r : Any → State) → ((a : Any) → StateFine (r a)) → Keeps (at_any o r)
any_keeps None r h = tt
any_keeps (Some a) r h = h a

catch_keeps : (t : TokenKind) (r : State) → StateFine r → Keeps (at_catch t r)
catch_keeps (kinds.Word words.Catch) r h = h
catch_keeps _ r h = tt

pub moves_keep : (s : State) (p : Spot) (t : TokenKind) → StateFine s → Keeps (moved s p t)
moves_keep (want l s) p t f = wanted_keeps l s p t (f.0 (at_sign t p)) f.1
moves_keep (have u l s) p t f = had_keeps u l s p t f
moves_keep (dotted u d l s) p t f = any_keeps (any_at p t) (λ a. have (member u d a) l s) (λ a. f)
moves_keep (argument g q es l s) p t f = argued_keeps g q es l s p t f
moves_keep (element q es l s) p t f = elemented_keeps q es l s p t f
moves_keep (given w n ms q es l s) p t f = giving_keeps w n ms q es l s p t f
moves_keep (new_begun w l s) p t f = name_keeps t (λ n. new_named w (named_at n p) no_member l s) (λ n. f)
moves_keep (new_named w n ms l s) p t f = newly_named_keeps w n ms l s p t f
moves_keep (new_dotted w n ms d l s) p t f = any_keeps (any_at p t) (λ a. new_named w n (and_member ms d a) l s) (λ a. f)
moves_keep (property q ps l s) p t f = propertied_keeps q ps l s p t f
moves_keep (named_key q ps n l s) p t f = name_keyed_keeps q ps n l s p t f
moves_keep (other_key q ps k l s) p t f = mark_keeps marks.Colon t (want fresh (in_prop q ps k p l s)) ((λ g. tt), f)
moves_keep (items o) p t f = itemed_keeps o p t f
moves_keep (begun s) p t f = started_keeps s p t f
moves_keep (complete st s) p t f = after_keeps s st p t (inl f.0) f.1 f.2
moves_keep (if_begun w s) p t f = mark_keeps marks.OpenParen t (want fresh (in_if w p s)) ((λ g. tt), f)
moves_keep (while_begun w s) p t f = mark_keeps marks.OpenParen t (want fresh (in_while w p s)) ((λ g. tt), f)
moves_keep (break_begun w s) p t f = mark_keeps marks.Semicolon t (complete (break_off w p) s) (refl, f.0, f.1)
moves_keep (continue_begun w s) p t f = mark_keeps marks.Semicolon t (complete (continue_on w p) s) (refl, f.0, f.1)
moves_keep (return_begun w s) p t f = returned_keeps w s p t f
moves_keep (throw_begun w s) p t f = on_line_keeps p.after_line (wanted fresh (in_throw w s) p t) (λ e. wanted_keeps fresh (in_throw w s) p t e f)
moves_keep (try_begun w s) p t f = mark_keeps marks.OpenBrace t (items (in_block no_item (try_of w p s))) (tt, f)
moves_keep (try_read w b s) p t f = catch_keeps t (catch_begun w b p s) f
moves_keep (catch_begun w b c s) p t f = caught_keeps w b c s p t f
moves_keep (catch_opened w b c q s) p t f = name_keeps t (λ n. catch_named w b c q (named_at n p) s) (λ n. f)
moves_keep (catch_named w b c q n s) p t f = mark_keeps marks.CloseParen t (catch_closed w b c q n p s) f
moves_keep (catch_closed w b c q n r s) p t f = mark_keeps marks.OpenBrace t (items (in_block no_item (catch_name_of w b c q n r p s))) (tt, f)
moves_keep (let_begun w ls o) p t f = name_keeps t (λ n. let_named w ls (named_at n p) o) (λ n. f)
moves_keep (let_named w ls n o) p t f = let_goes_on_keeps w ls n o p t f
moves_keep (const_begun w ls o) p t f = name_keeps t (λ n. const_named w ls (named_at n p) o) (λ n. f)
moves_keep (const_named w ls n o) p t f = mark_keeps marks.Equals t (want fresh (in_const w ls n p o)) ((λ g. tt), f)
moves_keep (function_begun s w) p t f = name_keeps t (λ n. function_named s w (named_at n p)) (λ n. f)
moves_keep (function_named s w n) p t f = mark_keeps marks.OpenParen t (parameter s w n p none_before) f
moves_keep (parameter s w n q ns) p t f = parametered_keeps s w n q ns p t f
moves_keep (parameter_read s w n q ns) p t f = parameter_goes_on_keeps s w n q ns p t f
moves_keep (parameters_read s w n q ps r) p t f = mark_keeps marks.OpenBrace t (items (in_block no_item (function_of s w n q ps r p))) (tt, f)

-- a script that ends is fine
ends_fine : (s : OfStmt) (st : Stmt) (r : Script) → IsFine (in_loop s) (in_function s) st → OfStmtFine s → ends st s ≡ Some r → IsFineScript r
ends_fine (item_of (in_script s)) st r a f h = let e : and_part s (statement st) ≡ r = cc in subst IsFineScript e (f, a)
ends_fine (item_of (in_block xs b)) st r a f h = cc
ends_fine (then_of w q e c s) st r a f h = ends_fine s (if_then w q e c st) r a f h
ends_fine (else_of w q e c su k s) st r a f h = ends_fine s (if_else w q e c su k st) r (f.0, f.1, a) f.2 h
ends_fine (body_of w q e c s) st r a f h = ends_fine s (while_do w q e c st) r a f h

pub accept_fine : (s : State) (r : Script) → StateFine s → accept s ≡ Some r → IsFineScript r
accept_fine (items (in_script s)) r f h = let e : s ≡ r = cc in subst IsFineScript e f
accept_fine (complete st s) r f h = ends_fine s st r f.1 f.2 h
accept_fine _ r f h = cc
