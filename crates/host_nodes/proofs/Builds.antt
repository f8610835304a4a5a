-- A token does to the builder what it does to the machine's state.
use Rattle.std.specs.Prelude.{◌≡◌, ℕ, Bool, true, false, cond, List, [], ◌∷◌, Option, Some, None, refl}
use Rattle.std.proofs.Common.{sym, ◌∙◌, ap, subst}
use Rattle.host_lexer.specs.declared.token.Word.TheVariants as words
use Rattle.host_lexer.specs.declared.token.Mark.{Mark}
use Rattle.host_lexer.specs.declared.token.Mark.TheVariants as marks
use Rattle.host_lexer.specs.declared.token.TokenKind.{TokenKind}
use Rattle.host_lexer.specs.declared.token.TokenKind.TheVariants as kinds
use Rattle.host_grammar.specs.Derivations.{Spot, Named, Prefix, negative, not_, type_of, Expr, ConstDecls, Key, Params, Any, any_name, any_word, Postfix, primary, name, member, index, call, Members, no_member, and_member, no_item, break_off, continue_on, postfix, Target, to_name, to_member, to_index, Stmt, Block, Items, Names, Script, statement, if_then, if_else, while_do, LetDecls, Exprs, PropList}
use Rattle.host_grammar.specs.Conditions.{first_of_postfix, first_of_target}
use Rattle.host_grammar.specs.Machine as machine
use Rattle.host_grammar.specs.Machine.{Before, none_before, comma_after, Left, nothing_left, before, Lefts, no_left, also, Level, level, fresh, OfExpr, in_paren, in_index, in_call, in_array, in_new, in_prop, in_assign, in_if, in_while, in_return, in_throw, in_let, in_const, OfStmt, item_of, then_of, else_of, body_of, OfItem, in_script, in_block, OfBlock, block_of, try_of, catch_of, catch_name_of, function_of, State, want, have, dotted, argument, element, given, new_begun, new_named, new_dotted, property, named_key, other_key, items, begun, complete, if_begun, while_begun, break_begun, continue_begun, return_begun, throw_begun, try_begun, try_read, catch_begun, catch_opened, catch_named, catch_closed, let_begun, let_named, const_begun, const_named, function_begun, function_named, parameter, parameter_read, parameters_read, is_fresh, target_of, pushed, wrap, next_of, start, expr_of, named_at}
use Rattle.host_nodes.specs.declared.form.Form.{Form}
use Rattle.host_nodes.specs.declared.form.Form.TheVariants as forms
use Rattle.host_nodes.specs.declared.state.At.{At}
use Rattle.host_nodes.specs.declared.state.At.TheVariants as at
use Rattle.host_nodes.specs.declared.state.Item as code_item
use Rattle.host_nodes.specs.declared.state.Item.TheVariants as open_items
use Rattle.host_nodes.specs.declared.state.Level as code_level
use Rattle.host_nodes.specs.declared.builder.Builder.{Builder}
use Rattle.host_nodes.specs.Tables as tables
use Rattle.host_nodes.specs.Tables.{Table, add, last, prefix_of, chain_after, postfix_after, unary_after, item_after, stmt_after, target_after, name_after}
use Rattle.host_nodes.specs.Building as b
use Rattle.host_nodes.specs.Building.{builder, closed_table, ranked_of}
use Rattle.host_nodes.specs.declared.state.Ranked.{Ranked}
use Rattle.host_nodes.specs.Images.{image, at_operand, expr_table, expr_items, stmt_table, stmt_items, item_items, item_declared, level_of, level_after, lefts_after, lefts_first, groups_on, prefixes, sigils_first}
use Rattle.host_nodes.proofs.Closing.{begun_level, prefixed_level, closed, first_place, wraps, first_wrapped, Pushes, pushes, HasRank, has_rank}

-- what the builder holds after a step of the machine
abbrev pub Sim : Option State → Builder → Type 0
Sim None x = Unit {0}
Sim (Some q) x = x ≡ image q

-- where an operand begins
abbrev pub at_want : At → Level → OfExpr → Builder
at_want a l s = at_operand a l s None (level_after l (expr_table s))

begun_at : (a : At) (l : Level) (s : OfExpr) (p : ℕ) (t : Table) → builder a (b.begun (level_of l (expr_table s) None) p) [] (expr_items s) t ≡ at_operand a l s (Some p) t
begun_at a l s p t = ap (λ x. builder a x [] (expr_items s) t) (begun_level l (expr_table s) p)

opened_at : (a : At) (l : Level) (s : OfExpr) (p : ℕ) (F : code_level.Level → Builder) → F (b.begun (level_of l (expr_table s) None) p) ≡ F (level_of l (expr_table s) (Some p))
opened_at a l s p F = ap F (begun_level l (expr_table s) p)

prefixed_at : (ls : Lefts 6) (ps : List machine.Sigil) (s : OfExpr) (o : Prefix) (p : Spot)
    → builder at.Want (b.prefixed (prefix_of o) p.place (level_of (level ls ps) (expr_table s) None)) [] (expr_items s) (lefts_after ls (expr_table s)) ≡ image (want (level ls (machine.sigil o p ∷ ps)) s)
prefixed_at ls ps s o p = ap (λ x. builder at.Want x [] (expr_items s) (lefts_after ls (expr_table s))) (prefixed_level ls ps (expr_table s) o p)

wanted_sim : (a : At) (l : Level) (s : OfExpr) (p : Spot) (t : TokenKind) → Sim (machine.wanted l s p t) (b.wanted (at_want a l s) p.place t)
wanted_sim a l s p (kinds.Name n) = begun_at at.Have l s p.place (name_after (named_at n p) (level_after l (expr_table s)))
wanted_sim a l s p (kinds.Number n) = begun_at at.Have l s p.place (add (forms.Number n) p.place (level_after l (expr_table s)))
wanted_sim a l s p (kinds.BigInt n) = begun_at at.Have l s p.place (add (forms.BigInt n) p.place (level_after l (expr_table s)))
wanted_sim a l s p (kinds.Text n) = begun_at at.Have l s p.place (add (forms.Text n) p.place (level_after l (expr_table s)))
wanted_sim a l s p (kinds.Word words.True) = begun_at at.Have l s p.place (add (forms.Boolean true) p.place (level_after l (expr_table s)))
wanted_sim a l s p (kinds.Word words.False) = begun_at at.Have l s p.place (add (forms.Boolean false) p.place (level_after l (expr_table s)))
wanted_sim a l s p (kinds.Word words.Null) = begun_at at.Have l s p.place (add forms.Null p.place (level_after l (expr_table s)))
wanted_sim a l s p (kinds.Word words.Undefined) = begun_at at.Have l s p.place (add forms.Undefined p.place (level_after l (expr_table s)))
wanted_sim a (level ls ps) s p (kinds.Word words.TypeOf) = prefixed_at ls ps s type_of p
wanted_sim a l s p (kinds.Word words.New) = begun_at at.NewBegun l s p.place (level_after l (expr_table s))
wanted_sim a (level ls ps) s p (kinds.Mark marks.Minus) = prefixed_at ls ps s negative p
wanted_sim a (level ls ps) s p (kinds.Mark marks.Not) = prefixed_at ls ps s not_ p
wanted_sim a l s p (kinds.Mark marks.OpenParen) = opened_at a l s p.place (λ x. builder at.Want b.fresh [] (open_items.Paren x ∷ expr_items s) (level_after l (expr_table s)))
wanted_sim a l s p (kinds.Mark marks.OpenBracket) = opened_at a l s p.place (λ x. builder at.Element b.fresh [] (open_items.Array p.place [] x ∷ expr_items s) (level_after l (expr_table s)))
wanted_sim a l s p (kinds.Mark marks.OpenBrace) = opened_at a l s p.place (λ x. builder at.Property b.fresh [] (open_items.Object (b.object_so_far p.place [] x) ∷ expr_items s) (level_after l (expr_table s)))
wanted_sim a l s p _ = tt

-- an expression that ends
abbrev pub now : Postfix → Level → OfExpr → Table
now u l s = closed_table (level_of l (expr_table s) (Some (first_of_postfix u).spot.place)) (postfix_after u (level_after l (expr_table s)))

via : (u : Postfix) (l : Level) (s : OfExpr) (F : Table → Builder) → F (now u l s) ≡ F (chain_after (expr_of l u) (expr_table s))
via u l s F = ap F (closed l u (expr_table s) (Some (first_of_postfix u).spot.place))

closed_sim : (u : Postfix) (l : Level) (s : OfExpr) (p : Spot) → Sim (machine.closed u l s p) (b.closed_in (expr_items s) (image (have u l s)) (now u l s))
closed_sim u l (in_paren f k s) p = via u l (in_paren f k s) (b.closed_in (expr_items (in_paren f k s)) (image (have u l (in_paren f k s))))
closed_sim u l (in_call g f none_before k s) p = via u l (in_call g f none_before k s) (b.closed_in (expr_items (in_call g f none_before k s)) (image (have u l (in_call g f none_before k s))))
closed_sim u l (in_call g f (comma_after es c) k s) p = via u l (in_call g f (comma_after es c) k s) (b.closed_in (expr_items (in_call g f (comma_after es c) k s)) (image (have u l (in_call g f (comma_after es c) k s))))
closed_sim u l (in_new w n ms f none_before k s) p = via u l (in_new w n ms f none_before k s) (b.closed_in (expr_items (in_new w n ms f none_before k s)) (image (have u l (in_new w n ms f none_before k s))))
closed_sim u l (in_new w n ms f (comma_after es c) k s) p = via u l (in_new w n ms f (comma_after es c) k s) (b.closed_in (expr_items (in_new w n ms f (comma_after es c) k s)) (image (have u l (in_new w n ms f (comma_after es c) k s))))
closed_sim u l (in_if w f s) p = via u l (in_if w f s) (b.closed_in (expr_items (in_if w f s)) (image (have u l (in_if w f s))))
closed_sim u l (in_while w f s) p = via u l (in_while w f s) (b.closed_in (expr_items (in_while w f s)) (image (have u l (in_while w f s))))
closed_sim u l _ p = tt

bracketed_sim : (u : Postfix) (l : Level) (s : OfExpr) (p : Spot) → Sim (machine.bracketed u l s p) (b.bracketed_in (expr_items s) (image (have u l s)) (now u l s))
bracketed_sim u l (in_index g f k s) p = via u l (in_index g f k s) (b.bracketed_in (expr_items (in_index g f k s)) (image (have u l (in_index g f k s))))
bracketed_sim u l (in_array f none_before k s) p = via u l (in_array f none_before k s) (b.bracketed_in (expr_items (in_array f none_before k s)) (image (have u l (in_array f none_before k s))))
bracketed_sim u l (in_array f (comma_after es c) k s) p = via u l (in_array f (comma_after es c) k s) (b.bracketed_in (expr_items (in_array f (comma_after es c) k s)) (image (have u l (in_array f (comma_after es c) k s))))
bracketed_sim u l _ p = tt

braced_sim : (u : Postfix) (l : Level) (s : OfExpr) (p : Spot) → Sim (machine.braced u l s p) (b.braced_in (expr_items s) (image (have u l s)) (now u l s))
braced_sim u l (in_prop f none_before y m k s) p = via u l (in_prop f none_before y m k s) (b.braced_in (expr_items (in_prop f none_before y m k s)) (image (have u l (in_prop f none_before y m k s))))
braced_sim u l (in_prop f (comma_after ps c) y m k s) p = via u l (in_prop f (comma_after ps c) y m k s) (b.braced_in (expr_items (in_prop f (comma_after ps c) y m k s)) (image (have u l (in_prop f (comma_after ps c) y m k s))))
braced_sim u l _ p = tt

parted_sim : (u : Postfix) (l : Level) (s : OfExpr) (p : Spot) → Sim (machine.parted u l s p) (b.parted_in (expr_items s) (image (have u l s)) (now u l s))
parted_sim u l (in_call g f none_before k s) p = via u l (in_call g f none_before k s) (b.parted_in (expr_items (in_call g f none_before k s)) (image (have u l (in_call g f none_before k s))))
parted_sim u l (in_call g f (comma_after es c) k s) p = via u l (in_call g f (comma_after es c) k s) (b.parted_in (expr_items (in_call g f (comma_after es c) k s)) (image (have u l (in_call g f (comma_after es c) k s))))
parted_sim u l (in_new w n ms f none_before k s) p = via u l (in_new w n ms f none_before k s) (b.parted_in (expr_items (in_new w n ms f none_before k s)) (image (have u l (in_new w n ms f none_before k s))))
parted_sim u l (in_new w n ms f (comma_after es c) k s) p = via u l (in_new w n ms f (comma_after es c) k s) (b.parted_in (expr_items (in_new w n ms f (comma_after es c) k s)) (image (have u l (in_new w n ms f (comma_after es c) k s))))
parted_sim u l (in_array f none_before k s) p = via u l (in_array f none_before k s) (b.parted_in (expr_items (in_array f none_before k s)) (image (have u l (in_array f none_before k s))))
parted_sim u l (in_array f (comma_after es c) k s) p = via u l (in_array f (comma_after es c) k s) (b.parted_in (expr_items (in_array f (comma_after es c) k s)) (image (have u l (in_array f (comma_after es c) k s))))
parted_sim u l (in_prop f none_before y m k s) p = via u l (in_prop f none_before y m k s) (b.parted_in (expr_items (in_prop f none_before y m k s)) (image (have u l (in_prop f none_before y m k s))))
parted_sim u l (in_prop f (comma_after ps c) y m k s) p = via u l (in_prop f (comma_after ps c) y m k s) (b.parted_in (expr_items (in_prop f (comma_after ps c) y m k s)) (image (have u l (in_prop f (comma_after ps c) y m k s))))
parted_sim u l (in_let w none_before n m o) p = via u l (in_let w none_before n m o) (b.parted_in (expr_items (in_let w none_before n m o)) (image (have u l (in_let w none_before n m o))))
parted_sim u l (in_let w (comma_after ls c) n m o) p = via u l (in_let w (comma_after ls c) n m o) (b.parted_in (expr_items (in_let w (comma_after ls c) n m o)) (image (have u l (in_let w (comma_after ls c) n m o))))
parted_sim u l (in_const w none_before n m o) p = via u l (in_const w none_before n m o) (b.parted_in (expr_items (in_const w none_before n m o)) (image (have u l (in_const w none_before n m o))))
parted_sim u l (in_const w (comma_after ls c) n m o) p = via u l (in_const w (comma_after ls c) n m o) (b.parted_in (expr_items (in_const w (comma_after ls c) n m o)) (image (have u l (in_const w (comma_after ls c) n m o))))
parted_sim u l _ p = tt

ended_sim : (u : Postfix) (l : Level) (s : OfExpr) (p : Spot) → Sim (machine.ended u l s p) (b.ended_in (expr_items s) (image (have u l s)) (now u l s))
ended_sim u l (machine.in_expression s) p = via u l (machine.in_expression s) (b.ended_in (expr_items (machine.in_expression s)) (image (have u l (machine.in_expression s))))
    ∙ ap (λ q. builder at.Complete b.fresh [] (stmt_items s) (add (forms.Expression (last (chain_after (expr_of l u) (stmt_table s)))) q (chain_after (expr_of l u) (stmt_table s)))) (first_place l (stmt_table s) u)
ended_sim u l (in_assign g m s) p = via u l (in_assign g m s) (b.ended_in (expr_items (in_assign g m s)) (image (have u l (in_assign g m s))))
ended_sim u l (in_return w s) p = via u l (in_return w s) (b.ended_in (expr_items (in_return w s)) (image (have u l (in_return w s))))
ended_sim u l (in_throw w s) p = via u l (in_throw w s) (b.ended_in (expr_items (in_throw w s)) (image (have u l (in_throw w s))))
ended_sim u l (in_let w none_before n m (in_script s)) p = via u l (in_let w none_before n m (in_script s)) (b.ended_in (expr_items (in_let w none_before n m (in_script s))) (image (have u l (in_let w none_before n m (in_script s)))))
ended_sim u l (in_let w none_before n m (in_block xs d)) p = via u l (in_let w none_before n m (in_block xs d)) (b.ended_in (expr_items (in_let w none_before n m (in_block xs d))) (image (have u l (in_let w none_before n m (in_block xs d)))))
ended_sim u l (in_let w (comma_after ls c) n m (in_script s)) p = via u l (in_let w (comma_after ls c) n m (in_script s)) (b.ended_in (expr_items (in_let w (comma_after ls c) n m (in_script s))) (image (have u l (in_let w (comma_after ls c) n m (in_script s)))))
ended_sim u l (in_let w (comma_after ls c) n m (in_block xs d)) p = via u l (in_let w (comma_after ls c) n m (in_block xs d)) (b.ended_in (expr_items (in_let w (comma_after ls c) n m (in_block xs d))) (image (have u l (in_let w (comma_after ls c) n m (in_block xs d)))))
ended_sim u l (in_const w none_before n m (in_script s)) p = via u l (in_const w none_before n m (in_script s)) (b.ended_in (expr_items (in_const w none_before n m (in_script s))) (image (have u l (in_const w none_before n m (in_script s)))))
ended_sim u l (in_const w none_before n m (in_block xs d)) p = via u l (in_const w none_before n m (in_block xs d)) (b.ended_in (expr_items (in_const w none_before n m (in_block xs d))) (image (have u l (in_const w none_before n m (in_block xs d)))))
ended_sim u l (in_const w (comma_after ls c) n m (in_script s)) p = via u l (in_const w (comma_after ls c) n m (in_script s)) (b.ended_in (expr_items (in_const w (comma_after ls c) n m (in_script s))) (image (have u l (in_const w (comma_after ls c) n m (in_script s)))))
ended_sim u l (in_const w (comma_after ls c) n m (in_block xs d)) p = via u l (in_const w (comma_after ls c) n m (in_block xs d)) (b.ended_in (expr_items (in_const w (comma_after ls c) n m (in_block xs d))) (image (have u l (in_const w (comma_after ls c) n m (in_block xs d)))))
ended_sim u l _ p = tt

-- an assignment
is_bare : {n : ℕ} (ls : Lefts n) → is_fresh ls ≡ true → (t : Table) → lefts_after ls t ≡ t
is_bare no_left h t = refl
is_bare (also nothing_left ls) h t = is_bare ls h t
is_bare (also (before c o p) ls) h t = absurd cc

bare_first : {n : ℕ} (ls : Lefts n) → is_fresh ls ≡ true → (f : Option ℕ) → lefts_first ls f ≡ f
bare_first no_left h f = refl
bare_first (also nothing_left ls) h f = bare_first ls h f
bare_first (also (before c o p) ls) h f = absurd cc

-- the target of an assignment from its parts
abbrev pub targeted : OfStmt → code_item.Item → Table → Builder
targeted s i t = builder at.Want b.fresh [] (i ∷ stmt_items s) t

equated_at : (u : Postfix) (ls : Lefts 6) (s : OfStmt) (p : Spot) (g : Target) → is_fresh ls ≡ true
    → (postfix_after u (stmt_table s) ≡ target_after g (stmt_table s)) → ((first_of_postfix u).spot.place ≡ (first_of_target g).spot.place)
    → b.equated_in (expr_items (machine.in_expression s)) (image (have u (level ls []) (machine.in_expression s))) ≡ image (want fresh (in_assign g p s))
equated_at u ls s p g h e f = ap (λ t. targeted s (open_items.Assign (last t) (b.place_or_none (lefts_first ls (Some (first_of_postfix u).spot.place)))) t) (ap (postfix_after u) (is_bare ls h (stmt_table s)) ∙ e)
    ∙ ap (λ q. targeted s (open_items.Assign (last (target_after g (stmt_table s))) (b.place_or_none q)) (target_after g (stmt_table s))) (bare_first ls h (Some (first_of_postfix u).spot.place))
    ∙ ap (λ q. targeted s (open_items.Assign (last (target_after g (stmt_table s))) q) (target_after g (stmt_table s))) f

equated_fresh : (u : Postfix) (ls : Lefts 6) (s : OfStmt) (p : Spot) (c : Bool) → is_fresh ls ≡ c
    → Sim (cond c (machine.assigned (target_of u) s p) None) (b.equated_in (expr_items (machine.in_expression s)) (image (have u (level ls []) (machine.in_expression s))))
equated_fresh u ls s p false h = tt
equated_fresh (primary (name n)) ls s p true h = equated_at (primary (name n)) ls s p (to_name n) h refl refl
equated_fresh (primary _) ls s p true h = tt
equated_fresh (member g d a) ls s p true h = equated_at (member g d a) ls s p (to_member g d a) h refl refl
equated_fresh (index g f e q) ls s p true h = equated_at (index g f e q) ls s p (to_index g f e q) h refl refl
equated_fresh (call g f es q) ls s p true h = tt

equated_sim : (u : Postfix) (l : Level) (s : OfExpr) (p : Spot) → Sim (machine.equated u l s p) (b.equated_in (expr_items s) (image (have u l s)))
equated_sim u (level ls []) (machine.in_expression s) p = equated_fresh u ls s p (is_fresh ls) refl
equated_sim u (level ls (q ∷ ps)) s p = tt
equated_sim u (level ls []) _ p = tt

-- an operator
operated_with : (ls q : Lefts 6) (ps : List machine.Sigil) (u : Postfix) (s : OfExpr) (p : Spot) (k : Ranked) → Pushes k.rank k.operator p.place (wrap ps (postfix u)) ls (expr_table s) [] (Some q)
    → b.operated_on k.rank k.operator p.place (image (have u (level ls ps) s)) (b.tightened k.rank (groups_on ls (expr_table s) []) (b.close_prefixes (prefixes ps) (postfix_after u (lefts_after ls (expr_table s))))) ≡ image (want (level q []) s)
operated_with ls q ps u s p k h = ap (λ t. b.operated_on k.rank k.operator p.place (image (have u (level ls ps) s)) (b.tightened k.rank (groups_on ls (expr_table s) []) t)) (wraps ps (postfix u) (lefts_after ls (expr_table s)))
    ∙ ap (λ gs. builder at.Want (record { groups = gs; prefixes = []; first = lefts_first ls (sigils_first ps (Some (first_of_postfix u).spot.place)) }) [] (expr_items s) (b.tightened k.rank (groups_on ls (expr_table s) []) (unary_after (wrap ps (postfix u)) (lefts_after ls (expr_table s)))).table) h.groups
    ∙ ap (λ f. builder at.Want (record { groups = groups_on q (expr_table s) []; prefixes = []; first = f }) [] (expr_items s) (b.tightened k.rank (groups_on ls (expr_table s) []) (unary_after (wrap ps (postfix u)) (lefts_after ls (expr_table s)))).table) (first_wrapped ls ps (postfix u) ∙ sym h.first)
    ∙ ap (λ t. builder at.Want (level_of (level q []) (expr_table s) None) [] (expr_items s) t) h.table

operated_at : (ls : Lefts 6) (ps : List machine.Sigil) (u : Postfix) (s : OfExpr) (p : Spot) (m : Mark) (y : Option (Lefts 6)) → HasRank y (ranked_of m)
    → ((k : Ranked) → ranked_of m ≡ Some k → Pushes k.rank k.operator p.place (wrap ps (postfix u)) ls (expr_table s) [] y)
    → Sim (elim y [ None ↦ None | Some q ↦ Some (want (level q []) s) ]) (b.operated (image (have u (level ls ps) s)) p.place m)
operated_at ls ps u s p m None r h = tt
operated_at ls ps u s p m (Some q) r h = ap (λ z. elim z [
  | None ↦ image (have u (level ls ps) s)
  | Some k ↦ b.operated_on k.rank k.operator p.place (image (have u (level ls ps) s)) (b.tightened k.rank (groups_on ls (expr_table s) []) (b.close_prefixes (prefixes ps) (postfix_after u (lefts_after ls (expr_table s)))))
]) r.1 ∙ operated_with ls q ps u s p r.0 (h r.0 r.1)

operated_sim : (u : Postfix) (l : Level) (s : OfExpr) (p : Spot) (m : Mark) → Sim (machine.operated l u s p m) (b.operated (image (have u l s)) p.place m)
operated_sim u (level ls ps) s p m = operated_at ls ps u s p m (pushed m p (wrap ps (postfix u)) ls) (has_rank m p (wrap ps (postfix u)) ls)
    (λ k e. pushes m k.rank k.operator p (wrap ps (postfix u)) ls (expr_table s) [] e tt)

had_sim : (u : Postfix) (l : Level) (s : OfExpr) (p : Spot) (t : TokenKind) → Sim (machine.had u l s p t) (b.had (image (have u l s)) p.place t)
had_sim u l s p (kinds.Mark marks.Dot) = refl
had_sim u l s p (kinds.Mark marks.OpenBracket) = refl
had_sim u l s p (kinds.Mark marks.OpenParen) = refl
had_sim u l s p (kinds.Mark marks.CloseParen) = closed_sim u l s p
had_sim u l s p (kinds.Mark marks.CloseBracket) = bracketed_sim u l s p
had_sim u l s p (kinds.Mark marks.CloseBrace) = braced_sim u l s p
had_sim u l s p (kinds.Mark marks.Comma) = parted_sim u l s p
had_sim u l s p (kinds.Mark marks.Semicolon) = ended_sim u l s p
had_sim u l s p (kinds.Mark marks.Equals) = equated_sim u l s p
had_sim u l s p (kinds.Mark m) = operated_sim u l s p m
had_sim u l s p _ = tt

argued_sim : (g : Postfix) (f : Spot) (es : Before Exprs) (l : Level) (s : OfExpr) (p : Spot) (t : TokenKind) → Sim (machine.argued g f es l s p t) (b.argued (image (argument g f es l s)) p.place t)
argued_sim g f none_before l s p (kinds.Mark marks.CloseParen) = refl
argued_sim g f (comma_after es c) l s p (kinds.Mark marks.CloseParen) = refl
argued_sim g f es l s p t = wanted_sim at.Argument fresh (in_call g f es l s) p t

elemented_sim : (f : Spot) (es : Before Exprs) (l : Level) (s : OfExpr) (p : Spot) (t : TokenKind) → Sim (machine.elemented f es l s p t) (b.elemented (image (element f es l s)) p.place t)
elemented_sim f none_before l s p (kinds.Mark marks.CloseBracket) = refl
elemented_sim f (comma_after es c) l s p (kinds.Mark marks.CloseBracket) = refl
elemented_sim f es l s p t = wanted_sim at.Element fresh (in_array f es l s) p t

giving_sim : (w : Spot) (n : Named) (ms : Members) (f : Spot) (es : Before Exprs) (l : Level) (s : OfExpr) (p : Spot) (t : TokenKind) → Sim (machine.giving w n ms f es l s p t) (b.argued (image (given w n ms f es l s)) p.place t)
giving_sim w n ms f none_before l s p (kinds.Mark marks.CloseParen) = refl
giving_sim w n ms f (comma_after es c) l s p (kinds.Mark marks.CloseParen) = refl
giving_sim w n ms f es l s p t = wanted_sim at.Given fresh (in_new w n ms f es l s) p t

newly_named_sim : (w : Spot) (n : Named) (ms : Members) (l : Level) (s : OfExpr) (p : Spot) (t : TokenKind) → Sim (machine.newly_named w n ms l s p t) (b.newly_named (image (new_named w n ms l s)) p.place t)
newly_named_sim w n ms l s p (kinds.Mark marks.Dot) = refl
newly_named_sim w n ms l s p (kinds.Mark marks.OpenParen) = refl
newly_named_sim w n ms l s p _ = tt

propertied_sim : (f : Spot) (ps : Before PropList) (l : Level) (s : OfExpr) (p : Spot) (t : TokenKind) → Sim (machine.propertied f ps l s p t) (b.propertied (image (property f ps l s)) p.place t)
propertied_sim f none_before l s p (kinds.Mark marks.CloseBrace) = refl
propertied_sim f (comma_after ps c) l s p (kinds.Mark marks.CloseBrace) = refl
propertied_sim f ps l s p (kinds.Name n) = refl
propertied_sim f ps l s p (kinds.Word w) = refl
propertied_sim f ps l s p (kinds.Text t) = refl
propertied_sim f ps l s p _ = tt

name_keyed_sim : (f : Spot) (ps : Before PropList) (n : Named) (l : Level) (s : OfExpr) (p : Spot) (t : TokenKind) → Sim (machine.name_keyed f ps n l s p t) (b.name_keyed (image (named_key f ps n l s)) p.place t)
name_keyed_sim f ps n l s p (kinds.Mark marks.Colon) = refl
name_keyed_sim f none_before n l s p (kinds.Mark marks.Comma) = refl
name_keyed_sim f (comma_after ps c) n l s p (kinds.Mark marks.Comma) = refl
name_keyed_sim f none_before n l s p (kinds.Mark marks.CloseBrace) = refl
name_keyed_sim f (comma_after ps c) n l s p (kinds.Mark marks.CloseBrace) = refl
name_keyed_sim f ps n l s p _ = tt

where_sim : (c : Bool) (q : State) (x : Builder) → x ≡ image q → Sim (cond c (Some q) None) x
where_sim true q x h = h
where_sim false q x h = tt

started_sim : (a : At) (s : OfStmt) (p : Spot) (t : TokenKind) → Sim (machine.started s p t) (b.started (builder a b.fresh [] (stmt_items s) (stmt_table s)) p.place t)
started_sim a s p (kinds.Mark marks.Semicolon) = refl
started_sim a s p (kinds.Mark marks.OpenBrace) = refl
started_sim a s p (kinds.Word words.If) = refl
started_sim a s p (kinds.Word words.While) = refl
started_sim a s p (kinds.Word words.Break) = where_sim (machine.in_loop s) (break_begun p s) _ refl
started_sim a s p (kinds.Word words.Continue) = where_sim (machine.in_loop s) (continue_begun p s) _ refl
started_sim a s p (kinds.Word words.Return) = where_sim (machine.in_function s) (return_begun p s) _ refl
started_sim a s p (kinds.Word words.Throw) = refl
started_sim a s p (kinds.Word words.Try) = refl
started_sim a s p t = wanted_sim a fresh (machine.in_expression s) p t

block_sim : (xs : Items) (d : OfBlock) (p : Spot) → Sim (machine.block_ended xs d p) (b.block_ended_in (item_items (in_block xs d) (item_declared (in_block xs d))) (image (items (in_block xs d))))
block_sim xs (block_of f s) p = refl
block_sim xs (try_of w f s) p = refl
block_sim xs (catch_of w c q f s) p = refl
block_sim xs (catch_name_of w c q f n t g s) p = refl
block_sim xs (function_of s w n f ps t g) p = refl

itemed_sim : (o : OfItem) (p : Spot) (t : TokenKind) → Sim (machine.itemed o p t) (b.itemed (image (items o)) p.place t)
itemed_sim (in_block xs d) p (kinds.Mark marks.CloseBrace) = block_sim xs d p
itemed_sim (in_script s) p (kinds.Mark marks.CloseBrace) = tt
itemed_sim (in_script s) p (kinds.Word words.Function) = refl
itemed_sim (in_block xs d) p (kinds.Word words.Function) = tt
itemed_sim o p (kinds.Word words.Let) = refl
itemed_sim o p (kinds.Word words.Const) = refl
itemed_sim o p t = started_sim at.Items (item_of o) p t

-- the statements that end
next_stmt : (o : OfItem) (st : Stmt) (x : Builder) → b.next_item (b.settled false (stmt_items (item_of o)) (stmt_after st (stmt_table (item_of o)))).stack x (b.settled false (stmt_items (item_of o)) (stmt_after st (stmt_table (item_of o)))).table
    ≡ image (items (next_of o (statement st)))
next_stmt (in_script s) st x = refl
next_stmt (in_block xs d) st x = refl

abbrev pub After : OfStmt → Stmt → Builder → Builder
After s st x = b.next_item (b.settled false (stmt_items s) (stmt_after st (stmt_table s))).stack x (b.settled false (stmt_items s) (stmt_after st (stmt_table s))).table

-- the builder after a statement does as after those that end with it
item_after_sim : (o : OfItem) (st : Stmt) (x : Builder) (p : Spot) (t : TokenKind) → Sim (machine.itemed (next_of o (statement st)) p t) (b.itemed (After (item_of o) st x) p.place t)
item_after_sim o st x p t = subst (λ z. Sim (machine.itemed (next_of o (statement st)) p t) (b.itemed z p.place t)) (sym (next_stmt o st x)) (itemed_sim (next_of o (statement st)) p t)

else_sim : (s : OfStmt) (st : Stmt) (x : Builder) (p : Spot) → Sim (machine.after st s p (kinds.Word words.Else))
    (b.else_goes_on (b.settled true (stmt_items s) (stmt_after st (stmt_table s))).stack (builder x.at x.level [] x.stack x.table) (b.settled true (stmt_items s) (stmt_after st (stmt_table s))).table)
else_sim (item_of (in_script s)) st x p = tt
else_sim (item_of (in_block xs d)) st x p = tt
else_sim (then_of w f e c s) st x p = refl
else_sim (else_of w f e c a q s) st x p = else_sim s (if_else w f e c a q st) x p
else_sim (body_of w f e c s) st x p = else_sim s (while_do w f e c st) x p

not_else_sim : (s : OfStmt) (st : Stmt) (x : Builder) (p : Spot) (t : TokenKind) → ((o : OfItem) (r : Stmt) → machine.after r (item_of o) p t ≡ machine.itemed (next_of o (statement r)) p t)
    → ((w f : Spot) (e : Expr) (c : Spot) (q : OfStmt) (r : Stmt) → machine.after r (then_of w f e c q) p t ≡ machine.after (if_then w f e c r) q p t)
    → Sim (machine.after st s p t) (b.itemed (After s st x) p.place t)
not_else_sim (item_of o) st x p t h k = subst (λ z. Sim z (b.itemed (After (item_of o) st x) p.place t)) (sym (h o st)) (item_after_sim o st x p t)
not_else_sim (then_of w f e c s) st x p t h k = subst (λ z. Sim z (b.itemed (After (then_of w f e c s) st x) p.place t)) (sym (k w f e c s st)) (not_else_sim s (if_then w f e c st) x p t h k)
not_else_sim (else_of w f e c a q s) st x p t h k = not_else_sim s (if_else w f e c a q st) x p t h k
not_else_sim (body_of w f e c s) st x p t h k = not_else_sim s (while_do w f e c st) x p t h k

after_sim : (s : OfStmt) (st : Stmt) (p : Spot) (t : TokenKind) → Sim (machine.after st s p t) (b.after (image (complete st s)) p.place t)
after_sim s st p (kinds.Word words.Else) = else_sim s st (image (complete st s)) p
after_sim s st p t = not_else_sim s st (image (complete st s)) p t (λ o r. refl) (λ w f e c q r. refl)

let_goes_on_sim : (w : Spot) (ls : Before LetDecls) (n : Named) (o : OfItem) (p : Spot) (t : TokenKind) → Sim (machine.let_goes_on w ls n o p t) (b.let_named w.place (image (let_named w ls n o)) t)
let_goes_on_sim w ls n o p (kinds.Mark marks.Equals) = refl
let_goes_on_sim w none_before n o p (kinds.Mark marks.Comma) = refl
let_goes_on_sim w (comma_after ls c) n o p (kinds.Mark marks.Comma) = refl
let_goes_on_sim w none_before n (in_script s) p (kinds.Mark marks.Semicolon) = refl
let_goes_on_sim w none_before n (in_block xs d) p (kinds.Mark marks.Semicolon) = refl
let_goes_on_sim w (comma_after ls c) n (in_script s) p (kinds.Mark marks.Semicolon) = refl
let_goes_on_sim w (comma_after ls c) n (in_block xs d) p (kinds.Mark marks.Semicolon) = refl
let_goes_on_sim w ls n o p _ = tt

let_sim : (w : Spot) (ls : Before LetDecls) (o : OfItem) (p : Spot) (t : TokenKind) → Sim (machine.at_name t (λ n. let_named w ls (named_at n p) o)) (b.let_begun w.place (image (let_begun w ls o)) p.place t)
let_sim w ls (in_script s) p (kinds.Name n) = refl
let_sim w ls (in_block xs d) p (kinds.Name n) = refl
let_sim w ls o p _ = tt

const_sim : (w : Spot) (ls : Before ConstDecls) (o : OfItem) (p : Spot) (t : TokenKind) → Sim (machine.at_name t (λ n. const_named w ls (named_at n p) o)) (b.const_begun w.place (image (const_begun w ls o)) p.place t)
const_sim w ls (in_script s) p (kinds.Name n) = refl
const_sim w ls (in_block xs d) p (kinds.Name n) = refl
const_sim w ls o p _ = tt

on_line_sim : (c : Bool) (o : Option State) (x : Builder) → Sim o x → Sim (cond c None o) x
on_line_sim true o x h = tt
on_line_sim false o x h = h

returned_sim : (w : Spot) (s : OfStmt) (p : Spot) (t : TokenKind) → Sim (machine.returned w s p t) (b.returned w.place (image (return_begun w s)) p.place t)
returned_sim w s p (kinds.Mark marks.Semicolon) = refl
returned_sim w s p t = on_line_sim p.after_line (machine.wanted fresh (in_return w s) p t) (b.wanted (at_want (at.ReturnBegun w.place) fresh (in_return w s)) p.place t) (wanted_sim (at.ReturnBegun w.place) fresh (in_return w s) p t)

parametered_sim : (s : Script) (w : Spot) (n : Named) (f : Spot) (ns : Before Names) (p : Spot) (t : TokenKind) → Sim (machine.parametered s w n f ns p t) (b.parametered (image (parameter s w n f ns)) p.place t)
parametered_sim s w n f none_before p (kinds.Mark marks.CloseParen) = refl
parametered_sim s w n f (comma_after ns c) p (kinds.Mark marks.CloseParen) = refl
parametered_sim s w n f none_before p (kinds.Name m) = refl
parametered_sim s w n f (comma_after ns c) p (kinds.Name m) = refl
parametered_sim s w n f ns p _ = tt

parameter_goes_on_sim : (s : Script) (w : Spot) (n : Named) (f : Spot) (ns : Names) (p : Spot) (t : TokenKind) → Sim (machine.parameter_goes_on s w n f ns p t) (b.parameter_goes_on (image (parameter_read s w n f ns)) t)
parameter_goes_on_sim s w n f ns p (kinds.Mark marks.Comma) = refl
parameter_goes_on_sim s w n f ns p (kinds.Mark marks.CloseParen) = refl
parameter_goes_on_sim s w n f ns p _ = tt

caught_sim : (w : Spot) (d : Block) (c : Spot) (s : OfStmt) (p : Spot) (t : TokenKind) → Sim (machine.caught w d c s p t) (b.caught (image (catch_begun w d c s)) p.place t)
caught_sim w d c s p (kinds.Mark marks.OpenBrace) = refl
caught_sim w d c s p (kinds.Mark marks.OpenParen) = refl
caught_sim w d c s p _ = tt

-- a token of one kind, or any name
colon_sim : (f : Spot) (ps : Before PropList) (k : Key) (l : Level) (s : OfExpr) (p : Spot) (t : TokenKind) → Sim (machine.at_mark marks.Colon t (want fresh (in_prop f ps k p l s))) (b.other_keyed (image (other_key f ps k l s)) t)
colon_sim f ps k l s p (kinds.Mark marks.Colon) = refl
colon_sim f ps k l s p _ = tt

open_sim : (q : State) (x : Builder) (i : code_item.Item) (t : TokenKind) → b.open_with at.Want i x ≡ image q → Sim (machine.at_mark marks.OpenParen t q) (b.test_begins i x t)
open_sim q x i (kinds.Mark marks.OpenParen) h = h
open_sim q x i _ h = tt

left_sim : (q : State) (x : Builder) (f : Form) (w : ℕ) (t : TokenKind) → b.complete x.stack x (add f w x.table) ≡ image q → Sim (machine.at_mark marks.Semicolon t q) (b.left_by f w x t)
left_sim q x f w (kinds.Mark marks.Semicolon) h = h
left_sim q x f w _ h = tt

any_sim : (a : At) (d : ℕ) (x : Builder) (t : TokenKind) (p : Spot) (q : Any → State) → ((y : Any) → b.with_member (tables.any_text y) d a x ≡ image (q y)) → Sim (machine.at_any (machine.any_at p t) q) (b.membered a d x t)
any_sim a d x (kinds.Name n) p q h = h (any_name (named_at n p))
any_sim a d x (kinds.Word w) p q h = h (any_word w p)
any_sim a d x _ p q h = tt

try_sim : (w : Spot) (s : OfStmt) (p : Spot) (t : TokenKind) → Sim (machine.at_mark marks.OpenBrace t (items (in_block no_item (try_of w p s)))) (b.try_begins w.place (image (try_begun w s)) p.place t)
try_sim w s p (kinds.Mark marks.OpenBrace) = refl
try_sim w s p _ = tt

catch_sim : (w : Spot) (d : Block) (s : OfStmt) (p : Spot) (t : TokenKind) → Sim (machine.at_catch t (catch_begun w d p s)) (b.catch_follows (image (try_read w d s)) t)
catch_sim w d s p (kinds.Word words.Catch) = refl
catch_sim w d s p _ = tt

opened_sim : (w : Spot) (d : Block) (c f : Spot) (s : OfStmt) (p : Spot) (t : TokenKind) → Sim (machine.at_name t (λ n. catch_named w d c f (named_at n p) s)) (b.catch_opened (image (catch_opened w d c f s)) p.place t)
opened_sim w d c f s p (kinds.Name n) = refl
opened_sim w d c f s p _ = tt

named_sim : (w : Spot) (d : Block) (c f : Spot) (n : Named) (s : OfStmt) (p : Spot) (t : TokenKind) → Sim (machine.at_mark marks.CloseParen t (catch_closed w d c f n p s)) (b.closes_to at.CatchClosed (image (catch_named w d c f n s)) t)
named_sim w d c f n s p (kinds.Mark marks.CloseParen) = refl
named_sim w d c f n s p _ = tt

handler_sim : (w : Spot) (d : Block) (c f : Spot) (n : Named) (q : Spot) (s : OfStmt) (p : Spot) (t : TokenKind)
    → Sim (machine.at_mark marks.OpenBrace t (items (in_block no_item (catch_name_of w d c f n q p s)))) (b.catch_closed (image (catch_closed w d c f n q s)) p.place t)
handler_sim w d c f n q s p (kinds.Mark marks.OpenBrace) = refl
handler_sim w d c f n q s p _ = tt

const_named_sim : (w : Spot) (ls : Before ConstDecls) (n : Named) (o : OfItem) (p : Spot) (t : TokenKind) → Sim (machine.at_mark marks.Equals t (want fresh (in_const w ls n p o))) (b.const_named w.place (image (const_named w ls n o)) t)
const_named_sim w ls n o p (kinds.Mark marks.Equals) = refl
const_named_sim w ls n o p _ = tt

new_sim : (w : Spot) (l : Level) (s : OfExpr) (p : Spot) (t : TokenKind) → Sim (machine.at_name t (λ n. new_named w (named_at n p) no_member l s)) (b.newly_begun (image (new_begun w l s)) p.place t)
new_sim w l s p (kinds.Name n) = refl
new_sim w l s p _ = tt

function_sim : (s : Script) (w : Spot) (p : Spot) (t : TokenKind) → Sim (machine.at_name t (λ n. function_named s w (named_at n p))) (b.function_begun w.place (image (function_begun s w)) p.place t)
function_sim s w p (kinds.Name n) = refl
function_sim s w p _ = tt

head_sim : (s : Script) (w : Spot) (n : Named) (p : Spot) (t : TokenKind) → Sim (machine.at_mark marks.OpenParen t (parameter s w n p none_before)) (b.function_named (image (function_named s w n)) t)
head_sim s w n p (kinds.Mark marks.OpenParen) = refl
head_sim s w n p _ = tt

body_sim : (s : Script) (w : Spot) (n : Named) (f : Spot) (ps : Params) (q : Spot) (p : Spot) (t : TokenKind)
    → Sim (machine.at_mark marks.OpenBrace t (items (in_block no_item (function_of s w n f ps q p)))) (b.body_begins (image (parameters_read s w n f ps q)) p.place t)
body_sim s w n f ps q p (kinds.Mark marks.OpenBrace) = refl
body_sim s w n f ps q p _ = tt

pub moves_sim : (s : State) (p : Spot) (t : TokenKind) → Sim (machine.moved s p t) (b.moved (image s) p.place t)
moves_sim (want l s) p t = wanted_sim at.Want l s p t
moves_sim (have u l s) p t = had_sim u l s p t
moves_sim (dotted u d l s) p t = any_sim at.Have d.place (image (dotted u d l s)) t p (λ a. have (member u d a) l s) (λ a. refl)
moves_sim (argument g f es l s) p t = argued_sim g f es l s p t
moves_sim (element f es l s) p t = elemented_sim f es l s p t
moves_sim (given w n ms f es l s) p t = giving_sim w n ms f es l s p t
moves_sim (new_begun w l s) p t = new_sim w l s p t
moves_sim (new_named w n ms l s) p t = newly_named_sim w n ms l s p t
moves_sim (new_dotted w n ms d l s) p t = any_sim at.NewNamed d.place (image (new_dotted w n ms d l s)) t p (λ a. new_named w n (and_member ms d a) l s) (λ a. refl)
moves_sim (property f ps l s) p t = propertied_sim f ps l s p t
moves_sim (named_key f ps n l s) p t = name_keyed_sim f ps n l s p t
moves_sim (other_key f ps k l s) p t = colon_sim f ps k l s p t
moves_sim (items o) p t = itemed_sim o p t
moves_sim (begun s) p t = started_sim at.Begun s p t
moves_sim (complete st s) p t = after_sim s st p t
moves_sim (if_begun w s) p t = open_sim (want fresh (in_if w p s)) (image (if_begun w s)) (open_items.IfTest w.place) t refl
moves_sim (while_begun w s) p t = open_sim (want fresh (in_while w p s)) (image (while_begun w s)) (open_items.WhileTest w.place) t refl
moves_sim (break_begun w s) p t = left_sim (complete (break_off w p) s) (image (break_begun w s)) forms.Break w.place t refl
moves_sim (continue_begun w s) p t = left_sim (complete (continue_on w p) s) (image (continue_begun w s)) forms.Continue w.place t refl
moves_sim (return_begun w s) p t = returned_sim w s p t
moves_sim (throw_begun w s) p t = on_line_sim p.after_line (machine.wanted fresh (in_throw w s) p t) (b.wanted (at_want (at.ThrowBegun w.place) fresh (in_throw w s)) p.place t) (wanted_sim (at.ThrowBegun w.place) fresh (in_throw w s) p t)
moves_sim (try_begun w s) p t = try_sim w s p t
moves_sim (try_read w d s) p t = catch_sim w d s p t
moves_sim (catch_begun w d c s) p t = caught_sim w d c s p t
moves_sim (catch_opened w d c f s) p t = opened_sim w d c f s p t
moves_sim (catch_named w d c f n s) p t = named_sim w d c f n s p t
moves_sim (catch_closed w d c f n q s) p t = handler_sim w d c f n q s p t
moves_sim (let_begun w ls o) p t = let_sim w ls o p t
moves_sim (let_named w ls n o) p t = let_goes_on_sim w ls n o p t
moves_sim (const_begun w ls o) p t = const_sim w ls o p t
moves_sim (const_named w ls n o) p t = const_named_sim w ls n o p t
moves_sim (function_begun s w) p t = function_sim s w p t
moves_sim (function_named s w n) p t = head_sim s w n p t
moves_sim (parameter s w n f ns) p t = parametered_sim s w n f ns p t
moves_sim (parameter_read s w n f ns) p t = parameter_goes_on_sim s w n f ns p t
moves_sim (parameters_read s w n f ps q) p t = body_sim s w n f ps q p t

-- where the tokens end
abbrev pub Ends : Option Script → Builder → Type 0
Ends None x = Unit {0}
Ends (Some z) x = x ≡ image (items (in_script z))

ends_sim : (s : OfStmt) (st : Stmt) (x : Builder) → Ends (machine.ends st s) (After s st x)
ends_sim (item_of (in_script s)) st x = refl
ends_sim (item_of (in_block xs d)) st x = tt
ends_sim (then_of w f e c s) st x = ends_sim s (if_then w f e c st) x
ends_sim (else_of w f e c a q s) st x = ends_sim s (if_else w f e c a q st) x
ends_sim (body_of w f e c s) st x = ends_sim s (while_do w f e c st) x

accept_sim : (s : State) → Ends (machine.accept s) (b.ended (image s))
accept_sim (items (in_script s)) = refl
accept_sim (items (in_block xs d)) = tt
accept_sim (complete st s) = ends_sim s st (image (complete st s))
accept_sim _ = tt

pub ended_builds : (s : State) (z : Script) → machine.accept s ≡ Some z → b.ended (image s) ≡ image (items (in_script z))
ended_builds s z e = subst (λ o. Ends o (b.ended (image s))) e (accept_sim s)

pub starts : image start ≡ b.start
starts = refl
