-- How many constructs are open with a token that opens one, in each state of the reader; elsewhere 0.
use Rattle.std.specs.Prelude.{◌≡◌, ℕ, suc, ◌<◌, ◌≤◌, List, [], ◌∷◌, take, Some, None, slice_get}
use Rattle.host_lexer.specs.declared.token.Word.TheVariants as words
use Rattle.host_lexer.specs.declared.token.Mark.TheVariants as marks
use Rattle.host_lexer.specs.declared.token.TokenKind.{TokenKind}
use Rattle.host_lexer.specs.declared.token.TokenKind.TheVariants as kinds
use Rattle.host_grammar.specs.Printing.{Sign, Printed}
use Rattle.host_grammar.specs.Refusals.{most_open}
use Rattle.host_grammar.specs.Machine.{OfStmt, item_of, then_of, else_of, body_of, State, want, have, argument, element, given, new_named, items, begun, complete, if_begun, while_begun, return_begun, throw_begun, try_begun, catch_begun, catch_closed, function_named, parameters_read, start, step, run}
use Rattle.host_grammar.specs.Spelling.{stmt_depth, item_depth, under}

-- where an operand begins
abbrev pub operand_opens : ℕ → TokenKind → ℕ
operand_opens d (kinds.Mark marks.Minus) = suc d
operand_opens d (kinds.Mark marks.Not) = suc d
operand_opens d (kinds.Mark marks.OpenParen) = suc d
operand_opens d (kinds.Mark marks.OpenBracket) = suc d
operand_opens d (kinds.Mark marks.OpenBrace) = suc d
operand_opens d (kinds.Word words.TypeOf) = suc d
operand_opens d (kinds.Word words.New) = suc d
operand_opens d _ = 0

-- after an operand
abbrev pub index_opens : ℕ → TokenKind → ℕ
index_opens d (kinds.Mark marks.OpenParen) = suc d
index_opens d (kinds.Mark marks.OpenBracket) = suc d
index_opens d _ = 0

-- after the name of a `new`
abbrev pub list_opens : ℕ → TokenKind → ℕ
list_opens d (kinds.Mark marks.OpenParen) = suc d
list_opens d _ = 0

-- where a statement begins
abbrev pub stmt_opens : ℕ → TokenKind → ℕ
stmt_opens d (kinds.Word words.If) = suc d
stmt_opens d (kinds.Word words.While) = suc d
stmt_opens d t = operand_opens d t

-- after a statement
abbrev pub after_opens : OfStmt → TokenKind → ℕ
after_opens (item_of o) t = stmt_opens (item_depth o) t
after_opens (then_of w f e c s) (kinds.Word words.Else) = 0
after_opens (then_of w f e c s) t = after_opens s t
after_opens (else_of w f e c a o s) t = after_opens s t
after_opens (body_of w f e c s) t = after_opens s t

abbrev pub opens : State → TokenKind → ℕ
opens (want l s) t = operand_opens (under l s) t
opens (have u l s) t = index_opens (under l s) t
opens (argument g f es l s) t = operand_opens (suc (under l s)) t
opens (element f es l s) t = operand_opens (suc (under l s)) t
opens (given w n ms f es l s) t = operand_opens (suc (suc (under l s))) t
opens (new_named w n ms l s) t = list_opens (suc (under l s)) t
opens (items o) t = stmt_opens (item_depth o) t
opens (begun s) t = stmt_opens (stmt_depth s) t
opens (complete st s) t = after_opens s t
opens (if_begun w s) t = suc (suc (stmt_depth s))
opens (while_begun w s) t = suc (suc (stmt_depth s))
opens (return_begun w s) t = operand_opens (stmt_depth s) t
opens (throw_begun w s) t = operand_opens (stmt_depth s) t
opens (try_begun w s) t = suc (stmt_depth s)
opens (catch_begun w b c s) t = suc (stmt_depth s)
opens (catch_closed w b c f n q s) t = suc (stmt_depth s)
opens (function_named s w n) t = 1
opens (parameters_read s w n f ps q) t = 1
opens _ t = 0

-- tokens with the constructs that they open, as a state counts them
abbrev pub counts : State → List Sign → List Printed
counts s [] = []
counts s (t ∷ ts) = record { sign = t; nth = opens s t.kind } ∷ (elim (step s t) [ None ↦ [] | Some r ↦ counts r ts ])

-- none of the first n tokens opens more constructs than may be open
abbrev pub AreWithin : List Sign → ℕ → Type 0
AreWithin ts n = (i : ℕ) (s : State) (t : Sign) → i < n → run start (take i ts) ≡ Some s → slice_get ts i ≡ Some t → opens s t.kind ≤ most_open
