-- What closing the chains and prefixes of a level spells.
use Rattle.std.specs.Prelude.{◌≡◌, ℕ, List, [], ◌∷◌, refl}
use Rattle.std.proofs.Common.{◌∙◌, ap}
use Rattle.host_grammar.specs.Derivations.{Chain, Unary, postfix, prefixed, Postfix}
use Rattle.host_grammar.specs.Printing.{Printed, chain_then, unary_then, postfix_then}
use Rattle.host_grammar.specs.Machine.{Left, nothing_left, before, Lefts, no_left, also, Sigil, sigil, Level, level, with_left, close, wrap, expr_of}
use Rattle.host_grammar.specs.Spelling.{left_then, lefts_then, deeper, sigils_then, within, level_then}

pub wrap_then : (d : ℕ) (ps : List Sigil) (u : Unary) (y : List Printed) → unary_then d (wrap ps u) y ≡ sigils_then d ps (unary_then (deeper ps d) u y)
wrap_then d [] u y = refl
wrap_then d (sigil o p ∷ ps) u y = wrap_then d ps (prefixed o p u) y

pub with_left_then : {n : ℕ} (d : ℕ) (l : Left n) (c : Chain n) (y : List Printed) → chain_then d (with_left l c) y ≡ left_then d l (chain_then d c y)
with_left_then d nothing_left c y = refl
with_left_then d (before a o p) c y = refl

pub close_then : {n : ℕ} (d : ℕ) (ls : Lefts n) (u : Unary) (y : List Printed) → chain_then d (close ls u) y ≡ lefts_then d ls (unary_then d u y)
close_then d no_left u y = refl
close_then d (also l ls) u y = with_left_then d l (close ls u) y ∙ ap (left_then d l) (close_then d ls u y)

-- an expression that is read is its level and its last operand
pub expr_of_then : (d : ℕ) (l : Level) (u : Postfix) (y : List Printed) → chain_then d (expr_of l u) y ≡ level_then d l (postfix_then (within l d) u y)
expr_of_then d (level ls ps) u y = close_then d ls (wrap ps (postfix u)) y ∙ ap (lefts_then d ls) (wrap_then d ps (postfix u) y)
