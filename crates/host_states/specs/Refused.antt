-- What is told of tokens: that they are a script's, or the place at which they are refused.
use Rattle.std.specs.Prelude.{ℕ, List, map, Option, Some, None}
use Rattle.host_lexer.specs.declared.token.Token.{Token}
use Rattle.host_states.specs.declared.refusal.Refusal.{Refusal}
use Rattle.host_states.specs.declared.refusal.Refusal.TheVariants.{Unexpected, TooDeep}
use Rattle.host_grammar.specs.Derivations.{Script}
use Rattle.host_grammar.specs.Printing.{seen}
use Rattle.host_grammar.specs.Conditions.{IsScript}
use Rattle.host_grammar.specs.Refusals.{IsParsed, IsTooDeep, unexpected, too_deep}

abbrev pub Tells : List Token → ℕ → Option Refusal → Type 0
Tells ts len None = (x : Script) × IsScript (map seen ts) x × ((k : ℕ) → ¬ IsTooDeep (map seen ts) k)
Tells ts len (Some (Unexpected p)) = IsParsed ts len (unexpected p)
Tells ts len (Some (TooDeep p)) = IsParsed ts len (too_deep p)
