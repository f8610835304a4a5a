-- What a script's bytes are read as: they are decoded as UTF-8, the text is split into tokens, and the tokens are parsed (ECMA-262, sections 12
-- and 16.1.5, cut to the profile). What refuses them first is told with its place, a byte counted from 0.
use Rattle.std.specs.Prelude.{◌≡◌, ℕ, ◌⊎◌, List, length}
use Rattle.std.specs.Str.{IsUtf8, IsValidUpTo}
use Rattle.host_lexer.specs.Tokens.{Reading, tokens, bad_token, number_outside, IsRead}
use Rattle.host_grammar.specs.Refusals.{Parsed, IsParsed, tree, unexpected, too_deep, early}
use Rattle.host_parser.specs.Trees.{tree_of}
use Rattle.host_reading.specs.declared.reading.Read.{Read}
use Rattle.host_reading.specs.declared.reading.Read.TheVariants as answers
use Rattle.host_reading.specs.declared.refusal.Refusal.TheVariants as reasons

-- the bytes of a script, at most
abbrev pub most_script_bytes : ℕ
most_script_bytes = 1048576

-- the answer where the tokens of a text of this length are parsed so
abbrev pub answer_of : Parsed → (len : ℕ) → Read
answer_of (tree s) len = answers.Script (tree_of s len)
answer_of (unexpected place) len = answers.Refused (reasons.Unexpected place)
answer_of (too_deep place) len = answers.Refused (reasons.TooDeep place)
answer_of (early place name) len = answers.Refused (reasons.DeclaredTwice name place)

-- the answer where a text of this length is split so
abbrev pub Answers : Reading → (len : ℕ) → Read → Type 0
Answers (tokens ts) len answer = (p : Parsed) × IsParsed ts len p × (answer ≡ answer_of p len)
Answers (bad_token place) len answer = answer ≡ answers.Refused (reasons.BadToken place)
Answers (number_outside place) len answer = answer ≡ answers.Refused (reasons.NumberOutside place)

-- bytes that are no UTF-8 are refused behind the longest of their fronts that is
abbrev pub IsNoText : List ℕ → Read → Type 0
IsNoText bytes answer = (place : ℕ) × IsValidUpTo bytes place × (answer ≡ answers.Refused (reasons.NotUtf8 place))

-- a text is split, and its tokens are parsed
abbrev pub ReadsText : List ℕ → Read → Type 0
ReadsText bytes answer = (reading : Reading) × IsRead bytes reading × Answers reading (length bytes) answer

-- bytes are read so
abbrev pub Reads : List ℕ → Read → Type 0
Reads bytes answer = IsNoText bytes answer ⊎ (IsUtf8 bytes × ReadsText bytes answer)
