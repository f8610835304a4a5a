-- What reading the tokens of a script gives.
use Rattle.std.specs.Prelude.{◌≡◌, Result, Ok, Err}
use Rattle.small_parser.specs.declared.script.ParseError.{ParseError}
use Rattle.small_parser.specs.declared.script.ParseError.TheVariants as errors
use Rattle.small_parser.specs.declared.script.Script as code
use Rattle.small_parser.specs.Grammar.{Script}
use Rattle.small_parser.specs.Shows.{ScriptShows}

-- the script's tree, unless memory ran out
abbrev pub Gives : Result code.Script ParseError → Script → Type 0
Gives (Ok s) d = ScriptShows d s.nodes s.top
Gives (Err e) d = e ≡ errors.NoMemory
