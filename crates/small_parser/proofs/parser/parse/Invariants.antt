use Rattle.std.proofs.Common.{take}
use Rattle.small_parser.proofs.Main.{Leads}
use Rattle.small_parser.proofs.parser.parse.Given as goal

-- the tokens so far lead to a state, which the reader shows
abbrev pub invariant-loop-token : goal.invariant-loop-token
invariant-loop-token l = Leads (take l.token-index l.tokens) l.reader
