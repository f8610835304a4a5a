use Rattle.std.specs.Prelude.{map}
use Rattle.host_grammar.specs.Printing.{seen}
use Rattle.host_parser.proofs.Parses.{gives}
use Rattle.host_parser.proofs.parsing.parse.Goals as goal

pub returns-clause-only : goal.returns-clause-only
returns-clause-only c = λ p k. gives c.args.tokens.now c.args.len c.requires (c.scripts_are_accepted.ensures.one (map seen c.args.tokens.now)) (c.readings_are_one.ensures c.args.tokens.now c.args.len) c.read.result c.read.ensures p k
