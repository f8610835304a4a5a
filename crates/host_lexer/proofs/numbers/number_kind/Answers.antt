use Rattle.std.proofs.Common.{subst}
use Rattle.host_lexer.specs.Steps.{HasNumeral}
use Rattle.host_lexer.proofs.Numbered.{is_whole}
use Rattle.host_lexer.proofs.numbers.number_kind.Goals as goal

pub returns : goal.returns
returns c = is_whole c.args.chars.now c.in-Some.value (subst (λ g. HasNumeral c.args.chars.now g c.in-Some.value) c.from.ensures c.in-Some.ensures)
