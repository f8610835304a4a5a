use Rattle.std.proofs.Common.{ap, ◌∙◌, get_or}
use Rattle.small_lexer.proofs.Classes.{mark_reads}
use Rattle.small_lexer.proofs.lexer.read_mark.Goals as goal

pub returns-clause-found : goal.returns-clause-found
returns-clause-found c = mark_reads c.args.text.now c.args.from c.in-Some.mark c.requires.within (c.in-Some.ensures ∙ ap (λ xs. get_or xs c.args.from 0) c.as_bytes.ensures.value)
