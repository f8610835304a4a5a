use Rattle.std.proofs.Common.{sym, ◌∙◌}
use Rattle.small_lexer.specs.Tokens.{reserved_words}
use Rattle.small_lexer.proofs.Among.{among, among_back}
use Rattle.small_lexer.proofs.words.is_reserved.Goals as goal

pub returns : goal.returns
returns c = (λ h. among reserved_words c.args.word.now (sym c.is_among.ensures ∙ h), λ h. c.is_among.ensures ∙ among_back reserved_words c.args.word.now h)
