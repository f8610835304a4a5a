use Rattle.std.proofs.Common.{◌∙◌, get_or}
use Rattle.host_lexer.proofs.Classes.{slash_class}
use Rattle.host_lexer.proofs.lexer.read_slash.Goals as goal

pub read_mark-requires-clause-other : goal.read_mark-requires-clause-other
read_mark-requires-clause-other c =
    slash_class (get_or c.args.chars.now 0 0) (get_or c.args.chars.now 1 0) c.requires.slash (λ e. c.if-second-eq47.false (c.char_or_null-second.ensures ∙ e))
    (λ e. c.if-second-eq42.false (c.char_or_null-second.ensures ∙ e))
