use Rattle.std.proofs.Common.{arith, ◌+◌}
use Rattle.host_lexer.proofs.Named.{size_front}
use Rattle.host_lexer.proofs.lexer.refusal.Goals as goal

pub byte_len-requires : goal.byte_len-requires
byte_len-requires c = let front = size_front c.args.chars.now (c.in-Separator.before + 2) in omega (arith, front, c.requires.small)

pub overflow_add-result : goal.overflow_add-result
overflow_add-result c = let front = size_front c.args.chars.now (c.in-Separator.before + 2) in omega (arith, front, c.requires.small, c.byte_len.ensures)

pub overflow_cast-result-in-Separator : goal.overflow_cast-result-in-Separator
overflow_cast-result-in-Separator c = let front = size_front c.args.chars.now (c.in-Separator.before + 2) in omega (arith, front, c.requires.small, c.byte_len.ensures)
