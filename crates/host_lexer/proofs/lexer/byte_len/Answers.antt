use Rattle.std.proofs.Common.{arith, ◌+◌}
use Rattle.host_lexer.proofs.Named.{size_more, size_front}
use Rattle.host_lexer.proofs.lexer.byte_len.Goals as goal

pub overflow_add-len : goal.overflow_add-len
overflow_add-len c =
    let more = size_more c.args.chars.now c.loop-c.c-index c.c-item.result c.loop-c-test.true c.c-item.is in
    let front = size_front c.args.chars.now (c.loop-c.c-index + 1) in
    omega (arith, more, front, c.loop-c.invariant, c.len_utf8-len.ensures.len, c.requires)

pub loop-c-preserved : goal.loop-c-preserved
loop-c-preserved c =
    let more = size_more c.args.chars.now c.loop-c.c-index c.c-item.result c.loop-c-test.true c.c-item.is in
    omega (arith, more, c.loop-c.invariant, c.len_utf8-len.ensures.len)
