use Rattle.std.proofs.Common.{◌∙◌, ◌++◌, sym, ap, encode_utf8}
use Rattle.host_lexer.proofs.Named.{bytes_more}
use Rattle.host_lexer.proofs.lexer.text_of.Goals as goal

pub loop-c-preserved : goal.loop-c-preserved
loop-c-preserved c =
    c.in_ok-push.ensures.bytes ∙ ap (λ y. y ++ encode_utf8 c.c-item.result) c.loop-c.invariant
    ∙ sym (bytes_more c.args.chars.now c.loop-c.c-index c.c-item.result c.loop-c-test.true c.c-item.is)
