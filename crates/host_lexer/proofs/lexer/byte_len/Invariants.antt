use Rattle.std.proofs.Common.{◌≡◌, take}
use Rattle.host_lexer.specs.Tokens.{size_of}
use Rattle.host_lexer.proofs.lexer.byte_len.Given as goal

abbrev pub invariant-loop-c : goal.invariant-loop-c
invariant-loop-c l = l.len ≡ size_of (take l.c-index l.chars)
