use Rattle.host_lexer.proofs.Quoted.{brace_past, brace_other, brace_wrong, brace_piece}
use Rattle.host_lexer.proofs.texts.braced.Goals as goal

pub returns-then-end-chars : goal.returns-then-end-chars
returns-then-end-chars c = record { none = λ q. brace_past q c.args.chars.now c.hex_len-len.result c.requires.begins c.hex_len-len.ensures.len c.if-end-chars.true }

pub returns-then-chars-end-ne125 : goal.returns-then-chars-end-ne125
returns-then-chars-end-ne125 c = record {
  none = λ q. brace_other q c.args.chars.now c.hex_len-len.result c.index-chars-end.result c.requires.begins c.hex_len-len.ensures.len c.if-end-chars.false c.index-chars-end.is
      c.if-chars-end-ne125.true;
}

pub returns-in_default : goal.returns-in_default
returns-in_default c = record { none = λ q. brace_wrong q c.args.chars.now c.hex_len-len.result c.requires.begins c.hex_len-len.ensures.len c.in_default.ensures }

pub returns : goal.returns
returns c = record {
  none = λ q. brace_piece q c.args.chars.now c.hex_len-len.result c.index-chars-end.result c.in-Some.code c.requires.begins c.if-len-eq0.false c.if-end-chars.false
      c.index-chars-end.is c.if-chars-end-ne125.false c.in-Some.ensures;
}
