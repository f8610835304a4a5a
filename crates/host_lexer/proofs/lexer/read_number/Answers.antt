use Rattle.host_lexer.proofs.Named.{number_reads, no_number_begins, run_there}
use Rattle.host_lexer.proofs.lexer.read_number.Goals as goal

pub number_kind-requires : goal.number_kind-requires
number_kind-requires c = run_there c.args.chars.now c.number_len-len.result c.requires c.number_len-len.ensures.len

pub returns-in_default-clause-refused : goal.returns-in_default-clause-refused
returns-in_default-clause-refused c = no_number_begins c.args.chars.now c.number_len-len.result c.requires c.number_len-len.ensures.len c.in_default.ensures

pub returns-clause-found : goal.returns-clause-found
returns-clause-found c =
    rw (c.token.ensures.len, c.token.ensures.kind, c.token.ensures.line_end)
    (number_reads c.args.chars.now c.number_len-len.result c.in-Some.kind c.number_len-len.ensures.len c.in-Some.ensures)
