use Rattle.std.proofs.Common.{◌∙◌, arith}
use Rattle.raw_memory.proofs.Numbers.{number_8}
use Rattle.raw_memory.proofs.raw_mem.spelled.Goals as goal

pub returns-in-len8-clause-value : goal.returns-in-len8-clause-value
returns-in-len8-clause-value c = c.from_le_bytes-in-len8.ensures ∙ number_8 c.args.bytes.now (omega (arith, c.in-len8.len_at_least, c.in-len8.len_below))
