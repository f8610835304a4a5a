use Rattle.std.proofs.Common.{sym}
use Rattle.wasm_machine.proofs.IndirectLaws.{lengths_differ}
use Rattle.wasm_machine.proofs.indirect.same_types.Goals as goal

pub returns-then-a-b : goal.returns-then-a-b
returns-then-a-b c = sym (lengths_differ c.args.a.now c.args.b.now c.if-a-b.true)
