use Rattle.wasm_machine.proofs.Extending.{read_8, read_16, read_32}
use Rattle.wasm_machine.proofs.perform.memories.signed.Goals as goal

pub returns-in-Bits8 : goal.returns-in-Bits8
returns-in-Bits8 c = read_8 c.args.ty c.args.width c.args.number c.at_type-read.result c.unary.result c.in-Bits8.is c.requires.read c.at_type-read.ensures c.unary.ensures.value

pub returns-in-Bits16 : goal.returns-in-Bits16
returns-in-Bits16 c = read_16 c.args.ty c.args.width c.args.number c.at_type-read.result c.unary-in-Bits16.result c.in-Bits16.is c.requires.read c.at_type-read.ensures c.unary-in-Bits16.ensures.value

pub returns-in-I64 : goal.returns-in-I64
returns-in-I64 c = read_32 c.args.ty c.args.width c.args.number c.at_type-read.result c.unary-in-I64.result c.in-Bits32.is c.in-I64.is c.requires.read c.at_type-read.ensures c.unary-in-I64.ensures.value
