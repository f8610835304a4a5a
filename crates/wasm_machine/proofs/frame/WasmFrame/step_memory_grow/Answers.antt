use Rattle.wasm_syntax.specs.declared.sorts.Simple.TheVariants as simple
use Rattle.wasm_machine.proofs.Performing as perform
use Rattle.wasm_machine.proofs.FindingMemories as memory
use Rattle.wasm_machine.proofs.frame.WasmFrame.step_memory_grow.Goals as goal

pub memory_grow-requires-clause-there : goal.memory_grow-requires-clause-there
memory_grow-requires-clause-there c = memory.grow_there c.args.store.now c.args.self.now (perform.can_perform c.args.store.now c.args.self.now simple.MemoryGrow c.requires)

pub memory_grow-requires-clause-tops : goal.memory_grow-requires-clause-tops
memory_grow-requires-clause-tops c = memory.grow_tops c.args.store.now c.args.self.now (perform.can_perform c.args.store.now c.args.self.now simple.MemoryGrow c.requires)

pub returns-in-Ok-Some-clause-ok : goal.returns-in-Ok-Some-clause-ok
returns-in-Ok-Some-clause-ok c =
    perform.grow_grew c.frames_stay.ensures.typed c.frames_stay.ensures.code c.args.store.now c.memory_grow.new.store c.args.self.now c.memory_grow.new.self c.in-Ok-Some.field-0 c.in-Ok-Some.memory
    c.whole.ensures c.requires c.in-Ok-Some.field-0-is c.in-Ok-Some.ensures.ok c.in-Ok-Some.ensures.later c.in-Ok-Some.ensures.grew

pub returns-in-Ok-None-clause-ok : goal.returns-in-Ok-None-clause-ok
returns-in-Ok-None-clause-ok c =
    perform.grow_refused c.frames_stay.ensures.typed c.frames_stay.ensures.code c.args.store.now c.memory_grow.new.store c.args.self.now c.memory_grow.new.self c.in-Ok-None.field-0
    c.whole.ensures c.requires c.in-Ok-None.field-0-is c.in-Ok-None.ensures.ok c.in-Ok-None.ensures.later c.in-Ok-None.ensures.grew
