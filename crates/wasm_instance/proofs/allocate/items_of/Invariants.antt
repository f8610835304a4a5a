use Rattle.std.proofs.Common.{◌≡◌, map, take}
use Rattle.wasm_instance.specs.Parts.{constant_in}
use Rattle.wasm_instance.proofs.allocate.items_of.Given as goal

abbrev pub invariant-loop-id : goal.invariant-loop-id
invariant-loop-id l = l.items.items ≡ map (constant_in l.«module» l.funcs l.values) (take l.id-index l.id-items)
