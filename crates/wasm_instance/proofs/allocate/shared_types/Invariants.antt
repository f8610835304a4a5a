use Rattle.std.proofs.Common.{◌≡◌, take}
use Rattle.wasm_instance.proofs.allocate.shared_types.Given as goal

abbrev pub invariant-loop-ty : goal.invariant-loop-ty
invariant-loop-ty l = l.types.items ≡ take l.ty-index l.ty-items
