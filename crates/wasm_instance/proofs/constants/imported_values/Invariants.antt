use Rattle.std.proofs.Common.{◌≡◌, map, take}
use Rattle.wasm_syntax.specs.declared.addresses.GlobalAddr.{GlobalAddr}
use Rattle.wasm_store.specs.Store.{global_at}
use Rattle.wasm_instance.proofs.constants.imported_values.Given as goal

abbrev pub invariant-loop-global : goal.invariant-loop-global
invariant-loop-global l = l.values.items ≡ map (λ (g : GlobalAddr). (global_at l.store g).value) (take l.global-index l.globals)
