use Rattle.std.proofs.Common.{◌≡◌, ◌++◌, map, take}
use Rattle.wasm_syntax.specs.declared.module.GlobalDef.{GlobalDef}
use Rattle.wasm_valid.proofs.spaces.add_globals.Given as goal

abbrev pub invariant-loop-global : goal.invariant-loop-global
invariant-loop-global l = l.list.items ≡ l.fn.list.items ++ map (λ (g : GlobalDef). g.ty) (take l.global-index l.globals)
