use Rattle.std.proofs.Common.{◌≡◌, ◌++◌, map, take}
use Rattle.wasm_syntax.specs.declared.module.Func.{Func}
use Rattle.wasm_valid.proofs.spaces.add_funcs.Given as goal

abbrev pub invariant-loop-func : goal.invariant-loop-func
invariant-loop-func l = l.list.items ≡ l.fn.list.items ++ map (λ (f : Func). f.ty) (take l.func-index l.funcs)
