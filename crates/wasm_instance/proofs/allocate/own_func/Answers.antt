use Rattle.std.proofs.Common.{◌≡◌, ◌^◌, ◌<◌, List, length, sym, ap, ◌∙◌, subst, arith}
use Rattle.std.specs.Prelude.{true, Some, slice_get}
use Rattle.wasm_syntax.specs.declared.types.FuncType.{FuncType}
use Rattle.wasm_syntax.specs.declared.module.Module.{Module}
use Rattle.wasm_valid.specs.ModuleRules.{is_typed_module}
use Rattle.wasm_store.specs.declared.instances.FuncInst.TheVariants as f
use Rattle.wasm_store.specs.Store.{module_at}
use Rattle.wasm_store.specs.Allocated.{functions_of}
use Rattle.wasm_instance.proofs.Rules.{few_functions, type_is_there}
use Rattle.wasm_instance.proofs.Adding.{function_made}
use Rattle.wasm_instance.proofs.allocate.own_func.Goals as goal

pub type_at-requires : goal.type_at-requires
type_at-requires c =
    let typed : is_typed_module c.module-module.result.now ≡ true = subst (λ (m : Module). is_typed_module m ≡ true) (sym c.module-module.ensures.value) c.module-module.ensures.typed in
    let there : c.func_at-own.result.now.ty < length c.module-module.result.now.types = type_is_there c.module-module.result.now typed c.args.k c.func_at-own.result.now c.func_at-own.ensures in
    subst (λ (types : List FuncType). c.func_at-own.result.now.ty < length types) (sym (c.requires.types ∙ ap (λ (m : Module). m.types) (sym (c.module-module.ensures.value ∙ c.module.ensures)))) there

pub overflow_cast-result : goal.overflow_cast-result
overflow_cast-result c =
    let typed : is_typed_module (module_at c.args.store.now c.args.a) ≡ true = subst (λ (m : Module). is_typed_module m ≡ true) c.module.ensures c.module-module.ensures.typed in
    let few : length (module_at c.args.store.now c.args.a).funcs < 2 ^ 32 = few_functions (module_at c.args.store.now c.args.a) typed in
    let within : c.args.k < length (module_at c.args.store.now c.args.a).funcs = c.requires.within in
    omega (arith, few, within)

pub returns-clause-value : goal.returns-clause-value
returns-clause-value c =
    subst (λ (m : Module). slice_get (functions_of m c.args.i 0 m.funcs) c.args.k ≡ Some (f.Wasm c.in_ok-ty.ty c.args.i c.args.k)) (c.module-module.ensures.value ∙ c.module.ensures)
    (function_made c.module-module.result.now c.args.i c.args.k c.func_at-own.result.now c.type_at.result.now c.in_ok-ty.ty c.func_at-own.ensures
    (subst (λ (types : List FuncType). slice_get types c.func_at-own.result.now.ty ≡ Some c.type_at.result.now) (c.requires.types ∙ ap (λ (m : Module). m.types) (sym (c.module-module.ensures.value ∙ c.module.ensures))) c.type_at.ensures)
    c.in_ok-ty.ensures.cases)
