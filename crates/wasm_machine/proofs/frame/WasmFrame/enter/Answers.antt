use Rattle.std.proofs.Common.{◌∙◌, ◌++◌, length, ap}
use Rattle.wasm_syntax.specs.declared.types.FuncType.{FuncType}
use Rattle.wasm_syntax.specs.declared.module.Module.{Module}
use Rattle.wasm_machine.specs.Reduction.{default_locals}
use Rattle.wasm_machine.proofs.Entered.{Found, entry_by, found_fits, found_stands}
use Rattle.wasm_machine.proofs.frame.WasmFrame.enter.Goals as goal
use Rattle.wasm_machine.proofs.frame.WasmFrame.enter.Goals.{After-begun}

found : (c : After-begun) → Found c.args.store.now c.args.func c.args.args.now c.in-Wasm.ty c.in-Wasm.instance c.in-Wasm.index c.height-room.result c.len.result c.index-as_slice-index.result c.in_ok-words-in-Wasm.words.items c.instance.result.now c.begun.result
found c = record {
  entry = entry_by c.args.store.now c.args.func c.args.args.now c.func.result.now c.in-Wasm.ty c.in-Wasm.instance c.in-Wasm.index c.instance.result.now c.module-valid.result.now c.as_slice.result.now c.height-room.result _ c.index-as_slice-index.result c.in_ok-words-in-Wasm.words.items
      c.whole.ensures c.requires c.func.ensures c.in-Wasm.is c.instance.ensures c.module-valid.ensures (c.as_slice.ensures ∙ ap (λ (m : Module). m.funcs) c.module.ensures.value) c.index-as_slice-index.is c.height-room.ensures.height c.height-room.ensures.typed_body (c.in_ok-words-in-Wasm.ensures.locals ∙ ap (λ rs. c.args.args.now ++ default_locals rs) c.as_slice-in-Wasm.ensures);
  inst_is = c.instance.ensures;
  result_count = c.len.ensures ∙ ap (λ (ty : FuncType). length ty.results) c.get.ensures;
  begun = c.begun.ensures;
}

pub returns-clause-fits : goal.returns-clause-fits
returns-clause-fits c = found_fits _ _ _ _ _ _ _ _ _ _ _ _ (found c)

pub returns-clause-stands : goal.returns-clause-stands
returns-clause-stands c = found_stands _ _ _ _ _ _ _ _ _ _ _ _ (found c)
