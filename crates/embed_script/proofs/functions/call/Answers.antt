use Rattle.std.proofs.Common.{◌∙◌, ap, length, map}
use Rattle.wasm_syntax.specs.declared.types.FuncType.{FuncType}
use Rattle.wasm_syntax.specs.declared.value.Value.TheVariants as w
use Rattle.wasm_store.specs.Store.{type_of}
use Rattle.embed_script.proofs.Arguments.{placed_count}
use Rattle.embed_script.proofs.Serving.{can_call_at}
use Rattle.embed_script.proofs.functions.call.Goals as goal

pub run-requires-clause-enters : goal.run-requires-clause-enters
run-requires-clause-enters c =
    let count = placed_count c.args.place c.len-count.result c.args.values.now c.in_ok-words.words.items c.in_ok-words.ensures ∙ c.len-count.ensures ∙ ap (λ (g : FuncType). length g.params) (c.ty.ensures ∙ ap type_of c.func.ensures) in
    can_call_at c.args.state.now.store c.charge.new.state.store c.args.func c.as_slice-2.result.now c.in_ok-words.words.items
    c.charge.ensures.store c.requires.code c.requires.callable (c.as_slice-2.ensures.value ∙ c.in_ok-args.ensures ∙ ap (map w.I32) c.as_slice.ensures.value) count
