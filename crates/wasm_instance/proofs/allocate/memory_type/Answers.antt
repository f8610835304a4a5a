use Rattle.std.proofs.Common.{◌≡◌, ◌<◌, ℕ, List, length, sym, subst, ◌∙◌}
use Rattle.std.specs.Prelude.{true, None, slice_index_or}
use Rattle.std.proofs.lemmas.Option.{slice_get-get_or}
use Rattle.wasm_syntax.specs.declared.types.Limit.{Limit}
use Rattle.wasm_syntax.specs.declared.module.Module.{Module}
use Rattle.wasm_valid.specs.ModuleRules.{is_memory, is_typed_module}
use Rattle.wasm_instance.proofs.Rules.{memory_is_right}
use Rattle.wasm_instance.proofs.allocate.memory_type.Goals as goal

right_at : (m : Module) → is_typed_module m ≡ true → (limits : List Limit) (k : ℕ) (d : Limit) → limits ≡ m.mems → k < length m.mems → is_memory (slice_index_or limits k d) ≡ true
right_at m typed limits k d e within =
    subst (λ (us : List Limit). is_memory (slice_index_or us k d) ≡ true) (sym e) (memory_is_right m typed k (slice_index_or m.mems k d) (slice_get-get_or m.mems k d within))

pub returns-clause-memory : goal.returns-clause-memory
returns-clause-memory c =
    let typed : is_typed_module c.module-2.result.now ≡ true = subst (λ (m : Module). is_typed_module m ≡ true) (sym c.module-2.ensures.value) c.module-2.ensures.typed in
    right_at c.module-2.result.now typed c.as_slice.result.now c.args.k (record { min = 0; max = None }) c.as_slice.ensures
    (subst (λ (m : Module). c.args.k < length m.mems) (sym (c.module-2.ensures.value ∙ c.module.ensures)) c.requires.within)
