use Rattle.std.proofs.Common.{◌≡◌, ◌<◌, ℕ, List, length, sym, subst, ◌∙◌}
use Rattle.std.specs.Prelude.{true, None, slice_index_or}
use Rattle.std.proofs.lemmas.Option.{slice_get-get_or}
use Rattle.wasm_syntax.specs.declared.types.ValType.TheVariants as v
use Rattle.wasm_syntax.specs.declared.types.TableType.{TableType}
use Rattle.wasm_syntax.specs.declared.module.Module.{Module}
use Rattle.wasm_valid.specs.ModuleRules.{is_table, is_typed_module}
use Rattle.wasm_instance.proofs.Rules.{table_is_right}
use Rattle.wasm_instance.proofs.allocate.table_type.Goals as goal

right_at : (m : Module) → is_typed_module m ≡ true → (tys : List TableType) (k : ℕ) (d : TableType) → tys ≡ m.tables → k < length m.tables → is_table (slice_index_or tys k d) ≡ true
right_at m typed tys k d e within =
    subst (λ (us : List TableType). is_table (slice_index_or us k d) ≡ true) (sym e) (table_is_right m typed k (slice_index_or m.tables k d) (slice_get-get_or m.tables k d within))

pub returns-clause-table : goal.returns-clause-table
returns-clause-table c =
    let typed : is_typed_module c.module-2.result.now ≡ true = subst (λ (m : Module). is_typed_module m ≡ true) (sym c.module-2.ensures.value) c.module-2.ensures.typed in
    right_at c.module-2.result.now typed c.as_slice.result.now c.args.k (record { elem = v.I32; limit = record { min = 0; max = None } }) c.as_slice.ensures
    (subst (λ (m : Module). c.args.k < length m.tables) (sym (c.module-2.ensures.value ∙ c.module.ensures)) c.requires.within)
