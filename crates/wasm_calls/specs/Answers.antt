-- Words of the contract of a call: its end, and what it leaves of the store.
use Rattle.std.specs.Prelude.{List}
use Rattle.std.specs.List.{AllZip}
use Rattle.wasm_syntax.specs.declared.types.ValType.{ValType}
use Rattle.wasm_store.specs.Store.{Store}
use Rattle.wasm_store.specs.Whole.{HasType}
use Rattle.wasm_calls.specs.declared.ending.Ending.{Ending}
use Rattle.wasm_calls.specs.declared.ending.Ending.TheVariants.{Returned, Trapped, Exhausted, PastBudget}
use Rattle.wasm_calls.specs.Calls.{Outcome, returned, trapped, thrown, past_budget, stack_exhausted}

abbrev pub outcome_of : Ending → Outcome
outcome_of (Returned values) = returned values.items
outcome_of (Trapped cause) = trapped cause
outcome_of Exhausted = thrown stack_exhausted
outcome_of (PastBudget needs) = past_budget needs

-- the values that it returned have these types
abbrev pub EndsTyped : Store → List ValType → Ending → Type 0
EndsTyped s types (Returned values) = AllZip (HasType s) values.items types
EndsTyped s types _ = Unit {0}
