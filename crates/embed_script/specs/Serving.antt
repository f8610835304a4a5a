-- Private: what the names of a run need of its store.
use Rattle.std.specs.Prelude.{◌≡◌, ℕ, ◌<◌, true, List, Option, Some, None, length}
use Rattle.std.specs.Option.{option_map}
use Rattle.std.specs.HashMap.{get_by_text}
use Rattle.wasm_syntax.specs.declared.addresses.FuncAddr.{FuncAddr}
use Rattle.wasm_store.specs.Store.{Store, type_of, function_at}
use Rattle.wasm_store.specs.Whole.{AllHaveCode}
use Rattle.embed_script.specs.Functions.{is_word_type}
use Rattle.embed_script.specs.Evaluation.{Binding, value, function}
use Rattle.embed_script.specs.Tasks.{Names, binding_of}

-- a live function with i32 parameters and one i32 result
abbrev pub IsCallable : Store → FuncAddr → Type 0
IsCallable s f = (f.0 < length s.functions) × (is_word_type (type_of (function_at s f)) ≡ true)

abbrev pub BindingServes : Store → Option Binding → Type 0
BindingServes s None = Unit {0}
BindingServes s (Some (value v)) = Unit {0}
BindingServes s (Some (function f)) = IsCallable s f

-- each function to which a name is bound may be called in the store
pub record Serves (names : Names) (s : Store) : Type 0 where
  pub code : AllHaveCode s
  pub callable : (name : List ℕ) → BindingServes s (option_map binding_of (get_by_text names name))
