-- What loading answers (WebAssembly Core 2.0, section 7.1.2): decoding, and then validation.
use Rattle.std.specs.Prelude.{◌≡◌, ℕ, Bool, true, false, List, Option, Some, None, Result, Ok, Err}
use Rattle.wasm_syntax.specs.declared.module.Module.{Module}
use Rattle.wasm_grammar.specs.declared.built.Foreign.{Foreign}
use Rattle.wasm_grammar.specs.Decoding.{Decoded, Decodes, module_is, malformed, outside}
use Rattle.wasm_valid.specs.ModuleRules.{is_typed_module, refused_function}
use Rattle.wasm_load.specs.declared.loading.LoadError.{LoadError}
use Rattle.wasm_load.specs.declared.loading.LoadError.TheVariants as errors

-- a valid module, no module, a module with a part that the profile leaves out, or one that isn't valid, with the function to blame
pub data Loaded : Type 0 where
  valid : Module → Loaded
  no_module : Loaded
  left_out : (place : ℕ) → Foreign → Loaded
  invalid : (function : Option ℕ) → Loaded

-- validation of a module that was decoded (chapter 3)
abbrev pub by_typing : Module → Bool → Loaded
by_typing m true = valid m
by_typing m false = invalid (refused_function m)

abbrev pub loaded_as : Module → Loaded
loaded_as m = by_typing m (is_typed_module m)

-- what is loaded of what was decoded
abbrev pub loaded_of : Decoded → Loaded
loaded_of (module_is m) = loaded_as m
loaded_of malformed = no_module
loaded_of (outside place what) = left_out place what

-- loading these bytes answers so
abbrev pub Loads : List ℕ → Loaded → Type 0
Loads bytes answer = (d : Decoded) × Decodes bytes d × (answer ≡ loaded_of d)

-- what an answer tells: nothing where memory ran out
abbrev pub told_of : Result Module LoadError → Option Loaded
told_of (Ok m) = Some (valid m)
told_of (Err errors.Malformed) = Some no_module
told_of (Err (errors.Outside place what)) = Some (left_out place what)
told_of (Err (errors.Invalid function)) = Some (invalid function)
told_of (Err errors.NoMemory) = None
