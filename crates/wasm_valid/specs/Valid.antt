-- What validation answers.
use Rattle.std.specs.Prelude.{◌≡◌, ℕ, true, false, List, Option, Some, None, map}
use Rattle.std.specs.List.{list_all}
use Rattle.wasm_syntax.specs.declared.module.Module.{Module}
use Rattle.wasm_valid.specs.declared.valid.Invalid.TheVariants as answers
use Rattle.wasm_valid.specs.declared.valid.Invalid.{Invalid}
use Rattle.wasm_valid.specs.Typing.{is_typed_body, body_height}
use Rattle.wasm_valid.specs.ModuleRules.{is_typed_module, refused_function, first_untyped}

-- a module is refused: it isn't typed, and the function is the one to blame, or there was no memory
abbrev pub Refuses : Module → Invalid → Type 0
Refuses m (answers.Invalid function) = (is_typed_module m ≡ false) × (function ≡ refused_function m)
Refuses m answers.NoMemory = Unit {0}

-- a typed module with the heights of its functions' bodies
pub record IsValid (m : Module) (heights : List ℕ) : Type 0 where
  pub typed : is_typed_module m ≡ true
  pub heights_are : heights ≡ map (body_height m) m.funcs

-- what the bodies come to: the first one that isn't typed, or all heights
abbrev pub BodiesAre : Module → List ℕ → Option ℕ → Type 0
BodiesAre m heights (Some k) = (first_untyped m 0 m.funcs ≡ Some k) × (list_all (is_typed_body m) m.funcs ≡ false)
BodiesAre m heights None = (list_all (is_typed_body m) m.funcs ≡ true) × (heights ≡ map (body_height m) m.funcs)
