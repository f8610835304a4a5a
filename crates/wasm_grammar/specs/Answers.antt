-- What a reader answers.
use Rattle.std.specs.Prelude.{◌≡◌, Option, Some, None, Result, Ok, Err}
use Rattle.wasm_grammar.specs.declared.fault.ReadError.{ReadError}
use Rattle.wasm_grammar.specs.declared.fault.ReadError.TheVariants as errors

-- where bytes are malformed no value is told
abbrev pub Refuses : {Y : Type 0} → ReadError → Option Y → Type 0
Refuses errors.Malformed told = told ≡ None
Refuses errors.NoMemory told = Unit {0}

-- The answer, seen by `view`, is the one that is told, and no value where none is told. Memory may run out.
abbrev pub Gives : {X Y : Type 0} → (X → Y) → Result X ReadError → Option Y → Type 0
Gives view (Ok x) told = told ≡ Some (view x)
Gives view (Err error) told = Refuses error told

-- The answer is a value, and this one where it is seen by `view`. Memory may run out.
abbrev pub Answers : {X Y : Type 0} → (X → Y) → Result X ReadError → Y → Type 0
Answers view (Ok x) y = view x ≡ y
Answers view (Err errors.Malformed) y = ⊥
Answers view (Err errors.NoMemory) y = Unit {0}

-- memory did not run out
abbrev pub IsDecided : {X : Type 0} → Result X ReadError → Type 0
IsDecided (Err errors.NoMemory) = ⊥
IsDecided _ = Unit {0}
