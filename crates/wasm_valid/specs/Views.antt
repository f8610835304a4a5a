-- Private: what the code keeps of a module.
use Rattle.std.specs.Prelude.{◌≡◌, ℕ, ◌+◌, ◌<◌, Bool, true, false, ◌||◌, List, [], ◌∷◌, length, slice_index_or}
use Rattle.wasm_syntax.specs.declared.types.ValType.{ValType}
use Rattle.wasm_syntax.specs.declared.module.Module.{Module}
use Rattle.wasm_valid.specs.declared.spaces.Spaces.{Spaces}
use Rattle.wasm_valid.specs.Spaces.{funcs_of, tables_of, globals_of, imported_globals_of, mems_of, is_declared}

-- flags that are set where a test passes, and stay set
pub record Marks (old new : List Bool) (test : ℕ → Bool) : Type 0 where
  pub count : length new ≡ length old
  pub each : (x : ℕ) → x < length old → slice_index_or new x false ≡ (slice_index_or old x false || test x)

-- the index spaces of a module, and which of its functions a body may refer to
pub record IsSpaces (m : Module) (spaces : Spaces) : Type 0 where
  pub funcs : spaces.funcs.items ≡ funcs_of m
  pub tables : spaces.tables.items ≡ tables_of m
  pub imported_globals : spaces.imported_globals.items ≡ imported_globals_of m
  pub globals : spaces.globals.items ≡ globals_of m
  pub mems : spaces.mems.items ≡ mems_of m
  pub declared_count : length spaces.declared.items ≡ length (funcs_of m)
  pub declared : (x : ℕ) → x < length (funcs_of m) → slice_index_or spaces.declared.items x false ≡ is_declared m x

-- how many locals there are up to the end of each run, n of them before the first one
abbrev pub ends_from : ℕ → List (ℕ × ValType) → List ℕ
ends_from n [] = []
ends_from n (run ∷ runs) = (n + run.0) ∷ ends_from (n + run.0) runs

-- each label that is marked passes a test
abbrev pub AllSeen : List Bool → (ℕ → Bool) → Type 0
AllSeen seen test = (x : ℕ) → slice_index_or seen x false ≡ true → test x ≡ true
