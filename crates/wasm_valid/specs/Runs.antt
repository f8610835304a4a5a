-- Private: a list of operands in runs.
use Rattle.std.specs.Prelude.{◌≡◌, ℕ, ◌<◌, ◌≤◌, Bool, List, [], ◌∷◌, ◌++◌, Option, Some, length, map, reverse, take, drop, flat_map}
use Rattle.wasm_syntax.specs.declared.types.ValType.{ValType}
use Rattle.wasm_valid.specs.declared.runs.Run.{Run}
use Rattle.wasm_valid.specs.declared.runs.Rest.{Rest}
use Rattle.wasm_valid.specs.Operands.{Operands}

-- the operands of a run, the topmost last
abbrev pub of_run : Run → List (Option ValType)
of_run run = map Some run.types.now ++ run.last ∷ []

-- those of runs that stand on one another, the topmost last
abbrev pub laid_out : List Run → List (Option ValType)
laid_out runs = flat_map of_run runs

-- those that are left
abbrev pub left_in : Rest → List (Option ValType)
left_in rest = laid_out rest.runs.now ++ map Some rest.types.now

-- those above a place, the topmost first
abbrev pub above : ℕ → Bool → List (Option ValType) → Operands
above base any list = record { types = reverse (drop base list); any = any }

-- fewer operands, of which the first ones are the same
pub record Shortens (len : ℕ) (old new : List (Option ValType)) : Type 0 where
  pub kept : take len new ≡ take len old
  pub fewer : length new < length old
  pub enough : len ≤ length new
