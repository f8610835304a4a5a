-- Private: the blocks of a module that are still to come, where they are sought from the last one on.
use Rattle.std.specs.Prelude.{◌≡◌, ℕ, ◌+◌, ◌≤◌, false, List, [], ◌∷◌, ◌++◌, Option, Some, None, map, flat_map}
use Rattle.wasm_syntax.specs.declared.instructions.BlockId.{BlockId}
use Rattle.wasm_syntax.specs.declared.module.Module.{Module}
use Rattle.wasm_syntax.specs.Numbering.{ends_in, counts_to, is_numbered}

-- blocks that are still to come, each with how deep its own blocks may stand
abbrev pub Deep : Type 0
Deep = ℕ × BlockId

abbrev pub ids_of : List Deep → List BlockId
ids_of qs = map (λ (q : Deep). q.1) qs

abbrev pub ends_of : Module → List Deep → List ℕ
ends_of m qs = flat_map (λ (q : Deep). ends_in m q.0 q.1) qs

abbrev pub AreDeep : ℕ → List Deep → Type 0
AreDeep k [] = Unit {0}
AreDeep k (q ∷ qs) = (k ≤ q.0) × AreDeep k qs

-- the blocks that are left are numbered where all are
pub record Pending (m : Module) (left : ℕ) (ids : List BlockId) : Type 0 where
  pub blocks : List Deep
  pub ids_are : ids_of blocks ≡ ids
  pub deep : AreDeep (left + 1) blocks
  pub counts : is_numbered m ≡ counts_to left 0 (ends_of m blocks)

-- so many blocks are left, or a block has another number
abbrev pub Finds : Module → List BlockId → Option ℕ → Type 0
Finds m rest (Some left) = Pending m left rest
Finds m rest None = is_numbered m ≡ false

-- these come last, and are found
abbrev pub Found : Module → ℕ → List BlockId → Option ℕ → Type 0
Found m from ids answer = (rest : List BlockId) → Pending m from (rest ++ ids) → Finds m rest answer

-- these come last, and of them those are left
abbrev pub Leaves : Module → ℕ → List BlockId → ℕ → List BlockId → Type 0
Leaves m from ids left less = (rest : List BlockId) → Pending m from (rest ++ ids) → Pending m left (rest ++ less)
