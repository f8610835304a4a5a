-- Private: the operands of the innermost open block on those of the blocks round it.
use Rattle.std.specs.Prelude.{◌≡◌, ℕ, Bool, true, false, ◌&&◌, List, Option, Some, None, reverse, take, drop}
use Rattle.wasm_syntax.specs.declared.types.ValType.{ValType}
use Rattle.wasm_valid.specs.Operands.{Operands, is_empty}

-- the operands of the innermost open block, and those that stay below, the topmost first
pub record Pile : Type 0 where
  pub own : Operands
  pub under : List (Option ValType)

-- a list with the topmost operand at its end, of which the first ones stay below
abbrev pub pile_of : List (Option ValType) → ℕ → Bool → Pile
pile_of list base any = record { own = record { types = reverse (drop base list); any = any }; under = reverse (take base list) }

-- no operand is there, and anything may stand below
abbrev pub is_anything : Operands → Bool
is_anything s = s.any && is_empty s.types

-- these operands come of a test that passes, and none of one that fails
abbrev pub Becomes : Option Operands → Bool → Operands → Type 0
Becomes o true s = o ≡ Some s
Becomes o false s = o ≡ None
