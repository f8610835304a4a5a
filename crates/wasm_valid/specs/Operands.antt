-- The types of the operands of a block (WebAssembly Core 2.0, section 3.3 and the appendix on its algorithm).
use Rattle.std.specs.Prelude.{Bool, true, false, not, ◌&&◌, List, [], ◌∷◌, ◌++◌, Option, Some, None, map, reverse}
use Rattle.wasm_syntax.specs.declared.types.ValType.{ValType}
use Rattle.wasm_syntax.specs.ValueTypes.{same_type, is_reference}
use Rattle.wasm_valid.specs.Spaces.{when, then_}

-- The operands of a block at one of its places, the topmost first, and the mark: whether anything may stand below them.
-- None in the list is an operand that fits every type, which a `select` leaves where both its operands fit every type.
pub record Operands : Type 0 where
  pub types : List (Option ValType)
  pub any : Bool

-- an operand, and those below it
pub record Taken : Type 0 where
  pub type : Option ValType
  pub rest : Operands

-- no operands, and anything may stand below: the operands of a place that is never reached
abbrev pub anything : Operands
anything = record { types = []; any = true }

-- exactly operands of these types, in their order
abbrev pub exactly : List ValType → Operands
exactly ts = record { types = map Some (reverse ts); any = false }

-- the topmost operand; one that is taken from an empty marked list fits every type
abbrev pub taken_from : List (Option ValType) → Bool → Option Taken
taken_from [] true = Some (record { type = None; rest = anything })
taken_from [] false = None
taken_from (t ∷ ts) any = Some (record { type = t; rest = record { types = ts; any = any } })

abbrev pub take_any : Operands → Option Taken
take_any s = taken_from s.types s.any

abbrev pub fits : ValType → Option ValType → Bool
fits t None = true
fits t (Some u) = same_type t u

-- without a topmost operand of this type
abbrev pub take_one : ValType → Operands → Option Operands
take_one t s = then_ (take_any s) (λ taken. when (fits t taken.type) (Some taken.rest))

-- without topmost operands of these types, the topmost first
abbrev pub take_all : List ValType → Operands → Option Operands
take_all [] s = Some s
take_all (t ∷ ts) s = then_ (take_one t s) (take_all ts)

abbrev pub put : List (Option ValType) → Operands → Operands
put ts s = record { types = ts ++ s.types; any = s.any }

-- takes operands of these types, puts operands of those; in both the topmost is the first
abbrev pub exchange : List ValType → List ValType → Operands → Option Operands
exchange ts us s = then_ (take_all ts s) (λ rest. Some (put (map Some us) rest))

-- takes operands of these types and goes elsewhere
abbrev pub leaves : List ValType → Operands → Option Operands
leaves ts s = then_ (take_all ts s) (λ _. Some anything)

abbrev pub is_number : Option ValType → Bool
is_number None = true
is_number (Some t) = not (is_reference t)

-- the type of both of two operands that fit each other
abbrev pub common : Option ValType → Option ValType → Option (Option ValType)
common None u = Some u
common (Some t) u = when (fits t u) (Some (Some t))

-- what a `select` without type puts in the place of two operands: they fit each other, and neither is a reference
abbrev pub select_of : Option ValType → Option ValType → Option (Option ValType)
select_of t u = when (is_number t && is_number u) (common t u)

-- no operand is left
abbrev pub is_empty : List (Option ValType) → Bool
is_empty [] = true
is_empty (t ∷ ts) = false

abbrev pub is_spent : Option Operands → Bool
is_spent None = false
is_spent (Some s) = is_empty s.types

-- operands of these types, given in their order, and no more
abbrev pub ends_with : List ValType → Option Operands → Bool
ends_with ts o = is_spent (then_ o (take_all (reverse ts)))
