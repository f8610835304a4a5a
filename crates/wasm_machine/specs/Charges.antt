-- What a rewriting takes of the budget: one unit for each instruction of a body that is begun, and for the bulk instructions and table.grow
-- one more per whole 1,024 of their count. What the standard rewrites without an instruction of a body takes nothing.
use Rattle.std.specs.Prelude.{ℕ, ◌+◌, ◌/◌, List, [], ◌∷◌}
use Rattle.wasm_syntax.specs.Sorts.{sort_of}
use Rattle.wasm_syntax.specs.declared.instructions.Instr.{Instr}
use Rattle.wasm_syntax.specs.declared.sorts.Simple.{Simple}
use Rattle.wasm_syntax.specs.declared.sorts.Simple.TheVariants as simple
use Rattle.wasm_syntax.specs.declared.sorts.Sort.{Sort}
use Rattle.wasm_syntax.specs.declared.sorts.Sort.TheVariants as sort
use Rattle.wasm_syntax.specs.declared.value.Value.{Value}
use Rattle.wasm_syntax.specs.declared.value.Value.TheVariants as w
use Rattle.wasm_machine.specs.Terms.{Term, here, inside}

-- whole 1,024s of a count, which is the topmost operand
abbrev pub per_count : List Value → ℕ
per_count (w.I32 n ∷ vs) = n / 1024
per_count _ = 0

abbrev pub extra_of : Simple → List Value → ℕ
extra_of (simple.MemoryInit x) vs = per_count vs
extra_of simple.MemoryCopy vs = per_count vs
extra_of simple.MemoryFill vs = per_count vs
extra_of (simple.TableInit x y) vs = per_count vs
extra_of (simple.TableCopy to from) vs = per_count vs
extra_of (simple.TableFill x) vs = per_count vs
extra_of (simple.TableGrow x) vs = per_count vs
extra_of _ vs = 0

abbrev pub charge_by : Sort → List Value → ℕ
charge_by (sort.Simple p) vs = 1 + extra_of p vs
charge_by _ vs = 1

-- an instruction that is begun on these values
abbrev pub charge_of_instr : Instr → List Value → ℕ
charge_of_instr i vs = charge_by (sort_of i) vs

abbrev pub charge_next : List Value → List Instr → ℕ
charge_next vs [] = 0
charge_next vs (i ∷ is) = charge_of_instr i vs

-- a form in a list with these values before it and these instructions after it
abbrev pub charge_in : List Value → List Instr → Term → ℕ
charge_in vs is here = charge_next vs is
charge_in vs is (inside l t) = charge_in l.values l.rest t
charge_in vs is _ = 0

-- the charge of the rewriting of a term
abbrev pub charge_of : Term → ℕ
charge_of t = charge_in [] [] t
