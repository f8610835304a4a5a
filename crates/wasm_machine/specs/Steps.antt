-- What a step of a frame makes of the term for which the frame stands.
use Rattle.std.specs.Prelude.{◌≡◌, ◌⊎◌, ℕ, ◌<◌, length, List, [], ◌∷◌, reverse}
use Rattle.wasm_syntax.specs.declared.instructions.Instr.{Instr}
use Rattle.wasm_syntax.specs.declared.module.Module.{Module}
use Rattle.wasm_syntax.specs.declared.value.Value.{Value}
use Rattle.wasm_syntax.specs.declared.trap.Trap.{Trap}
use Rattle.std.specs.List.{AllZip}
use Rattle.wasm_syntax.specs.declared.types.ValType.{ValType}
use Rattle.wasm_store.specs.Store.{Store, type_of, function_at}
use Rattle.wasm_store.specs.Whole.{HasType}
use Rattle.wasm_machine.specs.Fits.{Fits, Waits}
use Rattle.wasm_machine.specs.declared.frame.Effect.{Effect}
use Rattle.wasm_machine.specs.declared.frame.Effect.TheVariants.{Went, Call, Returned, Trapped, Grew}
use Rattle.wasm_machine.specs.Terms.{FrameState, label, Term, here, invoke, trap, inside}
use Rattle.wasm_machine.specs.Reduction.{branches, act, rewrites, gives, reduce}
use Rattle.wasm_machine.specs.Charges.{charge_of}
use Rattle.wasm_machine.specs.Performing.{Performed, performs}
use Rattle.wasm_machine.specs.View.{View, frame_level, close, next_code, rest_of, state_of, module_for, term_round, term_of, with_values, with_locals}

-- in one rewriting, or in one more that takes nothing of the budget, the term becomes these values, the topmost first
abbrev pub EndsIn : Store → FrameState → Term → List Value → Type 0
EndsIn s F t vs = (reduce s F t ≡ gives vs []) ⊎ ((u : Term) × (reduce s F t ≡ rewrites s F u) × (charge_of u ≡ 0) × (reduce s F u ≡ gives vs []))

-- after one rewriting a trap is at work in the term, which the next one leaves and which takes nothing of the budget
abbrev pub TrapsIn : Store → FrameState → Term → Trap → Type 0
TrapsIn s F t cause = (u : Term) × (reduce s F t ≡ rewrites s F u) × (charge_of u ≡ 0) × (reduce s F u ≡ rewrites s F (trap cause))

-- What a step in the store s makes of a term t: with every effect but `Went` and `Grew` the redex, values or trap that it names is then
-- at work. F is the state of the frame round it, if any.
abbrev pub Makes : Store → Term → Effect → Store → View → Type 0
Makes s t Went r new = (F : FrameState) → reduce s F t ≡ rewrites r F (term_of r new)
Makes s t (Call func args) r new = (r ≡ s) × ((F : FrameState) → reduce s F t ≡ rewrites s F (term_round (module_for s new) new (invoke func args.items)))
Makes s t (Returned values) r new = (r ≡ s) × ((F : FrameState) → EndsIn s F t (reverse values.items))
Makes s t (Trapped cause) r new = (r ≡ s) × ((F : FrameState) → TrapsIn s F t cause)
Makes s t (Grew memory) r new = (F : FrameState) → reduce s F t ≡ rewrites r F (term_of r new)

-- What it leaves of a frame that gives values of the types R: the frame fits the store as it is then, or waits for the results of a live
-- function that it calls with arguments of its types, or has ended with values of the types R.
abbrev pub LeavesFit : List ValType → Effect → Store → View → Type 0
LeavesFit R Went r new = Fits r R new
LeavesFit R (Call func args) r new =
    (func.0 < length r.functions) × AllZip (HasType r) args.items (type_of (function_at r func)).params × Waits r R (type_of (function_at r func)).results new
LeavesFit R (Returned values) r new = AllZip (HasType r) values.items R
LeavesFit R (Trapped cause) r new = Unit {0}
LeavesFit R (Grew memory) r new = Fits r R new

-- Words of the machine's own contracts.

-- the term of a frame with one more instruction before those that are left in its innermost list
abbrev pub term_before : Module → Instr → View → Term
term_before m i v =
    inside (frame_level v) (close m v.outer (inside (record { kind = label v.top.arity (next_code v.top.block v.top.again); values = v.top.values; rest = i ∷ rest_of m v }) here))

-- an instruction goes on in the innermost list alone
pub record Performs (d : Performed) (r : Store) (old new : View) : Type 0 where
  pub acts : d ≡ performs r new.locals new.top.values
  pub rest : new ≡ with_locals new.locals (with_values new.top.values old)
