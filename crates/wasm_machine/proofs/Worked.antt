-- The definitions on small terms, by computation.
use Rattle.std.proofs.Common.{◌≡◌, ℕ, zero, suc, ◌+◌, List, [], ◌∷◌, refl, Option, Some, None}
use Rattle.wasm_syntax.specs.declared.types.ValType.TheVariants as v
use Rattle.wasm_syntax.specs.declared.types.FuncType.{FuncType}
use Rattle.wasm_syntax.specs.declared.instructions.BlockId.{BlockId}
use Rattle.wasm_syntax.specs.declared.instructions.BlockType.TheVariants as bt
use Rattle.wasm_syntax.specs.declared.instructions.Instr.{Instr}
use Rattle.wasm_syntax.specs.declared.instructions.Instr.TheVariants as i
use Rattle.wasm_syntax.specs.declared.module.Func.{Func}
use Rattle.wasm_syntax.specs.declared.value.Value.{Value}
use Rattle.wasm_syntax.specs.declared.value.Value.TheVariants as w
use Rattle.wasm_syntax.specs.declared.trap.Trap.TheVariants as because
use Rattle.wasm_syntax.specs.declared.addresses.FuncAddr.{FuncAddr}
use Rattle.wasm_syntax.specs.declared.addresses.InstAddr.{InstAddr}
use Rattle.wasm_num.specs.Integers.{binary_of, integer_binary}
use Rattle.wasm_store.specs.declared.instances.FuncInst.{FuncInst}
use Rattle.wasm_store.specs.declared.instances.FuncInst.TheVariants as f
use Rattle.wasm_store.specs.Store.{Store, blank, no_module, empty_store}
use Rattle.wasm_machine.specs.Terms.{FrameState, label, frame, Term, here, invoke, trap, inside, with_form}
use Rattle.wasm_machine.specs.Reduction.{Does, rewrites, gives, calls, traps, stuck, reduce, frame_for, frame_with}
use Rattle.wasm_machine.specs.Charges.{charge_of}

abbrev block : ℕ → BlockId
block n = record { 0 = n }

abbrev func : ℕ → FuncAddr
func n = record { 0 = n }

abbrev inst : InstAddr
inst = record { 0 = 0 }

abbrev funcs_from : ℕ → List FuncType → List Func
funcs_from n [] = []
funcs_from n (g ∷ gs) = record { ty = n; locals = []; body = block n } ∷ funcs_from (suc n) gs

abbrev functions_from : ℕ → List FuncType → List FuncInst
functions_from n [] = []
functions_from n (g ∷ gs) = f.Wasm g inst n ∷ functions_from (suc n) gs

abbrev addresses_from : ℕ → List FuncType → List FuncAddr
addresses_from n [] = []
addresses_from n (g ∷ gs) = func n ∷ addresses_from (suc n) gs

-- a store with one instance, of a module with functions of these types and these blocks: the body of each function is the block of its own
-- number
abbrev store_of : List FuncType → List (List Instr) → Store
store_of types blocks = record empty_store {
  modules = record no_module { types = types; funcs = funcs_from 0 types; blocks = blocks } ∷ [];
  instances = record (blank (record { 0 = 0 })) { funcs = addresses_from 0 types } ∷ [];
  functions = functions_from 0 types;
}

abbrev outside : FrameState
outside = record { locals = []; «instance» = inst }

-- one rewriting, where the invoke of a function of a module is rewritten to its frame
abbrev entered : Store → Term → Option Term → Does
entered s t None = stuck
entered s t (Some u) = rewrites s outside (with_form u t)

abbrev on_call : Store → Term → Does → Does
on_call s t (calls a args) = entered s t (frame_for s a args)
on_call s t d = d

abbrev turn : Store → Term → Does
turn s t = on_call s t (reduce s outside t)

-- what comes after at most so many rewritings more
abbrev run : ℕ → Does → Does
run zero d = d
run (suc n) (rewrites s F t) = run n (turn s t)
run (suc n) d = d

-- the units that these rewritings take
abbrev charged : ℕ → Does → ℕ
charged zero d = 0
charged (suc n) (rewrites s F t) = charge_of t + charged n (turn s t)
charged (suc n) d = 0

-- A body that adds its two parameters.

abbrev binary_type : FuncType
binary_type = record { params = v.I32 ∷ v.I32 ∷ []; results = v.I32 ∷ [] }

abbrev unary_type : FuncType
unary_type = record { params = v.I32 ∷ []; results = v.I32 ∷ [] }

abbrev constant_type : FuncType
constant_type = record { params = []; results = v.I32 ∷ [] }

abbrev adder : Store
adder = store_of (binary_type ∷ []) ((i.LocalGet 0 ∷ i.LocalGet 1 ∷ i.I32Add ∷ []) ∷ [])

abbrev called : Store → List Value → Does
called s args = turn s (invoke (func 0) args)

sum_is : run 9 (called adder (w.I32 7 ∷ w.I32 8 ∷ [])) ≡ gives (w.I32 15 ∷ []) []
unfolding binary_of integer_binary
sum_is = refl

sum_wraps : run 9 (called adder (w.I32 2147483648 ∷ w.I32 2147483655 ∷ [])) ≡ gives (w.I32 7 ∷ []) []
unfolding binary_of integer_binary
sum_wraps = refl

sum_takes_three : charged 9 (called adder (w.I32 7 ∷ w.I32 8 ∷ [])) ≡ 3
unfolding binary_of integer_binary
sum_takes_three = refl

-- A loop that goes round while its local isn't 0, and a branch out of it and of the block round it.

abbrev looping : Store
looping = store_of (unary_type ∷ [])
    ((i.Block (bt.One v.I32) (block 1) ∷ [])
    ∷ (i.Loop bt.Empty (block 2) ∷ i.Unreachable ∷ [])
    ∷ (i.LocalGet 0 ∷ i.I32Const 1 ∷ i.I32Sub ∷ i.LocalTee 0 ∷ i.BrIf 0 ∷ i.I32Const 3 ∷ i.LocalGet 0 ∷ i.Br 1 ∷ [])
    ∷ [])

loop_is_left : run 40 (called looping (w.I32 2 ∷ [])) ≡ gives (w.I32 0 ∷ []) []
unfolding binary_of integer_binary
loop_is_left = refl

-- block, loop, five instructions; loop again, eight instructions
loop_takes_again : charged 40 (called looping (w.I32 2 ∷ [])) ≡ 16
unfolding binary_of integer_binary
loop_takes_again = refl

-- A call and its return, over an operand that stays.

abbrev calling : Store
calling = store_of (constant_type ∷ unary_type ∷ [])
    ((i.I32Const 40 ∷ i.I32Const 1 ∷ i.Call 1 ∷ i.I32Add ∷ i.Return ∷ [])
    ∷ (i.Block bt.Empty (block 2) ∷ i.LocalGet 0 ∷ i.I32Const 1 ∷ i.I32Add ∷ i.Return ∷ [])
    ∷ (i.I32Const 5 ∷ i.Drop ∷ [])
    ∷ [])

call_returns : run 40 (called calling []) ≡ gives (w.I32 42 ∷ []) []
unfolding binary_of integer_binary
call_returns = refl

-- A trap leaves one frame with its labels in a rewriting.

abbrev waiting : Term → Term
waiting t =
    inside (record { kind = frame 1 outside; values = []; rest = [] })
    (inside (record { kind = label 1 []; values = w.I32 4 ∷ []; rest = i.I32Add ∷ [] })
    (inside (record { kind = label 0 []; values = []; rest = i.Nop ∷ [] }) t))

trap_leaves_a_frame : reduce empty_store outside (waiting (waiting (trap because.Overflow))) ≡ rewrites empty_store outside (waiting (trap because.Overflow))
trap_leaves_a_frame = refl

trap_leaves_the_next : reduce empty_store outside (waiting (trap because.Overflow)) ≡ rewrites empty_store outside (trap because.Overflow)
trap_leaves_the_next = refl

abbrev trapping : Store
trapping = store_of (constant_type ∷ []) ((i.I32Const 8 ∷ i.I32Const 0 ∷ i.I32DivU ∷ []) ∷ [])

division_traps : run 9 (called trapping []) ≡ traps because.DivideByZero
unfolding binary_of integer_binary
division_traps = refl

-- A surplus at a frame's end, a lack at a branch: no rule applies.

two_at_the_end : reduce empty_store outside (inside (record { kind = frame 1 outside; values = w.I32 1 ∷ w.I32 2 ∷ []; rest = [] }) here) ≡ stuck
two_at_the_end = refl

branch_without_values : reduce empty_store outside (frame_with 1 outside (i.Br 0 ∷ [])) ≡ stuck
branch_without_values = refl
