-- Core terms (WebAssembly Core 2.0, sections 4.2.12 to 4.2.14 and 4.4): the configurations of a running program.
use Rattle.std.specs.Prelude.{ℕ, List}
use Rattle.wasm_syntax.specs.declared.instructions.Instr.{Instr}
use Rattle.wasm_syntax.specs.declared.value.Value.{Value}
use Rattle.wasm_syntax.specs.declared.trap.Trap.{Trap}
use Rattle.wasm_syntax.specs.declared.addresses.FuncAddr.{FuncAddr}
use Rattle.wasm_syntax.specs.declared.addresses.InstAddr.{InstAddr}

-- 4.2.12, the state F of a frame: its locals, and the instance whose code runs
pub record FrameState : Type 0 where
  pub locals : List Value
  pub «instance» : InstAddr

-- What a list of instructions at work stands in: a label with its arity and its continuation, or a frame with its arity and its state.
pub data Kind : Type 0 where
  label : (arity : ℕ) → (next : List Instr) → Kind
  frame : (arity : ℕ) → (state : FrameState) → Kind

-- A label or a frame, with the values before the form at work, the topmost first, and the plain instructions after it.
pub record Level : Type 0 where
  pub kind : Kind
  pub values : List Value
  pub rest : List Instr

pub data Term : Type 0 where
  -- no form: the first of the plain instructions is at work, or the list has ended
  here : Term
  -- a function is called, with its arguments in the order of its parameters
  invoke : (func : FuncAddr) → (args : List Value) → Term
  trap : (cause : Trap) → Term
  -- a value of the embedder is thrown, of which it keeps this number
  throw : (thrown : ℕ) → Term
  inside : Level → Term → Term

-- the term with another form in the place of the one at work
abbrev pub with_form : Term → Term → Term
with_form u (inside l t) = inside l (with_form u t)
with_form u here = u
with_form u (invoke func args) = u
with_form u (trap cause) = u
with_form u (throw thrown) = u
