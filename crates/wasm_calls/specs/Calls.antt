-- The run of a call to its end (WebAssembly Core 2.0, sections 4.2.13, 4.4.10 and 4.5.5), with a budget: a configuration is a store, a
-- term and what is left of the budget, and it goes on by the one rewriting that its term has.
use Rattle.std.specs.Prelude.{ℕ, zero, suc, ◌+◌, ◌*◌, ◌-◌, nat_le, nat_lt, if◌then◌else◌, List, [], reverse, Option, Some, None}
use Rattle.wasm_syntax.specs.declared.value.Value.{Value}
use Rattle.wasm_syntax.specs.declared.trap.Trap.{Trap}
use Rattle.wasm_syntax.specs.declared.addresses.FuncAddr.{FuncAddr}
use Rattle.wasm_store.specs.Store.{Store}
use Rattle.wasm_machine.specs.Terms.{FrameState, Kind, label, frame, Term, here, invoke, trap, throw, inside, with_form}
use Rattle.wasm_machine.specs.Reduction.{Does, rewrites, gives, calls, traps, throws, reduce, frame_for}
use Rattle.wasm_machine.specs.Charges.{charge_of}

-- How a run ends.
pub data Outcome : Type 0 where
  -- with these values, in the order of the function's results
  returned : (values : List Value) → Outcome
  trapped : (cause : Trap) → Outcome
  -- with a value of the embedder that was thrown, by its number
  thrown : (number : ℕ) → Outcome
  -- before a rewriting that takes more of the budget than is left
  past_budget : (needs : ℕ) → Outcome
  -- no rule applies
  no_rule : Outcome

pub data Configuration : Type 0 where
  running : (store : Store) → (term : Term) → (left : ℕ) → Configuration
  ended : (store : Store) → (outcome : Outcome) → (left : ℕ) → Configuration

-- no more frames are open at once
abbrev pub most_frames : ℕ
most_frames = 10000

-- the number of the embedder's exception where one frame more would be opened (7.3, exhaustion)
abbrev pub stack_exhausted : ℕ
stack_exhausted = 0

abbrev pub under_level : Kind → ℕ → ℕ
under_level (label n next) k = k
under_level (frame n F) k = suc k

-- how many frames a term has
abbrev pub frames_in : Term → ℕ
frames_in (inside l t) = under_level l.kind (frames_in t)
frames_in here = 0
frames_in (invoke a args) = 0
frames_in (trap cause) = 0
frames_in (throw v) = 0

-- 4.4.10: the called function's frame stands in the place of its call
abbrev pub entered : Store → Term → ℕ → Option Term → Configuration
entered s t left None = ended s no_rule left
entered s t left (Some body) = running s (with_form body t) left

-- a call is at work, which is one frame more, or the exception where there may be none
abbrev pub called : Store → Term → ℕ → FuncAddr → List Value → Configuration
called s t left a args = if nat_lt (frames_in t) most_frames then entered s t left (frame_for s a args) else running s (with_form (throw stack_exhausted) t) left

-- what comes of a term that does this
abbrev pub after : Store → Term → ℕ → Does → Configuration
after s t left (rewrites r F u) = running r u left
after s t left (gives vs []) = ended s (returned (reverse vs)) left
after s t left (calls a args) = called s t left a args
after s t left (traps cause) = ended s (trapped cause) left
after s t left (throws v) = ended s (thrown v) left
after s t left _ = ended s no_rule left

-- no frame is round the whole term, so its rewriting reads none
abbrev pub outermost : FrameState
outermost = record { locals = []; «instance» = record { 0 = 0 } }

-- one rewriting, after its charge; what has ended stays
abbrev pub next : Configuration → Configuration
next (running s t left) = if nat_le (charge_of t) left then after s t (left - charge_of t) (reduce s outermost t) else ended s (past_budget (charge_of t)) left
next (ended s o left) = ended s o left

abbrev pub repeated : ℕ → Configuration → Configuration
repeated zero c = c
repeated (suc n) c = repeated n (next c)

-- how many rewritings a term may have yet that take nothing: each closes a level, or begins or refuses a call
abbrev pub weight : Term → ℕ
weight (inside l t) = suc (weight t)
weight here = 0
weight (invoke a args) = 3
weight (trap cause) = 0
weight (throw v) = 0

-- A run has no more rewritings: one that is charged takes a unit and opens a block, or comes to a call.
abbrev pub most_rewritings : Configuration → ℕ
most_rewritings (running s t left) = 4 * left + weight t + 1
most_rewritings (ended s o left) = 0

-- the end of a run
abbrev pub end_of : Configuration → Configuration
end_of c = repeated (most_rewritings c) c

-- a call of a function from outside with these arguments
abbrev pub call_of : Store → FuncAddr → List Value → (left : ℕ) → Configuration
call_of s a args left = running s (invoke a args) left
