-- How a run ends, and what comes after an answer (ECMA-262, section 5.2.3, in the profile).
use Rattle.std.specs.Prelude.{ℕ, List, Result, Ok, Err, nat_le, ◌-◌, codes, if◌then◌else◌}
use Rattle.embed_base.specs.declared.outside.OutsideKind.{OutsideKind}
use Rattle.embed_base.specs.declared.outside.Place.TheVariants as places
use Rattle.embed_base.specs.declared.outside.Outside.{Outside}
use Rattle.embed_script.specs.declared.state.State.{State}

-- how a run ends: at the script's end; with an exception that nothing catches, by its shown form; with a charge above what
-- is left of the budget; or with a named refusal
pub data End : Type 0 where
  done : End
  uncaught : (shown : List ℕ) → End
  past_budget : (needs left : ℕ) → End
  outside : Outside → End

-- the exception of bytes that are no valid module
abbrev pub compile_error : End
compile_error = uncaught (codes "CompileError")

-- those of a trap, and of a call or a table past a limit
abbrev pub runtime_error : End
runtime_error = uncaught (codes "RuntimeError")

abbrev pub range_error : End
range_error = uncaught (codes "RangeError")

-- what comes after an answer; an end stays
abbrev pub and_then : {A B E : Type 0} → Result A E → (A → Result B E) → Result B E
and_then (Ok x) f = f x
and_then (Err e) f = Err e

-- a charge: the store, with what is left of the budget after it; one above what is left ends the run
abbrev pub charge : (needs : ℕ) → State → Result State End
charge needs s = if nat_le needs s.left then Ok (record s { left = s.left - needs }) else Err (past_budget needs s.left)

-- a refusal at a byte of the script
abbrev pub refused_at : ℕ → OutsideKind → Outside
refused_at place kind = record { kind = kind; place = places.Script place }

-- an answer whose refusal stands at a byte of the script
abbrev pub at_place : {A : Type 0} → ℕ → Result A OutsideKind → Result A End
at_place place (Ok v) = Ok v
at_place place (Err kind) = Err (outside (refused_at place kind))

-- an answer that leaves the store and the budget as they are
abbrev pub keeping : {A : Type 0} → State → Result A End → Result (A × State) End
keeping s answer = and_then answer (λ x. Ok (x, s))
