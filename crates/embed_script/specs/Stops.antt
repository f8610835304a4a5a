-- Private: how a function of the run answers a definition: with the same value or the same end, or because memory ran out.
use Rattle.std.specs.Prelude.{◌≡◌, ℕ, List, Option, Some, None, Result, Ok, Err, IfSome}
use Rattle.std.specs.declared.alloc.Global.{Global}
use Rattle.std.specs.declared.vec.Vec.{Vec}
use Rattle.embed_base.specs.declared.outside.OutsideKind.{OutsideKind}
use Rattle.embed_base.specs.declared.outside.OutsideKind.TheVariants as kinds
use Rattle.wasm_syntax.specs.declared.module.Module.{Module}
use Rattle.embed_script.specs.declared.value.Value.{Value}
use Rattle.embed_script.specs.declared.stop.Stop.{Stop}
use Rattle.embed_script.specs.declared.stop.Stop.TheVariants as stops
use Rattle.embed_script.specs.declared.state.State.{State}
use Rattle.embed_script.specs.Ends.{End, compile_error, runtime_error, range_error, past_budget, outside}

-- the end that a stop is, where memory didn't run out
abbrev pub end_of : Stop → Option End
end_of (stops.Outside o) = Some (outside o)
end_of (stops.Budget needs left) = Some (past_budget needs left)
end_of stops.CompileError = Some compile_error
end_of stops.RuntimeError = Some runtime_error
end_of stops.RangeError = Some range_error
end_of stops.NoMemory = None

abbrev pub Ends : {A : Type 0} → Stop → Result A End → Type 0
Ends stop answer = IfSome (end_of stop) (λ end. answer ≡ Err end)

abbrev pub Meets : {A : Type 0} → Result A Stop → Result A End → Type 0
Meets (Ok v) answer = answer ≡ Ok v
Meets (Err stop) answer = Ends stop answer

-- the same, of a value that the definition sees in another form
abbrev pub MeetsAs : {A B : Type 0} → (A → B) → Result A Stop → Result B End → Type 0
MeetsAs view (Ok v) answer = answer ≡ Ok (view v)
MeetsAs view (Err stop) answer = Ends stop answer

-- the same, of a value with the store and the budget that are left
abbrev pub MeetsIn : {A : Type 0} → Result A Stop → State → Result (A × State) End → Type 0
MeetsIn (Ok v) left answer = answer ≡ Ok (v, left)
MeetsIn (Err stop) left answer = Ends stop answer

abbrev pub MeetsInAs : {A B : Type 0} → (A → B) → Result A Stop → State → Result (B × State) End → Type 0
MeetsInAs view (Ok v) left answer = answer ≡ Ok (view v, left)
MeetsInAs view (Err stop) left answer = Ends stop answer

-- the same, of what is left alone
abbrev pub Leaves : {A : Type 0} → Result A Stop → State → Result State End → Type 0
Leaves (Ok v) left answer = answer ≡ Ok left
Leaves (Err stop) left answer = Ends stop answer

-- values in a vector
abbrev pub listed_values_of : Vec Value Global → List Value
listed_values_of vs = vs.items

-- the number of a function that is there, or none
abbrev pub Offers : Module → Option ℕ → Result (Module × ℕ) OutsideKind → Type 0
Offers m (Some index) answer = answer ≡ Ok (m, index)
Offers m None answer = answer ≡ Err kinds.NotYet
