-- What a script prints, and how its run ends (ECMA-262, sections 14.3.1 and 16.1, in the profile).
use Rattle.std.specs.Prelude.{ℕ, List, [], ◌∷◌, ◌++◌, Some, None, Result, Ok, Err, map, fold, codes, if◌then◌else◌}
use Rattle.std.specs.Fmt.{decimal}
use Rattle.std.specs.List.{join_with_byte, flat_map}
use Rattle.std.specs.Str.{bytes_eq}
use Rattle.embed_base.specs.Names.{name_of}
use Rattle.embed_base.specs.declared.status.Status.{Status}
use Rattle.embed_base.specs.declared.status.Status.TheVariants as statuses
use Rattle.embed_base.specs.declared.outside.Place.{Place}
use Rattle.embed_base.specs.declared.outside.Place.TheVariants as places
use Rattle.small_parser.specs.Grammar.{Sum, Arguments, Instance, Script, nothing, declaration, binding, printing}
use Rattle.embed_script.specs.declared.value.Value.{Value}
use Rattle.embed_script.specs.declared.transcript.Transcript.{Transcript}
use Rattle.embed_script.specs.Values.{shown_of}
use Rattle.wasm_store.specs.Store.{empty_store}
use Rattle.embed_script.specs.declared.state.State.{State}
use Rattle.embed_script.specs.Ends.{End, done, uncaught, past_budget, outside, charge}
use Rattle.embed_script.specs.Functions.{Modules, instance_of}
use Rattle.embed_script.specs.Evaluation.{Binding, value, function, Bindings, sum_value, arguments_values}

-- a statement: `let NAME = VALUE;`, `let NAME = INSTANCE;` at the place of its `let`, or `print(..);`
pub data Statement : Type 0 where
  declares : (name : List ℕ) → (value : Sum) → Statement
  binds : (place : ℕ) → (name : List ℕ) → Instance → Statement
  prints : (arguments : Arguments) → Statement

-- the statements of a script, in their order
abbrev pub statements_of : Script → List Statement
statements_of nothing = []
statements_of (declaration s l w n q e c) = statements_of s ++ declares w e ∷ []
statements_of (binding s l w n q i c) = statements_of s ++ binds l w i ∷ []
statements_of (printing s p o a c e) = statements_of s ++ prints a ∷ []

-- a run between two statements: it goes on with these bindings, this store and what is left of the budget, and has printed
-- these lines; or it has ended
pub data Progress : Type 0 where
  going : Bindings → (left : State) → (lines : List (List ℕ)) → Progress
  ended : (lines : List (List ℕ)) → End → Progress

-- how a run goes on after an answer; an end is the run's
abbrev pub after : {A : Type 0} → List (List ℕ) → Result A End → (A → Progress) → Progress
after lines (Ok x) goes_on = goes_on x
after lines (Err end) goes_on = ended lines end

-- the bindings with one more
abbrev pub bound : Bindings → List ℕ → Binding → Bindings
bound b name v = λ other. if bytes_eq name other then Some v else b other

-- a line: the shown forms, with one space between two of them
abbrev pub line_of : List Value → List ℕ
line_of vs = join_with_byte 32 (map shown_of vs)

-- what a statement does. A call of `print` takes one unit after its arguments and before its line
abbrev pub effect : Modules → Bindings → (left : State) → List (List ℕ) → Statement → Progress
effect modules b left lines (declares name e) = after lines (sum_value b e left) (λ v. going (bound b name (value v.0)) v.1 lines)
effect modules b left lines (binds place name i) = after lines (instance_of modules i.file i.export place left) (λ f. going (bound b name (function f.0)) f.1 lines)
effect modules b left lines (prints a) = after lines (arguments_values b a left) (λ vs. after lines (charge 1 vs.1) (λ rest. going b rest (lines ++ line_of vs.0 ∷ [])))

-- a statement of a run takes one unit before its effect
abbrev pub performed : Modules → Progress → Statement → Progress
performed modules (going b left lines) s = after lines (charge 1 left) (λ rest. effect modules b rest lines s)
performed modules (ended lines end) s = ended lines end

-- the start of a run: no name is bound, nothing is in the store, and nothing is printed
abbrev pub start : (budget : ℕ) → Progress
start budget = going (λ name. None) (record { store = empty_store; left = budget }) []

-- the statements are performed one after the other
abbrev pub run_of : Modules → (budget : ℕ) → Script → Progress
run_of modules budget script = fold (performed modules) (start budget) (statements_of script)

-- the lines that a script prints, and its end
pub record Outcome : Type 0 where
  pub lines : List (List ℕ)
  pub end : End

abbrev pub outcome_of_progress : Progress → Outcome
outcome_of_progress (going b left lines) = record { lines = lines; end = done }
outcome_of_progress (ended lines end) = record { lines = lines; end = end }

-- what a script does with these module files and a budget
abbrev pub outcome_of : Modules → (budget : ℕ) → Script → Outcome
outcome_of modules budget script = outcome_of_progress (run_of modules budget script)

-- lines, each with its line feed
abbrev pub text_of_lines : List (List ℕ) → List ℕ
text_of_lines lines = flat_map (λ line. line ++ 10 ∷ []) lines

abbrev pub place_text : Place → List ℕ
place_text (places.Script n) = decimal n
place_text (places.Module n) = codes "module byte " ++ decimal n

-- the line that tells the end, with its line feed, or nothing
abbrev pub end_line : End → List ℕ
end_line done = []
end_line (uncaught shown) = codes "uncaught: " ++ (shown ++ 10 ∷ [])
end_line (past_budget needs left) = codes "budget: needs " ++ (decimal needs ++ (codes ", left " ++ (decimal left ++ 10 ∷ [])))
end_line (outside o) = codes "outside: " ++ (name_of o.kind ++ (codes " at " ++ (place_text o.place ++ 10 ∷ [])))

abbrev pub status_of : End → Status
status_of done = statuses.Done
status_of (uncaught shown) = statuses.Uncaught
status_of (past_budget needs left) = statuses.Budget
status_of (outside o) = statuses.Outside

-- how the run of a script can end
abbrev pub IsRunEnd : Status → Type 0
IsRunEnd statuses.Done = Unit {0}
IsRunEnd statuses.Uncaught = Unit {0}
IsRunEnd statuses.Budget = Unit {0}
IsRunEnd statuses.Outside = Unit {0}
IsRunEnd _ = ⊥

-- the lines, and then the line that tells the end
abbrev pub transcript_of : Outcome → Transcript
transcript_of o = record { status = status_of o.end; text = text_of_lines o.lines ++ end_line o.end }
