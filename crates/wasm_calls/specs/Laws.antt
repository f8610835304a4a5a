-- Laws of runs. `src/laws.rt` has a function for each, whose contract is the law.
use Rattle.std.specs.Prelude.{◌≡◌, ℕ, ◌≤◌}
use Rattle.wasm_calls.specs.Calls.{Configuration, running, ended, repeated, most_rewritings, end_of}

abbrev pub HasEnded : Configuration → Type 0
HasEnded (running s t left) = ⊥
HasEnded (ended s o left) = Unit {0}

-- each run has ended after so many rewritings
abbrev pub RunsEnd : Type 0
RunsEnd = (c : Configuration) → HasEnded (end_of c)

-- and further repetitions change nothing
abbrev pub EndsStay : Type 0
EndsStay = (c : Configuration) (n : ℕ) → most_rewritings c ≤ n → repeated n c ≡ end_of c
