-- What a run comes to: lines, and an end.
use Rattle.std.specs.Prelude.{◌≡◌, ℕ, List, Some}
use Rattle.embed_run.specs.declared.end.End.{End}
use Rattle.embed_run.specs.Configurations.{Program, Configuration}
use Rattle.embed_run.specs.Rules.{charge_of, next}

-- rewritings one after the other, or none
pub data Leads : Program → Configuration → Configuration → Type 0 where
  here : (p : Program) (c : Configuration) → Leads p c c
  onward : (p : Program) (c d : Configuration) → Leads p (next p c) d → Leads p c d

-- the same, where none takes anything of the budget
pub data Freely : Program → Configuration → Configuration → Type 0 where
  stays : (p : Program) (c : Configuration) → Freely p c c
  freely : (p : Program) (c d : Configuration) → charge_of p c.term ≡ 0 → Freely p (next p c) d → Freely p c d

-- one rewriting or more, of which only the first one may take of the budget
abbrev pub Steps : Program → Configuration → Configuration → Type 0
Steps p c d = Freely p (next p c) d

-- a run that goes on from a configuration prints these lines in all, and ends so
pub record Outcome (p : Program) (c : Configuration) (lines : List (List ℕ)) (e : End) : Type 0 where
  pub last : Configuration
  pub leads : Leads p c last
  pub lines_are : last.lines ≡ lines
  pub ended : last.ended ≡ Some e

-- there is at most one
abbrev pub OneOutcome : Type 0
OneOutcome = (p : Program) (c : Configuration) (ls ms : List (List ℕ)) (e f : End) → Outcome p c ls e → Outcome p c ms f → (ls ≡ ms) × (e ≡ f)

-- what has ended stays as it is
abbrev pub EndsStay : Type 0
EndsStay = (p : Program) (c : Configuration) (e : End) → c.ended ≡ Some e → next p c ≡ c
