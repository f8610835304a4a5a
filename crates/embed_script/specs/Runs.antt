-- Private: how a run at work stands for the definition's run.
use Rattle.std.specs.Prelude.{◌≡◌, ℕ, List, [], ◌∷◌, Result, Ok, Err, IfSome, IsSomeAnd, slice_get, string_bytes}
use Rattle.small_parser.specs.declared.script.NodeId.{NodeId}
use Rattle.small_parser.specs.declared.script.Form.{Form}
use Rattle.small_parser.specs.declared.script.Node.{Node}
use Rattle.small_parser.specs.Shows.{SumShows, IsLet, IsBind, IsPrint}
use Rattle.embed_script.specs.declared.stop.Stop.{Stop}
use Rattle.embed_script.specs.declared.run.Run.{Run}
use Rattle.embed_script.specs.Ends.{End}
use Rattle.embed_script.specs.Outcome.{Statement, declares, binds, prints, Progress, going, ended, text_of_lines}
use Rattle.embed_script.specs.Stops.{end_of}
use Rattle.embed_script.specs.Tasks.{IsBoundAs, SumsShow, expressions_of}

-- a form shows a statement
abbrev pub FormShows : List Node → Statement → Form → Type 0
FormShows nodes (declares name e) form = IsLet name (λ value. SumShows e nodes value) form
FormShows nodes (binds place name i) form = IsBind name i form
FormShows nodes (prints a) form = IsPrint (λ ids. SumsShow nodes (expressions_of a) ids) form

-- a statement stands at a place, where its place tells something
abbrev pub IsPlaceOf : Statement → ℕ → Type 0
IsPlaceOf (binds place name i) k = k ≡ place
IsPlaceOf _ k = Unit {0}

-- a node shows a statement
abbrev pub StatementShows : List Node → Statement → NodeId → Type 0
StatementShows nodes s id = IsSomeAnd (slice_get nodes id.0) (λ node. IsPlaceOf s node.place × FormShows nodes s node.form)

-- these nodes show these statements
abbrev pub StatementsShow : List Node → List Statement → List NodeId → Type 0
StatementsShow nodes [] [] = Unit {0}
StatementsShow nodes (s ∷ ss) (id ∷ ids) = StatementShows nodes s id × StatementsShow nodes ss ids
StatementsShow nodes _ _ = ⊥

-- a run has printed these lines
abbrev pub HasPrinted : List (List ℕ) → Run → Type 0
HasPrinted lines run = string_bytes run.text ≡ text_of_lines lines

-- a run that goes on stands for the definition's
abbrev pub Stands : Progress → Run → Type 0
Stands (going b left lines) run = IsBoundAs b run.names × HasPrinted lines run × (left ≡ run.state)
Stands (ended lines end) run = ⊥

-- a run that ended so
pub record EndedBy (progress : Progress) (end : End) (run : Run) : Type 0 where
  pub lines : List (List ℕ)
  pub ends : progress ≡ ended lines end
  pub printed : HasPrinted lines run

-- how a statement's performance answers the definition
abbrev pub Performs : {A : Type 0} → Result A Stop → Progress → Run → Type 0
Performs (Ok _) progress run = Stands progress run
Performs (Err stop) progress run = IfSome (end_of stop) (λ end. EndedBy progress end run)
