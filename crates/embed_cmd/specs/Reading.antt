-- Private: what reading a script gives.
use Rattle.std.specs.Prelude.{ℕ, List, Result, Err}
use Rattle.small_parser.specs.declared.script.Script.{Script as Tree}
use Rattle.small_parser.specs.Grammar.{Script}
use Rattle.small_parser.specs.Shows.{ScriptShows}
use Rattle.embed_base.specs.declared.status.Status.{Status}
use Rattle.embed_base.specs.declared.status.Status.TheVariants as statuses
use Rattle.embed_script.specs.Outcome.{IsRunEnd}
use Rattle.embed_cmd.specs.declared.main_run.Fault.{Fault}
use Rattle.embed_cmd.specs.declared.main_run.Fault.TheVariants as faults
use Rattle.embed_cmd.specs.Transcript.{IsScriptText}

-- the tree of bytes that are a script, and of any script that they are
pub record IsTree (bytes : List ℕ) (tree : Tree) : Type 0 where
  pub script : Script
  pub text : IsScriptText bytes script
  pub shown : ScriptShows script tree.nodes tree.top
  pub all : (other : Script) → IsScriptText bytes other → ScriptShows other tree.nodes tree.top

-- how a script's bytes can end a run
abbrev pub IsTextEnd : Status → Type 0
IsTextEnd statuses.ScriptRefused = Unit {0}
IsTextEnd status = IsRunEnd status

-- how the files that are asked for can end a run
abbrev pub IsScriptEnd : Status → Type 0
IsScriptEnd statuses.TooLong = Unit {0}
IsScriptEnd status = IsTextEnd status

-- a fact that holds where a read failed
abbrev pub OnRead : {A : Type 0} → Result A Fault → Type 0 → Type 0
OnRead (Err faults.Read) P = P
OnRead _ P = Unit {0}

-- a fact that holds unless a read failed
abbrev pub UnlessRead : {A : Type 0} → Result A Fault → Type 0 → Type 0
UnlessRead (Err faults.Read) P = Unit {0}
UnlessRead _ P = P

-- how a transcript can end
abbrev pub IsTranscriptEnd : Status → Type 0
IsTranscriptEnd statuses.Usage = Unit {0}
IsTranscriptEnd status = IsScriptEnd status
