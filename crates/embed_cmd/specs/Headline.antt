-- How the program's run answers the transcript of its command line.
use Rattle.std.specs.Prelude.{◌≡◌, ◌⊎◌, ℕ, Bool, false, List, [], ◌∷◌, ◌++◌, take, Option, Some, MatchOption, true}
use Rattle.std.specs.Option.{option_map}
use Rattle.embed_base.specs.declared.status.Status.{Status}
use Rattle.embed_base.specs.declared.status.Status.TheVariants as statuses
use Rattle.embed_base.specs.Counts.{Rose, RoseByMore}
use Rattle.embed_script.specs.declared.transcript.Transcript.{Transcript}
use Rattle.embed_cmd.specs.Words.{command_of}
use Rattle.embed_cmd.specs.Transcript.{Contents, AskedFile, files_of, is_longer, IsTheTranscript}

-- a fact that holds where the status tells the end of the definition's run: no fault and no want of memory came before
abbrev pub OnEnd : Status → Type 0 → Type 0
OnEnd statuses.ReadFault P = Unit {0}
OnEnd statuses.WriteFault P = Unit {0}
OnEnd statuses.NoMemory P = Unit {0}
OnEnd _ P = P

-- a fact that holds with one status
abbrev pub OnReadFault : Status → Type 0 → Type 0
OnReadFault statuses.ReadFault P = P
OnReadFault _ P = Unit {0}

abbrev pub OnWriteFault : Status → Type 0 → Type 0
OnWriteFault statuses.WriteFault P = P
OnWriteFault _ P = Unit {0}

abbrev pub OnNoMemory : Status → Type 0 → Type 0
OnNoMemory statuses.NoMemory P = P
OnNoMemory _ P = Unit {0}

abbrev pub OnUsage : Status → Type 0 → Type 0
OnUsage statuses.Usage P = P
OnUsage _ P = Unit {0}

abbrev pub OnTooLongStatus : Status → Type 0 → Type 0
OnTooLongStatus statuses.TooLong P = P
OnTooLongStatus _ P = Unit {0}

-- a fact that holds with every status but that of a failed read
abbrev pub UnlessReadFault : Status → Type 0 → Type 0
UnlessReadFault statuses.ReadFault P = Unit {0}
UnlessReadFault _ P = P

-- a fact that holds with every status but that of a file that is too long
abbrev pub UnlessTooLong : Status → Type 0 → Type 0
UnlessTooLong statuses.TooLong P = Unit {0}
UnlessTooLong _ P = P

-- a fact that holds where a transcript was told that isn't that of a file that is too long; where a write failed, that or another
-- fact holds
abbrev pub IfRead : Status → Type 0 → Type 0 → Type 0
IfRead statuses.ReadFault P Q = Unit {0}
IfRead statuses.NoMemory P Q = Unit {0}
IfRead statuses.TooLong P Q = Unit {0}
IfRead statuses.WriteFault P Q = P ⊎ Q
IfRead _ P Q = P

-- a fact that holds with every status but that of a failed write
abbrev pub UnlessWriteFault : Status → Type 0 → Type 0
UnlessWriteFault statuses.WriteFault P = Unit {0}
UnlessWriteFault _ P = P

-- what an output holds after some bytes more, where it is told
abbrev pub with_more : Option (List ℕ) → List ℕ → Option (List ℕ)
with_more before more = option_map (λ bytes. bytes ++ more) before

-- the transcript was written whole, and the status is its own
pub record WritesAll (words : List (List ℕ)) (contents : Contents) (status : Status) (before after : Option (List ℕ)) : Type 0 where
  pub transcript : Transcript
  pub is : IsTheTranscript words contents transcript
  pub status_is : status ≡ transcript.status
  pub written : after ≡ with_more before transcript.text

-- no fault of a read or write was counted
abbrev pub NoFaults : (reads reads_after writes writes_after : ℕ) → Type 0
NoFaults reads reads_after writes writes_after = ¬ Rose reads reads_after × ¬ Rose writes writes_after

-- the transcript was written whole, unless memory ran out
abbrev pub Completes : List (List ℕ) → Contents → Status → (before after : Option (List ℕ)) → Type 0
Completes words contents status before after = (status ≡ statuses.NoMemory) ⊎ WritesAll words contents status before after

-- the first bytes of the transcript were written
pub record WritesPrefix (words : List (List ℕ)) (contents : Contents) (before after : Option (List ℕ)) : Type 0 where
  pub transcript : Transcript
  pub is : IsTheTranscript words contents transcript
  pub size : ℕ
  pub written : after ≡ with_more before (take size transcript.text)

-- a file can be read: it isn't known to be absent, and where its content is told that doesn't pass its limit
pub record IsReadable (absent : List ℕ → Bool) (contents : Contents) (file : AskedFile) : Type 0 where
  pub there : absent file.path ≡ false
  pub short : is_longer file.limit (contents file.path) ≡ false

-- so can each of these files
abbrev pub AreReadableFiles : (absent : List ℕ → Bool) → Contents → List AskedFile → Type 0
AreReadableFiles absent contents [] = Unit {0}
AreReadableFiles absent contents (file ∷ files) = IsReadable absent contents file × AreReadableFiles absent contents files

-- so can all files that are asked for
abbrev pub AreReadable : List (List ℕ) → (absent : List ℕ → Bool) → Contents → Type 0
AreReadable words absent contents = MatchOption (command_of words) (Unit {0}) (λ asked. AreReadableFiles absent contents (files_of asked))

-- Files are read one after the other, and reading ends at one of which a fact holds: those before it could be read.
abbrev pub EndsAt : (AskedFile → Type 0) → (absent : List ℕ → Bool) → Contents → List AskedFile → Type 0
EndsAt P absent contents [] = ⊥
EndsAt P absent contents (file ∷ files) = P file ⊎ (IsReadable absent contents file × EndsAt P absent contents files)

-- a fault was counted, and reading the files that are asked for ended at the one whose read failed
pub record IsReadFault (words : List (List ℕ)) (absent : List ℕ → Bool) (contents : Contents) (before after : ℕ) (failed : Option (List ℕ)) : Type 0 where
  pub rose : Rose before after
  pub asked : MatchOption (command_of words) ⊥ (λ asked. EndsAt (λ file. failed ≡ Some file.path) absent contents (files_of asked))

-- a content is too long: a told one by its bytes, another one by the bytes that were taken
abbrev pub IsPast : ℕ → Option (List ℕ) → ℕ → ℕ → Type 0
IsPast limit content before after = MatchOption content (RoseByMore before after limit) (λ bytes. is_longer limit content ≡ true)

-- reading ended at a file that was too long
abbrev pub IsTooLongOf : List AskedFile → (absent : List ℕ → Bool) → Contents → ℕ → ℕ → Type 0
IsTooLongOf files absent contents before after = EndsAt (λ file. IsPast file.limit (contents file.path) before after) absent contents files

abbrev pub IsTooLong : List (List ℕ) → (absent : List ℕ → Bool) → Contents → ℕ → ℕ → Type 0
IsTooLong words absent contents before after = MatchOption (command_of words) ⊥ (λ asked. IsTooLongOf (files_of asked) absent contents before after)
