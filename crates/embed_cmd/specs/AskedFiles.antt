-- Private: what reading the asked files gives.
use Rattle.std.specs.Prelude.{◌≡◌, ℕ, List, [], ◌∷◌, Bool, Result, Err, IfSome}
use Rattle.embed_script.specs.declared.module_file.ModuleFile.{ModuleFile}
use Rattle.embed_cmd.specs.declared.asked_files.Unread.{Unread}
use Rattle.embed_cmd.specs.declared.asked_files.Unread.TheVariants as unread
use Rattle.embed_cmd.specs.Transcript.{Contents, AskedFile}
use Rattle.embed_cmd.specs.Headline.{EndsAt, IsPast}

-- a fact that holds where a read failed
abbrev pub OnFailed : {A : Type 0} → Result A Unread → Type 0 → Type 0
OnFailed (Err unread.Failed) P = P
OnFailed _ P = Unit {0}

-- a fact that holds unless a read failed
abbrev pub UnlessFailed : {A : Type 0} → Result A Unread → Type 0 → Type 0
UnlessFailed (Err unread.Failed) P = Unit {0}
UnlessFailed _ P = P

-- a fact of the path of a file that was too long
abbrev pub IfTooLong : {A : Type 0} → Result A Unread → (List ℕ → Type 0) → Type 0
IfTooLong (Err (unread.TooLong path)) P = P path
IfTooLong _ P = Unit {0}

-- these are the modules' files, with their names and their contents where those are told
abbrev pub AreFilesOf : Contents → (modules : List (List ℕ × List ℕ)) → List ModuleFile → Type 0
AreFilesOf contents [] [] = Unit {0}
AreFilesOf contents (m ∷ ms) (f ∷ fs) = (f.name ≡ m.0) × IfSome (contents m.1) (λ told. f.bytes.items ≡ told) × AreFilesOf contents ms fs
AreFilesOf contents _ _ = ⊥

-- reading ended at a file of this path, which was too long
abbrev pub IsLongPath : List AskedFile → (absent : List ℕ → Bool) → Contents → ℕ → ℕ → List ℕ → Type 0
IsLongPath files absent contents before after path = EndsAt (λ file. (file.path ≡ path) × IsPast file.limit (contents file.path) before after) absent contents files
