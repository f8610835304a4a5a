-- The transcript of a command line over the contents of the files.
use Rattle.std.specs.Prelude.{◌≡◌, ℕ, ◌⊎◌, List, [], ◌∷◌, ◌++◌, length, map, Option, Some, None, IsSome, IsSomeAnd, MatchOption, Bool, false, nat_lt, codes, if◌then◌else◌}
use Rattle.std.specs.Str.{IsUtf8}
use Rattle.embed_base.specs.declared.status.Status.TheVariants as statuses
use Rattle.small_lexer.specs.declared.token.Token.{Token}
use Rattle.small_lexer.specs.Tokens.{HasTokens}
use Rattle.small_parser.specs.Grammar.{Script, IsScript}
use Rattle.wasm_grammar.specs.Decoding.{Decodes}
use Rattle.embed_script.specs.Functions.{Modules}
use Rattle.embed_script.specs.declared.transcript.Transcript.{Transcript}
use Rattle.embed_cmd.specs.declared.words.Asked.{Asked}
use Rattle.embed_script.specs.Outcome.{outcome_of, transcript_of}
use Rattle.embed_cmd.specs.Words.{command_of}

-- the bytes of a script, at most
abbrev pub most_script_bytes : ℕ
most_script_bytes = 1048576

-- the bytes of a module, at most
abbrev pub most_module_bytes : ℕ
most_module_bytes = 16777216

-- bytes are those of a script: they are UTF-8, and the text's tokens are the script's
pub record IsScriptText (bytes : List ℕ) (script : Script) : Type 0 where
  pub utf8 : IsUtf8 bytes
  pub tokens : List Token
  pub split : HasTokens bytes tokens
  pub parse : IsScript tokens script

-- words that are no command line
abbrev pub usage : Transcript
usage = record { status = statuses.Usage; text = codes "usage: jspirun run [--steps N] [--module NAME=PATH]... SCRIPT" ++ 10 ∷ [] }

-- a file that passes its limit
abbrev pub too_long : List ℕ → Transcript
too_long path = record { status = statuses.TooLong; text = codes "too long: " ++ (path ++ 10 ∷ []) }

-- bytes that are no script
abbrev pub refused : Transcript
refused = record { status = statuses.ScriptRefused; text = codes "script: not yet" ++ 10 ∷ [] }

-- the transcript of a script's bytes: that of the script's outcome over module files with a budget, or the refusal where they
-- are no script
abbrev pub IsScriptTranscript : Modules → (budget : ℕ) → (bytes : List ℕ) → Transcript → Type 0
IsScriptTranscript modules budget bytes t = ((script : Script) × IsScriptText bytes script × (t ≡ transcript_of (outcome_of modules budget script))) ⊎ (((script : Script) → ¬ IsScriptText bytes script) × (t ≡ refused))

-- what the files tell: the content of each name, where it is told
abbrev pub Contents : Type 0
Contents = List ℕ → Option (List ℕ)

-- a file that a command line asks for, and the bytes that it has at most
pub record AskedFile : Type 0 where
  pub path : List ℕ
  pub limit : ℕ

abbrev pub script_file : List ℕ → AskedFile
script_file path = record { path = path; limit = most_script_bytes }

abbrev pub module_files : List (List ℕ × List ℕ) → List AskedFile
module_files modules = map (λ m. record { path = m.1; limit = most_module_bytes }) modules

-- the files that a command line asks for: the script's, and the modules' in the order of their words
abbrev pub files_of : Asked → List AskedFile
files_of asked = script_file asked.script ∷ module_files asked.modules

-- a fact that holds of one of some files
abbrev pub IsOfSome : (AskedFile → Type 0) → List AskedFile → Type 0
IsOfSome P [] = ⊥
IsOfSome P (file ∷ files) = P file ⊎ IsOfSome P files

-- a told content passes a limit
abbrev pub is_longer : ℕ → Option (List ℕ) → Bool
is_longer limit (Some bytes) = nat_lt limit (length bytes)
is_longer limit None = false

-- the path of the first file that passes its limit
abbrev pub first_long : Contents → List AskedFile → Option (List ℕ)
first_long contents [] = None
first_long contents (file ∷ files) = if is_longer file.limit (contents file.path) then Some file.path else first_long contents files

-- these are the modules' names, and what the contents of their files decode to, in the order of the words
abbrev pub AreDecoded : Contents → (modules : List (List ℕ × List ℕ)) → Modules → Type 0
AreDecoded contents [] [] = Unit {0}
AreDecoded contents (m ∷ ms) (d ∷ ds) = (m.0 ≡ d.0) × IsSomeAnd (contents m.1) (λ bytes. Decodes bytes d.1) × AreDecoded contents ms ds
AreDecoded contents _ _ = ⊥

-- the transcript of a script over what the module files decode to
pub record IsRunTranscript (asked : Asked) (contents : Contents) (t : Transcript) : Type 0 where
  pub modules : Modules
  pub decoded : AreDecoded contents asked.modules modules
  pub is : IsSomeAnd (contents asked.script) (λ bytes. IsScriptTranscript modules asked.budget bytes t)

-- the transcript of what a command line asks for: of its first file that is too long, or else of its script
abbrev pub IsAskedTranscript : Asked → Contents → Transcript → Type 0
IsAskedTranscript asked contents t = MatchOption (first_long contents (files_of asked)) (IsRunTranscript asked contents t) (λ path. t ≡ too_long path)

-- the transcript of a command line, where the files tell the contents of what it asks for
abbrev pub IsTranscript : List (List ℕ) → Contents → Transcript → Type 0
IsTranscript words contents t = MatchOption (command_of words) (t ≡ usage) (λ asked. IsAskedTranscript asked contents t)

-- the transcript of a command line, and its only one
pub record IsTheTranscript (words : List (List ℕ)) (contents : Contents) (t : Transcript) : Type 0 where
  pub is : IsTranscript words contents t
  pub only : (u : Transcript) → IsTranscript words contents u → u ≡ t

-- a path that a command line asks for
abbrev pub IsAsked : Asked → List ℕ → Type 0
IsAsked asked path = IsOfSome (λ file. file.path ≡ path) (files_of asked)

abbrev pub Asks : List (List ℕ) → List ℕ → Type 0
Asks words path = MatchOption (command_of words) ⊥ (λ asked. IsAsked asked path)

-- the files tell the content of all that a command line asks for
abbrev pub TellsAll : List (List ℕ) → Contents → Type 0
TellsAll words contents = (path : List ℕ) → Asks words path → IsSome (contents path)

-- the transcript of a script's bytes, and its only one
pub record IsTheScriptTranscript (modules : Modules) (budget : ℕ) (bytes : List ℕ) (t : Transcript) : Type 0 where
  pub is : IsScriptTranscript modules budget bytes t
  pub only : (u : Transcript) → IsScriptTranscript modules budget bytes u → u ≡ t

-- the transcript of what is asked for, and its only one
pub record IsTheAskedTranscript (asked : Asked) (contents : Contents) (t : Transcript) : Type 0 where
  pub is : IsAskedTranscript asked contents t
  pub only : (u : Transcript) → IsAskedTranscript asked contents u → u ≡ t
