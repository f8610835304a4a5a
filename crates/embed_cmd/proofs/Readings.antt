-- The transcript of a script's bytes and of what is asked for, and that there is no other.
use Rattle.std.proofs.Common.{◌≡◌, ℕ, List, [], ◌∷◌, refl, Option, Some, None, Result, Ok, Err, IfOk, IfSome, IsSome, IsSomeAnd, MatchOption, sym, ◌∙◌, subst, inl, inr}
use Rattle.std.specs.declared.alloc.AllocError.{AllocError}
use Rattle.small_parser.specs.declared.script.Script.{Script as Tree}
use Rattle.small_parser.specs.Grammar.{Script}
use Rattle.small_parser.specs.Shows.{ScriptShows}
use Rattle.embed_script.specs.declared.transcript.Transcript.{Transcript}
use Rattle.embed_script.specs.Outcome.{outcome_of, transcript_of}
use Rattle.embed_base.specs.Counts.{RoseByMore}
use Rattle.wasm_grammar.specs.Decoding.{Decoded, Decodes}
use Rattle.embed_script.specs.declared.module_file.ModuleFile.{ModuleFile}
use Rattle.embed_script.specs.Functions.{Modules}
use Rattle.embed_script.specs.ModuleFiles.{AreDecodings}
use Rattle.embed_cmd.specs.declared.words.Asked.{Asked}
use Rattle.embed_cmd.specs.Transcript.{Contents, AskedFile, IsOfSome, IsAsked, files_of, first_long, IsRunTranscript, IsTheAskedTranscript, IsScriptText, IsScriptTranscript, IsTheScriptTranscript, refused, too_long}
use Rattle.embed_cmd.specs.AskedFiles.{IsLongPath, AreFilesOf}
use Rattle.embed_cmd.specs.Headline.{IsTooLongOf, OnTooLongStatus, UnlessTooLong}
use Rattle.embed_base.specs.declared.status.Status.{Status}
use Rattle.embed_base.specs.declared.status.Status.TheVariants as statuses
use Rattle.embed_cmd.specs.Reading.{IsTree, IsTextEnd, IsScriptEnd}
use Rattle.embed_cmd.proofs.FilesOf.{decoded_forth, decoded_back, some_decodings}

refused_only : (modules : Modules) (budget : ℕ) (bytes : List ℕ) (t : Transcript) → ((d : Script) → IsScriptText bytes d → ⊥) → t ≡ refused → IsTheScriptTranscript modules budget bytes t
refused_only modules budget bytes t none is = record { is = inr (none, is); only = λ u h. elim h [ inl w ↦ absurd (none w.0 w.1) | inr w ↦ w.1 ∙ sym is ] }

-- bytes that are no script are refused
pub refused_bytes : (files : List ModuleFile) (budget : ℕ) (bytes : List ℕ) (r : Result Transcript AllocError) → ((d : Script) → IsScriptText bytes d → ⊥) → IfOk r (λ t. t ≡ refused)
    → IfOk r (λ t. (modules : Modules) → AreDecodings files modules → IsTheScriptTranscript modules budget bytes t)
refused_bytes files budget bytes (Ok t) none is = λ modules decoded. refused_only modules budget bytes t none is
refused_bytes files budget bytes (Err e) none is = tt

ran_only : (modules : Modules) (budget : ℕ) (bytes : List ℕ) (tree : Tree) (t : Transcript) → IsTree bytes tree → ((d : Script) → ScriptShows d tree.nodes tree.top → t ≡ transcript_of (outcome_of modules budget d)) → IsTheScriptTranscript modules budget bytes t
ran_only modules budget bytes tree t h ran = record {
  is = inl (h.script, h.text, ran h.script h.shown);
  only = λ u other. elim other [ inl w ↦ w.2 ∙ sym (ran w.0 (h.all w.0 w.1)) | inr w ↦ absurd (w.0 h.script h.text) ];
}

-- a script's bytes are run
pub ran_bytes : (files : List ModuleFile) (budget : ℕ) (bytes : List ℕ) (tree : Tree) (r : Result Transcript AllocError) → IsTree bytes tree
    → ((d : Script) → ScriptShows d tree.nodes tree.top → (modules : Modules) → AreDecodings files modules → IfOk r (λ t. t ≡ transcript_of (outcome_of modules budget d)))
    → IfOk r (λ t. (modules : Modules) → AreDecodings files modules → IsTheScriptTranscript modules budget bytes t)
ran_bytes files budget bytes tree (Ok t) h ran = λ modules decoded. ran_only modules budget bytes tree t h (λ d shows. ran d shows modules decoded)
ran_bytes files budget bytes tree (Err e) h ran = tt

no_long : (long : Option (List ℕ)) (P : Type 0) (Q : List ℕ → Type 0) → long ≡ None → P → MatchOption long P Q
no_long long P Q is h = subst (λ o. MatchOption o P Q) (sym is) h

was_short : (long : Option (List ℕ)) (P : Type 0) (Q : List ℕ → Type 0) → long ≡ None → MatchOption long P Q → P
was_short long P Q is h = subst (λ o. MatchOption o P Q) is h

told_script : (modules : Modules) (budget : ℕ) (told : Option (List ℕ)) (bytes : List ℕ) (t : Transcript) → IsSome told → IfSome told (λ b. bytes ≡ b) → IsTheScriptTranscript modules budget bytes t
    → IsSomeAnd told (λ b. IsScriptTranscript modules budget b t) × ((u : Transcript) → IsSomeAnd told (λ b. IsScriptTranscript modules budget b u) → u ≡ t)
told_script modules budget None bytes t some is h = absurd (cc)
told_script modules budget (Some b) bytes t some is h = let g = subst (λ x. IsTheScriptTranscript modules budget x t) is h in (g.is, λ u k. g.only u k)

-- the script of files that aren't too long is run
pub read_all : (asked : Asked) (contents : Contents) (bytes : List ℕ) (files : List ModuleFile) (t : Transcript) → first_long contents (files_of asked) ≡ None → ((name : List ℕ) → IsAsked asked name → IsSome (contents name))
    → IfSome (contents asked.script) (λ b. bytes ≡ b) → AreFilesOf contents asked.modules files → ((bs : List ℕ) → (d : Decoded) × Decodes bs d)
    → ((modules : Modules) → AreDecodings files modules → IsTheScriptTranscript modules asked.budget bytes t) → IsTheAskedTranscript asked contents t
read_all asked contents bytes files t short some is named total h =
    let found = some_decodings total files in
    let told_of = λ (modules : Modules) (decoded : AreDecodings files modules). told_script modules asked.budget (contents asked.script) bytes t (some asked.script (inl refl)) is (h modules decoded) in
    record {
      is = no_long (first_long contents (files_of asked)) _ _ short (record {
        modules = found.0;
        decoded = decoded_forth contents asked.modules files found.0 named (λ name k. some name (inr k)) found.1;
        is = (told_of found.0 found.1).0;
      });
      only = λ u k.
          let run = was_short (first_long contents (files_of asked)) (IsRunTranscript asked contents u) _ short k in
          (told_of run.modules (decoded_back contents asked.modules files run.modules named run.decoded)).1 u run.is;
    }

long_is : (long : Option (List ℕ)) (P : Transcript → Type 0) (path : List ℕ) (t : Transcript) → long ≡ Some path → t ≡ too_long path
    → MatchOption long (P t) (λ p. t ≡ too_long p) × ((u : Transcript) → MatchOption long (P u) (λ p. u ≡ too_long p) → u ≡ t)
long_is long P path t is same = (subst (λ o. MatchOption o (P t) (λ p. t ≡ too_long p)) (sym is) same, λ u k. subst (λ o. MatchOption o (P u) (λ p. u ≡ too_long p)) is k ∙ sym same)

-- the first file that is too long is told
pub refused_file : (asked : Asked) (contents : Contents) (path : List ℕ) (t : Transcript) → first_long contents (files_of asked) ≡ Some path → t ≡ too_long path → IsTheAskedTranscript asked contents t
refused_file asked contents path t is same =
    let both = long_is (first_long contents (files_of asked)) (λ u. IsRunTranscript asked contents u) path t is same in
    record { is = both.0; only = both.1 }

-- a script's bytes end a run as the files that are asked for may
pub text_ends : (status : Status) → IsTextEnd status → IsScriptEnd status
text_ends statuses.TooLong h = tt
text_ends statuses.Done h = h
text_ends statuses.Uncaught h = h
text_ends statuses.Usage h = h
text_ends statuses.ScriptRefused h = h
text_ends statuses.Budget h = h
text_ends statuses.Outside h = h
text_ends statuses.ReadFault h = h
text_ends statuses.WriteFault h = h
text_ends statuses.NoMemory h = h

-- and not by their length
pub not_too_long : (status : Status) (P : Type 0) → IsTextEnd status → OnTooLongStatus status P
not_too_long statuses.TooLong P h = absurd h
not_too_long _ P h = tt

-- a fact that holds with each status
pub not_long : (status : Status) (P : Type 0) → P → UnlessTooLong status P
not_long statuses.TooLong P h = tt
not_long statuses.Done P h = h
not_long statuses.Uncaught P h = h
not_long statuses.Usage P h = h
not_long statuses.ScriptRefused P h = h
not_long statuses.Budget P h = h
not_long statuses.Outside P h = h
not_long statuses.ReadFault P h = h
not_long statuses.WriteFault P h = h
not_long statuses.NoMemory P h = h
