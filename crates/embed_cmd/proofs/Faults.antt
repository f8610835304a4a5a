-- Reading ended at a file that was asked for.
use Rattle.std.proofs.Common.{◌≡◌, ℕ, List, Bool, Option, Some, Result, Ok, Err, MatchOption, sym, subst}
use Rattle.embed_base.specs.Counts.{Rose}
use Rattle.embed_cmd.specs.declared.main_run.Fault.{Fault}
use Rattle.embed_cmd.specs.declared.main_run.Fault.TheVariants as faults
use Rattle.embed_script.specs.declared.transcript.Transcript.{Transcript}
use Rattle.embed_cmd.specs.declared.words.Asked.{Asked}
use Rattle.embed_cmd.specs.Words.{command_of}
use Rattle.embed_cmd.specs.Transcript.{Contents, files_of}
use Rattle.embed_cmd.specs.Reading.{OnRead}
use Rattle.embed_cmd.specs.Headline.{EndsAt, IsReadFault}

both_on_read : (r : Result Transcript Fault) (P Q R : Type 0) → (P → Q → R) → OnRead r P → OnRead r Q → OnRead r R
both_on_read (Ok t) P Q R f p q = tt
both_on_read (Err faults.Read) P Q R f p q = f p q
both_on_read (Err faults.NoMemory) P Q R f p q = tt

pub read_fault : (words : List (List ℕ)) (absent : List ℕ → Bool) (contents : Contents) (asked : Asked) (before after : ℕ) (failed : Option (List ℕ)) (r : Result Transcript Fault) → command_of words ≡ Some asked
    → OnRead r (Rose before after) → OnRead r (EndsAt (λ file. failed ≡ Some file.path) absent contents (files_of asked)) → OnRead r (IsReadFault words absent contents before after failed)
read_fault words absent contents asked before after failed r is rose named =
    both_on_read r (Rose before after) (EndsAt (λ file. failed ≡ Some file.path) absent contents (files_of asked)) (IsReadFault words absent contents before after failed)
    (λ p q. record {
      rose = p;
      asked = subst (λ o. MatchOption o ⊥ (λ a. EndsAt (λ file. failed ≡ Some file.path) absent contents (files_of a))) (sym is) q;
    }) rose named
