-- A reader that gives what a reading function tells answers exactly what is spelled.
use Rattle.std.proofs.Common.{◌≡◌, ℕ, List, Option, Some, Result, Ok, Err, sym, ◌∙◌}
use Rattle.std.specs.Prelude.{IfOk}
use Rattle.wasm_grammar.specs.Forms.{Form, Front}
use Rattle.wasm_grammar.specs.Answers.{Gives, Answers}
use Rattle.wasm_grammar.specs.declared.fault.ReadError.{ReadError}
use Rattle.wasm_grammar.specs.declared.fault.ReadError.TheVariants as errors
use Rattle.wasm_grammar.proofs.Integers.{ReadsPlain}
use Rattle.wasm_grammar.proofs.Steps.{none_some, some_is}

module _ {X A : Type 0} (P : Form A) (read : List ℕ → Option (A × List ℕ)) (law : ReadsPlain P read) (view : X → A × List ℕ) (bytes : List ℕ) where
  pub spelled : (r : Result X ReadError) → Gives view r (read bytes) → IfOk r (λ x. Front P 0 bytes (view x).0 (view x).1)
  spelled (Ok x) gives = law.takes 0 bytes (view x) gives
  spelled (Err errors.Malformed) gives = tt
  spelled (Err errors.NoMemory) gives = tt

  told : (x : A) (rest : List ℕ) → Front P 0 bytes x rest → read bytes ≡ Some (x, rest)
  told x rest f = rw f.parts (law.again 0 f.front rest x f.is_form)

  pub only : (r : Result X ReadError) → Gives view r (read bytes) → (x : A) (rest : List ℕ) → Front P 0 bytes x rest → Answers view r (x, rest)
  only (Ok y) gives x rest f = some_is _ _ (sym gives ∙ told x rest f)
  only (Err errors.Malformed) gives x rest f = none_some (x, rest) (sym gives ∙ told x rest f)
  only (Err errors.NoMemory) gives x rest f = tt
