-- Values of a form of which a test holds.
use Rattle.std.specs.Prelude.{◌≡◌, ℕ, List, Some, None, Bool, true, if◌then◌else◌}
use Rattle.wasm_grammar.specs.Forms.{Form}
use Rattle.wasm_grammar.specs.Reading.{◌>>=◌}
use Rattle.wasm_grammar.specs.Threads.{Reader}

-- a value of which a test holds
pub record Such {A : Type 0} (test : A → Bool) (P : Form A) (after : ℕ) (bytes : List ℕ) (x : A) : Type 0 where
  pub is_form : P after bytes x
  pub holds : test x ≡ true

abbrev pub such_in : {S B : Type 0} → (B → Bool) → Reader S B → Reader S B
such_in test read s after bytes = read s after bytes >>= λ x. if test x.0.0 then Some x else None
