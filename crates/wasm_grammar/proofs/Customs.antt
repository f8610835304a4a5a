-- A custom section is skipped exactly where one is spelled.
use Rattle.std.proofs.Common.{◌≡◌, ℕ, ◌+◌, List, ◌++◌, length, Some, Result, Ok, Err, refl, sym, ap, subst, ◌∙◌, append_assoc}
use Rattle.std.specs.Prelude.{IfOk}
use Rattle.wasm_grammar.specs.Forms.{Front}
use Rattle.wasm_grammar.specs.Binary.{IsCustom}
use Rattle.wasm_grammar.specs.Answers.{Gives, Answers}
use Rattle.wasm_grammar.specs.Reading.{◌>>=◌, part_at, name_at, custom_at}
use Rattle.wasm_grammar.specs.declared.fault.ReadError.{ReadError}
use Rattle.wasm_grammar.specs.declared.fault.ReadError.TheVariants as errors
use Rattle.wasm_grammar.proofs.Steps.{bind_some, none_some, some_is}
use Rattle.wasm_grammar.proofs.Sizes.{part_takes, part_again, name_reads}

pub custom_takes : (after : ℕ) (bytes rest : List ℕ) → custom_at bytes ≡ Some rest → (x : List ℕ × List ℕ) × Front IsCustom after bytes x rest
custom_takes after bytes rest e =
    let a = bind_some (part_at bytes) (λ x. name_at x.0 >>= λ name. Some x.1) rest e in
    let b = bind_some (name_at a.0.0) (λ name. Some a.0.1) rest a.2 in
    let t = part_takes (after + length a.0.1 + length a.0.0) bytes a.0 a.1 in
    let n = name_reads.takes (after + length a.0.1) a.0.0 b.0 b.1 in
    let f : Front IsCustom after bytes b.0 a.0.1 = record { front = t.front ++ a.0.0; parts = t.parts; is_form = record { front = t.front; back = a.0.0; parts = refl; size = t.size; body = record { front = n.front; back = b.0.1; parts = n.parts; first = n.is_form; second = refl } } } in
    (b.0, subst (λ (w : List ℕ). Front IsCustom after bytes b.0 w) (some_is _ _ b.2) f)

pub custom_again : (after : ℕ) (bytes rest : List ℕ) (x : List ℕ × List ℕ) → Front IsCustom after bytes x rest → custom_at bytes ≡ Some rest
custom_again after bytes rest x f =
    let p = f.is_form in
    let b = p.body in
    let whole_is : bytes ≡ p.front ++ (p.back ++ rest) = f.parts ∙ ap (λ (w : List ℕ). w ++ rest) p.parts ∙ append_assoc p.front p.back rest in
    rw (whole_is, part_again _ p.front p.back rest p.size, b.parts, name_reads.again _ b.front b.back x.0 b.first) refl

pub custom_spelled : (bytes : List ℕ) {X : Type 0} (view : X → List ℕ) (r : Result X ReadError) → Gives view r (custom_at bytes) → IfOk r (λ rest. (x : List ℕ × List ℕ) × Front IsCustom 0 bytes x (view rest))
custom_spelled bytes view (Ok y) gives = custom_takes 0 bytes (view y) gives
custom_spelled bytes view (Err e) gives = tt

pub custom_only : (bytes : List ℕ) {X : Type 0} (view : X → List ℕ) (r : Result X ReadError) → Gives view r (custom_at bytes) → (x : List ℕ × List ℕ) (rest : List ℕ) → Front IsCustom 0 bytes x rest → Answers view r rest
custom_only bytes view (Ok y) gives x rest f = some_is _ _ (sym gives ∙ custom_again 0 bytes rest x f)
custom_only bytes view (Err errors.Malformed) gives x rest f = none_some rest (sym gives ∙ custom_again 0 bytes rest x f)
custom_only bytes view (Err errors.NoMemory) gives x rest f = tt
