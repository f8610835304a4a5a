-- An instance of a file's module, once its charges are taken.
use Rattle.std.proofs.Common.{◌≡◌, ℕ, List, Option, Some, Result, Ok, sym, ap, ◌∙◌}
use Rattle.wasm_syntax.specs.declared.module.Module.{Module}
use Rattle.embed_script.specs.declared.state.State.{State}
use Rattle.embed_script.specs.Ends.{and_then, at_place, charge}
use Rattle.embed_script.specs.Functions.{Modules, decoded_of, compiled_of, exported, instance_with, instance_of}

pub loaded_instance : (modules : Modules) (file name : List ℕ) (place : ℕ) (s a b d : State) (o : Option Module) (m n : Module) (k : ℕ)
    → charge 1 s ≡ Ok a → charge 1 a ≡ Ok b → compiled_of (decoded_of modules file) ≡ Ok o → o ≡ Some m → charge 1 b ≡ Ok d → n ≡ m → exported (Some n) name ≡ Ok (n, k)
    → instance_of modules file name place s ≡ instance_with m k d
loaded_instance modules file name place s a b d o m n k first second read is third same found =
    ap (λ z. and_then z (λ (begun : State). and_then (charge 1 begun) (λ (c : State). and_then (compiled_of (decoded_of modules file)) (λ (l : Option Module). and_then (charge 1 c) (λ (rest : State). and_then (at_place place (exported l name)) (λ (f : Module × ℕ). instance_with f.0 f.1 rest)))))) first
    ∙ ap (λ z. and_then z (λ (c : State). and_then (compiled_of (decoded_of modules file)) (λ (l : Option Module). and_then (charge 1 c) (λ (rest : State). and_then (at_place place (exported l name)) (λ (f : Module × ℕ). instance_with f.0 f.1 rest))))) second
    ∙ ap (λ z. and_then z (λ (l : Option Module). and_then (charge 1 b) (λ (rest : State). and_then (at_place place (exported l name)) (λ (f : Module × ℕ). instance_with f.0 f.1 rest)))) (read ∙ ap (λ (l : Option Module). Ok l) is)
    ∙ ap (λ z. and_then z (λ (rest : State). and_then (at_place place (exported (Some m) name)) (λ (f : Module × ℕ). instance_with f.0 f.1 rest))) third
    ∙ ap (λ (x : Module). and_then (at_place place (exported (Some x) name)) (λ (f : Module × ℕ). instance_with f.0 f.1 d)) (sym same)
    ∙ ap (λ z. and_then (at_place place z) (λ (f : Module × ℕ). instance_with f.0 f.1 d)) found
    ∙ ap (λ (x : Module). instance_with x k d) same
