-- Loops over runs of locals, and over types and code entries.
use Rattle.std.proofs.Common.{◌≡◌, ℕ, ◌+◌, ◌<◌, ◌≤◌, ◌^◌, true, List, [], ◌∷◌, ◌++◌, length, drop, reverse, refl, sym, ap, ◌∙◌, arith}
use Rattle.std.proofs.lemmas.Bool.{lt-ltb}
use Rattle.std.proofs.lemmas.List.{append-nil, at_drop_all}
use Rattle.wasm_syntax.specs.declared.types.ValType.{ValType}
use Rattle.wasm_syntax.specs.declared.module.Func.{Func}
use Rattle.wasm_grammar.specs.declared.functions.CodeEntry.{CodeEntry}
use Rattle.wasm_grammar.specs.Functions.{local_count, few_locals}
use Rattle.wasm_grammar.specs.Module.{funcs_of}

-- all runs were counted, and their sum is small
pub few_at_end : (runs : List (ℕ × ValType)) (i sum : ℕ) → sum < 2 ^ 32 → length runs ≤ i → sum + local_count (drop i runs) ≡ local_count runs → true ≡ few_locals runs
few_at_end runs i sum lt le e =
    let none : local_count (drop i runs) ≡ 0 = at_drop_all local_count runs i le in
    let small : local_count runs < 2 ^ 32 = omega (arith, none, e, lt) in
    sym (lt-ltb (local_count runs) (2 ^ 32) small)

no_codes : (types : List ℕ) → funcs_of types [] ≡ []
no_codes [] = refl
no_codes (t ∷ types) = refl

pub no_codes_left : (funcs : List Func) (types : List ℕ) (left : List CodeEntry) (total : List Func) → left ≡ [] → funcs ++ funcs_of types (reverse left) ≡ total → funcs ≡ total
no_codes_left funcs types left total e h = sym (append-nil funcs) ∙ ap (λ (w : List Func). funcs ++ w) (sym (ap (λ (w : List CodeEntry). funcs_of types (reverse w)) e ∙ no_codes types)) ∙ h
