-- Laws of lists of operands that are kept in runs.
use Rattle.std.proofs.Common.{◌≡◌, ℕ, ◌+◌, ◌-◌, ◌<◌, ◌≤◌, Bool, true, false, List, [], ◌∷◌, ◌++◌, Option, Some, None, length, reverse, take, drop, get_or, set, refl, sym, ◌∙◌, ap, is_some, arith, option_to_list}
use Rattle.std.proofs.lemmas.List.{take_more, take_more_set, reverse-append, length-append, length-set, append_assoc, append-nil, take-append-le, drop-append-le, take_all as take_whole, drop_all}
use Rattle.std.proofs.lemmas.Grind.{flat_map-append}
use Rattle.wasm_syntax.specs.declared.types.ValType.{ValType}
use Rattle.wasm_valid.specs.declared.runs.Run.{Run}
use Rattle.wasm_valid.specs.Spaces.{when, then_}
use Rattle.wasm_valid.specs.Operands.{take_all, fits}
use Rattle.wasm_valid.specs.Runs.{of_run, laid_out, above, Shortens}
use Rattle.wasm_valid.proofs.PileLaws.{reverse_more, take_all-anything}

-- the last one of a list
pub last_is : {X : Type 0} (xs : List X) (n : ℕ) (d : X) → (n ≡ 0 → ⊥) → n ≡ length xs → xs ≡ take (n - 1) xs ++ get_or xs (n - 1) d ∷ []
last_is xs n d p e =
    let whole : length xs ≤ (n - 1) + 1 = omega (arith, p, e) in
    let within : n - 1 < length xs = omega (arith, p, e) in
    sym (take_whole ((n - 1) + 1) xs whole) ∙ take_more xs (n - 1) d within

-- another one in its place
pub with_last : {X : Type 0} (xs : List X) (n : ℕ) (y : X) → (n ≡ 0 → ⊥) → n ≡ length xs → set xs (n - 1) y ≡ take (n - 1) xs ++ y ∷ []
with_last xs n y p e =
    let whole : length (set xs (n - 1) y) ≤ (n - 1) + 1 = omega (arith, p, e, length-set xs (n - 1) y) in
    let within : n - 1 < length xs = omega (arith, p, e) in
    sym (take_whole ((n - 1) + 1) (set xs (n - 1) y) whole) ∙ take_more_set xs (n - 1) y within

-- a run on top
pub at_top : (runs : List Run) (run : Run) → laid_out (runs ++ run ∷ []) ≡ laid_out runs ++ of_run run
at_top runs run = flat_map-append of_run runs (run ∷ []) ∙ ap (λ xs. laid_out runs ++ xs) (append-nil (of_run run))

pub on_top : (runs : List Run) (n : ℕ) (run : Run) → (n ≡ 0 → ⊥) → n ≡ length runs → run ≡ get_or runs (n - 1) run
    → laid_out runs ≡ laid_out (take (n - 1) runs) ++ of_run run
on_top runs n run p e at =
    ap laid_out (last_is runs n run p e ∙ ap (λ (r : Run). take (n - 1) runs ++ r ∷ []) (sym at)) ∙ at_top (take (n - 1) runs) run

-- its topmost operand is taken, and others of it are left
pub some_left : (runs : List Run) (n : ℕ) (run less : Run) → (n ≡ 0 → ⊥) → n ≡ length runs → run ≡ get_or runs (n - 1) run → of_run run ≡ of_run less ++ run.last ∷ []
    → laid_out runs ≡ laid_out (set runs (n - 1) less) ++ run.last ∷ []
some_left runs n run less p e at parts =
    let front : List (Option ValType) = laid_out (take (n - 1) runs) in
    on_top runs n run p e at ∙ ap (λ xs. front ++ xs) parts ∙ sym (append_assoc front (of_run less) (run.last ∷ []))
    ∙ ap (λ xs. xs ++ run.last ∷ []) (sym (ap laid_out (with_last runs n less p e) ∙ at_top (take (n - 1) runs) less))

-- and none of it is left
pub none_left : (runs : List Run) (n : ℕ) (run : Run) → (n ≡ 0 → ⊥) → n ≡ length runs → run ≡ get_or runs (n - 1) run → of_run run ≡ run.last ∷ []
    → laid_out runs ≡ laid_out (take (n - 1) runs) ++ run.last ∷ []
none_left runs n run p e at parts = on_top runs n run p e at ∙ ap (λ xs. laid_out (take (n - 1) runs) ++ xs) parts

-- one operand less
pub one_shorter : {X : Type 0} (xs ys : List X) (x : X) (len : ℕ) → xs ≡ ys ++ x ∷ [] → len ≡ length xs → len - 1 ≡ length ys
one_shorter xs ys x len e l = omega (arith, l, ap length e, length-append ys (x ∷ []))

-- with no runs there are no operands
pub no_runs : (runs : List Run) (n len : ℕ) → n ≡ length runs → n ≡ 0 → len < length (laid_out runs) → ⊥
no_runs [] n len e z less = omega (arith, less)
no_runs (run ∷ runs) n len e z less = omega (arith, e, z)

-- a run less
pub run_shortens : (len size : ℕ) (old new : List (Option ValType)) (run : Run) → old ≡ new ++ of_run run → size + 1 ≡ length (of_run run) → size < length old - len → Shortens len old new
run_shortens len size old new run e s less =
    let all : length old ≡ length new + length (of_run run) = ap length e ∙ length-append new (of_run run) in
    let enough : len ≤ length new = omega (arith, all, s, less) in
    record {
      kept = sym (ap (take len) e ∙ take-append-le len new (of_run run) enough);
      fewer = omega (arith, all, s);
      enough = enough;
    }

-- an operand less
pub pop_shortens : (len : ℕ) (old new : List (Option ValType)) (popped : Option (Option ValType)) → old ≡ new ++ option_to_list popped → length new ≡ length old - 1 → len < length old
    → Shortens len old new
pop_shortens len old new (Some x) e l less =
    let enough : len ≤ length new = omega (arith, l, less) in
    record { kept = sym (ap (take len) e ∙ take-append-le len new (x ∷ []) enough); fewer = omega (arith, l, less); enough = enough }
pop_shortens len old new None e l less =
    absurd (let all : length old ≡ length new = ap length (e ∙ append-nil new) in omega (arith, all, l, less))

-- types that are left where no operands are
pub no_more : (types : List ValType) (left : ℕ) (d : ValType) (list : List (Option ValType)) (base at : ℕ) (any : Bool)
    → 0 < left → left ≤ length types → at ≡ length list → at ≤ base
    → is_some (take_all (reverse (take left types)) (above base any list)) ≡ any
no_more types left d list base at any p q e h =
    let empty : drop base list ≡ [] = drop_all base list (omega (arith, e, h)) in
    ap (λ ts. is_some (take_all ts (above base any list))) (reverse_more types left d p q)
    ∙ ap (λ (us : List (Option ValType)). is_some (take_all (get_or types (left - 1) d ∷ reverse (take (left - 1) types)) (record { types = reverse us; any = any }))) empty
    ∙ by_mark any
  where
    by_mark : (any : Bool) → is_some (take_all (get_or types (left - 1) d ∷ reverse (take (left - 1) types)) (record { types = []; any = any })) ≡ any
    by_mark true = ap is_some (take_all-anything (reverse (take (left - 1) types)))
    by_mark false = refl

-- the topmost operand, where one is there
pub topmost : (list less : List (Option ValType)) (base at : ℕ) (x : Option ValType) → list ≡ less ++ x ∷ [] → at ≡ length list → base < at
    → reverse (drop base list) ≡ x ∷ reverse (drop base less)
topmost list less base at x e l h =
    let within : base ≤ length less = omega (arith, h, l, ap length e, length-append less (x ∷ [])) in
    ap (λ xs. reverse (drop base xs)) e ∙ ap reverse (drop-append-le base less (x ∷ []) within) ∙ reverse-append (drop base less) (x ∷ [])

-- one type less and one operand less
pub one_less : (types : List ValType) (left : ℕ) (d : ValType) (list less : List (Option ValType)) (base at : ℕ) (any : Bool) (x : Option ValType) (fit : Bool)
    → 0 < left → left ≤ length types → list ≡ less ++ x ∷ [] → at ≡ length list → base < at → fits (get_or types (left - 1) d) x ≡ fit
    → is_some (take_all (reverse (take left types)) (above base any list))
    ≡ is_some (then_ (when fit (Some (above base any less))) (take_all (reverse (take (left - 1) types))))
one_less types left d list less base at any x fit p q e l h f =
    ap (λ ts. is_some (take_all ts (above base any list))) (reverse_more types left d p q)
    ∙ ap (λ (us : List (Option ValType)). is_some (take_all (get_or types (left - 1) d ∷ reverse (take (left - 1) types)) (record { types = us; any = any }))) (topmost list less base at x e l h)
    ∙ ap (λ b. is_some (then_ (when b (Some (above base any less))) (take_all (reverse (take (left - 1) types))))) f
