-- Laws of the runs of locals.
use Rattle.std.proofs.Common.{◌≡◌, ℕ, zero, suc, ◌+◌, ◌-◌, ◌<◌, ◌≤◌, Bool, true, false, List, [], ◌∷◌, ◌++◌, Some, None, option_map, cond, slice_get, length, take, get_or, replicate, flat_map, refl, sym, subst, ◌∙◌, ap, arith, nat_le}
use Rattle.std.specs.List.{prefix_len}
use Rattle.std.specs.List.Sorted.{IsPartitionedBy, IsPartitionPoint}
use Rattle.std.proofs.lemmas.List.{take_more}
use Rattle.std.proofs.lemmas.List.Sorted.{IsPartitionedBy-leb}
use Rattle.std.proofs.lemmas.List.Sums.{prefix_len_is}
use Rattle.std.proofs.lemmas.Option.{slice_get_read, slice_get_past}
use Rattle.std.proofs.lemmas.Bool.{lt-leb, leb-true, leb-false}
use Rattle.wasm_syntax.specs.declared.types.ValType.{ValType}
use Rattle.wasm_valid.specs.Typing.{count_locals}
use Rattle.wasm_valid.specs.Views.{ends_from}

abbrev pub run_types : ℕ × ValType → List ValType
run_types run = replicate run.0 run.1

pub count_locals-append : (xs ys : List (ℕ × ValType)) → count_locals (xs ++ ys) ≡ count_locals xs + count_locals ys
count_locals-append [] ys = omega arith
count_locals-append (x ∷ xs) ys = omega (arith, count_locals-append xs ys)

-- one run more
pub count_more : (runs : List (ℕ × ValType)) (i : ℕ) (d : ℕ × ValType) → i < length runs
    → count_locals (take (i + 1) runs) ≡ count_locals (take i runs) + (get_or runs i d).0
count_more runs i d h = ap count_locals (take_more runs i d h) ∙ count_locals-append (take i runs) (get_or runs i d ∷ []) ∙ omega arith

-- those of the first runs are some of all
pub count_within : (runs : List (ℕ × ValType)) (i : ℕ) → count_locals (take i runs) ≤ count_locals runs
count_within [] zero = omega arith
count_within [] (suc i) = omega arith
count_within (x ∷ xs) zero = omega arith
count_within (x ∷ xs) (suc i) = omega (arith, count_within xs i)

-- a run that is too long
pub overrun : (params : List ValType) (runs : List (ℕ × ValType)) (i : ℕ) (d : ℕ × ValType) (len most : ℕ)
    → i < length runs → len ≡ length params + count_locals (take i runs) → most - len < (get_or runs i d).0
    → false ≡ nat_le (length params + count_locals runs) most
overrun params runs i d len most h e far =
    sym (lt-leb _ _ (omega (arith, count_more runs i d h, count_within runs (i + 1))))

-- one end more
pub ends-append : (n : ℕ) (xs ys : List (ℕ × ValType)) → ends_from n (xs ++ ys) ≡ ends_from n xs ++ ends_from (n + count_locals xs) ys
ends-append n [] ys = ap (λ k. ends_from k ys) (omega arith)
ends-append n (x ∷ xs) ys =
    ap (λ es. (n + x.0) ∷ es) (ends-append (n + x.0) xs ys ∙ ap (λ k. ends_from (n + x.0) xs ++ ends_from k ys) (omega arith))

pub ends_more : (n : ℕ) (runs : List (ℕ × ValType)) (i : ℕ) (d : ℕ × ValType) (end : ℕ) → i < length runs → end ≡ n + count_locals (take i runs)
    → ends_from n (take (i + 1) runs) ≡ ends_from n (take i runs) ++ (end + (get_or runs i d).0) ∷ []
ends_more n runs i d end h e =
    ap (ends_from n) (take_more runs i d h) ∙ ends-append n (take i runs) (get_or runs i d ∷ [])
    ∙ ap (λ k. ends_from n (take i runs) ++ (k + (get_or runs i d).0) ∷ []) (sym e)

-- an index among the first types, and one behind them
pub get_left : {X : Type 0} (xs ys : List X) (i : ℕ) (d : X) → i < length xs → Some (get_or xs i d) ≡ slice_get (xs ++ ys) i
get_left [] ys i d h = absurd (omega (arith, h))
get_left (x ∷ xs) ys zero d h = refl
get_left (x ∷ xs) ys (suc i) d h = get_left xs ys i d (omega (arith, h))

pub get_right : {X : Type 0} (xs ys : List X) (i j : ℕ) → i ≡ length xs + j → slice_get (xs ++ ys) i ≡ slice_get ys j
get_right [] ys i j e = ap (slice_get ys) (omega (arith, e))
get_right (x ∷ xs) ys zero j e = absurd (omega (arith, e))
get_right (x ∷ xs) ys (suc i) j e = get_right xs ys i j (omega (arith, e))

pub get_within : {X : Type 0} (n : ℕ) (x : X) (ys : List X) (i : ℕ) → i < n → slice_get (replicate n x ++ ys) i ≡ Some x
get_within zero x ys i h = absurd (omega (arith, h))
get_within (suc n) x ys zero h = refl
get_within (suc n) x ys (suc i) h = get_within n x ys i (omega (arith, h))

pub get_behind : {X : Type 0} (n : ℕ) (x : X) (ys : List X) (i j : ℕ) → i ≡ n + j → slice_get (replicate n x ++ ys) i ≡ slice_get ys j
get_behind zero x ys i j e = ap (slice_get ys) (omega (arith, e))
get_behind (suc n) x ys zero j e = absurd (omega (arith, e))
get_behind (suc n) x ys (suc i) j e = get_behind n x ys i j (omega (arith, e))

abbrev pub ends_before : ℕ → ℕ → List (ℕ × ValType) → ℕ
ends_before index n runs = prefix_len (λ end. nat_le end index) (ends_from n runs)

abbrev pub type_of : ℕ × ValType → ValType
type_of run = run.1

-- a local's type is that of the first run that ends behind it
type_here : (n : ℕ) (run : ℕ × ValType) (runs : List (ℕ × ValType)) (i : ℕ) (b : Bool) → nat_le (n + run.0) (n + i) ≡ b
    → ((j : ℕ) → slice_get (flat_map run_types runs) j ≡ option_map type_of (slice_get runs (ends_before ((n + run.0) + j) (n + run.0) runs)))
    → slice_get (flat_map run_types (run ∷ runs)) i ≡ option_map type_of (slice_get (run ∷ runs) (cond b (1 + ends_before (n + i) (n + run.0) runs) 0))
type_here n run runs i true e rest =
    let within : run.0 ≤ i = omega (arith, leb-true _ _ e) in
    let goes : (n + run.0) + (i - run.0) ≡ n + i = omega (arith, within) in
    let next : 1 + ends_before (n + i) (n + run.0) runs ≡ suc (ends_before (n + i) (n + run.0) runs) = omega arith in
    get_behind run.0 run.1 (flat_map run_types runs) i (i - run.0) (omega (arith, within))
    ∙ rest (i - run.0) ∙ ap (λ k. option_map type_of (slice_get runs (ends_before k (n + run.0) runs))) goes
    ∙ ap (λ k. option_map type_of (slice_get (run ∷ runs) k)) (sym next)
type_here n run runs i false e rest = get_within run.0 run.1 (flat_map run_types runs) i (omega (arith, leb-false _ _ e))

pub type_at : (n : ℕ) (runs : List (ℕ × ValType)) (i : ℕ)
    → slice_get (flat_map run_types runs) i ≡ option_map type_of (slice_get runs (ends_before (n + i) n runs))
type_at n [] i = refl
type_at n (run ∷ runs) i = type_here n run runs i (nat_le (n + run.0) (n + i)) refl (type_at (n + run.0) runs)

-- the ends don't fall
ends_above : (n : ℕ) (runs : List (ℕ × ValType)) (i d : ℕ) → i < length (ends_from n runs) → n ≤ get_or (ends_from n runs) i d
ends_above n [] i d h = absurd (omega (arith, h))
ends_above n (run ∷ runs) zero d h = omega arith
ends_above n (run ∷ runs) (suc i) d h = omega (arith, ends_above (n + run.0) runs i d (omega (arith, h)))

pub ends_rise : (n : ℕ) (runs : List (ℕ × ValType)) (i j d : ℕ) → i ≤ j → j < length (ends_from n runs)
    → get_or (ends_from n runs) i d ≤ get_or (ends_from n runs) j d
ends_rise n [] i j d le h = absurd (omega (arith, h))
ends_rise n (run ∷ runs) zero zero d le h = omega arith
ends_rise n (run ∷ runs) zero (suc j) d le h = ends_above (n + run.0) runs j d (omega (arith, h))
ends_rise n (run ∷ runs) (suc i) zero d le h = absurd (omega (arith, le))
ends_rise n (run ∷ runs) (suc i) (suc j) d le h = ends_rise (n + run.0) runs i j d (omega (arith, le)) (omega (arith, h))

-- the type of a local that is no parameter, where this many ends are no greater than its index
pub type_behind : (params : List ValType) (runs : List (ℕ × ValType)) (index before : ℕ) → length params ≤ index
    → ends_before index (length params) runs ≡ before
    → option_map type_of (slice_get runs before) ≡ slice_get (params ++ flat_map run_types runs) index
type_behind params runs index before h e =
    let i = index - length params in
    let there : length params + i ≡ index = omega (arith, h) in
    ap (λ k. option_map type_of (slice_get runs k)) (sym e)
    ∙ ap (λ k. option_map type_of (slice_get runs (ends_before k (length params) runs))) (sym there)
    ∙ sym (type_at (length params) runs i) ∙ sym (get_right params (flat_map run_types runs) index i (sym there))

-- a lookup that found a run, and one that didn't, with what it says
pub found_type : (runs : List (ℕ × ValType)) (k : ℕ) (run : ℕ × ValType) → k < length runs → run ≡ get_or runs k run
    → Some run.1 ≡ option_map type_of (slice_get runs k)
found_type runs k run h e = sym (ap (option_map type_of) (slice_get_read runs (length runs) k run refl h e))

pub no_type : (runs : List (ℕ × ValType)) (k : ℕ) → length runs ≤ k → None ≡ option_map type_of (slice_get runs k)
no_type runs k h = sym (ap (option_map type_of) (slice_get_past runs k h))

-- the ends are parted at an index, and where they are parted tells how many are no greater
pub parted : (n : ℕ) (runs : List (ℕ × ValType)) (ends : List ℕ) (index : ℕ) → ends ≡ ends_from n runs → IsPartitionedBy (λ end. nat_le end index) ends
parted n runs ends index e =
    subst (IsPartitionedBy (λ end. nat_le end index)) (sym e) (IsPartitionedBy-leb (λ end. end) (ends_from n runs) index (ends_rise n runs))

pub before_is : (n : ℕ) (runs : List (ℕ × ValType)) (ends : List ℕ) (index before : ℕ) → ends ≡ ends_from n runs → before ≤ length ends
    → IsPartitionPoint (λ end. nat_le end index ≡ true) (λ end. nat_le end index ≡ false) ends before → ends_before index n runs ≡ before
before_is n runs ends index before e bound point =
    ap (prefix_len (λ end. nat_le end index)) (sym e)
    ∙ prefix_len_is (λ end. nat_le end index) ends before 0 bound (λ k l. point.0 k 0 (omega arith) l) (λ l. point.1 before 0 (omega arith) l)
