-- Laws of lists whose topmost element is the last one.
use Rattle.std.proofs.Common.{◌≡◌, ℕ, ◌+◌, ◌-◌, ◌<◌, ◌≤◌, Bool, true, false, ◌&&◌, List, [], ◌∷◌, ◌++◌, Option, Some, length, reverse, map, take, drop, get_or, refl, sym, ◌∙◌, ap, subst, arith, nat_eq, eq-eqb}
use Rattle.std.proofs.lemmas.Bool.{ne_eqb}
use Rattle.std.proofs.lemmas.List.{take_more, reverse-append, map-append, length-reverse, length-take-le, length-drop, drop-append-le, take-append-drop, take_at, drop_at, take_all as take_whole}
use Rattle.wasm_syntax.specs.declared.types.ValType.{ValType}
use Rattle.wasm_valid.specs.Operands.{Operands, take_all, anything, put, is_empty}
use Rattle.wasm_valid.specs.Piles.{Pile, pile_of, is_anything}

-- one more element on top
pub reverse_more : {X : Type 0} (xs : List X) (n : ℕ) (d : X) → 0 < n → n ≤ length xs → reverse (take n xs) ≡ get_or xs (n - 1) d ∷ reverse (take (n - 1) xs)
reverse_more xs n d p q =
    let same : n ≡ (n - 1) + 1 = omega arith in
    let more : take ((n - 1) + 1) xs ≡ take (n - 1) xs ++ get_or xs (n - 1) d ∷ [] = take_more xs (n - 1) d (omega arith) in
    ap (λ k. reverse (take k xs)) same ∙ ap reverse more ∙ reverse-append (take (n - 1) xs) (get_or xs (n - 1) d ∷ [])

-- the same above a place
pub reverse_above : {X : Type 0} (xs : List X) (base n : ℕ) (d : X) → base < n → n ≤ length xs
    → reverse (drop base (take n xs)) ≡ get_or xs (n - 1) d ∷ reverse (drop base (take (n - 1) xs))
reverse_above xs base n d p q =
    let same : n ≡ (n - 1) + 1 = omega arith in
    let more : take ((n - 1) + 1) xs ≡ take (n - 1) xs ++ get_or xs (n - 1) d ∷ [] = take_more xs (n - 1) d (omega arith) in
    let len : length (take (n - 1) xs) ≡ n - 1 = length-take-le (n - 1) xs (omega arith) in
    ap (λ k. reverse (drop base (take k xs))) same ∙ ap (λ ys. reverse (drop base ys)) more
    ∙ ap reverse (drop-append-le base (take (n - 1) xs) (get_or xs (n - 1) d ∷ []) (omega arith))
    ∙ reverse-append (drop base (take (n - 1) xs)) (get_or xs (n - 1) d ∷ [])

-- the upper part of a list that is turned round, and the lower one
pub reverse_parts : {X : Type 0} (xs : List X) (b : ℕ) → b ≤ length xs
    → (reverse (drop b xs) ≡ take (length (reverse xs) - b) (reverse xs)) × (reverse (take b xs) ≡ drop (length (reverse xs) - b) (reverse xs))
reverse_parts xs b h =
    let split : reverse xs ≡ reverse (drop b xs) ++ reverse (take b xs) = ap reverse (sym (take-append-drop b xs)) ∙ reverse-append (take b xs) (drop b xs) in
    let len : length (reverse (drop b xs)) ≡ length (reverse xs) - b = length-reverse (drop b xs) ∙ length-drop b xs ∙ ap (λ n. n - b) (sym (length-reverse xs)) in (
      sym (ap (take (length (reverse xs) - b)) split ∙ take_at (reverse (drop b xs)) (reverse (take b xs)) (length (reverse xs) - b) len),
      sym (ap (drop (length (reverse xs) - b)) split ∙ drop_at (reverse (drop b xs)) (reverse (take b xs)) (length (reverse xs) - b) len),
    )

-- no element above a place
pub nothing_above : {X : Type 0} (xs : List X) (base : ℕ) → base ≤ length xs → reverse (drop base xs) ≡ [] → take base xs ≡ xs
nothing_above xs base h e =
    take_whole base xs (let n : length (reverse (drop base xs)) ≡ 0 = ap length e in omega (arith, length-reverse (drop base xs), length-drop base xs, n))

-- what is left of the operands as a block ends
pub closes : (list : List (Option ValType)) (base : ℕ) (any : Bool) (p : Pile) (b : ℕ)
    → pile_of list base any ≡ p → base ≤ length list → p.own.types ≡ [] → b ≤ length p.under
    → (reverse (drop b list) ≡ take (length p.under - b) p.under) × (reverse (take b list) ≡ drop (length p.under - b) p.under)
closes list base any p b view stands spent le =
    let P : Pile → Type 0 = λ p. p.own.types ≡ [] → b ≤ length p.under → (reverse (drop b list) ≡ take (length p.under - b) p.under) × (reverse (take b list) ≡ drop (length p.under - b) p.under) in
    subst P view (λ spent le.
    let whole : take base list ≡ list = nothing_above list base stands spent in
    let Q : List (Option ValType) → Type 0 = λ u. b ≤ length (reverse u) → (reverse (drop b list) ≡ take (length (reverse u) - b) (reverse u)) × (reverse (take b list) ≡ drop (length (reverse u) - b) (reverse u)) in
    subst Q (sym whole) (λ le. reverse_parts list b (let n : length (reverse list) ≡ length list = length-reverse list in omega arith)) le) spent le

-- the operands of a block that opens
pub opens : (list : List (Option ValType)) (base : ℕ) → base ≤ length list → reverse (take (length list) list) ≡ reverse (drop base list) ++ reverse (take base list)
opens list base h =
    ap reverse (take_whole (length list) list (omega arith)) ∙ ap reverse (sym (take-append-drop base list)) ∙ reverse-append (take base list) (drop base list)

-- the operands of a block that opens stay below it
pub opened : (list : List (Option ValType)) (base : ℕ) (any : Bool) (p : Pile) (n : ℕ) (u : List (Option ValType))
    → pile_of list base any ≡ p → base ≤ length list → n ≡ length list → u ≡ reverse (take n list) → u ≡ p.own.types ++ p.under
opened list base any p n u view stands len e =
    let P : Pile → Type 0 = λ p. u ≡ p.own.types ++ p.under in
    subst P view (e ∙ ap (λ k. reverse (take k list)) len ∙ opens list base stands)

-- whether a block has operands left
pub spent_is : (list : List (Option ValType)) (base : ℕ) (any : Bool) (p : Pile) (n : ℕ)
    → pile_of list base any ≡ p → base ≤ length list → n ≡ length list → nat_eq n base ≡ is_empty p.own.types
spent_is list base any p n view stands len =
    let P : Pile → Type 0 = λ p. nat_eq n base ≡ is_empty p.own.types in
    subst P view (by_length (reverse (drop base list)) (length-reverse (drop base list) ∙ length-drop base list))
  where
    by_length : (xs : List (Option ValType)) → length xs ≡ length list - base → nat_eq n base ≡ is_empty xs
    by_length [] e = eq-eqb n base (omega arith)
    by_length (x ∷ xs) e = ne_eqb n base (λ same. omega (arith, e))

-- anything may be taken where anything may stand
pub take_all-anything : (ts : List ValType) → take_all ts anything ≡ Some anything
take_all-anything [] = refl
take_all-anything (t ∷ ts) = take_all-anything ts

-- so it is where nothing is
pub taken_at_once : (ts : List ValType) (s : Operands) → is_anything s ≡ true → take_all ts s ≡ Some s
taken_at_once ts s e = by_parts s.types s.any e
  where
    by_parts : (us : List (Option ValType)) (any : Bool) → (any && is_empty us) ≡ true → take_all ts (record { types = us; any = any }) ≡ Some (record { types = us; any = any })
    by_parts [] true e = take_all-anything ts
    by_parts (u ∷ us) true e = cc
    by_parts us false e = cc

-- whether nothing is there
pub anything_is : (list : List (Option ValType)) (base : ℕ) (any : Bool) (p : Pile) (n : ℕ)
    → pile_of list base any ≡ p → base ≤ length list → n ≡ length list → (any && nat_eq n base) ≡ is_anything p.own
anything_is list base any p n view stands len =
    ap (λ b. any && b) (spent_is list base any p n view stands len) ∙ ap (λ b. b && is_empty p.own.types) (ap (λ (x : Pile). x.own.any) view)

-- types that are turned round
pub reverse-map : (ts : List ValType) → reverse (map {B = Option ValType} Some ts) ≡ map Some (reverse ts)
reverse-map [] = refl
reverse-map (t ∷ ts) =
    reverse-append (Some t ∷ []) (map Some ts) ∙ ap (λ (us : List (Option ValType)). us ++ Some t ∷ []) (reverse-map ts)
    ∙ sym (ap (map Some) (reverse-append (t ∷ []) ts) ∙ map-append Some (reverse ts) (t ∷ []))

-- operands of these types on top
pub types_on_top : (list new : List (Option ValType)) (base : ℕ) (any : Bool) (p : Pile) (ts : List ValType)
    → pile_of list base any ≡ p → base ≤ length list → new ≡ list ++ map Some ts → record { types = reverse (drop base new); any = any } ≡ put (map Some (reverse ts)) p.own
types_on_top list new base any p ts view stands e =
    let P : Pile → Type 0 = λ p. record { types = reverse (drop base new); any = any } ≡ put (map Some (reverse ts)) p.own in
    subst P view
    (ap (λ us. record { types = us; any = any })
    (ap (λ xs. reverse (drop base xs)) e ∙ ap reverse (drop-append-le base list (map Some ts) stands) ∙ reverse-append (drop base list) (map Some ts)
    ∙ ap (λ us. us ++ reverse (drop base list)) (reverse-map ts)))
