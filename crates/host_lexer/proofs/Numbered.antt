-- Digits and the number that they stand for, and what the reader of numbers shows.
use Rattle.std.specs.Prelude.{◌≡◌, ℕ, ◌+◌, ◌-◌, ◌*◌, ◌<◌, ◌≤◌, true, false, ◌==◌, List, [], ◌∷◌, ◌++◌, length, fold, All, take, drop, Option, Some, None, MatchOption, refl}
use Rattle.std.specs.Char.{is_digit, digit_value}
use Rattle.std.proofs.Common.{sym, ◌∙◌, ap, subst, arith, get_or}
use Rattle.std.proofs.Math.Nat.{mul-le-mul_left}
use Rattle.std.proofs.lemmas.List.{take-append-drop, take_more, take_all, take_rest, append_cancel_right, drop_more, length-append}
use Rattle.std.proofs.lemmas.List.Elements.{All-nil, All-cons, All-append}
use Rattle.std.proofs.lemmas.Grind.{fold-append}
use Rattle.std.proofs.lemmas.Bool.Decides.{nat_tests}
use Rattle.host_lexer.specs.declared.token.TokenKind.TheVariants as kinds
use Rattle.host_lexer.specs.Numerals.{Numeral, decimal, hexadecimal, numeral_chars, value_in, AreDigits, IsDecimal, IsNumeral, greatest_number, greatest_big_int}
use Rattle.host_lexer.specs.Steps.{AreDigitsUpTo, HasNumeral, NoNumeral, whole, big, HasNumber, NoNumber}
use Rattle.host_lexer.proofs.Same.{numeral_no_n, has_n, decimal_digits}

-- more digits stand for no smaller number
grows : (r : ℕ) (ds : List ℕ) (n : ℕ) → 2 ≤ r → n ≤ fold (λ n d. n * r + digit_value d) n ds
grows r [] n h = omega arith
grows r (d ∷ ds) n h =
    let p : n * r + digit_value d ≤ fold (λ n d. n * r + digit_value d) (n * r + digit_value d) ds = grows r ds (n * r + digit_value d) h in
    let q : n * 2 ≤ n * r = mul-le-mul_left n h in omega (arith, p, q)

-- an element that is there is read alike at each default
pub at_default : (xs : List ℕ) (i d e : ℕ) → i < length xs → get_or xs i d ≡ get_or xs i e
at_default xs i d e lt = let p = drop_more xs i d lt in let q = drop_more xs i e lt in cc

pub value_front : (r : ℕ) (ds : List ℕ) (i : ℕ) → 2 ≤ r → value_in r (take i ds) ≤ value_in r ds
value_front r ds i h = subst (λ n. value_in r (take i ds) ≤ n) (sym (fold-append (λ n d. n * r + digit_value d) 0 (take i ds) (drop i ds)) ∙ ap (value_in r) (take-append-drop i ds))
    (grows r (drop i ds) (value_in r (take i ds)) h)

pub value_more : (r : ℕ) (ds : List ℕ) (i : ℕ) → i < length ds → value_in r (take (i + 1) ds) ≡ value_in r (take i ds) * r + digit_value (get_or ds i 0)
value_more r ds i h = ap (value_in r) (take_more ds i 0 h) ∙ fold-append (λ n d. n * r + digit_value d) 0 (take i ds) (get_or ds i 0 ∷ [])

-- digits whose front is too great are too great
pub too_great : (r g : ℕ) (ds : List ℕ) (i v x d : ℕ) → 2 ≤ r → i < length ds → v ≡ value_in r (take i ds) → x ≡ get_or ds i x → d ≡ digit_value x → g < v * r + d → ¬ AreDigitsUpTo r g ds
too_great r g ds i v x d h lt e is f over (ds_are, small) =
    let p = value_more r ds i lt in let q = value_front r ds (i + 1) h in
    let s : v * r ≡ value_in r (take i ds) * r = ap (λ n. n * r) e in
    let t : d ≡ digit_value (get_or ds i 0) = f ∙ ap digit_value (is ∙ at_default ds i x 0 lt) in omega (arith, p, q, s, t)

pub value_step : (r : ℕ) (ds : List ℕ) (i v x d w : ℕ) → i < length ds → v ≡ value_in r (take i ds) → x ≡ get_or ds i x → d ≡ digit_value x → w ≡ v * r + d → w ≡ value_in r (take (i + 1) ds)
value_step r ds i v x d w lt e is f g =
    let s : v * r ≡ value_in r (take i ds) * r = ap (λ n. n * r) e in
    let t : d ≡ digit_value (get_or ds i 0) = f ∙ ap digit_value (is ∙ at_default ds i x 0 lt) in
    let p = value_more r ds i lt in omega (arith, p, g, s, t)

below_is : (r x : ℕ) → digit_value x < r → is_digit x r ≡ true
below_is r x lt = grind (arith, nat_tests)

pub digits_more : (r : ℕ) (ds : List ℕ) (i x : ℕ) → i < length ds → AreDigits r (take i ds) → x ≡ get_or ds i x → digit_value x < r → AreDigits r (take (i + 1) ds)
digits_more r ds i x lt h is b =
    let d : is_digit (get_or ds i 0) r ≡ true = subst (λ y. is_digit y r ≡ true) (is ∙ at_default ds i x 0 lt) (below_is r x b) in
    rw (take_more ds i 0 lt) (All-append (λ x. is_digit x r ≡ true) (take i ds) (get_or ds i 0 ∷ []) h (All-cons (λ x. is_digit x r ≡ true) (get_or ds i 0) [] d (All-nil (λ x. is_digit x r ≡ true))))

-- numerals
pub as_decimal : (xs : List ℕ) (g k : ℕ) (r : Option ℕ) → 0 < length xs → k ≡ get_or xs 0 k → ¬ (k ≡ 48)
    → MatchOption r (¬ AreDigitsUpTo 10 g xs) (λ v. v ≡ value_in 10 xs) → MatchOption r (Unit {0}) (λ v. AreDigitsUpTo 10 g xs)
    → MatchOption r (NoNumeral xs g) (λ v. HasNumeral xs g v)
as_decimal [] g k r lt is n a b = absurd (omega arith)
as_decimal (c ∷ cs) g k None lt is n a b = never
  where
    never : NoNumeral (c ∷ cs) g
    never (decimal ds) e h small = a (subst (AreDigits 10) e (decimal_digits ds h), subst (λ x. value_in 10 x ≤ g) e small)
    never (hexadecimal ds) e h small = n (let q : c ≡ 48 = cc in is ∙ q)
as_decimal (c ∷ cs) g k (Some v) lt is n a b = record { numeral = decimal (c ∷ cs); spell = refl; is_numeral = made c cs (λ q. n (is ∙ q)) b.0; value_is = sym a; small = rw a b.1 }
  where
    made : (c : ℕ) (cs : List ℕ) → ¬ (c ≡ 48) → AreDigits 10 (c ∷ cs) → IsDecimal (c ∷ cs)
    made c [] n h = h
    made c (d ∷ cs) n h = (n, h)

pub zero_numeral : (xs : List ℕ) (g k : ℕ) → length xs ≡ 1 → k ≡ get_or xs 0 k → k ≡ 48 → HasNumeral xs g 0
zero_numeral [] g k l is e = absurd (omega (arith, l))
zero_numeral (c ∷ []) g k l is e = record {
  numeral = decimal (48 ∷ []);
  spell = ap (λ x. x ∷ []) (sym (sym is ∙ e));
  is_numeral = All-cons (λ x. is_digit x 10 ≡ true) 48 [] refl (All-nil (λ x. is_digit x 10 ≡ true));
  value_is = refl;
  small = omega arith;
}
zero_numeral (c ∷ d ∷ cs) g k l is e = absurd (omega (arith, l))

-- characters that begin with `0` and go on
pub no_x : (xs : List ℕ) (g k : ℕ) → (d : ℕ) × (rest : List ℕ) × (xs ≡ 48 ∷ d ∷ rest) → k ≡ get_or xs 1 k → ¬ (k ≡ 120) → NoNumeral xs g
no_x xs g k (d, rest, e) is n (decimal []) s h small = h
no_x xs g k (d, rest, e) is n (decimal (a ∷ [])) s h small = let q : a ∷ [] ≡ 48 ∷ d ∷ rest = s ∙ e in cc
no_x xs g k (d, rest, e) is n (decimal (a ∷ b ∷ ds)) s h small = h.0 (let q : a ∷ b ∷ ds ≡ 48 ∷ d ∷ rest = s ∙ e in cc)
no_x xs g k (d, rest, e) is n (hexadecimal ds) s h small = n (is ∙ ap (λ x. get_or x 1 k) (sym s))

pub as_hexadecimal : (xs : List ℕ) (g k : ℕ) (r : Option ℕ) → (d : ℕ) × (rest : List ℕ) × (xs ≡ 48 ∷ d ∷ rest) → k ≡ get_or xs 1 k → k ≡ 120 → ¬ (length xs ≡ 2)
    → MatchOption r (¬ AreDigitsUpTo 16 g (take (length xs - 2) (drop 2 xs))) (λ v. v ≡ value_in 16 (take (length xs - 2) (drop 2 xs)))
    → MatchOption r (Unit {0}) (λ v. AreDigitsUpTo 16 g (take (length xs - 2) (drop 2 xs)))
    → MatchOption r (NoNumeral xs g) (λ v. HasNumeral xs g v)
as_hexadecimal xs g k r (d, rest, e) is x l a b = on r a b
  where
    ds_are : take (length xs - 2) (drop 2 xs) ≡ rest
    ds_are = take_rest xs 2 ∙ ap (drop 2) e

    x_is : d ≡ 120
    x_is = ap (λ y. get_or y 1 k) (sym e) ∙ sym is ∙ x

    filled : ¬ (rest ≡ [])
    filled q = l (ap length e ∙ ap (λ y. length (48 ∷ d ∷ y)) q)

    on : (r : Option ℕ) → MatchOption r (¬ AreDigitsUpTo 16 g (take (length xs - 2) (drop 2 xs))) (λ v. v ≡ value_in 16 (take (length xs - 2) (drop 2 xs)))
        → MatchOption r (Unit {0}) (λ v. AreDigitsUpTo 16 g (take (length xs - 2) (drop 2 xs))) → MatchOption r (NoNumeral xs g) (λ v. HasNumeral xs g v)
    on None a b = never
      where
        never : NoNumeral xs g
        never (decimal []) s h small = h
        never (decimal (j ∷ [])) s h small = let q : j ∷ [] ≡ 48 ∷ d ∷ rest = s ∙ e in cc
        never (decimal (j ∷ m ∷ ds)) s h small = h.0 (let q : j ∷ m ∷ ds ≡ 48 ∷ d ∷ rest = s ∙ e in cc)
        never (hexadecimal ds) s h small =
            let q : ds ≡ rest = (let z : 48 ∷ 120 ∷ ds ≡ 48 ∷ d ∷ rest = s ∙ e in cc) in
            a (subst (AreDigitsUpTo 16 g) (q ∙ sym ds_are) (h.1, small))
    on (Some v) a b = let f : AreDigitsUpTo 16 g rest = subst (AreDigitsUpTo 16 g) ds_are b in record {
      numeral = hexadecimal rest;
      spell = ap (λ y. 48 ∷ y ∷ rest) (sym x_is) ∙ sym e;
      is_numeral = (filled, f.0);
      value_is = ap (value_in 16) (sym ds_are) ∙ sym a;
      small = rw (a, ds_are) f.1;
    }

-- numbers
at_length : (ds : List ℕ) → get_or (ds ++ 110 ∷ []) (length ds) 0 ≡ 110
at_length [] = refl
at_length (d ∷ ds) = at_length ds

last_is : (ds : List ℕ) → get_or (ds ++ 110 ∷ []) (length (ds ++ 110 ∷ []) - 1) 0 ≡ 110
last_is ds = let n : length (ds ++ 110 ∷ []) - 1 ≡ length ds = omega (arith, length-append ds (110 ∷ [])) in ap (λ k. get_or (ds ++ 110 ∷ []) k 0) n ∙ at_length ds

split_last : (xs : List ℕ) → 0 < length xs → xs ≡ take (length xs - 1) xs ++ get_or xs (length xs - 1) 0 ∷ []
split_last xs lt =
    let k : length xs - 1 < length xs = omega arith in
    let j : length xs - 1 + 1 ≡ length xs = omega arith in
    let r : take (length xs) xs ≡ xs = take_all (length xs) xs (omega arith) in
    sym r ∙ ap (λ n. take n xs) (sym j) ∙ take_more xs (length xs - 1) 0 k

pub before_n : (xs : List ℕ) → (ds : List ℕ) × (xs ≡ ds ++ 110 ∷ []) → xs ≡ take (length xs - 1) xs ++ 110 ∷ []
before_n xs (ds, e) =
    let n : length xs ≡ length ds + 1 = ap length e ∙ length-append ds (110 ∷ []) in
    let lt : 0 < length xs = omega (arith, n) in
    split_last xs lt ∙ ap (λ c. take (length xs - 1) xs ++ c ∷ []) (subst (λ y. get_or y (length y - 1) 0 ≡ 110) (sym e) (last_is ds))

pub no_big_int : (xs : List ℕ) → (ds : List ℕ) × (xs ≡ ds ++ 110 ∷ []) → NoNumeral (take (length xs - 1) xs) greatest_big_int → NoNumber xs
no_big_int xs p n (whole m) s h = has_n p.0 (subst (All (λ c. (c == 110) ≡ false)) (s ∙ p.1) (numeral_no_n m h.0))
no_big_int xs p n (big m) s h = n m (append_cancel_right (numeral_chars m) (take (length xs - 1) xs) (110 ∷ []) (s ∙ before_n xs p)) h.0 h.1

pub is_big_int : (xs : List ℕ) (v : ℕ) → (ds : List ℕ) × (xs ≡ ds ++ 110 ∷ []) → HasNumeral (take (length xs - 1) xs) greatest_big_int v → HasNumber xs (kinds.BigInt v)
is_big_int xs v p h = record {
  numeric = big h.numeral;
  spell = ap (λ y. y ++ 110 ∷ []) h.spell ∙ sym (before_n xs p);
  is_element = (h.is_numeral, rw h.value_is h.small);
  makes = ap (λ n. Some (kinds.BigInt n)) h.value_is;
}

pub is_whole : (xs : List ℕ) (v : ℕ) → HasNumeral xs greatest_number v → HasNumber xs (kinds.Number v)
is_whole xs v h = record {
  numeric = whole h.numeral;
  spell = h.spell;
  is_element = (h.is_numeral, rw h.value_is h.small);
  makes = ap (λ n. Some (kinds.Number n)) h.value_is;
}

pub zero_goes_on : (xs : List ℕ) (k : ℕ) → 0 < length xs → k ≡ get_or xs 0 k → k ≡ 48 → ¬ (length xs ≡ 1) → (d : ℕ) × (rest : List ℕ) × (xs ≡ 48 ∷ d ∷ rest)
zero_goes_on [] k lt g e l = absurd (omega arith)
zero_goes_on (x ∷ []) k lt g e l = absurd (l refl)
zero_goes_on (x ∷ y ∷ ys) k lt g e l = (y, ys, ap (λ c. c ∷ y ∷ ys) (sym g ∙ e))
