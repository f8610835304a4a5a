-- What the readers of comments show.
use Rattle.std.specs.Prelude.{◌≡◌, ℕ, ◌+◌, ◌-◌, ◌<◌, ◌≤◌, zero, suc, Bool, true, false, not, ◌==◌, List, [], ◌∷◌, ◌++◌, length, take, drop, nat_lt, All, None, refl}
use Rattle.std.specs.List.{prefix_len, list_any}
use Rattle.std.proofs.Common.{sym, ◌∙◌, ap, subst, arith, get_or}
use Rattle.std.proofs.lemmas.List.{append_assoc, take-append-drop, take_all, take_rest, drop-drop, drop_more, length-append, length-drop}
use Rattle.std.proofs.lemmas.List.Elements.{All-weaker}
use Rattle.std.proofs.lemmas.List.Folds.{length-prefix_len}
use Rattle.std.proofs.lemmas.Bool.Decides.{nat_tests}
use Rattle.unicode_ident.proofs.Computing.{unicode_ident}
use Rattle.host_lexer.specs.Characters.{is_line_end, is_separator, is_comment_part, StopsAt, HasNoEnd}
use Rattle.host_lexer.specs.Steps.{Begins, EndsIn, NeverEnds}
use Rattle.host_lexer.specs.Tokens.{Element, line_comment, block_comment, Heads, EndsAt, no_token, separator}
use Rattle.host_lexer.proofs.Runs.{run_of, run_passes, run_stops}
use Rattle.host_lexer.proofs.Same.{class_heads, as_block}

two_first : (a b : ℕ) (xs : List ℕ) → (r : List ℕ) × (xs ≡ a ∷ b ∷ r) → a ∷ b ∷ drop 2 xs ≡ xs
two_first a b xs (r, e) = rw e refl

-- `//`
pub line_reads : (xs : List ℕ) (n : ℕ) → (r : List ℕ) × (xs ≡ 47 ∷ 47 ∷ r) → n ≡ prefix_len is_comment_part (take (length xs - 2) (drop 2 xs)) → Begins xs (2 + n) None false
line_reads xs n b e =
    let k : n ≡ prefix_len is_comment_part (drop 2 xs) = e ∙ ap (prefix_len is_comment_part) (take_rest xs 2) in
    let d : drop (prefix_len is_comment_part (drop 2 xs)) (drop 2 xs) ≡ drop (2 + n) xs = ap (λ m. drop m (drop 2 xs)) (sym k) ∙ drop-drop n 2 xs in
    record {
      element = line_comment (run_of is_comment_part (drop 2 xs));
      heads = record {
        spell = ap (λ y. 47 ∷ 47 ∷ (run_of is_comment_part (drop 2 xs) ++ y)) (sym d)
            ∙ ap (λ y. 47 ∷ 47 ∷ y) (take-append-drop (prefix_len is_comment_part (drop 2 xs)) (drop 2 xs)) ∙ two_first 47 47 xs b;
        is_element = run_passes is_comment_part (drop 2 xs);
        ends = subst (StopsAt is_comment_part) d (run_stops is_comment_part (drop 2 xs));
      };
      no_separator = tt;
      makes = refl;
      line_is = refl;
      size = let q = length-prefix_len is_comment_part (drop 2 xs) in omega (arith, q, k);
    }

-- the end of a block's inside
no_end_take : (n : ℕ) (xs : List ℕ) → n ≤ length xs → ((k : ℕ) → k < n → get_or xs k 0 ≡ 42 → get_or xs (suc k) 0 ≡ 47 → ⊥) → HasNoEnd (take n xs)
no_end_take zero xs l h = tt
no_end_take (suc n) [] l h = tt
no_end_take (suc n) (x ∷ xs) l h = (first n xs (λ lt. h 0 lt), no_end_take n xs (omega arith) (λ k lt p q. h (suc k) (omega arith) p q))
  where
    first : (n : ℕ) (xs : List ℕ) → (0 < suc n → x ≡ 42 → get_or xs 0 0 ≡ 47 → ⊥) → x ≡ 42 → StopsAt (λ d. d == 47) (take n xs)
    first zero xs g e = tt
    first (suc n) [] g e = tt
    first (suc n) (y ∷ ys) g e = on (y == 47) refl
      where
        on : (b : Bool) → (y == 47) ≡ b → (y == 47) ≡ false
        on false p = p
        on true p = absurd (g (omega arith) e (grind (arith, nat_tests)))

pub ends_in : (xs : List ℕ) (at a b : ℕ) → 1 < length xs - at → ((k : ℕ) → k < at → get_or xs k 0 ≡ 42 → get_or xs (suc k) 0 ≡ 47 → ⊥)
    → a ≡ get_or xs at a → a ≡ 42 → b ≡ get_or xs (at + 1) b → b ≡ 47 → EndsIn xs at
ends_in xs at a b lt h p e q f =
    let l : at < length xs = omega arith in let m : at + 1 < length xs = omega arith in
    let j : at + 1 + 1 ≡ at + 2 = omega arith in
    let s : drop (at + 1) xs ≡ 47 ∷ drop (at + 2) xs = drop_more xs (at + 1) b m ∙ ap (λ c. c ∷ drop (at + 1 + 1) xs) (sym q ∙ f) ∙ ap (λ n. 47 ∷ drop n xs) j in
    (drop_more xs at a l ∙ ap (λ c. c ∷ drop (at + 1) xs) (sym p ∙ e) ∙ ap (λ y. 42 ∷ y) s, no_end_take at xs (omega arith) h, omega arith)

there : (inside rest : List ℕ) → get_or (inside ++ 42 ∷ 47 ∷ rest) (length inside) 0 ≡ 42
there [] rest = refl
there (c ∷ cs) rest = there cs rest

there_next : (inside rest : List ℕ) → get_or (inside ++ 42 ∷ 47 ∷ rest) (suc (length inside)) 0 ≡ 47
there_next [] rest = refl
there_next (c ∷ cs) rest = there_next cs rest

pub never_ends : (xs : List ℕ) (at : ℕ) → length xs - at ≤ 1 → ((k : ℕ) → k < at → get_or xs k 0 ≡ 42 → get_or xs (suc k) 0 ≡ 47 → ⊥) → NeverEnds xs
never_ends xs at l h inside rest e g =
    let n = ap length e in let m = length-append inside (42 ∷ 47 ∷ rest) in
    h (length inside) (omega (arith, n, m)) (subst (λ y. get_or y (length inside) 0 ≡ 42) e (there inside rest)) (subst (λ y. get_or y (suc (length inside)) 0 ≡ 47) e (there_next inside rest))

-- `/*`
pub no_block : (xs : List ℕ) → (r : List ℕ) × (xs ≡ 47 ∷ 42 ∷ r) → NeverEnds (take (length xs - 2) (drop 2 xs)) → EndsAt xs no_token
unfolding unicode_ident
no_block xs (r, e) never = subst (λ y. EndsAt y no_token) (sym e) (refl, λ d rest h. on d rest h (as_block d (sym (class_heads (47 ∷ 42 ∷ r) d rest h) ∙ refl)))
  where
    on : (d : Element) (rest : List ℕ) → Heads (47 ∷ 42 ∷ r) d rest → (cs : List ℕ) × (d ≡ block_comment cs) → ⊥
    on d rest h (cs, k) =
        let i : Heads (47 ∷ 42 ∷ r) (block_comment cs) rest = subst (λ y. Heads (47 ∷ 42 ∷ r) y rest) k h in
        let s = i.spell in
        let t : (cs ++ 42 ∷ 47 ∷ []) ++ rest ≡ r = cc in
        never cs rest (sym (append_assoc cs (42 ∷ 47 ∷ []) rest) ∙ t ∙ ap (drop 2) (sym e) ∙ sym (take_rest xs 2)) i.is_element

-- a block up to its end
block_heads : (xs : List ℕ) (len : ℕ) → (r : List ℕ) × (xs ≡ 47 ∷ 42 ∷ r) → EndsIn (drop 2 xs) len → Heads xs (block_comment (take len (drop 2 xs))) (drop (len + 4) xs)
block_heads xs len b h =
    let j : 2 + (len + 2) ≡ len + 4 = omega arith in
    let d : drop (len + 2) (drop 2 xs) ≡ drop (len + 4) xs = drop-drop (len + 2) 2 xs ∙ ap (λ n. drop n xs) j in
    record {
      spell = ap (λ y. 47 ∷ 42 ∷ y) (append_assoc (take len (drop 2 xs)) (42 ∷ 47 ∷ []) (drop (len + 4) xs)
          ∙ ap (λ y. take len (drop 2 xs) ++ 42 ∷ 47 ∷ y) (sym d) ∙ ap (λ y. take len (drop 2 xs) ++ y) (sym h.0) ∙ take-append-drop len (drop 2 xs)) ∙ two_first 47 42 xs b;
      is_element = h.1;
      ends = tt;
    }

clean : (xs : List ℕ) → All (λ c. not (is_separator c) ≡ true) xs → All (λ c. is_separator c ≡ false) xs
clean xs h = All-weaker (λ c. not (is_separator c) ≡ true) (λ c. is_separator c ≡ false) (λ c e. opposite (is_separator c) e) xs h
  where
    opposite : (b : Bool) → not b ≡ true → b ≡ false
    opposite true e = cc
    opposite false e = refl

length_taken : (n : ℕ) (ys : List ℕ) → n ≤ length ys → length (take n ys) ≡ n
length_taken n ys l = let a = length-append (take n ys) (drop n ys) in let b = ap length (take-append-drop n ys) in let c = length-drop n ys in omega (arith, a, b, c)

pub block_reads : (xs : List ℕ) (len n : ℕ) (line : Bool) → (r : List ℕ) × (xs ≡ 47 ∷ 42 ∷ r) → EndsIn (take (length xs - 2) (drop 2 xs)) len
    → n ≡ prefix_len (λ c. not (is_separator c)) (take len (take (length xs - 2) (drop 2 xs))) → len ≤ n
    → line ≡ list_any is_line_end (take len (take (length xs - 2) (drop 2 xs))) → Begins xs (len + 4) None line
block_reads xs len n line b h e le f =
    let g : EndsIn (drop 2 xs) len = subst (λ y. EndsIn y len) (take_rest xs 2) h in
    let e' : n ≡ prefix_len (λ c. not (is_separator c)) (take len (drop 2 xs)) = subst (λ y. n ≡ prefix_len (λ c. not (is_separator c)) (take len y)) (take_rest xs 2) e in
    let f' : line ≡ list_any is_line_end (take len (drop 2 xs)) = subst (λ y. line ≡ list_any is_line_end (take len y)) (take_rest xs 2) f in
    let m : length (take len (drop 2 xs)) ≡ len = length_taken len (drop 2 xs) (let w = g.2 in omega (arith, w)) in
    record {
      element = block_comment (take len (drop 2 xs));
      heads = block_heads xs len b g;
      no_separator = clean (take len (drop 2 xs)) (subst (All (λ c. not (is_separator c) ≡ true))
          (take_all (prefix_len (λ c. not (is_separator c)) (take len (drop 2 xs))) (take len (drop 2 xs)) (omega (arith, m, e', le)))
          (run_passes (λ c. not (is_separator c)) (take len (drop 2 xs))));
      makes = refl;
      line_is = sym f';
      size = let a = length-append (take len (drop 2 xs)) (42 ∷ 47 ∷ []) in omega (arith, a, m);
    }

pub block_separator : (xs : List ℕ) (len n : ℕ) → (r : List ℕ) × (xs ≡ 47 ∷ 42 ∷ r) → EndsIn (take (length xs - 2) (drop 2 xs)) len
    → n ≡ prefix_len (λ c. not (is_separator c)) (take len (take (length xs - 2) (drop 2 xs))) → n < len
    → (before : List ℕ) × EndsAt xs (separator before) × (n ≡ length before)
block_separator xs len n b h e lt =
    let g : EndsIn (drop 2 xs) len = subst (λ y. EndsIn y len) (take_rest xs 2) h in
    let ys : List ℕ = take len (drop 2 xs) in
    let e' : n ≡ prefix_len (λ c. not (is_separator c)) ys = subst (λ y. n ≡ prefix_len (λ c. not (is_separator c)) (take len y)) (take_rest xs 2) e in
    let m : length ys ≡ len = length_taken len (drop 2 xs) (let w = g.2 in omega (arith, w)) in
    let l : n < length ys = omega (arith, m, lt) in
    let d : drop n ys ≡ get_or ys n 0 ∷ drop (n + 1) ys = drop_more ys n 0 l in
    let s : take n ys ++ get_or ys n 0 ∷ drop (n + 1) ys ≡ ys = ap (λ y. take n ys ++ y) (sym d) ∙ take-append-drop n ys in
    let k : StopsAt (λ c. not (is_separator c)) (drop n ys) = rw e' (run_stops (λ c. not (is_separator c)) ys) in (
      take n ys,
      (
        get_or ys n 0,
        drop (n + 1) ys,
        drop (len + 4) xs,
        subst (λ y. Heads xs (block_comment y) (drop (len + 4) xs)) (sym s) (block_heads xs len b g),
        separates (get_or ys n 0) (drop (n + 1) ys) (subst (StopsAt (λ c. not (is_separator c))) d k),
        clean (take n ys) (rw e' (run_passes (λ c. not (is_separator c)) ys)),
      ),
      sym (length_taken n ys (omega arith)),
    )
  where
    separates : (c : ℕ) (cs : List ℕ) → StopsAt (λ c. not (is_separator c)) (c ∷ cs) → is_separator c ≡ true
    separates c cs h = on (is_separator c) h
      where
        on : (b : Bool) → not b ≡ false → b ≡ true
        on true h = refl
        on false h = cc
