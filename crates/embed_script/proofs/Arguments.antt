-- The arguments of a call, one after the other.
use Rattle.std.proofs.Common.{◌≡◌, ℕ, zero, suc, ◌+◌, ◌-◌, ◌<◌, List, [], ◌∷◌, ◌++◌, Option, Some, None, Result, Ok, Err, IfSome, slice_get, length, drop, refl, sym, ap, ◌∙◌, subst, append_assoc, arith}
use Rattle.embed_base.specs.declared.outside.OutsideKind.{OutsideKind}
use Rattle.embed_script.specs.declared.value.Value.{Value}
use Rattle.embed_script.specs.declared.stop.Stop.{Stop}
use Rattle.embed_script.specs.Ends.{End, and_then, at_place}
use Rattle.embed_script.specs.Functions.{word_of, words_of}
use Rattle.embed_script.specs.Stops.{end_of, Ends}
use Rattle.embed_script.specs.Words.{argument_of}

-- words before those of an answer
abbrev pub after_words : List ℕ → Result (List ℕ) End → Result (List ℕ) End
after_words front (Ok ws) = Ok (front ++ ws)
after_words front (Err e) = Err e

-- the words of values from an index on
words_from : (vs : List Value) (i n : ℕ) → words_of (suc n) (drop i vs) ≡ and_then (argument_of (slice_get vs i)) (λ w. and_then (words_of n (drop (suc i) vs)) (λ ws. Ok (w ∷ ws)))
words_from [] zero n = refl
words_from [] (suc i) n = refl
words_from (v ∷ vs) zero n = refl
words_from (v ∷ vs) (suc i) n = words_from vs i n

words_next : (vs : List Value) (i n : ℕ) → words_of (suc n) (drop i vs) ≡ and_then (argument_of (slice_get vs i)) (λ w. and_then (words_of n (drop (i + 1) vs)) (λ ws. Ok (w ∷ ws)))
words_next vs i n =
    let next : suc i ≡ i + 1 = omega arith in
    subst (λ j. words_of (suc n) (drop i vs) ≡ and_then (argument_of (slice_get vs i)) (λ w. and_then (words_of n (drop j vs)) (λ ws. Ok (w ∷ ws)))) next (words_from vs i n)

one_word : (place : ℕ) (front : List ℕ) (w : ℕ) (r : Result (List ℕ) OutsideKind) → after_words front (at_place place (and_then r (λ ws. Ok (w ∷ ws)))) ≡ after_words (front ++ w ∷ []) (at_place place r)
one_word place front w (Ok ws) = ap (λ xs. Ok xs) (sym (append_assoc front (w ∷ []) ws))
one_word place front w (Err e) = refl

word_first : (place : ℕ) (front : List ℕ) (w : ℕ) (a : Result ℕ OutsideKind) (r : Result (List ℕ) OutsideKind) → at_place place a ≡ Ok w
    → after_words front (at_place place (and_then a (λ x. and_then r (λ ws. Ok (x ∷ ws))))) ≡ after_words (front ++ w ∷ []) (at_place place r)
word_first place front w (Ok x) r is = let same : x ≡ w = cc in ap (λ y. after_words front (at_place place (and_then r (λ ws. Ok (y ∷ ws))))) same ∙ one_word place front w r
word_first place front w (Err e) r is = cc

end_first : (place : ℕ) (front : List ℕ) (o : Option End) (a : Result ℕ OutsideKind) (f : ℕ → Result (List ℕ) OutsideKind) → IfSome o (λ e. at_place place a ≡ Err e) → IfSome o (λ e. after_words front (at_place place (and_then a f)) ≡ Err e)
end_first place front None a f h = tt
end_first place front (Some e) (Ok x) f h = cc
end_first place front (Some e) (Err k) f h = let same : at_place {A = ℕ} place (Err k) ≡ Err e = h in cc

-- the next argument
pub next_word : (place : ℕ) (answer : Result (List ℕ) End) (vs : List Value) (count i : ℕ) (front more : List ℕ) (w : ℕ) → i < count → answer ≡ after_words front (at_place place (words_of (count - i) (drop i vs)))
    → at_place place (argument_of (slice_get vs i)) ≡ Ok w → more ≡ front ++ w ∷ [] → answer ≡ after_words more (at_place place (words_of (count - (i + 1)) (drop (i + 1) vs)))
next_word place answer vs count i front more w within gives is grown =
    let one : count - i ≡ suc (count - (i + 1)) = omega (arith, within) in
    gives ∙ ap (λ n. after_words front (at_place place (words_of n (drop i vs)))) one ∙ ap (λ r. after_words front (at_place place r)) (words_next vs i (count - (i + 1)))
    ∙ word_first place front w (argument_of (slice_get vs i)) (words_of (count - (i + 1)) (drop (i + 1) vs)) is
    ∙ ap (λ xs. after_words xs (at_place place (words_of (count - (i + 1)) (drop (i + 1) vs)))) (sym grown)

-- its end is that of all
pub end_of_words : (place : ℕ) (answer : Result (List ℕ) End) (vs : List Value) (count i : ℕ) (front : List ℕ) (stop : Stop) → i < count → answer ≡ after_words front (at_place place (words_of (count - i) (drop i vs)))
    → Ends stop (at_place place (argument_of (slice_get vs i))) → Ends stop answer
end_of_words place answer vs count i front stop within gives h =
    let one : count - i ≡ suc (count - (i + 1)) = omega (arith, within) in
    let same = gives ∙ ap (λ n. after_words front (at_place place (words_of n (drop i vs)))) one ∙ ap (λ r. after_words front (at_place place r)) (words_next vs i (count - (i + 1))) in
    ended_by place (end_of stop) answer front (argument_of (slice_get vs i)) (λ w. and_then (words_of (count - (i + 1)) (drop (i + 1) vs)) (λ ws. Ok (w ∷ ws))) same h
  where
    ended_by : (place : ℕ) (o : Option End) (answer : Result (List ℕ) End) (front : List ℕ) (a : Result ℕ OutsideKind) (f : ℕ → Result (List ℕ) OutsideKind) → answer ≡ after_words front (at_place place (and_then a f))
        → IfSome o (λ e. at_place place a ≡ Err e) → IfSome o (λ e. answer ≡ Err e)
    ended_by place None answer front a f same h = tt
    ended_by place (Some e) answer front a f same h = same ∙ end_first place front (Some e) a f h

count_one : (r : Result (List ℕ) OutsideKind) (w n : ℕ) (ws : List ℕ) → ((xs : List ℕ) → r ≡ Ok xs → length xs ≡ n) → and_then r (λ xs. Ok (w ∷ xs)) ≡ Ok ws → length ws ≡ suc n
count_one (Ok xs) w n ws h is = let same : (w ∷ xs) ≡ ws = cc in ap length (sym same) ∙ ap suc (h xs refl)
count_one (Err e) w n ws h is = cc

count_first : (a : Result ℕ OutsideKind) (r : Result (List ℕ) OutsideKind) (n : ℕ) (ws : List ℕ) → ((xs : List ℕ) → r ≡ Ok xs → length xs ≡ n) → and_then a (λ w. and_then r (λ xs. Ok (w ∷ xs))) ≡ Ok ws → length ws ≡ suc n
count_first (Ok w) r n ws h is = count_one r w n ws h is
count_first (Err e) r n ws h is = cc

-- there are as many words as parameters
words_count : (n : ℕ) (vs : List Value) (ws : List ℕ) → words_of n vs ≡ Ok ws → length ws ≡ n
words_count zero vs ws is = let same : [] ≡ ws = cc in ap length (sym same)
words_count (suc n) [] ws is = count_one (words_of n []) 0 n ws (words_count n []) is
words_count (suc n) (v ∷ vs) ws is = count_first (word_of v) (words_of n vs) n ws (words_count n vs) is

placed : {A : Type 0} → (place : ℕ) (r : Result A OutsideKind) (x : A) → at_place place r ≡ Ok x → r ≡ Ok x
placed place (Ok y) x is = let same : y ≡ x = cc in ap (λ z. Ok z) same
placed place (Err e) x is = cc

pub placed_count : (place n : ℕ) (vs : List Value) (ws : List ℕ) → at_place place (words_of n vs) ≡ Ok ws → length ws ≡ n
placed_count place n vs ws is = words_count n vs ws (placed place (words_of n vs) ws is)
