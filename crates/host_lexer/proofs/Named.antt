-- What the readers of names, numbers and single characters show, and the sizes of characters in bytes.
use Rattle.std.specs.Prelude.{◌≡◌, ℕ, ◌+◌, ◌<◌, ◌≤◌, true, false, List, [], ◌∷◌, ◌++◌, length, take, drop, Some, None, encode_utf8, encode_utf8_all, refl}
use Rattle.std.specs.Char.{is_digit}
use Rattle.std.specs.List.{prefix_len}
use Rattle.std.proofs.Common.{sym, ◌∙◌, ap, subst, arith, get_or}
use Rattle.std.proofs.lemmas.List.{append-nil, take-append-drop, take_more, length-append}
use Rattle.std.proofs.lemmas.List.Folds.{length-prefix_len}
use Rattle.std.proofs.lemmas.Str.{encodes-append, encodes_same}
use Rattle.host_lexer.specs.declared.token.Word.{Word}
use Rattle.host_lexer.specs.declared.token.TokenKind.{TokenKind}
use Rattle.host_lexer.specs.declared.token.TokenKind.TheVariants as kinds
use Rattle.host_lexer.specs.Characters.{is_space, is_line_end, is_name_start, is_name_part, is_number_part, HasFirst}
use Rattle.host_lexer.specs.Spellings.{word_chars}
use Rattle.host_lexer.specs.Steps.{Begins, HasNumber, NoNumber, Numeric, whole, big, element_of, numbered}
use Rattle.host_lexer.specs.Tokens.{Element, space, line_end, name, word, number, big_int, chars_of, IsElement, IsIdentifier, Heads, EndsAt, no_number, size_of, kind_of}
use Rattle.host_lexer.proofs.Classes.{class_is, digit_class}
use Rattle.host_lexer.proofs.Runs.{run_of, run_is, run_cons, run_passes, run_stops}
use Rattle.host_lexer.proofs.Same.{class_heads, part_from_start, numeral_parts, big_parts, digit_part}
use Rattle.host_lexer.proofs.Spelt.{word_bytes}

-- names
run_identifier : (xs : List ℕ) → HasFirst is_name_start xs → IsIdentifier (run_of is_name_part xs)
run_identifier [] h = absurd h
run_identifier (c ∷ cs) h = rw (run_cons is_name_part c cs true (part_from_start c h)) (h, run_passes is_name_part cs)

pub name_reads : (xs : List ℕ) (n : ℕ) → HasFirst is_name_start xs → n ≡ prefix_len is_name_part xs → ((w : Word) → ¬ (word_chars w ≡ encode_utf8_all (take n xs)))
    → Begins xs n (Some (kinds.Name (encode_utf8_all (take n xs)))) false
name_reads xs n h e none = record {
  element = name (take n xs);
  heads = record {
    spell = take-append-drop n xs;
    is_element = (rw e (run_identifier xs h), λ w q. none w (sym (word_bytes w) ∙ ap encode_utf8_all q));
    ends = rw e (run_stops is_name_part xs);
  };
  no_separator = tt;
  makes = refl;
  line_is = refl;
  size = e ∙ sym (length-prefix_len is_name_part xs) ∙ ap (λ m. length (take m xs)) (sym e);
}

pub word_reads : (xs : List ℕ) (n : ℕ) (w : Word) → n ≡ prefix_len is_name_part xs → word_chars w ≡ encode_utf8_all (take n xs) → Begins xs n (Some (kinds.Word w)) false
word_reads xs n w e q =
    let k : word_chars w ≡ take n xs = encodes_same (word_chars w) (take n xs) (word_bytes w ∙ q) in record {
      element = word w;
      heads = record { spell = ap (λ y. y ++ drop n xs) k ∙ take-append-drop n xs; is_element = tt; ends = rw e (run_stops is_name_part xs) };
      no_separator = tt;
      makes = refl;
      line_is = refl;
      size = e ∙ sym (length-prefix_len is_name_part xs) ∙ ap (λ m. length (take m xs)) (sym e) ∙ ap length (sym k);
    }

-- numbers
pub number_reads : (xs : List ℕ) (n : ℕ) (kind : TokenKind) → n ≡ prefix_len is_number_part xs → HasNumber (take n xs) kind → Begins xs n (Some kind) false
number_reads xs n kind e h = on h.numeric h.spell h.is_element h.makes
  where
    size : length (take n xs) ≡ n
    size = ap (λ m. length (take m xs)) e ∙ length-prefix_len is_number_part xs ∙ sym e

    on : (m : Numeric) → chars_of (element_of m) ≡ take n xs → IsElement (element_of m) → kind_of (element_of m) ≡ Some kind → Begins xs n (Some kind) false
    on (whole m) s i k = record {
      element = number m;
      heads = record { spell = ap (λ y. y ++ drop n xs) s ∙ take-append-drop n xs; is_element = i; ends = rw e (run_stops is_number_part xs) };
      no_separator = tt;
      makes = k;
      line_is = refl;
      size = sym size ∙ ap length (sym s);
    }
    on (big m) s i k = record {
      element = big_int m;
      heads = record { spell = ap (λ y. y ++ drop n xs) s ∙ take-append-drop n xs; is_element = i; ends = rw e (run_stops is_number_part xs) };
      no_separator = tt;
      makes = k;
      line_is = refl;
      size = sym size ∙ ap length (sym s);
    }

as_number : (e : Element) → class_is e ≡ numbered → (m : Numeric) × (e ≡ element_of m)
as_number (number m) k = (whole m, refl)
as_number (big_int m) k = (big m, refl)
as_number _ k = absurd cc

pub no_number_begins : (xs : List ℕ) (n : ℕ) → HasFirst (λ c. is_digit c 10) xs → n ≡ prefix_len is_number_part xs → NoNumber (take n xs) → EndsAt xs no_number
no_number_begins [] n h e never = absurd h
no_number_begins (c ∷ cs) n h e never = (h, λ d rest g. on d rest g (as_number d (sym (class_heads (c ∷ cs) d rest g) ∙ digit_class c (get_or cs 0 0) h)))
  where
    on : (d : Element) (rest : List ℕ) → Heads (c ∷ cs) d rest → (m : Numeric) × (d ≡ element_of m) → ⊥
    on d rest g (whole m, k) =
        let i : Heads (c ∷ cs) (number m) rest = subst (λ y. Heads (c ∷ cs) y rest) k g in
        never (whole m) (sym (run_is is_number_part (chars_of (number m)) rest (numeral_parts m i.is_element.0) i.ends) ∙ ap (run_of is_number_part) i.spell ∙ ap (λ j. take j (c ∷ cs)) (sym e)) i.is_element
    on d rest g (big m, k) =
        let i : Heads (c ∷ cs) (big_int m) rest = subst (λ y. Heads (c ∷ cs) y rest) k g in
        never (big m) (sym (run_is is_number_part (chars_of (big_int m)) rest (big_parts m i.is_element.0) i.ends) ∙ ap (run_of is_number_part) i.spell ∙ ap (λ j. take j (c ∷ cs)) (sym e)) i.is_element

pub run_there : (xs : List ℕ) (n : ℕ) → HasFirst (λ c. is_digit c 10) xs → n ≡ prefix_len is_number_part xs → 0 < length (take n xs)
run_there [] n h e = absurd h
run_there (c ∷ cs) n h e = let q = ap length (run_cons is_number_part c cs true (digit_part c h)) in rw e (omega (arith, q))

-- single characters
pub space_reads : (xs : List ℕ) (c : ℕ) → 0 < length xs → c ≡ get_or xs 0 c → is_space c ≡ true → Begins xs 1 None false
space_reads [] c lt g h = absurd (omega arith)
space_reads (x ∷ xs) c lt g h = record {
  element = space x;
  heads = record { spell = refl; is_element = subst (λ y. is_space y ≡ true) g h; ends = tt };
  no_separator = tt;
  makes = refl;
  line_is = refl;
  size = refl;
}

pub line_end_reads : (xs : List ℕ) (c : ℕ) → 0 < length xs → c ≡ get_or xs 0 c → is_line_end c ≡ true → Begins xs 1 None true
line_end_reads [] c lt g h = absurd (omega arith)
line_end_reads (x ∷ xs) c lt g h = record {
  element = line_end x;
  heads = record { spell = refl; is_element = subst (λ y. is_line_end y ≡ true) g h; ends = tt };
  no_separator = tt;
  makes = refl;
  line_is = refl;
  size = refl;
}

-- bytes
pub size_append : (xs ys : List ℕ) → size_of (xs ++ ys) ≡ size_of xs + size_of ys
size_append xs ys = ap length (encodes-append xs ys) ∙ length-append (encode_utf8_all xs) (encode_utf8_all ys)

pub bytes_more : (xs : List ℕ) (i x : ℕ) → i < length xs → x ≡ get_or xs i x → encode_utf8_all (take (i + 1) xs) ≡ encode_utf8_all (take i xs) ++ encode_utf8 x
bytes_more xs i x lt g = ap encode_utf8_all (take_more xs i x lt ∙ ap (λ c. take i xs ++ c ∷ []) (sym g)) ∙ encodes-append (take i xs) (x ∷ []) ∙ ap (λ y. encode_utf8_all (take i xs) ++ y) (append-nil (encode_utf8 x))

pub size_more : (xs : List ℕ) (i x : ℕ) → i < length xs → x ≡ get_or xs i x → size_of (take (i + 1) xs) ≡ size_of (take i xs) + length (encode_utf8 x)
size_more xs i x lt g = ap length (bytes_more xs i x lt g) ∙ length-append (encode_utf8_all (take i xs)) (encode_utf8 x)

pub size_front : (xs : List ℕ) (i : ℕ) → size_of (take i xs) ≤ size_of xs
size_front xs i = let p = size_append (take i xs) (drop i xs) in let q = ap size_of (take-append-drop i xs) in omega (arith, p, q)
