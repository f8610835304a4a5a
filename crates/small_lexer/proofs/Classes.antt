-- What the reader of each class of element shows.
use Rattle.std.specs.Prelude.{◌≡◌, ℕ, ◌+◌, ◌-◌, ◌<◌, ◌≤◌, zero, suc, Bool, true, List, [], ◌∷◌, ◌++◌, length, Some, refl, take, drop}
use Rattle.std.specs.List.{prefix_len, slice_range}
use Rattle.std.specs.Str.{IsUtf8, IsCharBoundary}
use Rattle.std.proofs.Common.{sym, ◌∙◌, ap, subst, arith, get_or}
use Rattle.std.proofs.lemmas.List.{append_assoc, append_cancel_left, take-append-drop, drop-drop, drop_more, drop_all, take_rest, length-append, length-drop, get_or-drop}
use Rattle.std.proofs.lemmas.List.Sums.{prefix_len_passes, prefix_len-le-length, prefix_len-drop_yes}
use Rattle.std.proofs.lemmas.List.Folds.{length-prefix_len}
use Rattle.std.proofs.lemmas.Str.{IsCharBoundary-after_ascii}
use Rattle.std.proofs.lemmas.Bool.Decides.{nat_tests}
use Rattle.small_lexer.specs.declared.token.TokenKind.{TokenKind}
use Rattle.small_lexer.specs.declared.token.TokenKind.TheVariants as kinds
use Rattle.small_lexer.specs.declared.token.Mark.{Mark}
use Rattle.small_lexer.specs.declared.token.LexError.{LexError}
use Rattle.small_lexer.specs.declared.token.LexError.TheVariants as errors
use Rattle.small_lexer.specs.Tokens.{is_digit, is_name_start, is_name_part, is_number_part, is_text_part, Element, name, number, text, mark, byte_of, spelling_of, IsIdentifier, IsElement, StopsAt, kind_of_name, value_of}
use Rattle.small_lexer.specs.Steps.{Heads, Reads, NoElement, OnNotYet}
use Rattle.small_lexer.proofs.Runs.{run_of, run_cons, run_passes, run_stops}
use Rattle.small_lexer.proofs.Fronts.{front, fronted, part_from_start, starts_name, starts_number}

-- the bytes from a place on, as the code cuts them
pub part_is : (bytes : List ℕ) (from n : ℕ) (p : ℕ → Bool) → n ≡ prefix_len p (slice_range bytes from (length bytes)) → slice_range bytes from (from + n) ≡ run_of p (drop from bytes)
part_is bytes from n p e =
    let q : n ≡ prefix_len p (drop from bytes) = e ∙ ap (prefix_len p) (take_rest bytes from) in
    let r : (from + n) - from ≡ prefix_len p (drop from bytes) = omega (arith, q) in
    ap (λ k. take k (drop from bytes)) r

pub len_is : (bytes : List ℕ) (from n : ℕ) (p : ℕ → Bool) → n ≡ prefix_len p (slice_range bytes from (length bytes)) → n ≡ prefix_len p (drop from bytes)
len_is bytes from n p e = e ∙ ap (prefix_len p) (take_rest bytes from)

run_split : (bytes : List ℕ) (from n : ℕ) (p : ℕ → Bool) → n ≡ prefix_len p (drop from bytes) → run_of p (drop from bytes) ++ drop (from + n) bytes ≡ drop from bytes
run_split bytes from n p e =
    rw (e, sym (drop-drop (prefix_len p (drop from bytes)) from bytes)) (take-append-drop (prefix_len p (drop from bytes)) (drop from bytes))

run_ends : (bytes : List ℕ) (from n : ℕ) (p : ℕ → Bool) → n ≡ prefix_len p (drop from bytes) → StopsAt p (drop (from + n) bytes)
run_ends bytes from n p e = rw (e, sym (drop-drop (prefix_len p (drop from bytes)) from bytes)) (run_stops p (drop from bytes))

run_within : (bytes : List ℕ) (from n : ℕ) (p : ℕ → Bool) → from ≤ length bytes → n ≡ prefix_len p (drop from bytes) → from + n ≤ length bytes
run_within bytes from n p lt e = let h = prefix_len-le-length p (drop from bytes) in omega (arith, h, length-drop from bytes)

no_run : (p : ℕ → Bool) (bytes : List ℕ) (from : ℕ) → from < length bytes → p (get_or bytes from 0) ≡ true → prefix_len p (drop from bytes) ≡ 0 → ⊥
no_run p bytes from lt h e = let q = prefix_len-drop_yes p bytes from 0 lt h in omega (arith, q, e)

-- a text may be cut behind a run of ASCII bytes that isn't empty
pub cut_after : (p : ℕ → Bool) → ((c : ℕ) → p c ≡ true → c < 128) → (bytes : List ℕ) (from n : ℕ) → IsUtf8 bytes → from < length bytes → p (get_or bytes from 0) ≡ true
    → n ≡ prefix_len p (drop from bytes) → IsCharBoundary bytes (from + n)
cut_after p ascii bytes from zero u lt h e = absurd (no_run p bytes from lt h (sym e))
cut_after p ascii bytes from (suc k) u lt h e =
    let low : k < prefix_len p (drop from bytes) = omega (arith, e) in
    let within = run_within bytes from (suc k) p (omega arith) e in
    let passes : p (get_or bytes (from + k) 0) ≡ true = rw (sym (get_or-drop from bytes k 0)) (prefix_len_passes p (drop from bytes) k 0 low) in
    let there : from + k < length bytes = omega (arith, within) in
    let q : from + suc k ≡ from + k + 1 = omega arith in
    rw q (IsCharBoundary-after_ascii bytes (from + k) u there (ascii (get_or bytes (from + k) 0) passes))

pub part_ascii : (c : ℕ) → is_name_part c ≡ true → c < 128
part_ascii c h = grind (arith, nat_tests)

-- where the one element that may begin can't, none begins
pub no_element : (bytes : List ℕ) (from : ℕ) (e : Element) → front (drop from bytes) ≡ Some e → ((rest : List ℕ) → Heads (drop from bytes) e rest → ⊥) → NoElement bytes from
no_element bytes from e f never d rest h =
    let q : d ≡ e = (let g = fronted (drop from bytes) d rest h in cc) in
    never rest (subst (λ x. Heads (drop from bytes) x rest) q h)

pub name_front : (bytes : List ℕ) (from : ℕ) → from < length bytes → is_name_start (get_or bytes from 0) ≡ true → front (drop from bytes) ≡ Some (name (run_of is_name_part (drop from bytes)))
name_front bytes from lt h = rw (drop_more bytes from 0 lt) (starts_name (get_or bytes from 0) (drop (from + 1) bytes) h)

pub number_front : (bytes : List ℕ) (from : ℕ) → from < length bytes → is_digit (get_or bytes from 0) ≡ true → front (drop from bytes) ≡ Some (number (run_of is_number_part (drop from bytes)))
number_front bytes from lt h = rw (drop_more bytes from 0 lt) (starts_number (get_or bytes from 0) (drop (from + 1) bytes) h)

pub text_front : (bytes : List ℕ) (from : ℕ) → from < length bytes → get_or bytes from 0 ≡ 34 → front (drop from bytes) ≡ Some (text (run_of is_text_part (drop (from + 1) bytes)))
text_front bytes from lt h = rw (drop_more bytes from 0 lt, h) refl

-- a name
pub name_identifier : (bytes : List ℕ) (from : ℕ) → from < length bytes → is_name_start (get_or bytes from 0) ≡ true → IsIdentifier (run_of is_name_part (drop from bytes))
name_identifier bytes from lt h =
    rw (drop_more bytes from 0 lt, run_cons is_name_part (get_or bytes from 0) (drop (from + 1) bytes) true (part_from_start (get_or bytes from 0) h)) (h, run_passes is_name_part (drop (from + 1) bytes))

pub name_reads : (bytes : List ℕ) (from n : ℕ) (kind : TokenKind) → from < length bytes → n ≡ prefix_len is_name_part (drop from bytes)
    → kind ≡ kind_of_name (run_of is_name_part (drop from bytes)) → IsElement (name (run_of is_name_part (drop from bytes))) → Reads bytes from kind (from + n)
name_reads bytes from n kind lt e k h = record {
  element = name (run_of is_name_part (drop from bytes));
  heads = record { spell = run_split bytes from n is_name_part e; is_element = h; ends = run_ends bytes from n is_name_part e };
  makes = ap (λ x. Some x) (sym k);
  size = let q = length-prefix_len is_name_part (drop from bytes) in omega (arith, q, e);
  within = run_within bytes from n is_name_part (omega arith) e;
}

pub no_name : (bytes : List ℕ) (from : ℕ) → from < length bytes → is_name_start (get_or bytes from 0) ≡ true
    → (IsElement (name (run_of is_name_part (drop from bytes))) → ⊥) → NoElement bytes from
no_name bytes from lt s h = no_element bytes from (name (run_of is_name_part (drop from bytes))) (name_front bytes from lt s) (λ rest g. h g.is_element)

-- a number
pub number_reads : (bytes : List ℕ) (from n v : ℕ) → from < length bytes → n ≡ prefix_len is_number_part (drop from bytes)
    → v ≡ value_of (run_of is_number_part (drop from bytes)) → IsElement (number (run_of is_number_part (drop from bytes))) → Reads bytes from (kinds.Number v) (from + n)
number_reads bytes from n v lt e k h = record {
  element = number (run_of is_number_part (drop from bytes));
  heads = record { spell = run_split bytes from n is_number_part e; is_element = h; ends = run_ends bytes from n is_number_part e };
  makes = ap (λ x. Some (kinds.Number x)) (sym k);
  size = let q = length-prefix_len is_number_part (drop from bytes) in omega (arith, q, e);
  within = run_within bytes from n is_number_part (omega arith) e;
}

pub no_number : (bytes : List ℕ) (from : ℕ) → from < length bytes → is_digit (get_or bytes from 0) ≡ true
    → (IsElement (number (run_of is_number_part (drop from bytes))) → ⊥) → NoElement bytes from
no_number bytes from lt s h = no_element bytes from (number (run_of is_number_part (drop from bytes))) (number_front bytes from lt s) (λ rest g. h g.is_element)

-- a text
quoted : (s rest : List ℕ) → spelling_of (text s) ++ rest ≡ 34 ∷ (s ++ 34 ∷ rest)
quoted s rest = ap (λ xs. 34 ∷ xs) (append_assoc s (34 ∷ []) rest)

pub text_reads : (bytes : List ℕ) (from n : ℕ) (inside : List ℕ) → from < length bytes → get_or bytes from 0 ≡ 34 → n ≡ prefix_len is_text_part (drop (from + 1) bytes)
    → from + 1 + n < length bytes → get_or bytes (from + 1 + n) 0 ≡ 34 → inside ≡ run_of is_text_part (drop (from + 1) bytes) → Reads bytes from (kinds.Text inside) (from + 1 + n + 1)
text_reads bytes from n inside lt q e there close is = record {
  element = text inside;
  heads = record {
    spell = quoted inside (drop (from + 1 + n + 1) bytes)
        ∙ (let r : drop (from + 1 + n) bytes ≡ 34 ∷ drop (from + 1 + n + 1) bytes = drop_more bytes (from + 1 + n) 0 there ∙ ap (λ x. x ∷ drop (from + 1 + n + 1) bytes) close in
        rw (sym r, is, run_split bytes (from + 1) n is_text_part e, sym q) (sym (drop_more bytes from 0 lt)));
    is_element = rw is (run_passes is_text_part (drop (from + 1) bytes));
    ends = tt;
  };
  makes = refl;
  size = let l = length-append inside (34 ∷ []) in let k : length inside ≡ n = ap length is ∙ length-prefix_len is_text_part (drop (from + 1) bytes) ∙ sym e in omega (arith, l, k);
  within = omega arith;
}

-- what follows a text's inside begins with the quote
closed : (bytes : List ℕ) (from n : ℕ) (rest : List ℕ) → from < length bytes → get_or bytes from 0 ≡ 34 → n ≡ prefix_len is_text_part (drop (from + 1) bytes)
    → Heads (drop from bytes) (text (run_of is_text_part (drop (from + 1) bytes))) rest → 34 ∷ rest ≡ drop (from + 1 + n) bytes
closed bytes from n rest lt q e h =
    let s : List ℕ = run_of is_text_part (drop (from + 1) bytes) in
    let left : 34 ∷ (s ++ 34 ∷ rest) ≡ get_or bytes from 0 ∷ drop (from + 1) bytes = sym (quoted s rest) ∙ h.spell ∙ drop_more bytes from 0 lt in
    let tails : s ++ 34 ∷ rest ≡ drop (from + 1) bytes = cc in
    append_cancel_left s (34 ∷ rest) (drop (from + 1 + n) bytes) (tails ∙ sym (run_split bytes (from + 1) n is_text_part e))

pub text_open : (bytes : List ℕ) (from n : ℕ) → from < length bytes → get_or bytes from 0 ≡ 34 → n ≡ prefix_len is_text_part (drop (from + 1) bytes)
    → length bytes ≤ from + 1 + n → NoElement bytes from
text_open bytes from n lt q e past = no_element bytes from (text (run_of is_text_part (drop (from + 1) bytes))) (text_front bytes from lt q)
    (λ rest h. let g : 34 ∷ rest ≡ [] = closed bytes from n rest lt q e h ∙ drop_all (from + 1 + n) bytes past in cc)

pub text_bad : (bytes : List ℕ) (from n : ℕ) → from < length bytes → get_or bytes from 0 ≡ 34 → n ≡ prefix_len is_text_part (drop (from + 1) bytes)
    → from + 1 + n < length bytes → (get_or bytes (from + 1 + n) 0 ≡ 34 → ⊥) → NoElement bytes from
text_bad bytes from n lt q e there no_quote = no_element bytes from (text (run_of is_text_part (drop (from + 1) bytes))) (text_front bytes from lt q)
    (λ rest h. let g : 34 ∷ rest ≡ get_or bytes (from + 1 + n) 0 ∷ drop (from + 1 + n + 1) bytes = closed bytes from n rest lt q e h ∙ drop_more bytes (from + 1 + n) 0 there in
    let k : get_or bytes (from + 1 + n) 0 ≡ 34 = cc in no_quote k)

-- a mark
pub mark_reads : (bytes : List ℕ) (from : ℕ) (m : Mark) → from < length bytes → byte_of m ≡ get_or bytes from 0 → Reads bytes from (kinds.Mark m) (from + 1)
mark_reads bytes from m lt e = record {
  element = mark m;
  heads = record { spell = ap (λ x. x ∷ drop (from + 1) bytes) e ∙ sym (drop_more bytes from 0 lt); is_element = tt; ends = tt };
  makes = refl;
  size = refl;
  within = omega arith;
}

-- what an error of the text says may be weaker
pub on_not_yet : (e : LexError) (P Q : Type 0) → (P → Q) → OnNotYet e P → OnNotYet e Q
on_not_yet errors.NotYet P Q f h = f h
on_not_yet errors.NoMemory P Q f h = tt
