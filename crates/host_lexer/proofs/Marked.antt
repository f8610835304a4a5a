-- What the reader of marks shows.
use Rattle.std.specs.Prelude.{◌≡◌, ℕ, ◌<◌, Bool, true, false, not, ◌||◌, ◌==◌, List, [], ◌∷◌, ◌++◌, length, drop, Some, None, refl}
use Rattle.std.specs.Char.{is_digit}
use Rattle.std.proofs.Common.{sym, ◌∙◌, ap, subst, arith, get_or}
use Rattle.std.proofs.lemmas.List.{drop_at}
use Rattle.unicode_ident.proofs.Computing.{unicode_ident}
use Rattle.host_lexer.specs.declared.token.Mark.{Mark}
use Rattle.host_lexer.specs.declared.token.Mark.TheVariants as marks
use Rattle.host_lexer.specs.declared.token.TokenKind.TheVariants as kinds
use Rattle.host_lexer.specs.Characters.{StopsAt}
use Rattle.host_lexer.specs.Spellings.{mark_chars}
use Rattle.host_lexer.specs.Steps.{Begins, IsSpelt, mark_front, line_commented, block_commented, marked, class_of}
use Rattle.host_lexer.specs.Tokens.{Element, mark, Heads, EndsAt, no_token, BeginsNoComment}
use Rattle.host_lexer.proofs.Classes.{class_at, digit_class}
use Rattle.host_lexer.proofs.Numbered.{at_default}
use Rattle.host_lexer.proofs.Same.{class_heads, as_mark}
use Rattle.host_lexer.proofs.Spelt.{mark_at, goes_on, mark_at_is, longest_stops, is_longest, found_mark}

slash : (rest : List ℕ) → class_at (47 ∷ rest) ≡ marked → StopsAt (λ c. (c == 47) || (c == 42)) rest
unfolding unicode_ident
slash [] k = tt
slash (d ∷ rest) k = on (d == 47) (d == 42) refl refl
  where
    on : (a b : Bool) → (d == 47) ≡ a → (d == 42) ≡ b → ((d == 47) || (d == 42)) ≡ false
    on false false p q = rw (p, q) refl
    on true b p q = let z : class_of 47 d ≡ line_commented = rw p refl in absurd cc
    on false true p q = let z : class_of 47 d ≡ block_commented = rw (p, q) refl in absurd cc

no_comment : (m : Mark) (rest : List ℕ) → class_at (mark_chars m ++ rest) ≡ marked → BeginsNoComment m rest
no_comment marks.Slash rest k = slash rest k
no_comment _ rest k = tt

pub mark_reads : (xs : List ℕ) (m : Mark) (n : ℕ) → 0 < length xs → class_at xs ≡ marked → IsSpelt m (get_or xs 0 0) (get_or xs 1 0) (get_or xs 2 0)
    → n ≡ length (mark_chars m) → Begins xs n (Some (kinds.Mark m)) false
mark_reads xs m n lt k h s = on (found_mark m xs lt h)
  where
    on : (rest : List ℕ) × (mark_chars m ++ rest ≡ xs) × (goes_on m rest ≡ false) → Begins xs n (Some (kinds.Mark m)) false
    on (rest, e, g) =
        let left : drop n xs ≡ rest = ap (drop n) (sym e) ∙ drop_at (mark_chars m) rest n (sym s) in
        record {
          element = mark m;
          heads = record {
            spell = ap (λ r. mark_chars m ++ r) left ∙ e;
            is_element = tt;
            ends = rw left (is_longest m rest g, no_comment m rest (subst (λ x. class_at x ≡ marked) (sym e) k));
          };
          no_separator = tt;
          makes = refl;
          line_is = refl;
          size = s;
        }

marked_no_digit : (c d : ℕ) → class_of c d ≡ marked → not (is_digit c 10) ≡ true
marked_no_digit c d k = on (is_digit c 10) refl
  where
    on : (b : Bool) → is_digit c 10 ≡ b → not (is_digit c 10) ≡ true
    on false e = rw e refl
    on true e = let z = digit_class c d e in absurd cc

pub no_mark : (xs : List ℕ) → 0 < length xs → class_at xs ≡ marked → None ≡ mark_at xs → EndsAt xs no_token
no_mark [] lt k h = absurd (omega arith)
no_mark (c ∷ cs) lt k h = (marked_no_digit c (get_or cs 0 0) k, λ e rest g. never e rest g (as_mark e (sym (class_heads (c ∷ cs) e rest g) ∙ k)))
  where
    never : (e : Element) (rest : List ℕ) → Heads (c ∷ cs) e rest → (m : Mark) × (e ≡ mark m) → ⊥
    never e rest g (m, q) =
        let f : Heads (c ∷ cs) (mark m) rest = subst (λ x. Heads (c ∷ cs) x rest) q g in
        let a : mark_at (c ∷ cs) ≡ Some m = subst (λ x. mark_at x ≡ Some m) f.spell (mark_at_is m rest (longest_stops m rest f.ends.0)) in cc

-- the same over the characters that the code has read
pub mark_reads_at : (xs : List ℕ) (m : Mark) (n a b c : ℕ) → 0 < length xs → class_at xs ≡ marked → a ≡ get_or xs 0 a → b ≡ get_or xs 1 0 → c ≡ get_or xs 2 0 → IsSpelt m a b c
    → n ≡ length (mark_chars m) → Begins xs n (Some (kinds.Mark m)) false
mark_reads_at xs m n a b c lt k p q r h s =
    let p' : a ≡ get_or xs 0 0 = p ∙ at_default xs 0 a 0 lt in
    mark_reads xs m n lt k (subst (λ y. IsSpelt m y (get_or xs 1 0) (get_or xs 2 0)) p' (subst (λ y. IsSpelt m a y (get_or xs 2 0)) q (subst (λ y. IsSpelt m a b y) r h))) s

pub no_mark_at : (xs : List ℕ) (a b c : ℕ) → 0 < length xs → class_at xs ≡ marked → a ≡ get_or xs 0 a → b ≡ get_or xs 1 0 → c ≡ get_or xs 2 0 → None ≡ mark_front a b c → EndsAt xs no_token
no_mark_at xs a b c lt k p q r h =
    let p' : a ≡ get_or xs 0 0 = p ∙ at_default xs 0 a 0 lt in
    no_mark xs lt k (h ∙ ap (λ y. mark_front y b c) p' ∙ ap (λ y. mark_front (get_or xs 0 0) y c) q ∙ ap (λ y. mark_front (get_or xs 0 0) (get_or xs 1 0) y) r)
