-- A set of names that were seen.
use Rattle.std.specs.Prelude.{◌≡◌, ℕ, ◌+◌, ◌<◌, Bool, true, false, not, cond, ◌||◌, Option, List, [], ◌∷◌, length, take, drop, get_or, reverse, refl}
use Rattle.std.proofs.Common.{sym, ◌∙◌, ap, subst}
use Rattle.std.specs.List.{list_any}
use Rattle.std.specs.Str.{bytes_eq}
use Rattle.std.specs.Cmp.Lexicographic.{slice_cmp}
use Rattle.std.specs.Ordering.{is_eq, nat_cmp}
use Rattle.std.proofs.lemmas.Map.Text.{is_eq-slice_cmp}
use Rattle.std.proofs.lemmas.List.{take_more, drop_more, reverse-append}
use denote.Ref.{Bor}
use Rattle.host_nodes.specs.declared.form.Declared.{Declared}
use Rattle.host_parser.specs.declared.again.Again.{Again}
use Rattle.host_parser.specs.Repeats.{again_of, lesser, is_declared, repeated}

abbrev pub Knows : List Declared → List (Bor (List ℕ)) → Type 0
Knows bs keys = (q : Bor (List ℕ)) → list_any (λ k. is_eq (slice_cmp nat_cmp q.now k.now)) keys ≡ is_declared q.now bs

pub back_more : {A : Type 0} (xs : List A) (i : ℕ) (d : A) → i < length xs → reverse (take (i + 1) xs) ≡ get_or xs i d ∷ reverse (take i xs)
back_more xs i d h = ap reverse (take_more xs i d h) ∙ reverse-append (take i xs) (get_or xs i d ∷ [])

pub knows_more : (bs : List Declared) (d : Declared) (w : Bor (List ℕ)) (keys more : List (Bor (List ℕ))) → w.now ≡ d.name
    → ((q : Bor (List ℕ)) → list_any (λ k. is_eq (slice_cmp nat_cmp q.now k.now)) more ≡ cond (is_eq (slice_cmp nat_cmp w.now q.now)) true (list_any (λ k. is_eq (slice_cmp nat_cmp q.now k.now)) keys))
    → Knows bs keys → Knows (d ∷ bs) more
knows_more bs d w keys more e u known q = u q ∙ ap (λ z. cond z true (list_any (λ k. is_eq (slice_cmp nat_cmp q.now k.now)) keys)) (is_eq-slice_cmp w.now q.now ∙ ap (λ n. bytes_eq n q.now) e)
    ∙ ap (λ z. cond (bytes_eq d.name q.now) true z) (known q) ∙ either (bytes_eq d.name q.now) (is_declared q.now bs)
  where
    either : (a b : Bool) → cond a true b ≡ (a || b)
    either true b = refl
    either false b = refl

chosen : (h : Bool) (a b : Option Again) → cond (not h) a b ≡ cond h b a
chosen true a b = refl
chosen false a b = refl

pub one_seen : (ds : List Declared) (i : ℕ) (d : Declared) (a b r : Option Again) (is_new had : Bool) → i < length ds → d ≡ get_or ds i d → is_new ≡ not had → had ≡ is_declared d.name (reverse (take i ds))
    → b ≡ cond is_new a (lesser a (again_of d)) → repeated (reverse (take i ds)) a (drop i ds) ≡ r → repeated (reverse (take (i + 1) ds)) b (drop (i + 1) ds) ≡ r
one_seen ds i d a b r is_new had h e n k f l =
    ap (λ z. repeated z b (drop (i + 1) ds)) (back_more ds i d h ∙ ap (λ z. z ∷ reverse (take i ds)) (sym e))
    ∙ ap (λ z. repeated (d ∷ reverse (take i ds)) z (drop (i + 1) ds)) (f ∙ ap (λ z. cond z a (lesser a (again_of d))) n ∙ chosen had a (lesser a (again_of d)) ∙ ap (λ z. cond z (lesser a (again_of d)) a) k)
    ∙ sym (ap (repeated (reverse (take i ds)) a) (drop_more ds i d h ∙ ap (λ z. z ∷ drop (i + 1) ds) (sym e)))
    ∙ l

pub name_seen : (ds : List Declared) (i : ℕ) (d : Declared) (w : Bor (List ℕ)) (keys more : List (Bor (List ℕ))) → i < length ds → d ≡ get_or ds i d → w.now ≡ d.name
    → ((q : Bor (List ℕ)) → list_any (λ k. is_eq (slice_cmp nat_cmp q.now k.now)) more ≡ cond (is_eq (slice_cmp nat_cmp w.now q.now)) true (list_any (λ k. is_eq (slice_cmp nat_cmp q.now k.now)) keys))
    → Knows (reverse (take i ds)) keys → Knows (reverse (take (i + 1) ds)) more
name_seen ds i d w keys more h e f u k = subst (λ z. Knows z more) (sym (back_more ds i d h ∙ ap (λ z. z ∷ reverse (take i ds)) (sym e))) (knows_more (reverse (take i ds)) d w keys more f u k)
