-- Laws of the names of exports.
use Rattle.std.proofs.Common.{◌≡◌, ℕ, ◌+◌, ◌<◌, ◌≤◌, Bool, true, false, not, cond, ◌&&◌, ◌||◌, List, [], ◌∷◌, ◌++◌, length, take, drop, get_or, refl, sym, ◌∙◌, ap}
use Rattle.std.specs.List.{list_any, list_all}
use Rattle.std.specs.Str.{bytes_eq}
use Rattle.std.specs.Cmp.Lexicographic.{slice_cmp}
use Rattle.std.specs.Ordering.{is_eq, nat_cmp}
use Rattle.std.proofs.lemmas.Map.Text.{is_eq-slice_cmp}
use Rattle.std.proofs.lemmas.List.{take_more, drop_more, drop_all}
use denote.Ref.{Bor}
use Rattle.wasm_syntax.specs.declared.module.Export.{Export}
use Rattle.wasm_valid.specs.ModuleRules.{names_differ}

-- whether one of these exports has this name
abbrev pub is_named : List ℕ → List Export → Bool
is_named name seen = list_any (λ (o : Export). bytes_eq o.name name) seen

-- no export has the name of an earlier one, where some were seen before
abbrev pub fresh : List Export → List Export → Bool
fresh seen [] = true
fresh seen (e ∷ es) = not (is_named e.name seen) && fresh (seen ++ e ∷ []) es

abbrev apart : List Export → List Export → Bool
apart seen es = list_all (λ (e : Export). not (is_named e.name seen)) es

abbrev repeats : Export → List Export → Bool
repeats e es = list_any (λ (other : Export). bytes_eq e.name other.name) es

named-append : (name : List ℕ) (seen : List Export) (e : Export) → is_named name (seen ++ e ∷ []) ≡ (is_named name seen || bytes_eq e.name name)
named-append name [] e = or_false (bytes_eq e.name name)
  where
    or_false : (b : Bool) → (b || false) ≡ b
    or_false true = refl
    or_false false = refl
named-append name (x ∷ xs) e = ap (λ b. bytes_eq x.name name || b) (named-append name xs e) ∙ regroup (bytes_eq x.name name) (is_named name xs) (bytes_eq e.name name)
  where
    regroup : (a b c : Bool) → (a || (b || c)) ≡ ((a || b) || c)
    regroup true b c = refl
    regroup false b c = refl

apart-more : (seen : List Export) (e : Export) (es : List Export) → apart (seen ++ e ∷ []) es ≡ (apart seen es && not (repeats e es))
apart-more seen e [] = refl
apart-more seen e (x ∷ es) =
    ap (λ b. not b && apart (seen ++ e ∷ []) es) (named-append x.name seen e)
    ∙ ap (λ b. not (is_named x.name seen || bytes_eq e.name x.name) && b) (apart-more seen e es)
    ∙ regroup (is_named x.name seen) (bytes_eq e.name x.name) (apart seen es) (repeats e es)
  where
    regroup : (a b c r : Bool) → (not (a || b) && (c && not r)) ≡ ((not a && c) && not (b || r))
    regroup true b c r = refl
    regroup false true true r = refl
    regroup false true false r = refl
    regroup false false c r = refl

fresh_is : (seen es : List Export) → fresh seen es ≡ (apart seen es && names_differ es)
fresh_is seen [] = refl
fresh_is seen (e ∷ es) =
    ap (λ b. not (is_named e.name seen) && b) (fresh_is (seen ++ e ∷ []) es ∙ ap (λ b. b && names_differ es) (apart-more seen e es))
    ∙ regroup (not (is_named e.name seen)) (apart seen es) (not (repeats e es)) (names_differ es)
  where
    regroup : (a b c d : Bool) → (a && ((b && c) && d)) ≡ ((a && b) && (c && d))
    regroup true true c d = refl
    regroup true false c d = refl
    regroup false b c d = refl

apart-nil : (es : List Export) → apart [] es ≡ true
apart-nil [] = refl
apart-nil (e ∷ es) = apart-nil es

-- with nothing seen before
pub all_fresh : (es : List Export) → names_differ es ≡ fresh [] es
all_fresh es = sym (fresh_is [] es ∙ ap (λ b. b && names_differ es) (apart-nil es))

-- the next export
pub fresh_next : (es : List Export) (i : ℕ) (d : Export) → i < length es
    → fresh (take i es) (drop i es) ≡ (not (is_named (get_or es i d).name (take i es)) && fresh (take (i + 1) es) (drop (i + 1) es))
fresh_next es i d h =
    ap (fresh (take i es)) (drop_more es i d h)
    ∙ ap (λ seen. not (is_named (get_or es i d).name (take i es)) && fresh seen (drop (i + 1) es)) (sym (take_more es i d h))

pub fresh_end : (es : List Export) (i : ℕ) → length es ≤ i → fresh (take i es) (drop i es) ≡ true
fresh_end es i h = ap (fresh (take i es)) (drop_all i es h)

-- the names of a set are those of these exports
abbrev pub Knows : List Export → List (Bor (List ℕ)) → Type 0
Knows seen keys = (q : Bor (List ℕ)) → list_any (λ k. is_eq (slice_cmp nat_cmp q.now k.now)) keys ≡ is_named q.now seen

pub knows_next : (es : List Export) (i : ℕ) (d : Export) (w : Bor (List ℕ)) (keys more : List (Bor (List ℕ))) → i < length es → w.now ≡ (get_or es i d).name
    → ((q : Bor (List ℕ)) → list_any (λ k. is_eq (slice_cmp nat_cmp q.now k.now)) more ≡ cond (is_eq (slice_cmp nat_cmp w.now q.now)) true (list_any (λ k. is_eq (slice_cmp nat_cmp q.now k.now)) keys))
    → Knows (take i es) keys → Knows (take (i + 1) es) more
knows_next es i d w keys more h e updates known q =
    updates q ∙ ap (λ b. cond b true (list_any (λ k. is_eq (slice_cmp nat_cmp q.now k.now)) keys)) (is_eq-slice_cmp w.now q.now)
    ∙ ap (λ b. cond (bytes_eq w.now q.now) true b) (known q) ∙ ap (λ n. cond (bytes_eq n q.now) true (is_named q.now (take i es))) e
    ∙ either (bytes_eq (get_or es i d).name q.now) (is_named q.now (take i es))
    ∙ sym (named-append q.now (take i es) (get_or es i d)) ∙ ap (is_named q.now) (sym (take_more es i d h))
  where
    either : (a b : Bool) → cond a true b ≡ (b || a)
    either true true = refl
    either true false = refl
    either false true = refl
    either false false = refl

pub name_at : (es : List Export) (i : ℕ) (e : Export) (name : List ℕ) → e ≡ get_or es i e → name ≡ e.name → name ≡ (get_or es i e).name
name_at es i e name f g = g ∙ ap (λ (x : Export). x.name) f

-- the next export has a name that was seen
pub repeated : (es : List Export) (i : ℕ) (e : Export) (name : List ℕ) → i < length es → e ≡ get_or es i e → name ≡ e.name → is_named name (take i es) ≡ true
    → names_differ es ≡ fresh (take i es) (drop i es) → false ≡ names_differ es
repeated es i e name h f g named left =
    sym (left ∙ fresh_next es i e h
    ∙ ap (λ n. not (is_named n (take i es)) && fresh (take (i + 1) es) (drop (i + 1) es)) (sym (name_at es i e name f g))
    ∙ ap (λ b. not b && fresh (take (i + 1) es) (drop (i + 1) es)) named)

-- the next export has a name that wasn't seen
pub goes_on : (es : List Export) (i : ℕ) (e : Export) (name : List ℕ) → i < length es → e ≡ get_or es i e → name ≡ e.name → is_named name (take i es) ≡ false
    → names_differ es ≡ fresh (take i es) (drop i es) → names_differ es ≡ fresh (take (i + 1) es) (drop (i + 1) es)
goes_on es i e name h f g named left =
    left ∙ fresh_next es i e h
    ∙ ap (λ n. not (is_named n (take i es)) && fresh (take (i + 1) es) (drop (i + 1) es)) (sym (name_at es i e name f g))
    ∙ ap (λ b. not b && fresh (take (i + 1) es) (drop (i + 1) es)) named

-- whether a name is new to the set
pub was_there : (is_new had : Bool) → is_new ≡ not had → is_new ≡ false → had ≡ true
was_there is_new true e f = refl
was_there is_new false e f = sym f ∙ e

pub was_new : (is_new had : Bool) → is_new ≡ not had → is_new ≡ true → had ≡ false
was_new is_new true e f = sym f ∙ e
was_new is_new false e f = refl
