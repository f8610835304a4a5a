-- What a map of names holds after a name is bound, or goes out of scope.
use Rattle.std.specs.Prelude.{◌≡◌, ℕ, zero, suc, ◌+◌, Bool, true, false, cond, Option, Some, List, [], ◌∷◌, ◌++◌, length, reverse, drop, refl}
use Rattle.std.proofs.Common.{sym, ◌∙◌, ap, subst, arith}
use Rattle.std.specs.Str.{bytes_eq}
use Rattle.std.specs.Cmp.Lexicographic.{slice_cmp}
use Rattle.std.specs.Ordering.{is_eq, nat_cmp}
use Rattle.std.specs.Map.{lookup}
use Rattle.std.proofs.lemmas.Slice.Eq.{bytes_eq-Decides}
use Rattle.std.proofs.lemmas.Map.Text.{is_eq-slice_cmp}
use Rattle.std.proofs.lemmas.List.{reverse-append}
use denote.Ref.{Bor}
use Rattle.host_nodes.specs.declared.form.Declared.{Declared}
use Rattle.host_parser.specs.declared.binding.Binding.{Binding}
use Rattle.host_parser.specs.declared.environment.Shadow.{Shadow}
use Rattle.host_parser.specs.Names.{Entry, Environment, entry, found, enter, enter_one}
use Rattle.host_parser.specs.Resolving.{left}
use Rattle.host_parser.specs.Scoping.{IsMap, AreShadows, Holds}
use Rattle.host_parser.specs.declared.environment.Scoped.{Scoped}

abbrev pub look : Bor (List ℕ) → List (Bor (List ℕ) × Binding) → Option Binding
look q m = lookup (λ k. is_eq (slice_cmp nat_cmp q.now k.now)) m

-- one name of the map is changed
abbrev pub Changes : List (Bor (List ℕ) × Binding) → List (Bor (List ℕ) × Binding) → Bor (List ℕ) → Option Binding → Type 0
Changes m n w v = (q : Bor (List ℕ)) → look q n ≡ cond (is_eq (slice_cmp nat_cmp w.now q.now)) v (look q m)

pub map_more : (m n : List (Bor (List ℕ) × Binding)) (w : Bor (List ℕ)) (b : Binding) (name : List ℕ) (es : List Entry) → w.now ≡ name → Changes m n w (Some b) → IsMap m es → IsMap n (entry name b ∷ es)
map_more m n w b name es e u h q = u q ∙ ap (λ z. cond z (Some b) (look q m)) (is_eq-slice_cmp w.now q.now ∙ ap (λ z. bytes_eq z q.now) e) ∙ ap (λ z. cond (bytes_eq name q.now) (Some b) z) (h q)

other : (name n : List ℕ) (b : Binding) (es : List Entry) (c : Bool) → bytes_eq name n ≡ c → (v : Option Binding) → v ≡ found name es → cond c v (cond c (Some b) (found n es)) ≡ found n es
other name n b es true t v e = e ∙ ap (λ z. found z es) ((bytes_eq-Decides name n).0 t)
other name n b es false t v e = refl

pub map_less : (m n : List (Bor (List ℕ) × Binding)) (w : Bor (List ℕ)) (b : Binding) (v : Option Binding) (name : List ℕ) (es : List Entry) → w.now ≡ name → Changes m n w v → v ≡ found name es → IsMap m (entry name b ∷ es) → IsMap n es
map_less m n w b v name es e u f h q = u q ∙ ap (λ z. cond z v (look q m)) (is_eq-slice_cmp w.now q.now ∙ ap (λ z. bytes_eq z q.now) e) ∙ ap (λ z. cond (bytes_eq name q.now) v z) (h q)
    ∙ other name q.now b es (bytes_eq name q.now) refl v f

-- as many shadows as locals
pub shadows_length : (gs es : List Entry) (ss : List Shadow) → AreShadows gs es ss → length ss ≡ length es
shadows_length gs [] [] h = refl
shadows_length gs [] (s ∷ ss) h = absurd h
shadows_length gs (e ∷ es) [] h = absurd h
shadows_length gs (e ∷ es) (s ∷ ss) h = ap suc (shadows_length gs es ss h.2)

pub last_first : {A : Type 0} (xs : List A) (x : A) → reverse (xs ++ x ∷ []) ≡ x ∷ reverse xs
last_first xs x = reverse-append xs (x ∷ [])

pub entered_more : (ds : List Declared) (d : Declared) (e : Environment) → enter (ds ++ d ∷ []) e ≡ enter_one d (enter ds e)
entered_more [] d e = refl
entered_more (x ∷ ds) d e = entered_more ds d (enter_one x e)

-- the shadow of a name that is bound now
pub shadows_more : (gs es : List Entry) (xs ys : List Shadow) (s : Shadow) (e : Entry) → ys ≡ xs ++ s ∷ [] → s.name.now ≡ e.name → s.shadowed ≡ found e.name (es ++ gs) → AreShadows gs es (reverse xs)
    → AreShadows gs (e ∷ es) (reverse ys)
shadows_more gs es xs ys s e h n f k = subst (λ z. AreShadows gs (e ∷ es) z) (sym (ap reverse h ∙ last_first xs s)) (n, f, k)

abbrev pub with_all : Environment → List Entry → Environment
with_all e zs = record { globals = e.globals; locals = zs }

-- as many names go out of scope
drop_one : {A : Type 0} (k : ℕ) (zs : List A) → drop (suc k) zs ≡ drop 1 (drop k zs)
drop_one zero zs = refl
drop_one (suc k) [] = refl
drop_one (suc k) (z ∷ zs) = drop_one k zs

pub left_more : (k : ℕ) (e : Environment) → left (k + 1) e ≡ left 1 (left k e)
left_more k e = ap (λ (zs : List Entry). with_all e zs) (ap (λ i. drop i e.locals) (plus_one k) ∙ drop_one k e.locals)
  where
    plus_one : (k : ℕ) → k + 1 ≡ suc k
    plus_one k = omega arith

-- the innermost name goes out of scope
pub record Uncovered (e : Environment) (x y : Scoped) (s : Shadow) : Type 0 where
  pub popped : x.shadows.items ≡ y.shadows.items ++ s ∷ []
  pub map : (es : List Entry) (b : Binding) → s.shadowed ≡ found s.name.now es → IsMap x.bound.entries (entry s.name.now b ∷ es) → IsMap y.bound.entries es

first_local : (e : Environment) (x y : Scoped) (s : Shadow) → Uncovered e x y s → (ls : List Entry) → IsMap x.bound.entries (ls ++ e.globals) → AreShadows e.globals ls (s ∷ reverse y.shadows.items)
    → Holds (record { globals = e.globals; locals = drop 1 ls }) y
first_local e x y s u [] h k = absurd k
first_local e x y s u (l ∷ ls) h k = record {
  bound = u.map (ls ++ e.globals) l.binding (k.1 ∙ ap (λ n. found n (ls ++ e.globals)) (sym k.0)) (subst (λ n. IsMap x.bound.entries (entry n l.binding ∷ (ls ++ e.globals))) (sym k.0) h);
  shadows = k.2;
}

pub uncovered : (e : Environment) (x y : Scoped) (s : Shadow) → Uncovered e x y s → Holds e x → Holds (left 1 e) y
uncovered e x y s u h = first_local e x y s u e.locals h.bound (subst (λ z. AreShadows e.globals e.locals z) (ap reverse u.popped ∙ last_first y.shadows.items s) h.shadows)

-- nothing is left to go
no_local : (e : Environment) (ls : List Entry) (x : Scoped) → e.locals ≡ ls → AreShadows e.globals ls [] → drop 1 ls ≡ ls
no_local e [] x p h = refl
no_local e (l ∷ ls) x p h = absurd h

pub none_left : (e : Environment) (x : Scoped) → x.shadows.items ≡ [] → Holds e x → Holds (left 1 e) x
none_left e x p h = subst (λ (ls : List Entry). Holds (with_all e ls) x) (sym (no_local e e.locals x refl (subst (λ z. AreShadows e.globals e.locals z) (ap reverse p) h.shadows))) h
