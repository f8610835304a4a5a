-- What is found repeats a name of its scope, and nothing that does stands before it.
use Rattle.std.specs.Prelude.{◌≡◌, ℕ, ◌≤◌, ◌<◌, Bool, true, false, cond, nat_lt, ◌||◌, Option, Some, None, List, [], ◌∷◌, ◌++◌, refl}
use Rattle.std.specs.Str.{bytes_eq}
use Rattle.std.proofs.Common.{sym, ◌∙◌, ap, subst, arith, ◌⊎◌, inl, inr}
use Rattle.std.proofs.lemmas.Bool.Decides.{nat_tests}
use Rattle.std.proofs.lemmas.Slice.Eq.{bytes_eq-Decides}
use Rattle.std.proofs.lemmas.List.{append_assoc}
use Rattle.host_grammar.specs.Derivations.{Named}
use Rattle.host_grammar.specs.Scopes.{IsAgain}
use Rattle.host_nodes.specs.declared.form.Declared.{Declared}
use Rattle.host_nodes.specs.declared.form.Mention.{Mention}
use Rattle.host_nodes.specs.declared.form.Mention.TheVariants as mentions
use Rattle.host_parser.specs.declared.again.Again.{Again}
use Rattle.host_parser.specs.Repeats.{again_of, lesser, is_declared, repeated, repeated_in}

-- a declaration in a list that repeats one before it, or one of others
abbrev pub Repeats : List Declared → List Declared → Declared → Type 0
Repeats bs [] d = ⊥
Repeats bs (e ∷ ds) d = ((e ≡ d) × (is_declared e.name bs ≡ true)) ⊎ Repeats (e ∷ bs) ds d

-- what was found, of those of which R holds
abbrev pub Bounds : Option Again → (Declared → Type 0) → Type 0
Bounds None R = (d : Declared) → R d → ⊥
Bounds (Some a) R = (d : Declared) → R d → a.place ≤ d.place

abbrev pub From : Option Again → (Declared → Type 0) → Type 0
From None R = Unit {0}
From (Some a) R = (d : Declared) × R d × (again_of d ≡ a)

pub record IsLeast (a : Option Again) (R : Declared → Type 0) : Type 0 where
  pub bounds : Bounds a R
  pub from : From a R

-- of more
bounds_to : (a : Option Again) (R S : Declared → Type 0) → ((d : Declared) → S d → R d) → Bounds a R → Bounds a S
bounds_to None R S h b = λ d s. b d (h d s)
bounds_to (Some a) R S h b = λ d s. b d (h d s)

from_to : (a : Option Again) (R S : Declared → Type 0) → ((d : Declared) → R d → S d) → From a R → From a S
from_to None R S h f = tt
from_to (Some a) R S h f = (f.0, h f.0 f.1, f.2)

pub least_of : (a : Option Again) (R S : Declared → Type 0) → ((d : Declared) → R d → S d) → ((d : Declared) → S d → R d) → IsLeast a R → IsLeast a S
least_of a R S h k l = record { bounds = bounds_to a R S k l.bounds; from = from_to a R S h l.from }

-- with one more
abbrev pub Or : (Declared → Type 0) → (Declared → Type 0) → Declared → Type 0
Or R S d = R d ⊎ S d

abbrev pub Is : Declared → Declared → Type 0
Is e d = e ≡ d

place_same : (d e : Declared) (b : Again) → again_of e ≡ b → e ≡ d → b.place ≡ d.place
place_same d e b k h = sym (ap (λ (z : Again). z.place) k) ∙ ap (λ (z : Declared). z.place) h

taken_bounds : (a b : Again) (R : Declared → Type 0) (e d : Declared) → nat_lt b.place a.place ≡ true → again_of e ≡ b → Bounds (Some a) R → R d ⊎ (e ≡ d) → b.place ≤ d.place
taken_bounds a b R e d t k h (inl r) = let u : a.place ≤ d.place = h d r in let v : b.place < a.place = less b.place a.place t in omega arith
  where
    less : (x y : ℕ) → nat_lt x y ≡ true → x < y
    less x y h = grind (arith, nat_tests)
taken_bounds a b R e d t k h (inr s) = let u : b.place ≡ d.place = place_same d e b k s in omega arith

kept_bounds : (a b : Again) (R : Declared → Type 0) (e d : Declared) → nat_lt b.place a.place ≡ false → again_of e ≡ b → Bounds (Some a) R → R d ⊎ (e ≡ d) → a.place ≤ d.place
kept_bounds a b R e d t k h (inl r) = h d r
kept_bounds a b R e d t k h (inr s) = let u : b.place ≡ d.place = place_same d e b k s in let v : a.place ≤ b.place = more b.place a.place t in omega arith
  where
    more : (x y : ℕ) → nat_lt x y ≡ false → y ≤ x
    more x y h = grind (arith, nat_tests)

with_one : (a b : Again) (c : Bool) → nat_lt b.place a.place ≡ c → (R : Declared → Type 0) (e : Declared) → again_of e ≡ b → IsLeast (Some a) R → IsLeast (cond c (Some b) (Some a)) (Or R (Is e))
with_one a b true t R e k l = record { bounds = λ d h. taken_bounds a b R e d t k l.bounds h; from = (e, inr refl, k) }
with_one a b false t R e k l = record { bounds = λ d h. kept_bounds a b R e d t k l.bounds h; from = (l.from.0, inl l.from.1, l.from.2) }

first_bounds : (b : Again) (R : Declared → Type 0) (e d : Declared) → again_of e ≡ b → Bounds None R → R d ⊎ (e ≡ d) → b.place ≤ d.place
first_bounds b R e d k h (inl r) = absurd (h d r)
first_bounds b R e d k h (inr s) = let u : b.place ≡ d.place = place_same d e b k s in omega arith

lesser_least : (a : Option Again) (R : Declared → Type 0) (e : Declared) → IsLeast a R → IsLeast (lesser a (again_of e)) (Or R (Is e))
lesser_least None R e l = record { bounds = λ d h. first_bounds (again_of e) R e d refl l.bounds h; from = (e, inr refl, refl) }
lesser_least (Some a) R e l = with_one a (again_of e) (nat_lt e.place a.place) refl R e refl l

-- a list
or_repeats : (R : Declared → Type 0) (bs ds : List Declared) (e d : Declared) → is_declared e.name bs ≡ true → (R d ⊎ (e ≡ d)) ⊎ Repeats (e ∷ bs) ds d → R d ⊎ Repeats bs (e ∷ ds) d
or_repeats R bs ds e d t (inl (inl r)) = inl r
or_repeats R bs ds e d t (inl (inr s)) = inr (inl (s, t))
or_repeats R bs ds e d t (inr q) = inr (inr q)

repeats_or : (R : Declared → Type 0) (bs ds : List Declared) (e d : Declared) → R d ⊎ Repeats bs (e ∷ ds) d → (R d ⊎ (e ≡ d)) ⊎ Repeats (e ∷ bs) ds d
repeats_or R bs ds e d (inl r) = inl (inl r)
repeats_or R bs ds e d (inr (inl s)) = inl (inr s.0)
repeats_or R bs ds e d (inr (inr q)) = inr q

or_not : (R : Declared → Type 0) (bs ds : List Declared) (e d : Declared) → R d ⊎ Repeats (e ∷ bs) ds d → R d ⊎ Repeats bs (e ∷ ds) d
or_not R bs ds e d (inl r) = inl r
or_not R bs ds e d (inr q) = inr (inr q)

not_or : (R : Declared → Type 0) (bs ds : List Declared) (e d : Declared) → is_declared e.name bs ≡ false → R d ⊎ Repeats bs (e ∷ ds) d → R d ⊎ Repeats (e ∷ bs) ds d
not_or R bs ds e d t (inl r) = inl r
not_or R bs ds e d t (inr (inl s)) = absurd (let u : is_declared e.name bs ≡ true = s.1 in cc)
not_or R bs ds e d t (inr (inr q)) = inr q

none_left : (R : Declared → Type 0) (bs : List Declared) (d : Declared) → R d ⊎ Repeats bs [] d → R d
none_left R bs d (inl r) = r
none_left R bs d (inr q) = absurd q

abbrev pub Goes : Declared → List Declared → List Declared → Type 1
Goes e bs ds = (b : Option Again) (S : Declared → Type 0) → IsLeast b S → IsLeast (repeated (e ∷ bs) b ds) (Or S (Repeats (e ∷ bs) ds))

one_more : (e : Declared) (ds bs : List Declared) (a : Option Again) (R : Declared → Type 0) → IsLeast a R → (c : Bool) → is_declared e.name bs ≡ c → Goes e bs ds
    → IsLeast (repeated (e ∷ bs) (cond c (lesser a (again_of e)) a) ds) (Or R (Repeats bs (e ∷ ds)))
one_more e ds bs a R l true t g = least_of _ (Or (Or R (Is e)) (Repeats (e ∷ bs) ds)) (Or R (Repeats bs (e ∷ ds))) (λ d h. or_repeats R bs ds e d t h) (λ d h. repeats_or R bs ds e d h)
    (g (lesser a (again_of e)) (Or R (Is e)) (lesser_least a R e l))
one_more e ds bs a R l false t g = least_of _ (Or R (Repeats (e ∷ bs) ds)) (Or R (Repeats bs (e ∷ ds))) (λ d h. or_not R bs ds e d h) (λ d h. not_or R bs ds e d t h) (g a R l)

pub repeated_least : (ds bs : List Declared) (a : Option Again) (R : Declared → Type 0) → IsLeast a R → IsLeast (repeated bs a ds) (Or R (Repeats bs ds))
repeated_least [] bs a R l = least_of a R (Or R (Repeats bs [])) (λ d r. inl r) (λ d h. none_left R bs d h) l
repeated_least (e ∷ ds) bs a R l = one_more e ds bs a R l (is_declared e.name bs) refl (λ b S k. repeated_least ds (e ∷ bs) b S k)

-- scopes that end
abbrev pub Ended : List Mention → List Declared → Type 0
Ended [] ds = ⊥
Ended (mentions.Ends es ∷ ms) ds = (es ≡ ds) ⊎ Ended ms ds
Ended (mentions.Name n ∷ ms) ds = Ended ms ds
Ended (mentions.Begins ∷ ms) ds = Ended ms ds

abbrev pub InEnded : List Mention → Declared → Type 0
InEnded ms d = (ds : List Declared) × Ended ms ds × Repeats [] ds d

or_ended : (R : Declared → Type 0) (es : List Declared) (ms : List Mention) (d : Declared) → (R d ⊎ Repeats [] es d) ⊎ InEnded ms d → R d ⊎ InEnded (mentions.Ends es ∷ ms) d
or_ended R es ms d (inl (inl r)) = inl r
or_ended R es ms d (inl (inr q)) = inr (es, inl refl, q)
or_ended R es ms d (inr q) = inr (q.0, inr q.1, q.2)

ended_is : (R : Declared → Type 0) (es : List Declared) (ms : List Mention) (d : Declared) (ds : List Declared) → (es ≡ ds) ⊎ Ended ms ds → Repeats [] ds d → (R d ⊎ Repeats [] es d) ⊎ InEnded ms d
ended_is R es ms d ds (inl s) q = inl (inr (subst (λ (z : List Declared). Repeats [] z d) (sym s) q))
ended_is R es ms d ds (inr h) q = inr (ds, h, q)

ended_or : (R : Declared → Type 0) (es : List Declared) (ms : List Mention) (d : Declared) → R d ⊎ InEnded (mentions.Ends es ∷ ms) d → (R d ⊎ Repeats [] es d) ⊎ InEnded ms d
ended_or R es ms d (inl r) = inl (inl r)
ended_or R es ms d (inr q) = ended_is R es ms d q.0 q.1 q.2

nothing_ended : (R : Declared → Type 0) (d : Declared) → R d ⊎ InEnded [] d → R d
nothing_ended R d (inl r) = r
nothing_ended R d (inr q) = absurd q.1

pub repeated_in_least : (ms : List Mention) (a : Option Again) (R : Declared → Type 0) → IsLeast a R → IsLeast (repeated_in a ms) (Or R (InEnded ms))
repeated_in_least [] a R l = least_of a R (Or R (InEnded [])) (λ d r. inl r) (λ d h. nothing_ended R d h) l
repeated_in_least (mentions.Ends es ∷ ms) a R l = least_of _ (Or (Or R (Repeats [] es)) (InEnded ms)) (Or R (InEnded (mentions.Ends es ∷ ms))) (λ d h. or_ended R es ms d h) (λ d h. ended_or R es ms d h)
    (repeated_in_least ms (repeated [] a es) (Or R (Repeats [] es)) (repeated_least es [] a R l))
repeated_in_least (mentions.Name n ∷ ms) a R l = repeated_in_least ms a R l
repeated_in_least (mentions.Begins ∷ ms) a R l = repeated_in_least ms a R l

-- names of a scope, and what is told of them
abbrev pub IsTold : List Named → List Declared → Type 0
IsTold [] [] = Unit {0}
IsTold (n ∷ ns) (d ∷ ds) = (d.name ≡ n.text) × (d.place ≡ n.spot.place) × IsTold ns ds
IsTold _ _ = ⊥

abbrev pub IsFor : Named → Declared → Type 0
IsFor n d = (d.name ≡ n.text) × (d.place ≡ n.spot.place)

-- a name that stands among these
pub record Stands (pre : List Named) (m : List ℕ) : Type 0 where
  pub front : List Named
  pub first : Named
  pub middle : List Named
  pub parts : pre ≡ front ++ first ∷ middle
  pub same : first.text ≡ m

abbrev pub AllStand : List Named → List Declared → Type 0
AllStand pre bs = (m : List ℕ) → is_declared m bs ≡ true → Stands pre m

equal_bytes : (a b : List ℕ) → bytes_eq a b ≡ true → a ≡ b
equal_bytes a b h = (bytes_eq-Decides a b).0 h

same_bytes : (a b : List ℕ) → a ≡ b → bytes_eq a b ≡ true
same_bytes a b h = (bytes_eq-Decides a b).1 h

stand_later : (pre : List Named) (n : Named) (m : List ℕ) → Stands pre m → Stands (pre ++ n ∷ []) m
stand_later pre n m s = record { front = s.front; first = s.first; middle = s.middle ++ n ∷ []; parts = ap (λ z. z ++ n ∷ []) s.parts ∙ append_assoc s.front (s.first ∷ s.middle) (n ∷ []); same = s.same }

stand_next : (pre : List Named) (bs : List Declared) (n : Named) (d : Declared) → d.name ≡ n.text → AllStand pre bs → (m : List ℕ) (c : Bool) → bytes_eq d.name m ≡ c → (c || is_declared m bs) ≡ true → Stands (pre ++ n ∷ []) m
stand_next pre bs n d e h m true t g = record { front = pre; first = n; middle = []; parts = refl; same = sym e ∙ equal_bytes d.name m t }
stand_next pre bs n d e h m false t g = stand_later pre n m (h m g)

-- what repeats a name is declared again
again_at : (pre : List Named) (n : Named) (ns : List Named) → Stands pre n.text → IsAgain (pre ++ n ∷ ns) n
again_at pre n ns s = record { front = s.front; first = s.first; middle = s.middle; back = ns; parts = ap (λ z. z ++ n ∷ ns) s.parts ∙ append_assoc s.front (s.first ∷ s.middle) (n ∷ ns); same = s.same }

pub is_again : (ns : List Named) (ds bs : List Declared) (pre : List Named) (d : Declared) → AllStand pre bs → IsTold ns ds → Repeats bs ds d → (n : Named) × IsAgain (pre ++ ns) n × IsFor n d
is_again [] [] bs pre d h t q = absurd q
is_again [] (e ∷ ds) bs pre d h t q = absurd t
is_again (n ∷ ns) [] bs pre d h t q = absurd t
is_again (n ∷ ns) (e ∷ ds) bs pre d h t (inl s) = (n, again_at pre n ns (subst (λ z. Stands pre z) t.0 (h e.name s.1)), (subst (λ (z : Declared). IsFor n z) s.0 (t.0, t.1)))
is_again (n ∷ ns) (e ∷ ds) bs pre d h t (inr q) =
    let g : (m : Named) × IsAgain ((pre ++ n ∷ []) ++ ns) m × IsFor m d = is_again ns ds (e ∷ bs) (pre ++ n ∷ []) d (λ m c. stand_next pre bs n e t.0 h m (bytes_eq e.name m) refl c) t.2 q in
    (g.0, subst (λ z. IsAgain z g.0) (append_assoc pre (n ∷ []) ns) g.1, g.2)

-- and what is declared again repeats a name
or_true : (c : Bool) → (c || true) ≡ true
or_true true = refl
or_true false = refl

is_later : (middle : List Named) (n : Named) (back : List Named) (ds bs : List Declared) → is_declared n.text bs ≡ true → IsTold (middle ++ n ∷ back) ds → (d : Declared) × Repeats bs ds d × IsFor n d
is_later [] n back [] bs h t = absurd t
is_later [] n back (e ∷ ds) bs h t = (e, inl (refl, subst (λ z. is_declared z bs ≡ true) (sym t.0) h), (t.0, t.1))
is_later (m ∷ middle) n back [] bs h t = absurd t
is_later (m ∷ middle) n back (e ∷ ds) bs h t =
    let g : (d : Declared) × Repeats (e ∷ bs) ds d × IsFor n d = is_later middle n back ds (e ∷ bs) (ap (λ z. bytes_eq e.name n.text || z) h ∙ or_true (bytes_eq e.name n.text)) t.2 in
    (g.0, inr g.1, g.2)

is_after : (front : List Named) (first : Named) (middle : List Named) (n : Named) (back : List Named) (ds bs : List Declared) → first.text ≡ n.text → IsTold (front ++ first ∷ (middle ++ n ∷ back)) ds
    → (d : Declared) × Repeats bs ds d × IsFor n d
is_after [] first middle n back [] bs e t = absurd t
is_after [] first middle n back (f ∷ ds) bs e t =
    let g : (d : Declared) × Repeats (f ∷ bs) ds d × IsFor n d = is_later middle n back ds (f ∷ bs) (ap (λ z. z || is_declared n.text bs) (same_bytes f.name n.text (t.0 ∙ e))) t.2 in
    (g.0, inr g.1, g.2)
is_after (m ∷ front) first middle n back [] bs e t = absurd t
is_after (m ∷ front) first middle n back (f ∷ ds) bs e t =
    let g : (d : Declared) × Repeats (f ∷ bs) ds d × IsFor n d = is_after front first middle n back ds (f ∷ bs) e t.2 in
    (g.0, inr g.1, g.2)

pub repeats_again : (ns : List Named) (ds : List Declared) (n : Named) → IsTold ns ds → IsAgain ns n → (d : Declared) × Repeats [] ds d × IsFor n d
repeats_again ns ds n t a = is_after a.front a.first a.middle n a.back ds [] a.same (subst (λ z. IsTold z ds) a.parts t)

pub again_repeats : (ns : List Named) (ds : List Declared) (d : Declared) → IsTold ns ds → Repeats [] ds d → (n : Named) × IsAgain ns n × IsFor n d
again_repeats ns ds d t q = is_again ns ds [] [] d (λ m h. absurd cc) t q
