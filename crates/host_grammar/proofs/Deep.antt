-- The first token that opens more constructs than may be open, as the machine counts them.
use Rattle.std.specs.Prelude.{◌≡◌, ℕ, zero, suc, ◌+◌, ◌<◌, ◌≤◌, List, [], ◌∷◌, ◌++◌, length, take, drop, Option, Some, None, refl, slice_get}
use Rattle.std.proofs.Common.{sym, ◌∙◌, ap, subst, ◌⊎◌, inl, inr, arith}
use Rattle.host_grammar.specs.Derivations.{Script}
use Rattle.host_grammar.specs.Printing.{Printed, Sign, script_then}
use Rattle.host_grammar.specs.Conditions.{IsScript}
use Rattle.host_grammar.specs.Refusals.{Begins, IsTooDeep, IsUnexpected, most_open}
use Rattle.host_grammar.specs.Machine.{State, run, start, step}
use Rattle.host_grammar.specs.Counting.{AreWithin, counts, opens}
use Rattle.host_grammar.proofs.Main.{begins_reached, counted, reached_begins, run_next}
use Rattle.std.proofs.lemmas.Option.{slice_get_within, slice_get_past}
use Rattle.std.proofs.lemmas.Bool.{cases_lt}
use Rattle.std.proofs.lemmas.List.{take-append-drop}

past : {X : Type 0} (i : ℕ) (x : X) → slice_get {X = X} [] i ≡ Some x → ⊥
past {X} i x h = let e : None ≡ Some x = sym (slice_get_past {X = X} [] i (omega arith)) ∙ h in absurd cc

count_on : (ts : List Sign) (q : Option State) (i : ℕ) (p : Printed)
    → ((s : State) → slice_get (counts s ts) i ≡ Some p → (r : State) × (t : Sign) × (run s (take i ts) ≡ Some r) × (slice_get ts i ≡ Some t) × (p ≡ record { sign = t; nth = opens r t.kind }))
    → slice_get (elim q [ None ↦ [] | Some s ↦ counts s ts ]) i ≡ Some p
    → (r : State) × (t : Sign) × ((elim q [ None ↦ None | Some s ↦ run s (take i ts) ]) ≡ Some r) × (slice_get ts i ≡ Some t) × (p ≡ record { sign = t; nth = opens r t.kind })
count_on ts None i p ih h = absurd (past {X = Printed} i p h)
count_on ts (Some s) i p ih h = ih s h

-- what is counted at a place is what the state there opens
pub count_at : (ts : List Sign) (s : State) (i : ℕ) (p : Printed) → slice_get (counts s ts) i ≡ Some p
    → (r : State) × (t : Sign) × (run s (take i ts) ≡ Some r) × (slice_get ts i ≡ Some t) × (p ≡ record { sign = t; nth = opens r t.kind })
count_at [] s i p h = absurd (past {X = Printed} i p h)
count_at (t ∷ ts) s zero p h = let e : record { sign = t; nth = opens s t.kind } ≡ p = cc in (s, t, refl, refl, sym e)
count_at (t ∷ ts) s (suc i) p h = count_on ts (step s t) i p (λ q k. count_at ts q i p k) h

at_on : (ts : List Sign) (q : Option State) (i : ℕ) (r : State) (t : Sign)
    → ((s : State) → run s (take i ts) ≡ Some r → slice_get (counts s ts) i ≡ Some (record { sign = t; nth = opens r t.kind }))
    → (elim q [ None ↦ None | Some s ↦ run s (take i ts) ]) ≡ Some r → slice_get (elim q [ None ↦ [] | Some s ↦ counts s ts ]) i ≡ Some (record { sign = t; nth = opens r t.kind })
at_on ts None i r t ih h = cc
at_on ts (Some s) i r t ih h = ih s h

pub at_count : (ts : List Sign) (s : State) (i : ℕ) (r : State) (t : Sign) → run s (take i ts) ≡ Some r → slice_get ts i ≡ Some t → slice_get (counts s ts) i ≡ Some (record { sign = t; nth = opens r t.kind })
at_count [] s i r t h g = absurd (past {X = Sign} i t g)
at_count (x ∷ ts) s zero r t h g = let a : s ≡ r = cc in let b : x ≡ t = cc in
    ap (λ z. Some (record { sign = x; nth = opens z x.kind })) a ∙ ap (λ z. Some (record { sign = z; nth = opens r z.kind })) b
at_count (x ∷ ts) s (suc i) r t h g = at_on ts (step s x) i r t (λ q k. at_count ts q i r t k g) h

-- the front of some tokens, whatever follows
pub front_take : (n i : ℕ) (ts us : List Sign) → i ≤ n → n ≤ length ts → take i (take n ts ++ us) ≡ take i ts
front_take n zero ts us h l = refl
front_take zero (suc i) ts us h l = absurd (omega arith)
front_take (suc n) (suc i) [] us h l = absurd (omega arith)
front_take (suc n) (suc i) (t ∷ ts) us h l = ap (λ z. t ∷ z) (front_take n i ts us (omega arith) (omega arith))

pub front_get : (n i : ℕ) (ts us : List Sign) → i < n → n ≤ length ts → slice_get (take n ts ++ us) i ≡ slice_get ts i
front_get zero i ts us h l = absurd (omega arith)
front_get (suc n) i [] us h l = absurd (omega arith)
front_get (suc n) zero (t ∷ ts) us h l = refl
front_get (suc n) (suc i) (t ∷ ts) us h l = front_get n i ts us (omega arith) (omega arith)

-- in a script that begins with the first n tokens
module _ (ts us : List Sign) (n : ℕ) (x : Script) (i : IsScript (take n ts ++ us) x) (l : n ≤ length ts) where
  pub state_in : (k : ℕ) → k ≤ n → (s : State) × (run start (take k ts) ≡ Some s)
  state_in k h = begins_reached (take k ts) (
    drop k (take n ts ++ us),
    x,
    subst (λ z. IsScript z x) (sym (take-append-drop k (take n ts ++ us)) ∙ ap (λ z. z ++ drop k (take n ts ++ us)) (front_take n k ts us h l)) i,
  )

  pub opens_in : (k : ℕ) (s : State) (t : Sign) → k < n → run start (take k ts) ≡ Some s → slice_get ts k ≡ Some t
      → slice_get (script_then x []) k ≡ Some (record { sign = t; nth = opens s t.kind })
  opens_in k s t h r g = ap (λ z. slice_get z k) (counted (take n ts ++ us) x i)
      ∙ at_count (take n ts ++ us) start k s t (ap (run start) (front_take n k ts us (omega arith) l) ∙ r) (front_get n k ts us h l ∙ g)

  pub opened_in : (k : ℕ) (p : Printed) → k < n → slice_get (script_then x []) k ≡ Some p
      → (s : State) × (t : Sign) × (run start (take k ts) ≡ Some s) × (slice_get ts k ≡ Some t) × (p ≡ record { sign = t; nth = opens s t.kind })
  opened_in k p h e =
      let c = count_at (take n ts ++ us) start k p (sym (ap (λ z. slice_get z k) (counted (take n ts ++ us) x i)) ∙ e) in
      (c.0, c.1, sym (ap (run start) (front_take n k ts us (omega arith) l)) ∙ c.2, sym (front_get n k ts us h l) ∙ c.3, c.4)

-- the first token that opens more is too deep
deep_from : (ts : List Sign) (k : ℕ) (s : State) (t : Sign) → run start (take k ts) ≡ Some s → slice_get ts k ≡ Some t → most_open < opens s t.kind → AreWithin ts k → Begins (take (k + 1) ts) → IsTooDeep ts k
deep_from ts k s t h g o w (us, x, i) =
    let l : k < length ts = slice_get_within ts k t g in
    let m : k + 1 ≤ length ts = omega arith in
    record {
      within = l;
      more = us;
      script = x;
      is_script = i;
      opens = λ p e. let q : Some (record { sign = t; nth = opens s t.kind }) ≡ Some p = sym (opens_in ts us (k + 1) x i m k s t (omega arith) h g) ∙ e in
          let r : record { sign = t; nth = opens s t.kind } ≡ p = cc in subst (λ (z : Printed). most_open < z.nth) r o;
      first = λ j p b e. let c = opened_in ts us (k + 1) x i m j p (omega arith) e in subst (λ (z : Printed). z.nth ≤ most_open) (sym c.4) (w j c.0 c.1 b c.2 c.3);
    }

pub too_deep_at : (ts : List Sign) (k : ℕ) (s r : State) (t : Sign) → run start (take k ts) ≡ Some s → slice_get ts k ≡ Some t → step s t ≡ Some r → most_open < opens s t.kind → AreWithin ts k → IsTooDeep ts k
too_deep_at ts k s r t h g e o w = deep_from ts k s t h g o w (reached_begins (take (k + 1) ts) r (run_next ts k s t (Some r) h g e))

pub token_at : (ts : List Sign) (k : ℕ) → k < length ts → (t : Sign) × (slice_get ts k ≡ Some t)
token_at [] k h = absurd (omega arith)
token_at (t ∷ ts) zero h = (t, refl)
token_at (t ∷ ts) (suc k) h = token_at ts k (omega arith)

-- where none opens more, none is too deep
pub not_deep_at : (ts : List Sign) (k : ℕ) (s : State) (t : Sign) → IsTooDeep ts k → run start (take k ts) ≡ Some s → slice_get ts k ≡ Some t → most_open < opens s t.kind
not_deep_at ts k s t d h g = let l : k < length ts = d.within in
    d.opens (record { sign = t; nth = opens s t.kind }) (opens_in ts d.more (k + 1) d.script d.is_script (omega arith) k s t (omega arith) h g)

pub not_deep_below : (ts : List Sign) (n k : ℕ) → AreWithin ts n → k < n → ¬ IsTooDeep ts k
not_deep_below ts n k w h d =
    let l : k < length ts = d.within in
    let r = state_in ts d.more (k + 1) d.script d.is_script (omega arith) k (omega arith) in
    let g = token_at ts k l in
    let a : most_open < opens r.0 g.0.kind = not_deep_at ts k r.0 g.0 d r.1 g.1 in
    let b : opens r.0 g.0.kind ≤ most_open = w k r.0 g.0 h r.1 g.1 in
    absurd (omega arith)

-- the whole is read
pub none_too_deep : (ts : List Sign) → AreWithin ts (length ts) → (k : ℕ) → ¬ IsTooDeep ts k
none_too_deep ts w k d = not_deep_below ts (length ts) k w d.within d

before_or_not : (ts : List Sign) (n k : ℕ) → IsUnexpected ts n → AreWithin ts n → IsTooDeep ts k → (k < n) ⊎ (n ≤ k) → ⊥
before_or_not ts n k u w d (inl h) = not_deep_below ts n k w h d
before_or_not ts n k u w d (inr h) =
    let l : k < length ts = d.within in
    let r = state_in ts d.more (k + 1) d.script d.is_script (omega arith) (n + 1) (omega arith) in
    u.next (omega arith) (reached_begins (take (n + 1) ts) r.0 r.1)

-- a token is refused before one is too deep
pub refused_before : (ts : List Sign) (n : ℕ) → IsUnexpected ts n → AreWithin ts n → (k : ℕ) → ¬ IsTooDeep ts k
refused_before ts n u w k d = before_or_not ts n k u w d (cases_lt k n)
