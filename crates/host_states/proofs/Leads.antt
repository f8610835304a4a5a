-- Tokens lead the reader to what it shows.
use Rattle.std.specs.Prelude.{◌≡◌, ℕ, zero, suc, ◌+◌, ◌<◌, ◌≤◌, Bool, true, false, List, [], ◌∷◌, length, take, map, Option, Some, None, slice_get, refl}
use Rattle.std.proofs.Common.{sym, ◌∙◌, ap, subst, arith, ◌⊎◌, inl, inr, get_or}
use Rattle.std.proofs.lemmas.Option.{slice_get-map, slice_get-get_or, slice_get_within}
use Rattle.std.proofs.lemmas.Bool.{cases_lt}
use Rattle.std.proofs.Math.Seq.{take-length}
use Rattle.std.proofs.lemmas.List.{length-map}
use Rattle.host_lexer.specs.declared.token.Token.{Token}
use Rattle.host_states.specs.declared.state.Move.{Move}
use Rattle.host_states.specs.declared.state.Move.TheVariants as moves
use Rattle.host_states.specs.declared.state.InStatement.TheVariants as on
use Rattle.host_states.specs.declared.reader.Reader.{Reader}
use Rattle.host_states.specs.Moves as spec
use Rattle.host_states.specs.Shapes.{shape, accepts, Follows}
use Rattle.host_grammar.specs.Derivations.{Script}
use Rattle.host_grammar.specs.Printing.{Sign, seen}
use Rattle.host_grammar.specs.Conditions.{IsScript}
use Rattle.host_grammar.specs.Refusals.{most_open, place_of, IsUnexpected, IsTooDeep, IsParsed, unexpected, too_deep}
use Rattle.host_grammar.specs.Machine.{State, start, step, run, accept}
use Rattle.host_grammar.specs.Counting.{opens, AreWithin}

-- the first i tokens lead to a state that the reader shows
abbrev pub Leads : List Token → ℕ → Reader → Type 0
Leads ts i r = (s : State) × (run start (take i (map seen ts)) ≡ Some s) × (shape s ≡ r) × AreWithin (map seen ts) i

pub at_start : (ts : List Token) (r : Reader) → r ≡ spec.in_statement on.Items spec.script_around [] → Leads ts 0 r
at_start ts r h = (start, refl, sym h, λ i s t l a b. absurd (omega arith))

pub sign_at : (ts : List Token) (i : ℕ) (t : Token) → i < length ts → t ≡ get_or ts i t → slice_get (map seen ts) i ≡ Some (seen t)
sign_at ts i t l h = slice_get-map seen ts i ∙ ap (λ o. elim o [ None ↦ None | Some z ↦ Some (seen z) ]) (slice_get-get_or ts i t l ∙ ap Some (sym h))

none_there : (i : ℕ) (t : Token) → slice_get {X = Token} [] i ≡ Some t → ⊥
none_there i t h = let l : i < 0 = slice_get_within {A = Token} [] i t h in absurd (omega arith)

place_at : (ts : List Token) (len i : ℕ) (t : Token) → slice_get ts i ≡ Some t → t.from ≡ place_of ts len i
place_at [] len i t h = absurd (none_there i t h)
place_at (x ∷ ts) len zero t h = let e : x ≡ t = cc in ap (λ (z : Token). z.from) (sym e)
place_at (x ∷ ts) len (suc i) t h = place_at ts len i t h

place_past : (ts : List Token) (len : ℕ) → len ≡ place_of ts len (length ts)
place_past [] len = refl
place_past (t ∷ ts) len = place_past ts len

abbrev NextLaw : Type 0
NextLaw = (signs : List Sign) (k : ℕ) (s : State) (t : Sign) → run start (take k signs) ≡ Some s → slice_get signs k ≡ Some t → run start (take (k + 1) signs) ≡ step s t

follow_went : (o : Option State) (n : ℕ) (r : Reader) → Follows o n moves.Went r → (q : State) × (o ≡ Some q) × (n ≤ most_open) × (r ≡ shape q)
follow_went None n r h = let e : moves.Went ≡ moves.Refused = h in cc
follow_went (Some q) n r (inl h) = let e : moves.Went ≡ moves.TooDeep = h.1 in cc
follow_went (Some q) n r (inr h) = (q, refl, h.0, h.2)

follow_deep : (o : Option State) (n : ℕ) (r : Reader) → Follows o n moves.TooDeep r → (q : State) × (o ≡ Some q) × (most_open < n)
follow_deep None n r h = let e : moves.TooDeep ≡ moves.Refused = h in cc
follow_deep (Some q) n r (inl h) = (q, refl, h.0)
follow_deep (Some q) n r (inr h) = let e : moves.TooDeep ≡ moves.Went = h.1 in cc

follow_none : (o : Option State) (n : ℕ) (r : Reader) → Follows o n moves.Refused r → o ≡ None
follow_none None n r h = refl
follow_none (Some q) n r (inl h) = let e : moves.Refused ≡ moves.TooDeep = h.1 in cc
follow_none (Some q) n r (inr h) = let e : moves.Refused ≡ moves.Went = h.1 in cc

within_more : (ss : List Sign) (i : ℕ) (s : State) (t : Sign) → run start (take i ss) ≡ Some s → slice_get ss i ≡ Some t → opens s t.kind ≤ most_open → AreWithin ss i
    → (j : ℕ) (q : State) (u : Sign) → j < i + 1 → run start (take j ss) ≡ Some q → slice_get ss j ≡ Some u → (j < i) ⊎ (i ≤ j) → opens q u.kind ≤ most_open
within_more ss i s t h g n w j q u l a b (inl k) = w j q u k a b
within_more ss i s t h g n w j q u l a b (inr k) =
    let e : j ≡ i = omega arith in
    let x : Some s ≡ Some q = sym h ∙ ap (λ z. run start (take z ss)) (sym e) ∙ a in
    let y : Some t ≡ Some u = sym g ∙ ap (slice_get ss) (sym e) ∙ b in
    let c : s ≡ q = cc in
    let d : t ≡ u = cc in
    subst (λ (z : State). opens z u.kind ≤ most_open) c (subst (λ (z : Sign). opens s z.kind ≤ most_open) d n)

abbrev Steps : Reader → Token → Move → Reader → Type 0
Steps r t m q = (s : State) → shape s ≡ r → Follows (step s (seen t)) (opens s t.kind) m q

-- one token more
pub one_more : NextLaw → (ts : List Token) (i : ℕ) (t : Token) (old new : Reader) (m : Move) → m ≡ moves.Went → i < length ts → t ≡ get_or ts i t → Steps old t m new → Leads ts i old → Leads ts (i + 1) new
one_more next ts i t old new m w l h f (s, a, b, c) =
    let g = sign_at ts i t l h in
    let q = follow_went (step s (seen t)) (opens s t.kind) new (subst (λ z. Follows (step s (seen t)) (opens s t.kind) z new) w (f s b)) in (
      q.0,
      next (map seen ts) i s (seen t) a g ∙ q.1,
      sym q.3,
      λ j r u k x y. within_more (map seen ts) i s (seen t) a g q.2 c j r u k x y (cases_lt j i),
    )

-- a token that is refused
pub refuses : ((signs : List Sign) (k : ℕ) (s : State) (t : Sign) → run start (take k signs) ≡ Some s → slice_get signs k ≡ Some t → step s t ≡ None → IsUnexpected signs k)
    → ((signs : List Sign) (n : ℕ) → IsUnexpected signs n → AreWithin signs n → (k : ℕ) → ¬ IsTooDeep signs k)
    → (ts : List Token) (len i : ℕ) (t : Token) (old new : Reader) (m : Move) → m ≡ moves.Refused → i < length ts → t ≡ get_or ts i t → Steps old t m new → Leads ts i old → IsParsed ts len (unexpected t.from)
refuses least none_deep ts len i t old new m w l h f (s, a, b, c) =
    let g = sign_at ts i t l h in
    let e = follow_none (step s (seen t)) (opens s t.kind) new (subst (λ z. Follows (step s (seen t)) (opens s t.kind) z new) w (f s b)) in
    let u = least (map seen ts) i s (seen t) a g e in
    (i, place_at ts len i t (slice_get-get_or ts i t l ∙ ap Some (sym h)), u, none_deep (map seen ts) i u c)

-- a token that opens too many
pub too_many : ((signs : List Sign) (k : ℕ) (s r : State) (t : Sign) → run start (take k signs) ≡ Some s → slice_get signs k ≡ Some t → step s t ≡ Some r → most_open < opens s t.kind → AreWithin signs k → IsTooDeep signs k)
    → (ts : List Token) (len i : ℕ) (t : Token) (old new : Reader) (m : Move) → m ≡ moves.TooDeep → i < length ts → t ≡ get_or ts i t → Steps old t m new → Leads ts i old → IsParsed ts len (too_deep t.from)
too_many deep ts len i t old new m w l h f (s, a, b, c) =
    let g = sign_at ts i t l h in
    let e = follow_deep (step s (seen t)) (opens s t.kind) new (subst (λ z. Follows (step s (seen t)) (opens s t.kind) z new) w (f s b)) in
    (i, place_at ts len i t (slice_get-get_or ts i t l ∙ ap Some (sym h)), deep (map seen ts) i s e.0 (seen t) a g e.1 e.2 c)

-- the end of the tokens
whole_signs : (ts : List Token) (n : ℕ) → n ≡ length ts → take n (map seen ts) ≡ map seen ts
whole_signs ts n h = ap (λ z. take z (map seen ts)) (h ∙ sym (length-map ts seen)) ∙ take-length (map seen ts)

abbrev Ends : Reader → Bool → Type 0
Ends r b = (s : State) → shape s ≡ r → b ≡ accepts (accept s)

not_accepted : (o : Option Script) → accepts o ≡ false → o ≡ None
not_accepted None h = refl
not_accepted (Some x) h = cc

is_accepted : (o : Option Script) → accepts o ≡ true → (x : Script) × (o ≡ Some x)
is_accepted None h = cc
is_accepted (Some x) h = (x, refl)

pub missing : ((signs : List Sign) (s : State) → run start signs ≡ Some s → accept s ≡ None → IsUnexpected signs (length signs))
    → ((signs : List Sign) (n : ℕ) → IsUnexpected signs n → AreWithin signs n → (k : ℕ) → ¬ IsTooDeep signs k)
    → (ts : List Token) (len n : ℕ) (r : Reader) (b : Bool) → n ≡ length ts → b ≡ false → Ends r b → Leads ts n r → IsParsed ts len (unexpected len)
missing least none_deep ts len n r b h w f (s, a, q, c) =
    let e = not_accepted (accept s) (sym (f s q) ∙ w) in
    let m : length (map seen ts) ≡ length ts = length-map ts seen in
    let u = subst (IsUnexpected (map seen ts)) m (least (map seen ts) s (ap (run start) (sym (whole_signs ts n h)) ∙ a) e) in
    (length ts, place_past ts len, u, none_deep (map seen ts) (length ts) u (subst (AreWithin (map seen ts)) h c))

pub whole : ((signs : List Sign) (s : State) (x : Script) → run start signs ≡ Some s → accept s ≡ Some x → IsScript signs x)
    → ((signs : List Sign) → AreWithin signs (length signs) → (k : ℕ) → ¬ IsTooDeep signs k)
    → (ts : List Token) (n : ℕ) (r : Reader) (b : Bool) → n ≡ length ts → b ≡ true → Ends r b → Leads ts n r → (x : Script) × IsScript (map seen ts) x × ((k : ℕ) → ¬ IsTooDeep (map seen ts) k)
whole sound none_deep ts n r b h w f (s, a, q, c) =
    let e = is_accepted (accept s) (sym (f s q) ∙ w) in
    (e.0, sound (map seen ts) s e.0 (ap (run start) (sym (whole_signs ts n h)) ∙ a) e.1, none_deep (map seen ts) (subst (AreWithin (map seen ts)) (h ∙ sym (length-map ts seen)) c))
