-- The machine accepts the scripts and no others, and refuses at the least place.
use Rattle.std.specs.Prelude.{◌≡◌, ℕ, ◌+◌, ◌<◌, List, [], ◌∷◌, ◌++◌, length, take, map, Option, Some, None, refl, slice_get}
use Rattle.std.proofs.Common.{sym, ◌∙◌, ap, subst, arith}
use Rattle.host_grammar.specs.Derivations.{Script}
use Rattle.host_grammar.specs.Printing.{Printed, Sign, script_then}
use Rattle.host_grammar.specs.Conditions.{IsScript}
use Rattle.host_grammar.specs.Refusals.{Begins, IsUnexpected}
use Rattle.host_grammar.specs.Machine.{State, accept, run, start, step}
use Rattle.host_grammar.specs.Spelling.{state_then}
use Rattle.host_grammar.specs.Counting.{counts, opens}
use Rattle.host_grammar.proofs.Complete.{scripts_are_read}
use Rattle.host_grammar.proofs.Fine.{Keeps, StateFine, accept_fine, moves_keep}
use Rattle.host_grammar.proofs.Heads.{read}
use Rattle.host_grammar.proofs.Sound.{Spells, accept_spells, moves_spell}
use Rattle.host_grammar.proofs.Viable.{Ends, states_end}
use Rattle.std.proofs.lemmas.List.{take_more, append-nil}
use Rattle.std.proofs.Math.Seq.{take-length}
use Rattle.std.proofs.lemmas.Option.{get_or_from_slice_get, slice_get_within}

abbrev pub finish : Option State → Option Script
finish None = None
finish (Some r) = accept r

abbrev pub and_run : Option State → List Sign → Option State
and_run None ts = None
and_run (Some r) ts = run r ts

run_from : (ts us : List Sign) → ((r : State) → run r (ts ++ us) ≡ and_run (run r ts) us) → (o : Option State)
    → (elim o [ None ↦ None | Some r ↦ run r (ts ++ us) ]) ≡ and_run (elim o [ None ↦ None | Some r ↦ run r ts ]) us
run_from ts us ih None = refl
run_from ts us ih (Some r) = ih r

pub run_on : (ts us : List Sign) (s : State) → run s (ts ++ us) ≡ and_run (run s ts) us
run_on [] us s = refl
run_on (t ∷ ts) us s = run_from ts us (λ r. run_on ts us r) (step s t)

read_from : (ms : List Printed) → ((r : State) → read r ms ≡ finish (run r (map (λ (p : Printed). p.sign) ms))) → (o : Option State)
    → (elim o [ None ↦ None | Some r ↦ read r ms ]) ≡ finish (elim o [ None ↦ None | Some r ↦ run r (map (λ (p : Printed). p.sign) ms) ])
read_from ms ih None = refl
read_from ms ih (Some r) = ih r

pub read_run : (ms : List Printed) (s : State) → read s ms ≡ finish (run s (map (λ (p : Printed). p.sign) ms))
read_run [] s = refl
read_run (m ∷ ms) s = read_from ms (λ r. read_run ms r) (step s m.sign)

-- each script is accepted
pub script_accepted : (ts : List Sign) (x : Script) → IsScript ts x → finish (run start ts) ≡ Some x
script_accepted ts x h = subst (λ z. finish (run start z) ≡ Some x) h.spelled (sym (read_run (script_then x []) start) ∙ scripts_are_read x h.fine)

-- what a state has read, with the constructs that it counts
spell_on : (ts : List Sign) (s r : State) (t : Sign) (y : List Printed) (o : Option State) → Spells o (state_then s) (record { sign = t; nth = opens s t.kind })
    → ((q : State) → run q ts ≡ Some r → state_then r y ≡ state_then q (counts q ts ++ y)) → (elim o [ None ↦ None | Some q ↦ run q ts ]) ≡ Some r
    → state_then r y ≡ state_then s (record { sign = t; nth = opens s t.kind } ∷ ((elim o [ None ↦ [] | Some q ↦ counts q ts ]) ++ y))
spell_on ts s r t y None h ih e = cc
spell_on ts s r t y (Some q) h ih e = ih q e ∙ h (counts q ts ++ y)

counts_spell : (ts : List Sign) (s r : State) (y : List Printed) → run s ts ≡ Some r → state_then r y ≡ state_then s (counts s ts ++ y)
counts_spell [] s r y e = let q : s ≡ r = cc in ap (λ x. state_then x y) (sym q)
counts_spell (t ∷ ts) s r y e = spell_on ts s r t y (step s t) (moves_spell s t.spot t.kind) (λ q h. counts_spell ts q r y h) e

signs_on : (ts : List Sign) (r : State) (o : Option State) → ((q : State) → run q ts ≡ Some r → map (λ (p : Printed). p.sign) (counts q ts) ≡ ts) → (elim o [ None ↦ None | Some q ↦ run q ts ]) ≡ Some r
    → map (λ (p : Printed). p.sign) (elim o [ None ↦ [] | Some q ↦ counts q ts ]) ≡ ts
signs_on ts r None ih e = cc
signs_on ts r (Some q) ih e = ih q e

counts_signs : (ts : List Sign) (s r : State) → run s ts ≡ Some r → map (λ (p : Printed). p.sign) (counts s ts) ≡ ts
counts_signs [] s r e = refl
counts_signs (t ∷ ts) s r e = ap (λ z. t ∷ z) (signs_on ts r (step s t) (λ q h. counts_signs ts q r h) e)

fine_on : (ts : List Sign) (r : State) (o : Option State) → Keeps o → ((q : State) → StateFine q → run q ts ≡ Some r → StateFine r) → (elim o [ None ↦ None | Some q ↦ run q ts ]) ≡ Some r → StateFine r
fine_on ts r None k ih e = cc
fine_on ts r (Some q) k ih e = ih q k e

run_fine : (ts : List Sign) (s r : State) → StateFine s → run s ts ≡ Some r → StateFine r
run_fine [] s r f e = let q : s ≡ r = cc in subst StateFine q f
run_fine (t ∷ ts) s r f e = fine_on ts r (step s t) (moves_keep s t.spot t.kind f) (λ q g h. run_fine ts q r g h) e

-- the printing of what is accepted is what the machine counts
printing_is : (ts : List Sign) (s : State) (x : Script) → run start ts ≡ Some s → accept s ≡ Some x → script_then x [] ≡ counts start ts
printing_is ts s x h a = accept_spells s x a ∙ counts_spell ts start s [] h ∙ append-nil (counts start ts)

-- what is accepted is a script
pub accepted_script : (ts : List Sign) (s : State) (x : Script) → run start ts ≡ Some s → accept s ≡ Some x → IsScript ts x
accepted_script ts s x h a = record {
  spelled = ap (map (λ (p : Printed). p.sign)) (printing_is ts s x h a) ∙ counts_signs ts start s h;
  fine = accept_fine s x (run_fine ts start s tt h) a;
}

finished : (o : Option State) (x : Script) → finish o ≡ Some x → (s : State) × (o ≡ Some s) × (accept s ≡ Some x)
finished None x h = cc
finished (Some s) x h = (s, refl, h)

pub counted : (ts : List Sign) (x : Script) → IsScript ts x → script_then x [] ≡ counts start ts
counted ts x h = let p = finished (run start ts) x (script_accepted ts x h) in printing_is ts p.0 x p.1 p.2

-- a script that is accepted where the tokens end is the only one
pub script_is : (ts : List Sign) (s : State) (x : Script) → run start ts ≡ Some s → IsScript ts x → accept s ≡ Some x
script_is ts s x h i = sym (ap finish h) ∙ script_accepted ts x i

pub one_script : (ts : List Sign) (x z : Script) → IsScript ts x → IsScript ts z → x ≡ z
one_script ts x z h k = let e : Some x ≡ Some z = sym (script_accepted ts x h) ∙ script_accepted ts z k in cc

-- the tokens that lead to a state begin a script
reached_from : (ts : List Sign) (s : State) → run start ts ≡ Some s → Ends s → Begins ts
reached_from ts s h (rest, x, e) =
    let q : finish (run start (ts ++ map (λ (p : Printed). p.sign) rest)) ≡ Some x = ap finish (run_on ts (map (λ (p : Printed). p.sign) rest) start ∙ ap (λ o. and_run o (map (λ (p : Printed). p.sign) rest)) h) ∙ sym (read_run rest s) ∙ e in
    let f = finished (run start (ts ++ map (λ (p : Printed). p.sign) rest)) x q in
    (map (λ (p : Printed). p.sign) rest, x, accepted_script (ts ++ map (λ (p : Printed). p.sign) rest) f.0 x f.1 f.2)

pub reached_begins : (ts : List Sign) (s : State) → run start ts ≡ Some s → Begins ts
reached_begins ts s h = reached_from ts s h (states_end s)

run_part : (o : Option State) (us : List Sign) (r : State) → and_run o us ≡ Some r → (s : State) × (o ≡ Some s)
run_part None us r h = cc
run_part (Some s) us r h = (s, refl)

-- tokens that begin a script lead to a state
pub begins_reached : (ts : List Sign) → Begins ts → (s : State) × (run start ts ≡ Some s)
begins_reached ts (rest, x, i) =
    let f = finished (run start (ts ++ rest)) x (script_accepted (ts ++ rest) x i) in
    run_part (run start ts) rest f.0 (sym (run_on ts rest start) ∙ f.1)

pub take_next : (ts : List Sign) (k : ℕ) (t : Sign) → slice_get ts k ≡ Some t → take (k + 1) ts ≡ take k ts ++ t ∷ []
take_next ts k t h = take_more ts k t (slice_get_within ts k t h) ∙ ap (λ z. take k ts ++ z ∷ []) (get_or_from_slice_get ts k t t h)

step_on : (s : State) (t : Sign) (o : Option State) → step s t ≡ o → run s (t ∷ []) ≡ o
step_on s t None e = ap (λ q. elim q [ None ↦ None | Some r ↦ run r [] ]) e
step_on s t (Some r) e = ap (λ q. elim q [ None ↦ None | Some r ↦ run r [] ]) e

pub run_next : (ts : List Sign) (k : ℕ) (s : State) (t : Sign) (o : Option State) → run start (take k ts) ≡ Some s → slice_get ts k ≡ Some t → step s t ≡ o → run start (take (k + 1) ts) ≡ o
run_next ts k s t o h g e = ap (run start) (take_next ts k t g) ∙ run_on (take k ts) (t ∷ []) start ∙ ap (λ q. and_run q (t ∷ [])) h ∙ step_on s t o e

-- where the machine has no step, no script goes on
pub stuck_ends : (ts : List Sign) (k : ℕ) (s : State) (t : Sign) → run start (take k ts) ≡ Some s → slice_get ts k ≡ Some t → step s t ≡ None → ¬ Begins (take (k + 1) ts)
stuck_ends ts k s t h g e b =
    let r = begins_reached (take (k + 1) ts) b in
    let q : None ≡ Some r.0 = sym (run_next ts k s t None h g e) ∙ r.1 in absurd cc

no_script : (ts : List Sign) (s : State) (x : Script) → run start ts ≡ Some s → accept s ≡ None → ¬ IsScript ts x
no_script ts s x h a i = let q : None ≡ Some x = sym a ∙ script_is ts s x h i in absurd cc

-- the least place that is refused
pub unexpected_within : (ts : List Sign) (k : ℕ) (s : State) (t : Sign) → run start (take k ts) ≡ Some s → slice_get ts k ≡ Some t → step s t ≡ None → IsUnexpected ts k
unexpected_within ts k s t h g e = record {
  begins = reached_begins (take k ts) s h;
  next = λ _ b. stuck_ends ts k s t h g e b;
  ends = λ l x i. let w : k < length ts = slice_get_within ts k t g in absurd (omega arith);
}

pub unexpected_at_end : (ts : List Sign) (s : State) → run start ts ≡ Some s → accept s ≡ None → IsUnexpected ts (length ts)
unexpected_at_end ts s h a = record {
  begins = subst Begins (sym (take-length ts)) (reached_begins ts s h);
  next = λ l b. absurd (omega arith);
  ends = λ _ x i. no_script ts s x h a i;
}

-- each script's tokens lead to a state that accepts it
pub script_reached : (ts : List Sign) (x : Script) → IsScript ts x → (s : State) × (run start ts ≡ Some s) × (accept s ≡ Some x)
script_reached ts x i = finished (run start ts) x (script_accepted ts x i)
