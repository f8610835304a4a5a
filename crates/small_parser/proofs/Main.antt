-- What the machine has read is a script exactly where it wants a statement.
use Rattle.std.specs.Prelude.{◌≡◌, ℕ, ◌+◌, ◌<◌, ◌≤◌, List, [], ◌∷◌, ◌++◌, map, take, length, Bool, true, false, ◌↔◌, IsTrue, Option, Some, None, refl, reverse}
use Rattle.std.proofs.Common.{sym, ◌∙◌, ap, subst, append_assoc, append-nil, get_or, drop, take_all}
use Rattle.std.proofs.lemmas.List.{take_more, take-append-drop}
use Rattle.small_lexer.specs.declared.token.Token.{Token}
use Rattle.small_parser.specs.declared.reader.Phase.{Phase}
use Rattle.small_parser.specs.declared.reader.Phase.TheVariants as phases
use Rattle.small_parser.specs.declared.reader.Reader.{Reader}
use Rattle.small_parser.specs.Grammar.{Script, Sign, sign_of, KeepsNames, IsScript}
use Rattle.small_parser.specs.Machine.{State, items, step, run, start}
use Rattle.small_parser.specs.Shows.{ScriptShows, IsTree}
use Rattle.small_parser.specs.Reading.{Held, Shows, Follows, PhaseShows, state_script}
use Rattle.small_parser.proofs.Complete.{run_script}
use Rattle.small_parser.proofs.Fine.{run_fine}
use Rattle.small_parser.proofs.Sound.{run_spells}

-- a run over two lists
abbrev and_run : Option State → List Sign → Option State
and_run None ts = None
and_run (Some s) ts = run s ts

on_from : (ts us : List Sign) → ((s : State) → run s (ts ++ us) ≡ and_run (run s ts) us) → (o : Option State)
    → (elim o [ None ↦ None | Some s ↦ run s (ts ++ us) ]) ≡ and_run (elim o [ None ↦ None | Some s ↦ run s ts ]) us
on_from ts us ih None = refl
on_from ts us ih (Some s) = ih s

run_on : (ts us : List Sign) (s : State) → run s (ts ++ us) ≡ and_run (run s ts) us
run_on [] us s = refl
run_on (t ∷ ts) us s = on_from ts us (λ r. run_on ts us r) (step s t)

signs_on : (ts us : List Token) → map sign_of (ts ++ us) ≡ map sign_of ts ++ map sign_of us
signs_on [] us = refl
signs_on (t ∷ ts) us = ap (λ z. sign_of t ∷ z) (signs_on ts us)

-- each script is read
pub script_read : (ts : List Token) (d : Script) → IsScript ts d → run start (map sign_of ts) ≡ Some (items d)
script_read ts d h = subst (λ z. run start z ≡ Some (items d)) h.spelled (run_script d [] h.fine)

-- what leads to where a statement is wanted is a script
pub read_script : (ts : List Token) (d : Script) → run start (map sign_of ts) ≡ Some (items d) → KeepsNames d → IsScript ts d
read_script ts d h keeps = record {
  spelled = run_spells (map sign_of ts) start (items d) [] h ∙ append-nil (map sign_of ts);
  fine = run_fine (map sign_of ts) start (items d) tt h;
  keeps = keeps;
}

-- the tokens lead to a state that the reader shows
abbrev pub Leads : List Token → Reader → Type 0
Leads ts r = (s : State) × (run start (map sign_of ts) ≡ Some s) × Shows s r

follow_true : (o : Option State) (r : Reader) → Follows o true r → (s : State) × (o ≡ Some s) × Shows s r
follow_true None r h = cc
follow_true (Some s) r h = (s, refl, h.1)

follow_false : (o : Option State) (r : Reader) → Follows o false r → o ≡ None
follow_false None r h = refl
follow_false (Some s) r h = let q : false ≡ true = h.0 in cc

-- one more token
pub one_more : (ts : List Token) (i : ℕ) (t : Token) (old new : Reader) → i < length ts → t ≡ get_or ts i t → ((s : State) → Shows s old → Follows (step s (sign_of t)) true new)
    → Leads (take i ts) old → Leads (take (i + 1) ts) new
one_more ts i t old new lt same f (s, h, g) = on (follow_true (step s (sign_of t)) new (f s g))
  where
    on : (r : State) × (step s (sign_of t) ≡ Some r) × Shows r new → Leads (take (i + 1) ts) new
    on (r, e, k) = (r, (ap (λ z. run start (map sign_of z)) (take_more ts i t lt ∙ ap (λ x. take i ts ++ x ∷ []) (sym same)) ∙ ap (run start) (signs_on (take i ts) (t ∷ [])) ∙ run_on (map sign_of (take i ts)) (sign_of t ∷ []) start ∙ rw (h, run, e) refl), k)

-- where the reader refuses a token, there is no script
pub refuses : (ts : List Token) (i : ℕ) (t : Token) (old new : Reader) → i < length ts → t ≡ get_or ts i t → ((s : State) → Shows s old → Follows (step s (sign_of t)) false new)
    → Leads (take i ts) old → (d : Script) → IsScript ts d → ⊥
refuses ts i t old new lt same f (s, h, g) d is =
    let whole : take i ts ++ (t ∷ drop (i + 1) ts) ≡ ts = sym (append_assoc (take i ts) (t ∷ []) (drop (i + 1) ts)) ∙ ap (λ x. x ++ drop (i + 1) ts) (ap (λ x. take i ts ++ x ∷ []) same ∙ sym (take_more ts i t lt)) ∙ take-append-drop (i + 1) ts in
    let stopped : run start (map sign_of (take i ts ++ (t ∷ drop (i + 1) ts))) ≡ None = ap (run start) (signs_on (take i ts) (t ∷ drop (i + 1) ts)) ∙ run_on (map sign_of (take i ts)) (sign_of t ∷ map sign_of (drop (i + 1) ts)) start
    ∙ (rw (h, run, follow_false (step s (sign_of t)) new (f s g)) refl) in
    let q : Some (items d) ≡ None = sym (script_read ts d is) ∙ ap (λ z. run start (map sign_of z)) (sym whole) ∙ stopped in
    cc

pub all_read : (ts : List Token) (i : ℕ) (r : Reader) → length ts ≤ i → Leads (take i ts) r → Leads ts r
all_read ts i r n (s, h, g) = (s, (ap (λ z. run start (map sign_of z)) (sym (take_all i ts n)) ∙ h), g)

items_shown : (s : State) (r : Reader) → Shows s r → r.phase ≡ phases.Items → (d : Script) × (s ≡ items d) × Held d r
items_shown s r h e = on s h.0 (subst (λ z. PhaseShows s z r.nodes r.level (reverse r.outer.items) r.statement) e h.1)
  where
    on : (q : State) → Held (state_script q) r → PhaseShows q phases.Items r.nodes r.level (reverse r.outer.items) r.statement → (d : Script) × (q ≡ items d) × Held d r
    on (items d) a b = (d, refl, a)
    on _ a b = absurd b

-- where the reader wants a statement and keeps the names, the tokens are a script that it shows
pub found : (ts : List Token) (r : Reader) (keeps : Bool) → r.phase ≡ phases.Items → ((s : Script) → Held s r → IsTrue keeps ↔ KeepsNames s) → keeps ≡ true → Leads ts r → (d : Script) × IsScript ts d × ScriptShows d r.nodes r.top
found ts r keeps e k t (s, h, g) = on (items_shown s r g e)
  where
    on : (d : Script) × (s ≡ items d) × Held d r → (d : Script) × IsScript ts d × ScriptShows d r.nodes r.top
    on (d, q, held) = (d, read_script ts d (h ∙ ap (λ x. Some x) q) ((k d held).0 t), held.0)

pub tree : (ts : List Token) (r : Reader) (keeps : Bool) → r.phase ≡ phases.Items → ((s : Script) → Held s r → IsTrue keeps ↔ KeepsNames s) → keeps ≡ true → Leads ts r → IsTree r.nodes r.top
tree ts r keeps e k t h = let f : (d : Script) × IsScript ts d × ScriptShows d r.nodes r.top = found ts r keeps e k t h in (f.0, f.1.fine, f.2, f.1.keeps)

-- each script of these tokens is what it holds
holds : (ts : List Token) (r : Reader) → Leads ts r → (d : Script) → IsScript ts d → Held d r
holds ts r (s, h, g) d is = let q : s ≡ items d = (let w = script_read ts d is in cc) in let k : Shows (items d) r = subst (λ z. Shows z r) q g in k.0

pub gives : (ts : List Token) (r : Reader) → Leads ts r → (d : Script) → IsScript ts d → ScriptShows d r.nodes r.top
gives ts r h d is = let held : Held d r = holds ts r h d is in held.0

-- where it doesn't keep the names, there is no script
pub keeps_none : (ts : List Token) (r : Reader) (keeps : Bool) → ((s : Script) → Held s r → IsTrue keeps ↔ KeepsNames s) → keeps ≡ false → Leads ts r → (d : Script) → IsScript ts d → ⊥
keeps_none ts r keeps k f h d is = let t : keeps ≡ true = (k d (holds ts r h d is)).1 is.keeps in cc

-- elsewhere there is no script
pub ends_none : (ts : List Token) (r : Reader) → (r.phase ≡ phases.Items → ⊥) → Leads ts r → (d : Script) → IsScript ts d → ⊥
ends_none ts r never (s, h, g) d is = let q : s ≡ items d = (let w = script_read ts d is in cc) in on r.phase refl (let k : Shows (items d) r = subst (λ z. Shows z r) q g in k.1)
  where
    on : (p : Phase) → r.phase ≡ p → PhaseShows (items d) p r.nodes r.level (reverse r.outer.items) r.statement → ⊥
    on phases.Items e k = never e
    on _ e k = k
