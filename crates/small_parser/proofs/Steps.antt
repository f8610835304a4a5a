-- What a step of the reader shows.
use Rattle.std.specs.Prelude.{◌≡◌, ℕ, ◌+◌, nat_lt, List, [], ◌∷◌, ◌++◌, Option, Some, reverse, Bool, true, refl, length, cond, Result, Ok, Err, IfOk}
use Rattle.std.specs.List.{list_any}
use Rattle.std.specs.Str.{bytes_eq}
use Rattle.std.proofs.Common.{sym, ◌∙◌, ap, subst, arith, Global}
use Rattle.std.proofs.lemmas.Bool.Decides.{nat_tests}
use Rattle.std.proofs.lemmas.List.{reverse-append, length-reverse}
use denote.Ref.{Bor}
use Rattle.std.specs.declared.vec.Vec.{Vec}
use Rattle.small_parser.specs.declared.script.NodeId.{NodeId}
use Rattle.small_parser.specs.declared.script.Form.{Form}
use Rattle.small_parser.specs.declared.script.Form.TheVariants as forms
use Rattle.small_parser.specs.declared.script.Node.{Node}
use Rattle.small_parser.specs.declared.chain.Level as code
use Rattle.small_parser.specs.declared.reader.Call.{Call}
use Rattle.small_parser.specs.declared.reader.Outer as code_outer
use Rattle.small_parser.specs.declared.reader.Outer.TheVariants as outers
use Rattle.small_parser.specs.declared.reader.Statement.{Statement}
use Rattle.small_parser.specs.declared.reader.Statement.TheVariants as statements
use Rattle.small_parser.specs.declared.reader.Phase.TheVariants as phases
use Rattle.small_parser.specs.declared.reader.Reader.{Reader}
use Rattle.small_parser.specs.Grammar.{Sum, Factor, number, text, name, call, Passed, passed, Arguments, Instance, Script, declaration, binding, printing, most_open}
use Rattle.small_parser.specs.Machine.{BeforeListed, no_listed, listed_before, Level, Outer, in_let, in_print, in_parens, in_call, State, items, have, script_of, open_in, listed_with, passed_with, sum_of, fresh, closed, parted, ended}
use Rattle.small_parser.specs.Shows.{IsNumber, IsText, IsName, IsCall, IsLet, IsBind, IsPrint, AreBelow, SumShows, FactorShows, PassedShow, ArgumentsShow, ScriptShows}
use Rattle.small_parser.specs.Chains.{BeforeListedShows, LevelShows, Grows}
use Rattle.small_parser.specs.Reading.{OuterShows, Knows, Held, Shows, Follows, FromHave, FromClosed, FromArguments}
use Rattle.small_parser.proofs.Grow.{at_end, sum_kept, before_listed_kept, passed_kept, passed_below, arguments_kept, script_kept, level_kept, outer_kept}
use Rattle.small_parser.proofs.Closes.{listed_pushed}

-- in a `print` one more parenthesis is open than there are open in its argument
pub open_print : (outer : Outer) (nodes : List Node) (vs : List code_outer.Outer) (q : ℕ) (ids : List NodeId) → OuterShows outer nodes vs (statements.Print q ids) → open_in outer ≡ length vs + 1
open_print (in_let s l w n q) nodes [] k ids h = absurd h
open_print (in_let s l w n q) nodes (v ∷ vs) k ids h = absurd h
open_print (in_print s p o a) nodes [] k ids h = refl
open_print (in_print s p o a) nodes (v ∷ vs) k ids h = absurd h
open_print (in_parens o l outer) nodes [] k ids h = absurd h
open_print (in_parens o l outer) nodes (outers.Parens v ∷ vs) k ids h = let e : open_in outer ≡ length vs + 1 = open_print outer nodes vs k ids h.1 in omega arith
open_print (in_parens o l outer) nodes (outers.Call v c ∷ vs) k ids h = absurd h
open_print (in_call w p o a l outer) nodes [] k ids h = absurd h
open_print (in_call w p o a l outer) nodes (outers.Call v c ∷ vs) k ids h = let e : open_in outer ≡ length vs + 1 = open_print outer nodes vs k ids h.2 in omega arith
open_print (in_call w p o a l outer) nodes (outers.Parens v ∷ vs) k ids h = absurd h

-- and elsewhere just those
pub open_other : (outer : Outer) (nodes : List Node) (vs : List code_outer.Outer) (around : Statement) → ((q : ℕ) (ids : List NodeId) → around ≡ statements.Print q ids → ⊥) → OuterShows outer nodes vs around → open_in outer ≡ length vs
open_other (in_let s l w n q) nodes [] around never h = refl
open_other (in_let s l w n q) nodes (v ∷ vs) around never h = absurd h
open_other (in_print s p o a) nodes [] (statements.Print q ids) never h = absurd (never q ids refl)
open_other (in_print s p o a) nodes [] _ never h = absurd h
open_other (in_print s p o a) nodes (v ∷ vs) around never h = absurd h
open_other (in_parens o l outer) nodes [] around never h = absurd h
open_other (in_parens o l outer) nodes (outers.Parens v ∷ vs) around never h = let e : open_in outer ≡ length vs = open_other outer nodes vs around never h.1 in omega arith
open_other (in_parens o l outer) nodes (outers.Call v c ∷ vs) around never h = absurd h
open_other (in_call w p o a l outer) nodes [] around never h = absurd h
open_other (in_call w p o a l outer) nodes (outers.Call v c ∷ vs) around never h = let e : open_in outer ≡ length vs = open_other outer nodes vs around never h.2 in omega arith
open_other (in_call w p o a l outer) nodes (outers.Parens v ∷ vs) around never h = absurd h

room_same : (n m : ℕ) → m ≡ n + 1 → nat_lt n 255 ≡ nat_lt m most_open
room_same n m e = grind (arith, nat_tests)

-- whether there is room, by the number of parentheses in the expression
pub room_print : (outer : Outer) (nodes : List Node) (vs : List code_outer.Outer) (around : Statement) (q n : ℕ) (ids : List NodeId) → around ≡ statements.Print q ids → n ≡ length vs → OuterShows outer nodes (reverse vs) around
    → nat_lt n 255 ≡ nat_lt (open_in outer) most_open
room_print outer nodes vs around q n ids e l h =
    let opens : open_in outer ≡ length (reverse vs) + 1 = open_print outer nodes (reverse vs) q ids (subst (λ z. OuterShows outer nodes (reverse vs) z) e h) in
    room_same n (open_in outer) (omega (arith, length-reverse vs))

pub room_other : (outer : Outer) (nodes : List Node) (vs : List code_outer.Outer) (around : Statement) (n : ℕ) → ((q : ℕ) (ids : List NodeId) → around ≡ statements.Print q ids → ⊥) → n ≡ length vs → OuterShows outer nodes (reverse vs) around
    → nat_lt n 256 ≡ nat_lt (open_in outer) most_open
room_other outer nodes vs around n never l h = ap (λ m. nat_lt m 256) (l ∙ sym (open_other outer nodes (reverse vs) around never h ∙ length-reverse vs))

-- a node was added, and is the operand now
pub made : (f : Factor) (r : Reader) (nodes : List Node) (form : Form) (place : ℕ) (id : NodeId) (l : Level) (outer : Outer)
    → id.0 ≡ length r.nodes → nodes ≡ r.nodes ++ record { form = form; place = place } ∷ [] → FactorShows f (r.nodes ++ record { form = form; place = place } ∷ []) (length r.nodes)
    → Held (script_of outer) r → LevelShows l r.nodes r.level → OuterShows outer r.nodes (reverse r.outer.items) r.statement
    → Shows (have f l outer) (record r { nodes = nodes; phase = phases.Have id })
made f r nodes form place id l outer e1 e2 shown h hl ho =
    let grown : Grows r.nodes nodes = (record { form = form; place = place } ∷ [], e2) in
    ((script_kept r.nodes nodes (script_of outer) r.top grown h.0, h.1, h.2), (rw (e1, e2) shown, level_kept r.nodes nodes l r.level grown hl, outer_kept r.nodes nodes outer (reverse r.outer.items) r.statement grown ho))

pub number_made : (nodes : List Node) (n k : ℕ) → FactorShows (number n k) (nodes ++ record { form = forms.Number n; place = k } ∷ []) (length nodes)
number_made nodes n k = at_end nodes (forms.Number n) k k (IsNumber n) refl refl

pub text_made : (nodes : List Node) (s : List ℕ) (k : ℕ) → FactorShows (text s k) (nodes ++ record { form = forms.Text s; place = k } ∷ []) (length nodes)
text_made nodes s k = at_end nodes (forms.Text s) k k (IsText s) refl refl

pub name_made : (nodes : List Node) (w : List ℕ) (k : ℕ) → FactorShows (name w k) (nodes ++ record { form = forms.Name w; place = k } ∷ []) (length nodes)
name_made nodes w k = at_end nodes (forms.Name w) k k (IsName w) refl refl

-- the innermost parenthesis was taken off the list
pub popped : (outer : Outer) (nodes : List Node) (vs rest : List code_outer.Outer) (v : code_outer.Outer) (around : Statement) → vs ≡ rest ++ v ∷ [] → OuterShows outer nodes (reverse vs) around → OuterShows outer nodes (v ∷ reverse rest) around
popped outer nodes vs rest v around e h = subst (λ z. OuterShows outer nodes z around) (ap reverse e ∙ reverse-append rest (v ∷ [])) h

-- what follows where it was taken off follows where it was the innermost one
pub from_closed : (next : Factor → Level → Outer → Option State) (operand : NodeId) (taken : code_outer.Outer) (old : Reader) (rest : Vec code_outer.Outer Global) (went : Bool) (new : Reader)
    → old.outer.items ≡ rest.items ++ taken ∷ [] → FromClosed next operand taken (record old { outer = rest }) went new → FromHave next operand old went new
from_closed next operand taken old rest went new e g = λ f l outer h hf hl ho. g f l outer h hf hl (popped outer old.nodes old.outer.items rest.items taken old.statement e ho)

pub closes_parens : (outer : Outer) (f : Factor) (l : Level) (k : ℕ) (r : Reader) (nodes : List Node) (v : code.Level) (id : NodeId)
    → Grows r.nodes nodes → SumShows (sum_of l f) nodes id.0 → Held (script_of outer) r → OuterShows outer r.nodes (outers.Parens v ∷ reverse r.outer.items) r.statement
    → Follows (closed f l outer k) true (record r { nodes = nodes; level = v; phase = phases.Have id })
closes_parens (in_let s t w n q) f l k r nodes v id g e h ho = absurd ho
closes_parens (in_print s p o a) f l k r nodes v id g e h ho = absurd ho
closes_parens (in_call w p o a m outer) f l k r nodes v id g e h ho = absurd ho
closes_parens (in_parens o m outer) f l k r nodes v id g e h ho =
    (refl, ((script_kept r.nodes nodes (script_of outer) r.top g h.0, h.1, h.2), (e, level_kept r.nodes nodes m v g ho.0, outer_kept r.nodes nodes outer (reverse r.outer.items) r.statement g ho.1)))

pub call_made : (nodes : List Node) (w : List ℕ) (k o : ℕ) (a : Passed) (c : ℕ) (arguments : List NodeId) → PassedShow a nodes arguments
    → FactorShows (call w k o a c) (nodes ++ record { form = forms.Call w arguments; place = o } ∷ []) (length nodes)
call_made nodes w k o a c arguments shown =
    let longer : List Node = nodes ++ record { form = forms.Call w arguments; place = o } ∷ [] in
    let grown : Grows nodes longer = (record { form = forms.Call w arguments; place = o } ∷ [], refl) in
    at_end nodes (forms.Call w arguments) o o (IsCall w (λ xs. PassedShow a longer xs × AreBelow xs (length nodes))) refl (refl, (passed_kept nodes longer a arguments grown shown, passed_below a nodes arguments shown))

-- a call without arguments, or after a comma
pub passed_shown : (a : BeforeListed) (nodes : List Node) (ids : List NodeId) → BeforeListedShows a nodes ids → PassedShow (passed_with a) nodes ids
passed_shown no_listed nodes ids h = h
passed_shown (listed_before l k) nodes ids h = h

-- the name and the place of a call are those of its derivation
pub as_called : (w v : List ℕ) (o p : ℕ) (k : ℕ) (a : Passed) (c : ℕ) (l : Level) (outer : Outer) (went : Bool) (new : Reader) → v ≡ w → p ≡ o
    → Follows (Some (have (call v k p a c) l outer)) went new → Follows (Some (have (call w k o a c) l outer)) went new
as_called w v o p k a c l outer went new e1 e2 h = subst (λ z. Follows (Some (have (call z k o a c) l outer)) went new) e1 (subst (λ z. Follows (Some (have (call v k z a c) l outer)) went new) e2 h)

pub ends_call : (w : List ℕ) (p o : ℕ) (a : BeforeListed) (l : Level) (outer : Outer) (k : ℕ) (r : Reader) (rest : Vec code_outer.Outer Global) (outside : code.Level) (c : Call) (went : Bool) (new : Reader)
    → r.outer.items ≡ rest.items ++ outers.Call outside c ∷ [] → FromArguments (λ w p o a l outer. Some (have (call w p o a k) l outer)) outside c (record r { outer = rest }) went new
    → Held (script_of outer) r → OuterShows (in_call w p o a l outer) r.nodes (reverse r.outer.items) r.statement → Follows (Some (have (call w p o (passed_with a) k) l outer)) went new
ends_call w p o a l outer k r rest outside c went new e add h ho =
    let around : OuterShows (in_call w p o a l outer) r.nodes (outers.Call outside c ∷ reverse rest.items) r.statement = popped (in_call w p o a l outer) r.nodes r.outer.items rest.items (outers.Call outside c) r.statement e ho in
    as_called w c.callee.now o c.place p (passed_with a) k l outer went new around.1.0 around.1.1 (add p (passed_with a) l outer h around.0 (passed_shown a r.nodes c.arguments around.1.2) around.2)

pub closes_call : (outer : Outer) (f : Factor) (l : Level) (k : ℕ) (r : Reader) (nodes : List Node) (v outside : code.Level) (c : Call) (longer : List NodeId) (x : NodeId) (went : Bool) (new : Reader)
    → Grows r.nodes nodes → SumShows (sum_of l f) nodes x.0 → longer ≡ c.arguments ++ x ∷ []
    → FromArguments (λ w p o a l outer. Some (have (call w p o a k) l outer)) outside (record c { arguments = longer }) (record r { nodes = nodes; level = v }) went new
    → Held (script_of outer) r → OuterShows outer r.nodes (outers.Call outside c ∷ reverse r.outer.items) r.statement → Follows (closed f l outer k) went new
closes_call (in_let s t w n q) f l k r nodes v outside c longer x went new g e1 e2 add h ho = absurd ho
closes_call (in_print s p o a) f l k r nodes v outside c longer x went new g e1 e2 add h ho = absurd ho
closes_call (in_parens o m outer) f l k r nodes v outside c longer x went new g e1 e2 add h ho = absurd ho
closes_call (in_call w p o a m outer) f l k r nodes v outside c longer x went new g e1 e2 add h ho =
    as_called w c.callee.now o c.place p (passed (listed_with a (sum_of l f))) k m outer went new ho.1.0 ho.1.1
    (add p (passed (listed_with a (sum_of l f))) m outer (script_kept r.nodes nodes (script_of outer) r.top g h.0, h.1, h.2) (level_kept r.nodes nodes m outside g ho.0)
    (listed_pushed a (sum_of l f) nodes c.arguments longer x e2 (before_listed_kept r.nodes nodes a c.arguments g ho.1.2) e1)
    (outer_kept r.nodes nodes outer (reverse r.outer.items) r.statement g ho.2))

pub closes_print : (outer : Outer) (f : Factor) (l : Level) (k : ℕ) (r : Reader) (nodes : List Node) (around : Statement) (v : code.Level) (place : ℕ) (ids longer : List NodeId) (x : NodeId)
    → Grows r.nodes nodes → SumShows (sum_of l f) nodes x.0 → longer ≡ ids ++ x ∷ [] → Held (script_of outer) r → OuterShows outer r.nodes [] (statements.Print place ids) → reverse r.outer.items ≡ []
    → Follows (closed f l outer k) true (record r { nodes = nodes; statement = around; level = v; phase = phases.Printed place longer })
closes_print (in_let s t w n q) f l k r nodes around v place ids longer x g e1 e2 h ho alone = absurd ho
closes_print (in_print s p o a) f l k r nodes around v place ids longer x g e1 e2 h ho alone =
    (refl, ((script_kept r.nodes nodes s r.top g h.0, h.1, h.2), (ho.0, listed_pushed a (sum_of l f) nodes ids longer x e2 (before_listed_kept r.nodes nodes a ids g ho.1) e1, alone)))
closes_print (in_call w q o a m outer) f l k r nodes around v place ids longer x g e1 e2 h ho alone = absurd ho
closes_print (in_parens o m outer) f l k r nodes around v place ids longer x g e1 e2 h ho alone = absurd ho

pub parts_print : (outer : Outer) (f : Factor) (l : Level) (k : ℕ) (r : Reader) (nodes : List Node) (v : code.Level) (place : ℕ) (ids longer : List NodeId) (x : NodeId)
    → Grows r.nodes nodes → SumShows (sum_of l f) nodes x.0 → longer ≡ ids ++ x ∷ [] → LevelShows fresh nodes v → Held (script_of outer) r → OuterShows outer r.nodes [] (statements.Print place ids) → reverse r.outer.items ≡ []
    → Follows (parted f l outer k) true (record r { nodes = nodes; statement = statements.Print place longer; level = v; phase = phases.Want })
parts_print (in_let s t w n q) f l k r nodes v place ids longer x g e1 e2 hl h ho alone = absurd ho
parts_print (in_print s p o a) f l k r nodes v place ids longer x g e1 e2 hl h ho alone = (
  refl,
  (
    (script_kept r.nodes nodes s r.top g h.0, h.1, h.2),
    (
      hl,
      subst (λ z. OuterShows (in_print s p o (listed_before (listed_with a (sum_of l f)) k)) nodes z (statements.Print place longer)) (sym alone)
          (ho.0, listed_pushed a (sum_of l f) nodes ids longer x e2 (before_listed_kept r.nodes nodes a ids g ho.1) e1),
    ),
  ),
)
parts_print (in_call w q o a m outer) f l k r nodes v place ids longer x g e1 e2 hl h ho alone = absurd ho
parts_print (in_parens o m outer) f l k r nodes v place ids longer x g e1 e2 hl h ho alone = absurd ho

pub parts_call : (outer : Outer) (f : Factor) (l : Level) (k : ℕ) (r : Reader) (nodes : List Node) (pushed : Vec code_outer.Outer Global) (v outside : code.Level) (c : Call) (longer : List NodeId) (x : NodeId)
    → Grows r.nodes nodes → SumShows (sum_of l f) nodes x.0 → longer ≡ c.arguments ++ x ∷ [] → pushed.items ≡ r.outer.items ++ outers.Call outside (record c { arguments = longer }) ∷ []
    → Held (script_of outer) r → OuterShows outer r.nodes (outers.Call outside c ∷ reverse r.outer.items) r.statement
    → Follows (parted f l outer k) true (record r { nodes = nodes; outer = pushed; level = v; phase = phases.Passing })
parts_call (in_let s t w n q) f l k r nodes pushed v outside c longer x g e1 e2 e3 h ho = absurd ho
parts_call (in_print s p o a) f l k r nodes pushed v outside c longer x g e1 e2 e3 h ho = absurd ho
parts_call (in_parens o m outer) f l k r nodes pushed v outside c longer x g e1 e2 e3 h ho = absurd ho
parts_call (in_call w p o a m outer) f l k r nodes pushed v outside c longer x g e1 e2 e3 h ho = (
  refl,
  (
    (script_kept r.nodes nodes (script_of outer) r.top g h.0, h.1, h.2),
    subst (λ z. OuterShows (in_call w p o (listed_before (listed_with a (sum_of l f)) k) m outer) nodes z r.statement)
        (sym (ap reverse e3 ∙ reverse-append r.outer.items (outers.Call outside (record c { arguments = longer }) ∷ []))) (
          level_kept r.nodes nodes m outside g ho.0,
          (ho.1.0, ho.1.1, listed_pushed a (sum_of l f) nodes c.arguments longer x e2 (before_listed_kept r.nodes nodes a c.arguments g ho.1.2) e1),
          outer_kept r.nodes nodes outer (reverse r.outer.items) r.statement g ho.2,
        ),
  ),
)

pub no_parens : (vs : List code_outer.Outer) → length vs ≡ 0 → reverse vs ≡ []
no_parens [] e = refl
no_parens (v ∷ vs) e = absurd (omega arith)

-- a declaration was added
pub declares : (s : Script) (l : ℕ) (w : List ℕ) (n q : ℕ) (e : Sum) (c : ℕ) (old mid new : List Node) (ids longer : List NodeId) (value x : NodeId)
    → Grows old mid → SumShows e mid value.0 → x.0 ≡ length mid → new ≡ mid ++ record { form = forms.Let w value; place = l } ∷ [] → longer ≡ ids ++ x ∷ []
    → ScriptShows s old ids → ScriptShows (declaration s l w n q e c) new longer
declares s l w n q e c old mid new ids longer value x g shown e1 e2 e3 h =
    let node : Node = record { form = forms.Let w value; place = l } in
    let grown : Grows mid (mid ++ node ∷ []) = (node ∷ [], refl) in (
      ids,
      x,
      e3,
      (
        script_kept mid new s ids (node ∷ [], e2) (script_kept old mid s ids g h),
        rw (e1, e2) (at_end mid (forms.Let w value) l l (IsLet w (λ v. SumShows e (mid ++ node ∷ []) v)) refl (refl, sum_kept mid (mid ++ node ∷ []) e value.0 grown shown)),
      ),
    )

-- a name was bound
pub binds : (s : Script) (l : ℕ) (w : List ℕ) (n q : ℕ) (i : Instance) (c : ℕ) (old new : List Node) (ids longer : List NodeId) (x : NodeId) (file export : List ℕ)
    → file ≡ i.file → export ≡ i.export → x.0 ≡ length old → new ≡ old ++ record { form = forms.Bind w file export; place = l } ∷ [] → longer ≡ ids ++ x ∷ []
    → ScriptShows s old ids → ScriptShows (binding s l w n q i c) new longer
binds s l w n q i c old new ids longer x file export f1 f2 e1 e2 e3 h =
    let node : Node = record { form = forms.Bind w file export; place = l } in
    (ids, x, e3, (script_kept old new s ids (node ∷ [], e2) h, rw (e1, e2) (at_end old (forms.Bind w file export) l l (IsBind w i) refl (refl, f1, f2))))

-- a name was added
pub knows_more : (known : List (List ℕ)) (keys more : List (Bor (List ℕ))) (w : Bor (List ℕ))
    → ((q : Bor (List ℕ)) → list_any (λ k. bytes_eq q.now k.now) more ≡ cond (bytes_eq w.now q.now) true (list_any (λ k. bytes_eq q.now k.now) keys)) → Knows known keys → Knows (w.now ∷ known) more
knows_more known keys more w u h = λ q. u q ∙ ap (cond (bytes_eq w.now q.now) true) (h q)

-- a `print` was added
pub prints : (s : Script) (p o : ℕ) (a : Arguments) (c e : ℕ) (old new : List Node) (ids longer arguments : List NodeId) (x : NodeId)
    → ArgumentsShow a old arguments → x.0 ≡ length old → new ≡ old ++ record { form = forms.Print arguments; place = p } ∷ [] → longer ≡ ids ++ x ∷ []
    → ScriptShows s old ids → ScriptShows (printing s p o a c e) new longer
prints s p o a c e old new ids longer arguments x shown e1 e2 e3 h =
    let node : Node = record { form = forms.Print arguments; place = p } in
    let grown : Grows old (old ++ node ∷ []) = (node ∷ [], refl) in (
      ids,
      x,
      e3,
      (
        script_kept old new s ids (node ∷ [], e2) h,
        rw (e1, e2) (at_end old (forms.Print arguments) p p (IsPrint (λ xs. ArgumentsShow a (old ++ node ∷ []) xs)) refl (arguments_kept old (old ++ node ∷ []) a arguments grown shown)),
      ),
    )

pub if_ok : {A E : Type 0} (r : Result A E) (P Q : A → Type 0) → IfOk r P → ((x : A) → P x → Q x) → IfOk r Q
if_ok (Ok x) P Q h g = g x h
if_ok (Err e) P Q h g = h

pub begins_print : (s : Script) (p o : ℕ) (nodes : List Node) (vs : List code_outer.Outer) (ids : List NodeId) → vs ≡ [] → ids ≡ [] → OuterShows (in_print s p o no_listed) nodes vs (statements.Print p ids)
begins_print s p o nodes vs ids e1 e2 = subst (λ z. OuterShows (in_print s p o no_listed) nodes z (statements.Print p ids)) (sym e1) (refl, e2)

pub begins_let : (s : Script) (n q : ℕ) (nodes : List Node) (vs : List code_outer.Outer) (place : ℕ) (w : Bor (List ℕ)) → vs ≡ [] → OuterShows (in_let s place w.now n q) nodes vs (statements.Let place w)
begins_let s n q nodes vs place w e = subst (λ z. OuterShows (in_let s place w.now n q) nodes z (statements.Let place w)) (sym e) (refl, refl)

-- a `let` ends where no parenthesis is open
let_around : (outer : Outer) (nodes : List Node) (vs : List code_outer.Outer) (place : ℕ) (w : Bor (List ℕ)) → vs ≡ [] → OuterShows outer nodes vs (statements.Let place w)
    → (s : Script) × (n : ℕ) × (q : ℕ) × (outer ≡ in_let s place w.now n q)
let_around (in_let s l v n q) nodes [] place w e h = (s, n, q, ap (λ a. in_let s a v n q) (sym h.0) ∙ ap (λ b. in_let s place b n q) (sym h.1))
let_around (in_print s p o a) nodes [] place w e h = absurd h
let_around (in_parens o m outer) nodes [] place w e h = absurd h
let_around (in_call v k o a m outer) nodes [] place w e h = absurd h
let_around outer nodes (v ∷ vs) place w e h = cc

pub let_ends : (outer : Outer) (nodes : List Node) (vs : List code_outer.Outer) (place : ℕ) (w : Bor (List ℕ)) (f : Factor) (l : Level) (k : ℕ) (F : Option State → Type 0) (H : Script → Type 0)
    → vs ≡ [] → OuterShows outer nodes vs (statements.Let place w) → H (script_of outer) → ((s : Script) (n q : ℕ) → H s → F (Some (items (declaration s place w.now n q (sum_of l f) k)))) → F (ended f l outer k)
let_ends outer nodes vs place w f l k F H e ho h g = on (let_around outer nodes vs place w e ho)
  where
    on : (s : Script) × (n : ℕ) × (q : ℕ) × (outer ≡ in_let s place w.now n q) → F (ended f l outer k)
    on (s, n, q, same) = subst (λ z. F (ended f l z k)) (sym same) (g s n q (subst (λ z. H (script_of z)) same h))
