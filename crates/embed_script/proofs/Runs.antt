-- The statements of a script, one after the other.
use Rattle.std.proofs.Common.{◌≡◌, ℕ, ◌+◌, ◌<◌, List, [], ◌∷◌, ◌++◌, Option, Some, None, Result, Ok, Err, IfSome, IsSomeAnd, slice_get, length, drop, get_or, fold, refl, sym, ap, ◌∙◌, subst, string_bytes}
use Rattle.std.proofs.lemmas.List.{drop_more}
use Rattle.std.proofs.Math.Seq.{drop-length}
use Rattle.std.specs.HashMap as hash
use Rattle.std.specs.Map.{lookup}
use Rattle.std.specs.Option.{option_map}
use Rattle.std.specs.Str.{bytes_eq}
use Rattle.small_parser.specs.declared.script.NodeId.{NodeId}
use Rattle.small_parser.specs.declared.script.Form.{Form}
use Rattle.small_parser.specs.declared.script.Form.TheVariants as forms
use Rattle.small_parser.specs.declared.script.Node.{Node}
use Rattle.small_parser.specs.Grammar.{Arguments, Script, nothing, declaration, binding, printing}
use Rattle.small_parser.specs.Shows.{IsPrint, ArgumentsShow, ScriptShows}
use Rattle.embed_script.specs.declared.state.State.{State}
use Rattle.embed_script.specs.declared.run.Run.{Run}
use Rattle.embed_script.specs.declared.stop.Stop.{Stop}
use Rattle.wasm_store.specs.Store.{empty_store}
use Rattle.embed_script.specs.Ends.{End, done}
use Rattle.embed_script.specs.Functions.{Modules}
use Rattle.embed_script.specs.Evaluation.{Bindings}
use Rattle.embed_script.specs.Outcome.{Statement, declares, binds, prints, statements_of, Progress, going, ended, after, performed, run_of, outcome_of, outcome_of_progress}
use Rattle.embed_script.specs.Stops.{end_of}
use Rattle.embed_script.specs.Tasks.{IsBoundAs, binding_of}
use Rattle.embed_script.specs.Runs.{StatementShows, StatementsShow, FormShows, HasPrinted, Stands, EndedBy, Performs}
use Rattle.embed_script.proofs.Values.{arguments_show}

print_shows : (nodes : List Node) (a : Arguments) (form : Form) → IsPrint (λ ids. ArgumentsShow a nodes ids) form → FormShows nodes (prints a) form
print_shows nodes a (forms.Print arguments) h = arguments_show a nodes arguments h
print_shows nodes a _ h = absurd h

weaker : (o : Option Node) (P Q : Node → Type 0) → ((n : Node) → P n → Q n) → IsSomeAnd o P → IsSomeAnd o Q
weaker (Some n) P Q f h = f n h
weaker None P Q f h = h

statements_append : (nodes : List Node) (ss ts : List Statement) (ids js : List NodeId) → StatementsShow nodes ss ids → StatementsShow nodes ts js → StatementsShow nodes (ss ++ ts) (ids ++ js)
statements_append nodes [] ts [] js h k = k
statements_append nodes (s ∷ ss) ts (id ∷ ids) js h k = (h.0, statements_append nodes ss ts ids js h.1 k)
statements_append nodes [] ts (id ∷ ids) js h k = absurd h
statements_append nodes (s ∷ ss) ts [] js h k = absurd h

-- a script's nodes show its statements
pub statements_show : (d : Script) (nodes : List Node) (ids : List NodeId) → ScriptShows d nodes ids → StatementsShow nodes (statements_of d) ids
statements_show nothing nodes ids is = subst (λ xs. StatementsShow nodes [] xs) (sym is) tt
statements_show (declaration s l w n q e c) nodes ids (front, x, is, (more, at)) =
    subst (λ xs. StatementsShow nodes (statements_of s ++ declares w e ∷ []) xs) (sym is)
    (statements_append nodes (statements_of s) (declares w e ∷ []) front (x ∷ []) (statements_show s nodes front more) (weaker (slice_get nodes x.0) _ _ (λ n h. (tt, h.1)) at, tt))
statements_show (binding s l w n q i c) nodes ids (front, x, is, (more, at)) =
    subst (λ xs. StatementsShow nodes (statements_of s ++ binds l w i ∷ []) xs) (sym is)
    (statements_append nodes (statements_of s) (binds l w i ∷ []) front (x ∷ []) (statements_show s nodes front more) (weaker (slice_get nodes x.0) _ _ (λ n h. h) at, tt))
statements_show (printing s p o a c e) nodes ids (front, x, is, (more, at)) =
    subst (λ xs. StatementsShow nodes (statements_of s ++ prints a ∷ []) xs) (sym is)
    (statements_append nodes (statements_of s) (prints a ∷ []) front (x ∷ []) (statements_show s nodes front more) (weaker (slice_get nodes x.0) _ _ (λ n h. (tt, print_shows nodes a n.form h.1)) at, tt))

ended_after : {A : Type 0} → (o : Option End) (lines : List (List ℕ)) (answer : Result A End) (goes_on : A → Progress) (run : Run) → IfSome o (λ e. answer ≡ Err e) → HasPrinted lines run
    → IfSome o (λ e. EndedBy (after lines answer goes_on) e run)
ended_after None lines answer goes_on run h printed = tt
ended_after (Some e) lines answer goes_on run h printed = record { lines = lines; ends = ap (λ r. after lines r goes_on) h; printed = printed }

-- the run goes on after an answer
pub goes_after : {A B : Type 0} → (r : Result B Stop) (lines : List (List ℕ)) (answer : Result A End) (x : A) (goes_on : A → Progress) (run : Run) → answer ≡ Ok x → Performs r (goes_on x) run → Performs r (after lines answer goes_on) run
goes_after r lines answer x goes_on run is h = subst (λ a. Performs r (after lines a goes_on) run) (sym is) h

-- a run that goes on, the statements that are left, and what all of them give
pub record RunLeft (modules : Modules) (nodes : List Node) (budget : ℕ) (d : Script) (ids : List NodeId) (run : Run) : Type 0 where
  pub bindings : Bindings
  pub lines : List (List ℕ)
  pub rest : List Statement
  pub is_bound : IsBoundAs bindings run.names
  pub printed : HasPrinted lines run
  pub shown : StatementsShow nodes rest ids
  pub gives : run_of modules budget d ≡ fold (performed modules) (going bindings run.state lines) rest

-- the first of the statements that are left
pub record FirstLeft (modules : Modules) (nodes : List Node) (budget : ℕ) (d : Script) (id : NodeId) (ids : List NodeId) (b : Bindings) (left : State) (lines : List (List ℕ)) : Type 0 where
  pub first : Statement
  pub rest : List Statement
  pub first_shown : StatementShows nodes first id
  pub rest_shown : StatementsShow nodes rest ids
  pub gives : run_of modules budget d ≡ fold (performed modules) (performed modules (going b left lines) first) rest

first_of : (modules : Modules) (nodes : List Node) (budget : ℕ) (d : Script) (id : NodeId) (ids : List NodeId) (b : Bindings) (left : State) (lines : List (List ℕ)) (ss : List Statement)
    → StatementsShow nodes ss (id ∷ ids) → run_of modules budget d ≡ fold (performed modules) (going b left lines) ss → FirstLeft modules nodes budget d id ids b left lines
first_of modules nodes budget d id ids b left lines [] shown gives = absurd shown
first_of modules nodes budget d id ids b left lines (s ∷ ss) shown gives = record { first = s; rest = ss; first_shown = shown.0; rest_shown = shown.1; gives = gives }

pub first_left : (modules : Modules) (nodes : List Node) (budget : ℕ) (d : Script) (ids : List NodeId) (i : ℕ) (x : NodeId) (run : Run) → i < length ids → (h : RunLeft modules nodes budget d (drop i ids) run) → FirstLeft modules nodes budget d (get_or ids i x) (drop (i + 1) ids) h.bindings run.state h.lines
first_left modules nodes budget d ids i x run within h =
    first_of modules nodes budget d (get_or ids i x) (drop (i + 1) ids) h.bindings run.state h.lines h.rest (subst (λ xs. StatementsShow nodes h.rest xs) (drop_more ids i x within) h.shown) h.gives

-- a statement was performed, and the run goes on
pub performed_left : (modules : Modules) (nodes : List Node) (budget : ℕ) (d : Script) (ids : List NodeId) (run : Run) (p : Progress) (rest : List Statement) → Stands p run → StatementsShow nodes rest ids → run_of modules budget d ≡ fold (performed modules) p rest → RunLeft modules nodes budget d ids run
performed_left modules nodes budget d ids run (going b left lines) rest stands shown gives = record { bindings = b; lines = lines; rest = rest; is_bound = stands.0; printed = stands.1; shown = shown; gives = gives ∙ ap (λ n. fold (performed modules) (going b n lines) rest) stands.2 }
performed_left modules nodes budget d ids run (ended lines end) rest stands shown gives = absurd stands

ended_stays : (modules : Modules) (lines : List (List ℕ)) (end : End) (rest : List Statement) → fold (performed modules) (ended lines end) rest ≡ ended lines end
ended_stays modules lines end [] = refl
ended_stays modules lines end (s ∷ ss) = ended_stays modules lines end ss

stays_ended : (modules : Modules) (budget : ℕ) (d : Script) (run : Run) (end : End) (p : Progress) (rest : List Statement) → EndedBy p end run → run_of modules budget d ≡ fold (performed modules) p rest → EndedBy (run_of modules budget d) end run
stays_ended modules budget d run end p rest h gives = record { lines = h.lines; ends = gives ∙ ap (λ q. fold (performed modules) q rest) h.ends ∙ ended_stays modules h.lines end rest; printed = h.printed }

ended_for_good : (modules : Modules) (budget : ℕ) (d : Script) (run : Run) (o : Option End) (p : Progress) (rest : List Statement) → IfSome o (λ e. EndedBy p e run) → run_of modules budget d ≡ fold (performed modules) p rest → IfSome o (λ e. EndedBy (run_of modules budget d) e run)
ended_for_good modules budget d run None p rest h gives = tt
ended_for_good modules budget d run (Some e) p rest h gives = stays_ended modules budget d run e p rest h gives

-- what ends a run ends it for good
pub stopped_left : (modules : Modules) (budget : ℕ) (d : Script) (run : Run) (stop : Stop) (p : Progress) (rest : List Statement) → Performs {A = Unit {0}} (Err stop) p run → run_of modules budget d ≡ fold (performed modules) p rest → Performs {A = Unit {0}} (Err stop) (run_of modules budget d) run
stopped_left modules budget d run stop p rest h gives = ended_for_good modules budget d run (end_of stop) p rest h gives

nothing_left : (modules : Modules) (nodes : List Node) (budget : ℕ) (d : Script) (b : Bindings) (left : State) (lines : List (List ℕ)) (ss : List Statement) → StatementsShow nodes ss [] → run_of modules budget d ≡ fold (performed modules) (going b left lines) ss → outcome_of modules budget d ≡ record { lines = lines; end = done }
nothing_left modules nodes budget d b left lines [] shown gives = ap outcome_of_progress gives
nothing_left modules nodes budget d b left lines (s ∷ ss) shown gives = absurd shown

-- no statement is left
pub done_outcome : (modules : Modules) (nodes : List Node) (budget : ℕ) (d : Script) (ids : List NodeId) (i : ℕ) (run : Run) → i ≡ length ids → (h : RunLeft modules nodes budget d (drop i ids) run) → outcome_of modules budget d ≡ record { lines = h.lines; end = done }
done_outcome modules nodes budget d ids i run at_end h =
    nothing_left modules nodes budget d h.bindings run.state h.lines h.rest (subst (λ xs. StatementsShow nodes h.rest xs) (ap (λ j. drop j ids) at_end ∙ drop-length ids) h.shown) h.gives

-- the start of a run
pub begun_left : (modules : Modules) (nodes : List Node) (budget : ℕ) (d : Script) (ids : List NodeId) (run : Run) → ScriptShows d nodes ids → hash.IsEmpty run.names → string_bytes run.text ≡ [] → run.state ≡ record { store = empty_store; left = budget } → RunLeft modules nodes budget d ids run
begun_left modules nodes budget d ids run shows empty no_text whole = record {
  bindings = λ name. None;
  lines = [];
  rest = statements_of d;
  is_bound = λ name. ap (λ es. option_map binding_of (lookup (λ k. bytes_eq name (string_bytes k)) es)) empty;
  printed = no_text;
  shown = statements_show d nodes ids shows;
  gives = ap (λ n. fold (performed modules) (going (λ name. None) n []) (statements_of d)) (sym whole);
}

-- the statements that are left
pub record StatementsLeft (nodes : List Node) (ids : List NodeId) : Type 0 where
  pub rest : List Statement
  pub shown : StatementsShow nodes rest ids

pub all_left : (d : Script) (nodes : List Node) (ids : List NodeId) → ScriptShows d nodes ids → StatementsLeft nodes ids
all_left d nodes ids shows = record { rest = statements_of d; shown = statements_show d nodes ids shows }

cut : (nodes : List Node) (id : NodeId) (ids : List NodeId) (ss : List Statement) → StatementsShow nodes ss (id ∷ ids) → ((s : Statement) × StatementShows nodes s id) × StatementsLeft nodes ids
cut nodes id ids [] h = absurd h
cut nodes id ids (s ∷ ss) h = ((s, h.0), record { rest = ss; shown = h.1 })

-- the first of them, and the others
pub cut_first : (nodes : List Node) (ids : List NodeId) (i : ℕ) (x : NodeId) → i < length ids → StatementsLeft nodes (drop i ids) → ((s : Statement) × StatementShows nodes s (get_or ids i x)) × StatementsLeft nodes (drop (i + 1) ids)
cut_first nodes ids i x within h = cut nodes (get_or ids i x) (drop (i + 1) ids) h.rest (subst (λ xs. StatementsShow nodes h.rest xs) (drop_more ids i x within) h.shown)
