-- One step of an evaluation.
use Rattle.std.proofs.Common.{◌≡◌, ℕ, suc, ◌+◌, ◌-◌, ◌<◌, ◌≤◌, List, [], ◌∷◌, ◌++◌, Option, Some, None, Result, Ok, Err, IsSomeAnd, IfSome, slice_get, get_or, length, reverse, take, drop, OnOk, inl, inr, Vec, Global, refl, sym, ap, ◌∙◌, subst, arith}
use Rattle.std.proofs.lemmas.List.{reverse-append, length-reverse, reverse-reverse, take-append-drop, length-drop}
use Rattle.std.proofs.lemmas.List.Sums.{sum_by-append}
use Rattle.std.proofs.lemmas.Option.{slice_get_cases, slice_get_read}
use Rattle.std.proofs.Math.Seq.{take-append_seam, drop-append_seam, take-length}
use Rattle.small_parser.specs.declared.script.NodeId.{NodeId}
use Rattle.small_parser.specs.declared.script.Operand.{Operand}
use Rattle.small_parser.specs.declared.script.Form.{Form}
use Rattle.small_parser.specs.declared.script.Form.TheVariants as forms
use Rattle.small_parser.specs.declared.script.Node.{Node}
use Rattle.small_parser.specs.Grammar.{Sum, product, added, Product, factor, times, Factor, number, text, name, parens, call}
use Rattle.small_parser.specs.Shows.{SumShows, ProductShows, FactorShows}
use Rattle.embed_script.specs.declared.state.State.{State}
use Rattle.embed_script.specs.declared.value.Value.{Value}
use Rattle.embed_script.specs.declared.evaluate.Task.{Task}
use Rattle.embed_script.specs.declared.evaluate.Task.TheVariants as tasks
use Rattle.embed_script.specs.declared.stop.Stop.{Stop}
use Rattle.embed_script.specs.Ends.{End, and_then, keeping}
use Rattle.embed_script.specs.Stops.{end_of, Ends}
use Rattle.embed_script.specs.Evaluation.{Bindings, Answer, sum_value, called}
use Rattle.embed_script.specs.Tasks.{Todo, evaluates, calls, perform, Fits, TodosShow, chain_tasks, tasks_size, task_size, size_of, Continues, Steps, last_value, call_tasks}
use Rattle.embed_script.proofs.Sizes.{chain_smaller, call_smaller, size_least}
use Rattle.embed_script.proofs.Chains.{Unrolls, ReadsChain, ReadsCall, Reads, reads_sum, show_append}

ended_first : {A B : Type 0} → (o : Option End) (a : Result A End) (f : A → Result B End) → IfSome o (λ e. a ≡ Err e) → IfSome o (λ e. and_then a f ≡ Err e)
ended_first None a f h = tt
ended_first (Some e) a f h = ap (λ r. and_then r f) h

-- what ends an answer ends what comes after it
pub ends_first : {A B : Type 0} → (stop : Stop) (a : Result A End) (f : A → Result B End) → Ends stop a → Ends stop (and_then a f)
ends_first stop a f h = ended_first (end_of stop) a f h

-- a value is put on the values
pub value_step : (nodes : List Node) (b : Bindings) (answer : Result Value End) (ts : List Todo) (v : Value) (xs : List Task) (old new : List Value) (left : State)
    → answer ≡ Ok v → TodosShow nodes ts xs → Fits ts (suc (length old)) → new ≡ old ++ v ∷ []
    → Continues nodes b (and_then (keeping left answer) (λ w. perform b ts (w.0 ∷ reverse old) w.1)) xs (reverse new) left
value_step nodes b answer ts v xs old new left is shown fits more =
    let turned : reverse new ≡ v ∷ reverse old = ap reverse more ∙ reverse-append old (v ∷ []) in
    let P : List Value → Type 0 = λ vs. Continues nodes b (and_then (keeping left answer) (λ w. perform b ts (w.0 ∷ reverse old) w.1)) xs vs left in
    let long : length (v ∷ reverse old) ≡ suc (length old) = ap suc (length-reverse old) in
    subst P (sym turned) (record {
      todos = ts;
      shown = shown;
      fits = subst (Fits ts) (sym long) fits;
      gives = ap (λ r. and_then (keeping left r) (λ w. perform b ts (w.0 ∷ reverse old) w.1)) is;
    })

-- tasks take the place of an expression's
pub unrolled_step : (nodes : List Node) (b : Bindings) (e : Sum) (ts : List Todo) (xs : List Task) (old new : List Task) (vs : List Value) (n : ℕ) (left : State)
    → Unrolls b nodes (sum_value b e) xs → TodosShow nodes ts old → Fits ts (suc n) → n ≡ length vs → new ≡ xs ++ old
    → Continues nodes b (perform b (evaluates e ∷ ts) vs left) new vs left
unrolled_step nodes b e ts xs old new vs n left reads shown fits long is =
    let P : List Task → Type 0 = λ ys. Continues nodes b (perform b (evaluates e ∷ ts) vs left) ys vs left in
    subst P (sym is) (record {
      todos = reads.todos ++ ts;
      shown = show_append nodes reads.todos ts xs old reads.shown shown;
      fits = subst (Fits (reads.todos ++ ts)) long (reads.fits ts n fits);
      gives = sym (reads.unrolls ts vs left);
    })

-- the tasks are fewer after a chain's step
pub chain_shrinks : (nodes : List Node) (b : Bindings) (id : ℕ) (answer : State → Answer) (node : Node) (left : List Operand) (last : NodeId) (old new : List Task)
    → slice_get nodes id ≡ Some node → node.form ≡ forms.Chain left last → ReadsChain b nodes id answer left last → new ≡ chain_tasks left last ++ old
    → tasks_size nodes new < size_of nodes (suc id) id + tasks_size nodes old
chain_shrinks nodes b id answer node left last old new at is reads more =
    let P : List Task → Type 0 = λ xs. tasks_size nodes xs < size_of nodes (suc id) id + tasks_size nodes old in
    let smaller = chain_smaller nodes id node left last at is reads.before reads.last_before in
    let sum = sum_by-append (task_size nodes) (chain_tasks left last) old in
    subst P (sym more) (omega (arith, smaller, sum))

-- after a call's
pub call_shrinks : (nodes : List Node) (b : Bindings) (id : ℕ) (answer : State → Answer) (node : Node) (callee : List ℕ) (arguments : List NodeId) (task : NodeId) (old new : List Task)
    → slice_get nodes id ≡ Some node → node.form ≡ forms.Call callee arguments → ReadsCall b nodes id answer arguments → new ≡ call_tasks arguments task ++ old
    → tasks_size nodes new < size_of nodes (suc id) id + tasks_size nodes old
call_shrinks nodes b id answer node callee arguments task old new at is reads more =
    let P : List Task → Type 0 = λ xs. tasks_size nodes xs < size_of nodes (suc id) id + tasks_size nodes old in
    let smaller = call_smaller nodes id node callee arguments task at is reads.before in
    let sum = sum_by-append (task_size nodes) (call_tasks arguments task) old in
    subst P (sym more) (omega (arith, smaller, sum))

-- and after an operand's
pub value_shrinks : (nodes : List Node) (id : ℕ) (old : List Task) → tasks_size nodes old < size_of nodes (suc id) id + tasks_size nodes old
value_shrinks nodes id old = omega (arith, size_least nodes (suc id) id)

-- the last two values, and the others
pub two_on_top : (old mid rest : List Value) (v w : Value) → old ≡ mid ++ w ∷ [] → mid ≡ rest ++ v ∷ [] → reverse old ≡ w ∷ v ∷ reverse rest
two_on_top old mid rest v w first second =
    ap reverse first ∙ reverse-append mid (w ∷ []) ∙ ap (λ vs. w ∷ vs) (ap reverse second ∙ reverse-append rest (v ∷ []))

-- a fact holds where a call gave an answer, if it holds
pub on_ok : {A E P : Type 0} (r : Result A E) → P → OnOk r P
on_ok (Ok x) p = p
on_ok (Err e) p = tt

pub node_in_range : (nodes : List Node) (id : ℕ) (P : Node → Type 0) → IsSomeAnd (slice_get nodes id) P → id < length nodes
node_in_range nodes id P h =
    let Q : Option Node → Type 0 = λ n. IsSomeAnd n P in
    elim (slice_get_cases nodes id).1 [ inl w ↦ w.1 | inr w ↦ absurd (subst Q w.1 h) ]

-- an expression that is shown has a node of the table
mutual
  pub sum_in_range : (e : Sum) (nodes : List Node) (id : ℕ) → SumShows e nodes id → id < length nodes
  sum_in_range (product m) nodes id h = product_in_range m nodes id h
  sum_in_range (added a o k m) nodes id h = node_in_range nodes id _ h

  product_in_range : (m : Product) (nodes : List Node) (id : ℕ) → ProductShows m nodes id → id < length nodes
  product_in_range (factor f) nodes id h = factor_in_range f nodes id h
  product_in_range (times a k f) nodes id h = node_in_range nodes id _ h

  factor_in_range : (f : Factor) (nodes : List Node) (id : ℕ) → FactorShows f nodes id → id < length nodes
  factor_in_range (number n k) nodes id h = node_in_range nodes id _ h
  factor_in_range (text s k) nodes id h = node_in_range nodes id _ h
  factor_in_range (name w k) nodes id h = node_in_range nodes id _ h
  factor_in_range (parens o e c) nodes id h = sum_in_range e nodes id h
  factor_in_range (call w k o a c) nodes id h = node_in_range nodes id _ h

-- what the node of an expression tells, where it was read from the table
pub read_node : (b : Bindings) (e : Sum) (nodes : List Node) (id : ℕ) (node : Node) → SumShows e nodes id → node ≡ get_or nodes id node → Reads b nodes id (sum_value b e) node.form node.place
read_node b e nodes id node h is = reads_sum b e nodes id node (slice_get_read nodes (length nodes) id node refl (sum_in_range e nodes id h) is) h

-- the same, at the form that it has
pub read_form : (b : Bindings) (e : Sum) (nodes : List Node) (id : ℕ) (node : Node) (form : Form) → SumShows e nodes id → node ≡ get_or nodes id node → node.form ≡ form → Reads b nodes id (sum_value b e) form node.place
read_form b e nodes id node form h is same =
    let P : Form → Type 0 = λ f. Reads b nodes id (sum_value b e) f node.place in
    subst P same (read_node b e nodes id node h is)

and_then_ok : (r : Answer) → r ≡ and_then r (λ v. Ok (v.0, v.1))
and_then_ok (Ok v) = refl
and_then_ok (Err o) = refl

-- the start of an evaluation
pub begun : (nodes : List Node) (b : Bindings) (e : Sum) (id : NodeId) (xs : List Task) (vs : List Value) (left : State) → SumShows e nodes id.0 → xs ≡ tasks.Evaluate id ∷ [] → vs ≡ [] → Continues nodes b (sum_value b e left) (reverse xs) (reverse vs) left
begun nodes b e id xs vs left shows is empty =
    let P : List Task → Type 0 = λ ys. Continues nodes b (sum_value b e left) (reverse ys) (reverse vs) left in
    let Q : List Value → Type 0 = λ ws. Continues nodes b (sum_value b e left) (tasks.Evaluate id ∷ []) (reverse ws) left in
    subst P (sym is) (subst Q (sym empty) (record { todos = evaluates e ∷ []; shown = (shows, tt); fits = refl; gives = and_then_ok (sum_value b e left) }))

-- the next thing to do
pub record Next (nodes : List Node) (b : Bindings) (answer : Answer) (x : Task) (xs : List Task) (vs : List Value) (n : ℕ) (left : State) : Type 0 where
  pub todo : Todo
  pub rest : List Todo
  pub shown : TodosShow nodes (todo ∷ rest) (x ∷ xs)
  pub fits : Fits (todo ∷ rest) n
  pub gives : answer ≡ perform b (todo ∷ rest) vs left

next_of : (nodes : List Node) (b : Bindings) (answer : Answer) (x : Task) (xs : List Task) (vs : List Value) (n : ℕ) (left : State) (todos : List Todo)
    → TodosShow nodes todos (x ∷ xs) → Fits todos n → answer ≡ perform b todos vs left → Next nodes b answer x xs vs n left
next_of nodes b answer x xs vs n left [] shown fits gives = absurd shown
next_of nodes b answer x xs vs n left (t ∷ ts) shown fits gives = record { todo = t; rest = ts; shown = shown; fits = fits; gives = gives }

pub next : (nodes : List Node) (b : Bindings) (answer : Answer) (x : Task) (all others : List Task) (done : List Value) (left : State)
    → Continues nodes b answer (reverse all) (reverse done) left → all ≡ others ++ x ∷ [] → Next nodes b answer x (reverse others) (reverse done) (length done) left
next nodes b answer x all others done left h is =
    let turned : reverse all ≡ x ∷ reverse others = ap reverse is ∙ reverse-append others (x ∷ []) in
    next_of nodes b answer x (reverse others) (reverse done) (length done) left h.todos (subst (λ ys. TodosShow nodes h.todos ys) turned h.shown) (subst (λ k. Fits h.todos k) (length-reverse done) h.fits) h.gives

-- a step keeps what an evaluation gives
pub goes_on : (nodes : List Node) (b : Bindings) (answer other : Answer) (xs : List Task) (vs : List Value) (left : State) → answer ≡ other → Continues nodes b other xs vs left → Continues nodes b answer xs vs left
goes_on nodes b answer other xs vs left same h = subst (λ a. Continues nodes b a xs vs left) (sym same) h

-- and so does one that ends it
pub ends_so : (stop : Stop) (answer other : Answer) → answer ≡ other → Ends stop other → Ends stop answer
ends_so stop answer other same h = subst (λ a. Ends stop a) (sym same) h

ended : (nodes : List Node) (b : Bindings) (answer : Answer) (vs : List Value) (n : ℕ) (left : State) (todos : List Todo) → TodosShow nodes todos [] → Fits todos n → answer ≡ perform b todos vs left → (n ≡ 1) × (answer ≡ last_value vs left)
ended nodes b answer vs n left [] shown fits gives = (fits, gives)
ended nodes b answer vs n left (t ∷ ts) shown fits gives = absurd shown

-- where nothing is left to do, there is one value, and it is the answer
pub one_left : (nodes : List Node) (b : Bindings) (answer : Answer) (all : List Task) (done : List Value) (left : State) → Continues nodes b answer (reverse all) (reverse done) left → all ≡ [] → (length done ≡ 1) × (answer ≡ last_value (reverse done) left)
one_left nodes b answer all done left h empty =
    ended nodes b answer (reverse done) (length done) left h.todos (subst (λ ys. TodosShow nodes h.todos (reverse ys)) empty h.shown) (subst (λ k. Fits h.todos k) (length-reverse done) h.fits) h.gives

-- the last values of a list, taken off its end
pub off_end : (old : List Value) (n at : ℕ) → n ≤ length old → at ≡ length old - n → (reverse (take n (reverse old)) ≡ drop at old) × (drop n (reverse old) ≡ reverse (take at old))
off_end old n at within is =
    let args = drop at old in
    let kept = take at old in
    let turned : reverse old ≡ reverse args ++ reverse kept = ap reverse (sym (take-append-drop at old)) ∙ reverse-append kept args in
    let many : length (reverse args) ≡ n = length-reverse args ∙ length-drop at old ∙ omega arith in (
      ap (λ vs. reverse (take n vs)) turned ∙ ap (λ i. reverse (take i (reverse args ++ reverse kept))) (sym many) ∙ ap reverse (take-append_seam (reverse args) (reverse kept)) ∙ reverse-reverse args,
      ap (λ vs. drop n vs) turned ∙ ap (λ i. drop i (reverse args ++ reverse kept)) (sym many) ∙ drop-append_seam (reverse args) (reverse kept),
    )

-- what is lent from an index to the end
pub to_end : (xs : List Value) (at : ℕ) → take (length xs - at) (drop at xs) ≡ drop at xs
to_end xs at = ap (λ n. take n (drop at xs)) (sym (length-drop at xs)) ∙ take-length (drop at xs)

-- a call that gave a value
pub call_gives : (b : Bindings) (w : List ℕ) (k n at : ℕ) (left rest : State) (ts : List Todo) (old : List Value) (v : Value) → n ≤ length old → at ≡ length old - n → called k (b w) (drop at old) left ≡ Ok (v, rest)
    → perform b (calls w k n ∷ ts) (reverse old) left ≡ perform b ts (v ∷ reverse (take at old)) rest
call_gives b w k n at left rest ts old v within is gave =
    let off = off_end old n at within is in
    ap (λ vs. and_then (called k (b w) vs left) (λ u. perform b ts (u.0 ∷ drop n (reverse old)) u.1)) off.0
    ∙ ap (λ r. and_then r (λ u. perform b ts (u.0 ∷ drop n (reverse old)) u.1)) gave
    ∙ ap (λ vs. perform b ts (v ∷ vs) rest) off.1

-- a call that ended the run
pub call_ends : (b : Bindings) (w : List ℕ) (k n at : ℕ) (left : State) (ts : List Todo) (old : List Value) (stop : Stop) → n ≤ length old → at ≡ length old - n → Ends stop (called k (b w) (drop at old) left)
    → Ends stop (perform b (calls w k n ∷ ts) (reverse old) left)
call_ends b w k n at left ts old stop within is h =
    let off = off_end old n at within is in
    let P : List Value → Type 0 = λ vs. Ends stop (called k (b w) vs left) in
    ends_first stop (called k (b w) (reverse (take n (reverse old))) left) (λ u. perform b ts (u.0 ∷ drop n (reverse old)) u.1) (subst P (sym off.0) h)

-- a step towards an answer is one towards an answer that is the same
pub steps_of : {A : Type 0} → (r : Result A Stop) (nodes : List Node) (b : Bindings) (x y : Answer) (f : Value × State → Answer) (todo : Vec Task Global) (done : Vec Value Global) (left : State)
    → y ≡ x → Steps r nodes b (and_then x f) todo done left → Steps r nodes b (and_then y f) todo done left
steps_of r nodes b x y f todo done left same h = subst (λ a. Steps r nodes b (and_then a f) todo done left) (sym same) h
