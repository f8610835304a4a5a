-- What the tasks of a node give: an operand its value, and a chain or a call what its parts give.
use Rattle.std.proofs.Common.{◌≡◌, ℕ, suc, ◌+◌, ◌-◌, ◌<◌, ◌≤◌, List, [], ◌∷◌, ◌++◌, Option, Some, Ok, Err, IsSomeAnd, slice_get, length, map, reverse, take, drop, get_or, refl, sym, ap, ◌∙◌, subst, append_assoc, pos, arith}
use Rattle.std.proofs.lemmas.List.{take_more, reverse-append, reverse-reverse, length-reverse, map-append}
use Rattle.std.proofs.Math.Seq.{take-append_seam, drop-append_seam}
use Rattle.small_parser.specs.declared.script.NodeId.{NodeId}
use Rattle.small_parser.specs.declared.script.Operator.{Operator}
use Rattle.small_parser.specs.declared.script.Operator.TheVariants as operators
use Rattle.small_parser.specs.declared.script.Operand.{Operand}
use Rattle.small_parser.specs.declared.script.Form.{Form}
use Rattle.small_parser.specs.declared.script.Form.TheVariants as forms
use Rattle.small_parser.specs.declared.script.Node.{Node}
use Rattle.small_parser.specs.Grammar.{Additive, Sum, product, added, Product, factor, times, Factor, number, text, name, parens, call, Passed}
use Rattle.small_parser.specs.Shows.{AtNode, IsNumber, IsText, IsName, IsChain, IsCall, AreBelow, operator_of, SumShows, SumLeft, ProductShows, ProductLeft, FactorShows, PassedShow, sum_place, product_place}
use Rattle.embed_script.specs.declared.state.State.{State}
use Rattle.embed_script.specs.declared.value.Value.{Value}
use Rattle.embed_script.specs.declared.value.Value.TheVariants as values
use Rattle.embed_script.specs.declared.evaluate.Task.{Task}
use Rattle.embed_script.specs.declared.evaluate.Task.TheVariants as tasks
use Rattle.embed_script.specs.Operators.{number_of}
use Rattle.embed_script.specs.Ends.{and_then, at_place, keeping}
use Rattle.embed_script.specs.Evaluation.{Bindings, Answer, Answers, sum_value, product_value, factor_value, operated, named, called}
use Rattle.embed_script.specs.Tasks.{Todo, evaluates, applies, calls, perform, Fits, TodosShow, TodoShows, SumsShow, passed_expressions, values_of, chain_tasks, following_tasks, call_tasks, AllBefore}
use Rattle.embed_script.proofs.Values.{before, passed_are, values_count, passed_show, sums_count}

-- the operands and operators of a chain
abbrev sum_todos : Sum → List Todo
sum_todos (product m) = evaluates (product m) ∷ []
sum_todos (added a o k m) = sum_todos a ++ evaluates (product m) ∷ applies (operator_of o) k ∷ []

abbrev product_todos : Product → List Todo
product_todos (factor f) = evaluates (product (factor f)) ∷ []
product_todos (times m k f) = product_todos m ++ evaluates (product (factor f)) ∷ applies operators.Times k ∷ []

after_second : (y : Answer) (f : Value × State → Answer) (g : Value × State → Answer) → and_then y (λ w. and_then (f w) g) ≡ and_then (and_then y f) g
after_second (Ok w) f g = refl
after_second (Err e) f g = refl

after_both : (x : Answer) (y : State → Answer) (f : Value → Value → State → Answer) (g : Value × State → Answer)
    → and_then x (λ v. and_then (y v.1) (λ w. and_then (f v.0 w.0 w.1) g)) ≡ and_then (and_then x (λ v. and_then (y v.1) (λ w. f v.0 w.0 w.1))) g
after_both (Ok v) y f g = after_second (y v.1) (λ w. f v.0 w.0 w.1) g
after_both (Err e) y f g = refl

-- they give what the expression gives
sum_unrolls : (b : Bindings) (e : Sum) (rest : List Todo) (vs : List Value) (left : State) → perform b (sum_todos e ++ rest) vs left ≡ and_then (sum_value b e left) (λ v. perform b rest (v.0 ∷ vs) v.1)
sum_unrolls b (product m) rest vs left = refl
sum_unrolls b (added a o k m) rest vs left =
    ap (λ ts. perform b ts vs left) (append_assoc (sum_todos a) (evaluates (product m) ∷ applies (operator_of o) k ∷ []) rest)
    ∙ sum_unrolls b a (evaluates (product m) ∷ applies (operator_of o) k ∷ rest) vs left
    ∙ after_both (sum_value b a left) (product_value b m) (operated (operator_of o) k) (λ u. perform b rest (u.0 ∷ vs) u.1)

product_unrolls : (b : Bindings) (m : Product) (rest : List Todo) (vs : List Value) (left : State) → perform b (product_todos m ++ rest) vs left ≡ and_then (product_value b m left) (λ v. perform b rest (v.0 ∷ vs) v.1)
product_unrolls b (factor f) rest vs left = refl
product_unrolls b (times m k f) rest vs left =
    ap (λ ts. perform b ts vs left) (append_assoc (product_todos m) (evaluates (product (factor f)) ∷ applies operators.Times k ∷ []) rest)
    ∙ product_unrolls b m (evaluates (product (factor f)) ∷ applies operators.Times k ∷ rest) vs left
    ∙ after_both (product_value b m left) (factor_value b f) (operated operators.Times k) (λ u. perform b rest (u.0 ∷ vs) u.1)

-- the arguments of a call, and the call
abbrev call_todos : List ℕ → ℕ → List Sum → List Todo
call_todos w k es = map evaluates es ++ calls w k (length es) ∷ []

on_top : (v : Value) (ws vs : List Value) → reverse ws ++ (v ∷ vs) ≡ reverse (v ∷ ws) ++ vs
on_top v ws vs = sym (ap (λ xs. xs ++ vs) (reverse-append (v ∷ []) ws) ∙ append_assoc (reverse ws) (v ∷ []) vs)

one_more : (y : Answers) (v : Value) (vs : List Value) (f : List Value → State → Answer) → and_then y (λ x. f (reverse x.0 ++ (v ∷ vs)) x.1) ≡ and_then (before v y) (λ x. f (reverse x.0 ++ vs) x.1)
one_more (Ok x) v vs f = ap (λ xs. f xs x.1) (on_top v x.0 vs)
one_more (Err e) v vs f = refl

first_value : (x : Answer) (g : State → Answers) (vs : List Value) (f : List Value → State → Answer) (p : List Value → State → Answer) → ((ws : List Value) (n : State) → p ws n ≡ and_then (g n) (λ y. f (reverse y.0 ++ ws) y.1))
    → and_then x (λ v. p (v.0 ∷ vs) v.1) ≡ and_then (and_then x (λ v. before v.0 (g v.1))) (λ y. f (reverse y.0 ++ vs) y.1)
first_value (Ok v) g vs f p h = h (v.0 ∷ vs) v.1 ∙ one_more (g v.1) v.0 vs f
first_value (Err e) g vs f p h = refl

values_unroll : (b : Bindings) (es : List Sum) (rest : List Todo) (vs : List Value) (left : State) → perform b (map evaluates es ++ rest) vs left ≡ and_then (values_of b es left) (λ x. perform b rest (reverse x.0 ++ vs) x.1)
values_unroll b [] rest vs left = refl
values_unroll b (e ∷ es) rest vs left = first_value (sum_value b e left) (values_of b es) vs (perform b rest) (perform b (map evaluates es ++ rest)) (values_unroll b es rest)

-- the last values of a list, taken off
off_top : (xs vs : List Value) (n : ℕ) → length xs ≡ n → (reverse (take n (reverse xs ++ vs)) ≡ xs) × (drop n (reverse xs ++ vs) ≡ vs)
off_top xs vs n is =
    let same : length (reverse xs) ≡ n = length-reverse xs ∙ is in (
      ap (λ i. reverse (take i (reverse xs ++ vs))) (sym same) ∙ ap reverse (take-append_seam (reverse xs) vs) ∙ reverse-reverse xs,
      ap (λ i. drop i (reverse xs ++ vs)) (sym same) ∙ drop-append_seam (reverse xs) vs,
    )

call_on_top : (y : Answers) (n : ℕ) (vs : List Value) (g : List Value → State → Answer) (p : List Value → State → Answer) → ((x : List Value × State) → y ≡ Ok x → length x.0 ≡ n)
    → and_then y (λ x. and_then (g (reverse (take n (reverse x.0 ++ vs))) x.1) (λ u. p (u.0 ∷ drop n (reverse x.0 ++ vs)) u.1)) ≡ and_then (and_then y (λ x. g x.0 x.1)) (λ u. p (u.0 ∷ vs) u.1)
call_on_top (Ok x) n vs g p h =
    let off = off_top x.0 vs n (h x refl) in
    ap (λ xs. and_then (g xs x.1) (λ u. p (u.0 ∷ drop n (reverse x.0 ++ vs)) u.1)) off.0 ∙ ap (λ ws. and_then (g x.0 x.1) (λ u. p (u.0 ∷ ws) u.1)) off.1
call_on_top (Err e) n vs g p h = refl

call_unrolls : (b : Bindings) (w : List ℕ) (k : ℕ) (es : List Sum) (rest : List Todo) (vs : List Value) (left : State)
    → perform b (call_todos w k es ++ rest) vs left ≡ and_then (and_then (values_of b es left) (λ x. called k (b w) x.0 x.1)) (λ v. perform b rest (v.0 ∷ vs) v.1)
call_unrolls b w k es rest vs left =
    ap (λ ts. perform b ts vs left) (append_assoc (map evaluates es) (calls w k (length es) ∷ []) rest)
    ∙ values_unroll b es (calls w k (length es) ∷ rest) vs left
    ∙ call_on_top (values_of b es left) (length es) vs (called k (b w)) (perform b rest) (λ x is. values_count b es left x is)

values_fit : (es : List Sum) (rest : List Todo) (n : ℕ) → Fits rest (length es + n) → Fits (map evaluates es ++ rest) n
values_fit [] rest n h = let e : 0 + n ≡ n = omega arith in subst (Fits rest) e h
values_fit (e ∷ es) rest n h = let same : length (e ∷ es) + n ≡ length es + suc n = omega arith in values_fit es rest (suc n) (subst (Fits rest) same h)

call_fits : (w : List ℕ) (k : ℕ) (es : List Sum) (rest : List Todo) (n : ℕ) → Fits rest (suc n) → Fits (call_todos w k es ++ rest) n
call_fits w k es rest n h =
    let P : List Todo → Type 0 = λ ts. Fits ts n in
    let same : suc n ≡ suc ((length es + n) - length es) = omega arith in
    let within : length es ≤ length es + n = omega arith in
    subst P (sym (append_assoc (map evaluates es) (calls w k (length es) ∷ []) rest)) (values_fit es (calls w k (length es) ∷ rest) n (within, subst (Fits rest) same h))

sum_fits : (e : Sum) (rest : List Todo) (n : ℕ) → Fits rest (suc n) → Fits (sum_todos e ++ rest) n
sum_fits (product m) rest n h = h
sum_fits (added a o k m) rest n h =
    let P : List Todo → Type 0 = λ ts. Fits ts n in
    subst P (sym (append_assoc (sum_todos a) (evaluates (product m) ∷ applies (operator_of o) k ∷ []) rest)) (sum_fits a (evaluates (product m) ∷ applies (operator_of o) k ∷ rest) n h)

product_fits : (m : Product) (rest : List Todo) (n : ℕ) → Fits rest (suc n) → Fits (product_todos m ++ rest) n
product_fits (factor f) rest n h = h
product_fits (times m k f) rest n h =
    let P : List Todo → Type 0 = λ ts. Fits ts n in
    subst P (sym (append_assoc (product_todos m) (evaluates (product (factor f)) ∷ applies operators.Times k ∷ []) rest)) (product_fits m (evaluates (product (factor f)) ∷ applies operators.Times k ∷ rest) n h)

-- the tasks of a chain with one more operand
following_more : (o : Operator) (k : ℕ) (xs : List Operand) (x : Operand) (last : NodeId) → following_tasks o k (xs ++ x ∷ []) last ≡ following_tasks o k xs x.node ++ tasks.Evaluate last ∷ tasks.Operate x.operator x.place ∷ []
following_more o k [] x last = refl
following_more o k (y ∷ ys) x last = ap (λ ts. tasks.Evaluate y.node ∷ tasks.Operate o k ∷ ts) (following_more y.operator y.place ys x last)

pub chain_more : (xs : List Operand) (x : Operand) (last : NodeId) → chain_tasks (xs ++ x ∷ []) last ≡ chain_tasks xs x.node ++ tasks.Evaluate last ∷ tasks.Operate x.operator x.place ∷ []
chain_more [] x last = refl
chain_more (y ∷ ys) x last = ap (λ ts. tasks.Evaluate y.node ∷ ts) (following_more y.operator y.place ys x last)

pub show_append : (nodes : List Node) (ts us : List Todo) (xs ys : List Task) → TodosShow nodes ts xs → TodosShow nodes us ys → TodosShow nodes (ts ++ us) (xs ++ ys)
show_append nodes [] us [] ys h k = k
show_append nodes (t ∷ ts) us (x ∷ xs) ys h k = (h.0, show_append nodes ts us xs ys h.1 k)
show_append nodes [] us (x ∷ xs) ys h k = absurd h
show_append nodes (t ∷ ts) us [] ys h k = absurd h

before_append : (id : ℕ) (xs : List Operand) (x : Operand) → AllBefore id xs → x.node.0 < id → AllBefore id (xs ++ x ∷ [])
before_append id [] x h l = (l, tt)
before_append id (y ∷ ys) x h l = (h.0, before_append id ys x h.1 l)

sum_left_shows : (a : Sum) (o : Additive) (k : ℕ) (m : Product) (nodes : List Node) (left : List Operand) (last : NodeId) (id : ℕ)
    → SumLeft a o k nodes left id → ProductShows m nodes last.0 → TodosShow nodes (sum_todos (added a o k m)) (chain_tasks left last)
sum_left_shows (product n) o k m nodes left last id (x, is, same, here, shows, before) h =
    let P : List Operand → Type 0 = λ xs. TodosShow nodes (sum_todos (added (product n) o k m)) (chain_tasks xs last) in
    subst P (sym is) (shows, (h, ((same, here), tt)))
sum_left_shows (added a p j n) o k m nodes left last id (front, x, is, (more, same, here, shows, before)) h =
    let P : List Task → Type 0 = λ xs. TodosShow nodes (sum_todos (added (added a p j n) o k m)) xs in
    subst P (sym (ap (λ xs. chain_tasks xs last) is ∙ chain_more front x last))
    (show_append nodes (sum_todos (added a p j n)) (evaluates (product m) ∷ applies (operator_of o) k ∷ []) (chain_tasks front x.node) (tasks.Evaluate last ∷ tasks.Operate x.operator x.place ∷ [])
    (sum_left_shows a p j n nodes front x.node id more shows) (h, ((same, here), tt)))

sum_left_before : (a : Sum) (o : Additive) (k : ℕ) (nodes : List Node) (left : List Operand) (id : ℕ) → SumLeft a o k nodes left id → AllBefore id left
sum_left_before (product n) o k nodes left id (x, is, same, here, shows, before) = subst (AllBefore id) (sym is) (before, tt)
sum_left_before (added a p j n) o k nodes left id (front, x, is, (more, same, here, shows, before)) = subst (AllBefore id) (sym is) (before_append id front x (sum_left_before a p j nodes front id more) before)

product_left_shows : (a : Product) (k : ℕ) (f : Factor) (nodes : List Node) (left : List Operand) (last : NodeId) (id : ℕ)
    → ProductLeft a k nodes left id → FactorShows f nodes last.0 → TodosShow nodes (product_todos (times a k f)) (chain_tasks left last)
product_left_shows (factor g) k f nodes left last id (x, is, same, here, shows, before) h =
    let P : List Operand → Type 0 = λ xs. TodosShow nodes (product_todos (times (factor g) k f)) (chain_tasks xs last) in
    subst P (sym is) (shows, (h, ((same, here), tt)))
product_left_shows (times a j g) k f nodes left last id (front, x, is, (more, same, here, shows, before)) h =
    let P : List Task → Type 0 = λ xs. TodosShow nodes (product_todos (times (times a j g) k f)) xs in
    subst P (sym (ap (λ xs. chain_tasks xs last) is ∙ chain_more front x last))
    (show_append nodes (product_todos (times a j g)) (evaluates (product (factor f)) ∷ applies operators.Times k ∷ []) (chain_tasks front x.node) (tasks.Evaluate last ∷ tasks.Operate x.operator x.place ∷ [])
    (product_left_shows a j g nodes front x.node id more shows) (h, ((same, here), tt)))

product_left_before : (a : Product) (k : ℕ) (nodes : List Node) (left : List Operand) (id : ℕ) → ProductLeft a k nodes left id → AllBefore id left
product_left_before (factor g) k nodes left id (x, is, same, here, shows, before) = subst (AllBefore id) (sym is) (before, tt)
product_left_before (times a j g) k nodes left id (front, x, is, (more, same, here, shows, before)) = subst (AllBefore id) (sym is) (before_append id front x (product_left_before a j nodes front id more) before)

-- tasks that give an answer
pub record Unrolls (b : Bindings) (nodes : List Node) (answer : State → Answer) (xs : List Task) : Type 0 where
  pub todos : List Todo
  pub shown : TodosShow nodes todos xs
  pub unrolls : (rest : List Todo) (vs : List Value) (left : State) → perform b (todos ++ rest) vs left ≡ and_then (answer left) (λ v. perform b rest (v.0 ∷ vs) v.1)
  pub fits : (rest : List Todo) (n : ℕ) → Fits rest (suc n) → Fits (todos ++ rest) n

-- what a chain's tasks are, and where its operands stand
pub record ReadsChain (b : Bindings) (nodes : List Node) (id : ℕ) (answer : State → Answer) (left : List Operand) (last : NodeId) : Type 0 where
  pub tasks : Unrolls b nodes answer (chain_tasks left last)
  pub before : AllBefore id left
  pub last_before : last.0 < id

-- and a call's
pub record ReadsCall (b : Bindings) (nodes : List Node) (id : ℕ) (answer : State → Answer) (arguments : List NodeId) : Type 0 where
  pub tasks : Unrolls b nodes answer (call_tasks arguments (record { 0 = id }))
  pub before : AreBelow arguments id

-- what an answer is, by the form of the node that shows its expression
abbrev pub Reads : Bindings → List Node → ℕ → (State → Answer) → Form → ℕ → Type 0
Reads b nodes id answer (forms.Number n) k = (left : State) → answer left ≡ keeping left (at_place k (number_of (pos n)))
Reads b nodes id answer (forms.Text s) k = (left : State) → answer left ≡ Ok (values.Text s, left)
Reads b nodes id answer (forms.Name w) k = (left : State) → answer left ≡ keeping left (named k (b w))
Reads b nodes id answer (forms.Chain left last) k = ReadsChain b nodes id answer left last
Reads b nodes id answer (forms.Call callee arguments) k = ReadsCall b nodes id answer arguments
Reads b nodes id answer _ k = ⊥

sum_chain : (b : Bindings) (a : Sum) (o : Additive) (k : ℕ) (m : Product) (nodes : List Node) (id : ℕ) (form : Form) (place : ℕ)
    → IsChain (λ left last. SumLeft a o k nodes left id × ProductShows m nodes last × (last < id)) form → Reads b nodes id (sum_value b (added a o k m)) form place
sum_chain b a o k m nodes id (forms.Chain left last) place (shows, ends, before) = record {
  tasks = record {
    todos = sum_todos (added a o k m);
    shown = sum_left_shows a o k m nodes left last id shows ends;
    unrolls = sum_unrolls b (added a o k m);
    fits = sum_fits (added a o k m);
  };
  before = sum_left_before a o k nodes left id shows;
  last_before = before;
}
sum_chain b a o k m nodes id _ place h = absurd h

product_chain : (b : Bindings) (a : Product) (k : ℕ) (f : Factor) (nodes : List Node) (id : ℕ) (form : Form) (place : ℕ)
    → IsChain (λ left last. ProductLeft a k nodes left id × FactorShows f nodes last × (last < id)) form → Reads b nodes id (product_value b (times a k f)) form place
product_chain b a k f nodes id (forms.Chain left last) place (shows, ends, before) = record {
  tasks = record {
    todos = product_todos (times a k f);
    shown = product_left_shows a k f nodes left last id shows ends;
    unrolls = product_unrolls b (times a k f);
    fits = product_fits (times a k f);
  };
  before = product_left_before a k nodes left id shows;
  last_before = before;
}
product_chain b a k f nodes id _ place h = absurd h

number_reads : (b : Bindings) (n k : ℕ) (nodes : List Node) (id : ℕ) (form : Form) (place : ℕ) → place ≡ k → IsNumber n form → Reads b nodes id (factor_value b (number n k)) form place
number_reads b n k nodes id (forms.Number m) place here is = λ left. ap (λ j. keeping left (at_place j (number_of (pos n)))) (sym here) ∙ ap (λ i. keeping left (at_place place (number_of (pos i)))) (sym is)
number_reads b n k nodes id _ place here is = absurd is

text_reads : (b : Bindings) (s : List ℕ) (k : ℕ) (nodes : List Node) (id : ℕ) (form : Form) (place : ℕ) → place ≡ k → IsText s form → Reads b nodes id (factor_value b (text s k)) form place
text_reads b s k nodes id (forms.Text t) place here is = λ left. ap (λ x. Ok (values.Text x, left)) (sym is)
text_reads b s k nodes id _ place here is = absurd is

name_reads : (b : Bindings) (w : List ℕ) (k : ℕ) (nodes : List Node) (id : ℕ) (form : Form) (place : ℕ) → place ≡ k → IsName w form → Reads b nodes id (factor_value b (name w k)) form place
name_reads b w k nodes id (forms.Name v) place here is = λ left. ap (λ j. keeping left (named j (b w))) (sym here) ∙ ap (λ x. keeping left (named place (b x))) (sym is)
name_reads b w k nodes id _ place here is = absurd is

values_show : (nodes : List Node) (es : List Sum) (ids : List NodeId) → SumsShow nodes es ids → TodosShow nodes (map evaluates es) (map tasks.Evaluate ids)
values_show nodes [] [] h = tt
values_show nodes (e ∷ es) (id ∷ ids) h = (h.0, values_show nodes es ids h.1)
values_show nodes [] (id ∷ ids) h = absurd h
values_show nodes (e ∷ es) [] h = absurd h

call_shown : (nodes : List Node) (id : ℕ) (node : Node) (w : List ℕ) (k : ℕ) (count : ℕ) (arguments : List NodeId) (form : Form) → slice_get nodes id ≡ Some node → node.place ≡ k → node.form ≡ form → IsCall w (λ ids. length ids ≡ count) form
    → TodoShows nodes (calls w k count) (tasks.Call (record { 0 = id }))
call_shown nodes id node w k count arguments form at here is shows =
    subst (λ o. IsSomeAnd o (λ n. (n.place ≡ k) × IsCall w (λ ids. length ids ≡ count) n.form)) (sym at) (here, subst (λ f. IsCall w (λ ids. length ids ≡ count) f) (sym is) shows)

call_reads : (b : Bindings) (w : List ℕ) (k o : ℕ) (a : Passed) (c : ℕ) (nodes : List Node) (id : ℕ) (node : Node) (form : Form) → slice_get nodes id ≡ Some node → node.place ≡ o → node.form ≡ form
    → IsCall w (λ arguments. PassedShow a nodes arguments × AreBelow arguments id) form → Reads b nodes id (factor_value b (call w k o a c)) form node.place
call_reads b w k o a c nodes id node (forms.Call callee arguments) at here is (same, (shows, below)) =
    let es = passed_expressions a in
    let sums = passed_show a nodes arguments shows in
    record {
      tasks = record {
        todos = call_todos w o es;
        shown = show_append nodes (map evaluates es) (calls w o (length es) ∷ []) (map tasks.Evaluate arguments) (tasks.Call (record { 0 = id }) ∷ []) (values_show nodes es arguments sums)
            (call_shown nodes id node w o (length es) arguments (forms.Call callee arguments) at here is (same, sums_count nodes es arguments sums), tt);
        unrolls = λ rest vs left. call_unrolls b w o es rest vs left ∙ ap (λ r. and_then (and_then r (λ x. called o (b w) x.0 x.1)) (λ v. perform b rest (v.0 ∷ vs) v.1)) (passed_are b a left);
        fits = λ rest n h. call_fits w o es rest n h;
      };
      before = below;
    }
call_reads b w k o a c nodes id node _ at here is h = absurd h

-- the node itself, where it is known
at_node : (nodes : List Node) (id place : ℕ) (F : Form → Type 0) (node : Node) → slice_get nodes id ≡ Some node → AtNode nodes id place F → (node.place ≡ place) × F node.form
at_node nodes id place F node at shows =
    let P : Option Node → Type 0 = λ n. IsSomeAnd n (λ m. (m.place ≡ place) × F m.form) in
    subst P at shows

-- an expression's answer, read off the node that shows it
mutual
  pub reads_sum : (b : Bindings) (e : Sum) (nodes : List Node) (id : ℕ) (node : Node) → slice_get nodes id ≡ Some node → SumShows e nodes id → Reads b nodes id (sum_value b e) node.form node.place
  reads_sum b (product m) nodes id node at h = reads_product b m nodes id node at h
  reads_sum b (added a o k m) nodes id node at h =
      sum_chain b a o k m nodes id node.form node.place (at_node nodes id (sum_place a k) (IsChain (λ left last. SumLeft a o k nodes left id × ProductShows m nodes last × (last < id))) node at h).1

  reads_product : (b : Bindings) (m : Product) (nodes : List Node) (id : ℕ) (node : Node) → slice_get nodes id ≡ Some node → ProductShows m nodes id → Reads b nodes id (product_value b m) node.form node.place
  reads_product b (factor f) nodes id node at h = reads_factor b f nodes id node at h
  reads_product b (times a k f) nodes id node at h =
      product_chain b a k f nodes id node.form node.place (at_node nodes id (product_place a k) (IsChain (λ left last. ProductLeft a k nodes left id × FactorShows f nodes last × (last < id))) node at h).1

  reads_factor : (b : Bindings) (f : Factor) (nodes : List Node) (id : ℕ) (node : Node) → slice_get nodes id ≡ Some node → FactorShows f nodes id → Reads b nodes id (factor_value b f) node.form node.place
  reads_factor b (number n k) nodes id node at h = let found = at_node nodes id k (IsNumber n) node at h in number_reads b n k nodes id node.form node.place found.0 found.1
  reads_factor b (text s k) nodes id node at h = let found = at_node nodes id k (IsText s) node at h in text_reads b s k nodes id node.form node.place found.0 found.1
  reads_factor b (name w k) nodes id node at h = let found = at_node nodes id k (IsName w) node at h in name_reads b w k nodes id node.form node.place found.0 found.1
  reads_factor b (parens o e c) nodes id node at h = reads_sum b e nodes id node at h
  reads_factor b (call w k o a c) nodes id node at h =
      let found = at_node nodes id o (IsCall w (λ arguments. PassedShow a nodes arguments × AreBelow arguments id)) node at h in
      call_reads b w k o a c nodes id node node.form at found.0 refl found.1

-- one operand more on top of the tasks
pub pushed : (left : List Operand) (n i : ℕ) (d : Operand) (next : NodeId) (old mid new : List Task) → n ≡ i + 1 → i < length left
    → mid ≡ old ++ tasks.Operate (get_or left i d).operator (get_or left i d).place ∷ [] → new ≡ mid ++ tasks.Evaluate next ∷ []
    → chain_tasks (take i left) (get_or left i d).node ++ reverse new ≡ chain_tasks (take n left) next ++ reverse old
pushed left n i d next old mid new at within first second =
    let x : Operand = get_or left i d in
    let taken : take n left ≡ take i left ++ x ∷ [] = ap (λ j. take j left) at ∙ take_more left i d within in
    let turned : reverse new ≡ tasks.Evaluate next ∷ tasks.Operate x.operator x.place ∷ reverse old =
    ap reverse second ∙ reverse-append mid (tasks.Evaluate next ∷ []) ∙ ap (λ ts. tasks.Evaluate next ∷ ts) (ap reverse first ∙ reverse-append old (tasks.Operate x.operator x.place ∷ [])) in
    ap (λ ts. chain_tasks (take i left) x.node ++ ts) turned
    ∙ sym (append_assoc (chain_tasks (take i left) x.node) (tasks.Evaluate next ∷ tasks.Operate x.operator x.place ∷ []) (reverse old))
    ∙ ap (λ ts. ts ++ reverse old) (sym (ap (λ xs. chain_tasks xs next) taken ∙ chain_more (take i left) x next))

-- the tasks of a call, with one argument more on top
pub pushed_argument : (ids : List NodeId) (n i : ℕ) (d task : NodeId) (old new : List Task) → n ≡ i + 1 → i < length ids → new ≡ old ++ tasks.Evaluate (get_or ids i d) ∷ []
    → map tasks.Evaluate (take i ids) ++ reverse new ≡ map tasks.Evaluate (take n ids) ++ reverse old
pushed_argument ids n i d task old new at within more =
    let x : NodeId = get_or ids i d in
    let taken : take n ids ≡ take i ids ++ x ∷ [] = ap (λ j. take j ids) at ∙ take_more ids i d within in
    let turned : reverse new ≡ tasks.Evaluate x ∷ reverse old = ap reverse more ∙ reverse-append old (tasks.Evaluate x ∷ []) in
    ap (λ ts. map tasks.Evaluate (take i ids) ++ ts) turned
    ∙ sym (append_assoc (map tasks.Evaluate (take i ids)) (tasks.Evaluate x ∷ []) (reverse old))
    ∙ ap (λ ts. ts ++ reverse old) (sym (ap (λ xs. map tasks.Evaluate xs) taken ∙ map-append tasks.Evaluate (take i ids) (x ∷ [])))
