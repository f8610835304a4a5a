-- Private: how an expression is evaluated without recursion: a list of tasks, the next one first, over a list of values, the last
-- one first. No public clause cites this.
use Rattle.std.specs.Prelude.{◌≡◌, ℕ, zero, suc, ◌+◌, ◌-◌, ◌<◌, ◌≤◌, List, [], ◌∷◌, ◌++◌, reverse, length, map, take, drop, Option, Some, None, Result, Ok, Err, IsSomeAnd, slice_get, sum_by}
use Rattle.std.specs.Option.{option_map}
use Rattle.std.specs.declared.alloc.Global.{Global}
use Rattle.std.specs.declared.string.String.{String}
use Rattle.std.specs.declared.vec.Vec.{Vec}
use Rattle.std.specs.declared.hash.FoldHasher.{FoldHasher}
use Rattle.std.specs.declared.hash.BuildHasherDefault.{BuildHasherDefault}
use Rattle.std.specs.HashMap.{HashMap, get_by_text}
use Rattle.embed_base.specs.declared.outside.OutsideKind.TheVariants as kinds
use Rattle.small_parser.specs.declared.script.NodeId.{NodeId}
use Rattle.small_parser.specs.declared.script.Operator.{Operator}
use Rattle.small_parser.specs.declared.script.Operand.{Operand}
use Rattle.small_parser.specs.declared.script.Form.{Form}
use Rattle.small_parser.specs.declared.script.Form.TheVariants as forms
use Rattle.small_parser.specs.declared.script.Node.{Node}
use Rattle.small_parser.specs.Grammar.{Sum, Listed, single, comma, Passed, unlisted, passed, passed_more, Arguments, none, listed}
use Rattle.small_parser.specs.Shows.{SumShows, IsCall}
use Rattle.embed_script.specs.declared.value.Value.{Value}
use Rattle.embed_script.specs.declared.stop.Stop.{Stop}
use Rattle.embed_script.specs.declared.evaluate.Task.{Task}
use Rattle.embed_script.specs.declared.evaluate.Task.TheVariants as tasks
use Rattle.embed_script.specs.declared.value.Bound.{Bound}
use Rattle.embed_script.specs.declared.value.Bound.TheVariants as bounds
use Rattle.embed_script.specs.declared.state.State.{State}
use Rattle.embed_script.specs.Ends.{outside, and_then, refused_at}
use Rattle.embed_script.specs.Evaluation.{Binding, value, function, Bindings, Answer, Answers, sum_value, operated, called}
use Rattle.embed_script.specs.Stops.{Ends}

abbrev pub Names : Type 0
Names = HashMap (String Global) Bound (BuildHasherDefault FoldHasher)

abbrev pub binding_of : Bound → Binding
binding_of (bounds.Value v) = value v
binding_of (bounds.Function f) = function f

-- the map has what each name is bound to
abbrev pub IsBoundAs : Bindings → Names → Type 0
IsBoundAs b names = (name : List ℕ) → option_map binding_of (get_by_text names name) ≡ b name

-- what a task stands for: an expression to evaluate, an operator to apply to the last two values, or a call of a name with
-- so many of the last values
pub data Todo : Type 0 where
  evaluates : Sum → Todo
  applies : Operator → (place : ℕ) → Todo
  calls : (callee : List ℕ) → (place : ℕ) → (count : ℕ) → Todo

-- an operator on the last two values
abbrev pub applied : Operator → ℕ → List Value → State → (List Value → State → Answer) → Answer
applied o k (w ∷ v ∷ vs) left goes_on = and_then (operated o k v w left) (λ u. goes_on (u.0 ∷ vs) u.1)
applied o k vs left goes_on = Err (outside (refused_at k kinds.NotYet))

-- the last value, where nothing is left to do
abbrev pub last_value : List Value → State → Answer
last_value (v ∷ vs) left = Ok (v, left)
last_value [] left = Err (outside (refused_at 0 kinds.NotYet))

-- what the tasks give over these values
abbrev pub perform : Bindings → List Todo → List Value → State → Answer
perform b [] vs left = last_value vs left
perform b (evaluates e ∷ ts) vs left = and_then (sum_value b e left) (λ v. perform b ts (v.0 ∷ vs) v.1)
perform b (applies o k ∷ ts) vs left = applied o k vs left (perform b ts)
perform b (calls w k n ∷ ts) vs left = and_then (called k (b w) (reverse (take n vs)) left) (λ u. perform b ts (u.0 ∷ drop n vs) u.1)

-- where so many values are there, each operator finds two, each call its own, and one value is left at the end
abbrev pub Fits : List Todo → ℕ → Type 0
Fits [] n = n ≡ 1
Fits (evaluates e ∷ ts) n = Fits ts (suc n)
Fits (applies o k ∷ ts) (suc (suc n)) = Fits ts (suc n)
Fits (applies o k ∷ ts) _ = ⊥
Fits (calls w k count ∷ ts) n = (count ≤ n) × Fits ts (suc (n - count))

abbrev pub TodoShows : List Node → Todo → Task → Type 0
TodoShows nodes (evaluates e) (tasks.Evaluate id) = SumShows e nodes id.0
TodoShows nodes (applies o k) (tasks.Operate p j) = (p ≡ o) × (j ≡ k)
TodoShows nodes (calls w k count) (tasks.Call id) = IsSomeAnd (slice_get nodes id.0) (λ node. (node.place ≡ k) × IsCall w (λ arguments. length arguments ≡ count) node.form)
TodoShows nodes _ _ = ⊥

-- the expressions of a list, in their order
abbrev pub listed_expressions : Listed → List Sum
listed_expressions (single e) = e ∷ []
listed_expressions (comma l k e) = listed_expressions l ++ e ∷ []

abbrev pub expressions_of : Arguments → List Sum
expressions_of none = []
expressions_of (listed l) = listed_expressions l

abbrev pub passed_expressions : Passed → List Sum
passed_expressions unlisted = []
passed_expressions (passed l) = listed_expressions l
passed_expressions (passed_more l k) = listed_expressions l

-- these nodes show these expressions
abbrev pub SumsShow : List Node → List Sum → List NodeId → Type 0
SumsShow nodes [] [] = Unit {0}
SumsShow nodes (e ∷ es) (id ∷ ids) = SumShows e nodes id.0 × SumsShow nodes es ids
SumsShow nodes _ _ = ⊥

-- the values of expressions, one after the other
abbrev pub values_of : Bindings → List Sum → State → Answers
values_of b [] left = Ok ([], left)
values_of b (e ∷ es) left = and_then (sum_value b e left) (λ v. and_then (values_of b es v.1) (λ vs. Ok (v.0 ∷ vs.0, vs.1)))

-- these tasks stand for these things to do
abbrev pub TodosShow : List Node → List Todo → List Task → Type 0
TodosShow nodes [] [] = Unit {0}
TodosShow nodes (t ∷ ts) (x ∷ xs) = TodoShows nodes t x × TodosShow nodes ts xs
TodosShow nodes _ _ = ⊥

-- the list of a stack, the top first
abbrev pub top_first : {A : Type 0} → Vec A Global → List A
top_first stack = reverse stack.items

-- the tasks of a chain: each operand but the first is followed by the operator before it
abbrev pub following_tasks : Operator → ℕ → List Operand → NodeId → List Task
following_tasks o k [] last = tasks.Evaluate last ∷ tasks.Operate o k ∷ []
following_tasks o k (x ∷ xs) last = tasks.Evaluate x.node ∷ tasks.Operate o k ∷ following_tasks x.operator x.place xs last

abbrev pub chain_tasks : List Operand → NodeId → List Task
chain_tasks [] last = tasks.Evaluate last ∷ []
chain_tasks (x ∷ xs) last = tasks.Evaluate x.node ∷ following_tasks x.operator x.place xs last

-- the tasks of a call: its arguments, and then itself
abbrev pub call_tasks : List NodeId → NodeId → List Task
call_tasks arguments id = map tasks.Evaluate arguments ++ tasks.Call id ∷ []

-- each of these operands stands before a node
abbrev pub AllBefore : ℕ → List Operand → Type 0
AllBefore id [] = Unit {0}
AllBefore id (x ∷ xs) = (x.node.0 < id) × AllBefore id xs

-- how many tasks a node takes, counted to a depth: one, and those of its operands
abbrev pub form_size : (ℕ → ℕ) → Form → ℕ
form_size size (forms.Chain left last) = suc (sum_by (λ x. size x.node.0 + 1) left + size last.0)
form_size size (forms.Call callee arguments) = suc (suc (sum_by (λ x. size x.0) arguments))
form_size size _ = 1

abbrev pub node_size : (ℕ → ℕ) → Option Node → ℕ
node_size size (Some node) = form_size size node.form
node_size size None = 1

unfoldable pub size_of : List Node → ℕ → ℕ → ℕ
size_of nodes zero id = 1
size_of nodes (suc depth) id = node_size (size_of nodes depth) (slice_get nodes id)

-- a node's operands stand before it, so one more than its number is depth enough
abbrev pub task_size : List Node → Task → ℕ
task_size nodes (tasks.Evaluate id) = size_of nodes (suc id.0) id.0
task_size nodes (tasks.Operate o k) = 1
task_size nodes (tasks.Call id) = 1

abbrev pub tasks_size : List Node → List Task → ℕ
tasks_size nodes xs = sum_by (task_size nodes) xs

-- what is left to do after a step, and what it gives
pub record Continues (nodes : List Node) (b : Bindings) (answer : Answer) (xs : List Task) (vs : List Value) (left : State) : Type 0 where
  pub todos : List Todo
  pub shown : TodosShow nodes todos xs
  pub fits : Fits todos (length vs)
  pub gives : answer ≡ perform b todos vs left

-- a step that went on, with what is left; or stopped with the answer's end; or for want of memory
abbrev pub Steps : {A : Type 0} → Result A Stop → List Node → Bindings → Answer → Vec Task Global → Vec Value Global → State → Type 0
Steps (Ok _) nodes b answer todo done left = Continues nodes b answer (top_first todo) (top_first done) left
Steps (Err stop) nodes b answer todo done left = Ends stop answer
