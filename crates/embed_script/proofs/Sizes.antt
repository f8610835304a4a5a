-- The tasks of a chain or a call take less than it: an evaluation ends.
use Rattle.std.proofs.Common.{◌≡◌, ℕ, zero, suc, ◌+◌, ◌-◌, ◌<◌, ◌≤◌, List, [], ◌∷◌, Option, Some, None, slice_get, sum_by, arith, subst, sym}
use Rattle.std.proofs.lemmas.List.Sums.{sum_by-cons, sum_by-le-sum_by}
use Rattle.small_parser.specs.declared.script.NodeId.{NodeId}
use Rattle.small_parser.specs.declared.script.Operator.{Operator}
use Rattle.small_parser.specs.declared.script.Operand.{Operand}
use Rattle.small_parser.specs.declared.script.Form.{Form}
use Rattle.small_parser.specs.declared.script.Form.TheVariants as forms
use Rattle.small_parser.specs.declared.script.Node.{Node}
use Rattle.small_parser.specs.Shows.{AreBelow}
use Rattle.embed_script.specs.declared.evaluate.Task.TheVariants as tasks
use Rattle.embed_script.specs.Tasks.{size_of, form_size, node_size, tasks_size, task_size, chain_tasks, following_tasks, call_tasks, AllBefore}

form_larger : (f g : ℕ → ℕ) (form : Form) → ((x : ℕ) → f x ≤ g x) → form_size f form ≤ form_size g form
form_larger f g (forms.Chain left last) h =
    let a : sum_by (λ x. f x.node.0 + 1) left ≤ sum_by (λ x. g x.node.0 + 1) left = sum_by-le-sum_by (λ x. f x.node.0 + 1) (λ x. g x.node.0 + 1) left (λ x. omega (arith, h x.node.0)) in
    omega (arith, h last.0)
form_larger f g (forms.Call callee arguments) h =
    let a : sum_by (λ x. f x.0) arguments ≤ sum_by (λ x. g x.0) arguments = sum_by-le-sum_by (λ x. f x.0) (λ x. g x.0) arguments (λ x. h x.0) in
    omega (arith, a)
form_larger f g _ h = omega arith

node_larger : (f g : ℕ → ℕ) (node : Option Node) → ((x : ℕ) → f x ≤ g x) → node_size f node ≤ node_size g node
node_larger f g (Some node) h = form_larger f g node.form h
node_larger f g None h = omega arith

form_least : (f : ℕ → ℕ) (form : Form) → 1 ≤ form_size f form
form_least f (forms.Chain left last) = omega arith
form_least f (forms.Call callee arguments) = omega arith
form_least f _ = omega arith

node_least : (f : ℕ → ℕ) (node : Option Node) → 1 ≤ node_size f node
node_least f (Some node) = form_least f node.form
node_least f None = omega arith

-- a size counted deeper is no smaller
deeper : (nodes : List Node) (depth id : ℕ) → size_of nodes depth id ≤ size_of nodes (suc depth) id
unfolding size_of
deeper nodes zero id = node_least (size_of nodes zero) (slice_get nodes id)
deeper nodes (suc depth) id = node_larger (size_of nodes depth) (size_of nodes (suc depth)) (slice_get nodes id) (deeper nodes depth)

deep_enough : (nodes : List Node) (depth id more : ℕ) → size_of nodes depth id ≤ size_of nodes (more + depth) id
deep_enough nodes depth id zero = let P : ℕ → Type 0 = λ n. size_of nodes depth id ≤ size_of nodes n id in let e : depth ≡ zero + depth = omega arith in subst P e (omega arith)
deep_enough nodes depth id (suc more) =
    let P : ℕ → Type 0 = λ n. size_of nodes depth id ≤ size_of nodes n id in
    let e : suc (more + depth) ≡ suc more + depth = omega arith in
    let a = deep_enough nodes depth id more in
    let c = deeper nodes (more + depth) id in
    subst P e (omega (arith, a, c))

own_depth : (nodes : List Node) (id depth : ℕ) → id < depth → size_of nodes (suc id) id ≤ size_of nodes depth id
own_depth nodes id depth h =
    let P : ℕ → Type 0 = λ n. size_of nodes (suc id) id ≤ size_of nodes n id in
    let e : (depth - suc id) + suc id ≡ depth = omega arith in
    subst P e (deep_enough nodes (suc id) id (depth - suc id))

following_size : (nodes : List Node) (depth : ℕ) (o : Operator) (k : ℕ) (xs : List Operand) (last : NodeId) → AllBefore depth xs → last.0 < depth
    → tasks_size nodes (following_tasks o k xs last) ≤ suc (sum_by (λ x. size_of nodes depth x.node.0 + 1) xs + size_of nodes depth last.0)
following_size nodes depth o k [] last h l = let a = own_depth nodes last.0 depth l in omega (arith, a)
following_size nodes depth o k (x ∷ xs) last h l =
    let a = own_depth nodes x.node.0 depth h.0 in
    let r = following_size nodes depth x.operator x.place xs last h.1 l in
    let rest = following_tasks x.operator x.place xs last in
    let first = sum_by-cons (task_size nodes) (tasks.Evaluate x.node) (tasks.Operate o k ∷ rest) in
    let second = sum_by-cons (task_size nodes) (tasks.Operate o k) rest in
    let sizes = sum_by-cons (λ y. size_of nodes depth y.node.0 + 1) x xs in
    omega (arith, a, r, first, second, sizes)

chain_size : (nodes : List Node) (depth : ℕ) (left : List Operand) (last : NodeId) → AllBefore depth left → last.0 < depth
    → tasks_size nodes (chain_tasks left last) ≤ sum_by (λ x. size_of nodes depth x.node.0 + 1) left + size_of nodes depth last.0
chain_size nodes depth [] last h l = let a = own_depth nodes last.0 depth l in omega (arith, a)
chain_size nodes depth (x ∷ xs) last h l =
    let a = own_depth nodes x.node.0 depth h.0 in
    let r = following_size nodes depth x.operator x.place xs last h.1 l in
    let first = sum_by-cons (task_size nodes) (tasks.Evaluate x.node) (following_tasks x.operator x.place xs last) in
    let sizes = sum_by-cons (λ y. size_of nodes depth y.node.0 + 1) x xs in
    omega (arith, a, r, first, sizes)

-- the tasks of a chain whose operands stand before it take less than the chain
pub chain_smaller : (nodes : List Node) (id : ℕ) (node : Node) (left : List Operand) (last : NodeId) → slice_get nodes id ≡ Some node → node.form ≡ forms.Chain left last
    → AllBefore id left → last.0 < id → tasks_size nodes (chain_tasks left last) < size_of nodes (suc id) id
unfolding size_of
chain_smaller nodes id node left last at is h l =
    let P : Option Node → Type 0 = λ n. tasks_size nodes (chain_tasks left last) < node_size (size_of nodes id) n in
    let Q : Form → Type 0 = λ f. tasks_size nodes (chain_tasks left last) < form_size (size_of nodes id) f in
    let a = chain_size nodes id left last h l in
    subst P (sym at) (subst Q (sym is) (omega (arith, a)))

call_size : (nodes : List Node) (depth : ℕ) (ids : List NodeId) (id : NodeId) → AreBelow ids depth → tasks_size nodes (call_tasks ids id) ≤ suc (sum_by (λ x. size_of nodes depth x.0) ids)
call_size nodes depth [] id h = omega arith
call_size nodes depth (x ∷ xs) id h =
    let a = own_depth nodes x.0 depth h.0 in
    let r = call_size nodes depth xs id h.1 in
    let first = sum_by-cons (task_size nodes) (tasks.Evaluate x) (call_tasks xs id) in
    let sizes = sum_by-cons (λ y. size_of nodes depth y.0) x xs in
    omega (arith, a, r, first, sizes)

-- the tasks of a call whose arguments stand before it take less than the call
pub call_smaller : (nodes : List Node) (id : ℕ) (node : Node) (callee : List ℕ) (arguments : List NodeId) (task : NodeId) → slice_get nodes id ≡ Some node → node.form ≡ forms.Call callee arguments
    → AreBelow arguments id → tasks_size nodes (call_tasks arguments task) < size_of nodes (suc id) id
unfolding size_of
call_smaller nodes id node callee arguments task at is h =
    let P : Option Node → Type 0 = λ n. tasks_size nodes (call_tasks arguments task) < node_size (size_of nodes id) n in
    let Q : Form → Type 0 = λ f. tasks_size nodes (call_tasks arguments task) < form_size (size_of nodes id) f in
    let a = call_size nodes id arguments task h in
    subst P (sym at) (subst Q (sym is) (omega (arith, a)))

pub size_least : (nodes : List Node) (depth id : ℕ) → 1 ≤ size_of nodes depth id
unfolding size_of
size_least nodes zero id = omega arith
size_least nodes (suc depth) id = node_least (size_of nodes depth) (slice_get nodes id)
