-- Laws of a script's tree for its callers: the contract of a method that does nothing.
use Rattle.std.specs.Prelude.{◌≡◌, ℕ, ◌<◌, ◌≤◌, ◌^◌, length, Some, IfSome}
use Rattle.std.specs.List.{All, slice_get}
use Rattle.host_lexer.specs.Numerals.{greatest_number}
use Rattle.host_nodes.specs.declared.form.NodeId.{NodeId}
use Rattle.host_nodes.specs.declared.form.Operand.{Operand}
use Rattle.host_nodes.specs.declared.form.Property.{Property}
use Rattle.host_nodes.specs.declared.form.Declaration.{Declaration}
use Rattle.host_nodes.specs.declared.form.Form.{Form}
use Rattle.host_nodes.specs.declared.form.Form.TheVariants as forms
use Rattle.host_nodes.specs.declared.form.Node.{Node}
use Rattle.host_nodes.specs.declared.form.Function.{Function}
use Rattle.host_parser.specs.declared.binding.Binding.{Binding}
use Rattle.host_parser.specs.declared.binding.Binding.TheVariants as bindings
use Rattle.host_parser.specs.Trees.{Tree}

abbrev pub IsBefore : ℕ → NodeId → Type 0
IsBefore k x = x.0 < k

abbrev pub DeclaresBefore : ℕ → Declaration → Type 0
DeclaresBefore k d = IsBefore k d.name × IfSome d.value (IsBefore k)

-- the parts of a form have numbers below this one
abbrev pub PartsBefore : ℕ → Form → Type 0
PartsBefore k (forms.Array xs) = All (IsBefore k) xs
PartsBefore k (forms.Object ps) = All (λ (p : Property). IsBefore k p.value) ps
PartsBefore k (forms.Member x n) = IsBefore k x
PartsBefore k (forms.Index x y) = IsBefore k x × IsBefore k y
PartsBefore k (forms.Call x ys) = IsBefore k x × All (IsBefore k) ys
PartsBefore k (forms.New x ys) = IsBefore k x × All (IsBefore k) ys
PartsBefore k (forms.Prefix o x) = IsBefore k x
PartsBefore k (forms.Chain os x) = All (λ (o : Operand). IsBefore k o.node) os × IsBefore k x
PartsBefore k (forms.Block n xs) = All (IsBefore k) xs
PartsBefore k (forms.Expression x) = IsBefore k x
PartsBefore k (forms.Assign x y) = IsBefore k x × IsBefore k y
PartsBefore k (forms.If x y) = IsBefore k x × IsBefore k y
PartsBefore k (forms.IfElse x y z) = IsBefore k x × IsBefore k y × IsBefore k z
PartsBefore k (forms.While x y) = IsBefore k x × IsBefore k y
PartsBefore k (forms.Return x) = IfSome x (IsBefore k)
PartsBefore k (forms.Throw x) = IsBefore k x
PartsBefore k (forms.Try x c y) = IsBefore k x × IsBefore k y
PartsBefore k (forms.Let ds) = All (DeclaresBefore k) ds
PartsBefore k (forms.Const ds) = All (DeclaresBefore k) ds
PartsBefore k _ = Unit {0}

-- each node that a tree names is one of its nodes, and each node stands after its parts
pub record NodesAreThere (t : Tree) : Type 0 where
  pub top : All (IsBefore (length t.nodes)) t.top
  pub bodies : All (λ (f : Function). IsBefore (length t.nodes) f.body) t.functions
  pub parts : (k : ℕ) (n : Node) → slice_get t.nodes k ≡ Some n → PartsBefore k n.form

-- a name's reference has a number below this one
abbrev pub RefersBelow : ℕ → Form → Type 0
RefersBelow k (forms.Name n r) = r.0 < k
RefersBelow k _ = Unit {0}

-- a global binding has a number below this one
abbrev pub IsGlobalBelow : ℕ → Binding → Type 0
IsGlobalBelow k (bindings.Global s) = s.number < k
IsGlobalBelow k _ = Unit {0}

-- each name has its binding, and each global binding is one of the script's
pub record BindingsAreThere (t : Tree) : Type 0 where
  pub references : All (λ (n : Node). RefersBelow (length t.bindings) n.form) t.nodes
  pub globals : All (IsGlobalBelow t.globals) t.bindings

-- a number of a script is one of the profile: a Number at most 2^53-1, and a BigInt less than 2^127
abbrev pub NumberFits : Form → Type 0
NumberFits (forms.Number z) = z ≤ greatest_number
NumberFits (forms.BigInt z) = z < 2 ^ 127
NumberFits _ = Unit {0}

-- the number of each node is one of the profile
abbrev pub NumbersFit : Tree → Type 0
NumbersFit t = (k : ℕ) (n : Node) → slice_get t.nodes k ≡ Some n → NumberFits n.form
