-- What a table of nodes shows: a node for each form of a derivation, after the nodes of its parts.
use Rattle.std.specs.Prelude.{◌≡◌, ℕ, ◌<◌, List, [], ◌∷◌, ◌++◌, IsSomeAnd, slice_get}
use Rattle.small_parser.specs.declared.script.NodeId.{NodeId}
use Rattle.small_parser.specs.declared.script.Operator.{Operator}
use Rattle.small_parser.specs.declared.script.Operator.TheVariants as operators
use Rattle.small_parser.specs.declared.script.Operand.{Operand}
use Rattle.small_parser.specs.declared.script.Form.{Form}
use Rattle.small_parser.specs.declared.script.Form.TheVariants as forms
use Rattle.small_parser.specs.declared.script.Node.{Node}
use Rattle.small_parser.specs.Grammar.{Additive, plus, minus, Sum, product, added, Product, factor, times, Factor, number, text, name, parens, call, Listed, single, comma, Passed, unlisted, passed, passed_more, Arguments, none, listed, Instance, Script, nothing, declaration, binding, printing, IsFine, KeepsNames}

-- the table has such a node at this number and place
abbrev pub AtNode : List Node → ℕ → ℕ → (Form → Type 0) → Type 0
AtNode nodes id place F = IsSomeAnd (slice_get nodes id) (λ n. (n.place ≡ place) × F n.form)

abbrev pub IsNumber : ℕ → Form → Type 0
IsNumber n (forms.Number m) = m ≡ n
IsNumber n _ = ⊥

abbrev pub IsText : List ℕ → Form → Type 0
IsText s (forms.Text t) = t ≡ s
IsText s _ = ⊥

abbrev pub IsName : List ℕ → Form → Type 0
IsName w (forms.Name v) = v ≡ w
IsName w _ = ⊥

abbrev pub IsChain : (List Operand → ℕ → Type 0) → Form → Type 0
IsChain F (forms.Chain left last) = F left last.0
IsChain F _ = ⊥

abbrev pub IsCall : List ℕ → (List NodeId → Type 0) → Form → Type 0
IsCall w F (forms.Call v arguments) = (v ≡ w) × F arguments
IsCall w F _ = ⊥

abbrev pub IsLet : List ℕ → (ℕ → Type 0) → Form → Type 0
IsLet w F (forms.Let v value) = (v ≡ w) × F value.0
IsLet w F _ = ⊥

abbrev pub IsBind : List ℕ → Instance → Form → Type 0
IsBind w i (forms.Bind v file export) = (v ≡ w) × (file ≡ i.file) × (export ≡ i.export)
IsBind w i _ = ⊥

abbrev pub IsPrint : (List NodeId → Type 0) → Form → Type 0
IsPrint F (forms.Print arguments) = F arguments
IsPrint F _ = ⊥

-- the list is one element after another list
abbrev pub EndsIn : {A : Type 0} → List A → (List A → A → Type 0) → Type 0
EndsIn {A} xs F = (front : List A) × (x : A) × (xs ≡ front ++ x ∷ []) × F front x

-- each of these numbers is less than another
abbrev pub AreBelow : List NodeId → ℕ → Type 0
AreBelow [] id = Unit {0}
AreBelow (x ∷ xs) id = (x.0 < id) × AreBelow xs id

abbrev pub operator_of : Additive → Operator
operator_of plus = operators.Plus
operator_of minus = operators.Minus

-- the place of the first operator of a chain, where one stands after what is given
abbrev pub sum_place : Sum → ℕ → ℕ
sum_place (product m) k = k
sum_place (added a o j m) k = sum_place a j

abbrev pub product_place : Product → ℕ → ℕ
product_place (factor f) k = k
product_place (times m j f) k = product_place m j

abbrev mutual
  pub SumShows : Sum → List Node → ℕ → Type 0
  SumShows (product m) nodes id = ProductShows m nodes id
  SumShows (added a o k m) nodes id = AtNode nodes id (sum_place a k) (IsChain (λ left last. SumLeft a o k nodes left id × ProductShows m nodes last × (last < id)))

  -- the operands of a chain of additive operators, through one that an operator follows
  pub SumLeft : Sum → Additive → ℕ → List Node → List Operand → ℕ → Type 0
  SumLeft (product m) o k nodes left id = (x : Operand) × (left ≡ x ∷ []) × (x.operator ≡ operator_of o) × (x.place ≡ k) × ProductShows m nodes x.node.0 × (x.node.0 < id)
  SumLeft (added a p j m) o k nodes left id = EndsIn left (λ front x. SumLeft a p j nodes front id × (x.operator ≡ operator_of o) × (x.place ≡ k) × ProductShows m nodes x.node.0 × (x.node.0 < id))

  pub ProductShows : Product → List Node → ℕ → Type 0
  ProductShows (factor f) nodes id = FactorShows f nodes id
  ProductShows (times m k f) nodes id = AtNode nodes id (product_place m k) (IsChain (λ left last. ProductLeft m k nodes left id × FactorShows f nodes last × (last < id)))

  pub ProductLeft : Product → ℕ → List Node → List Operand → ℕ → Type 0
  ProductLeft (factor f) k nodes left id = (x : Operand) × (left ≡ x ∷ []) × (x.operator ≡ operators.Times) × (x.place ≡ k) × FactorShows f nodes x.node.0 × (x.node.0 < id)
  ProductLeft (times m j f) k nodes left id = EndsIn left (λ front x. ProductLeft m j nodes front id × (x.operator ≡ operators.Times) × (x.place ≡ k) × FactorShows f nodes x.node.0 × (x.node.0 < id))

  pub FactorShows : Factor → List Node → ℕ → Type 0
  FactorShows (number n k) nodes id = AtNode nodes id k (IsNumber n)
  FactorShows (text s k) nodes id = AtNode nodes id k (IsText s)
  FactorShows (name w k) nodes id = AtNode nodes id k (IsName w)
  FactorShows (parens o e c) nodes id = SumShows e nodes id
  FactorShows (call w k o a c) nodes id = AtNode nodes id o (IsCall w (λ arguments. PassedShow a nodes arguments × AreBelow arguments id))

  pub ListedShows : Listed → List Node → List NodeId → Type 0
  ListedShows (single e) nodes ids = (x : NodeId) × (ids ≡ x ∷ []) × SumShows e nodes x.0
  ListedShows (comma l k e) nodes ids = EndsIn ids (λ front x. ListedShows l nodes front × SumShows e nodes x.0)

  pub PassedShow : Passed → List Node → List NodeId → Type 0
  PassedShow unlisted nodes ids = ids ≡ []
  PassedShow (passed l) nodes ids = ListedShows l nodes ids
  PassedShow (passed_more l k) nodes ids = ListedShows l nodes ids

abbrev pub ArgumentsShow : Arguments → List Node → List NodeId → Type 0
ArgumentsShow none nodes ids = ids ≡ []
ArgumentsShow (listed l) nodes ids = ListedShows l nodes ids

-- these numbers, in their order, are those of a script's statements
abbrev pub ScriptShows : Script → List Node → List NodeId → Type 0
ScriptShows nothing nodes ids = ids ≡ []
ScriptShows (declaration s l w n q e c) nodes ids = EndsIn ids (λ front x. ScriptShows s nodes front × AtNode nodes x.0 l (IsLet w (λ value. SumShows e nodes value)))
ScriptShows (binding s l w n q i c) nodes ids = EndsIn ids (λ front x. ScriptShows s nodes front × AtNode nodes x.0 l (IsBind w i))
ScriptShows (printing s p o a c e) nodes ids = EndsIn ids (λ front x. ScriptShows s nodes front × AtNode nodes x.0 p (IsPrint (λ arguments. ArgumentsShow a nodes arguments)))

-- a table and the numbers of statements are those of some script with no fault
abbrev pub IsTree : List Node → List NodeId → Type 0
IsTree nodes top = (d : Script) × IsFine d × ScriptShows d nodes top × KeepsNames d
