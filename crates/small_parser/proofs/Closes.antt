-- Closing a chain shows its derivation.
use Rattle.std.specs.Prelude.{◌≡◌, ℕ, ◌<◌, List, [], ◌∷◌, ◌++◌, Some, None, slice_get, refl, length}
use Rattle.std.proofs.Common.{sym, ◌∙◌, ap, append_assoc, arith, length-append}
use Rattle.small_parser.specs.declared.script.NodeId.{NodeId}
use Rattle.small_parser.specs.declared.script.Operator.TheVariants as operators
use Rattle.small_parser.specs.declared.script.Operand.{Operand}
use Rattle.small_parser.specs.declared.script.Form.TheVariants as forms
use Rattle.small_parser.specs.declared.script.Node.{Node}
use Rattle.small_parser.specs.declared.chain.Level as code
use Rattle.small_parser.specs.Grammar.{Additive, Sum, product, added, Product, factor, times, Factor}
use Rattle.small_parser.specs.Machine.{BeforeSum, no_sum, sum_before, BeforeProduct, no_product, product_before, BeforeListed, no_listed, listed_before, Level, level, product_with, sum_with, listed_with, sum_of, at_times, at_added}
use Rattle.small_parser.specs.Shows.{IsChain, SumShows, SumLeft, ProductShows, ProductLeft, FactorShows, ListedShows, sum_place, product_place, operator_of}
use Rattle.small_parser.specs.Chains.{BeforeSumShows, BeforeProductShows, BeforeListedShows, LevelShows, Grows}
use Rattle.small_parser.proofs.Grow.{at_end, sum_left_on, product_left_on, factor_below, product_below, factor_kept, product_kept, before_sum_kept}

pub grows_by : (old new : List Node) (x : Node) → new ≡ old ++ x ∷ [] → Grows old new
grows_by old new x h = (x ∷ [], h)

-- a list that ends in something isn't empty
not_empty : {A : Type 0} (front : List A) (x : A) → [] ≡ front ++ x ∷ [] → ⊥
not_empty [] x e = cc
not_empty (y ∷ front) x e = cc

pub product_alone : (m : BeforeProduct) (f : Factor) (nodes : List Node) (left : List Operand) (id : ℕ) → left ≡ [] → BeforeProductShows m nodes left → FactorShows f nodes id → ProductShows (product_with m f) nodes id
product_alone no_product f nodes left id e h g = g
product_alone (product_before (factor b) k) f nodes left id e (x, q, operator, place, h, below) g = absurd (not_empty [] x (sym e ∙ q))
product_alone (product_before (times m j b) k) f nodes left id e (front, x, q, h) g = absurd (not_empty front x (sym e ∙ q))

pub sum_alone : (a : BeforeSum) (m : Product) (nodes : List Node) (left : List Operand) (id : ℕ) → left ≡ [] → BeforeSumShows a nodes left → ProductShows m nodes id → SumShows (sum_with a m) nodes id
sum_alone no_sum m nodes left id e h g = g
sum_alone (sum_before (product b) o k) m nodes left id e (x, q, operator, place, h, below) g = absurd (not_empty [] x (sym e ∙ q))
sum_alone (sum_before (added a p j b) o k) m nodes left id e (front, x, q, h) g = absurd (not_empty front x (sym e ∙ q))

-- the first of a longer list
first_kept : (front : List Operand) (x y : Operand) → 0 < length front → slice_get (front ++ x ∷ []) 0 ≡ Some y → slice_get front 0 ≡ Some y
first_kept [] x y h e = absurd (omega arith)
first_kept (z ∷ front) x y h e = e

product_left_some : (m : Product) (k : ℕ) (nodes : List Node) (left : List Operand) (id : ℕ) → ProductLeft m k nodes left id → 0 < length left
product_left_some (factor f) k nodes left id (x, e, operator, place, h, below) = rw e (omega arith)
product_left_some (times m j f) k nodes left id (front, x, e, h) = rw (e, length-append) (omega arith)

product_first : (m : Product) (k : ℕ) (nodes : List Node) (left : List Operand) (id : ℕ) (y : Operand) → slice_get left 0 ≡ Some y → ProductLeft m k nodes left id → y.place ≡ product_place m k
product_first (factor f) k nodes left id y g (x, e, operator, place, h, below) = let q : Some x ≡ Some y = ap (λ z. slice_get z 0) (sym e) ∙ g in let same : x ≡ y = cc in ap (λ z. z.place) (sym same) ∙ place
product_first (times m j f) k nodes left id y g (front, x, e, h) = product_first m j nodes front id y (first_kept front x y (product_left_some m j nodes front id h.0) (ap (λ z. slice_get z 0) (sym e) ∙ g)) h.0

sum_left_some : (e : Sum) (o : Additive) (k : ℕ) (nodes : List Node) (left : List Operand) (id : ℕ) → SumLeft e o k nodes left id → 0 < length left
sum_left_some (product m) o k nodes left id (x, e, operator, place, h, below) = rw e (omega arith)
sum_left_some (added a p j m) o k nodes left id (front, x, e, h) = rw (e, length-append) (omega arith)

sum_first : (s : Sum) (o : Additive) (k : ℕ) (nodes : List Node) (left : List Operand) (id : ℕ) (y : Operand) → slice_get left 0 ≡ Some y → SumLeft s o k nodes left id → y.place ≡ sum_place s k
sum_first (product m) o k nodes left id y g (x, e, operator, place, h, below) = let q : Some x ≡ Some y = ap (λ z. slice_get z 0) (sym e) ∙ g in let same : x ≡ y = cc in ap (λ z. z.place) (sym same) ∙ place
sum_first (added a p j m) o k nodes left id y g (front, x, e, h) = sum_first a p j nodes front id y (first_kept front x y (sum_left_some a p j nodes front id h.0) (ap (λ z. slice_get z 0) (sym e) ∙ g)) h.0

pub product_closed : (m : BeforeProduct) (f : Factor) (old new : List Node) (left : List Operand) (operand : NodeId) (made : ℕ) (y : Operand)
    → slice_get left 0 ≡ Some y → made ≡ length old → new ≡ old ++ record { form = forms.Chain left operand; place = y.place } ∷ []
    → BeforeProductShows m old left → FactorShows f old operand.0 → ProductShows (product_with m f) new made
product_closed no_product f old new left operand made y g e1 e2 h hf = let none : None ≡ Some y = sym (ap (λ z. slice_get z 0) h) ∙ g in cc
product_closed (product_before m k) f old new left operand made y g e1 e2 h hf =
    let node : Node = record { form = forms.Chain left operand; place = y.place } in
    let longer : List Node = old ++ node ∷ [] in
    let grown : Grows old longer = (node ∷ [], refl) in
    rw (e1, e2) (at_end old (forms.Chain left operand) y.place (product_place m k) (IsChain (λ xs last. ProductLeft m k longer xs (length old) × FactorShows f longer last × (last < length old)))
    (product_first m k old left (length old) y g h)
    (product_left_on old (node ∷ []) m k left (length old) (length old) (omega arith) h, factor_kept old longer f operand.0 grown hf, factor_below f old operand.0 hf))

pub sum_closed : (a : BeforeSum) (m : Product) (old new : List Node) (left : List Operand) (operand : NodeId) (made : ℕ) (y : Operand)
    → slice_get left 0 ≡ Some y → made ≡ length old → new ≡ old ++ record { form = forms.Chain left operand; place = y.place } ∷ []
    → BeforeSumShows a old left → ProductShows m old operand.0 → SumShows (sum_with a m) new made
sum_closed no_sum m old new left operand made y g e1 e2 h hm = let none : None ≡ Some y = sym (ap (λ z. slice_get z 0) h) ∙ g in cc
sum_closed (sum_before a o k) m old new left operand made y g e1 e2 h hm =
    let node : Node = record { form = forms.Chain left operand; place = y.place } in
    let longer : List Node = old ++ node ∷ [] in
    let grown : Grows old longer = (node ∷ [], refl) in
    rw (e1, e2) (at_end old (forms.Chain left operand) y.place (sum_place a k) (IsChain (λ xs last. SumLeft a o k longer xs (length old) × ProductShows m longer last × (last < length old)))
    (sum_first a o k old left (length old) y g h)
    (sum_left_on old (node ∷ []) a o k left (length old) (length old) (omega arith) h, product_kept old longer m operand.0 grown hm, product_below m old operand.0 hm))

-- the level that an operand ends
pub level_closed : (l : Level) (f : Factor) (old mid new : List Node) (v : code.Level) (operand chain id : ℕ)
    → Grows old mid → ((m : BeforeProduct) (g : Factor) → BeforeProductShows m old v.product → FactorShows g old operand → ProductShows (product_with m g) mid chain)
    → ((a : BeforeSum) (m : Product) → BeforeSumShows a mid v.sum → ProductShows m mid chain → SumShows (sum_with a m) new id)
    → LevelShows l old v → FactorShows f old operand → SumShows (sum_of l f) new id
level_closed (level a m) f old mid new v operand chain id g h1 h2 h hf = h2 a (product_with m f) (before_sum_kept old mid a v.sum g h.0) (h1 m f h.1 hf)

pub grows_on : (a b c : List Node) → Grows a b → Grows b c → Grows a c
grows_on a b c (more, e) (rest, h) = (more ++ rest, h ∙ ap (λ z. z ++ rest) e ∙ append_assoc a more rest)

-- an operand went before a `*`
pub times_level : (l : Level) (f : Factor) (nodes : List Node) (v w : code.Level) (x : Operand) (k : ℕ)
    → w.sum ≡ v.sum → w.product ≡ v.product ++ x ∷ [] → x.operator ≡ operators.Times → x.place ≡ k
    → LevelShows l nodes v → FactorShows f nodes x.node.0 → LevelShows (at_times l f k) nodes w
times_level (level a no_product) f nodes v w x k e1 e2 e3 e4 h g = (rw e1 h.0, (x, (e2 ∙ ap (λ z. z ++ x ∷ []) h.1), e3, e4, g, factor_below f nodes x.node.0 g))
times_level (level a (product_before m j)) f nodes v w x k e1 e2 e3 e4 h g = (rw e1 h.0, (v.product, x, e2, (h.1, e3, e4, g, factor_below f nodes x.node.0 g)))

sum_pushed : (a : BeforeSum) (m : Product) (o : Additive) (nodes : List Node) (left longer : List Operand) (x : Operand) (k : ℕ)
    → longer ≡ left ++ x ∷ [] → x.operator ≡ operator_of o → x.place ≡ k
    → BeforeSumShows a nodes left → ProductShows m nodes x.node.0 → BeforeSumShows (sum_before (sum_with a m) o k) nodes longer
sum_pushed no_sum m o nodes left longer x k e2 e3 e4 h g = (x, (e2 ∙ ap (λ z. z ++ x ∷ []) h), e3, e4, g, product_below m nodes x.node.0 g)
sum_pushed (sum_before a p j) m o nodes left longer x k e2 e3 e4 h g = (left, x, e2, (h, e3, e4, g, product_below m nodes x.node.0 g))

-- a product went before a `+` or `-`
pub added_level : (l : Level) (f : Factor) (o : Additive) (old new : List Node) (v w : code.Level) (operand : ℕ) (x : Operand) (k : ℕ)
    → Grows old new → ((m : BeforeProduct) (g : Factor) → BeforeProductShows m old v.product → FactorShows g old operand → ProductShows (product_with m g) new x.node.0)
    → w.sum ≡ v.sum ++ x ∷ [] → w.product ≡ [] → x.operator ≡ operator_of o → x.place ≡ k
    → LevelShows l old v → FactorShows f old operand → LevelShows (at_added l f o k) new w
added_level (level a m) f o old new v w operand x k g h1 e1 e2 e3 e4 h hf = (
  sum_pushed a (product_with m f) o new v.sum w.sum x k e1 e3 e4 (before_sum_kept old new a v.sum g h.0) (h1 m f h.1 hf),
  e2,
)

pub listed_pushed : (a : BeforeListed) (e : Sum) (nodes : List Node) (ids longer : List NodeId) (x : NodeId)
    → longer ≡ ids ++ x ∷ [] → BeforeListedShows a nodes ids → SumShows e nodes x.0 → ListedShows (listed_with a e) nodes longer
listed_pushed no_listed e nodes ids longer x q h g = (x, (q ∙ ap (λ z. z ++ x ∷ []) h), g)
listed_pushed (listed_before l k) e nodes ids longer x q h g = (ids, x, q, (h, g))

-- a list without a first element is empty
pub empty_list : (xs : List Operand) → None ≡ slice_get xs 0 → xs ≡ []
empty_list [] e = refl
empty_list (x ∷ xs) e = cc
