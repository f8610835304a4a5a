-- What a table shows, a longer one shows.
use Rattle.std.specs.Prelude.{◌≡◌, ℕ, zero, ◌<◌, ◌≤◌, List, [], ◌∷◌, ◌++◌, length}
use Rattle.std.proofs.Common.{suc, sym, subst, arith, length-append}
use Rattle.small_parser.specs.declared.script.NodeId.{NodeId}
use Rattle.small_parser.specs.declared.script.Operand.{Operand}
use Rattle.small_parser.specs.declared.script.Form.{Form}
use Rattle.small_parser.specs.declared.script.Form.TheVariants as forms
use Rattle.small_parser.specs.declared.script.Node.{Node}
use Rattle.small_parser.specs.declared.chain.Level as code
use Rattle.small_parser.specs.declared.reader.Outer as code_outer
use Rattle.small_parser.specs.declared.reader.Outer.TheVariants as outers
use Rattle.small_parser.specs.declared.reader.Statement.{Statement}
use Rattle.small_parser.specs.declared.reader.Statement.TheVariants as statements
use Rattle.small_parser.specs.Grammar.{Additive, Sum, product, added, Product, factor, times, Factor, number, text, name, parens, call, Listed, single, comma, Passed, unlisted, passed, passed_more, Arguments, none, listed, Script, nothing, declaration, binding, printing}
use Rattle.small_parser.specs.Machine.{BeforeSum, no_sum, sum_before, BeforeProduct, no_product, product_before, BeforeListed, no_listed, listed_before, Level, level, Outer, in_let, in_print, in_parens, in_call}
use Rattle.small_parser.specs.Shows.{AtNode, IsChain, IsCall, IsLet, IsPrint, AreBelow, SumShows, SumLeft, ProductShows, ProductLeft, FactorShows, ListedShows, PassedShow, ArgumentsShow, ScriptShows}
use Rattle.small_parser.specs.Chains.{BeforeSumShows, BeforeProductShows, BeforeListedShows, LevelShows, Grows}
use Rattle.small_parser.specs.Reading.{OuterShows}

-- a node that is there stays there
at_grows : (nodes more : List Node) (id place : ℕ) (F G : Form → Type 0) → ((f : Form) → F f → G f) → AtNode nodes id place F → AtNode (nodes ++ more) id place G
at_grows [] more id place F G g h = absurd h
at_grows (n ∷ nodes) more zero place F G g h = (h.0, g n.form h.1)
at_grows (n ∷ nodes) more (suc id) place F G g h = at_grows nodes more id place F G g h

-- the node that was added
pub at_end : (nodes : List Node) (f : Form) (place q : ℕ) (F : Form → Type 0) → place ≡ q → F f → AtNode (nodes ++ record { form = f; place = place } ∷ []) (length nodes) q F
at_end [] f place q F e h = (e, h)
at_end (n ∷ nodes) f place q F e h = at_end nodes f place q F e h

-- a node that is there has its number below the table's length
at_below : (nodes : List Node) (id place : ℕ) (F : Form → Type 0) → AtNode nodes id place F → id < length nodes
at_below [] id place F h = absurd h
at_below (n ∷ nodes) zero place F h = omega arith
at_below (n ∷ nodes) (suc id) place F h = let below : id < length nodes = at_below nodes id place F h in omega arith

mutual
  pub sum_below : (e : Sum) (nodes : List Node) (id : ℕ) → SumShows e nodes id → id < length nodes
  sum_below (product m) nodes id h = product_below m nodes id h
  sum_below (added a o k m) nodes id h = at_below nodes id _ _ h

  pub product_below : (m : Product) (nodes : List Node) (id : ℕ) → ProductShows m nodes id → id < length nodes
  product_below (factor f) nodes id h = factor_below f nodes id h
  product_below (times m k f) nodes id h = at_below nodes id _ _ h

  pub factor_below : (f : Factor) (nodes : List Node) (id : ℕ) → FactorShows f nodes id → id < length nodes
  factor_below (number n k) nodes id h = at_below nodes id _ _ h
  factor_below (text s k) nodes id h = at_below nodes id _ _ h
  factor_below (name w k) nodes id h = at_below nodes id _ _ h
  factor_below (parens o e c) nodes id h = sum_below e nodes id h
  factor_below (call w k o a c) nodes id h = at_below nodes id _ _ h

below_more : (front : List NodeId) (x : NodeId) (n : ℕ) → AreBelow front n → x.0 < n → AreBelow (front ++ x ∷ []) n
below_more [] x n h lt = (lt, tt)
below_more (y ∷ front) x n h lt = (h.0, below_more front x n h.1 lt)

listed_below : (l : Listed) (nodes : List Node) (ids : List NodeId) → ListedShows l nodes ids → AreBelow ids (length nodes)
listed_below (single e) nodes ids (x, h, f) = rw h (sum_below e nodes x.0 f, tt)
listed_below (comma l k e) nodes ids (front, x, h, f) = rw h (below_more front x (length nodes) (listed_below l nodes front f.0) (sum_below e nodes x.0 f.1))

pub passed_below : (a : Passed) (nodes : List Node) (ids : List NodeId) → PassedShow a nodes ids → AreBelow ids (length nodes)
passed_below unlisted nodes ids h = rw h tt
passed_below (passed l) nodes ids h = listed_below l nodes ids h
passed_below (passed_more l k) nodes ids h = listed_below l nodes ids h

chain_grows : (P Q : List Operand → ℕ → Type 0) → ((left : List Operand) (last : ℕ) → P left last → Q left last) → (f : Form) → IsChain P f → IsChain Q f
chain_grows P Q g (forms.Chain left last) h = g left last.0 h
chain_grows P Q g _ h = absurd h

call_grows : (w : List ℕ) (P Q : List NodeId → Type 0) → ((arguments : List NodeId) → P arguments → Q arguments) → (f : Form) → IsCall w P f → IsCall w Q f
call_grows w P Q g (forms.Call v arguments) h = (h.0, g arguments h.1)
call_grows w P Q g _ h = absurd h

let_grows : (w : List ℕ) (P Q : ℕ → Type 0) → ((value : ℕ) → P value → Q value) → (f : Form) → IsLet w P f → IsLet w Q f
let_grows w P Q g (forms.Let v value) h = (h.0, g value.0 h.1)
let_grows w P Q g _ h = absurd h

print_grows : (P Q : List NodeId → Type 0) → ((arguments : List NodeId) → P arguments → Q arguments) → (f : Form) → IsPrint P f → IsPrint Q f
print_grows P Q g (forms.Print arguments) h = g arguments h
print_grows P Q g _ h = absurd h

module _ (nodes more : List Node) where
  mutual
    sum_on : (e : Sum) (id : ℕ) → SumShows e nodes id → SumShows e (nodes ++ more) id
    sum_on (product m) id h = product_on m id h
    sum_on (added a o k m) id h = at_grows nodes more id _ _ _ (chain_grows _ _ (λ left last f. (sum_left_on a o k left id id (omega arith) f.0, product_on m last f.1, f.2))) h

    pub sum_left_on : (e : Sum) (o : Additive) (k : ℕ) (left : List Operand) (low high : ℕ) → low ≤ high → SumLeft e o k nodes left low → SumLeft e o k (nodes ++ more) left high
    sum_left_on (product m) o k left low high le (x, e, operator, place, f, below) = (x, e, operator, place, product_on m _ f, omega arith)
    sum_left_on (added a p j m) o k left low high le (front, x, e, f) = (front, x, e, (sum_left_on a p j front low high le f.0, f.1, f.2, product_on m _ f.3, (let below : x.node.0 < low = f.4 in omega arith)))

    product_on : (m : Product) (id : ℕ) → ProductShows m nodes id → ProductShows m (nodes ++ more) id
    product_on (factor f) id h = factor_on f id h
    product_on (times m k f) id h = at_grows nodes more id _ _ _ (chain_grows _ _ (λ left last g. (product_left_on m k left id id (omega arith) g.0, factor_on f last g.1, g.2))) h

    pub product_left_on : (m : Product) (k : ℕ) (left : List Operand) (low high : ℕ) → low ≤ high → ProductLeft m k nodes left low → ProductLeft m k (nodes ++ more) left high
    product_left_on (factor f) k left low high le (x, e, operator, place, g, below) = (x, e, operator, place, factor_on f _ g, omega arith)
    product_left_on (times m j f) k left low high le (front, x, e, g) = (front, x, e, (product_left_on m j front low high le g.0, g.1, g.2, factor_on f _ g.3, (let below : x.node.0 < low = g.4 in omega arith)))

    factor_on : (f : Factor) (id : ℕ) → FactorShows f nodes id → FactorShows f (nodes ++ more) id
    factor_on (number n k) id h = at_grows nodes more id _ _ _ (λ f g. g) h
    factor_on (text s k) id h = at_grows nodes more id _ _ _ (λ f g. g) h
    factor_on (name w k) id h = at_grows nodes more id _ _ _ (λ f g. g) h
    factor_on (parens o e c) id h = sum_on e id h
    factor_on (call w k o a c) id h = at_grows nodes more id _ _ _ (call_grows w _ _ (λ arguments g. (passed_on a arguments g.0, g.1))) h

    listed_on : (l : Listed) (ids : List NodeId) → ListedShows l nodes ids → ListedShows l (nodes ++ more) ids
    listed_on (single e) ids (x, h, f) = (x, h, sum_on e _ f)
    listed_on (comma l k e) ids (front, x, h, f) = (front, x, h, (listed_on l front f.0, sum_on e _ f.1))

    passed_on : (a : Passed) (ids : List NodeId) → PassedShow a nodes ids → PassedShow a (nodes ++ more) ids
    passed_on unlisted ids h = h
    passed_on (passed l) ids h = listed_on l ids h
    passed_on (passed_more l k) ids h = listed_on l ids h

  arguments_on : (a : Arguments) (ids : List NodeId) → ArgumentsShow a nodes ids → ArgumentsShow a (nodes ++ more) ids
  arguments_on none ids h = h
  arguments_on (listed l) ids h = listed_on l ids h

  script_on : (d : Script) (ids : List NodeId) → ScriptShows d nodes ids → ScriptShows d (nodes ++ more) ids
  script_on nothing ids h = h
  script_on (declaration s l w n q e c) ids (front, x, h, f) = (front, x, h, (script_on s front f.0, at_grows nodes more x.0 _ _ _ (let_grows w _ _ (λ value g. sum_on e value g)) f.1))
  script_on (binding s l w n q i c) ids (front, x, h, f) = (front, x, h, (script_on s front f.0, at_grows nodes more x.0 _ _ _ (λ f g. g) f.1))
  script_on (printing s p o a c e) ids (front, x, h, f) = (front, x, h, (script_on s front f.0, at_grows nodes more x.0 _ _ _ (print_grows _ _ (λ arguments g. arguments_on a arguments g)) f.1))

  before_sum_on : (a : BeforeSum) (left : List Operand) → BeforeSumShows a nodes left → BeforeSumShows a (nodes ++ more) left
  before_sum_on no_sum left h = h
  before_sum_on (sum_before a o k) left h = sum_left_on a o k left (length nodes) (length (nodes ++ more)) (omega (arith, length-append nodes more)) h

  before_product_on : (m : BeforeProduct) (left : List Operand) → BeforeProductShows m nodes left → BeforeProductShows m (nodes ++ more) left
  before_product_on no_product left h = h
  before_product_on (product_before m k) left h = product_left_on m k left (length nodes) (length (nodes ++ more)) (omega (arith, length-append nodes more)) h

  before_listed_on : (a : BeforeListed) (ids : List NodeId) → BeforeListedShows a nodes ids → BeforeListedShows a (nodes ++ more) ids
  before_listed_on no_listed ids h = h
  before_listed_on (listed_before l k) ids h = listed_on l ids h

  level_on : (l : Level) (v : code.Level) → LevelShows l nodes v → LevelShows l (nodes ++ more) v
  level_on (level a m) v h = (before_sum_on a _ h.0, before_product_on m _ h.1)

  outer_on : (outer : Outer) (vs : List code_outer.Outer) (around : Statement) → OuterShows outer nodes vs around → OuterShows outer (nodes ++ more) vs around
  outer_on (in_let s l w n q) [] (statements.Let p v) h = h
  outer_on (in_print s p o a) [] (statements.Print q ids) h = (h.0, before_listed_on a ids h.1)
  outer_on (in_parens o l outer) (outers.Parens v ∷ vs) around h = (level_on l v h.0, outer_on outer vs around h.1)
  outer_on (in_call w k o a l outer) (outers.Call v c ∷ vs) around h = (level_on l v h.0, (h.1.0, h.1.1, before_listed_on a c.arguments h.1.2), outer_on outer vs around h.2)
  outer_on _ _ _ h = absurd h

-- what a table that went on shows
pub factor_kept : (old new : List Node) (f : Factor) (id : ℕ) → Grows old new → FactorShows f old id → FactorShows f new id
factor_kept old new f id (more, e) h = subst (λ z. FactorShows f z id) (sym e) (factor_on old more f id h)

pub sum_kept : (old new : List Node) (s : Sum) (id : ℕ) → Grows old new → SumShows s old id → SumShows s new id
sum_kept old new s id (more, e) h = subst (λ z. SumShows s z id) (sym e) (sum_on old more s id h)

pub product_kept : (old new : List Node) (m : Product) (id : ℕ) → Grows old new → ProductShows m old id → ProductShows m new id
product_kept old new m id (more, e) h = subst (λ z. ProductShows m z id) (sym e) (product_on old more m id h)

pub before_sum_kept : (old new : List Node) (a : BeforeSum) (left : List Operand) → Grows old new → BeforeSumShows a old left → BeforeSumShows a new left
before_sum_kept old new a left (more, e) h = subst (λ z. BeforeSumShows a z left) (sym e) (before_sum_on old more a left h)

pub before_product_kept : (old new : List Node) (m : BeforeProduct) (left : List Operand) → Grows old new → BeforeProductShows m old left → BeforeProductShows m new left
before_product_kept old new m left (more, e) h = subst (λ z. BeforeProductShows m z left) (sym e) (before_product_on old more m left h)

pub before_listed_kept : (old new : List Node) (a : BeforeListed) (ids : List NodeId) → Grows old new → BeforeListedShows a old ids → BeforeListedShows a new ids
before_listed_kept old new a ids (more, e) h = subst (λ z. BeforeListedShows a z ids) (sym e) (before_listed_on old more a ids h)

pub passed_kept : (old new : List Node) (a : Passed) (ids : List NodeId) → Grows old new → PassedShow a old ids → PassedShow a new ids
passed_kept old new a ids (more, e) h = subst (λ z. PassedShow a z ids) (sym e) (passed_on old more a ids h)

pub arguments_kept : (old new : List Node) (a : Arguments) (ids : List NodeId) → Grows old new → ArgumentsShow a old ids → ArgumentsShow a new ids
arguments_kept old new a ids (more, e) h = subst (λ z. ArgumentsShow a z ids) (sym e) (arguments_on old more a ids h)

pub script_kept : (old new : List Node) (d : Script) (ids : List NodeId) → Grows old new → ScriptShows d old ids → ScriptShows d new ids
script_kept old new d ids (more, e) h = subst (λ z. ScriptShows d z ids) (sym e) (script_on old more d ids h)

pub level_kept : (old new : List Node) (l : Level) (v : code.Level) → Grows old new → LevelShows l old v → LevelShows l new v
level_kept old new l v (more, e) h = subst (λ z. LevelShows l z v) (sym e) (level_on old more l v h)

pub outer_kept : (old new : List Node) (outer : Outer) (vs : List code_outer.Outer) (around : Statement) → Grows old new → OuterShows outer old vs around → OuterShows outer new vs around
outer_kept old new outer vs around (more, e) h = subst (λ z. OuterShows outer z vs around) (sym e) (outer_on old more outer vs around h)
