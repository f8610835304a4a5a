-- A table's nodes stand after their parts, and its names have numbers of references.
use Rattle.std.specs.Prelude.{◌≡◌, ℕ, suc, ◌+◌, ◌-◌, ◌<◌, ◌≤◌, List, [], ◌∷◌, length, refl}
use Rattle.std.specs.List.{All}
use Rattle.std.proofs.Common.{ap, arith}
use Rattle.std.proofs.lemmas.List.Elements.{All-nil, All-cons, All-push}
use Rattle.host_grammar.specs.Derivations.{Named, Literal, number, big_int, text, true_word, false_word, null_word, undefined_word, Members, no_member, and_member, Chain, operand, lift, more, Unary, postfix, prefixed, Postfix, primary, member, index, call, Primary, literal, name, paren, array, object, new, Listed, nothing, listed, listed_on, Exprs, one, and_one, Props, no_props, props, props_on, PropList, one_prop, and_prop, Prop, keyed, short, Target, to_name, to_member, to_index, LetDecl, unset, set_to, LetDecls, one_let, and_let, ConstDecl, const_to, ConstDecls, one_const, and_const, Stmt, empty, block, expression, assign, if_then, if_else, while_do, break_off, continue_on, return_none, return_value, throw_value, try_catch, try_catch_name, Block, braces, Items, no_item, and_item, Item, lets, consts, statement, Function, function, Script, no_part, and_function, and_part}
use Rattle.host_nodes.specs.declared.form.BinaryOperator.{BinaryOperator}
use Rattle.host_nodes.specs.declared.form.Operand.{Operand}
use Rattle.host_nodes.specs.declared.form.Property.{Property}
use Rattle.host_nodes.specs.declared.form.Form.{Form}
use Rattle.host_nodes.specs.declared.form.Form.TheVariants as forms
use Rattle.host_nodes.specs.declared.form.Node.{Node}
use Rattle.host_nodes.specs.declared.form.Declared.{Declared}
use Rattle.host_nodes.specs.declared.form.Declares.TheVariants as kinds
use Rattle.host_nodes.specs.declared.form.Mention.{Mention}
use Rattle.host_nodes.specs.declared.form.Mention.TheVariants as mentions
use Rattle.host_nodes.specs.Tables.{Table, add, last, begins, ends, name_after, members_after, literal_form, operator_of, operand_of, chain_after, parts_after, operands, unary_after, postfix_after, primary_after, listed_after, listed_nodes, exprs_after, exprs_nodes, props_after, props_list, prop_list_after, properties, prop_after, property, target_after, declared, let_after, let_told, lets_after, lets_told, const_after, const_told, consts_after, consts_told, stmt_after, block_after, items_after, items_nodes, item_after, items_declared, params_declared, function_after, script_table}
use Rattle.host_parser.specs.Laws.{IsBefore, DeclaresBefore, PartsBefore, RefersBelow}

-- nodes with the last one first: the parts of each stand behind it
abbrev pub AreBackward : List Node → Type 0
AreBackward [] = Unit {0}
AreBackward (n ∷ ns) = PartsBefore (length ns) n.form × AreBackward ns

abbrev pub ReferBelow : ℕ → List Node → Type 0
ReferBelow r [] = Unit {0}
ReferBelow r (n ∷ ns) = RefersBelow r n.form × ReferBelow r ns

abbrev pub names_of : List Mention → ℕ
names_of [] = 0
names_of (mentions.Name n ∷ ms) = suc (names_of ms)
names_of (mentions.Begins ∷ ms) = names_of ms
names_of (mentions.Ends ds ∷ ms) = names_of ms

pub record IsBackward (t : Table) : Type 0 where
  pub parts : AreBackward t.nodes
  pub references : ReferBelow t.references t.nodes
  pub counted : names_of t.mentions ≡ t.references

abbrev pub size : Table → ℕ
size t = length t.nodes

-- a table after another, longer by so many nodes at least
pub record Goes (m : ℕ) (t u : Table) : Type 0 where
  pub back : IsBackward u
  pub longer : size t + m ≤ size u

stays : (t : Table) → IsBackward t → Goes 0 t t
stays t h = record { back = h; longer = none_more (size t) }
  where
    none_more : (a : ℕ) → a + 0 ≤ a
    none_more a = omega arith

joined : (m n : ℕ) (t u v : Table) → Goes m t u → Goes n u v → Goes m t v
joined m n t u v g k = record { back = k.back; longer = farther (size t) m (size u) n (size v) g.longer k.longer }
  where
    farther : (a m b n c : ℕ) → a + m ≤ b → b + n ≤ c → a + m ≤ c
    farther a m b n c h k = omega arith

adds : (m : ℕ) (t u : Table) (f : Form) (p : ℕ) → Goes m t u → PartsBefore (size u) f → RefersBelow u.references f → Goes 1 t (add f p u)
adds m t u f p g a r = record { back = record { parts = (a, g.back.parts); references = (r, g.back.references); counted = g.back.counted }; longer = one_more (size t) m (size u) g.longer }
  where
    one_more : (a m b : ℕ) → a + m ≤ b → a + 1 ≤ suc b
    one_more a m b h = omega arith

-- what a table ends with, and one that it goes on from, are no farther than its end
pub last_before : (t u : Table) (k : ℕ) → Goes 1 t u → size u ≤ k → IsBefore k (last u)
last_before t u k g h = within (size t) (size u) k g.longer h
  where
    within : (a b k : ℕ) → a + 1 ≤ b → b ≤ k → b - 1 < k
    within a b k g h = omega arith

pub no_farther : (m : ℕ) (t u : Table) (k : ℕ) → Goes m t u → size u ≤ k → size t ≤ k
no_farther m t u k g h = within (size t) m (size u) k g.longer h
  where
    within : (a m b k : ℕ) → a + m ≤ b → b ≤ k → a ≤ k
    within a m b k g h = omega arith

pub here : (t : Table) → size t ≤ size t
here t = itself (size t)
  where
    itself : (a : ℕ) → a ≤ a
    itself a = omega arith

-- a last node that is followed by others
earlier : (m : ℕ) (t u v : Table) (k : ℕ) → Goes 1 t u → Goes m u v → size v ≤ k → IsBefore k (last u)
earlier m t u v k g f h = last_before t u k g (no_farther m u v k f h)

-- a name has the next reference
refer_on : (r : ℕ) (ns : List Node) → ReferBelow r ns → ReferBelow (suc r) ns
refer_on r [] h = tt
refer_on r (n ∷ ns) h = (on n.form h.0, refer_on r ns h.1)
  where
    more : (a b : ℕ) → a < b → a < suc b
    more a b h = omega arith

    on : (f : Form) → RefersBelow r f → RefersBelow (suc r) f
    on (forms.Name n i) h = more i.0 r h
    on _ h = tt

name_goes : (n : Named) (t : Table) → IsBackward t → Goes 1 t (name_after n t)
name_goes n t h = record { back = record { parts = (tt, h.parts); references = (next t.references, refer_on t.references t.nodes h.references); counted = ap suc h.counted }; longer = one_more (size t) }
  where
    next : (a : ℕ) → a < suc a
    next a = omega arith

    one_more : (a : ℕ) → a + 1 ≤ suc a
    one_more a = omega arith

-- the members after a name
members_go : (ms : Members) (t u : Table) → Goes 1 t u → Goes 1 t (members_after ms u)
members_go no_member t u g = g
members_go (and_member ms d a) t u g = adds 1 t (members_after ms u) _ d.place (members_go ms t u g) (last_before t (members_after ms u) _ (members_go ms t u g) (here (members_after ms u))) tt

any_more : (t u : Table) → Goes 1 t u → Goes 0 t u
any_more t u g = record { back = g.back; longer = fewer (size t) (size u) g.longer }
  where
    fewer : (a b : ℕ) → a + 1 ≤ b → a + 0 ≤ b
    fewer a b h = omega arith

-- a node of two parts, one of a part and a list, and one of three parts
two : (t u v : Table) (f : Form) (p : ℕ) → Goes 1 t u → Goes 1 u v → (IsBefore (size v) (last u) → IsBefore (size v) (last v) → PartsBefore (size v) f) → RefersBelow v.references f → Goes 1 t (add f p v)
two t u v f p g k a r = adds 1 t v f p (joined 1 1 t u v g k) (a (earlier 1 t u v (size v) g k (here v)) (last_before u v (size v) k (here v))) r

one_and_more : (t u v : Table) (f : Form) (p : ℕ) → Goes 1 t u → Goes 0 u v → (IsBefore (size v) (last u) → PartsBefore (size v) f) → RefersBelow v.references f → Goes 1 t (add f p v)
one_and_more t u v f p g k a r = adds 1 t v f p (joined 1 0 t u v g k) (a (earlier 0 t u v (size v) g k (here v))) r

three : (t u v w : Table) (p : ℕ) → Goes 1 t u → Goes 1 u v → Goes 1 v w → Goes 1 t (add (forms.IfElse (last u) (last v) (last w)) p w)
three t u v w p g k i = adds 1 t w _ p (joined 1 1 t u w g (joined 1 1 u v w k i))
    (earlier 1 t u w (size w) g (joined 1 1 u v w k i) (here w), earlier 1 u v w (size w) k i (here w), last_before v w (size w) i (here w)) tt

literal_parts : (l : Literal) (k : ℕ) → PartsBefore k (literal_form l)
literal_parts (number n) k = tt
literal_parts (big_int n) k = tt
literal_parts (text s) k = tt
literal_parts true_word k = tt
literal_parts false_word k = tt
literal_parts null_word k = tt
literal_parts undefined_word k = tt

literal_refers : (l : Literal) (k : ℕ) → RefersBelow k (literal_form l)
literal_refers (number n) k = tt
literal_refers (big_int n) k = tt
literal_refers (text s) k = tt
literal_refers true_word k = tt
literal_refers false_word k = tt
literal_refers null_word k = tt
literal_refers undefined_word k = tt

abbrev OperandBefore : ℕ → Operand → Type 0
OperandBefore k x = IsBefore k x.node

abbrev PropertyBefore : ℕ → Property → Type 0
PropertyBefore k p = IsBefore k p.value

-- expressions
mutual
  chain_goes : {n : ℕ} (c : Chain n) (t : Table) → IsBackward t → Goes 1 t (chain_after c t)
  chain_goes (operand u) t h = unary_goes u t h
  chain_goes (lift c) t h = chain_goes c t h
  chain_goes (more c o p e) t h = adds 1 t (chain_after e (parts_after c t)) _ _ (joined 1 1 t (parts_after c t) (chain_after e (parts_after c t)) (parts_go c t h) (chain_goes e (parts_after c t) (parts_go c t h).back)) (
    operands_before c (operator_of o) p.place t h (size (chain_after e (parts_after c t))) (no_farther 1 (parts_after c t) (chain_after e (parts_after c t)) _ (chain_goes e (parts_after c t) (parts_go c t h).back) (here (chain_after e (parts_after c t)))),
    last_before (parts_after c t) (chain_after e (parts_after c t)) _ (chain_goes e (parts_after c t) (parts_go c t h).back) (here (chain_after e (parts_after c t))),
  )
      tt

  parts_go : {n : ℕ} (c : Chain (suc n)) (t : Table) → IsBackward t → Goes 1 t (parts_after c t)
  parts_go (lift c) t h = chain_goes c t h
  parts_go (more c o p e) t h = joined 1 1 t (parts_after c t) (chain_after e (parts_after c t)) (parts_go c t h) (chain_goes e (parts_after c t) (parts_go c t h).back)

  operands_before : {n : ℕ} (c : Chain (suc n)) (o : BinaryOperator) (p : ℕ) (t : Table) → IsBackward t → (k : ℕ) → size (parts_after c t) ≤ k → All (OperandBefore k) (operands c o p t)
  operands_before (lift c) o p t h k l = All-cons (OperandBefore k) (operand_of (last (chain_after c t)) o p) [] (last_before t (chain_after c t) k (chain_goes c t h) l) (All-nil (OperandBefore k))
  operands_before (more c q r e) o p t h k l = All-push (OperandBefore k) (operands c (operator_of q) r.place t) (operand_of (last (chain_after e (parts_after c t))) o p)
      (operands_before c (operator_of q) r.place t h k (no_farther 1 (parts_after c t) (chain_after e (parts_after c t)) k (chain_goes e (parts_after c t) (parts_go c t h).back) l))
      (last_before (parts_after c t) (chain_after e (parts_after c t)) k (chain_goes e (parts_after c t) (parts_go c t h).back) l)

  unary_goes : (u : Unary) (t : Table) → IsBackward t → Goes 1 t (unary_after u t)
  unary_goes (postfix p) t h = postfix_goes p t h
  unary_goes (prefixed o p u) t h = adds 1 t (unary_after u t) _ p.place (unary_goes u t h) (last_before t (unary_after u t) _ (unary_goes u t h) (here (unary_after u t))) tt

  postfix_goes : (p : Postfix) (t : Table) → IsBackward t → Goes 1 t (postfix_after p t)
  postfix_goes (primary p) t h = primary_goes p t h
  postfix_goes (member p d a) t h = adds 1 t (postfix_after p t) _ d.place (postfix_goes p t h) (last_before t (postfix_after p t) _ (postfix_goes p t h) (here (postfix_after p t))) tt
  postfix_goes (index p f e q) t h = two t (postfix_after p t) (chain_after e (postfix_after p t)) _ f.place (postfix_goes p t h) (chain_goes e (postfix_after p t) (postfix_goes p t h).back) (λ a b. (a, b)) tt
  postfix_goes (call p f l q) t h = one_and_more t (postfix_after p t) (listed_after l (postfix_after p t)) _ f.place (postfix_goes p t h) (listed_goes l (postfix_after p t) (postfix_goes p t h).back)
      (λ a. (a, listed_before l (postfix_after p t) (postfix_goes p t h).back _ (here (listed_after l (postfix_after p t))))) tt

  primary_goes : (p : Primary) (t : Table) → IsBackward t → Goes 1 t (primary_after p t)
  primary_goes (literal l p) t h = adds 0 t t (literal_form l) p.place (stays t h) (literal_parts l (size t)) (literal_refers l t.references)
  primary_goes (name n) t h = name_goes n t h
  primary_goes (paren f e q) t h = chain_goes e t h
  primary_goes (array f l q) t h = adds 0 t (listed_after l t) _ f.place (listed_goes l t h) (listed_before l t h _ (here (listed_after l t))) tt
  primary_goes (object f ps q) t h = adds 0 t (props_after ps t) _ f.place (props_go ps t h) (props_before ps t h _ (here (props_after ps t))) tt
  primary_goes (new w n ms f l q) t h = one_and_more t (members_after ms (name_after n t)) (listed_after l (members_after ms (name_after n t))) _ f.place (members_go ms t (name_after n t) (name_goes n t h))
      (listed_goes l (members_after ms (name_after n t)) (members_go ms t (name_after n t) (name_goes n t h)).back)
      (λ a. (a, listed_before l (members_after ms (name_after n t)) (members_go ms t (name_after n t) (name_goes n t h)).back _ (here (listed_after l (members_after ms (name_after n t)))))) tt

  listed_goes : (l : Listed) (t : Table) → IsBackward t → Goes 0 t (listed_after l t)
  listed_goes nothing t h = stays t h
  listed_goes (listed es) t h = any_more t (exprs_after es t) (exprs_go es t h)
  listed_goes (listed_on es c) t h = any_more t (exprs_after es t) (exprs_go es t h)

  listed_before : (l : Listed) (t : Table) → IsBackward t → (k : ℕ) → size (listed_after l t) ≤ k → All (IsBefore k) (listed_nodes l t)
  listed_before nothing t h k l = All-nil (IsBefore k)
  listed_before (listed es) t h k l = exprs_before es t h k l
  listed_before (listed_on es c) t h k l = exprs_before es t h k l

  exprs_go : (es : Exprs) (t : Table) → IsBackward t → Goes 1 t (exprs_after es t)
  exprs_go (one e) t h = chain_goes e t h
  exprs_go (and_one es c e) t h = joined 1 1 t (exprs_after es t) (chain_after e (exprs_after es t)) (exprs_go es t h) (chain_goes e (exprs_after es t) (exprs_go es t h).back)

  exprs_before : (es : Exprs) (t : Table) → IsBackward t → (k : ℕ) → size (exprs_after es t) ≤ k → All (IsBefore k) (exprs_nodes es t)
  exprs_before (one e) t h k l = All-cons (IsBefore k) (last (chain_after e t)) [] (last_before t (chain_after e t) k (chain_goes e t h) l) (All-nil (IsBefore k))
  exprs_before (and_one es c e) t h k l = All-push (IsBefore k) (exprs_nodes es t) (last (chain_after e (exprs_after es t)))
      (exprs_before es t h k (no_farther 1 (exprs_after es t) (chain_after e (exprs_after es t)) k (chain_goes e (exprs_after es t) (exprs_go es t h).back) l))
      (last_before (exprs_after es t) (chain_after e (exprs_after es t)) k (chain_goes e (exprs_after es t) (exprs_go es t h).back) l)

  props_go : (ps : Props) (t : Table) → IsBackward t → Goes 0 t (props_after ps t)
  props_go no_props t h = stays t h
  props_go (props ps) t h = any_more t (prop_list_after ps t) (prop_list_goes ps t h)
  props_go (props_on ps c) t h = any_more t (prop_list_after ps t) (prop_list_goes ps t h)

  props_before : (ps : Props) (t : Table) → IsBackward t → (k : ℕ) → size (props_after ps t) ≤ k → All (PropertyBefore k) (props_list ps t)
  props_before no_props t h k l = All-nil (PropertyBefore k)
  props_before (props ps) t h k l = properties_before ps t h k l
  props_before (props_on ps c) t h k l = properties_before ps t h k l

  prop_list_goes : (ps : PropList) (t : Table) → IsBackward t → Goes 1 t (prop_list_after ps t)
  prop_list_goes (one_prop p) t h = prop_goes p t h
  prop_list_goes (and_prop ps c p) t h = joined 1 1 t (prop_list_after ps t) (prop_after p (prop_list_after ps t)) (prop_list_goes ps t h) (prop_goes p (prop_list_after ps t) (prop_list_goes ps t h).back)

  properties_before : (ps : PropList) (t : Table) → IsBackward t → (k : ℕ) → size (prop_list_after ps t) ≤ k → All (PropertyBefore k) (properties ps t)
  properties_before (one_prop p) t h k l = All-cons (PropertyBefore k) (property p t) [] (property_before p t h k l) (All-nil (PropertyBefore k))
  properties_before (and_prop ps c p) t h k l = All-push (PropertyBefore k) (properties ps t) (property p (prop_list_after ps t))
      (properties_before ps t h k (no_farther 1 (prop_list_after ps t) (prop_after p (prop_list_after ps t)) k (prop_goes p (prop_list_after ps t) (prop_list_goes ps t h).back) l))
      (property_before p (prop_list_after ps t) (prop_list_goes ps t h).back k l)

  prop_goes : (p : Prop) (t : Table) → IsBackward t → Goes 1 t (prop_after p t)
  prop_goes (keyed k c e) t h = chain_goes e t h
  prop_goes (short n) t h = name_goes n t h

  property_before : (p : Prop) (t : Table) → IsBackward t → (k : ℕ) → size (prop_after p t) ≤ k → PropertyBefore k (property p t)
  property_before (keyed k c e) t h i l = last_before t (chain_after e t) i (chain_goes e t h) l
  property_before (short n) t h i l = last_before t (name_after n t) i (name_goes n t h) l

target_goes : (g : Target) (t : Table) → IsBackward t → Goes 1 t (target_after g t)
target_goes (to_name n) t h = name_goes n t h
target_goes (to_member p d a) t h = postfix_goes (member p d a) t h
target_goes (to_index p f e q) t h = postfix_goes (index p f e q) t h

-- declarations
let_goes : (l : LetDecl) (t : Table) → IsBackward t → Goes 1 t (let_after l t)
let_goes (unset n) t h = name_goes n t h
let_goes (set_to n m e) t h = joined 1 1 t (name_after n t) (chain_after e (name_after n t)) (name_goes n t h) (chain_goes e (name_after n t) (name_goes n t h).back)

let_before : (l : LetDecl) (t : Table) → IsBackward t → (k : ℕ) → size (let_after l t) ≤ k → DeclaresBefore k (let_told l t)
let_before (unset n) t h k l = (last_before t (name_after n t) k (name_goes n t h) l, tt)
let_before (set_to n m e) t h k l = (
  earlier 1 t (name_after n t) (chain_after e (name_after n t)) k (name_goes n t h) (chain_goes e (name_after n t) (name_goes n t h).back) l,
  last_before (name_after n t) (chain_after e (name_after n t)) k (chain_goes e (name_after n t) (name_goes n t h).back) l,
)

lets_go : (ls : LetDecls) (t : Table) → IsBackward t → Goes 1 t (lets_after ls t)
lets_go (one_let l) t h = let_goes l t h
lets_go (and_let ls c l) t h = joined 1 1 t (lets_after ls t) (let_after l (lets_after ls t)) (lets_go ls t h) (let_goes l (lets_after ls t) (lets_go ls t h).back)

lets_before : (ls : LetDecls) (t : Table) → IsBackward t → (k : ℕ) → size (lets_after ls t) ≤ k → All (DeclaresBefore k) (lets_told ls t)
lets_before (one_let d) t h k l = All-cons (DeclaresBefore k) (let_told d t) [] (let_before d t h k l) (All-nil (DeclaresBefore k))
lets_before (and_let ls c d) t h k l = All-push (DeclaresBefore k) (lets_told ls t) (let_told d (lets_after ls t))
    (lets_before ls t h k (no_farther 1 (lets_after ls t) (let_after d (lets_after ls t)) k (let_goes d (lets_after ls t) (lets_go ls t h).back) l))
    (let_before d (lets_after ls t) (lets_go ls t h).back k l)

const_goes : (l : ConstDecl) (t : Table) → IsBackward t → Goes 1 t (const_after l t)
const_goes (const_to n m e) t h = joined 1 1 t (name_after n t) (chain_after e (name_after n t)) (name_goes n t h) (chain_goes e (name_after n t) (name_goes n t h).back)

const_before : (l : ConstDecl) (t : Table) → IsBackward t → (k : ℕ) → size (const_after l t) ≤ k → DeclaresBefore k (const_told l t)
const_before (const_to n m e) t h k l = (
  earlier 1 t (name_after n t) (chain_after e (name_after n t)) k (name_goes n t h) (chain_goes e (name_after n t) (name_goes n t h).back) l,
  last_before (name_after n t) (chain_after e (name_after n t)) k (chain_goes e (name_after n t) (name_goes n t h).back) l,
)

consts_go : (ls : ConstDecls) (t : Table) → IsBackward t → Goes 1 t (consts_after ls t)
consts_go (one_const l) t h = const_goes l t h
consts_go (and_const ls c l) t h = joined 1 1 t (consts_after ls t) (const_after l (consts_after ls t)) (consts_go ls t h) (const_goes l (consts_after ls t) (consts_go ls t h).back)

consts_before : (ls : ConstDecls) (t : Table) → IsBackward t → (k : ℕ) → size (consts_after ls t) ≤ k → All (DeclaresBefore k) (consts_told ls t)
consts_before (one_const d) t h k l = All-cons (DeclaresBefore k) (const_told d t) [] (const_before d t h k l) (All-nil (DeclaresBefore k))
consts_before (and_const ls c d) t h k l = All-push (DeclaresBefore k) (consts_told ls t) (const_told d (consts_after ls t))
    (consts_before ls t h k (no_farther 1 (consts_after ls t) (const_after d (consts_after ls t)) k (const_goes d (consts_after ls t) (consts_go ls t h).back) l))
    (const_before d (consts_after ls t) (consts_go ls t h).back k l)

-- a scope's begin and end
begun : (t : Table) → IsBackward t → IsBackward (begins t)
begun t h = record { parts = h.parts; references = h.references; counted = h.counted }

ended : (m : ℕ) (t u : Table) (ds : List Declared) → Goes m (begins t) u → Goes m t (ends ds u)
ended m t u ds g = record { back = record { parts = g.back.parts; references = g.back.references; counted = g.back.counted }; longer = g.longer }

-- statements
mutual
  stmt_goes : (s : Stmt) (t : Table) → IsBackward t → Goes 1 t (stmt_after s t)
  stmt_goes (empty p) t h = adds 0 t t _ p.place (stays t h) tt tt
  stmt_goes (block b) t h = block_goes [] b t h
  stmt_goes (expression e q) t h = adds 1 t (chain_after e t) _ _ (chain_goes e t h) (last_before t (chain_after e t) _ (chain_goes e t h) (here (chain_after e t))) tt
  stmt_goes (assign g m e q) t h = two t (target_after g t) (chain_after e (target_after g t)) _ _ (target_goes g t h) (chain_goes e (target_after g t) (target_goes g t h).back) (λ a b. (a, b)) tt
  stmt_goes (if_then w f e c s) t h = two t (chain_after e t) (stmt_after s (chain_after e t)) _ w.place (chain_goes e t h) (stmt_goes s (chain_after e t) (chain_goes e t h).back) (λ a b. (a, b)) tt
  stmt_goes (if_else w f e c s o r) t h = three t (chain_after e t) (stmt_after s (chain_after e t)) (stmt_after r (stmt_after s (chain_after e t))) w.place (chain_goes e t h) (stmt_goes s (chain_after e t) (chain_goes e t h).back)
      (stmt_goes r (stmt_after s (chain_after e t)) (stmt_goes s (chain_after e t) (chain_goes e t h).back).back)
  stmt_goes (while_do w f e c s) t h = two t (chain_after e t) (stmt_after s (chain_after e t)) _ w.place (chain_goes e t h) (stmt_goes s (chain_after e t) (chain_goes e t h).back) (λ a b. (a, b)) tt
  stmt_goes (break_off w q) t h = adds 0 t t _ w.place (stays t h) tt tt
  stmt_goes (continue_on w q) t h = adds 0 t t _ w.place (stays t h) tt tt
  stmt_goes (return_none w q) t h = adds 0 t t _ w.place (stays t h) tt tt
  stmt_goes (return_value w e q) t h = adds 1 t (chain_after e t) _ w.place (chain_goes e t h) (last_before t (chain_after e t) _ (chain_goes e t h) (here (chain_after e t))) tt
  stmt_goes (throw_value w e q) t h = adds 1 t (chain_after e t) _ w.place (chain_goes e t h) (last_before t (chain_after e t) _ (chain_goes e t h) (here (chain_after e t))) tt
  stmt_goes (try_catch w b c k) t h = two t (block_after [] b t) (block_after [] k (block_after [] b t)) _ w.place (block_goes [] b t h) (block_goes [] k (block_after [] b t) (block_goes [] b t h).back) (λ x y. (x, y)) tt
  stmt_goes (try_catch_name w b c f n q k) t h = two t (block_after [] b t) (block_after (declared kinds.Variable n ∷ []) k (block_after [] b t)) _ w.place (block_goes [] b t h)
      (block_goes (declared kinds.Variable n ∷ []) k (block_after [] b t) (block_goes [] b t h).back) (λ x y. (x, y)) tt

  block_goes : (ds : List Declared) (b : Block) (t : Table) → IsBackward t → Goes 1 t (block_after ds b t)
  block_goes ds (braces f xs q) t h = adds 0 t (ends (items_declared xs ds) (items_after xs (begins t))) _ f.place (ended 0 t (items_after xs (begins t)) (items_declared xs ds) (items_go xs (begins t) (begun t h)))
      (items_before xs (begins t) (begun t h) _ (here (items_after xs (begins t)))) tt

  items_go : (xs : Items) (t : Table) → IsBackward t → Goes 0 t (items_after xs t)
  items_go no_item t h = stays t h
  items_go (and_item xs x) t h = joined 0 1 t (items_after xs t) (item_after x (items_after xs t)) (items_go xs t h) (item_goes x (items_after xs t) (items_go xs t h).back)

  items_before : (xs : Items) (t : Table) → IsBackward t → (k : ℕ) → size (items_after xs t) ≤ k → All (IsBefore k) (items_nodes xs t)
  items_before no_item t h k l = All-nil (IsBefore k)
  items_before (and_item xs x) t h k l = All-push (IsBefore k) (items_nodes xs t) (last (item_after x (items_after xs t)))
      (items_before xs t h k (no_farther 1 (items_after xs t) (item_after x (items_after xs t)) k (item_goes x (items_after xs t) (items_go xs t h).back) l))
      (last_before (items_after xs t) (item_after x (items_after xs t)) k (item_goes x (items_after xs t) (items_go xs t h).back) l)

  pub item_goes : (x : Item) (t : Table) → IsBackward t → Goes 1 t (item_after x t)
  item_goes (lets w ls q) t h = adds 1 t (lets_after ls t) _ w.place (lets_go ls t h) (lets_before ls t h _ (here (lets_after ls t))) tt
  item_goes (consts w ls q) t h = adds 1 t (consts_after ls t) _ w.place (consts_go ls t h) (consts_before ls t h _ (here (consts_after ls t))) tt
  item_goes (statement s) t h = stmt_goes s t h

pub function_goes : (f : Function) (t : Table) → IsBackward t → Goes 1 t (function_after f t)
function_goes (function w n f ps q b) t h = block_goes (params_declared ps) b t h

pub script_back : (s : Script) → IsBackward (script_table s)
script_back no_part = record { parts = tt; references = tt; counted = refl }
script_back (and_function s f) = (function_goes f (script_table s) (script_back s)).back
script_back (and_part s x) = (item_goes x (script_table s) (script_back s)).back
