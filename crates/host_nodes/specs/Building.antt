-- Private: what a token of a script does to the builder, as a function on plain data. Tokens that can't stand there leave the builder as it
-- is, or without what is open last.
use Rattle.std.specs.Prelude.{◌≡◌, ℕ, Bool, true, false, cond, nat_lt, ◌==◌, Option, Some, None, List, [], ◌∷◌, ◌++◌, length, reverse}
use Rattle.host_lexer.specs.declared.token.Word.{Word}
use Rattle.host_lexer.specs.declared.token.Word.TheVariants as words
use Rattle.host_lexer.specs.declared.token.Mark.{Mark}
use Rattle.host_lexer.specs.declared.token.Mark.TheVariants as marks
use Rattle.host_lexer.specs.declared.token.TokenKind.{TokenKind}
use Rattle.host_lexer.specs.declared.token.TokenKind.TheVariants as kinds
use Rattle.host_lexer.specs.Spellings.{word_chars}
use Rattle.host_nodes.specs.Stacks.{rest_of}
use Rattle.host_nodes.specs.Tables.{Table, add, last, add_name, begins, ends, operator_place, operand_of, unset_declaration, set_declaration}
use Rattle.host_nodes.specs.declared.form.NodeId.{NodeId}
use Rattle.host_nodes.specs.declared.form.BinaryOperator.{BinaryOperator}
use Rattle.host_nodes.specs.declared.form.BinaryOperator.TheVariants as binary
use Rattle.host_nodes.specs.declared.form.PrefixOperator.{PrefixOperator}
use Rattle.host_nodes.specs.declared.form.PrefixOperator.TheVariants as prefix
use Rattle.host_nodes.specs.declared.form.Operand.{Operand}
use Rattle.host_nodes.specs.declared.form.Key.{Key}
use Rattle.host_nodes.specs.declared.form.Key.TheVariants as keys
use Rattle.host_nodes.specs.declared.form.Property.{Property}
use Rattle.host_nodes.specs.declared.form.Declaration.{Declaration}
use Rattle.host_nodes.specs.declared.form.Form.{Form}
use Rattle.host_nodes.specs.declared.form.Form.TheVariants as forms
use Rattle.host_nodes.specs.declared.form.Declares.{Declares}
use Rattle.host_nodes.specs.declared.form.Declares.TheVariants as declares
use Rattle.host_nodes.specs.declared.form.Declared.{Declared}
use Rattle.host_nodes.specs.declared.form.Function.{Function}
use Rattle.host_nodes.specs.declared.state.Ranked.{Ranked}
use Rattle.host_nodes.specs.declared.state.Prefixed.{Prefixed}
use Rattle.host_nodes.specs.declared.state.Group.{Group}
use Rattle.host_nodes.specs.declared.state.Level.{Level}
use Rattle.host_nodes.specs.declared.state.ObjectSoFar.{ObjectSoFar}
use Rattle.host_nodes.specs.declared.state.Scope.{Scope}
use Rattle.host_nodes.specs.declared.state.Owner.{Owner}
use Rattle.host_nodes.specs.declared.state.Owner.TheVariants as owners
use Rattle.host_nodes.specs.declared.state.Item.{Item}
use Rattle.host_nodes.specs.declared.state.Item.TheVariants as items
use Rattle.host_nodes.specs.declared.state.At.{At}
use Rattle.host_nodes.specs.declared.state.At.TheVariants as at
use Rattle.host_nodes.specs.declared.builder.Builder.{Builder}
use Rattle.host_nodes.specs.declared.builder.Built.{Built}

abbrev pub builder : At → Level → List Declaration → List Item → Table → Builder
builder a l ds st t = record { at = a; level = l; told = ds; stack = st; table = t }

abbrev pub moved_to : At → Builder → Builder
moved_to a b = builder a b.level b.told b.stack b.table

abbrev pub with_table : Table → Builder → Builder
with_table t b = builder b.at b.level b.told b.stack t

abbrev pub with_told : List Declaration → Builder → Builder
with_told ds b = builder b.at b.level ds b.stack b.table

abbrev pub with_scope : Scope → Owner → Builder → Builder
with_scope s o b = builder b.at b.level b.told (items.Scope s o ∷ b.stack) b.table

-- what is open last is lost
abbrev pub lost : Builder → Builder
lost b = builder b.at b.level b.told (rest_of b.stack) b.table

abbrev pub lost_of : List Item → Builder → Table → Builder
lost_of st b t = builder b.at b.level b.told (rest_of st) t

-- a level with nothing before its operand
abbrev pub fresh : Level
fresh = record { groups = []; prefixes = []; first = None }

-- the first token is here, unless it was before
abbrev pub or_here : Option ℕ → ℕ → Option ℕ
or_here None p = Some p
or_here (Some q) p = Some q

-- the level is moved out
abbrev pub left_fresh : Builder → Builder
left_fresh b = builder b.at fresh b.told b.stack b.table

abbrev pub begun : Level → ℕ → Level
begun l p = record { groups = l.groups; prefixes = l.prefixes; first = or_here l.first p }

abbrev pub place_or_none : Option ℕ → ℕ
place_or_none None = 0
place_or_none (Some p) = p

abbrev pub prefixed : PrefixOperator → ℕ → Level → Level
prefixed o p l = record { groups = l.groups; prefixes = record { operator = o; place = p } ∷ l.prefixes; first = or_here l.first p }

-- closing what stands before an operand
abbrev pub close_prefixes : List Prefixed → Table → Table
close_prefixes [] t = t
close_prefixes (q ∷ qs) t = close_prefixes qs (add (forms.Prefix q.operator (last t)) q.place t)

abbrev pub close_group : Group → Table → Table
close_group g t = add (forms.Chain g.operands (last t)) (operator_place g.operands) t

abbrev pub close_groups : List Group → Table → Table
close_groups [] t = t
close_groups (g ∷ gs) t = close_groups gs (close_group g t)

abbrev pub closed_table : Level → Table → Table
closed_table l t = close_groups l.groups (close_prefixes l.prefixes t)

abbrev pub closed_off : Builder → Builder
closed_off b = builder b.at fresh b.told b.stack (closed_table b.level b.table)

-- the chains that bind tighter than an operator of this rank are closed
pub record Tightened : Type 0 where
  pub groups : List Group
  pub table : Table

abbrev pub tightened_at : List Group → Table → Tightened
tightened_at gs t = record { groups = gs; table = t }

abbrev pub tightened : ℕ → List Group → Table → Tightened
tightened r [] t = record { groups = []; table = t }
tightened r (g ∷ gs) t = cond (nat_lt g.rank r) (tightened r gs (close_group g t)) (record { groups = g ∷ gs; table = t })

abbrev pub group_of : ℕ → List Operand → Group
group_of r os = record { rank = r; operands = os }

abbrev pub group_begun : ℕ → Operand → List Group → List Group
group_begun r o gs = group_of r (o ∷ []) ∷ gs

-- an operand with the operator that follows it
abbrev pub joined : ℕ → Operand → List Group → List Group
joined r o [] = group_of r (o ∷ []) ∷ []
joined r o (g ∷ gs) = cond (g.rank == r) (group_of r (g.operands ++ o ∷ []) ∷ gs) (group_of r (o ∷ []) ∷ g ∷ gs)

-- the operator of a mark, with its rank
abbrev pub ranked : ℕ → BinaryOperator → Option Ranked
ranked r o = Some (record { rank = r; operator = o })

abbrev pub ranked_of : Mark → Option Ranked
ranked_of marks.Star = ranked 0 binary.Times
ranked_of marks.Slash = ranked 0 binary.Divided
ranked_of marks.Percent = ranked 0 binary.Remainder
ranked_of marks.Plus = ranked 1 binary.Plus
ranked_of marks.Minus = ranked 1 binary.Minus
ranked_of marks.Less = ranked 2 binary.Less
ranked_of marks.Greater = ranked 2 binary.Greater
ranked_of marks.LessEquals = ranked 2 binary.LessEquals
ranked_of marks.GreaterEquals = ranked 2 binary.GreaterEquals
ranked_of marks.StrictEquals = ranked 3 binary.StrictEquals
ranked_of marks.StrictNotEquals = ranked 3 binary.StrictNotEquals
ranked_of marks.And = ranked 4 binary.And
ranked_of marks.Or = ranked 5 binary.Or
ranked_of _ = None

abbrev pub level_with : ℕ → Operand → List Group → Option ℕ → Level
level_with r o gs f = record { groups = joined r o gs; prefixes = []; first = f }

abbrev pub operated_on : ℕ → BinaryOperator → ℕ → Builder → Tightened → Builder
operated_on r o p b u = builder at.Want (level_with r (operand_of (last u.table) o p) u.groups b.level.first) b.told b.stack u.table

abbrev pub operated_by : Ranked → ℕ → Builder → Builder
operated_by q p b = operated_on q.rank q.operator p b (tightened q.rank b.level.groups (close_prefixes b.level.prefixes b.table))

abbrev pub operated : Builder → ℕ → Mark → Builder
operated b p m = elim (ranked_of m) [
  | None ↦ b
  | Some q ↦ operated_by q p b
]

-- an operand that is read
abbrev pub have : Builder → ℕ → Table → Builder
have b p t = builder at.Have (begun b.level p) b.told b.stack t

-- something is opened, in which an expression begins
abbrev pub open_with : At → Item → Builder → Builder
open_with a i b = builder a fresh b.told (i ∷ b.stack) b.table

abbrev pub object_so_far : ℕ → List Property → Level → ObjectSoFar
object_so_far p ps l = record { place = p; properties = ps; level = l }

abbrev pub prefix_read : PrefixOperator → ℕ → Builder → Builder
prefix_read o p b = builder at.Want (prefixed o p b.level) b.told b.stack b.table

abbrev pub wanted_word : Builder → ℕ → Word → Builder
wanted_word b p words.True = have b p (add (forms.Boolean true) p b.table)
wanted_word b p words.False = have b p (add (forms.Boolean false) p b.table)
wanted_word b p words.Null = have b p (add forms.Null p b.table)
wanted_word b p words.Undefined = have b p (add forms.Undefined p b.table)
wanted_word b p words.TypeOf = prefix_read prefix.TypeOf p b
wanted_word b p words.New = builder at.NewBegun (begun b.level p) b.told b.stack b.table
wanted_word b p _ = b

abbrev pub wanted_mark : Builder → ℕ → Mark → Builder
wanted_mark b p marks.Minus = prefix_read prefix.Negative p b
wanted_mark b p marks.Not = prefix_read prefix.Not p b
wanted_mark b p marks.OpenParen = open_with at.Want (items.Paren (begun b.level p)) b
wanted_mark b p marks.OpenBracket = open_with at.Element (items.Array p [] (begun b.level p)) b
wanted_mark b p marks.OpenBrace = open_with at.Property (items.Object (object_so_far p [] (begun b.level p))) b
wanted_mark b p _ = b

abbrev pub wanted : Builder → ℕ → TokenKind → Builder
wanted b p (kinds.Name n) = have b p (add_name n p b.table)
wanted b p (kinds.Number n) = have b p (add (forms.Number n) p b.table)
wanted b p (kinds.BigInt n) = have b p (add (forms.BigInt n) p b.table)
wanted b p (kinds.Text s) = have b p (add (forms.Text s) p b.table)
wanted b p (kinds.Word w) = wanted_word b p w
wanted b p (kinds.Mark m) = wanted_mark b p m

-- what stood around a part goes on with an operand
abbrev pub resumed : Level → List Item → Builder → Table → Builder
resumed l st b t = builder at.Have l b.told st t

-- `)`, `]`, `}`, `,` and `;` after an expression, whose node is the last one
abbrev pub closed_in : List Item → Builder → Table → Builder
closed_in (items.Paren l ∷ st) b t = resumed l st b t
closed_in (items.Call c p xs l ∷ st) b t = resumed l st b (add (forms.Call c (xs ++ last t ∷ [])) p t)
closed_in (items.New c p xs l ∷ st) b t = resumed l st b (add (forms.New c (xs ++ last t ∷ [])) p t)
closed_in (items.IfTest p ∷ st) b t = builder at.Begun fresh b.told (items.Then p (last t) ∷ st) t
closed_in (items.WhileTest p ∷ st) b t = builder at.Begun fresh b.told (items.Body p (last t) ∷ st) t
closed_in _ b t = lost b

abbrev pub bracketed_in : List Item → Builder → Table → Builder
bracketed_in (items.Index o p l ∷ st) b t = resumed l st b (add (forms.Index o (last t)) p t)
bracketed_in (items.Array p xs l ∷ st) b t = resumed l st b (add (forms.Array (xs ++ last t ∷ [])) p t)
bracketed_in _ b t = lost b

abbrev pub property_of : Key → ℕ → NodeId → Property
property_of k p x = record { key = k; place = p; value = x }

abbrev pub with_property : ObjectSoFar → Property → ObjectSoFar
with_property o q = record { place = o.place; properties = o.properties ++ q ∷ []; level = o.level }

abbrev pub object_ended : ObjectSoFar → List Item → Builder → Table → Builder
object_ended o st b t = resumed o.level st b (add (forms.Object o.properties) o.place t)

abbrev pub braced_in : List Item → Builder → Table → Builder
braced_in (items.Keyed o k p ∷ st) b t = object_ended (with_property o (property_of k p (last t))) st b t
braced_in _ b t = lost b

abbrev pub parted_in : List Item → Builder → Table → Builder
parted_in (items.Call c p xs l ∷ st) b t = builder at.Argument fresh b.told (items.Call c p (xs ++ last t ∷ []) l ∷ st) t
parted_in (items.New c p xs l ∷ st) b t = builder at.Given fresh b.told (items.New c p (xs ++ last t ∷ []) l ∷ st) t
parted_in (items.Array p xs l ∷ st) b t = builder at.Element fresh b.told (items.Array p (xs ++ last t ∷ []) l ∷ st) t
parted_in (items.Keyed o k p ∷ st) b t = builder at.Property fresh b.told (items.Object (with_property o (property_of k p (last t))) ∷ st) t
parted_in (items.Let p ds x ∷ st) b t = builder (at.LetBegun p) fresh (ds ++ set_declaration x (last t) ∷ []) st t
parted_in (items.Const p ds x ∷ st) b t = builder (at.ConstBegun p) fresh (ds ++ set_declaration x (last t) ∷ []) st t
parted_in _ b t = lost b

abbrev pub with_item : Scope → NodeId → Scope
with_item s x = record { place = s.place; declared = s.declared; items = s.items ++ x ∷ [] }

-- an item ends, whose node is the last one
abbrev pub next_item : List Item → Builder → Table → Builder
next_item (items.Scope s o ∷ st) b t = builder at.Items fresh [] (items.Scope (with_item s (last t)) o ∷ st) t
next_item st b t = builder at.Items fresh [] (rest_of st) t

abbrev pub complete : List Item → Builder → Table → Builder
complete st b t = builder at.Complete fresh b.told st t

abbrev pub ended_in : List Item → Builder → Table → Builder
ended_in (items.Expression ∷ st) b t = complete st b (add (forms.Expression (last t)) (place_or_none b.level.first) t)
ended_in (items.Assign x p ∷ st) b t = complete st b (add (forms.Assign x (last t)) p t)
ended_in (items.Return p ∷ st) b t = complete st b (add (forms.Return (Some (last t))) p t)
ended_in (items.Throw p ∷ st) b t = complete st b (add (forms.Throw (last t)) p t)
ended_in (items.Let p ds x ∷ st) b t = next_item st b (add (forms.Let (ds ++ set_declaration x (last t) ∷ [])) p t)
ended_in (items.Const p ds x ∷ st) b t = next_item st b (add (forms.Const (ds ++ set_declaration x (last t) ∷ [])) p t)
ended_in _ b t = lost b

abbrev pub equated_in : List Item → Builder → Builder
equated_in (items.Expression ∷ st) b = builder at.Want fresh b.told (items.Assign (last b.table) (place_or_none b.level.first) ∷ st) b.table
equated_in _ b = lost b

-- after an operand
abbrev pub had_mark : Builder → ℕ → Mark → Builder
had_mark b p marks.Dot = moved_to (at.Dotted p) b
had_mark b p marks.OpenBracket = open_with at.Want (items.Index (last b.table) p b.level) b
had_mark b p marks.OpenParen = open_with at.Argument (items.Call (last b.table) p [] b.level) b
had_mark b p marks.CloseParen = closed_in b.stack b (closed_table b.level b.table)
had_mark b p marks.CloseBracket = bracketed_in b.stack b (closed_table b.level b.table)
had_mark b p marks.CloseBrace = braced_in b.stack b (closed_table b.level b.table)
had_mark b p marks.Comma = parted_in b.stack b (closed_table b.level b.table)
had_mark b p marks.Semicolon = ended_in b.stack b (closed_table b.level b.table)
had_mark b p marks.Equals = equated_in b.stack b
had_mark b p m = operated b p m

abbrev pub had : Builder → ℕ → TokenKind → Builder
had b p (kinds.Mark m) = had_mark b p m
had b p _ = b

-- a member of the last node, by a name or a word
abbrev pub with_member : List ℕ → ℕ → At → Builder → Builder
with_member n p a b = builder a b.level b.told b.stack (add (forms.Member (last b.table) n) p b.table)

abbrev pub membered : At → ℕ → Builder → TokenKind → Builder
membered a p b (kinds.Name n) = with_member n p a b
membered a p b (kinds.Word w) = with_member (word_chars w) p a b
membered a p b _ = b

-- the end of a list
abbrev pub list_closed : List Item → Builder → Builder
list_closed (items.Call c p xs l ∷ st) b = resumed l st b (add (forms.Call c xs) p b.table)
list_closed (items.New c p xs l ∷ st) b = resumed l st b (add (forms.New c xs) p b.table)
list_closed (items.Array p xs l ∷ st) b = resumed l st b (add (forms.Array xs) p b.table)
list_closed (items.Object o ∷ st) b = object_ended o st b b.table
list_closed _ b = lost b

abbrev pub argued : Builder → ℕ → TokenKind → Builder
argued b p (kinds.Mark marks.CloseParen) = list_closed b.stack b
argued b p k = wanted b p k

abbrev pub elemented : Builder → ℕ → TokenKind → Builder
elemented b p (kinds.Mark marks.CloseBracket) = list_closed b.stack b
elemented b p k = wanted b p k

-- after `new`
abbrev pub newly_begun : Builder → ℕ → TokenKind → Builder
newly_begun b p (kinds.Name n) = builder at.NewNamed b.level b.told b.stack (add_name n p b.table)
newly_begun b p _ = b

abbrev pub newly_named : Builder → ℕ → TokenKind → Builder
newly_named b p (kinds.Mark marks.Dot) = moved_to (at.NewDotted p) b
newly_named b p (kinds.Mark marks.OpenParen) = open_with at.Given (items.New (last b.table) p [] b.level) b
newly_named b p _ = b

-- in an object
abbrev pub keyed_in : List Item → Builder → At → Key → ℕ → Builder
keyed_in (items.Object o ∷ st) b a k p = builder a b.level b.told (items.Keyed o k p ∷ st) b.table
keyed_in _ b a k p = lost b

abbrev pub propertied : Builder → ℕ → TokenKind → Builder
propertied b p (kinds.Mark marks.CloseBrace) = list_closed b.stack b
propertied b p (kinds.Name n) = keyed_in b.stack b at.NamedKey (keys.Word n) p
propertied b p (kinds.Word w) = keyed_in b.stack b at.OtherKey (keys.Word (word_chars w)) p
propertied b p (kinds.Text s) = keyed_in b.stack b at.OtherKey (keys.Text s) p
propertied b p _ = b

abbrev pub key_text : Key → List ℕ
key_text (keys.Word s) = s
key_text (keys.Text s) = s
key_text (keys.Alone s) = s

-- a name alone as a property, whose node is the last one
abbrev pub alone : ObjectSoFar → Key → ℕ → Table → ObjectSoFar
alone o k p t = with_property o (property_of (keys.Alone (key_text k)) p (last t))

abbrev pub alone_parted : List Item → Builder → Builder
alone_parted (items.Keyed o k p ∷ st) b = builder at.Property b.level b.told (items.Object (alone o k p (add_name (key_text k) p b.table)) ∷ st) (add_name (key_text k) p b.table)
alone_parted _ b = lost b

abbrev pub alone_braced : List Item → Builder → Builder
alone_braced (items.Keyed o k p ∷ st) b = object_ended (alone o k p (add_name (key_text k) p b.table)) st b (add_name (key_text k) p b.table)
alone_braced _ b = lost b

abbrev pub name_keyed : Builder → ℕ → TokenKind → Builder
name_keyed b p (kinds.Mark marks.Colon) = moved_to at.Want b
name_keyed b p (kinds.Mark marks.Comma) = alone_parted b.stack b
name_keyed b p (kinds.Mark marks.CloseBrace) = alone_braced b.stack b
name_keyed b p _ = b

abbrev pub other_keyed : Builder → TokenKind → Builder
other_keyed b (kinds.Mark marks.Colon) = moved_to at.Want b
other_keyed b _ = b

-- a scope begins
abbrev pub scope_of : ℕ → List Declared → Scope
scope_of p ds = record { place = p; declared = ds; items = [] }

abbrev pub scope_begins : Scope → Owner → List Item → Builder → Builder
scope_begins s o st b = builder at.Items b.level b.told (items.Scope s o ∷ st) (begins b.table)

-- a statement begins
abbrev pub in_statement : Item → Builder → Builder
in_statement i b = builder b.at b.level b.told (i ∷ b.stack) b.table

abbrev pub started_word : Builder → ℕ → Word → Builder
started_word b p words.If = moved_to (at.IfBegun p) b
started_word b p words.While = moved_to (at.WhileBegun p) b
started_word b p words.Break = moved_to (at.BreakBegun p) b
started_word b p words.Continue = moved_to (at.ContinueBegun p) b
started_word b p words.Return = moved_to (at.ReturnBegun p) b
started_word b p words.Throw = moved_to (at.ThrowBegun p) b
started_word b p words.Try = moved_to (at.TryBegun p) b
started_word b p w = wanted_word (in_statement items.Expression b) p w

abbrev pub started_mark : Builder → ℕ → Mark → Builder
started_mark b p marks.Semicolon = complete b.stack b (add forms.Empty p b.table)
started_mark b p marks.OpenBrace = scope_begins (scope_of p []) owners.Block b.stack b
started_mark b p m = wanted_mark (in_statement items.Expression b) p m

abbrev pub started : Builder → ℕ → TokenKind → Builder
started b p (kinds.Word w) = started_word b p w
started b p (kinds.Mark m) = started_mark b p m
started b p k = wanted (in_statement items.Expression b) p k

-- the end of a scope, whose block is the last node
abbrev pub function_of : List ℕ → ℕ → ℕ → NodeId → Function
function_of n p k x = record { name = n; place = p; parameters = k; body = x }

abbrev pub function_ended : Function → List Item → Builder → Table → Builder
function_ended f (items.Scope s (owners.Script fs) ∷ st) b t = builder at.Items b.level b.told (items.Scope s (owners.Script (fs ++ f ∷ [])) ∷ st) t
function_ended f st b t = lost_of st b t

abbrev pub owner_goes_on : Owner → List Item → Builder → Table → Builder
owner_goes_on (owners.Script fs) st b t = builder b.at b.level b.told st t
owner_goes_on owners.Block st b t = complete st b t
owner_goes_on (owners.Try p) st b t = builder at.TryRead b.level b.told (items.Tried p (last t) [] ∷ st) t
owner_goes_on (owners.Catch p x c) st b t = complete st b (add (forms.Try x c (last t)) p t)
owner_goes_on (owners.Function n p k) st b t = function_ended (function_of n p k (last t)) st b t

abbrev pub block_ended_in : List Item → Builder → Builder
block_ended_in (items.Scope s o ∷ st) b = owner_goes_on o st b (add (forms.Block (length s.declared) s.items) s.place (ends s.declared b.table))
block_ended_in _ b = lost b

abbrev pub itemed_word : Builder → ℕ → Word → Builder
itemed_word b p words.Function = moved_to (at.FunctionBegun p) b
itemed_word b p words.Let = moved_to (at.LetBegun p) b
itemed_word b p words.Const = moved_to (at.ConstBegun p) b
itemed_word b p w = started_word b p w

abbrev pub itemed_mark : Builder → ℕ → Mark → Builder
itemed_mark b p marks.CloseBrace = block_ended_in b.stack b
itemed_mark b p m = started_mark b p m

-- an item begins, or the items end
abbrev pub itemed : Builder → ℕ → TokenKind → Builder
itemed b p (kinds.Word w) = itemed_word b p w
itemed b p (kinds.Mark m) = itemed_mark b p m
itemed b p k = started b p k

-- the statements that end before a token that is `else` or another
pub record Settled : Type 0 where
  pub stack : List Item
  pub table : Table

abbrev pub settled_at : List Item → Table → Settled
settled_at st t = record { stack = st; table = t }

abbrev pub settled : Bool → List Item → Table → Settled
settled e (items.Then p x ∷ st) t = cond e (settled_at (items.Then p x ∷ st) t) (settled e st (add (forms.If x (last t)) p t))
settled e (items.Else p x y ∷ st) t = settled e st (add (forms.IfElse x y (last t)) p t)
settled e (items.Body p x ∷ st) t = settled e st (add (forms.While x (last t)) p t)
settled e st t = settled_at st t

-- what an item that is taken off the stack does there: it goes on, or ends, and what is below it is settled
abbrev pub Settles : Bool → Item → Table → Option Item → Table → Type 0
Settles e i t (Some j) u = (st : List Item) → settled e (i ∷ st) t ≡ settled_at (j ∷ st) u
Settles e i t None u = (st : List Item) → settled e (i ∷ st) t ≡ settled e st u

abbrev pub settled_in : Bool → Builder → Builder
settled_in e b = builder b.at b.level b.told (settled e b.stack b.table).stack (settled e b.stack b.table).table

abbrev pub item_ended : Builder → Builder
item_ended b = next_item (settled false b.stack b.table).stack b (settled false b.stack b.table).table

abbrev pub else_goes_on : List Item → Builder → Table → Builder
else_goes_on (items.Then p x ∷ st) b t = builder at.Begun fresh b.told (items.Else p x (last t) ∷ st) t
else_goes_on st b t = lost_of st b t

abbrev pub after : Builder → ℕ → TokenKind → Builder
after b p (kinds.Word words.Else) = else_goes_on (settled true b.stack b.table).stack b (settled true b.stack b.table).table
after b p k = itemed (item_ended b) p k

-- the first tokens of a statement
abbrev pub test_begins : Item → Builder → TokenKind → Builder
test_begins i b (kinds.Mark marks.OpenParen) = open_with at.Want i b
test_begins i b _ = b

abbrev pub left_by : Form → ℕ → Builder → TokenKind → Builder
left_by f q b (kinds.Mark marks.Semicolon) = complete b.stack b (add f q b.table)
left_by f q b _ = b

abbrev pub returned : ℕ → Builder → ℕ → TokenKind → Builder
returned q b p (kinds.Mark marks.Semicolon) = complete b.stack b (add (forms.Return None) q b.table)
returned q b p k = wanted (in_statement (items.Return q) b) p k

abbrev pub try_begins : ℕ → Builder → ℕ → TokenKind → Builder
try_begins q b p (kinds.Mark marks.OpenBrace) = scope_begins (scope_of p []) (owners.Try q) b.stack b
try_begins q b p _ = b

abbrev pub catch_follows : Builder → TokenKind → Builder
catch_follows b (kinds.Word words.Catch) = moved_to at.CatchBegun b
catch_follows b _ = b

abbrev pub catch_begins : Bool → List Item → Builder → ℕ → Builder
catch_begins c (items.Tried q x ds ∷ st) b p = scope_begins (scope_of p ds) (owners.Catch q x c) st b
catch_begins c _ b p = lost b

abbrev pub caught : Builder → ℕ → TokenKind → Builder
caught b p (kinds.Mark marks.OpenBrace) = catch_begins false b.stack b p
caught b p (kinds.Mark marks.OpenParen) = moved_to at.CatchOpened b
caught b p _ = b

abbrev pub declared_as : Declares → List ℕ → ℕ → Declared
declared_as d n p = record { name = n; place = p; declares = d }

abbrev pub catch_named_in : List Item → Builder → List ℕ → ℕ → Builder
catch_named_in (items.Tried q x ds ∷ st) b n p = builder at.CatchNamed b.level b.told (items.Tried q x (ds ++ declared_as declares.Variable n p ∷ []) ∷ st) b.table
catch_named_in _ b n p = lost b

abbrev pub catch_opened : Builder → ℕ → TokenKind → Builder
catch_opened b p (kinds.Name n) = catch_named_in b.stack b n p
catch_opened b p _ = b

abbrev pub closes_to : At → Builder → TokenKind → Builder
closes_to a b (kinds.Mark marks.CloseParen) = moved_to a b
closes_to a b _ = b

abbrev pub catch_closed : Builder → ℕ → TokenKind → Builder
catch_closed b p (kinds.Mark marks.OpenBrace) = catch_begins true b.stack b p
catch_closed b p _ = b

-- a name is declared in the scope that is open last
abbrev pub with_declared : Scope → Declared → Scope
with_declared s d = record { place = s.place; declared = s.declared ++ d ∷ []; items = s.items }

abbrev pub declared_in : List Item → Builder → Declares → List ℕ → ℕ → At → Builder
declared_in (items.Scope s o ∷ st) b d n p a = builder a b.level b.told (items.Scope (with_declared s (declared_as d n p)) o ∷ st) (add_name n p b.table)
declared_in _ b d n p a = lost b

abbrev pub let_begun : ℕ → Builder → ℕ → TokenKind → Builder
let_begun q b p (kinds.Name n) = declared_in b.stack b declares.Variable n p (at.LetNamed q)
let_begun q b p _ = b

abbrev pub const_begun : ℕ → Builder → ℕ → TokenKind → Builder
const_begun q b p (kinds.Name n) = declared_in b.stack b declares.Constant n p (at.ConstNamed q)
const_begun q b p _ = b

abbrev pub let_named : ℕ → Builder → TokenKind → Builder
let_named q b (kinds.Mark marks.Equals) = builder at.Want fresh [] (items.Let q b.told (last b.table) ∷ b.stack) b.table
let_named q b (kinds.Mark marks.Comma) = builder (at.LetBegun q) b.level (b.told ++ unset_declaration (last b.table) ∷ []) b.stack b.table
let_named q b (kinds.Mark marks.Semicolon) = next_item b.stack b (add (forms.Let (b.told ++ unset_declaration (last b.table) ∷ [])) q b.table)
let_named q b _ = b

abbrev pub const_named : ℕ → Builder → TokenKind → Builder
const_named q b (kinds.Mark marks.Equals) = builder at.Want fresh [] (items.Const q b.told (last b.table) ∷ b.stack) b.table
const_named q b _ = b

-- a function's head
abbrev pub function_named_in : List Item → Builder → ℕ → List ℕ → ℕ → Builder
function_named_in (items.Scope s o ∷ st) b q n p = builder at.FunctionNamed b.level b.told (items.Head n q [] ∷ items.Scope (with_declared s (declared_as declares.Function n p)) o ∷ st) b.table
function_named_in _ b q n p = lost b

abbrev pub function_begun : ℕ → Builder → ℕ → TokenKind → Builder
function_begun q b p (kinds.Name n) = function_named_in b.stack b q n p
function_begun q b p _ = b

abbrev pub function_named : Builder → TokenKind → Builder
function_named b (kinds.Mark marks.OpenParen) = moved_to at.Parameter b
function_named b _ = b

abbrev pub parameter_in : List Item → Builder → List ℕ → ℕ → Builder
parameter_in (items.Head n q ds ∷ st) b m p = builder at.ParameterRead b.level b.told (items.Head n q (ds ++ declared_as declares.Variable m p ∷ []) ∷ st) b.table
parameter_in _ b m p = lost b

abbrev pub parametered : Builder → ℕ → TokenKind → Builder
parametered b p (kinds.Mark marks.CloseParen) = moved_to at.ParametersRead b
parametered b p (kinds.Name m) = parameter_in b.stack b m p
parametered b p _ = b

abbrev pub parameter_goes_on : Builder → TokenKind → Builder
parameter_goes_on b (kinds.Mark marks.Comma) = moved_to at.Parameter b
parameter_goes_on b (kinds.Mark marks.CloseParen) = moved_to at.ParametersRead b
parameter_goes_on b _ = b

abbrev pub body_begins_in : List Item → Builder → ℕ → Builder
body_begins_in (items.Head n q ds ∷ st) b p = scope_begins (scope_of p ds) (owners.Function n q (length ds)) st b
body_begins_in _ b p = lost b

abbrev pub body_begins : Builder → ℕ → TokenKind → Builder
body_begins b p (kinds.Mark marks.OpenBrace) = body_begins_in b.stack b p
body_begins b p _ = b

-- what a token does in a `let`, a `const` and a function's head
abbrev pub head_moved : Builder → ℕ → TokenKind → Builder
head_moved b p k = elim b.at [
  | at.LetBegun q ↦ let_begun q b p k
  | at.LetNamed q ↦ let_named q b k
  | at.ConstBegun q ↦ const_begun q b p k
  | at.ConstNamed q ↦ const_named q b k
  | at.FunctionBegun q ↦ function_begun q b p k
  | at.FunctionNamed ↦ function_named b k
  | at.Parameter ↦ parametered b p k
  | at.ParameterRead ↦ parameter_goes_on b k
  | at.ParametersRead ↦ body_begins b p k
  | _ ↦ b
]

-- what a token does among statements
abbrev pub statement_moved : Builder → ℕ → TokenKind → Builder
statement_moved b p k = elim b.at [
  | at.Items ↦ itemed b p k
  | at.Begun ↦ started b p k
  | at.Complete ↦ after b p k
  | at.IfBegun q ↦ test_begins (items.IfTest q) b k
  | at.WhileBegun q ↦ test_begins (items.WhileTest q) b k
  | at.BreakBegun q ↦ left_by forms.Break q b k
  | at.ContinueBegun q ↦ left_by forms.Continue q b k
  | at.ReturnBegun q ↦ returned q b p k
  | at.ThrowBegun q ↦ wanted (in_statement (items.Throw q) b) p k
  | at.TryBegun q ↦ try_begins q b p k
  | at.TryRead ↦ catch_follows b k
  | at.CatchBegun ↦ caught b p k
  | at.CatchOpened ↦ catch_opened b p k
  | at.CatchNamed ↦ closes_to at.CatchClosed b k
  | at.CatchClosed ↦ catch_closed b p k
  | _ ↦ head_moved b p k
]

-- what a token does
abbrev pub moved : Builder → ℕ → TokenKind → Builder
moved b p k = elim b.at [
  | at.Want ↦ wanted b p k
  | at.Have ↦ had b p k
  | at.Dotted d ↦ membered at.Have d b k
  | at.Argument ↦ argued b p k
  | at.Element ↦ elemented b p k
  | at.Given ↦ argued b p k
  | at.NewBegun ↦ newly_begun b p k
  | at.NewNamed ↦ newly_named b p k
  | at.NewDotted d ↦ membered at.NewNamed d b k
  | at.Property ↦ propertied b p k
  | at.NamedKey ↦ name_keyed b p k
  | at.OtherKey ↦ other_keyed b k
  | _ ↦ statement_moved b p k
]

-- before the first token
abbrev pub start : Builder
start = builder at.Items fresh [] (items.Scope (scope_of 0 []) (owners.Script []) ∷ []) (record { nodes = []; mentions = []; references = 0 })

-- where the tokens end
abbrev pub ended : Builder → Builder
ended b = elim b.at [
  | at.Complete ↦ item_ended b
  | _ ↦ b
]

-- what was built, where nothing but the script is open
abbrev pub built_in : Scope → List Function → List Item → Table → Option Built
built_in s fs [] t = Some (record { functions = fs; top = s.items; declared = s.declared; nodes = reverse t.nodes; mentions = reverse t.mentions })
built_in s fs (i ∷ st) t = None

abbrev pub built_by : Scope → Owner → List Item → Table → Option Built
built_by s (owners.Script fs) st t = built_in s fs st t
built_by s _ st t = None

abbrev pub built_of : List Item → Table → Option Built
built_of (items.Scope s o ∷ st) t = built_by s o st t
built_of _ t = None

abbrev pub built : Builder → Option Built
built b = built_of b.stack b.table
