-- The grammar of the script language (ECMA-262, sections 13 to 16, cut to the profile). A derivation has a constructor for
-- each production and tells where each of its tokens stands. Lists and chains are nested to the left.
use Rattle.std.specs.Prelude.{ℕ, suc, Bool, List}
use Rattle.host_lexer.specs.declared.token.Word.{Word}

-- where a token stands: its first byte, and whether a line end stands between it and the token before it
pub record Spot : Type 0 where
  pub place : ℕ
  pub after_line : Bool

-- a name by the bytes of its text, and where it stands
pub record Named : Type 0 where
  pub text : List ℕ
  pub spot : Spot

-- Any = Name or word
pub data Any : Type 0 where
  any_name : Named → Any
  any_word : Word → Spot → Any

-- the key of a property: Any | Text
pub data Key : Type 0 where
  any_key : Any → Key
  text_key : (text : List ℕ) → Spot → Key

-- Number | BigInt | Text | "true" | "false" | "null" | "undefined"
pub data Literal : Type 0 where
  number : ℕ → Literal
  big_int : ℕ → Literal
  text : List ℕ → Literal
  true_word : Literal
  false_word : Literal
  null_word : Literal
  undefined_word : Literal

-- the binary operators of each level, from the tightest: Mul, Add, Rel, Eq, And, Or
pub data Operator : ℕ → Type 0 where
  times : Operator 0
  divided : Operator 0
  remainder : Operator 0
  plus : Operator 1
  minus : Operator 1
  less : Operator 2
  greater : Operator 2
  less_equals : Operator 2
  greater_equals : Operator 2
  equals : Operator 3
  not_equals : Operator 3
  and : Operator 4
  or : Operator 5

pub data Prefix : Type 0 where
  negative : Prefix
  not_ : Prefix
  type_of : Prefix

-- Members = nothing | Members "." Any
pub data Members : Type 0 where
  no_member : Members
  and_member : Members → (dot : Spot) → Any → Members

mutual
  -- Chain 0 = Unary; Chain (n + 1) = Chain n | Chain (n + 1) operator(n) Chain n. Expr is Chain 6.
  pub data Chain : ℕ → Type 0 where
    operand : Unary → Chain 0
    lift : {n : ℕ} → Chain n → Chain (suc n)
    more : {n : ℕ} → Chain (suc n) → Operator n → Spot → Chain n → Chain (suc n)

  -- Unary = Postfix | ("-" | "!" | "typeof") Unary
  pub data Unary : Type 0 where
    postfix : Postfix → Unary
    prefixed : Prefix → Spot → Unary → Unary

  -- Postfix = Primary | Postfix "." Any | Postfix "[" Expr "]" | Postfix "(" List ")"
  pub data Postfix : Type 0 where
    primary : Primary → Postfix
    member : Postfix → (dot : Spot) → Any → Postfix
    index : Postfix → (from : Spot) → Chain 6 → (to : Spot) → Postfix
    call : Postfix → (from : Spot) → Listed → (to : Spot) → Postfix

  -- Primary = Literal | Name | "(" Expr ")" | "[" List "]" | "{" Props "}" | "new" Name Members "(" List ")"
  pub data Primary : Type 0 where
    literal : Literal → Spot → Primary
    name : Named → Primary
    paren : (from : Spot) → Chain 6 → (to : Spot) → Primary
    array : (from : Spot) → Listed → (to : Spot) → Primary
    object : (from : Spot) → Props → (to : Spot) → Primary
    new : (word : Spot) → Named → Members → (from : Spot) → Listed → (to : Spot) → Primary

  -- List = nothing | Exprs [ "," ]
  pub data Listed : Type 0 where
    nothing : Listed
    listed : Exprs → Listed
    listed_on : Exprs → (comma : Spot) → Listed

  -- Exprs = Expr | Exprs "," Expr
  pub data Exprs : Type 0 where
    one : Chain 6 → Exprs
    and_one : Exprs → (comma : Spot) → Chain 6 → Exprs

  -- Props = nothing | PropList [ "," ]
  pub data Props : Type 0 where
    no_props : Props
    props : PropList → Props
    props_on : PropList → (comma : Spot) → Props

  -- PropList = Prop | PropList "," Prop
  pub data PropList : Type 0 where
    one_prop : Prop → PropList
    and_prop : PropList → (comma : Spot) → Prop → PropList

  -- Prop = (Any | Text) ":" Expr | Name
  pub data Prop : Type 0 where
    keyed : Key → (colon : Spot) → Chain 6 → Prop
    short : Named → Prop

abbrev pub Expr : Type 0
Expr = Chain 6

-- Target = Name | Postfix that ends in a member
pub data Target : Type 0 where
  to_name : Named → Target
  to_member : Postfix → (dot : Spot) → Any → Target
  to_index : Postfix → (from : Spot) → Expr → (to : Spot) → Target

-- LDecl = Name [ "=" Expr ], one or more with "," between them
pub data LetDecl : Type 0 where
  unset : Named → LetDecl
  set_to : Named → (mark : Spot) → Expr → LetDecl

pub data LetDecls : Type 0 where
  one_let : LetDecl → LetDecls
  and_let : LetDecls → (comma : Spot) → LetDecl → LetDecls

-- CDecl = Name "=" Expr, one or more with "," between them
pub data ConstDecl : Type 0 where
  const_to : Named → (mark : Spot) → Expr → ConstDecl

pub data ConstDecls : Type 0 where
  one_const : ConstDecl → ConstDecls
  and_const : ConstDecls → (comma : Spot) → ConstDecl → ConstDecls

mutual
  -- Stmt = ";" | Block | Expr ";" | Target "=" Expr ";" | "if" "(" Expr ")" Stmt [ "else" Stmt ] | "while" "(" Expr ")" Stmt
  --      | "break" ";" | "continue" ";" | "return" [ Expr ] ";" | "throw" Expr ";" | "try" Block "catch" [ "(" Name ")" ] Block
  pub data Stmt : Type 0 where
    empty : Spot → Stmt
    block : Block → Stmt
    expression : Expr → (end : Spot) → Stmt
    assign : Target → (mark : Spot) → Expr → (end : Spot) → Stmt
    if_then : (word from : Spot) → Expr → (to : Spot) → Stmt → Stmt
    if_else : (word from : Spot) → Expr → (to : Spot) → Stmt → (other : Spot) → Stmt → Stmt
    while_do : (word from : Spot) → Expr → (to : Spot) → Stmt → Stmt
    break_off : (word end : Spot) → Stmt
    continue_on : (word end : Spot) → Stmt
    return_none : (word end : Spot) → Stmt
    return_value : (word : Spot) → Expr → (end : Spot) → Stmt
    throw_value : (word : Spot) → Expr → (end : Spot) → Stmt
    try_catch : (word : Spot) → Block → (catch : Spot) → Block → Stmt
    try_catch_name : (word : Spot) → Block → (catch from : Spot) → Named → (to : Spot) → Block → Stmt

  -- Block = "{" Items "}"
  pub data Block : Type 0 where
    braces : (from : Spot) → Items → (to : Spot) → Block

  -- Items = nothing | Items Item
  pub data Items : Type 0 where
    no_item : Items
    and_item : Items → Item → Items

  -- Item = "let" LDecls ";" | "const" CDecls ";" | Stmt
  pub data Item : Type 0 where
    lets : (word : Spot) → LetDecls → (end : Spot) → Item
    consts : (word : Spot) → ConstDecls → (end : Spot) → Item
    statement : Stmt → Item

-- the parameters of a function: nothing, or names with "," between them and perhaps behind them
pub data Names : Type 0 where
  one_name : Named → Names
  and_name : Names → (comma : Spot) → Named → Names

pub data Params : Type 0 where
  no_param : Params
  params : Names → Params
  params_on : Names → (comma : Spot) → Params

-- Function = "function" Name "(" Params ")" Block
pub data Function : Type 0 where
  function : (word : Spot) → Named → (from : Spot) → Params → (to : Spot) → Block → Function

-- Script = nothing | Script Function | Script Item
pub data Script : Type 0 where
  no_part : Script
  and_function : Script → Function → Script
  and_part : Script → Item → Script
