-- The grammar of scripts (ECMA-262, sections 13 to 16, cut to the profile's script form). A derivation has a constructor
-- for each production, and where each of its tokens begins.
--
--   Script    = nothing | Script "let" Name "=" Sum ";" | Script "let" Name "=" Instance ";" | Script "print" "(" Arguments ")" ";"
--   Instance  = "new" "WebAssembly" "." "Instance" "(" "new" "WebAssembly" "." "Module" "(" "readbuffer" "(" Text ")" ")" ")" "." "exports" "." Name
--   Arguments = nothing | Listed          Listed = Sum | Listed "," Sum
--   Sum       = Product | Sum ("+" | "-") Product
--   Product   = Factor | Product "*" Factor
--   Factor    = Number | Text | Name | "(" Sum ")" | Name "(" Passed ")"
--   Passed    = nothing | Listed | Listed ","
use Rattle.std.specs.Prelude.{◌≡◌, ℕ, ◌+◌, ◌≤◌, max, List, [], ◌∷◌, ◌++◌, map, Contains, codes}
use Rattle.small_lexer.specs.declared.token.Word.TheVariants as words
use Rattle.small_lexer.specs.declared.token.Mark.TheVariants as marks
use Rattle.small_lexer.specs.declared.token.TokenKind.{TokenKind}
use Rattle.small_lexer.specs.declared.token.TokenKind.TheVariants as kinds
use Rattle.small_lexer.specs.declared.token.Token.{Token}

-- a token as the grammar sees it: what it is and where it begins
pub record Sign : Type 0 where
  pub kind : TokenKind
  pub place : ℕ

abbrev pub at : TokenKind → ℕ → Sign
at k p = record { kind = k; place = p }

abbrev pub sign_of : Token → Sign
sign_of t = at t.kind t.from

-- an additive operator
pub data Additive : Type 0 where
  plus : Additive
  minus : Additive

mutual
  pub data Sum : Type 0 where
    product : Product → Sum
    added : Sum → Additive → (operator : ℕ) → Product → Sum

  pub data Product : Type 0 where
    factor : Factor → Product
    times : Product → (operator : ℕ) → Factor → Product

  pub data Factor : Type 0 where
    number : (value : ℕ) → (place : ℕ) → Factor
    text : (value : List ℕ) → (place : ℕ) → Factor
    name : (spelling : List ℕ) → (place : ℕ) → Factor
    parens : (open_place : ℕ) → Sum → (close_place : ℕ) → Factor
    call : (callee : List ℕ) → (place : ℕ) → (open_place : ℕ) → Passed → (close_place : ℕ) → Factor

  pub data Listed : Type 0 where
    single : Sum → Listed
    comma : Listed → (place : ℕ) → Sum → Listed

  -- the arguments of a call, which may end in a comma
  pub data Passed : Type 0 where
    unlisted : Passed
    passed : Listed → Passed
    passed_more : Listed → (comma_place : ℕ) → Passed

pub data Arguments : Type 0 where
  none : Arguments
  listed : Listed → Arguments

-- an export of a module's instance, by the name of the module's file and its own, with the tokens that spell it
pub record Instance : Type 0 where
  pub file : List ℕ
  pub export : List ℕ
  pub tokens : List Sign

pub data Script : Type 0 where
  nothing : Script
  declaration : Script → (let_place : ℕ) → (spelling : List ℕ) → (name_place : ℕ) → (equals_place : ℕ) → Sum → (end_place : ℕ) → Script
  binding : Script → (let_place : ℕ) → (spelling : List ℕ) → (name_place : ℕ) → (equals_place : ℕ) → Instance → (end_place : ℕ) → Script
  printing : Script → (print_place : ℕ) → (open_place : ℕ) → Arguments → (close_place : ℕ) → (end_place : ℕ) → Script

abbrev pub additive_mark : Additive → TokenKind
additive_mark plus = kinds.Mark marks.Plus
additive_mark minus = kinds.Mark marks.Minus

-- the tokens of a derivation, and what comes after them
abbrev mutual
  pub sum_then : Sum → List Sign → List Sign
  sum_then (product m) y = product_then m y
  sum_then (added a o k m) y = sum_then a (at (additive_mark o) k ∷ product_then m y)

  pub product_then : Product → List Sign → List Sign
  product_then (factor f) y = factor_then f y
  product_then (times m k f) y = product_then m (at (kinds.Mark marks.Star) k ∷ factor_then f y)

  pub factor_then : Factor → List Sign → List Sign
  factor_then (number n k) y = at (kinds.Number n) k ∷ y
  factor_then (text s k) y = at (kinds.Text s) k ∷ y
  factor_then (name w k) y = at (kinds.Name w) k ∷ y
  factor_then (parens o e c) y = at (kinds.Mark marks.Open) o ∷ sum_then e (at (kinds.Mark marks.Close) c ∷ y)
  factor_then (call w k o a c) y = at (kinds.Name w) k ∷ at (kinds.Mark marks.Open) o ∷ passed_then a (at (kinds.Mark marks.Close) c ∷ y)

  pub listed_then : Listed → List Sign → List Sign
  listed_then (single e) y = sum_then e y
  listed_then (comma l k e) y = listed_then l (at (kinds.Mark marks.Comma) k ∷ sum_then e y)

  pub passed_then : Passed → List Sign → List Sign
  passed_then unlisted y = y
  passed_then (passed l) y = listed_then l y
  passed_then (passed_more l k) y = listed_then l (at (kinds.Mark marks.Comma) k ∷ y)

abbrev pub arguments_then : Arguments → List Sign → List Sign
arguments_then none y = y
arguments_then (listed l) y = listed_then l y

-- the global function by whose call a script prints
abbrev pub print_name : List ℕ
print_name = codes "print"

-- the global names by which a script loads a module
abbrev pub interface_name : List ℕ
interface_name = codes "WebAssembly"

abbrev pub reading_name : List ℕ
reading_name = codes "readbuffer"

abbrev pub script_then : Script → List Sign → List Sign
script_then nothing y = y
script_then (declaration s l w n q e c) y = script_then s (at (kinds.Word words.Let) l ∷ at (kinds.Name w) n ∷ at (kinds.Mark marks.Equals) q ∷ sum_then e (at (kinds.Mark marks.Semicolon) c ∷ y))
script_then (binding s l w n q i c) y = script_then s (at (kinds.Word words.Let) l ∷ at (kinds.Name w) n ∷ at (kinds.Mark marks.Equals) q ∷ (i.tokens ++ at (kinds.Mark marks.Semicolon) c ∷ y))
script_then (printing s p o a c e) y = script_then s (at (kinds.Name print_name) p ∷ at (kinds.Mark marks.Open) o ∷ arguments_then a (at (kinds.Mark marks.Close) c ∷ at (kinds.Mark marks.Semicolon) e ∷ y))

-- new WebAssembly.Instance(new WebAssembly.Module(readbuffer(
abbrev pub kinds_before_file : List TokenKind
kinds_before_file =
    kinds.Word words.New ∷ kinds.Name interface_name ∷ kinds.Mark marks.Dot ∷ kinds.Name (codes "Instance") ∷ kinds.Mark marks.Open
    ∷ kinds.Word words.New ∷ kinds.Name interface_name ∷ kinds.Mark marks.Dot ∷ kinds.Name (codes "Module") ∷ kinds.Mark marks.Open
    ∷ kinds.Name reading_name ∷ kinds.Mark marks.Open ∷ []

-- ))).exports.
abbrev pub kinds_after_file : List TokenKind
kinds_after_file =
    kinds.Mark marks.Close ∷ kinds.Mark marks.Close ∷ kinds.Mark marks.Close ∷ kinds.Mark marks.Dot ∷ kinds.Name (codes "exports") ∷ kinds.Mark marks.Dot ∷ []

-- the tokens of an instance are those of its production
abbrev pub IsInstance : Instance → Type 0
IsInstance i = map (λ t. t.kind) i.tokens ≡ kinds_before_file ++ kinds.Text i.file ∷ kinds_after_file ++ kinds.Name i.export ∷ []

-- how many parentheses are open at once in an expression, at most
abbrev mutual
  pub sum_depth : Sum → ℕ
  sum_depth (product m) = product_depth m
  sum_depth (added a o k m) = max (sum_depth a) (product_depth m)

  pub product_depth : Product → ℕ
  product_depth (factor f) = factor_depth f
  product_depth (times m k f) = max (product_depth m) (factor_depth f)

  pub factor_depth : Factor → ℕ
  factor_depth (number n k) = 0
  factor_depth (text s k) = 0
  factor_depth (name w k) = 0
  factor_depth (parens o e c) = sum_depth e + 1
  factor_depth (call w k o a c) = passed_depth a + 1

  pub listed_depth : Listed → ℕ
  listed_depth (single e) = sum_depth e
  listed_depth (comma l k e) = max (listed_depth l) (sum_depth e)

  pub passed_depth : Passed → ℕ
  passed_depth unlisted = 0
  passed_depth (passed l) = listed_depth l
  passed_depth (passed_more l k) = listed_depth l

abbrev pub arguments_depth : Arguments → ℕ
arguments_depth none = 0
arguments_depth (listed l) = listed_depth l

-- how many constructs may be open at once
abbrev pub most_open : ℕ
most_open = 256

-- of the names that are declared and those among them that are bound to a function: each name that an expression calls is
-- bound, and each other name is declared and isn't bound
abbrev mutual
  pub SumUses : (declared bound : List (List ℕ)) → Sum → Type 0
  SumUses declared bound (product m) = ProductUses declared bound m
  SumUses declared bound (added a o k m) = SumUses declared bound a × ProductUses declared bound m

  pub ProductUses : (declared bound : List (List ℕ)) → Product → Type 0
  ProductUses declared bound (factor f) = FactorUses declared bound f
  ProductUses declared bound (times m k f) = ProductUses declared bound m × FactorUses declared bound f

  pub FactorUses : (declared bound : List (List ℕ)) → Factor → Type 0
  FactorUses declared bound (number n k) = Unit {0}
  FactorUses declared bound (text s k) = Unit {0}
  FactorUses declared bound (name w k) = Contains declared w × (¬ Contains bound w)
  FactorUses declared bound (parens o e c) = SumUses declared bound e
  FactorUses declared bound (call w k o a c) = Contains bound w × PassedUse declared bound a

  pub ListedUses : (declared bound : List (List ℕ)) → Listed → Type 0
  ListedUses declared bound (single e) = SumUses declared bound e
  ListedUses declared bound (comma l k e) = ListedUses declared bound l × SumUses declared bound e

  pub PassedUse : (declared bound : List (List ℕ)) → Passed → Type 0
  PassedUse declared bound unlisted = Unit {0}
  PassedUse declared bound (passed l) = ListedUses declared bound l
  PassedUse declared bound (passed_more l k) = ListedUses declared bound l

abbrev pub ArgumentsUse : (declared bound : List (List ℕ)) → Arguments → Type 0
ArgumentsUse declared bound none = Unit {0}
ArgumentsUse declared bound (listed l) = ListedUses declared bound l

-- the names that a script declares, the last one first
abbrev pub declared_by : Script → List (List ℕ)
declared_by nothing = []
declared_by (declaration s l w n q e c) = w ∷ declared_by s
declared_by (binding s l w n q i c) = w ∷ declared_by s
declared_by (printing s p o a c e) = declared_by s

-- those of them that it binds to a function
abbrev pub bound_by : Script → List (List ℕ)
bound_by nothing = []
bound_by (declaration s l w n q e c) = bound_by s
bound_by (binding s l w n q i c) = w ∷ bound_by s
bound_by (printing s p o a c e) = bound_by s

-- no name is declared twice, none that is declared or exported is `print`, each one that an expression uses was declared by
-- an earlier statement for this use, and never more than 256 parentheses are open at once, that of `print` among them
abbrev pub IsFine : Script → Type 0
IsFine nothing = Unit {0}
IsFine (declaration s l w n q e c) = IsFine s × (¬ Contains (declared_by s) w) × (¬ (w ≡ print_name)) × SumUses (declared_by s) (bound_by s) e × (sum_depth e ≤ most_open)
IsFine (binding s l w n q i c) = IsFine s × (¬ Contains (declared_by s) w) × (¬ (w ≡ print_name)) × IsInstance i × (¬ (i.export ≡ print_name))
IsFine (printing s p o a c e) = IsFine s × ArgumentsUse (declared_by s) (bound_by s) a × (arguments_depth a + 1 ≤ most_open)

-- a script that loads a module declares none of the names by which it does
abbrev pub KeepsNames : Script → Type 0
KeepsNames s = (¬ (bound_by s ≡ [])) → (¬ Contains (declared_by s) reading_name) × (¬ Contains (declared_by s) interface_name)

-- these are the tokens of a script
pub record IsScript (tokens : List Token) (script : Script) : Type 0 where
  pub spelled : script_then script [] ≡ map sign_of tokens
  pub fine : IsFine script
  pub keeps : KeepsNames script
