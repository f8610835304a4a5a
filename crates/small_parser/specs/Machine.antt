-- Private: the reader of scripts as a machine over one token: what it has read, what is open, and what may come next. Derivations
-- nest to the left, so what stands before an operator or a comma is itself a derivation.
use Rattle.std.specs.Prelude.{ℕ, ◌+◌, nat_lt, List, [], ◌∷◌, ◌++◌, Option, Some, None, Bool, true, false, cond}
use Rattle.std.specs.Str.{bytes_eq}
use Rattle.small_lexer.specs.declared.token.Word.TheVariants as words
use Rattle.small_lexer.specs.declared.token.Mark.{Mark}
use Rattle.small_lexer.specs.declared.token.Mark.TheVariants as marks
use Rattle.small_lexer.specs.declared.token.TokenKind.{TokenKind}
use Rattle.small_lexer.specs.declared.token.TokenKind.TheVariants as kinds
use Rattle.small_parser.specs.declared.instance.Piece.{Piece}
use Rattle.small_parser.specs.Grammar.{Additive, plus, minus, Sum, product, added, Product, factor, times, Factor, number, text, name, parens, call, Listed, single, comma, Passed, unlisted, passed, passed_more, Arguments, none, listed, Instance, Script, nothing, declaration, binding, printing, Sign, at, additive_mark, sum_then, product_then, factor_then, listed_then, arguments_then, script_then, print_name, declared_by, bound_by, most_open}
use Rattle.small_parser.specs.Pieces.{pieces_before_file, pieces_after_file, fits}

-- what stands before an additive operator, a `*` or a comma that waits for its right side
pub data BeforeSum : Type 0 where
  no_sum : BeforeSum
  sum_before : Sum → Additive → (operator : ℕ) → BeforeSum

pub data BeforeProduct : Type 0 where
  no_product : BeforeProduct
  product_before : Product → (operator : ℕ) → BeforeProduct

pub data BeforeListed : Type 0 where
  no_listed : BeforeListed
  listed_before : Listed → (place : ℕ) → BeforeListed

-- the chains that are open at an operand
pub data Level : Type 0 where
  level : BeforeSum → BeforeProduct → Level

abbrev pub fresh : Level
fresh = level no_sum no_product

-- what is open around an operand: a statement, and then parentheses, each with the chains that it stands in
pub data Outer : Type 0 where
  in_let : Script → (let_place : ℕ) → (spelling : List ℕ) → (name_place : ℕ) → (equals_place : ℕ) → Outer
  in_print : Script → (print_place : ℕ) → (open_place : ℕ) → BeforeListed → Outer
  in_parens : (open_place : ℕ) → Level → Outer → Outer
  in_call : (callee : List ℕ) → (place : ℕ) → (open_place : ℕ) → BeforeListed → Level → Outer → Outer

pub data State : Type 0 where
  -- a statement or the end of the script
  items : Script → State
  -- the name that a `let` declares
  let_begun : Script → (let_place : ℕ) → State
  -- its `=`
  let_named : Script → (let_place : ℕ) → (spelling : List ℕ) → (name_place : ℕ) → State
  -- what it declares: an expression or an instance
  let_equals : Script → (let_place : ℕ) → (spelling : List ℕ) → (name_place : ℕ) → (equals_place : ℕ) → State
  -- what is left of an instance before its file's name, and that name
  before_file : Script → (let_place : ℕ) → (spelling : List ℕ) → (name_place : ℕ) → (equals_place : ℕ) → (read : List Sign) → (left : List Piece) → State
  -- what is left after it, and the export's name
  after_file : Script → (let_place : ℕ) → (spelling : List ℕ) → (name_place : ℕ) → (equals_place : ℕ) → (file : List ℕ) → (read : List Sign) → (left : List Piece) → State
  -- the `;` after an instance
  instanced : Script → (let_place : ℕ) → (spelling : List ℕ) → (name_place : ℕ) → (equals_place : ℕ) → Instance → State
  -- the `(` of a `print`
  print_begun : Script → (print_place : ℕ) → State
  -- its first argument or its `)`
  argument : Script → (print_place : ℕ) → (open_place : ℕ) → State
  -- its `;`
  printed : Script → (print_place : ℕ) → (open_place : ℕ) → Arguments → (close_place : ℕ) → State
  -- an operand
  want : Level → Outer → State
  -- the `(` of a call
  called : (callee : List ℕ) → (place : ℕ) → Level → Outer → State
  -- an argument of a call or its `)`
  passing : (callee : List ℕ) → (place : ℕ) → (open_place : ℕ) → BeforeListed → Level → Outer → State
  -- what comes after an operand
  have : Factor → Level → Outer → State

abbrev pub product_with : BeforeProduct → Factor → Product
product_with no_product f = factor f
product_with (product_before m k) f = times m k f

abbrev pub sum_with : BeforeSum → Product → Sum
sum_with no_sum m = product m
sum_with (sum_before a o k) m = added a o k m

abbrev pub listed_with : BeforeListed → Sum → Listed
listed_with no_listed e = single e
listed_with (listed_before l k) e = comma l k e

-- the arguments of a call that ends after a comma or with none
abbrev pub passed_with : BeforeListed → Passed
passed_with no_listed = unlisted
passed_with (listed_before l k) = passed_more l k

-- the sum that an operand ends
abbrev pub sum_of : Level → Factor → Sum
sum_of (level a m) f = sum_with a (product_with m f)

abbrev pub at_times : Level → Factor → ℕ → Level
at_times (level a m) f k = level a (product_before (product_with m f) k)

abbrev pub at_added : Level → Factor → Additive → ℕ → Level
at_added (level a m) f o k = level (sum_before (sum_with a (product_with m f)) o k) no_product

-- the statements before the one that is open
abbrev pub script_of : Outer → Script
script_of (in_let s l w n q) = s
script_of (in_print s p o a) = s
script_of (in_parens o l outer) = script_of outer
script_of (in_call w k o a l outer) = script_of outer

-- how many parentheses are open
abbrev pub open_in : Outer → ℕ
open_in (in_let s l w n q) = 0
open_in (in_print s p o a) = 1
open_in (in_parens o l outer) = open_in outer + 1
open_in (in_call w k o a l outer) = open_in outer + 1

-- whether a name is among these
abbrev pub is_known : List (List ℕ) → List ℕ → Bool
is_known [] w = false
is_known (v ∷ known) w = cond (bytes_eq v w) true (is_known known w)

abbrev pub named : Level → Outer → ℕ → List ℕ → Option State
named l outer k w = cond (is_known (bound_by (script_of outer)) w) (Some (called w k l outer)) (cond (is_known (declared_by (script_of outer)) w) (Some (have (name w k) l outer)) None)

abbrev pub opened : Level → Outer → ℕ → Option State
opened l outer k = cond (nat_lt (open_in outer) most_open) (Some (want fresh (in_parens k l outer))) None

abbrev pub wanted : Level → Outer → ℕ → TokenKind → Option State
wanted l outer k (kinds.Number n) = Some (have (number n k) l outer)
wanted l outer k (kinds.Text s) = Some (have (text s k) l outer)
wanted l outer k (kinds.Name w) = named l outer k w
wanted l outer k (kinds.Mark marks.Open) = opened l outer k
wanted l outer k _ = None

abbrev pub call_opened : List ℕ → ℕ → Level → Outer → ℕ → TokenKind → Option State
call_opened w k l outer o (kinds.Mark marks.Open) = cond (nat_lt (open_in outer) most_open) (Some (passing w k o no_listed l outer)) None
call_opened w k l outer o _ = None

abbrev pub pass : List ℕ → ℕ → ℕ → BeforeListed → Level → Outer → ℕ → TokenKind → Option State
pass w k o a l outer c (kinds.Mark marks.Close) = Some (have (call w k o (passed_with a) c) l outer)
pass w k o a l outer c t = wanted fresh (in_call w k o a l outer) c t

abbrev pub closed : Factor → Level → Outer → ℕ → Option State
closed f l (in_parens o m outer) k = Some (have (parens o (sum_of l f) k) m outer)
closed f l (in_call w p o a m outer) k = Some (have (call w p o (passed (listed_with a (sum_of l f))) k) m outer)
closed f l (in_print s p o a) k = Some (printed s p o (listed (listed_with a (sum_of l f))) k)
closed f l (in_let s t w n q) k = None

abbrev pub parted : Factor → Level → Outer → ℕ → Option State
parted f l (in_print s p o a) k = Some (want fresh (in_print s p o (listed_before (listed_with a (sum_of l f)) k)))
parted f l (in_call w p o a m outer) k = Some (passing w p o (listed_before (listed_with a (sum_of l f)) k) m outer)
parted f l _ k = None

abbrev pub ended : Factor → Level → Outer → ℕ → Option State
ended f l (in_let s t w n q) k = Some (items (declaration s t w n q (sum_of l f) k))
ended f l _ k = None

abbrev pub marked : Factor → Level → Outer → ℕ → Mark → Option State
marked f l outer k marks.Star = Some (want (at_times l f k) outer)
marked f l outer k marks.Plus = Some (want (at_added l f plus k) outer)
marked f l outer k marks.Minus = Some (want (at_added l f minus k) outer)
marked f l outer k marks.Close = closed f l outer k
marked f l outer k marks.Comma = parted f l outer k
marked f l outer k marks.Semicolon = ended f l outer k
marked f l outer k _ = None

abbrev pub had : Factor → Level → Outer → ℕ → TokenKind → Option State
had f l outer k (kinds.Mark m) = marked f l outer k m
had f l outer k _ = None

abbrev pub next_item : Script → ℕ → TokenKind → Option State
next_item s k (kinds.Word words.Let) = Some (let_begun s k)
next_item s k (kinds.Name w) = cond (bytes_eq w print_name) (Some (print_begun s k)) None
next_item s k _ = None

abbrev pub let_name : Script → ℕ → ℕ → TokenKind → Option State
let_name s l k (kinds.Name w) = cond (bytes_eq w print_name) None (cond (is_known (declared_by s) w) None (Some (let_named s l w k)))
let_name s l k _ = None

abbrev pub let_value : Script → ℕ → List ℕ → ℕ → ℕ → TokenKind → Option State
let_value s l w n k (kinds.Mark marks.Equals) = Some (let_equals s l w n k)
let_value s l w n k _ = None

abbrev pub valued : Script → ℕ → List ℕ → ℕ → ℕ → ℕ → TokenKind → Option State
valued s l w n q k (kinds.Word words.New) = Some (before_file s l w n q (at (kinds.Word words.New) k ∷ []) pieces_before_file)
valued s l w n q k t = wanted fresh (in_let s l w n q) k t

abbrev pub file_named : Script → ℕ → List ℕ → ℕ → ℕ → List Sign → List Piece → ℕ → TokenKind → Option State
file_named s l w n q read (p ∷ left) k t = cond (fits p t) (Some (before_file s l w n q (read ++ at t k ∷ []) left)) None
file_named s l w n q read [] k (kinds.Text file) = Some (after_file s l w n q file (read ++ at (kinds.Text file) k ∷ []) pieces_after_file)
file_named s l w n q read [] k _ = None

abbrev pub export_named : Script → ℕ → List ℕ → ℕ → ℕ → List ℕ → List Sign → List Piece → ℕ → TokenKind → Option State
export_named s l w n q file read (p ∷ left) k t = cond (fits p t) (Some (after_file s l w n q file (read ++ at t k ∷ []) left)) None
export_named s l w n q file read [] k (kinds.Name e) = cond (bytes_eq e print_name) None (Some (instanced s l w n q (record { file = file; export = e; tokens = read ++ at (kinds.Name e) k ∷ [] })))
export_named s l w n q file read [] k _ = None

abbrev pub bind_ended : Script → ℕ → List ℕ → ℕ → ℕ → Instance → ℕ → TokenKind → Option State
bind_ended s l w n q i k (kinds.Mark marks.Semicolon) = Some (items (binding s l w n q i k))
bind_ended s l w n q i k _ = None

abbrev pub print_opened : Script → ℕ → ℕ → TokenKind → Option State
print_opened s p k (kinds.Mark marks.Open) = Some (argument s p k)
print_opened s p k _ = None

abbrev pub argued : Script → ℕ → ℕ → ℕ → TokenKind → Option State
argued s p o k (kinds.Mark marks.Close) = Some (printed s p o none k)
argued s p o k t = wanted fresh (in_print s p o no_listed) k t

abbrev pub print_ended : Script → ℕ → ℕ → Arguments → ℕ → ℕ → TokenKind → Option State
print_ended s p o a c k (kinds.Mark marks.Semicolon) = Some (items (printing s p o a c k))
print_ended s p o a c k _ = None

abbrev pub step_by : State → ℕ → TokenKind → Option State
step_by (items s) k t = next_item s k t
step_by (let_begun s l) k t = let_name s l k t
step_by (let_named s l w n) k t = let_value s l w n k t
step_by (let_equals s l w n q) k t = valued s l w n q k t
step_by (before_file s l w n q read left) k t = file_named s l w n q read left k t
step_by (after_file s l w n q file read left) k t = export_named s l w n q file read left k t
step_by (instanced s l w n q i) k t = bind_ended s l w n q i k t
step_by (print_begun s p) k t = print_opened s p k t
step_by (argument s p o) k t = argued s p o k t
step_by (printed s p o a c) k t = print_ended s p o a c k t
step_by (want l outer) k t = wanted l outer k t
step_by (called w p l outer) k t = call_opened w p l outer k t
step_by (passing w p o a l outer) k t = pass w p o a l outer k t
step_by (have f l outer) k t = had f l outer k t

abbrev pub step : State → Sign → Option State
step s t = step_by s t.place t.kind

abbrev pub run : State → List Sign → Option State
run s [] = Some s
run s (t ∷ ts) = elim (step s t) [ None ↦ None | Some r ↦ run r ts ]

abbrev pub start : State
start = items nothing

-- the tokens read so far, and what comes after them
abbrev pub before_sum_then : BeforeSum → List Sign → List Sign
before_sum_then no_sum y = y
before_sum_then (sum_before a o k) y = sum_then a (at (additive_mark o) k ∷ y)

abbrev pub before_product_then : BeforeProduct → List Sign → List Sign
before_product_then no_product y = y
before_product_then (product_before m k) y = product_then m (at (kinds.Mark marks.Star) k ∷ y)

abbrev pub before_listed_then : BeforeListed → List Sign → List Sign
before_listed_then no_listed y = y
before_listed_then (listed_before l k) y = listed_then l (at (kinds.Mark marks.Comma) k ∷ y)

abbrev pub level_then : Level → List Sign → List Sign
level_then (level a m) y = before_sum_then a (before_product_then m y)

abbrev pub let_then : Script → ℕ → List ℕ → ℕ → List Sign → List Sign
let_then s l w n y = script_then s (at (kinds.Word words.Let) l ∷ at (kinds.Name w) n ∷ y)

abbrev pub equals_then : Script → ℕ → List ℕ → ℕ → ℕ → List Sign → List Sign
equals_then s l w n q y = let_then s l w n (at (kinds.Mark marks.Equals) q ∷ y)

abbrev pub print_then : Script → ℕ → ℕ → List Sign → List Sign
print_then s p o y = script_then s (at (kinds.Name print_name) p ∷ at (kinds.Mark marks.Open) o ∷ y)

abbrev pub outer_then : Outer → List Sign → List Sign
outer_then (in_let s l w n q) y = equals_then s l w n q y
outer_then (in_print s p o a) y = print_then s p o (before_listed_then a y)
outer_then (in_parens o l outer) y = outer_then outer (level_then l (at (kinds.Mark marks.Open) o ∷ y))
outer_then (in_call w k o a l outer) y = outer_then outer (level_then l (at (kinds.Name w) k ∷ at (kinds.Mark marks.Open) o ∷ before_listed_then a y))

abbrev pub state_then : State → List Sign → List Sign
state_then (items s) y = script_then s y
state_then (let_begun s l) y = script_then s (at (kinds.Word words.Let) l ∷ y)
state_then (let_named s l w n) y = let_then s l w n y
state_then (let_equals s l w n q) y = equals_then s l w n q y
state_then (before_file s l w n q read left) y = equals_then s l w n q (read ++ y)
state_then (after_file s l w n q file read left) y = equals_then s l w n q (read ++ y)
state_then (instanced s l w n q i) y = equals_then s l w n q (i.tokens ++ y)
state_then (print_begun s p) y = script_then s (at (kinds.Name print_name) p ∷ y)
state_then (argument s p o) y = print_then s p o y
state_then (printed s p o a c) y = print_then s p o (arguments_then a (at (kinds.Mark marks.Close) c ∷ y))
state_then (want l outer) y = outer_then outer (level_then l y)
state_then (called w k l outer) y = outer_then outer (level_then l (at (kinds.Name w) k ∷ y))
state_then (passing w k o a l outer) y = outer_then (in_call w k o a l outer) y
state_then (have f l outer) y = outer_then outer (level_then l (factor_then f y))
