-- What expressions give (ECMA-262, sections 13.2, 13.3, 13.7 and 13.8, in the profile): operands and arguments are evaluated
-- from left to right, each with the store and the budget that the one before it left, and the first end is the run's.
use Rattle.std.specs.Prelude.{ℕ, List, [], ◌∷◌, ◌++◌, Option, Some, None, Result, Ok, Err, pos}
use Rattle.embed_base.specs.declared.outside.OutsideKind.TheVariants as kinds
use Rattle.small_parser.specs.declared.script.Operator.{Operator}
use Rattle.small_parser.specs.declared.script.Operator.TheVariants as operators
use Rattle.small_parser.specs.Grammar.{Sum, product, added, Product, factor, times, Factor, number, text, name, parens, call, Listed, single, comma, Passed, unlisted, passed, passed_more, Arguments, none, listed}
use Rattle.small_parser.specs.Shows.{operator_of}
use Rattle.embed_script.specs.declared.value.Value.{Value}
use Rattle.embed_script.specs.declared.value.Value.TheVariants as values
use Rattle.embed_script.specs.Ends.{End, outside, and_then, refused_at, at_place, keeping}
use Rattle.embed_script.specs.declared.state.State.{State}
use Rattle.wasm_syntax.specs.declared.addresses.FuncAddr.{FuncAddr}
use Rattle.embed_script.specs.Functions.{call_of}
use Rattle.embed_script.specs.Operators.{number_of, operate}

-- what a name is bound to
pub data Binding : Type 0 where
  value : Value → Binding
  function : FuncAddr → Binding

-- what each name is bound to that is bound
abbrev pub Bindings : Type 0
Bindings = List ℕ → Option Binding

-- a value with what is left of the store and the budget, or the run's end
abbrev pub Answer : Type 0
Answer = Result (Value × State) End

-- values with what is left, or the run's end
abbrev pub Answers : Type 0
Answers = Result (List Value × State) End

-- an operator at its place
abbrev pub operated : Operator → (place : ℕ) → Value → Value → (left : State) → Answer
operated o k v w left = keeping left (at_place k (operate o v w))

-- the value of a name, which each name that a script uses as an operand has
abbrev pub named : (place : ℕ) → Option Binding → Result Value End
named k (Some (value v)) = Ok v
named k (Some (function f)) = Err (outside (refused_at k kinds.NotYet))
named k None = Err (outside (refused_at k kinds.NotYet))

-- a call of a name, which is a function where a script calls it
abbrev pub called : (place : ℕ) → Option Binding → List Value → (left : State) → Answer
called k (Some (function f)) vs left = call_of f k vs left
called k (Some (value v)) vs left = Err (outside (refused_at k kinds.NotYet))
called k None vs left = Err (outside (refused_at k kinds.NotYet))

abbrev mutual
  pub sum_value : Bindings → Sum → (left : State) → Answer
  sum_value b (product m) left = product_value b m left
  sum_value b (added a o k m) left = and_then (sum_value b a left) (λ v. and_then (product_value b m v.1) (λ w. operated (operator_of o) k v.0 w.0 w.1))

  pub product_value : Bindings → Product → (left : State) → Answer
  product_value b (factor f) left = factor_value b f left
  product_value b (times m k f) left = and_then (product_value b m left) (λ v. and_then (factor_value b f v.1) (λ w. operated operators.Times k v.0 w.0 w.1))

  pub factor_value : Bindings → Factor → (left : State) → Answer
  factor_value b (number n k) left = keeping left (at_place k (number_of (pos n)))
  factor_value b (text s k) left = Ok (values.Text s, left)
  factor_value b (name w k) left = keeping left (named k (b w))
  factor_value b (parens o e c) left = sum_value b e left
  factor_value b (call w k o a c) left = and_then (passed_values b a left) (λ vs. called o (b w) vs.0 vs.1)

  pub listed_values : Bindings → Listed → (left : State) → Answers
  listed_values b (single e) left = and_then (sum_value b e left) (λ v. Ok (v.0 ∷ [], v.1))
  listed_values b (comma l k e) left = and_then (listed_values b l left) (λ vs. and_then (sum_value b e vs.1) (λ v. Ok (vs.0 ++ v.0 ∷ [], v.1)))

  pub passed_values : Bindings → Passed → (left : State) → Answers
  passed_values b unlisted left = Ok ([], left)
  passed_values b (passed l) left = listed_values b l left
  passed_values b (passed_more l k) left = listed_values b l left

-- the values of the arguments of `print`
abbrev pub arguments_values : Bindings → Arguments → (left : State) → Answers
arguments_values b none left = Ok ([], left)
arguments_values b (listed l) left = listed_values b l left
