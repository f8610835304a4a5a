-- Private: where the pass over a body stands, and what is left of the body from there on.
use Rattle.std.specs.Prelude.{◌≡◌, ℕ, zero, suc, ◌+◌, ◌-◌, ◌<◌, ◌≤◌, max, Bool, true, false, ◌&&◌, List, [], ◌∷◌, Option, Some, None, reverse, length, map, take, drop}
use Rattle.wasm_syntax.specs.Blocks.{block_of}
use Rattle.wasm_syntax.specs.declared.types.ValType.{ValType}
use Rattle.wasm_syntax.specs.declared.types.FuncType.{FuncType}
use Rattle.wasm_syntax.specs.declared.instructions.BlockId.{BlockId}
use Rattle.wasm_syntax.specs.declared.instructions.Instr.{Instr}
use Rattle.wasm_syntax.specs.declared.module.Module.{Module}
use Rattle.wasm_syntax.specs.declared.sorts.Nesting.{Nesting}
use Rattle.wasm_valid.specs.declared.opens.Open.{Open}
use Rattle.wasm_valid.specs.declared.opens.Outer.{Outer}
use Rattle.wasm_valid.specs.declared.opens.Opens.{Opens}
use Rattle.wasm_valid.specs.declared.types.Types.{Types}
use Rattle.wasm_valid.specs.declared.types.Types.TheVariants as y
use Rattle.wasm_valid.specs.declared.pass.Step.{Step}
use Rattle.wasm_valid.specs.declared.pass.Step.TheVariants.{Went, Untyped, Ended}
use Rattle.wasm_syntax.specs.Sorts.{nesting_of}
use Rattle.wasm_valid.specs.Piles.{Pile}
use Rattle.wasm_valid.specs.Operands.{Operands, exactly, put, ends_with}
use Rattle.wasm_valid.specs.Signatures.{types_in}
use Rattle.wasm_valid.specs.Typing.{Context, after_all, is_block, most_nested, other_is, height_all, block_height, other_height}

-- the types of the labels, the innermost first
abbrev pub labels_in : Module → Open → List Outer → List (List ValType)
labels_in m o os = types_in m o.label ∷ map (λ (outer : Outer). types_in m outer.open.label) os

-- what all places of a body see: the locals and the results
pub record Frame : Type 0 where
  pub locals : List ValType
  pub results : List ValType

abbrev pub context_in : Module → Frame → Open → List Outer → Context
context_in m F o os = record { locals = F.locals; labels = labels_in m o os; results = F.results }

-- the labels and what is seen at a place of the pass, where these are the types of the body's results
abbrev pub labels_at : Module → Opens → List (List ValType)
labels_at m opens = labels_in m opens.top (reverse opens.outer.items)

abbrev pub frame_at : Module → List ValType → Types → Frame
frame_at m locals results = record { locals = locals; results = types_in m results }

abbrev pub context_at : Module → List ValType → Types → Opens → Context
context_at m locals results opens = context_in m (frame_at m locals results) opens.top (reverse opens.outer.items)

abbrev pub type_in : Module → Open → FuncType
type_in m o = record { params = types_in m o.params; results = types_in m o.results }

-- how many blocks may be nested within one that has these round it
abbrev pub depth_in : List Outer → ℕ
depth_in os = most_nested - length os

abbrev pub rest_of : Module → Open → List Instr
rest_of m o = drop o.at (block_of m o.block)

-- whether the rest of an open block is typed, and the second one of its `if`
abbrev pub rest_typed : Module → Frame → Open → List Outer → Operands → Bool
rest_typed m F o os s =
    ends_with (types_in m o.results) (after_all (is_block m (depth_in os)) m (context_in m F o os) (rest_of m o) s)
    && other_is (λ id. is_block m (suc (depth_in os)) (context_in m F o os) id (type_in m o)) o.second

-- the operands of a block round another one
abbrev pub own_of : Outer → List (Option ValType) → Operands
own_of o under = record { types = take (length under - o.saved.base) under; any = o.saved.any }

abbrev pub under_of : Outer → List (Option ValType) → List (Option ValType)
under_of o under = drop (length under - o.saved.base) under

-- whether the rest of each of these blocks is typed, where the block within them gives these results
abbrev pub outer_typed : Module → Frame → List ValType → List Outer → List (Option ValType) → Bool
outer_typed m F rs [] under = true
outer_typed m F rs (o ∷ os) under =
    rest_typed m F o.open os (put (map Some (reverse rs)) (own_of o under)) && outer_typed m F (types_in m o.open.results) os (under_of o under)

-- where the pass stands: the innermost block with its operands, and those round it, the innermost first, with theirs
pub record Place : Type 0 where
  pub top : Open
  pub own : Operands
  pub outer : List Outer
  pub under : List (Option ValType)

-- whether what is left is typed
unfoldable pub left_typed : Module → Frame → Place → Bool
left_typed m F p = rest_typed m F p.top p.outer p.own && outer_typed m F (types_in m p.top.results) p.outer p.under

-- the greatest number of operands in the rest of a block that stands on n of them
abbrev pub rest_height : Module → Frame → Open → List Outer → ℕ → Operands → ℕ
rest_height m F o os n s =
    n + max (max (height_all (block_height m (depth_in os)) (is_block m (depth_in os)) m (context_in m F o os) (rest_of m o) s) (length (types_in m o.results)))
    (other_height (λ id. block_height m (suc (depth_in os)) (context_in m F o os) id (type_in m o)) o.second)

abbrev pub outer_height : Module → Frame → List ValType → List Outer → List (Option ValType) → ℕ
outer_height m F rs [] under = 0
outer_height m F rs (o ∷ os) under =
    max (rest_height m F o.open os o.saved.base (put (map Some (reverse rs)) (own_of o under))) (outer_height m F (types_in m o.open.results) os (under_of o under))

-- the greatest number of operands at any place that is left
unfoldable pub left_height : Module → Frame → Place → ℕ
left_height m F p = max (rest_height m F p.top p.outer (length p.under) p.own) (outer_height m F (types_in m p.top.results) p.outer p.under)

-- How many steps are left, so that the pass ends.

abbrev pub other_work : (BlockId → ℕ) → Option BlockId → ℕ
other_work w None = 0
other_work w (Some id) = w id

abbrev pub nested_work : (BlockId → ℕ) → Option Nesting → ℕ
nested_work w None = 0
nested_work w (Some n) = w n.body + other_work w n.other

abbrev pub code_work : (BlockId → ℕ) → List Instr → ℕ
code_work w [] = 1
code_work w (i ∷ is) = 1 + (nested_work w (nesting_of i) + code_work w is)

abbrev pub block_work : Module → ℕ → BlockId → ℕ
block_work m zero id = 0
block_work m (suc d) id = code_work (block_work m d) (block_of m id)

abbrev pub rest_work : Module → Open → List Outer → ℕ
rest_work m o os = code_work (block_work m (depth_in os)) (rest_of m o) + other_work (block_work m (suc (depth_in os))) o.second

abbrev pub outer_work : Module → List Outer → ℕ
outer_work m [] = 0
outer_work m (o ∷ os) = rest_work m o.open os + outer_work m os

unfoldable pub left_work : Module → Place → ℕ
left_work m p = rest_work m p.top p.outer + outer_work m p.outer

-- each block's operands begin where those of the next one round it end, and nothing stands below those of the body
abbrev pub IsStacked : List Outer → ℕ → Type 0
IsStacked [] n = n ≡ 0
IsStacked (o ∷ os) n = (o.saved.base ≤ n) × IsStacked os o.saved.base

-- a place that can be reached
pub record IsPlace (p : Place) : Type 0 where
  pub stacked : IsStacked p.outer (length p.under)
  pub nested : length p.outer ≤ most_nested

-- from one place, with the greatest number of operands so far, to a later one
pub record Steps (m : Module) (F : Frame) (p : Place) (n : ℕ) (q : Place) (k : ℕ) : Type 0 where
  pub typed : left_typed m F p ≡ left_typed m F q
  pub height : left_typed m F q ≡ true → max n (left_height m F p) ≡ max k (left_height m F q)
  pub work : left_work m q < left_work m p
  pub place : IsPlace q

-- an open block one instruction on
abbrev pub next_open : Open → Open
next_open o = record o { at = o.at + 1 }

abbrev pub label_by : Bool → Types → Types → Types
label_by true ps rs = ps
label_by false ps rs = rs

-- the block that an instruction opens
abbrev pub opened_by : Nesting → Types → Types → Open
opened_by n params results = record { block = n.body; at = 0; label = label_by n.again params results; params = params; results = results; second = n.other }

-- what the code keeps of a place
abbrev pub place_of : Pile → Opens → Place
place_of pile opens = record { top = opens.top; own = pile.own; outer = reverse opens.outer.items; under = pile.under }

-- a transition to another place, or the answer that what is left isn't typed
abbrev pub Goes : Module → Frame → Place → ℕ → Bool → Place → Type 0
Goes m F p n true q = Steps m F p n q n
Goes m F p n false q = left_typed m F p ≡ false

-- a transition to another place, one that isn't typed, or the end
abbrev pub Moves : Module → Frame → Place → ℕ → Step → Place → ℕ → Type 0
Moves m F p n Went q k = Steps m F p n q k
Moves m F p n Untyped q k = left_typed m F p ≡ false
Moves m F p n Ended q k = (left_typed m F p ≡ true) × (k ≡ max n (left_height m F p))

-- a body that isn't typed, or one with its height
abbrev pub BodyIs : Bool → ℕ → Option ℕ → Type 0
BodyIs typed height None = typed ≡ false
BodyIs typed height (Some h) = (typed ≡ true) × (h ≡ height)

-- the next instruction of an open block is one that holds blocks
abbrev pub NestsAt : Module → Open → Nesting → Type 0
NestsAt m o n = (i : Instr) × (rest_of m o ≡ i ∷ rest_of m (next_open o)) × (nesting_of i ≡ Some n)

-- the block round one that has ended, which goes on with its results
pub record ClosesTo (m : Module) (p q : Place) : Type 0 where
  pub round : Outer
  pub outer : p.outer ≡ round ∷ q.outer
  pub top : q.top ≡ round.open
  pub own : q.own ≡ put (map Some (reverse (types_in m p.top.results))) (own_of round p.under)
  pub under : q.under ≡ under_of round p.under

-- it goes on, or the body has ended with its own results
abbrev pub Closes : Module → Place → ℕ → Step → Place → ℕ → Type 0
Closes m p n Went q k = ClosesTo m p q × (k ≡ n)
Closes m p n Untyped q k = ⊥
Closes m p n Ended q k = (p.outer ≡ []) × (k ≡ max n (length (types_in m p.top.results) + length p.under))

abbrev pub step_of : Bool → Step
step_of true = Went
step_of false = Untyped

-- where the pass over a body begins, and what its places see
abbrev pub start_of : BlockId → ℕ → Place
start_of body ty = record {
  top = record { block = body; at = 0; label = y.Results ty; params = y.Empty; results = y.Results ty; second = None };
  own = exactly [];
  outer = [];
  under = [];
}

abbrev pub frame_of : Module → List ValType → ℕ → Frame
frame_of m locals ty = frame_at m locals (y.Results ty)

-- whether a body is typed that has these locals and the results of the type with this index, and its height
abbrev pub results_context : List ValType → List ValType → Context
results_context locals results = record { locals = locals; labels = results ∷ []; results = results }

abbrev pub from_nothing : List ValType → FuncType
from_nothing results = record { params = []; results = results }

abbrev pub body_typed : Module → List ValType → ℕ → BlockId → Bool
body_typed m locals ty body =
    let results = types_in m (y.Results ty) in
    is_block m (suc most_nested) (results_context locals results) body (from_nothing results)

abbrev pub body_tall : Module → List ValType → ℕ → BlockId → ℕ
body_tall m locals ty body =
    let results = types_in m (y.Results ty) in
    block_height m (suc most_nested) (results_context locals results) body (from_nothing results)

-- a place that the pass over a body comes to, with the greatest number of operands so far
pub record Reached (m : Module) (F : Frame) (p : Place) (q : Place) (n : ℕ) : Type 0 where
  pub place : IsPlace q
  pub typed : left_typed m F p ≡ left_typed m F q
  pub height : left_typed m F q ≡ true → max 0 (left_height m F p) ≡ max n (left_height m F q)
