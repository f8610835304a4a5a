-- What a frame is: its open labels with their operands and places, and the term for which it stands.
use Rattle.std.specs.Prelude.{◌≡◌, ℕ, zero, suc, ◌+◌, ◌-◌, ◌≤◌, List, [], ◌∷◌, ◌++◌, Option, Some, None, take, drop, reverse, length, slice_index_or}
use Rattle.wasm_syntax.specs.Blocks.{block_of}
use Rattle.wasm_syntax.specs.declared.instructions.BlockId.{BlockId}
use Rattle.wasm_syntax.specs.declared.instructions.BlockType.{BlockType}
use Rattle.wasm_syntax.specs.declared.instructions.Instr.{Instr}
use Rattle.wasm_syntax.specs.declared.instructions.Instr.TheVariants as i
use Rattle.wasm_syntax.specs.declared.module.Module.{Module}
use Rattle.wasm_syntax.specs.declared.value.Value.{Value}
use Rattle.wasm_syntax.specs.declared.addresses.InstAddr.{InstAddr}
use Rattle.wasm_syntax.specs.declared.addresses.ModuleAddr.{ModuleAddr}
use Rattle.wasm_store.specs.Store.{Store, module_at}
use Rattle.wasm_machine.specs.Terms.{FrameState, label, frame, Level, Term, here, inside}
use Rattle.wasm_machine.specs.declared.frame.Control.{Control}

-- an open label: its arity, the type of the loop that a branch to it begins again, its operands, the topmost first, and the block whose
-- instructions are left from a place on
pub record Open : Type 0 where
  pub arity : ℕ
  pub again : Option BlockType
  pub values : List Value
  pub block : BlockId
  pub at : ℕ

-- A frame: the instance whose code runs and that instance's module, how many values it gives, its locals, for how many operands there
-- is room, its innermost label, and the labels round that one, the innermost first.
pub record View : Type 0 where
  pub «instance» : InstAddr
  pub «module» : ModuleAddr
  pub results : ℕ
  pub locals : List Value
  pub room : ℕ
  pub top : Open
  pub outer : List Open

-- The term.

-- the label's next instructions
abbrev pub code_at : Module → Open → List Instr
code_at m o = drop o.at (block_of m o.block)

-- the continuation of a label: a loop is begun again
abbrev pub next_code : BlockId → Option BlockType → List Instr
next_code id None = []
next_code id (Some ty) = i.Loop ty id ∷ []

abbrev pub level_of : Module → Open → Level
level_of m o = record { kind = label o.arity (next_code o.block o.again); values = o.values; rest = code_at m o }

-- a form in the innermost of these labels
abbrev pub close : Module → List Open → Term → Term
close m [] t = t
close m (o ∷ os) t = close m os (inside (level_of m o) t)

abbrev pub state_of : View → FrameState
state_of v = record { locals = v.locals; «instance» = v.instance }

abbrev pub frame_level : View → Level
frame_level v = record { kind = frame v.results (state_of v); values = []; rest = [] }

-- the frame with a form in its innermost list
abbrev pub term_round : Module → View → Term → Term
term_round m v t = inside (frame_level v) (close m (v.top ∷ v.outer) t)

-- the module of a frame's instance
abbrev pub module_for : Store → View → Module
module_for s v = module_at s v.module

-- the term for which a frame stands in this store
abbrev pub term_of : Store → View → Term
term_of s v = term_round (module_for s v) v here

-- a frame at the beginning of a body, with these locals
abbrev pub begun_view : InstAddr → ModuleAddr → (results room : ℕ) → List Value → BlockId → View
begun_view a m results room locals body = record {
  «instance» = a;
  «module» = m;
  results = results;
  locals = locals;
  room = room;
  top = record { arity = results; again = None; values = []; block = body; at = 0 };
  outer = [];
}

-- Changes of a frame.

-- the operands of the innermost list
abbrev pub values_of : View → List Value
values_of v = v.top.values

abbrev pub with_values : List Value → View → View
with_values vs v = record v { top = record v.top { values = vs } }

abbrev pub with_locals : List Value → View → View
with_locals locals v = record v { locals = locals }

abbrev pub rest_of : Module → View → List Instr
rest_of m v = code_at m v.top

-- past the next instruction, and before the one that was the last
abbrev pub advanced : View → View
advanced v = record v { top = record v.top { at = v.top.at + 1 } }

abbrev pub set_back : View → View
set_back v = record v { top = record v.top { at = v.top.at - 1 } }

-- the instruction before the place of the innermost list
abbrev pub last_instr : Module → View → Instr
last_instr m v = slice_index_or (block_of m v.top.block) (v.top.at - 1) i.Nop

-- with a label opened on the topmost n operands
abbrev pub with_label : ℕ → ℕ → Option BlockType → BlockId → View → View
with_label n arity again block v =
    record v { top = record { arity = arity; again = again; values = take n v.top.values; block = block; at = 0 }; outer = record v.top { values = drop n v.top.values } ∷ v.outer }

abbrev pub left_to : View → List Open → View
left_to v [] = v
left_to v (o ∷ os) = record v { top = record o { values = v.top.values ++ o.values }; outer = os }

-- with the innermost label ended, whose operands go to the list round it
abbrev pub left : View → View
left v = left_to v v.outer

-- the label p goes on after a branch out of the label o, which stood in its list: a loop is begun again
abbrev pub resumed : Open → List Value → Open → Open
resumed o vs p = record p { values = take o.arity vs ++ p.values; at = p.at - length (next_code o.block o.again) }

abbrev pub with_labels : Open → List Open → View → View
with_labels o os v = record v { top = o; outer = os }

-- after a branch with these values out of the l-th label, counted from o outward; that label is not the outermost
abbrev pub branched : ℕ → List Value → Open → List Open → View → View
branched zero vs o [] v = with_labels o [] v
branched zero vs o (p ∷ os) v = with_labels (resumed o vs p) os v
branched (suc l) vs o [] v = with_labels o [] v
branched (suc l) vs o (p ∷ os) v = branched l vs p os v

-- the arity of the l-th label, counted from o outward
abbrev pub arity_in : ℕ → Open → List Open → ℕ
arity_in zero o os = o.arity
arity_in (suc l) o [] = 0
arity_in (suc l) o (p ∷ os) = arity_in l p os

-- how many operands these labels have
abbrev pub count_of : List Open → ℕ
count_of [] = 0
count_of (o ∷ os) = length o.values + count_of os

-- how many operands a frame has
abbrev pub operands_of : View → ℕ
operands_of v = length v.top.values + count_of v.outer

-- each loop stands right before the place of the list that it is in, and the outermost label is no loop
abbrev pub IsLinked : Module → Open → List Open → Type 0
IsLinked m o [] = o.again ≡ None
IsLinked m o (p ∷ os) = (drop (p.at - length (next_code o.block o.again)) (block_of m p.block) ≡ next_code o.block o.again ++ code_at m p) × IsLinked m p os

-- The fields: all locals and operands stand in one list of words, the locals first.

-- a control entry as an open label with these operands
abbrev pub open_of : Control → List Value → Open
open_of c vs = record { arity = c.arity; again = c.again; values = reverse vs; block = c.block; at = c.at }

-- the labels of control entries, the innermost first
abbrev pub opens : List Control → List Value → List Open
opens [] ws = []
opens (c ∷ cs) ws = open_of c (drop c.height ws) ∷ opens cs (take c.height ws)

-- each label's operands begin within the words that there are, and the outermost one's right after the n locals
abbrev pub Heights : ℕ → List Control → ℕ → Type 0
Heights n [] k = k ≡ n
Heights n (c ∷ cs) k = (c.height ≤ k) × Heights n cs c.height

-- a frame of n locals with these control entries, the outer ones the innermost first
abbrev pub view_of : InstAddr → ModuleAddr → ℕ → ℕ → ℕ → Control → List Control → List Value → View
view_of a m results n room c cs ws = record {
  «instance» = a;
  «module» = m;
  results = results;
  locals = take n ws;
  room = room;
  top = open_of c (drop c.height ws);
  outer = opens cs (take c.height ws);
}
