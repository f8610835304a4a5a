-- The reduction of core terms (WebAssembly Core 2.0, section 4.4). It rewrites the one form at work, which is found from the outermost
-- level inward. An instruction that a rule puts in another one's place and that no body holds, such as the br of a br_if, is rewritten
-- at once.
use Rattle.std.specs.Prelude.{ℕ, zero, suc, Bool, true, false, ◌&&◌, ◌==◌, nat_le, if◌then◌else◌, List, [], ◌∷◌, ◌++◌, Option, Some, None, length, take, drop, reverse, replicate, flat_map, slice_get, slice_index_or}
use Rattle.wasm_syntax.specs.Blocks.{block_of}
use Rattle.wasm_syntax.specs.Sorts.{sort_of, labels_of}
use Rattle.wasm_syntax.specs.ValueTypes.{same_type, block_type}
use Rattle.wasm_syntax.specs.declared.types.ValType.{ValType}
use Rattle.wasm_syntax.specs.declared.types.ValType.TheVariants as v
use Rattle.wasm_syntax.specs.declared.types.FuncType.{FuncType}
use Rattle.wasm_syntax.specs.declared.instructions.BlockId.{BlockId}
use Rattle.wasm_syntax.specs.declared.instructions.Instr.{Instr}
use Rattle.wasm_syntax.specs.declared.sorts.Nesting.{Nesting}
use Rattle.wasm_syntax.specs.declared.sorts.Sort.{Sort}
use Rattle.wasm_syntax.specs.declared.sorts.Sort.TheVariants as sort
use Rattle.wasm_syntax.specs.declared.module.Func.{Func}
use Rattle.wasm_syntax.specs.declared.module.Module.{Module}
use Rattle.wasm_syntax.specs.declared.value.Value.{Value}
use Rattle.wasm_syntax.specs.declared.value.Value.TheVariants as w
use Rattle.wasm_syntax.specs.declared.trap.Trap.{Trap}
use Rattle.wasm_syntax.specs.declared.trap.Trap.TheVariants as because
use Rattle.wasm_syntax.specs.declared.addresses.FuncAddr.{FuncAddr}
use Rattle.wasm_syntax.specs.declared.addresses.TableAddr.{TableAddr}
use Rattle.wasm_valid.specs.Spaces.{when, then_}
use Rattle.wasm_valid.specs.Typing.{label_of}
use Rattle.wasm_store.specs.declared.instances.FuncInst.{FuncInst}
use Rattle.wasm_store.specs.declared.instances.FuncInst.TheVariants as f
use Rattle.wasm_store.specs.Store.{Store, type_of, module_at, instance_at, function_at, table_at}
use Rattle.wasm_machine.specs.Terms.{FrameState, Kind, label, frame, Level, Term, here, invoke, trap, throw, inside}
use Rattle.wasm_machine.specs.Performing as p
use Rattle.wasm_machine.specs.Performing.{Performed, perform, perform_drop, perform_select, perform_is_null}

-- ---- what a plain instruction does

pub data Act : Type 0 where
  -- it leaves this store, these locals and values, and a form at work in its place
  goes : (store : Store) → (locals values : List Value) → (form : Term) → Act
  -- a branch to a label, counted from the innermost one, with these values
  branches : (label : ℕ) → (values : List Value) → Act
  returns : (values : List Value) → Act
  -- no rule applies
  cannot : Act

abbrev pub module_of : Store → FrameState → Module
module_of s F = module_at s (instance_at s F.instance).module

-- the topmost n values, where there are so many
abbrev pub topmost : ℕ → List Value → Option (List Value)
topmost n vs = when (nat_le n (length vs)) (Some (take n vs))

-- 4.4.1 to 4.4.7: an instruction that works on operands, locals and the store
abbrev pub of_performed : Store → FrameState → List Value → Performed → Act
of_performed s F vs (p.performs r locals ws) = goes r locals ws here
of_performed s F vs (p.traps cause) = goes s F.locals vs (trap cause)
of_performed s F vs p.lacks = cannot

-- 4.4.8: a list of instructions is begun in a label that takes the topmost n values
abbrev pub opened : Store → FrameState → List Value → Kind → List Instr → Option (List Value) → Act
opened s F below kind code None = cannot
opened s F below kind code (Some ws) = goes s F.locals below (inside (record { kind = kind; values = ws; rest = code }) here)

-- a branch to the label of a loop begins the loop again
abbrev pub next_of : Bool → Instr → List Instr
next_of true i = i ∷ []
next_of false i = []

abbrev pub begun : Store → FrameState → Instr → Bool → BlockId → List Value → Option FuncType → Act
begun s F i again id vs None = cannot
begun s F i again id vs (Some g) =
    opened s F (drop (length g.params) vs) (label (length (label_of again g)) (next_of again i)) (block_of (module_of s F) id) (topmost (length g.params) vs)

-- 4.4.8: block and loop; an if takes a test, begins its second block where it is 0, and else its first
abbrev pub nested : Store → FrameState → Instr → Nesting → Option BlockId → List Value → Act
nested s F i n None vs = begun s F i n.again n.body vs (block_type (module_of s F) n.ty)
nested s F i n (Some other) (w.I32 zero ∷ vs) = begun s F i n.again other vs (block_type (module_of s F) n.ty)
nested s F i n (Some other) (w.I32 (suc k) ∷ vs) = begun s F i n.again n.body vs (block_type (module_of s F) n.ty)
nested s F i n (Some other) _ = cannot

-- 4.4.8: br_if, and br_table with its labels and its default
abbrev pub branch_if : Store → FrameState → ℕ → List Value → Act
branch_if s F l (w.I32 zero ∷ vs) = goes s F.locals vs here
branch_if s F l (w.I32 (suc k) ∷ vs) = branches l vs
branch_if s F l _ = cannot

abbrev pub branch_table : List ℕ → ℕ → List Value → Act
branch_table ls l (w.I32 k ∷ vs) = branches (slice_index_or ls k l) vs
branch_table ls l _ = cannot

-- 4.4.8: a call of the function at an address takes its arguments
abbrev pub invoked : Store → FrameState → FuncAddr → List Value → Option (List Value) → Act
invoked s F a below None = cannot
invoked s F a below (Some ws) = goes s F.locals below (invoke a (reverse ws))

abbrev pub call : Store → FrameState → FuncAddr → List Value → Act
call s F a vs = invoked s F a (drop (length (type_of (function_at s a)).params) vs) (topmost (length (type_of (function_at s a)).params) vs)

abbrev pub call_index : Store → FrameState → Option FuncAddr → List Value → Act
call_index s F None vs = cannot
call_index s F (Some a) vs = call s F a vs

abbrev pub same_types : List ValType → List ValType → Bool
same_types [] [] = true
same_types [] (u ∷ us) = false
same_types (t ∷ ts) [] = false
same_types (t ∷ ts) (u ∷ us) = same_type t u && same_types ts us

abbrev pub same_func_type : FuncType → FuncType → Bool
same_func_type g h = same_types g.params h.params && same_types g.results h.results

abbrev pub traps_for : Store → FrameState → List Value → Trap → Act
traps_for s F vs cause = goes s F.locals vs (trap cause)

-- 4.4.8: an indirect call traps past the table's end, at a null entry, and where the function isn't of its type
abbrev pub call_typed : Store → FrameState → FuncType → FuncAddr → List Value → Act
call_typed s F g a vs = if same_func_type g (type_of (function_at s a)) then call s F a vs else traps_for s F vs because.WrongType

abbrev pub call_entry : Store → FrameState → FuncType → List Value → Option Value → Act
call_entry s F g vs None = traps_for s F vs because.TableRange
call_entry s F g vs (Some w.FuncNull) = traps_for s F vs because.NullEntry
call_entry s F g vs (Some (w.Func a)) = call_typed s F g a vs
call_entry s F g vs _ = cannot

abbrev pub call_through : Store → FrameState → Option FuncType → Option TableAddr → List Value → Act
call_through s F (Some g) (Some a) (w.I32 k ∷ vs) = call_entry s F g vs (slice_get (table_at s a).entries k)
call_through s F _ _ _ = cannot

-- an instruction of this sort
abbrev pub act_by : Store → FrameState → Instr → Sort → List Value → Act
act_by s F i (sort.Simple simple) vs = of_performed s F vs (perform s (instance_at s F.instance) F.locals vs simple)
act_by s F i sort.Drop vs = of_performed s F vs (perform_drop s F.locals vs)
act_by s F i sort.Select vs = of_performed s F vs (perform_select s F.locals vs)
act_by s F i sort.SelectTyped vs = of_performed s F vs (perform_select s F.locals vs)
act_by s F i sort.RefIsNull vs = of_performed s F vs (perform_is_null s F.locals vs)
act_by s F i sort.Unreachable vs = traps_for s F vs because.Unreachable
act_by s F i (sort.Nested n) vs = nested s F i n n.other vs
act_by s F i (sort.Br l) vs = branches l vs
act_by s F i (sort.BrIf l) vs = branch_if s F l vs
act_by s F i (sort.BrTable l) vs = branch_table (labels_of i) l vs
act_by s F i sort.Return vs = returns vs
act_by s F i (sort.Call x) vs = call_index s F (slice_get (instance_at s F.instance).funcs x) vs
act_by s F i (sort.CallIndirect x y) vs = call_through s F (slice_get (module_of s F).types x) (slice_get (instance_at s F.instance).tables y) vs

abbrev pub act : Store → FrameState → Instr → List Value → Act
act s F i vs = act_by s F i (sort_of i) vs

-- ---- what a term does in the list round it

pub data Does : Type 0 where
  -- it is no form: the list's next plain instruction is at work
  asks : Does
  -- one rewriting, which leaves this store and this state of the frame round it
  rewrites : (store : Store) → (state : FrameState) → Term → Does
  -- one rewriting into values and then instructions of the list round it
  gives : (values : List Value) → (code : List Instr) → Does
  -- it looks for its label, counted outward, or for its frame, with these values
  breaks : (label : ℕ) → (values : List Value) → Does
  leaves : (values : List Value) → Does
  -- a call, trap or throw is at work that no level round it ends
  calls : (func : FuncAddr) → (args : List Value) → Does
  traps : (cause : Trap) → Does
  throws : (thrown : ℕ) → Does
  -- no rule applies
  stuck : Does

-- the state of the frame under a label or a frame
abbrev pub under : Kind → FrameState → FrameState
under (label n next) F = F
under (frame n G) F = G

-- a rewriting inside a label or a frame: a frame keeps its new state, and the outer one is as it was
abbrev pub renewed : Kind → FrameState → Store → FrameState → List Value → Term → List Instr → Does
renewed (label n next) F s G vs t is = rewrites s G (inside (record { kind = label n next; values = vs; rest = is }) t)
renewed (frame n old) F s G vs t is = rewrites s F (inside (record { kind = frame n G; values = vs; rest = is }) t)

abbrev pub gives_some : Option (List Value) → List Instr → Does
gives_some None code = stuck
gives_some (Some vs) code = gives vs code

-- 4.4.8: a branch takes as many values as its label's arity and goes on with the label's continuation
abbrev pub breaks_from : Kind → ℕ → List Value → Does
breaks_from (label n next) zero vs = gives_some (topmost n vs) next
breaks_from (label n next) (suc l) vs = breaks l vs
breaks_from (frame n G) l vs = stuck

-- 4.4.8: return takes as many values as its frame's arity
abbrev pub leaves_from : Kind → List Value → Does
leaves_from (label n next) vs = leaves vs
leaves_from (frame n G) vs = gives_some (topmost n vs) []

-- a trap or a throw ends one frame with its labels
abbrev pub ends_from : Kind → Store → FrameState → Term → Does → Does
ends_from (label n next) s F t d = d
ends_from (frame n G) s F t d = rewrites s F t

abbrev pub acted : Kind → FrameState → List Instr → Act → Does
acted k F is (goes s locals vs t) = renewed k F s (record (under k F) { locals = locals }) vs t is
acted k F is (branches l vs) = breaks_from k l vs
acted k F is (returns vs) = leaves_from k vs
acted k F is cannot = stuck

-- 4.4.9, 4.4.10: a list that has ended gives its values; at the end of a frame they are as many as its arity
abbrev pub ended : Kind → List Value → Does
ended (label n next) vs = gives vs []
ended (frame n G) vs = if length vs == n then gives vs [] else stuck

abbrev pub next_in : Store → Kind → FrameState → List Value → List Instr → Does
next_in s k F vs [] = ended k vs
next_in s k F vs (i ∷ is) = acted k F is (act s (under k F) i vs)

-- a label or a frame round a form that does this
abbrev pub in_level : Store → FrameState → Level → Does → Does
in_level s F l asks = next_in s l.kind F l.values l.rest
in_level s F l (rewrites r G t) = renewed l.kind F r G l.values t l.rest
in_level s F l (gives vs is) = renewed l.kind F s (under l.kind F) (vs ++ l.values) here (is ++ l.rest)
in_level s F l (breaks k vs) = breaks_from l.kind k vs
in_level s F l (leaves vs) = leaves_from l.kind vs
in_level s F l (calls a args) = calls a args
in_level s F l (traps cause) = ends_from l.kind s F (trap cause) (traps cause)
in_level s F l (throws v) = ends_from l.kind s F (throw v) (throws v)
in_level s F l stuck = stuck

-- the one rewriting of a term in this store, under this state of the frame round it
abbrev pub reduce : Store → FrameState → Term → Does
reduce s F here = asks
reduce s F (invoke a args) = calls a args
reduce s F (trap cause) = traps cause
reduce s F (throw v) = throws v
reduce s F (inside l t) = in_level s F l (reduce s (under l.kind F) t)

-- ---- 4.4.10: what the invoke of a function of a module becomes

-- 4.2.1: the value with which a local of this type begins
abbrev pub default_of : ValType → Value
default_of v.I32 = w.I32 0
default_of v.I64 = w.I64 0
default_of v.FuncRef = w.FuncNull
default_of v.ExternRef = w.ExternNull

abbrev pub default_locals : List (ℕ × ValType) → List Value
default_locals runs = flat_map (λ (run : ℕ × ValType). replicate run.0 (default_of run.1)) runs

-- a frame whose list of instructions is begun in a label, both of this arity
abbrev pub frame_with : ℕ → FrameState → List Instr → Term
frame_with n F code =
    inside (record { kind = frame n F; values = []; rest = [] }) (inside (record { kind = label n []; values = []; rest = code }) here)

abbrev pub frame_of : Store → FuncInst → List Value → Option Term
frame_of s (f.Wasm g a x) args =
    then_ (slice_get (module_at s (instance_at s a).module).funcs x) (λ (own : Func).
    Some (frame_with (length g.results) (record { locals = args ++ default_locals own.locals; «instance» = a }) (block_of (module_at s (instance_at s a).module) own.body)))
frame_of s (f.Host g callee) args = None
frame_of s (f.Suspending g callee) args = None

-- none for a function of the host
abbrev pub frame_for : Store → FuncAddr → List Value → Option Term
frame_for s a args = frame_of s (function_at s a) args
