-- The typing of instructions and bodies (WebAssembly Core 2.0, sections 3.3 and 3.4.1), and the heights of bodies.
use Rattle.std.specs.Prelude.{ℕ, zero, suc, ◌+◌, max, Bool, true, false, ◌&&◌, ◌==◌, nat_le, nat_lt, List, [], ◌∷◌, ◌++◌, Option, Some, None, slice_get, reverse, length, replicate, flat_map, is_some}
use Rattle.wasm_syntax.specs.Blocks.{block_of}
use Rattle.wasm_syntax.specs.declared.types.ValType.{ValType}
use Rattle.wasm_syntax.specs.declared.types.ValType.TheVariants as v
use Rattle.wasm_syntax.specs.declared.types.FuncType.{FuncType}
use Rattle.wasm_syntax.specs.declared.types.TableType.{TableType}
use Rattle.wasm_syntax.specs.declared.types.GlobalType.{GlobalType}
use Rattle.wasm_syntax.specs.declared.instructions.BlockId.{BlockId}
use Rattle.wasm_syntax.specs.declared.instructions.Instr.{Instr}
use Rattle.wasm_syntax.specs.declared.module.Func.{Func}
use Rattle.wasm_syntax.specs.declared.module.Elem.{Elem}
use Rattle.wasm_syntax.specs.declared.module.Module.{Module}
use Rattle.wasm_syntax.specs.declared.sorts.Simple.{Simple}
use Rattle.wasm_syntax.specs.declared.sorts.Simple.TheVariants as simple
use Rattle.wasm_syntax.specs.declared.sorts.Sort.{Sort}
use Rattle.wasm_syntax.specs.declared.sorts.Sort.TheVariants as sort
use Rattle.wasm_syntax.specs.declared.sorts.Nesting.{Nesting}
use Rattle.wasm_syntax.specs.Sorts.{sort_of, nesting_of, labels_of, types_of}
use Rattle.wasm_syntax.specs.NumberTypes.{value_type, type_of_number, source_of, target_of, natural_alignment}
use Rattle.wasm_syntax.specs.ValueTypes.{same_type, is_reference, block_type}
use Rattle.wasm_valid.specs.Spaces.{when, then_, func_type, tables_of, globals_of, has_memory, is_declared}
use Rattle.wasm_valid.specs.Operands.{Operands, anything, exactly, take_any, take_one, take_all, put, exchange, leaves, select_of, ends_with}

-- what a place of a body sees beside its module: the locals, the labels with their types, the innermost first, and the results
pub record Context : Type 0 where
  pub locals : List ValType
  pub labels : List (List ValType)
  pub results : List ValType

-- the types of the operands that an instruction takes, and of those that it gives, in both the topmost first
pub record Signature : Type 0 where
  pub takes : List ValType
  pub gives : List ValType

abbrev pub goes : List ValType → List ValType → Option Signature
goes ts us = Some (record { takes = ts; gives = us })

-- 3.3.1 to 3.3.7: the type of a simple instruction under these locals. Alignment is at most that of the width
abbrev pub signature : Module → List ValType → Simple → Option Signature
signature m locals simple.Nop = goes [] []
signature m locals (simple.Const n) = goes [] (value_type (type_of_number n) ∷ [])
signature m locals (simple.Unary t op) = goes (value_type t ∷ []) (value_type t ∷ [])
signature m locals (simple.Binary t op) = goes (value_type t ∷ value_type t ∷ []) (value_type t ∷ [])
signature m locals (simple.Test t) = goes (value_type t ∷ []) (v.I32 ∷ [])
signature m locals (simple.Compare t op) = goes (value_type t ∷ value_type t ∷ []) (v.I32 ∷ [])
signature m locals (simple.Convert op) = goes (value_type (source_of op) ∷ []) (value_type (target_of op) ∷ [])
signature m locals (simple.Load t width extension at) = when (has_memory m && nat_le at.align (natural_alignment width)) (goes (v.I32 ∷ []) (value_type t ∷ []))
signature m locals (simple.Store t width at) = when (has_memory m && nat_le at.align (natural_alignment width)) (goes (value_type t ∷ v.I32 ∷ []) [])
signature m locals simple.MemorySize = when (has_memory m) (goes [] (v.I32 ∷ []))
signature m locals simple.MemoryGrow = when (has_memory m) (goes (v.I32 ∷ []) (v.I32 ∷ []))
signature m locals (simple.MemoryInit x) = when (has_memory m && nat_lt x (length m.datas)) (goes (v.I32 ∷ v.I32 ∷ v.I32 ∷ []) [])
signature m locals (simple.DataDrop x) = when (nat_lt x (length m.datas)) (goes [] [])
signature m locals simple.MemoryCopy = when (has_memory m) (goes (v.I32 ∷ v.I32 ∷ v.I32 ∷ []) [])
signature m locals simple.MemoryFill = when (has_memory m) (goes (v.I32 ∷ v.I32 ∷ v.I32 ∷ []) [])
signature m locals (simple.LocalGet x) = then_ (slice_get locals x) (λ t. goes [] (t ∷ []))
signature m locals (simple.LocalSet x) = then_ (slice_get locals x) (λ t. goes (t ∷ []) [])
signature m locals (simple.LocalTee x) = then_ (slice_get locals x) (λ t. goes (t ∷ []) (t ∷ []))
signature m locals (simple.GlobalGet x) = then_ (slice_get (globals_of m) x) (λ (g : GlobalType). goes [] (g.val ∷ []))
signature m locals (simple.GlobalSet x) = then_ (slice_get (globals_of m) x) (λ (g : GlobalType). when g.mutable (goes (g.val ∷ []) []))
signature m locals (simple.TableGet x) = then_ (slice_get (tables_of m) x) (λ (table : TableType). goes (v.I32 ∷ []) (table.elem ∷ []))
signature m locals (simple.TableSet x) = then_ (slice_get (tables_of m) x) (λ (table : TableType). goes (table.elem ∷ v.I32 ∷ []) [])
signature m locals (simple.TableInit x y) =
    then_ (slice_get m.elems x) (λ (segment : Elem). then_ (slice_get (tables_of m) y) (λ (table : TableType).
    when (same_type segment.ty table.elem) (goes (v.I32 ∷ v.I32 ∷ v.I32 ∷ []) [])))
signature m locals (simple.ElemDrop x) = when (nat_lt x (length m.elems)) (goes [] [])
signature m locals (simple.TableCopy to from) =
    then_ (slice_get (tables_of m) to) (λ (target : TableType). then_ (slice_get (tables_of m) from) (λ (source : TableType).
    when (same_type target.elem source.elem) (goes (v.I32 ∷ v.I32 ∷ v.I32 ∷ []) [])))
signature m locals (simple.TableGrow x) = then_ (slice_get (tables_of m) x) (λ (table : TableType). goes (v.I32 ∷ table.elem ∷ []) (v.I32 ∷ []))
signature m locals (simple.TableSize x) = then_ (slice_get (tables_of m) x) (λ (table : TableType). goes [] (v.I32 ∷ []))
signature m locals (simple.TableFill x) = then_ (slice_get (tables_of m) x) (λ (table : TableType). goes (v.I32 ∷ table.elem ∷ v.I32 ∷ []) [])
signature m locals (simple.RefNull t) = when (is_reference t) (goes [] (t ∷ []))
signature m locals (simple.RefFunc x) = when (is_some (func_type m x) && is_declared m x) (goes [] (v.FuncRef ∷ []))

-- whether a block goes, under a context, from operands of the parameters' types to operands of the results' types and no more
abbrev pub Blocks : Type 0
Blocks = Context → BlockId → FuncType → Bool

abbrev pub with_label : List ValType → Context → Context
with_label ts c = record c { labels = ts ∷ c.labels }

-- takes the parameters and gives the results, which stand in their order
abbrev pub calls : FuncType → Operands → Option Operands
calls g s = exchange (reverse g.params) (reverse g.results) s

-- a label has as many types as are asked for, and they fit the topmost operands
abbrev pub label_fits : List (List ValType) → ℕ → Operands → ℕ → Bool
label_fits labels n s l = is_some (then_ (slice_get labels l) (λ ts. when (length ts == n) (take_all (reverse ts) s)))

-- each of these labels fits so
abbrev pub all_fit : List (List ValType) → ℕ → List ℕ → Operands → Bool
all_fit labels n [] s = true
all_fit labels n (l ∷ ls) s = label_fits labels n s l && all_fit labels n ls s

-- 3.3.8: a choice between labels
abbrev pub after_table : List (List ValType) → List ℕ → List ValType → Operands → Option Operands
after_table labels ls ts s = when (all_fit labels (length ts) ls s) (leaves (reverse ts) s)

-- 3.3.4: a select with its types has one
abbrev pub after_select : List ValType → Operands → Option Operands
after_select [] s = None
after_select (u ∷ []) s = exchange (v.I32 ∷ u ∷ u ∷ []) (u ∷ []) s
after_select (u ∷ w ∷ us) s = None

-- 3.3.2: is_null takes any reference
abbrev pub fits_reference : Option ValType → Bool
fits_reference None = true
fits_reference (Some t) = is_reference t

abbrev pub holds_functions : Option TableType → Bool
holds_functions None = false
holds_functions (Some table) = same_type table.elem v.FuncRef

-- 3.3.8: a branch, which goes elsewhere, and one that may go on
abbrev pub branches : Option (List ValType) → Operands → Option Operands
branches label s = then_ label (λ ts. leaves (reverse ts) s)

abbrev pub branches_if : Option (List ValType) → Operands → Option Operands
branches_if label s = then_ label (λ ts. then_ (take_one v.I32 s) (exchange (reverse ts) (reverse ts)))

abbrev pub branches_table : List (List ValType) → List ℕ → ℕ → Operands → Option Operands
branches_table labels ls l s = then_ (slice_get labels l) (λ ts. then_ (take_one v.I32 s) (after_table labels ls ts))

-- 3.3.8: an indirect call, of a type and through a table that are there
abbrev pub calls_indirect : Option TableType → Option FuncType → Operands → Option Operands
calls_indirect table type s = when (holds_functions table) (then_ type (λ g. then_ (take_one v.I32 s) (calls g)))

-- 3.3.4: drop, and select without types
abbrev pub drops : Operands → Option Operands
drops s = then_ (take_any s) (λ taken. Some taken.rest)

abbrev pub selects : Operands → Option Operands
selects s =
    then_ (take_one v.I32 s) (λ rest. then_ (take_any rest) (λ second. then_ (take_any second.rest) (λ first.
    then_ (select_of first.type second.type) (λ u. Some (put (u ∷ []) first.rest)))))

abbrev pub tests_reference : Operands → Option Operands
tests_reference s = then_ (take_any s) (λ taken. when (fits_reference taken.type) (Some (put (Some v.I32 ∷ []) taken.rest)))

abbrev pub after_simple : Module → Context → Simple → Operands → Option Operands
after_simple m c p s = then_ (signature m c.locals p) (λ g. exchange g.takes g.gives s)

-- the operands after an instruction of this sort that holds no blocks: 3.3.8 control, 3.3.2 is_null, 3.3.4 drop and select
abbrev pub after_flat : Module → Context → Instr → Sort → Operands → Option Operands
after_flat m c i (sort.Simple p) s = after_simple m c p s
after_flat m c i (sort.Nested n) s = None
after_flat m c i sort.Unreachable s = Some anything
after_flat m c i (sort.Br l) s = branches (slice_get c.labels l) s
after_flat m c i (sort.BrIf l) s = branches_if (slice_get c.labels l) s
after_flat m c i (sort.BrTable l) s = branches_table c.labels (labels_of i) l s
after_flat m c i sort.Return s = leaves (reverse c.results) s
after_flat m c i (sort.Call x) s = then_ (func_type m x) (λ g. calls g s)
after_flat m c i (sort.CallIndirect x y) s = calls_indirect (slice_get (tables_of m) y) (slice_get m.types x) s
after_flat m c i sort.Drop s = drops s
after_flat m c i sort.Select s = selects s
after_flat m c i sort.SelectTyped s = after_select (types_of i) s
after_flat m c i sort.RefIsNull s = tests_reference s

-- a branch to a loop goes to its start, and to another block behind its end
abbrev pub label_of : Bool → FuncType → List ValType
label_of true g = g.params
label_of false g = g.results

-- an `if`, which has a second block, takes a test
abbrev pub tested : Option BlockId → Operands → Option Operands
tested None s = Some s
tested (Some id) s = take_one v.I32 s

abbrev pub other_is : (BlockId → Bool) → Option BlockId → Bool
other_is b None = true
other_is b (Some id) = b id

-- 3.3.8: a block, a loop or an if. Each block that it holds has its type
abbrev pub holding : Blocks → Context → Nesting → FuncType → Operands → Option Operands
holding b c n g s =
    let inner = with_label (label_of n.again g) c in
    when (b inner n.body g && other_is (λ id. b inner id g) n.other) (calls g s)

abbrev pub after_nested : Blocks → Module → Context → Nesting → Operands → Option Operands
after_nested b m c n s = then_ (block_type m n.ty) (λ g. then_ (tested n.other s) (holding b c n g))

-- the operands after an instruction of this sort
abbrev pub after_sort : Blocks → Module → Context → Instr → Sort → Operands → Option Operands
after_sort b m c i (sort.Nested n) s = after_nested b m c n s
after_sort b m c i k s = after_flat m c i k s

-- the operands after an instruction
abbrev pub after : Blocks → Module → Context → Instr → Operands → Option Operands
after b m c i s = after_sort b m c i (sort_of i) s

-- the operands after a list of instructions
abbrev pub after_all : Blocks → Module → Context → List Instr → Operands → Option Operands
after_all b m c [] s = Some s
after_all b m c (i ∷ is) s = then_ (after b m c i s) (after_all b m c is)

-- blocks within which at most d - 1 are nested in one another
abbrev pub is_block : Module → ℕ → Blocks
is_block m zero c id g = false
is_block m (suc d) c id g = ends_with g.results (after_all (is_block m d) m c (block_of m id) (exactly g.params))

-- how many blocks may be nested in one another in a body, and how many locals a function may have with its parameters:
-- limits of this profile, which the standard leaves open (appendix on implementation limitations)
unfoldable pub most_nested : ℕ
most_nested = 256

unfoldable pub most_locals : ℕ
most_locals = 50000

abbrev pub count_locals : List (ℕ × ValType) → ℕ
count_locals [] = 0
count_locals (run ∷ runs) = run.0 + count_locals runs

-- the types of all locals, the parameters first
abbrev pub locals_of : FuncType → Func → List ValType
locals_of g f = g.params ++ flat_map (λ (run : ℕ × ValType). replicate run.0 run.1) f.locals

abbrev pub body_context : FuncType → Func → Context
body_context g f = record { locals = locals_of g f; labels = g.results ∷ []; results = g.results }

-- a body takes no operands
abbrev pub body_type : FuncType → FuncType
body_type g = record { params = []; results = g.results }

abbrev pub few_locals : FuncType → Func → Bool
few_locals g f = nat_le (length g.params + count_locals f.locals) most_locals

abbrev pub typed_within : Bool → Module → FuncType → Func → Bool
typed_within false m g f = false
typed_within true m g f = is_block m (suc most_nested) (body_context g f) f.body (body_type g)

abbrev pub typed_as : Option FuncType → Module → Func → Bool
typed_as None m f = false
typed_as (Some g) m f = typed_within (few_locals g f) m g f

-- 3.4.1: whether the body of a function is typed
abbrev pub is_typed_body : Module → Func → Bool
is_typed_body m f = typed_as (slice_get m.types f.ty) m f

-- Heights. A place of a body stands before each of its instructions and at its end, and in the same way in each block.

-- the greatest number of a block's own operands, and of those of the blocks within it, at any of its places
abbrev pub Heights : Type 0
Heights = Context → BlockId → FuncType → ℕ

abbrev pub count_at : {A : Type 0} → Option A → (A → ℕ) → ℕ
count_at None f = 0
count_at (Some a) f = f a

abbrev pub other_height : (BlockId → ℕ) → Option BlockId → ℕ
other_height h None = 0
other_height h (Some id) = h id

-- a nested block stands on the operands that it doesn't take
abbrev pub height_on : Heights → Context → Nesting → FuncType → Operands → ℕ
height_on h c n g s =
    let inner = with_label (label_of n.again g) c in
    length s.types + max (h inner n.body g) (other_height (λ id. h inner id g) n.other)

abbrev pub nested_height : Heights → Module → Context → Nesting → Operands → ℕ
nested_height h m c n s =
    count_at (block_type m n.ty) (λ g. count_at (tested n.other s) (λ rest. count_at (take_all (reverse g.params) rest) (height_on h c n g)))

-- the greatest number of operands within the blocks of an instruction
abbrev pub height_within : Option Nesting → Heights → Module → Context → Operands → ℕ
height_within (Some n) h m c s = nested_height h m c n s
height_within None h m c s = 0

-- the greatest number of operands at any place of a list of instructions
abbrev pub height_all : Heights → Blocks → Module → Context → List Instr → Operands → ℕ
height_all h b m c [] s = length s.types
height_all h b m c (i ∷ is) s = max (length s.types) (max (height_within (nesting_of i) h m c s) (count_at (after b m c i s) (height_all h b m c is)))

-- the same of a block: at its end it has its results
abbrev pub block_height : Module → ℕ → Heights
block_height m zero c id g = 0
block_height m (suc d) c id g = max (height_all (block_height m d) (is_block m d) m c (block_of m id) (exactly g.params)) (length g.results)

abbrev pub height_as : Option FuncType → Module → Func → ℕ
height_as None m f = 0
height_as (Some g) m f = block_height m (suc most_nested) (body_context g f) f.body (body_type g)

-- the height of a function's body: the greatest number of operands at any of its places, those of all open blocks together
abbrev pub body_height : Module → Func → ℕ
body_height m f = height_as (slice_get m.types f.ty) m f
