-- Worked cases of the definitions, each by computation.
use Rattle.std.proofs.Common.{◌≡◌, ℕ, true, false, [], ◌∷◌, List, Some, None, refl}
use Rattle.wasm_syntax.specs.declared.types.ValType.{ValType}
use Rattle.wasm_syntax.specs.declared.types.ValType.TheVariants.{I32, I64, FuncRef}
use Rattle.wasm_syntax.specs.declared.types.FuncType.{FuncType}
use Rattle.wasm_syntax.specs.declared.instructions.BlockId.{BlockId}
use Rattle.wasm_syntax.specs.declared.instructions.BlockType.TheVariants.{Empty, One}
use Rattle.wasm_syntax.specs.declared.instructions.Instr.{Instr}
use Rattle.wasm_syntax.specs.declared.instructions.Instr.TheVariants.{Unreachable, Nop, Block, If, Br, BrTable, Drop, Select, LocalGet, I32Const, I64Const, I32Add, RefIsNull, RefNull, RefFunc}
use Rattle.wasm_syntax.specs.declared.module.ExportDesc.TheVariants as e
use Rattle.wasm_syntax.specs.declared.module.Module.{Module}
use Rattle.wasm_valid.specs.Typing.{most_nested, most_locals, is_typed_body, body_height}
use Rattle.wasm_syntax.specs.Numbering.{is_numbered}
use Rattle.wasm_valid.specs.ModuleRules.{is_framed, is_typed_module, refused_function, names_differ}

-- a module with one function of this type, these blocks and the body with this number
abbrev with_body : FuncType → List (List Instr) → ℕ → Module
with_body g blocks id = record {
  types = g ∷ [];
  imports = [];
  funcs = record { ty = 0; locals = []; body = record { 0 = id } } ∷ [];
  tables = [];
  mems = [];
  globals = [];
  exports = record { name = 97 ∷ []; desc = e.Func 0 } ∷ [];
  start = None;
  elems = [];
  data_count = None;
  datas = [];
  blocks = blocks;
}

abbrev function_of : List ValType → List ValType → FuncType
function_of params results = record { params = params; results = results }

abbrev block : ℕ → BlockId
block n = record { 0 = n }

abbrev sum : ℕ → Module
sum x = with_body (function_of (I32 ∷ I32 ∷ []) (I32 ∷ [])) ((LocalGet 0 ∷ LocalGet x ∷ I32Add ∷ []) ∷ []) 0

-- a sum of two parameters is typed
sum_is_typed : is_typed_module (sum 1) ≡ true
unfolding is_typed_module is_framed refused_function most_nested most_locals
sum_is_typed = refl

-- there is no third local, and the first function is to blame
no_third_local : refused_function (sum 2) ≡ Some 0
unfolding is_typed_module is_framed refused_function most_nested most_locals
no_third_local = refl

-- at most two operands stand there at once
sum_height : body_height (sum 1) (record { ty = 0; locals = []; body = block 0 }) ≡ 2
unfolding most_nested
sum_height = refl

abbrev plain : List Instr → Module
plain code = with_body (function_of [] []) (code ∷ []) 0

-- what a select leaves behind an unreachable is a reference as well as a number, but it is an operand
select_then_test : is_typed_module (plain (Unreachable ∷ Select ∷ RefIsNull ∷ Drop ∷ [])) ≡ true
unfolding is_typed_module is_framed refused_function most_nested most_locals
select_then_test = refl

select_is_left : is_typed_module (plain (Unreachable ∷ Select ∷ [])) ≡ false
unfolding is_typed_module is_framed refused_function most_nested most_locals
select_is_left = refl

-- a select without type takes no references
select_references : is_typed_module (plain (RefNull FuncRef ∷ RefNull FuncRef ∷ I32Const 0 ∷ Select ∷ Drop ∷ [])) ≡ false
unfolding is_typed_module is_framed refused_function most_nested most_locals
select_references = refl

-- behind a branch operands of any type may stand, but not those of the wrong one
after_branch : is_typed_module (plain (Br 0 ∷ I32Add ∷ Drop ∷ [])) ≡ true
unfolding is_typed_module is_framed refused_function most_nested most_locals
after_branch = refl

wrong_after_branch : is_typed_module (plain (Br 0 ∷ I64Const 0 ∷ I32Add ∷ Drop ∷ [])) ≡ false
unfolding is_typed_module is_framed refused_function most_nested most_locals
wrong_after_branch = refl

-- a function that nothing else names can't be referred to by a body
undeclared : is_typed_module (record (plain (RefFunc 0 ∷ Drop ∷ [])) { exports = [] }) ≡ false
unfolding is_typed_module is_framed refused_function most_nested most_locals
undeclared = refl

-- block (i32.const, if (br 0) else (nop)), in a function without results
branches : ℕ → ℕ → ℕ → ℕ → Module
branches a b c d =
    with_body (function_of [] []) ((Br 0 ∷ []) ∷ (Nop ∷ []) ∷ (I32Const 1 ∷ If (record { ty = Empty; body = block a; other = block b }) ∷ []) ∷ (Block Empty (block c) ∷ []) ∷ []) d

-- blocks are numbered as they end
numbered : is_typed_module (branches 0 1 2 3) ≡ true
unfolding is_typed_module is_framed refused_function most_nested most_locals branches
numbered = refl

misnumbered : is_numbered (branches 1 0 2 3) ≡ false
unfolding branches
misnumbered = refl

-- a block within itself
endless : is_numbered (branches 0 1 3 3) ≡ false
unfolding branches
endless = refl

-- where the numbering fails no function is to blame
numbering_first : refused_function (branches 1 0 2 3) ≡ None
unfolding is_typed_module is_framed refused_function most_nested most_locals branches
numbering_first = refl

-- an operand below an open block counts: i32.const, block (i32.const, i32.const, i32.add, drop), drop
below : Module
below = with_body (function_of [] []) ((I32Const 1 ∷ I32Const 2 ∷ I32Add ∷ Drop ∷ []) ∷ (I32Const 0 ∷ Block Empty (block 0) ∷ Drop ∷ []) ∷ []) 1

below_height : body_height below (record { ty = 0; locals = []; body = block 1 }) ≡ 3
unfolding most_nested below
below_height = refl

-- the results of a body count although they are never there: unreachable, in a function with three results
unreached_results : body_height (with_body (function_of [] (I32 ∷ I32 ∷ I64 ∷ [])) ((Unreachable ∷ []) ∷ []) 0) (record { ty = 0; locals = []; body = block 0 }) ≡ 3
unfolding most_nested
unreached_results = refl

-- labels of a table have as many types as the default one, and each fits
uneven_labels : is_typed_module
    (with_body (function_of [] (I32 ∷ [])) ((I32Const 0 ∷ I32Const 0 ∷ BrTable 1 (0 ∷ []) ∷ []) ∷ (Block Empty (block 0) ∷ I32Const 0 ∷ []) ∷ []) 1) ≡ false
unfolding is_typed_module is_framed refused_function most_nested most_locals
uneven_labels = refl

even_labels : is_typed_module
    (with_body (function_of [] (I32 ∷ [])) ((I32Const 0 ∷ I32Const 0 ∷ BrTable 1 (0 ∷ 1 ∷ []) ∷ []) ∷ (Block (One I32) (block 0) ∷ []) ∷ []) 1) ≡ true
unfolding is_typed_module is_framed refused_function most_nested most_locals
even_labels = refl

-- more locals than there may be
too_many_locals : is_typed_body (plain []) (record { ty = 0; locals = (4000000000, I32) ∷ []; body = block 0 }) ≡ false
unfolding is_typed_module is_framed refused_function most_nested most_locals
too_many_locals = refl

same_names : names_differ (record { name = 97 ∷ []; desc = e.Func 0 } ∷ record { name = 97 ∷ []; desc = e.Mem 0 } ∷ []) ≡ false
same_names = refl
