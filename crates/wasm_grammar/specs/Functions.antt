-- Globals and code entries (WebAssembly Core 2.0, sections 5.5.9 and 5.5.13).
use Rattle.std.specs.Prelude.{ℕ, ◌+◌, ◌^◌, List, [], ◌∷◌, Bool, false, nat_lt}
use Rattle.wasm_syntax.specs.declared.types.ValType.{ValType}
use Rattle.wasm_syntax.specs.declared.types.GlobalType.{GlobalType}
use Rattle.wasm_syntax.specs.declared.instructions.BlockId.{BlockId}
use Rattle.wasm_syntax.specs.declared.module.GlobalDef.{GlobalDef}
use Rattle.wasm_grammar.specs.declared.built.Built.{Built}
use Rattle.wasm_grammar.specs.declared.functions.CodeEntry.{CodeEntry}
use Rattle.wasm_grammar.specs.Forms.{Form, Both}
use Rattle.wasm_grammar.specs.Leb128.{IsU32}
use Rattle.wasm_grammar.specs.Binary.{IsVector, IsSized}
use Rattle.wasm_grammar.specs.Choices.{Such, such_in}
use Rattle.wasm_grammar.specs.Reading.{u32_at}
use Rattle.wasm_grammar.specs.Threads.{Making, make_same, make_both, make_each, make_of, Reader, same_in, both_in, of_in, vector_in, Whole, both_whole, of_whole, sized_in}
use Rattle.wasm_grammar.specs.Types.{TypeTree, make_type, IsValType, val_in, GlobalTree, IsGlobalType, make_global_type, global_type_in}
use Rattle.wasm_grammar.specs.Code.{Code, IsExpression, make_expression, Body, IsBody, make_body}
use Rattle.wasm_grammar.specs.Running.{expression_in, body_in}

-- ---- globals: a global type, and the expression of the first value

abbrev pub IsGlobal : Form (GlobalTree × Code)
IsGlobal = Both IsGlobalType (IsExpression false)

abbrev pub global_of : GlobalType × BlockId → GlobalDef
global_of x = record { ty = x.0; init = x.1 }

abbrev pub make_global : Making Built (GlobalTree × Code) GlobalDef
make_global = make_of global_of (make_both make_global_type (make_expression false))

abbrev pub global_in : Reader Built GlobalDef
global_in = of_in global_of (both_in global_type_in (expression_in false))

-- ---- code entries: a size, the locals as runs of one type, and the body

abbrev pub LocalTree : Type 0
LocalTree = ℕ × TypeTree

abbrev pub IsLocal : Form LocalTree
IsLocal = Both IsU32 IsValType

abbrev pub make_local : Making Built LocalTree (ℕ × ValType)
make_local = make_both make_same make_type

abbrev pub local_in : Reader Built (ℕ × ValType)
local_in = both_in (same_in u32_at) val_in

-- how many locals the runs have together
abbrev pub local_count : {A : Type 0} → List (ℕ × A) → ℕ
local_count [] = 0
local_count (run ∷ runs) = run.0 + local_count runs

abbrev pub few_locals : {A : Type 0} → List (ℕ × A) → Bool
few_locals runs = nat_lt (local_count runs) (2 ^ 32)

abbrev pub IsLocals : Form (List LocalTree)
IsLocals = Such few_locals (IsVector IsLocal)

abbrev pub locals_in : Reader Built (List (ℕ × ValType))
locals_in = such_in few_locals (vector_in local_in)

abbrev pub IsCodeEntry : Form (List LocalTree × Body)
IsCodeEntry = IsSized (Both IsLocals IsBody)

abbrev pub entry_of : List (ℕ × ValType) × BlockId → CodeEntry
entry_of x = record { locals = x.0; body = x.1 }

abbrev pub make_entry : Making Built (List LocalTree × Body) CodeEntry
make_entry = make_of entry_of (make_both (make_each make_local) make_body)

abbrev pub function_in : Whole Built CodeEntry
function_in = of_whole entry_of (both_whole locals_in body_in)

abbrev pub entry_in : Reader Built CodeEntry
entry_in = sized_in function_in
