-- Value types (WebAssembly Core 2.0, section 2.3).
use Rattle.std.specs.Prelude.{Bool, true, false, [], ◌∷◌, Option, Some, slice_get}
use Rattle.wasm_syntax.specs.declared.types.ValType.{ValType}
use Rattle.wasm_syntax.specs.declared.types.ValType.TheVariants as v
use Rattle.wasm_syntax.specs.declared.types.FuncType.{FuncType}
use Rattle.wasm_syntax.specs.declared.instructions.BlockType.{BlockType}
use Rattle.wasm_syntax.specs.declared.instructions.BlockType.TheVariants as b
use Rattle.wasm_syntax.specs.declared.module.Module.{Module}

abbrev pub same_type : ValType → ValType → Bool
same_type v.I32 v.I32 = true
same_type v.I64 v.I64 = true
same_type v.FuncRef v.FuncRef = true
same_type v.ExternRef v.ExternRef = true
same_type _ _ = false

-- the types of which ref.null gives a value and ref.is_null takes one, and of which `select` without type takes none
abbrev pub is_reference : ValType → Bool
is_reference v.I32 = false
is_reference v.I64 = false
is_reference v.FuncRef = true
is_reference v.ExternRef = true

-- the types of which a table or an element segment holds values
abbrev pub is_element : ValType → Bool
is_element v.I32 = false
is_element v.I64 = false
is_element v.FuncRef = true
is_element v.ExternRef = true

-- a block's type as that of a function (3.2.2)
abbrev pub block_type : Module → BlockType → Option FuncType
block_type m b.Empty = Some (record { params = []; results = [] })
block_type m (b.One t) = Some (record { params = []; results = t ∷ [] })
block_type m (b.Index x) = slice_get m.types x
