-- Instructions as tokens (WebAssembly Core 2.0, section 5.4): an expression is spelled by one token after the other, and a token is
-- an instruction, or the place where a block begins, goes on with its second part, or ends.
use Rattle.std.specs.Prelude.{◌≡◌, ℕ, List, [], ◌∷◌, Bool, true, not, Option, Some, None, nat_lt, ◌==◌, ◌&&◌, cond, if◌then◌else◌}
use Rattle.wasm_syntax.specs.declared.instructions.BlockType.{BlockType}
use Rattle.wasm_syntax.specs.declared.instructions.BlockType.TheVariants as bt
use Rattle.wasm_syntax.specs.declared.types.ValType.{ValType}
use Rattle.wasm_syntax.specs.declared.instructions.MemArg.{MemArg}
use Rattle.wasm_syntax.specs.declared.instructions.Instr.{Instr}
use Rattle.wasm_syntax.specs.declared.instructions.Instr.TheVariants as i
use Rattle.wasm_grammar.specs.declared.built.Foreign.TheVariants as w
use Rattle.wasm_grammar.specs.declared.built.Leaf.{Leaf}
use Rattle.wasm_grammar.specs.declared.built.Built.{Built}
use Rattle.wasm_grammar.specs.declared.tokens.Token.{Token}
use Rattle.wasm_grammar.specs.declared.tokens.Token.TheVariants as t
use Rattle.wasm_grammar.specs.Forms.{Form, Run, Nothing, Both, Made, ByFirst, When, Never}
use Rattle.wasm_grammar.specs.Leb128.{IsU32, IsS32, IsTypeIndex, IsS64}
use Rattle.wasm_grammar.specs.Binary.{IsVector, ByNumber}
use Rattle.wasm_grammar.specs.Leaves.{with_leaf, Leafed, leafed_in}
use Rattle.wasm_grammar.specs.Reading.{◌>>=◌, u32_at, s32_at, type_index_at, s64_at, run_at}
use Rattle.wasm_grammar.specs.Threads.{Making, make_same, make_each, make_of, Reader, same_in, nothing_in, never_in, both_in, of_in, after_in, by_number, by_first, when, vector_in}
use Rattle.wasm_grammar.specs.Types.{Tagged, tagged, TypeTree, make_type, IsValType, val_in, IsRefType, ref_in}
use Rattle.wasm_grammar.specs.Opcodes.{Shape, unknown, alone, one_index, indices, access, word, wide_word, reference, labels, result_types, zero, two_zeros, data_index, data_zero, begins_block, begins_loop, begins_if, goes_on, ends, float_bytes, float_access, float_leaf, shape_of, prefixed_shape}

-- ---- block types (5.4.1): 40, a value type, or the index of a type as a signed integer of 33 bits

pub data BlockTree : Type 0 where
  empty : BlockTree
  one : TypeTree → BlockTree
  index : ℕ → BlockTree

abbrev pub make_block_type : Making Built BlockTree BlockType
make_block_type empty s = (bt.Empty, s)
make_block_type (one tree) s = make_of bt.One make_type tree s
make_block_type (index n) s = (bt.Index n, s)

abbrev pub IsBlockType : Form BlockTree
IsBlockType after bytes empty = bytes ≡ 0x40 ∷ []
IsBlockType after bytes (one tree) = IsValType after bytes tree
IsBlockType after bytes (index n) = IsTypeIndex after bytes n

unfoldable pub block_type_in : Reader Built BlockType
block_type_in s after [] = None
block_type_in s after (b ∷ bytes) =
    cond (b == 0x40) (Some ((bt.Empty, s), bytes)) (
    cond (nat_lt 0x40 b && nat_lt b 0x80) (of_in bt.One val_in s after (b ∷ bytes)) (
    of_in bt.Index (same_in type_index_at) s after (b ∷ bytes)))

-- ---- tokens

pub data TokenTree : Type 0 where
  plain : Instr → TokenTree
  -- an instruction that names a data segment
  data_access : Instr → TokenTree
  -- a selection with its result types
  selection : List TypeTree → TokenTree
  leaf : Leaf → TokenTree
  block : BlockTree → TokenTree
  loop : BlockTree → TokenTree
  choice : BlockTree → TokenTree
  otherwise : TokenTree
  end_of : TokenTree

-- in the code of a function it is noted that a data segment is named
abbrev pub with_data : Bool → Built → Built
with_data in_code built = if in_code then record built { data_used = true } else built

abbrev pub typed_selection : List ValType → Token
typed_selection types = t.Plain (i.SelectTyped types)

abbrev pub make_token : (in_code : Bool) → Making Built TokenTree Token
make_token in_code (plain instr) s = (t.Plain instr, s)
make_token in_code (data_access instr) s = (t.Plain instr, with_data in_code s)
make_token in_code (selection types) s = make_of typed_selection (make_each make_type) types s
make_token in_code (leaf first) s = (t.Foreign, with_leaf s first)
make_token in_code (block tree) s = make_of t.Block make_block_type tree s
make_token in_code (loop tree) s = make_of t.Loop make_block_type tree s
make_token in_code (choice tree) s = make_of t.If make_block_type tree s
make_token in_code otherwise s = (t.Else, s)
make_token in_code end_of s = (t.End, s)

-- the place of an access (5.4.6): the alignment and the offset
abbrev pub mem_arg_of : ℕ × ℕ → MemArg
mem_arg_of x = record { align = x.0; offset = x.1 }

abbrev pub IsMemArg : Form MemArg
IsMemArg = Made mem_arg_of (Both IsU32 IsU32)

abbrev pub IsZero : Form (Unit {0})
IsZero = Tagged 0x00 (Nothing tt)

-- what stands behind the opcode of a shape
abbrev pub IsShaped : Shape → Form TokenTree
IsShaped unknown = Never
IsShaped (alone x) = Nothing (plain x)
IsShaped (one_index f) = Made (λ n. plain (f n)) IsU32
IsShaped (indices f) = Made (λ n. plain (f n.0 n.1)) (Both IsU32 IsU32)
IsShaped (access f) = Made (λ m. plain (f m)) IsMemArg
IsShaped (word f) = Made (λ n. plain (f n)) IsS32
IsShaped (wide_word f) = Made (λ n. plain (f n)) IsS64
IsShaped (reference f) = Made (λ v. plain (f v)) IsRefType
IsShaped (labels f) = Made (λ n. plain (f n.0 n.1)) (Both (IsVector IsU32) IsU32)
IsShaped result_types = Made selection (IsVector IsValType)
IsShaped (zero x) = Made (λ n. plain x) IsZero
IsShaped (two_zeros x) = Made (λ n. plain x) (Both IsZero IsZero)
IsShaped (data_index f) = Made (λ n. data_access (f n)) IsU32
IsShaped (data_zero f) = Made (λ n. data_access (f n.0)) (Both IsU32 IsZero)
IsShaped begins_block = Made block IsBlockType
IsShaped begins_loop = Made loop IsBlockType
IsShaped begins_if = Made choice IsBlockType
IsShaped goes_on = Nothing otherwise
IsShaped ends = Nothing end_of
IsShaped (float_bytes n) = Made leaf (Leafed w.Float (Run n))
IsShaped float_access = Made leaf (Leafed w.Float IsMemArg)
IsShaped (float_leaf first) = Nothing (leaf first)

-- outside of functions' code a constant vector is a leaf: behind FD the byte 0C and 16 bytes
abbrev pub IsVectorConstant : Form TokenTree
IsVectorConstant = Made leaf (Leafed w.Simd (Tagged 0x0C (Run 16)))

-- a token of a function's code, or of an expression elsewhere
abbrev pub IsToken : (in_code : Bool) → Form TokenTree
IsToken in_code = ByFirst (λ b.
    When (b == 0xFC) (ByNumber (λ left n. IsShaped (prefixed_shape left n))) (
    When ((b == 0xFD) && not in_code) IsVectorConstant (
    IsShaped (shape_of b))))

-- ---- reading

abbrev pub mem_arg_at : List ℕ → Option (MemArg × List ℕ)
mem_arg_at bytes = u32_at bytes >>= λ a. u32_at a.1 >>= λ o. Some (mem_arg_of (a.0, o.0), o.1)

-- one byte 0C and 16 more
abbrev pub vector_constant_at : List ℕ → Option (List ℕ × List ℕ)
vector_constant_at [] = None
vector_constant_at (b ∷ bytes) = if b == 0x0C then run_at 16 bytes else None

abbrev pub zero_in : Reader Built (Unit {0})
zero_in = tagged 0x00 (nothing_in (make_same tt))

-- a token that is made of a value
abbrev pub token_of_in : {A : Type 0} → (in_code : Bool) → (A → TokenTree) → Reader Built A → Reader Built Token
token_of_in in_code f read = after_in (λ x. make_token in_code (f x)) read

unfoldable pub shaped_in : (in_code : Bool) → Shape → Reader Built Token
shaped_in in_code unknown = never_in
shaped_in in_code (alone x) = nothing_in (make_token in_code (plain x))
shaped_in in_code (one_index f) = token_of_in in_code (λ n. plain (f n)) (same_in u32_at)
shaped_in in_code (indices f) = token_of_in in_code (λ n. plain (f n.0 n.1)) (both_in (same_in u32_at) (same_in u32_at))
shaped_in in_code (access f) = token_of_in in_code (λ m. plain (f m)) (same_in mem_arg_at)
shaped_in in_code (word f) = token_of_in in_code (λ n. plain (f n)) (same_in s32_at)
shaped_in in_code (wide_word f) = token_of_in in_code (λ n. plain (f n)) (same_in s64_at)
shaped_in in_code (reference f) = token_of_in in_code (λ v. plain (f v)) ref_in
shaped_in in_code (labels f) = token_of_in in_code (λ n. plain (f n.0 n.1)) (both_in (vector_in (same_in u32_at)) (same_in u32_at))
shaped_in in_code result_types = of_in typed_selection (vector_in val_in)
shaped_in in_code (zero x) = token_of_in in_code (λ n. plain x) zero_in
shaped_in in_code (two_zeros x) = token_of_in in_code (λ n. plain x) (both_in zero_in zero_in)
shaped_in in_code (data_index f) = token_of_in in_code (λ n. data_access (f n)) (same_in u32_at)
shaped_in in_code (data_zero f) = token_of_in in_code (λ n. data_access (f n.0)) (both_in (same_in u32_at) zero_in)
shaped_in in_code begins_block = of_in t.Block block_type_in
shaped_in in_code begins_loop = of_in t.Loop block_type_in
shaped_in in_code begins_if = of_in t.If block_type_in
shaped_in in_code goes_on = nothing_in (make_token in_code otherwise)
shaped_in in_code ends = nothing_in (make_token in_code end_of)
shaped_in in_code (float_bytes n) = leafed_in w.Float (λ first. make_token in_code (leaf first)) (run_at n)
shaped_in in_code float_access = leafed_in w.Float (λ first. make_token in_code (leaf first)) mem_arg_at
shaped_in in_code (float_leaf first) = nothing_in (make_token in_code (leaf first))

abbrev pub prefixed_in : (in_code : Bool) → Reader Built Token
prefixed_in in_code = by_number (λ left n. shaped_in in_code (prefixed_shape left n))

abbrev pub vector_constant_in : (in_code : Bool) → Reader Built Token
vector_constant_in in_code = leafed_in w.Simd (λ first. make_token in_code (leaf first)) vector_constant_at

abbrev pub token_in : (in_code : Bool) → Reader Built Token
token_in in_code = by_first (λ b.
    when (b == 0xFC) (prefixed_in in_code) (
    when ((b == 0xFD) && not in_code) (vector_constant_in in_code) (
    shaped_in in_code (shape_of b))))
