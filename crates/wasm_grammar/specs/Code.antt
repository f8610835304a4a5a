-- Expressions as trees (WebAssembly Core 2.0, sections 5.4 and 5.5.13): which tokens spell them, and which blocks they make.
use Rattle.std.specs.Prelude.{◌≡◌, ℕ, ◌+◌, List, [], ◌∷◌, ◌++◌, length, Bool, true}
use Rattle.wasm_syntax.specs.declared.instructions.BlockId.{BlockId}
use Rattle.wasm_syntax.specs.declared.instructions.BlockType.{BlockType}
use Rattle.wasm_syntax.specs.declared.instructions.Instr.{Instr}
use Rattle.wasm_syntax.specs.declared.instructions.Instr.TheVariants as i
use Rattle.wasm_grammar.specs.declared.built.Foreign.TheVariants as w
use Rattle.wasm_grammar.specs.declared.built.Leaf.{Leaf}
use Rattle.wasm_grammar.specs.declared.built.Built.{Built}
use Rattle.wasm_grammar.specs.declared.tokens.Token.{Token}
use Rattle.wasm_grammar.specs.declared.tokens.Token.TheVariants as t
use Rattle.wasm_grammar.specs.Forms.{Form, Items}
use Rattle.wasm_grammar.specs.Leaves.{with_leaf, leaf_before}
use Rattle.wasm_grammar.specs.Threads.{Making, make_each}
use Rattle.wasm_grammar.specs.Types.{TypeTree}
use Rattle.wasm_grammar.specs.Instructions.{BlockTree, make_block_type, TokenTree, make_token, IsToken}
use Rattle.wasm_grammar.specs.Instructions as u

-- an instruction that holds no instructions
pub data Plain : Type 0 where
  instr : Instr → Plain
  -- one that names a data segment
  data_access : Instr → Plain
  -- a selection with its result types
  selection : List TypeTree → Plain
  leaf : Leaf → Plain

abbrev pub plain_token : Plain → TokenTree
plain_token (instr x) = u.plain x
plain_token (data_access x) = u.data_access x
plain_token (selection types) = u.selection types
plain_token (leaf l) = u.leaf l

-- A sequence of instructions. An `if` has one part or two.
pub data Code : Type 0 where
  done : Code
  plain : Plain → Code → Code
  block : BlockTree → (body rest : Code) → Code
  loop : BlockTree → (body rest : Code) → Code
  choice : BlockTree → (one two rest : Code) → Code
  choice_one : BlockTree → (one rest : Code) → Code

-- the tokens of code, and those behind it
abbrev pub tokens : Code → List TokenTree → List TokenTree
tokens done us = us
tokens (plain x c) us = plain_token x ∷ tokens c us
tokens (block tree body c) us = u.block tree ∷ tokens body (u.end_of ∷ tokens c us)
tokens (loop tree body c) us = u.loop tree ∷ tokens body (u.end_of ∷ tokens c us)
tokens (choice tree one two c) us = u.choice tree ∷ tokens one (u.otherwise ∷ tokens two (u.end_of ∷ tokens c us))
tokens (choice_one tree one c) us = u.choice tree ∷ tokens one (u.end_of ∷ tokens c us)

-- ---- what code makes

-- A block that ends has the number of the blocks that ended before it.
abbrev pub make_block : Making Built (List Instr) BlockId
make_block instrs s = (record { 0 = length s.blocks }, record s { blocks = s.blocks ++ instrs ∷ [] })

-- a token that is an instruction, before others
abbrev pub with_token : Token → List Instr × Built → List Instr × Built
with_token (t.Plain i) x = (i ∷ x.0, x.1)
with_token _ x = x

abbrev pub if_of : BlockType → (one two : BlockId) → Instr
if_of type one two = i.If (record { ty = type; body = one; other = two })

-- Code makes instructions. The blocks in it are built in the order in which they end; the empty second block of an `if` with one
-- part follows the first one.
abbrev pub make_code : (entry : Bool) → Making Built Code (List Instr)
make_code entry done s = ([], s)
make_code entry (plain x c) s = let p = make_token entry (plain_token x) s in with_token p.0 (make_code entry c p.1)
make_code entry (block tree body c) s =
    let type = make_block_type tree s in
    let b = make_code entry body type.1 in
    let n = make_block b.0 b.1 in
    let x = make_code entry c n.1 in
    (i.Block type.0 n.0 ∷ x.0, x.1)
make_code entry (loop tree body c) s =
    let type = make_block_type tree s in
    let b = make_code entry body type.1 in
    let n = make_block b.0 b.1 in
    let x = make_code entry c n.1 in
    (i.Loop type.0 n.0 ∷ x.0, x.1)
make_code entry (choice tree one two c) s =
    let type = make_block_type tree s in
    let a = make_code entry one type.1 in
    let m = make_block a.0 a.1 in
    let b = make_code entry two m.1 in
    let n = make_block b.0 b.1 in
    let x = make_code entry c n.1 in
    (if_of type.0 m.0 n.0 ∷ x.0, x.1)
make_code entry (choice_one tree one c) s =
    let type = make_block_type tree s in
    let a = make_code entry one type.1 in
    let m = make_block a.0 a.1 in
    let n = make_block [] m.1 in
    let x = make_code entry c n.1 in
    (if_of type.0 m.0 n.0 ∷ x.0, x.1)

-- ---- expressions (5.4.9)

-- code, and its end
abbrev pub IsExpression : (entry : Bool) → Form Code
IsExpression entry after bytes c = Items (IsToken entry) after bytes (tokens c (u.end_of ∷ []))

-- its block is the last one that ends
abbrev pub make_expression : (entry : Bool) → Making Built Code BlockId
make_expression entry c s = let x = make_code entry c s in make_block x.0 x.1

-- ---- bodies

-- A body is code, or the front of code and a foreign leaf that takes the rest of the code entry.
pub data Body : Type 0 where
  whole : Code → Body
  cut : (passed : List TokenTree) → Leaf → Body

-- The leaf FD stands where an instruction may stand: some of the tokens of code stand before it, and some would follow.
pub record IsCut (after : ℕ) (bytes : List ℕ) (passed : List TokenTree) (l : Leaf) : Type 0 where
  pub front : List ℕ
  pub back : List ℕ
  pub parts : bytes ≡ front ++ 0xFD ∷ back
  pub items : Items (IsToken true) (after + length back + 1) front passed
  pub leaf_is : l ≡ leaf_before (after + length back) w.Simd
  pub code : Code
  pub next : TokenTree
  pub more : List TokenTree
  pub is_front : tokens code (u.end_of ∷ []) ≡ passed ++ next ∷ more

abbrev pub IsBody : Form Body
IsBody after bytes (whole c) = IsExpression true after bytes c
IsBody after bytes (cut passed l) = IsCut after bytes passed l

-- A cut body ends all open blocks. Of a module with a leaf nothing but the first one is told, so its blocks don't matter.
abbrev pub make_body : Making Built Body BlockId
make_body (whole c) s = make_expression true c s
make_body (cut passed l) s = let x = make_each (make_token true) passed s in make_block [] (with_leaf (record x.1 { blocks = [] }) l)
