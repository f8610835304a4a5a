-- The numbering of the blocks of a module: the order in which they end in the binary format (WebAssembly Core 2.0, chapter 5).
use Rattle.std.specs.Prelude.{ℕ, zero, suc, Bool, ◌&&◌, ◌==◌, List, [], ◌∷◌, ◌++◌, length, map, flat_map}
use Rattle.wasm_syntax.specs.Blocks.{block_of}
use Rattle.wasm_syntax.specs.Sorts.{nesting_of, blocks_in}
use Rattle.wasm_syntax.specs.declared.instructions.BlockId.{BlockId}
use Rattle.wasm_syntax.specs.declared.instructions.Instr.{Instr}
use Rattle.wasm_syntax.specs.declared.module.Func.{Func}
use Rattle.wasm_syntax.specs.declared.module.GlobalDef.{GlobalDef}
use Rattle.wasm_syntax.specs.declared.module.Mode.{Mode}
use Rattle.wasm_syntax.specs.declared.module.Mode.TheVariants as w
use Rattle.wasm_syntax.specs.declared.module.Elem.{Elem}
use Rattle.wasm_syntax.specs.declared.module.Data.{Data}
use Rattle.wasm_syntax.specs.declared.module.Module.{Module}

-- the blocks that stand in an instruction, in order
abbrev pub nested_in : Instr → List BlockId
nested_in i = blocks_in (nesting_of i)

-- the numbers of a block and of those nested in it, at most d deep, in the order in which they end
abbrev pub ends_in : Module → ℕ → BlockId → List ℕ
ends_in m zero id = []
ends_in m (suc d) id = flat_map (ends_in m d) (flat_map nested_in (block_of m id)) ++ id.0 ∷ []

abbrev pub offset_of : Mode → List BlockId
offset_of (w.Active x offset) = offset ∷ []
offset_of w.Passive = []
offset_of w.Declared = []

-- the blocks that stand in no other, in the order of the binary format's sections
abbrev pub outermost : Module → List BlockId
outermost m =
    map (λ (g : GlobalDef). g.init) m.globals
    ++ flat_map (λ (segment : Elem). offset_of segment.mode ++ segment.items) m.elems
    ++ map (λ (f : Func). f.body) m.funcs
    ++ flat_map (λ (segment : Data). offset_of segment.mode) m.datas

-- these are the numbers from k on, each once and in order, up to n
abbrev pub counts_to : ℕ → ℕ → List ℕ → Bool
counts_to n k [] = k == n
counts_to n k (x ∷ xs) = (x == k) && counts_to n (suc k) xs

-- blocks are numbered in the order in which they end, and there are no others; so none stands deeper than their number
abbrev pub is_numbered : Module → Bool
is_numbered m = counts_to (length m.blocks) 0 (flat_map (ends_in m (suc (length m.blocks))) (outermost m))
