-- What a decoder of modules tells of bytes.
use Rattle.std.specs.Prelude.{◌≡◌, ℕ, ◌-◌, List, length, Option, Some, None, Result, Ok, Err}
use Rattle.wasm_syntax.specs.declared.module.Module.{Module}
use Rattle.wasm_grammar.specs.declared.built.Foreign.{Foreign}
use Rattle.wasm_grammar.specs.declared.built.Leaf.{Leaf}
use Rattle.wasm_grammar.specs.declared.built.Built.{Built}
use Rattle.wasm_grammar.specs.declared.decoder.DecodeError.{DecodeError}
use Rattle.wasm_grammar.specs.declared.decoder.DecodeError.TheVariants as errors
use Rattle.wasm_grammar.specs.declared.held.Parts.{Parts}
use Rattle.wasm_grammar.specs.Module.{ModuleTree, Spells, module_with, module_of, first_leaf}

-- a module, no module, or a module with a foreign leaf, of which the first one begins at a place
pub data Decoded : Type 0 where
  module_is : Module → Decoded
  malformed : Decoded
  outside : (place : ℕ) → Foreign → Decoded

abbrev pub Decodes : List ℕ → Decoded → Type 0
Decodes bytes (module_is m) = (tree : ModuleTree) × Spells bytes tree × (first_leaf tree ≡ None) × (m ≡ module_of tree)
Decodes bytes malformed = (tree : ModuleTree) → Spells bytes tree → ⊥
Decodes bytes (outside place what) = (tree : ModuleTree) × Spells bytes tree × (leaf : Leaf) × (first_leaf tree ≡ Some leaf) × (place ≡ length bytes - leaf.left) × (what ≡ leaf.what)

-- what an answer tells: nothing where memory ran out
abbrev pub told : Result Module DecodeError → Option Decoded
told (Ok m) = Some (module_is m)
told (Err errors.Malformed) = Some malformed
told (Err (errors.Outside place what)) = Some (outside place what)
told (Err errors.NoMemory) = None

-- ---- reading

abbrev pub by_leaf : List ℕ → Parts → Built → Option Leaf → Decoded
by_leaf bytes p b None = module_is (module_with p b.blocks)
by_leaf bytes p b (Some leaf) = outside (length bytes - leaf.left) leaf.what

-- what is told where this was read
abbrev pub read_as : List ℕ → Option (Parts × Built) → Decoded
read_as bytes None = malformed
read_as bytes (Some x) = by_leaf bytes x.0 x.1 x.1.first
