-- Foreign leaves: types and instructions of the standard that the profile leaves out. They are spelled in a module like all others,
-- and of them only the first is told.
use Rattle.std.specs.Prelude.{◌≡◌, ℕ, ◌+◌, List, [], length, Option, Some, None}
use Rattle.wasm_grammar.specs.Forms.{Form}
use Rattle.wasm_grammar.specs.Reading.{◌>>=◌}
use Rattle.wasm_grammar.specs.Threads.{Reader}
use Rattle.wasm_grammar.specs.declared.built.Foreign.{Foreign}
use Rattle.wasm_grammar.specs.declared.built.Leaf.{Leaf}
use Rattle.wasm_grammar.specs.declared.built.Built.{Built}

abbrev pub first_of : Option Leaf → Leaf → Option Leaf
first_of None leaf = Some leaf
first_of (Some first) leaf = Some first

abbrev pub with_leaf : Built → Leaf → Built
with_leaf built leaf = record built { first = first_of built.first leaf }

-- the leaf that ends with its first byte, behind which so many bytes of the file stand
abbrev pub leaf_before : ℕ → Foreign → Leaf
leaf_before left what = record { left = left + 1; what = what }

-- a leaf of one byte, behind that byte
abbrev pub IsLeaf : Foreign → Form Leaf
IsLeaf what after bytes leaf = (bytes ≡ []) × (leaf ≡ leaf_before after what)

abbrev pub leaf_in : {S B : Type 0} → Foreign → (Leaf → S → B × S) → Reader S B
leaf_in what f s after bytes = Some (f (leaf_before (after + length bytes) what) s, bytes)

-- a leaf behind whose first byte a form stands
pub record Leafed {A : Type 0} (what : Foreign) (P : Form A) (after : ℕ) (bytes : List ℕ) (leaf : Leaf) : Type 0 where
  pub is_leaf : leaf ≡ leaf_before (after + length bytes) what
  pub behind : A
  pub is_behind : P after bytes behind

abbrev pub leafed_in : {S A B : Type 0} → Foreign → (Leaf → S → B × S) → (List ℕ → Option (A × List ℕ)) → Reader S B
leafed_in what f read s after bytes = read bytes >>= λ x. Some (f (leaf_before (after + length bytes) what) s, x.1)
