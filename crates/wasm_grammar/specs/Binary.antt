-- Vectors, parts of a told size, and names (WebAssembly Core 2.0, sections 5.1.3, 5.2.4 and 5.5.2).
use Rattle.std.specs.Prelude.{◌≡◌, ℕ, ◌+◌, List, ◌++◌, length}
use Rattle.std.specs.Str.{IsUtf8}
use Rattle.wasm_grammar.specs.Forms.{Form, Any, Both, Items}
use Rattle.wasm_grammar.specs.Leb128.{IsU32}

-- a count, and so many items
pub record IsVector {A : Type 0} (P : Form A) (after : ℕ) (bytes : List ℕ) (xs : List A) : Type 0 where
  pub front : List ℕ
  pub back : List ℕ
  pub parts : bytes ≡ front ++ back
  pub count : IsU32 (after + length back) front (length xs)
  pub items : Items P after back xs

-- a size, and so many bytes of the form
pub record IsSized {A : Type 0} (P : Form A) (after : ℕ) (bytes : List ℕ) (x : A) : Type 0 where
  pub front : List ℕ
  pub back : List ℕ
  pub parts : bytes ≡ front ++ back
  pub size : IsU32 (after + length back) front (length back)
  pub body : P after back x

-- what a number chooses, which is told how many bytes of the file the number begins
pub record ByNumber {A : Type 0} (K : (left number : ℕ) → Form A) (after : ℕ) (bytes : List ℕ) (x : A) : Type 0 where
  pub front : List ℕ
  pub back : List ℕ
  pub parts : bytes ≡ front ++ back
  pub number : ℕ
  pub is_number : IsU32 (after + length back) front number
  pub chosen : K (after + length bytes) number after back x

-- bytes that are told by their number
abbrev pub IsBytes : Form (List ℕ)
IsBytes = IsSized Any

-- a name: bytes that are UTF-8
pub record IsName (after : ℕ) (bytes : List ℕ) (name : List ℕ) : Type 0 where
  pub is_bytes : IsBytes after bytes name
  pub is_text : IsUtf8 name

-- what a custom section holds (5.5.3): a name, and any bytes
abbrev pub IsCustom : Form (List ℕ × List ℕ)
IsCustom = IsSized (Both IsName Any)
