-- Modules (WebAssembly Core 2.0, section 5.5.16): which bytes spell which module.
use Rattle.std.specs.Prelude.{◌≡◌, ℕ, List, [], ◌∷◌, ◌++◌, length, Option, Some, None, Bool, true, false, not, ◌==◌, ◌&&◌, if◌then◌else◌}
use Rattle.wasm_syntax.specs.declared.instructions.Instr.{Instr}
use Rattle.wasm_syntax.specs.declared.module.Func.{Func}
use Rattle.wasm_syntax.specs.declared.module.Module.{Module}
use Rattle.wasm_grammar.specs.declared.built.Leaf.{Leaf}
use Rattle.wasm_grammar.specs.declared.built.Built.{Built}
use Rattle.wasm_grammar.specs.declared.functions.CodeEntry.{CodeEntry}
use Rattle.wasm_grammar.specs.declared.held.Held.{Held}
use Rattle.wasm_grammar.specs.declared.held.Held.TheVariants as h
use Rattle.wasm_grammar.specs.declared.held.Parts.{Parts}
use Rattle.wasm_grammar.specs.Forms.{Items}
use Rattle.wasm_grammar.specs.Reading.{◌>>=◌}
use Rattle.wasm_grammar.specs.Threads.{make_each}
use Rattle.wasm_grammar.specs.Sections.{Section, IsSection, make_section, in_order, section_in, held_in_order, all_in}

-- a module as it is spelled: its sections
abbrev pub ModuleTree : Type 0
ModuleTree = List Section

-- ---- what a module makes

-- what sections hold, each kind by itself
abbrev pub hold : Parts → Held → Parts
hold p h.Nothing = p
hold p (h.Types xs) = record p { types = xs }
hold p (h.Imports xs) = record p { imports = xs }
hold p (h.Funcs xs) = record p { funcs = xs }
hold p (h.Tables xs) = record p { tables = xs }
hold p (h.Mems xs) = record p { mems = xs }
hold p (h.Globals xs) = record p { globals = xs }
hold p (h.Exports xs) = record p { exports = xs }
hold p (h.Start n) = record p { start = Some n }
hold p (h.Elems xs) = record p { elems = xs }
hold p (h.DataCount n) = record p { data_count = Some n }
hold p (h.Codes xs) = record p { codes = xs }
hold p (h.Datas xs) = record p { datas = xs }

abbrev pub hold_all : Parts → List Held → Parts
hold_all p [] = p
hold_all p (x ∷ xs) = hold_all (hold p x) xs

abbrev pub no_parts : Parts
no_parts = record { types = []; imports = []; funcs = []; tables = []; mems = []; globals = []; exports = []; start = None; elems = []; data_count = None; codes = []; datas = [] }

abbrev pub nothing_built : Built
nothing_built = record { blocks = []; first = None; data_used = false }

-- the parts of a module, and what its expressions build, from the first section to the last
abbrev pub make_parts : ModuleTree → Parts × Built
make_parts tree = let x = make_each make_section tree nothing_built in (hold_all no_parts x.0, x.1)

-- a function has its type from one section and its locals and body from the other
abbrev pub funcs_of : List ℕ → List CodeEntry → List Func
funcs_of (ty ∷ tys) (e ∷ es) = record { ty = ty; locals = e.locals; body = e.body } ∷ funcs_of tys es
funcs_of _ _ = []

abbrev pub module_with : Parts → List (List Instr) → Module
module_with p blocks = record {
  types = p.types;
  imports = p.imports;
  funcs = funcs_of p.funcs p.codes;
  tables = p.tables;
  mems = p.mems;
  globals = p.globals;
  exports = p.exports;
  start = p.start;
  elems = p.elems;
  data_count = p.data_count;
  datas = p.datas;
  blocks = blocks;
}

-- the module that a tree makes, whose blocks are numbered in the order in which their spellings end
abbrev pub module_of : ModuleTree → Module
module_of tree = let x = make_parts tree in module_with x.0 x.1.blocks

-- its first foreign leaf
abbrev pub first_leaf : ModuleTree → Option Leaf
first_leaf tree = (make_parts tree).1.first

-- ---- which bytes spell a module

-- 00 61 73 6D, and the version 1
abbrev pub preamble : List ℕ
preamble = 0x00 ∷ 0x61 ∷ 0x73 ∷ 0x6D ∷ 0x01 ∷ 0x00 ∷ 0x00 ∷ 0x00 ∷ []

-- a data count tells the number of data segments, and stands where a body uses one of them
abbrev pub counts_data : Option ℕ → (datas : ℕ) → (used : Bool) → Bool
counts_data None datas used = not used
counts_data (Some n) datas used = n == datas

-- there are as many types of functions as code entries, and the data count is right
abbrev pub agrees : Parts × Built → Bool
agrees x = (length x.0.funcs == length x.0.codes) && counts_data x.0.data_count (length x.0.datas) x.1.data_used

-- these bytes spell this module: the preamble, and sections in their order, each at most once, which agree with one another
pub record Spells (bytes : List ℕ) (tree : ModuleTree) : Type 0 where
  pub sections : List ℕ
  pub parts : bytes ≡ preamble ++ sections
  pub are_sections : Items IsSection 0 sections tree
  pub ordered : in_order 0 tree ≡ true
  pub agreed : agrees (make_parts tree) ≡ true

-- ---- reading

-- what sections hold behind others, where they are in order
abbrev pub held_of : Parts → (last : ℕ) → Option (List Held × Built) → Option (Parts × Built)
held_of p last told = told >>= λ x. if held_in_order last x.0 then Some (hold_all p x.0, x.1) else None

unfoldable pub sections_in : List ℕ → Option (Parts × Built)
sections_in bytes = held_of no_parts 0 (all_in section_in (length bytes) nothing_built 0 bytes)

-- what stands behind a front
abbrev pub behind : (front : List ℕ) → List ℕ → Option (List ℕ)
behind [] bytes = Some bytes
behind (f ∷ front) [] = None
behind (f ∷ front) (b ∷ bytes) = if b == f then behind front bytes else None

unfoldable pub module_in : List ℕ → Option (Parts × Built)
module_in bytes = behind preamble bytes >>= λ rest. sections_in rest >>= λ x. if agrees x then Some x else None
