-- Memories and data segments of a store (WebAssembly Core 2.0, sections 4.2.8, 4.2.11 and 4.5.3): what their addresses name, and what
-- each change makes of the store as a whole.
use Rattle.std.specs.Prelude.{◌≡◌, ℕ, ◌+◌, ◌*◌, ◌/◌, ◌%◌, ◌≤◌, Bool, true, false, ◌&&◌, nat_le, List, [], ◌∷◌, ◌++◌, Option, Some, None, length, unwrap_or, slice_index_or, slice_set}
use Rattle.std.specs.List.{All}
use Rattle.wasm_syntax.specs.declared.types.Limit.{Limit}
use Rattle.wasm_syntax.specs.declared.addresses.MemAddr.{MemAddr}
use Rattle.wasm_syntax.specs.declared.addresses.DataAddr.{DataAddr}
use Rattle.raw_memory.specs.Bytes.{page_size, most_pages, zeros}
use Rattle.wasm_store.specs.Store.{Store, MemInst}

abbrev pub no_memory : MemInst
no_memory = record { bytes = []; max = None }

abbrev pub memory_at : Store → MemAddr → MemInst
memory_at s a = slice_index_or s.memories a.0 no_memory

abbrev pub data_at : Store → DataAddr → List ℕ
data_at s a = slice_index_or s.datas a.0 []

abbrev pub with_new_memory : MemInst → Store → Store
with_new_memory m s = record s { memories = s.memories ++ m ∷ [] }

abbrev pub with_new_data : List ℕ → Store → Store
with_new_data bytes s = record s { datas = s.datas ++ bytes ∷ [] }

abbrev pub with_memory : MemAddr → MemInst → Store → Store
with_memory a m s = record s { memories = slice_set s.memories a.0 m }

abbrev pub with_data : DataAddr → List ℕ → Store → Store
with_data a bytes s = record s { datas = slice_set s.datas a.0 bytes }

abbrev pub with_bytes : List ℕ → MemInst → MemInst
with_bytes bytes m = record m { bytes = bytes }

abbrev pub pages_of : MemInst → ℕ
pages_of m = length m.bytes / page_size

-- a page has 65,536 bytes, which are zero at first
abbrev pub new_memory : Limit → MemInst
new_memory limit = record { bytes = zeros (limit.min * page_size); max = limit.max }

-- a memory's type: its least size is the one that it has
abbrev pub memory_type_of : MemInst → Limit
memory_type_of m = record { min = pages_of m; max = m.max }

abbrev pub all_pages : List MemInst → ℕ
all_pages [] = 0
all_pages (m ∷ ms) = pages_of m + all_pages ms

-- all memories of a store together have no more pages
abbrev pub most_pages_in_all : ℕ
most_pages_in_all = 4096

-- with n pages more it has at most as many as its type and the limits of the embedding allow (4.5.3, growing memories)
abbrev pub may_grow_memory : Store → MemInst → ℕ → Bool
may_grow_memory s m n =
    nat_le (pages_of m + n) (unwrap_or m.max most_pages) && nat_le (pages_of m + n) most_pages && nat_le (all_pages s.memories + n) most_pages_in_all

-- n pages of zeros more
abbrev pub grown_memory : ℕ → MemInst → MemInst
grown_memory n m = with_bytes (m.bytes ++ zeros (n * page_size)) m

-- a memory with so many pages may be added
abbrev pub may_have_memory : Store → Limit → Bool
may_have_memory s limit = nat_le limit.min most_pages && nat_le (all_pages s.memories + limit.min) most_pages_in_all

-- it is added, or may not be
abbrev pub NewMemory : Limit → Store → Store → Option MemAddr → Type 0
NewMemory limit old new (Some a) = (a.0 ≡ length old.memories) × (may_have_memory old limit ≡ true) × (new ≡ with_new_memory (new_memory limit) old)
NewMemory limit old new None = (may_have_memory old limit ≡ false) × (new ≡ old)

-- it has n pages more and the answer is the pages that it had, or it may not grow and stays
abbrev pub GrowsMemory : MemAddr → ℕ → Store → Store → Option ℕ → Type 0
GrowsMemory a n old new (Some pages) = (pages ≡ pages_of (memory_at old a)) × (may_grow_memory old (memory_at old a) n ≡ true) × (new ≡ with_memory a (grown_memory n (memory_at old a)) old)
GrowsMemory a n old new None = (may_grow_memory old (memory_at old a) n ≡ false) × (new ≡ old)

-- whole pages, and at most as many as it may have
pub record IsMemory (m : MemInst) : Type 0 where
  pub whole : length m.bytes % page_size ≡ 0
  pub few : pages_of m ≤ most_pages
  pub within : pages_of m ≤ unwrap_or m.max most_pages

-- so is each of them, and together they have at most as many pages as the embedding allows
pub record AreMemories (ms : List MemInst) : Type 0 where
  pub each : All IsMemory ms
  pub pages : all_pages ms ≤ most_pages_in_all

-- as many bytes, and as many pages at most
pub record SameSize (m n : MemInst) : Type 0 where
  pub max : n.max ≡ m.max
  pub size : length n.bytes ≡ length m.bytes
