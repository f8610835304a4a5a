-- A linear memory as its list of bytes (WebAssembly Core 2.0, 4.2.8 memory instances, 4.4.7 memory instructions).
use Rattle.std.specs.Prelude.{◌≡◌, ℕ, zero, suc, ◌+◌, ◌*◌, ◌/◌, ◌%◌, ◌<◌, ◌≤◌, ◌⊎◌, List, [], ◌∷◌, ◌++◌, length, take, drop, replicate, slice_index}

-- the bytes of one page
abbrev pub page_size : ℕ
page_size = 65536

-- no memory has more pages
abbrev pub most_pages : ℕ
most_pages = 1024

-- whole pages, and not too many of them
abbrev pub IsMemorySize : ℕ → Type 0
IsMemorySize n = (n % page_size ≡ 0) × (n ≤ most_pages * page_size)

-- what growing appends
abbrev pub zeros : ℕ → List ℕ
zeros n = replicate n 0

-- the n bytes from at on are all there
abbrev pub InRange : List ℕ → ℕ → ℕ → Type 0
InRange bytes at n = at + n ≤ length bytes

-- the n bytes from at on
abbrev pub run : List ℕ → ℕ → ℕ → List ℕ
run bytes at n = take n (drop at bytes)

-- the bytes with new ones in the place of the n from at on, and the others as they are
abbrev pub replaced : List ℕ → ℕ → ℕ → List ℕ → List ℕ
replaced bytes at n new = take at bytes ++ new ++ drop (at + n) bytes

-- the bytes outside the n from at on are as they were
abbrev pub SameOutside : List ℕ → List ℕ → ℕ → ℕ → Type 0
SameOutside old new at n = (k : ℕ) → (k < at) ⊎ (at + n ≤ k) → slice_index new k ≡ slice_index old k

-- a load or store takes 1, 2, 4 or 8 bytes
abbrev pub IsWidth : ℕ → Type 0
IsWidth n = (n ≡ 1) ⊎ (n ≡ 2) ⊎ (n ≡ 4) ⊎ (n ≡ 8)

-- the number that bytes spell, the lowest first (little-endian, 4.3.1 of the same standard)
abbrev pub number : List ℕ → ℕ
number [] = 0
number (byte ∷ bytes) = byte + 256 * number bytes

-- the n low bytes of a number, the lowest first
abbrev pub low_bytes : ℕ → ℕ → List ℕ
low_bytes zero v = []
low_bytes (suc n) v = v % 256 ∷ low_bytes n (v / 256)
