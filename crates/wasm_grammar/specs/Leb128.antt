-- Integers in LEB128 (WebAssembly Core 2.0, section 5.2.2).
use Rattle.std.specs.Prelude.{◌≡◌, ℕ, ◌+◌, ◌*◌, ◌<◌, ◌≤◌, ◌^◌, List, [], ◌∷◌, length, ◌⊎◌}
use Rattle.wasm_grammar.specs.Forms.{Form}

-- Groups of seven bits, the lowest first. A byte below 128 is the last one and stands for itself. One from 128 on stands for its
-- low seven bits, and the bytes behind it for the rest.
abbrev pub IsLeb128 : List ℕ → ℕ → Type 0
IsLeb128 [] n = ⊥
IsLeb128 (b ∷ []) n = (b < 128) × (n ≡ b)
IsLeb128 (b ∷ c ∷ bytes) n = (128 ≤ b) × (high : ℕ) × (n + 128 ≡ b + 128 * high) × IsLeb128 (c ∷ bytes) high

-- an unsigned integer of 32 bits: at most five bytes, whose unused bits are zero
pub record IsU32 (after : ℕ) (bytes : List ℕ) (n : ℕ) : Type 0 where
  pub groups : IsLeb128 bytes n
  pub short : length bytes ≤ 5
  pub fits : n < 2 ^ 32

-- A number below `top` in two's complement stands for a word of which half are not negative: below the middle for itself, and
-- from the middle on for the word that lies as far below the end as it does below `top`.
abbrev pub IsWord : (half top n word : ℕ) → Type 0
IsWord half top n word = ((n + n < top) × (n < half) × (word ≡ n)) ⊎ ((top ≤ n + n) × (top ≤ n + half) × (word + top ≡ n + half + half))

-- a signed integer as a word: at most so many bytes, whose unused bits copy the sign
pub record IsSigned (most half after : ℕ) (bytes : List ℕ) (word : ℕ) : Type 0 where
  pub number : ℕ
  pub groups : IsLeb128 bytes number
  pub short : length bytes ≤ most
  pub is_word : IsWord half (128 ^ length bytes) number word

-- a signed integer of 32 bits
abbrev pub IsS32 : Form ℕ
IsS32 = IsSigned 5 (2 ^ 31)

-- a signed integer of 64 bits
abbrev pub IsS64 : Form ℕ
IsS64 = IsSigned 10 (2 ^ 63)

-- the index of a type in the place of a block's type (5.4.1): a signed integer of 33 bits that isn't negative, so 7F, which spells
-- -1, spells none
pub record IsTypeIndex (after : ℕ) (bytes : List ℕ) (n : ℕ) : Type 0 where
  pub groups : IsLeb128 bytes n
  pub short : length bytes ≤ 5
  pub not_negative : n + n < 128 ^ length bytes
  pub fits : n < 2 ^ 32
