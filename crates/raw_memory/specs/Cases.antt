-- Private: worked cases of the definitions of `Bytes`, each by computation.
use Rattle.std.specs.Prelude.{◌≡◌, ℕ, List, [], ◌∷◌, refl}
use Rattle.raw_memory.specs.Bytes.{zeros, run, replaced, number, low_bytes}

-- the lowest byte comes first
pub two_bytes : number (0x01 ∷ 0x02 ∷ []) ≡ 0x0201
two_bytes = refl

pub four_bytes : number (0x78 ∷ 0x56 ∷ 0x34 ∷ 0x12 ∷ []) ≡ 0x1234_5678
four_bytes = refl

pub no_bytes : number [] ≡ 0
no_bytes = refl

pub four_low_bytes : low_bytes 4 0x1234_5678 ≡ 0x78 ∷ 0x56 ∷ 0x34 ∷ 0x12 ∷ []
four_low_bytes = refl

-- the higher bytes of a number are left out
pub one_low_byte : low_bytes 1 0x1234_5678 ≡ 0x78 ∷ []
one_low_byte = refl

pub eight_low_bytes : low_bytes 8 0x0102_0304_0506_0708 ≡ 8 ∷ 7 ∷ 6 ∷ 5 ∷ 4 ∷ 3 ∷ 2 ∷ 1 ∷ []
eight_low_bytes = refl

pub three_zeros : zeros 3 ≡ 0 ∷ 0 ∷ 0 ∷ []
three_zeros = refl

abbrev five : List ℕ
five = 1 ∷ 2 ∷ 3 ∷ 4 ∷ 5 ∷ []

pub inner_run : run five 1 3 ≡ 2 ∷ 3 ∷ 4 ∷ []
inner_run = refl

pub empty_run : run five 5 0 ≡ []
empty_run = refl

pub inner_replaced : replaced five 1 2 (8 ∷ 9 ∷ []) ≡ 1 ∷ 8 ∷ 9 ∷ 4 ∷ 5 ∷ []
inner_replaced = refl

-- what a copy to a later place takes is what stood there before
pub copied_up : replaced five 1 3 (run five 0 3) ≡ 1 ∷ 1 ∷ 2 ∷ 3 ∷ 5 ∷ []
copied_up = refl

pub copied_down : replaced five 0 3 (run five 1 3) ≡ 2 ∷ 3 ∷ 4 ∷ 4 ∷ 5 ∷ []
copied_down = refl
