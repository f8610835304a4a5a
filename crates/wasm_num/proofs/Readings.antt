-- The signed reading of a number, in the words of std.
use Rattle.std.proofs.Common.{◌≡◌, ℕ, suc, ◌-◌, ◌^◌, ◌<◌, Bool, true, false, cond, ltb, refl, arith}
use Rattle.std.proofs.Math.IntN.{ℤ, pos, negsuc, ◌-ℤ◌}
use Rattle.std.proofs.lemmas.Int.{ints}
use Rattle.std.specs.Int.{w32, w64, cast_signed, cast_unsigned}
use mir.Val.{sel}
use Rattle.wasm_num.specs.Integers.{signed, unsigned}

same_test : (b : Bool) (x y z : ℤ) → y ≡ z → cond b x y ≡ sel b x z
same_test true x y z e = refl
same_test false x y z e = e

pub signed_is : (N n : ℕ) → n < 2 ^ N → signed N n ≡ sel (ltb n (2 ^ (N - 1))) (pos n) (negsuc (2 ^ N - suc n))
signed_is N n h =
    let below : pos n -ℤ pos (2 ^ N) ≡ negsuc (2 ^ N - suc n) = omega (arith, ints) in
    same_test (ltb n (2 ^ (N - 1))) (pos n) (pos n -ℤ pos (2 ^ N)) (negsuc (2 ^ N - suc n)) below

pub signed_32 : (n : ℕ) → n < 2 ^ 32 → signed 32 n ≡ cast_signed w32 n
signed_32 n h = signed_is 32 n h

pub signed_64 : (n : ℕ) → n < 2 ^ 64 → signed 64 n ≡ cast_signed w64 n
signed_64 n h = signed_is 64 n h

pub unsigned_32 : (z : ℤ) → unsigned 32 z ≡ cast_unsigned w32 z
unsigned_32 (pos n) = refl
unsigned_32 (negsuc n) = refl

pub unsigned_64 : (z : ℤ) → unsigned 64 z ≡ cast_unsigned w64 z
unsigned_64 (pos n) = refl
unsigned_64 (negsuc n) = refl
