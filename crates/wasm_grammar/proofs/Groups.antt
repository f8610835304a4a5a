-- Reading groups of seven bits one after the other, as a loop does.
use Rattle.std.proofs.Common.{◌≡◌, ℕ, zero, suc, ◌+◌, ◌-◌, ◌*◌, ◌^◌, ◌<◌, ◌≤◌, false, eqb, List, [], ◌∷◌, Option, Some, None, refl, sym, ◌∙◌, arith, lit≤}
use Rattle.std.proofs.Math.Nat.{mul-le-mul_right}
use Rattle.std.proofs.lemmas.Bool.{le-ltb, lt-ltb, ne_eqb}
use Rattle.wasm_grammar.specs.Reading.{leb_at}
use Rattle.wasm_grammar.proofs.Integers.{powers}

module _ (sum unit most i : ℕ) (bytes : List ℕ) (total : Option ((ℕ × ℕ) × List ℕ)) (goes_on : leb_at sum unit bytes (most - i) ≡ total) where
  -- no bytes are left
  pub none_left : bytes ≡ [] → total ≡ None
  unfolding leb_at
  none_left e = sym goes_on ∙ rw e refl

  -- no group more may be read
  pub none_more : most ≤ i → total ≡ None
  unfolding leb_at
  none_more le = let k : most - i ≡ 0 = omega arith in sym goes_on ∙ rw k (none_at bytes)
    where
      none_at : (bytes : List ℕ) → leb_at sum unit bytes 0 ≡ None
      none_at [] = refl
      none_at (b ∷ bs) = refl

  module _ (b : ℕ) (next : List ℕ) (lt : i < most) (is : bytes ≡ b ∷ next) where
    pub last_group : b < 128 → total ≡ Some ((sum + b * unit, 128 * unit), next)
    unfolding leb_at
    last_group small =
        let p : eqb (most - i) 0 ≡ false = ne_eqb (most - i) 0 (omega arith) in
        let one : leb_at sum unit bytes (most - i) ≡ Some ((sum + b * unit, 128 * unit), next) = rw (is, p, lt-ltb b 128 small) refl in
        sym goes_on ∙ one

    pub next_group : 128 ≤ b → leb_at (sum + (b - 128) * unit) (unit * 128) next (most - (i + 1)) ≡ total
    unfolding leb_at
    next_group large =
        let p : eqb (most - i) 0 ≡ false = ne_eqb (most - i) 0 (omega arith) in
        let k : most - i - 1 ≡ most - (i + 1) = omega arith in
        let u : 128 * unit ≡ unit * 128 = omega arith in
        let one : leb_at sum unit bytes (most - i) ≡ leb_at (sum + (b - 128) * unit) (unit * 128) next (most - (i + 1)) = rw (is, p, le-ltb b 128 large, k, u) refl in
        sym one ∙ goes_on

-- ---- bounds

-- one group more than these is below 2 ^ 70
pub small_unit : (i : ℕ) → i < 10 → 128 * 128 ^ i ≤ 2 ^ 70
small_unit zero lt = lit≤ tt
small_unit (suc zero) lt = lit≤ tt
small_unit (suc (suc zero)) lt = lit≤ tt
small_unit (suc (suc (suc zero))) lt = lit≤ tt
small_unit (suc (suc (suc (suc zero)))) lt = lit≤ tt
small_unit (suc (suc (suc (suc (suc zero))))) lt = lit≤ tt
small_unit (suc (suc (suc (suc (suc (suc zero)))))) lt = lit≤ tt
small_unit (suc (suc (suc (suc (suc (suc (suc zero))))))) lt = lit≤ tt
small_unit (suc (suc (suc (suc (suc (suc (suc (suc zero)))))))) lt = lit≤ tt
small_unit (suc (suc (suc (suc (suc (suc (suc (suc (suc zero))))))))) lt = lit≤ tt
small_unit (suc (suc (suc (suc (suc (suc (suc (suc (suc (suc i)))))))))) lt = absurd (omega arith)

pub group_fits : (sum unit b : ℕ) → sum < unit → b < 128 → sum + b * unit < 128 * unit
group_fits sum unit b lt small = let le : b ≤ 127 = omega arith in omega (arith, mul-le-mul_right unit le)

pub unit_more : (unit i : ℕ) → unit ≡ 128 ^ i → unit * 128 ≡ 128 ^ (i + 1)
unit_more unit i e = let k : i + 1 ≡ suc i = omega arith in rw (k, powers i, e) (omega arith)

pub record UnitBounds (sum unit most i b : ℕ) : Type 0 where
  pub small : 128 * unit ≤ 2 ^ 70
  pub group : b * unit ≤ 255 * unit
  pub high : (b - 128) * unit ≤ 127 * unit

pub unit_bounds : (sum unit most i b : ℕ) → unit ≡ 128 ^ i → i < most → most ≤ 10 → b < 256 → UnitBounds sum unit most i b
unit_bounds sum unit most i b e lt le byte =
    let high : b - 128 ≤ 127 = omega arith in
    let any : b ≤ 255 = omega arith in
    record { small = rw e (small_unit i (omega arith)); group = mul-le-mul_right unit any; high = mul-le-mul_right unit high }
