-- Laws of the integer operations, at every width N. `src/laws.rt` has a function for each, whose contract is the law.
use Rattle.std.specs.Prelude.{◌≡◌, ℕ, ◌+◌, ◌-◌, ◌*◌, ◌/◌, ◌%◌, ◌^◌, ◌<◌, ◌≤◌, Ok}
use Rattle.wasm_num.specs.Integers.{signed, unsigned, ibits, of_ibits, iadd, imul, idiv_s, idiv_u, irem_s, irem_u, ishl, ishr_s, ishr_u, irotl, irotr, ixor, ipopcnt, wrap, extend_s, extend_u}
use Rattle.std.specs.Int.{int_shr}

-- (a / b) * b + a rem b = a, where neither traps
abbrev pub UnsignedQuotientTimesDivisor : Type 0
UnsignedQuotientTimesDivisor = (N a b q r : ℕ) → a < 2 ^ N → b < 2 ^ N → idiv_u N a b ≡ Ok q → irem_u N a b ≡ Ok r → iadd N (imul N q b) r ≡ a

abbrev pub SignedQuotientTimesDivisor : Type 0
SignedQuotientTimesDivisor = (N a b q r : ℕ) → 0 < N → a < 2 ^ N → b < 2 ^ N → idiv_s N a b ≡ Ok q → irem_s N a b ≡ Ok r → iadd N (imul N q b) r ≡ a

-- a rotation and the same one back
abbrev pub LeftThenRight : Type 0
LeftThenRight = (N a k : ℕ) → 0 < N → a < 2 ^ N → irotr N (irotl N a k) k ≡ a

abbrev pub RightThenLeft : Type 0
RightThenLeft = (N a k : ℕ) → 0 < N → a < 2 ^ N → irotl N (irotr N a k) k ≡ a

-- from M bits to N and back
abbrev pub SignedExtensionThenWrap : Type 0
SignedExtensionThenWrap = (M N a : ℕ) → M ≤ N → a < 2 ^ M → wrap M (extend_s M N a) ≡ a

abbrev pub UnsignedExtensionThenWrap : Type 0
UnsignedExtensionThenWrap = (M N a : ℕ) → M ≤ N → a < 2 ^ M → wrap M (extend_u M N a) ≡ a

-- each digit is 1 in a or in its complement, which is a xor -1
abbrev pub OnesAndZeros : Type 0
OnesAndZeros = (N a : ℕ) → a < 2 ^ N → ipopcnt N a + ipopcnt N (ixor N a (2 ^ N - 1)) ≡ N

-- a number's digits, and its signed reading, tell which number it is
abbrev pub DigitsTellNumber : Type 0
DigitsTellNumber = (N a : ℕ) → a < 2 ^ N → of_ibits (ibits N a) ≡ a

abbrev pub ReadingTellsNumber : Type 0
ReadingTellsNumber = (N a : ℕ) → a < 2 ^ N → unsigned N (signed N a) ≡ a

-- a shift by k multiplies by 2 ^ k, or divides by it and rounds down
abbrev pub LeftShiftMultiplies : Type 0
LeftShiftMultiplies = (N a k : ℕ) → k < N → ishl N a k ≡ a * 2 ^ k % 2 ^ N

abbrev pub UnsignedShiftDivides : Type 0
UnsignedShiftDivides = (N a k : ℕ) → k < N → a < 2 ^ N → ishr_u N a k ≡ a / 2 ^ k

abbrev pub SignedShiftDivides : Type 0
SignedShiftDivides = (N a k : ℕ) → k < N → a < 2 ^ N → ishr_s N a k ≡ unsigned N (int_shr (signed N a) k)
