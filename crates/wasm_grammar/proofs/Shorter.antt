-- A number takes a byte at least.
use Rattle.std.proofs.Common.{◌≡◌, ℕ, ◌<◌, List, [], ◌∷◌, length, Some, ap, arith, length-append}
use Rattle.wasm_grammar.specs.Leb128.{IsLeb128}
use Rattle.wasm_grammar.specs.Reading.{u32_at}
use Rattle.wasm_grammar.proofs.Integers.{u32_reads}

some_groups : (front : List ℕ) (n : ℕ) → IsLeb128 front n → 0 < length front
some_groups [] n h = absurd h
some_groups (b ∷ front) n h = omega arith

pub u32_shorter : (bytes : List ℕ) (x : ℕ × List ℕ) → u32_at bytes ≡ Some x → length x.1 < length bytes
u32_shorter bytes x e =
    let t = u32_reads.takes 0 bytes x e in
    omega (arith, some_groups t.front x.0 t.is_form.groups, ap length t.parts, length-append t.front x.1)
