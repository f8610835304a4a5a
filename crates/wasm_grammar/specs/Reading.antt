-- Private: reading from left to right, as functions on lists of bytes.
use Rattle.std.specs.Prelude.{ℕ, ◌+◌, ◌-◌, ◌*◌, ◌^◌, List, [], ◌∷◌, length, take, drop, Option, Some, None, nat_lt, ◌==◌, if◌then◌else◌}
use Rattle.std.specs.Str.{is_utf8}

infixl 10 ◌>>=◌
abbrev pub ◌>>=◌ : {A B : Type 0} → Option A → (A → Option B) → Option B
(Some x) >>= f = f x
None >>= f = None

-- ---- numbers, parts and names

-- a number of at most so many groups, on top of a sum of the groups before, and the end of its range
unfoldable pub leb_at : (sum unit : ℕ) → List ℕ → (most : ℕ) → Option ((ℕ × ℕ) × List ℕ)
leb_at sum unit [] most = None
leb_at sum unit (b ∷ bytes) most =
    if most == 0 then None else
    if nat_lt b 128 then Some ((sum + b * unit, 128 * unit), bytes) else
    leb_at (sum + (b - 128) * unit) (128 * unit) bytes (most - 1)

unfoldable pub u32_at : List ℕ → Option (ℕ × List ℕ)
u32_at bytes = leb_at 0 1 bytes 5 >>= λ x. if nat_lt x.0.0 (2 ^ 32) then Some (x.0.0, x.1) else None

abbrev pub word_of : (half top n : ℕ) → Option ℕ
word_of half top n =
    if nat_lt (n + n) top then (if nat_lt n half then Some n else None) else
    if nat_lt (n + half) top then None else Some (n + half + half - top)

unfoldable pub signed_at : (most half : ℕ) → List ℕ → Option (ℕ × List ℕ)
signed_at most half bytes = leb_at 0 1 bytes most >>= λ x. word_of half x.0.1 x.0.0 >>= λ word. Some (word, x.1)

abbrev pub s32_at : List ℕ → Option (ℕ × List ℕ)
s32_at = signed_at 5 (2 ^ 31)

abbrev pub s64_at : List ℕ → Option (ℕ × List ℕ)
s64_at = signed_at 10 (2 ^ 63)

unfoldable pub type_index_at : List ℕ → Option (ℕ × List ℕ)
type_index_at bytes = leb_at 0 1 bytes 5 >>= λ x. if nat_lt (x.0.0 + x.0.0) x.0.1 then (if nat_lt x.0.0 (2 ^ 32) then Some (x.0.0, x.1) else None) else None

-- so many bytes as a size tells
unfoldable pub part_at : List ℕ → Option (List ℕ × List ℕ)
part_at bytes = u32_at bytes >>= λ n. if nat_lt (length n.1) n.0 then None else Some (take n.0 n.1, drop n.0 n.1)

unfoldable pub name_at : List ℕ → Option (List ℕ × List ℕ)
name_at bytes = part_at bytes >>= λ x. if is_utf8 x.0 then Some x else None

-- what stands behind a sized part that begins with a name
abbrev pub custom_at : List ℕ → Option (List ℕ)
custom_at bytes = part_at bytes >>= λ x. name_at x.0 >>= λ name. Some x.1

-- so many bytes
abbrev pub run_at : ℕ → List ℕ → Option (List ℕ × List ℕ)
run_at n bytes = if nat_lt (length bytes) n then None else Some (take n bytes, drop n bytes)
