-- Counts of what happened outside. They never fall, and at their last value they stand.
use Rattle.std.specs.Prelude.{◌≡◌, ℕ, ◌+◌, ◌-◌, ◌^◌, ◌<◌, ◌⊎◌, min}

-- the last value of a counter
abbrev pub last_count : ℕ
last_count = 2 ^ 64 - 1

-- a count rose: it is greater than before, or stands at its last value
abbrev pub Rose : ℕ → ℕ → Type 0
Rose before after = (before < after) ⊎ (after ≡ last_count)

-- a count rose by more than an amount, or stands at its last value
abbrev pub RoseByMore : ℕ → ℕ → ℕ → Type 0
RoseByMore before after amount = (before + amount < after) ⊎ (after ≡ last_count)

-- a count after it rose by an amount
abbrev pub raised : ℕ → ℕ → ℕ
raised count amount = min (count + amount) last_count
