-- Private: what a block holds once the slice that it lent has ended.
use Rattle.std.specs.Prelude.{ℕ, List, length}
use Rattle.std.specs.Borrow.{Fml, MutBor, Array, Lends, u8}
use Rattle.std.specs.List.{refill}
use Rattle.raw_memory.specs.declared.block.BlockBytes.{BlockBytes}
use Rattle.raw_memory.specs.contracts.block.BlockBytes.{the_row}

-- the same block with other bytes
abbrev pub with_bytes : BlockBytes → List ℕ → BlockBytes
with_bytes c bytes = record { mark = c.mark; at = c.at; bytes = bytes; spare = c.spare }

-- it holds what was last in the slice r
abbrev pub lends_bytes : MutBor BlockBytes → MutBor (List ℕ) → Fml
lends_bytes c r = Lends the_row (Array u8 0) c r (λ ws. with_bytes c.now (refill (length c.now.bytes) c.now.bytes ws))
