-- Private: what stands behind the pointer of a block, for the one who owns it and for one who reads it.
use Rattle.std.specs.Prelude.{ℕ, ◌+◌, ◌^◌, List, length}
use base.Fml.{Lft, Fml, ffalse, fsep, flt, froom}
use mir.Syntax.{Ty, w8, ty_int, ty_array}
use types.SemTy.{cells}
use denote.Builtin.{u8}
use denote.Memory.{mem}
use denote.RawPtr.{Ptr, block_ptr, null_ptr}
use denote.Sharing.{said, beside}
use denote.Slice.{elements_shared}

-- n places of one byte
abbrev pub places : ℕ → Ty
places n = ty_array (ty_int w8) n

-- the block ends below 2 ^ 63
abbrev pub fits : List ℕ → ℕ → Fml
fits bytes spare = flt (length bytes + spare) (2 ^ 63)

-- the bytes lie at p, and behind them is room for as many as are spare
abbrev pub bytes_owned : Ptr → List ℕ → ℕ → Fml
bytes_owned (block_ptr b o) bytes spare = fsep (fits bytes spare) (fsep (cells (mem u8) bytes b o) (froom (places spare) b (length bytes + o)))
bytes_owned null_ptr bytes spare = ffalse

-- a reader sees the bytes alone
abbrev pub bytes_lent : Ptr → List ℕ → ℕ → Lft → Fml
bytes_lent (block_ptr b o) bytes spare = beside (said (fits bytes spare)) (elements_shared u8 bytes b o)
bytes_lent null_ptr bytes spare = said ffalse

-- the allocator's token for the block of n places at p
abbrev pub right_owned : (Ty → Ptr → Fml) → Ptr → ℕ → Fml
right_owned token p n = token (places n) p
