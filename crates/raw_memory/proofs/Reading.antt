-- A borrow of a block's bytes becomes what its readers hold.
use Rattle.std.proofs.Common.{ℕ, ◌+◌, List, [], ◌∷◌, length}
use seplogic.Ra.Ura.{Ura}
use base.Fraction.{full_share}
use base.Fml.{Lft, ffalse, ftrue, fsep, froom}
use contract.BorrowLft.{⊑_static}
use ghost.Rules.{span}
use types.Logic.{Logic}
use types.SemTy.{cells}
use denote.Builtin.{u8}
use mir.Syntax.{w8}
use denote.Memory.{mem, part_at, shared_of}
use denote.Plain.{uint_row_laws}
use denote.RawPtr.{Ptr, block_ptr, null_ptr}
use denote.Param.Shared.{copy_shared}
use denote.Struct.Field.{u8-field}
use denote.Struct.Laws.{u8-copy}
use denote.Sharing.{ShrLaws, said}
use denote.SharingLaws.{beside_shr_laws, said_shr_laws}
use denote.Slice.{elements_shared, elements_shr_laws}
use denote.Struct.Lending.{Lends, Lends-both, Lends-first, Lends-nothing, Lends-said, Lends-false}
use Rattle.raw_memory.specs.Ownership.{places, fits, bytes_owned, bytes_lent}

-- readers may be many, and each may stop early
pub bytes_lent_laws : (p : Ptr) (bytes : List ℕ) (spare : ℕ) → ShrLaws (bytes_lent p bytes spare)
bytes_lent_laws (block_ptr b o) bytes spare =
    beside_shr_laws (said (fits bytes spare)) (elements_shared u8 bytes b o) (said_shr_laws (fits bytes spare) tt) (elements_shr_laws u8 (uint_row_laws w8) bytes b o)
bytes_lent_laws null_ptr bytes spare = said_shr_laws ffalse tt

module _ {M : Type 1} {𝓤 : Ura M} (𝓛 : Logic 𝓤) (l : Lft) where
  each_byte : (bytes : List ℕ) (b o : ℕ) → Lends 𝓛 (cells (mem u8) bytes b o) (elements_shared u8 bytes b o) l
  each_byte [] b o = Lends-nothing 𝓛 ftrue l
  each_byte (x ∷ xs) b o =
      Lends-both 𝓛 (part_at u8 full_share x b o) (cells (mem u8) xs b (o + 1)) (shared_of u8 x b o) (elements_shared u8 xs b (o + 1)) l
      (λ κ ts within. (copy_shared u8-field u8-copy).shares M 𝓤 𝓛 x κ ts b o (⊑_static (span ts))) (each_byte xs b (o + 1))

  pub Lends-bytes : (p : Ptr) (bytes : List ℕ) (spare : ℕ) → Lends 𝓛 (bytes_owned p bytes spare) (bytes_lent p bytes spare) l
  Lends-bytes (block_ptr b o) bytes spare =
      let own = cells (mem u8) bytes b o in let room = froom (places spare) b (length bytes + o) in
      Lends-both 𝓛 (fits bytes spare) (fsep own room) (said (fits bytes spare)) (elements_shared u8 bytes b o) l (Lends-said 𝓛 (fits bytes spare) tt l)
      (Lends-first 𝓛 own room (elements_shared u8 bytes b o) l (each_byte bytes b o))
  Lends-bytes null_ptr bytes spare = Lends-false 𝓛 (said ffalse) l
