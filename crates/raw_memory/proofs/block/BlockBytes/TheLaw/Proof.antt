-- A `&` to the bytes is made of a borrow of the block.
use denote.RawPtr.{RawPtr}
use denote.Param.Shared.{copy_shared}
use denote.Struct.Laws.{field_copy}
use denote.Struct.Lending.{of_Lends}
use Rattle.std.specs.contracts.marker.PhantomData as marker
use Rattle.raw_memory.specs.contracts.block.BlockBytes as C
use Rattle.raw_memory.proofs.block.BlockBytes.TheLaw.Statement.{statement}
use Rattle.raw_memory.proofs.Reading.{bytes_lent_laws, Lends-bytes}

pub shares : statement
shares = of_Lends C.struct (C.the_codes (marker.the_row RawPtr).coded) C.the_heap C.the_lent
    (λ c p. bytes_lent_laws c.at c.bytes c.spare) (copy_shared (marker.the_field RawPtr) (field_copy (marker.the_type RawPtr) tt), tt)
    (λ M 𝓤 𝓛 c p. Lends-bytes 𝓛 C.the_row.lives c.at c.bytes c.spare)
