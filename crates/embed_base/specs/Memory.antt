-- What files and outputs in memory are.
use Rattle.std.specs.Prelude.{ℕ, List, Option}
use Rattle.embed_base.specs.Contents.{Contents}

-- files in memory: their contents, the numbers of the calls that are to fail, how many calls were made, how many failed,
-- and the name that the last failed one was given
pub record MemoryFiles : Type 0 where
  pub files : Contents
  pub fail_at : List ℕ
  pub calls : ℕ
  pub faults : ℕ
  pub failed : Option (List ℕ)

-- an output in memory: how much it takes in a call at most, the numbers of the calls that are to fail, how many calls were
-- made, how many failed, and the bytes that were taken
pub record MemorySink : Type 0 where
  pub most : ℕ
  pub fail_at : List ℕ
  pub calls : ℕ
  pub faults : ℕ
  pub bytes : List ℕ

-- what is told of the files of a system
pub record FileCounts : Type 0 where
  pub faults : ℕ
  pub taken : ℕ
  pub failed : Option (List ℕ)
