-- What a call does on files and outputs in memory, where memory doesn't run out.
use Rattle.std.specs.Prelude.{◌≡◌, ◌<◌, ◌≤◌, ℕ, ◌==◌, ◌++◌, Bool, true, false, List, [], Option, Some, None, IsSomeAnd, Result, Ok, Err, if◌then◌else◌, length, min, take}
use Rattle.std.specs.List.{list_any}
use Rattle.embed_base.specs.Counts.{raised}
use Rattle.embed_base.specs.Contents.{content_of}
use Rattle.embed_base.specs.Memory.{MemoryFiles, MemorySink}
use Rattle.embed_base.specs.declared.files.FileError.{FileError}
use Rattle.embed_base.specs.declared.files.FileError.TheVariants as files
use Rattle.embed_base.specs.declared.sink.SinkError.{SinkError}
use Rattle.embed_base.specs.declared.sink.SinkError.TheVariants as sinks

-- the call of this number is among those that are to fail
abbrev pub is_to_fail : ℕ → List ℕ → Bool
is_to_fail call numbers = list_any (λ n. n == call) numbers

-- ---- files

-- the content that the read of a number finds: none where it is to fail, or where the name isn't there
abbrev pub found_at : MemoryFiles → ℕ → List ℕ → Option (List ℕ)
found_at s call name = if is_to_fail call s.fail_at then None else content_of s.files name

abbrev pub found_by : MemoryFiles → List ℕ → Option (List ℕ)
found_by s name = found_at s s.calls name

-- the files after one more call
abbrev pub after_read : MemoryFiles → MemoryFiles
after_read s = record s { calls = raised s.calls 1 }

-- the files after one more call, which failed
abbrev pub after_failed_read : MemoryFiles → List ℕ → MemoryFiles
after_failed_read s name = record s { calls = raised s.calls 1; faults = raised s.faults 1; failed = Some name }

-- a read of a name within a limit gives an answer, bytes, and files afterwards
abbrev pub ReadGives : MemoryFiles → List ℕ → ℕ → Result (Unit {0}) FileError → List ℕ → MemoryFiles → Type 0
ReadGives s name limit (Ok _) bytes after = (found_by s name ≡ Some bytes) × (length bytes ≤ limit) × (after ≡ after_read s)
ReadGives s name limit (Err files.Failed) bytes after = (bytes ≡ []) × (found_by s name ≡ None) × (after ≡ after_failed_read s name)
ReadGives s name limit (Err files.TooLong) bytes after = (bytes ≡ []) × IsSomeAnd (found_by s name) (λ content. limit < length content) × (after ≡ after_read s)
ReadGives s name limit (Err files.NoMemory) bytes after = (bytes ≡ []) × (after ≡ after_read s)

-- ---- outputs

-- the output after one more call, which took this many bytes of a piece
abbrev pub after_write : MemorySink → ℕ → List ℕ → MemorySink
after_write s size piece = record s { calls = raised s.calls 1; bytes = s.bytes ++ take size piece }

-- the output after one more call, which failed
abbrev pub after_failed_write : MemorySink → MemorySink
after_failed_write s = record s { calls = raised s.calls 1; faults = raised s.faults 1 }

-- a write of a piece gives an answer and an output afterwards
abbrev pub WriteGives : MemorySink → List ℕ → Result ℕ SinkError → MemorySink → Type 0
WriteGives s piece (Ok size) after = (is_to_fail s.calls s.fail_at ≡ false) × (size ≡ min (length piece) s.most) × (after ≡ after_write s size piece)
WriteGives s piece (Err sinks.Failed) after = (is_to_fail s.calls s.fail_at ≡ true) × (after ≡ after_failed_write s)
WriteGives s piece (Err sinks.NoMemory) after = after ≡ record s { calls = raised s.calls 1 }
