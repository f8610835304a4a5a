-- A fact for one answer of a call to the outside world.
use Rattle.std.specs.Prelude.{Bool, true, Result, Ok, Err}
use Rattle.embed_base.specs.declared.files.FileError.{FileError}
use Rattle.embed_base.specs.declared.files.FileError.TheVariants as files
use Rattle.embed_base.specs.declared.sink.SinkError.{SinkError}
use Rattle.embed_base.specs.declared.sink.SinkError.TheVariants as sinks

-- a fact that holds where a read failed
abbrev pub OnFailedRead : {A : Type 0} → Result A FileError → Type 0 → Type 0
OnFailedRead (Err files.Failed) P = P
OnFailedRead _ P = Unit {0}

-- a fact that holds where a read gave any answer but that it failed
abbrev pub UnlessFailedRead : {A : Type 0} → Result A FileError → Type 0 → Type 0
UnlessFailedRead (Err files.Failed) P = Unit {0}
UnlessFailedRead _ P = P

-- a fact that holds where the content was too long
abbrev pub OnTooLong : {A : Type 0} → Result A FileError → Type 0 → Type 0
OnTooLong (Err files.TooLong) P = P
OnTooLong _ P = Unit {0}

-- the content was too long, or memory ran out
abbrev pub IsTooLongOrNoMemory : {A : Type 0} → Result A FileError → Type 0
IsTooLongOrNoMemory (Err files.TooLong) = Unit {0}
IsTooLongOrNoMemory (Err files.NoMemory) = Unit {0}
IsTooLongOrNoMemory _ = ⊥

-- the read failed, or memory ran out
abbrev pub IsFailedOrNoMemory : {A : Type 0} → Result A FileError → Type 0
IsFailedOrNoMemory (Err files.Failed) = Unit {0}
IsFailedOrNoMemory (Err files.NoMemory) = Unit {0}
IsFailedOrNoMemory _ = ⊥

-- a fact that holds where a write failed
abbrev pub OnFailedWrite : {A : Type 0} → Result A SinkError → Type 0 → Type 0
OnFailedWrite (Err sinks.Failed) P = P
OnFailedWrite _ P = Unit {0}

-- a fact that holds where a write gave any answer but that it failed
abbrev pub UnlessFailedWrite : {A : Type 0} → Result A SinkError → Type 0 → Type 0
UnlessFailedWrite (Err sinks.Failed) P = Unit {0}
UnlessFailedWrite _ P = P

-- a fact that holds where the answer is true
abbrev pub OnTrue : {E : Type 0} → Result Bool E → Type 0 → Type 0
OnTrue (Ok true) P = P
OnTrue _ P = Unit {0}
