-- The contents of named files.
use Rattle.std.specs.Prelude.{ℕ, List, [], ◌∷◌, Option, Some, None, map, string_bytes, if◌then◌else◌, unwrap_or}
use Rattle.std.specs.Str.{bytes_eq}
use Rattle.std.specs.declared.alloc.Global.{Global}
use Rattle.std.specs.declared.string.String.{String}
use Rattle.std.specs.declared.vec.Vec.{Vec}

-- files as pairs of a name and the bytes
abbrev pub Contents : Type 0
Contents = List (List ℕ × List ℕ)

-- the content of the first file of a name
abbrev pub content_of : Contents → List ℕ → Option (List ℕ)
content_of [] name = None
content_of (file ∷ files) name = if bytes_eq file.0 name then Some file.1 else content_of files name

-- the content of the first file of a name, where a file that isn't there is empty
abbrev pub content_or_empty : Contents → List ℕ → List ℕ
content_or_empty files name = unwrap_or (content_of files name) []

-- the files that a list of names and bytes gives
abbrev pub contents_of : List (String Global × Vec ℕ Global) → Contents
contents_of files = map (λ file. (string_bytes file.0, file.1.items)) files
