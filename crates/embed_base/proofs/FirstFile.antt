-- The first file of a name, found by a loop over the files.
use Rattle.std.proofs.Common.{◌≡◌, ℕ, ◌+◌, ◌<◌, List, ◌∷◌, length, drop, get_or, true, false, Some, Option, refl, sym, ap, ◌∙◌, string_bytes}
use Rattle.std.proofs.lemmas.List.{at_drop_more}
use Rattle.std.specs.Str.{bytes_eq}
use Rattle.std.specs.declared.alloc.Global.{Global}
use Rattle.std.specs.declared.string.String.{String}
use Rattle.std.specs.declared.vec.Vec.{Vec}
use Rattle.embed_base.specs.Contents.{contents_of, content_of}

abbrev pub File : Type 0
File = String Global × Vec ℕ Global

abbrev pub content_in : List ℕ → List File → Option (List ℕ)
content_in name files = content_of (contents_of files) name

-- what is found in the files from one on, of which the first is given
pub at_file : (files : List File) (i : ℕ) (x : File) (name : List ℕ) → i < length files → x ≡ get_or files i x → content_in name (drop i files) ≡ content_in name (x ∷ drop (i + 1) files)
at_file files i x name lt is = at_drop_more (content_in name) files i x lt ∙ ap (λ v. content_in name (v ∷ drop (i + 1) files)) (sym is)

pub found_here : (files : List File) (i : ℕ) (x : File) (name : List ℕ) → i < length files → x ≡ get_or files i x → bytes_eq (string_bytes x.0) name ≡ true → content_in name (drop i files) ≡ Some x.1.items
found_here files i x name lt is t = at_file files i x name lt is ∙ rw t refl

pub not_here : (files : List File) (i : ℕ) (x : File) (name : List ℕ) → i < length files → x ≡ get_or files i x → bytes_eq (string_bytes x.0) name ≡ false → content_in name (drop i files) ≡ content_in name (drop (i + 1) files)
not_here files i x name lt is t = at_file files i x name lt is ∙ rw t refl
