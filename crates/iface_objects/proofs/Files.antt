-- The first file of a name, found by a loop over the files.
use Rattle.std.proofs.Common.{◌≡◌, ℕ, ◌+◌, ◌<◌, true, false, List, ◌∷◌, length, drop, get_or, refl, sym, ap, ◌∙◌}
use Rattle.std.specs.Prelude.{Some}
use Rattle.std.specs.Str.{bytes_eq}
use Rattle.std.proofs.lemmas.List.{at_drop_more}
use Rattle.iface_objects.specs.Modules.{file_named}
use Rattle.iface_objects.specs.declared.file.ModuleFile.{ModuleFile}

at_file : (files : List ModuleFile) (i : ℕ) (x : ModuleFile) (name : List ℕ) → i < length files → x ≡ get_or files i x → file_named (drop i files) name ≡ file_named (x ∷ drop (i + 1) files) name
at_file files i x name lt is = at_drop_more (λ (fs : List ModuleFile). file_named fs name) files i x lt ∙ ap (λ (v : ModuleFile). file_named (v ∷ drop (i + 1) files) name) (sym is)

pub found_here : (files : List ModuleFile) (i : ℕ) (x : ModuleFile) (name : List ℕ) → i < length files → x ≡ get_or files i x → bytes_eq x.name name ≡ true → file_named (drop i files) name ≡ Some x.bytes
found_here files i x name lt is t = at_file files i x name lt is ∙ rw t refl

pub not_here : (files : List ModuleFile) (i : ℕ) (x : ModuleFile) (name : List ℕ) → i < length files → x ≡ get_or files i x → bytes_eq x.name name ≡ false → file_named (drop i files) name ≡ file_named (drop (i + 1) files) name
not_here files i x name lt is t = at_file files i x name lt is ∙ rw t refl
