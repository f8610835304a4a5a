-- The file with a name, and the function that a module exports by a name.
use Rattle.std.proofs.Common.{◌≡◌, ℕ, ◌+◌, ◌<◌, List, [], ◌∷◌, Option, Some, None, false, cond, length, drop, get_or, sym, ap, ◌∙◌, subst}
use Rattle.std.proofs.lemmas.List.{drop_more}
use Rattle.std.specs.Str.{bytes_eq}
use Rattle.wasm_grammar.specs.Decoding.{Decoded, Decodes}
use Rattle.embed_script.specs.declared.module_file.ModuleFile.{ModuleFile}
use Rattle.embed_script.specs.Functions.{Modules, decoded_of}
use Rattle.embed_script.specs.ModuleFiles.{AreDecodings}

-- the files that are left, and what a name is among them
pub record FilesLeft (files : List ModuleFile) (answer : Option Decoded) (name : List ℕ) : Type 0 where
  pub rest : Modules
  pub decoded : AreDecodings files rest
  pub gives : answer ≡ decoded_of rest name

-- the first of the files that are left
pub record FirstFile (file : ModuleFile) (files : List ModuleFile) (answer : Option Decoded) (name : List ℕ) : Type 0 where
  pub first : Decoded
  pub rest : Modules
  pub decodes : Decodes file.bytes.items first
  pub decoded : AreDecodings files rest
  pub gives : answer ≡ cond (bytes_eq file.name name) (Some first) (decoded_of rest name)

first_of : (file : ModuleFile) (files : List ModuleFile) (answer : Option Decoded) (name : List ℕ) (modules : Modules) → AreDecodings (file ∷ files) modules → answer ≡ decoded_of modules name → FirstFile file files answer name
first_of file files answer name [] decoded gives = absurd decoded
first_of file files answer name (m ∷ ms) decoded gives = record {
  first = m.1;
  rest = ms;
  decodes = decoded.1;
  decoded = decoded.2;
  gives = gives ∙ ap (λ n. cond (bytes_eq n name) (Some m.1) (decoded_of ms name)) (sym decoded.0);
}

pub first_file : (files : List ModuleFile) (i : ℕ) (file : ModuleFile) (answer : Option Decoded) (name : List ℕ) → i < length files → file ≡ get_or files i file → FilesLeft (drop i files) answer name → FirstFile file (drop (i + 1) files) answer name
first_file files i file answer name within is h =
    subst (λ f. FirstFile f (drop (i + 1) files) answer name) (sym is)
    (first_of (get_or files i file) (drop (i + 1) files) answer name h.rest (subst (λ fs. AreDecodings fs h.rest) (drop_more files i file within) h.decoded) h.gives)

-- it isn't
pub file_passed : (file : ModuleFile) (files : List ModuleFile) (answer : Option Decoded) (name : List ℕ) → FirstFile file files answer name → bytes_eq file.name name ≡ false → FilesLeft files answer name
file_passed file files answer name h other = record { rest = h.rest; decoded = h.decoded; gives = h.gives ∙ ap (λ b. cond b (Some h.first) (decoded_of h.rest name)) other }

none_there : (answer : Option Decoded) (name : List ℕ) (modules : Modules) → AreDecodings [] modules → answer ≡ decoded_of modules name → answer ≡ None
none_there answer name [] decoded gives = gives
none_there answer name (m ∷ ms) decoded gives = absurd decoded
