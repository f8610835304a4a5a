-- What the module files of a run decode to.
use Rattle.std.specs.Prelude.{◌≡◌, List, [], ◌∷◌}
use Rattle.wasm_grammar.specs.Decoding.{Decodes}
use Rattle.embed_script.specs.declared.module_file.ModuleFile.{ModuleFile}
use Rattle.embed_script.specs.Functions.{Modules}

-- these are the files' names and what their bytes decode to, in the files' order
abbrev pub AreDecodings : List ModuleFile → Modules → Type 0
AreDecodings [] [] = Unit {0}
AreDecodings (f ∷ fs) (m ∷ ms) = (f.name ≡ m.0) × Decodes f.bytes.items m.1 × AreDecodings fs ms
AreDecodings _ _ = ⊥
