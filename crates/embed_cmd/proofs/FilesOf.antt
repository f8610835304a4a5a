-- The files of modules, and what they decode to.
use Rattle.std.proofs.Common.{◌≡◌, ℕ, ◌+◌, ◌<◌, List, [], ◌∷◌, ◌++◌, Option, Some, None, IfSome, IsSome, IsSomeAnd, length, take, get_or, refl, sym, ap, ◌∙◌, subst, inl, inr}
use Rattle.std.proofs.lemmas.List.{take_more}
use Rattle.wasm_grammar.specs.Decoding.{Decoded, Decodes}
use Rattle.embed_script.specs.declared.module_file.ModuleFile.{ModuleFile}
use Rattle.embed_script.specs.Functions.{Modules}
use Rattle.embed_script.specs.ModuleFiles.{AreDecodings}
use Rattle.embed_cmd.specs.Transcript.{Contents, IsOfSome, module_files, AreDecoded}
use Rattle.embed_cmd.specs.AskedFiles.{AreFilesOf}

abbrev pub Named : Type 0
Named = List ℕ × List ℕ

-- one file more
files_more : (contents : Contents) (ms : List Named) (fs : List ModuleFile) (m : Named) (f : ModuleFile) → AreFilesOf contents ms fs → f.name ≡ m.0 → IfSome (contents m.1) (λ told. f.bytes.items ≡ told)
    → AreFilesOf contents (ms ++ m ∷ []) (fs ++ f ∷ [])
files_more contents [] [] m f h name bytes = (name, bytes, tt)
files_more contents (n ∷ ms) (e ∷ fs) m f h name bytes = (h.0, h.1, files_more contents ms fs m f h.2 name bytes)
files_more contents [] (e ∷ fs) m f h name bytes = absurd h
files_more contents (n ∷ ms) [] m f h name bytes = absurd h

pub next_file : (contents now : Contents) (modules : List Named) (i : ℕ) (m : Named) (old new : List ModuleFile) (f : ModuleFile) (name path : List ℕ) → i < length modules → m ≡ get_or modules i m
    → AreFilesOf contents (take i modules) old → ((p : List ℕ) → now p ≡ contents p) → name ≡ m.0 → path ≡ m.1 → f.name ≡ name → IfSome (now path) (λ told. f.bytes.items ≡ told) → new ≡ old ++ f ∷ []
    → AreFilesOf contents (take (i + 1) modules) new
next_file contents now modules i m old new f name path within is h same name_is path_is named bytes grown =
    let taken : take (i + 1) modules ≡ take i modules ++ m ∷ [] = take_more modules i m within ∙ ap (λ x. take i modules ++ x ∷ []) (sym is) in
    let here = subst (λ p. IfSome (contents p) (λ told. f.bytes.items ≡ told)) path_is (subst (λ o. IfSome o (λ told. f.bytes.items ≡ told)) (same path) bytes) in
    let both = files_more contents (take i modules) old m f h (named ∙ name_is) here in
    subst (λ ms. AreFilesOf contents ms new) (sym taken) (subst (λ fs. AreFilesOf contents (take i modules ++ m ∷ []) fs) (sym grown) both)

told_there : (o : Option (List ℕ)) (bytes : List ℕ) (d : Decoded) → IsSome o → IfSome o (λ told. bytes ≡ told) → Decodes bytes d → IsSomeAnd o (λ b. Decodes b d)
told_there None bytes d some is h = absurd (cc)
told_there (Some b) bytes d some is h = subst (λ x. Decodes x d) is h

told_here : (o : Option (List ℕ)) (bytes : List ℕ) (d : Decoded) → IfSome o (λ told. bytes ≡ told) → IsSomeAnd o (λ b. Decodes b d) → Decodes bytes d
told_here None bytes d is h = absurd h
told_here (Some b) bytes d is h = subst (λ x. Decodes x d) (sym is) h

-- what the files decode to is what the told contents decode to
pub decoded_forth : (contents : Contents) (ms : List Named) (fs : List ModuleFile) (ds : Modules) → AreFilesOf contents ms fs → ((name : List ℕ) → IsOfSome (λ file. file.path ≡ name) (module_files ms) → IsSome (contents name))
    → AreDecodings fs ds → AreDecoded contents ms ds
decoded_forth contents [] [] [] files told h = tt
decoded_forth contents (m ∷ ms) (f ∷ fs) (d ∷ ds) files told h =
    (sym files.0 ∙ h.0, told_there (contents m.1) f.bytes.items d.1 (told m.1 (inl refl)) files.1 h.1, decoded_forth contents ms fs ds files.2 (λ name k. told name (inr k)) h.2)
decoded_forth contents [] [] (d ∷ ds) files told h = absurd h
decoded_forth contents [] (f ∷ fs) ds files told h = absurd files
decoded_forth contents (m ∷ ms) [] ds files told h = absurd files
decoded_forth contents (m ∷ ms) (f ∷ fs) [] files told h = absurd h

pub decoded_back : (contents : Contents) (ms : List Named) (fs : List ModuleFile) (ds : Modules) → AreFilesOf contents ms fs → AreDecoded contents ms ds → AreDecodings fs ds
decoded_back contents [] [] [] files h = tt
decoded_back contents (m ∷ ms) (f ∷ fs) (d ∷ ds) files h = (files.0 ∙ h.0, told_here (contents m.1) f.bytes.items d.1 files.1 h.1, decoded_back contents ms fs ds files.2 h.2)
decoded_back contents [] [] (d ∷ ds) files h = absurd h
decoded_back contents [] (f ∷ fs) ds files h = absurd files
decoded_back contents (m ∷ ms) [] ds files h = absurd files
decoded_back contents (m ∷ ms) (f ∷ fs) [] files h = absurd h

-- each file decodes to something
pub some_decodings : ((bytes : List ℕ) → (d : Decoded) × Decodes bytes d) → (fs : List ModuleFile) → (ds : Modules) × AreDecodings fs ds
some_decodings total [] = ([], tt)
some_decodings total (f ∷ fs) =
    let here = total f.bytes.items in
    let rest = some_decodings total fs in
    ((f.name, here.0) ∷ rest.0, (refl, here.1, rest.1))
