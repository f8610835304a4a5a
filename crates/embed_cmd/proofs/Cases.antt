-- Worked cases of command lines, each by computation.
use Rattle.std.proofs.Common.{◌≡◌, [], ◌∷◌, Some, None, refl, codes}
use Rattle.embed_cmd.specs.Words.{command_of}

run_and_a_path : command_of (codes "run" ∷ codes "s.js" ∷ []) ≡ Some (record { script = codes "s.js"; modules = []; budget = 10000000 })
run_and_a_path = refl

options_anywhere : command_of (codes "--module" ∷ codes "m=a=b" ∷ codes "run" ∷ codes "--steps=007" ∷ codes "s.js" ∷ codes "--module=n=p" ∷ [])
    ≡ Some (record { script = codes "s.js"; modules = (codes "m", codes "a=b") ∷ (codes "n", codes "p") ∷ []; budget = 7 })
options_anywhere = refl

one_name_twice : command_of (codes "run" ∷ codes "s.js" ∷ codes "--module=m=a" ∷ codes "--module=m=b" ∷ []) ≡ None
one_name_twice = refl

steps_twice : command_of (codes "run" ∷ codes "s.js" ∷ codes "--steps=1" ∷ codes "--steps=1" ∷ []) ≡ None
steps_twice = refl

no_words : command_of [] ≡ None
no_words = refl

an_option_without_value : command_of (codes "run" ∷ codes "--steps" ∷ []) ≡ None
an_option_without_value = refl

an_empty_path : command_of (codes "run" ∷ [] ∷ []) ≡ None
an_empty_path = refl
