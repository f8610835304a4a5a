-- The names that every script may refer to and none needs to declare.
use Rattle.std.specs.Prelude.{ℕ, Option, Some, None, List, [], ◌∷◌, cond, codes}
use Rattle.std.specs.Str.{bytes_eq}
use Rattle.host_parser.specs.declared.predefined.Predefined.{Predefined}
use Rattle.host_parser.specs.declared.predefined.Predefined.TheVariants as names

-- each name with what it stands for
abbrev pub all : List (List ℕ × Predefined)
all = (codes "print", names.Print)
    ∷ (codes "readbuffer", names.Readbuffer)
    ∷ (codes "utf8Text", names.Utf8Text)
    ∷ (codes "Object", names.Object)
    ∷ (codes "BigInt", names.BigInt)
    ∷ (codes "Number", names.Number)
    ∷ (codes "String", names.String)
    ∷ (codes "Promise", names.Promise)
    ∷ (codes "Uint8Array", names.Uint8Array)
    ∷ (codes "Error", names.Error)
    ∷ (codes "TypeError", names.TypeError)
    ∷ (codes "RangeError", names.RangeError)
    ∷ (codes "ReferenceError", names.ReferenceError)
    ∷ (codes "SyntaxError", names.SyntaxError)
    ∷ (codes "WebAssembly", names.WebAssembly)
    ∷ []

abbrev pub look_up : List ℕ → List (List ℕ × Predefined) → Option Predefined
look_up n [] = None
look_up n (p ∷ ps) = cond (bytes_eq p.0 n) (Some p.1) (look_up n ps)

abbrev pub predefined_of : List ℕ → Option Predefined
predefined_of n = look_up n all
