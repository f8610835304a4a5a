-- The line that refuses a script, with its line feed; places are in decimal.
use Rattle.std.specs.Prelude.{ℕ, List, [], ◌∷◌, ◌++◌, codes}
use Rattle.std.specs.Fmt.{decimal}
use Rattle.host_reading.specs.declared.refusal.Refusal.{Refusal}
use Rattle.host_reading.specs.declared.refusal.Refusal.TheVariants.{NotUtf8, BadToken, NumberOutside, Unexpected, TooDeep, DeclaredTwice}

abbrev pub line_of : Refusal → List ℕ
line_of (NotUtf8 place) = codes "script: not UTF-8 at " ++ (decimal place ++ 10 ∷ [])
line_of (BadToken place) = codes "script: bad token at " ++ (decimal place ++ 10 ∷ [])
line_of (NumberOutside place) = codes "script: number outside at " ++ (decimal place ++ 10 ∷ [])
line_of (Unexpected place) = codes "script: unexpected at " ++ (decimal place ++ 10 ∷ [])
line_of (TooDeep place) = codes "script: too deep at " ++ (decimal place ++ 10 ∷ [])
line_of (DeclaredTwice name place) = codes "script: " ++ (name ++ (codes " declared twice at " ++ (decimal place ++ 10 ∷ [])))
