-- Private: the declaration with the least place of those that repeat a name of their scope.
use Rattle.std.specs.Prelude.{◌≡◌, ℕ, Bool, false, cond, nat_lt, ◌||◌, Option, Some, None, List, [], ◌∷◌}
use Rattle.std.specs.Str.{bytes_eq}
use Rattle.host_grammar.specs.Derivations.{Named, Script}
use Rattle.host_grammar.specs.Scopes.{IsFirstAgain, HasNoAgain}
use Rattle.host_nodes.specs.declared.form.Declared.{Declared}
use Rattle.host_nodes.specs.declared.form.Mention.{Mention}
use Rattle.host_nodes.specs.declared.form.Mention.TheVariants as mentions
use Rattle.host_parser.specs.declared.again.Again.{Again}

abbrev pub again_of : Declared → Again
again_of d = record { place = d.place; name = d.name }

-- the one that stands first
abbrev pub lesser : Option Again → Again → Option Again
lesser None b = Some b
lesser (Some a) b = cond (nat_lt b.place a.place) (Some b) (Some a)

abbrev pub is_declared : List ℕ → List Declared → Bool
is_declared n [] = false
is_declared n (d ∷ ds) = bytes_eq d.name n || is_declared n ds

-- of these names behind those, the last of which is first, and what was found before
abbrev pub repeated : List Declared → Option Again → List Declared → Option Again
repeated bs a [] = a
repeated bs a (d ∷ ds) = repeated (d ∷ bs) (cond (is_declared d.name bs) (lesser a (again_of d)) a) ds

-- of all scopes that end
abbrev pub repeated_in : Option Again → List Mention → Option Again
repeated_in a [] = a
repeated_in a (mentions.Ends ds ∷ ms) = repeated_in (repeated [] a ds) ms
repeated_in a (mentions.Name n ∷ ms) = repeated_in a ms
repeated_in a (mentions.Begins ∷ ms) = repeated_in a ms

-- what is told of the scopes of a script
abbrev pub TellsAgain : Script → Option Again → Type 0
TellsAgain s None = HasNoAgain s
TellsAgain s (Some a) = (n : Named) × IsFirstAgain s n × (a.place ≡ n.spot.place) × (a.name ≡ n.text)
