-- Private: the top of a stack, and what is below it.
use Rattle.std.specs.Prelude.{List, [], ◌∷◌, Option, Some, None}
use Rattle.host_states.specs.declared.state.Open.{Open}

abbrev pub top_of : List Open → Option Open
top_of [] = None
top_of (x ∷ xs) = Some x

abbrev pub rest_of : List Open → List Open
rest_of [] = []
rest_of (x ∷ xs) = xs
