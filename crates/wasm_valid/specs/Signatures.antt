-- Private: the types of instructions as the code keeps them.
use Rattle.std.specs.Prelude.{List, [], ◌∷◌, Option, Some, None, slice_get, option_to_list}
use Rattle.wasm_syntax.specs.declared.types.ValType.{ValType}
use Rattle.wasm_syntax.specs.declared.types.FuncType.{FuncType}
use Rattle.wasm_syntax.specs.declared.module.Module.{Module}
use Rattle.wasm_valid.specs.declared.signature.Takes.{Takes}
use Rattle.wasm_valid.specs.declared.signature.Takes.TheVariants.{Nothing, One, Two, Three}
use Rattle.wasm_valid.specs.declared.signature.Signature.{Signature as Kept}
use Rattle.wasm_valid.specs.declared.types.Types.{Types}
use Rattle.wasm_valid.specs.declared.types.Types.TheVariants as y
use Rattle.wasm_valid.specs.Typing.{Signature}

abbrev pub takes_of : Takes → List ValType
takes_of Nothing = []
takes_of (One t) = t ∷ []
takes_of (Two t u) = t ∷ u ∷ []
takes_of (Three t u w) = t ∷ u ∷ w ∷ []

abbrev pub signature_of : Kept → Signature
signature_of kept = record { takes = takes_of kept.takes; gives = option_to_list kept.gives }

abbrev pub params_in : Option FuncType → List ValType
params_in None = []
params_in (Some g) = g.params

abbrev pub results_in : Option FuncType → List ValType
results_in None = []
results_in (Some g) = g.results

-- a list of types that a module has
abbrev pub types_in : Module → Types → List ValType
types_in m y.Empty = []
types_in m (y.One t) = t ∷ []
types_in m (y.Params x) = params_in (slice_get m.types x)
types_in m (y.Results x) = results_in (slice_get m.types x)
