-- Private: the arguments of a call, one after the other.
use Rattle.std.specs.Prelude.{ℕ, List, Option, Some, None, Result, Ok}
use Rattle.std.specs.declared.alloc.Global.{Global}
use Rattle.std.specs.declared.vec.Vec.{Vec}
use Rattle.embed_base.specs.declared.outside.OutsideKind.{OutsideKind}
use Rattle.wasm_syntax.specs.declared.value.Value.{Value as WasmValue}
use Rattle.embed_script.specs.declared.value.Value.{Value}
use Rattle.embed_script.specs.Functions.{word_of}

-- the argument for a parameter, where it isn't missing
abbrev pub argument_of : Option Value → Result ℕ OutsideKind
argument_of (Some v) = word_of v
argument_of None = Ok 0

abbrev pub words_in : Vec ℕ Global → List ℕ
words_in v = v.items

abbrev pub results_in : Vec WasmValue Global → List WasmValue
results_in v = v.items
