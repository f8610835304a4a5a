-- The functions that a script gets from module files, and their calls (WebAssembly JavaScript Interface, sections 5.1 to
-- 5.6, in the profile).
use Rattle.std.specs.Prelude.{ℕ, zero, suc, List, [], ◌∷◌, Option, Some, None, Result, Ok, Err, length, map, pos, ◌^◌, ◌&&◌, Bool, true, false, unsigned_abs, if◌then◌else◌, slice_index_or}
use Rattle.std.specs.Int.{w32, cast_signed, int_rem_euclid}
use Rattle.std.specs.List.{list_all}
use Rattle.std.specs.Str.{bytes_eq}
use Rattle.embed_base.specs.declared.outside.OutsideKind.{OutsideKind}
use Rattle.embed_base.specs.declared.outside.OutsideKind.TheVariants as kinds
use Rattle.embed_base.specs.declared.outside.Place.TheVariants as places
use Rattle.wasm_syntax.specs.declared.module.Module.{Module}
use Rattle.wasm_syntax.specs.declared.module.Export.{Export}
use Rattle.wasm_syntax.specs.declared.types.ValType.{ValType}
use Rattle.wasm_syntax.specs.declared.types.ValType.TheVariants as v
use Rattle.wasm_syntax.specs.declared.types.FuncType.{FuncType}
use Rattle.wasm_syntax.specs.declared.module.ExportDesc.{ExportDesc}
use Rattle.wasm_syntax.specs.declared.module.ExportDesc.TheVariants as exports
use Rattle.wasm_syntax.specs.declared.value.Value.{Value as WasmValue}
use Rattle.wasm_syntax.specs.declared.value.Value.TheVariants as w
use Rattle.wasm_syntax.specs.declared.addresses.FuncAddr.{FuncAddr}
use Rattle.wasm_syntax.specs.declared.addresses.ModuleAddr.{ModuleAddr}
use Rattle.wasm_grammar.specs.declared.built.Foreign.{Foreign}
use Rattle.wasm_grammar.specs.declared.built.Foreign.TheVariants as foreign
use Rattle.wasm_grammar.specs.Decoding as decoding
use Rattle.wasm_valid.specs.ModuleRules.{is_typed_module}
use Rattle.wasm_store.specs.declared.instances.Instance.{Instance}
use Rattle.wasm_store.specs.Store.{Store, blank, with_module, type_of, function_at}
use Rattle.wasm_store.specs.Whole.{own_type}
use Rattle.wasm_store.specs.Allocated.{func_addr, instance_of as lists_of}
use Rattle.wasm_instance.specs.Instantiation.{Outcome, goes, traps, instantiated, is_within_limits, start_of}
use Rattle.wasm_calls.specs.Calls as calls
use Rattle.wasm_calls.specs.Calls.{Configuration, running, ended, returned, trapped, thrown, no_rule, end_of}
use Rattle.embed_script.specs.declared.value.Value.{Value}
use Rattle.embed_script.specs.declared.value.Value.TheVariants as values
use Rattle.embed_script.specs.declared.state.State.{State}
use Rattle.embed_script.specs.Ends.{End, outside, past_budget, compile_error, runtime_error, range_error, and_then, charge, at_place}

-- what the bytes of each module file are, by the name that a word gave the file
abbrev pub Modules : Type 0
Modules = List (List ℕ × decoding.Decoded)

abbrev pub decoded_of : Modules → List ℕ → Option decoding.Decoded
decoded_of [] name = None
decoded_of (m ∷ ms) name = if bytes_eq m.0 name then Some m.1 else decoded_of ms name

abbrev pub kind_of : Foreign → OutsideKind
kind_of foreign.Float = kinds.Float
kind_of foreign.Simd = kinds.Simd

-- a valid module; one that isn't gives an exception
abbrev pub typed : Module → Result Module End
typed m = if is_typed_module m then Ok m else Err compile_error

-- a module of bytes: malformed ones and those of no valid module give an exception, and a type or instruction out of the
-- profile is refused at its byte
abbrev pub module_of : decoding.Decoded → Result Module End
module_of (decoding.module_is m) = typed m
module_of decoding.malformed = Err compile_error
module_of (decoding.outside place what) = Err (outside (record { kind = kind_of what; place = places.Module place }))

-- the module of a file, where its name is one that a word gave
abbrev pub compiled_of : Option decoding.Decoded → Result (Option Module) End
compiled_of None = Ok None
compiled_of (Some d) = and_then (module_of d) (λ m. Ok (Some m))

abbrev pub index_of : ExportDesc → Option ℕ
index_of (exports.Func index) = Some index
index_of _ = None

-- the number of the function that a module exports by a name
abbrev pub exported_index : List Export → List ℕ → Option ℕ
exported_index [] name = None
exported_index (x ∷ xs) name = if bytes_eq x.name name then index_of x.desc else exported_index xs name

abbrev pub is_empty : {A : Type 0} → List A → Bool
is_empty [] = true
is_empty (x ∷ xs) = false

-- a module without imports
abbrev pub is_self_contained : Module → Bool
is_self_contained m = is_empty m.imports

abbrev pub is_i32 : ValType → Bool
is_i32 v.I32 = true
is_i32 v.I64 = false
is_i32 v.FuncRef = false
is_i32 v.ExternRef = false

abbrev pub are_i32 : List ValType → Bool
are_i32 ts = list_all is_i32 ts

abbrev pub is_one_i32 : List ValType → Bool
is_one_i32 [] = false
is_one_i32 (t ∷ ts) = is_i32 t && is_empty ts

-- i32 parameters and one i32 result
abbrev pub is_word_type : FuncType → Bool
is_word_type g = are_i32 g.params && is_one_i32 g.results

abbrev pub has_word_type : Option FuncType → Bool
has_word_type (Some g) = is_word_type g
has_word_type None = false

-- the function that a script may call by a name: a module and a function's number
abbrev pub offered : Module → Option ℕ → Result (Module × ℕ) OutsideKind
offered m None = Err kinds.NotYet
offered m (Some index) = if is_self_contained m && has_word_type (own_type m index) then Ok (m, index) else Err kinds.NotYet

abbrev pub exported : Option Module → List ℕ → Result (Module × ℕ) OutsideKind
exported None name = Err kinds.NotYet
exported (Some m) name = offered m (exported_index m.exports name)

-- what the end of a call of a function of a module is to a script. A run for which there is no rule, which no valid module has, counts as
-- a trap.
abbrev pub settled : Configuration → Result (List WasmValue × State) End
settled (ended s (returned vs) left) = Ok (vs, record { store = s; left = left })
settled (ended s (trapped cause) left) = Err runtime_error
settled (ended s (thrown number) left) = Err range_error
settled (ended s (calls.past_budget needs) left) = Err (past_budget needs left)
settled (ended s no_rule left) = Err runtime_error
settled (running s t left) = Err runtime_error

-- a function of a module runs on these arguments
abbrev pub run : FuncAddr → List WasmValue → State → Result (List WasmValue × State) End
run f args s = settled (end_of (calls.call_of s.store f args s.left))

abbrev pub started : Option FuncAddr → State → Result State End
started None s = Ok s
started (Some f) s = and_then (run f [] s) (λ r. Ok r.1)

-- once the segments are written the start function runs; the function with this index is then there
abbrev pub with_segments : Module → Instance → (index left : ℕ) → Outcome → Result (FuncAddr × State) End
with_segments m i index left (goes s) = and_then (started (start_of m i) (record { store = s; left = left })) (λ r. Ok (slice_index_or i.funcs index (func_addr 0), r))
with_segments m i index left (traps cause s) = Err runtime_error

abbrev pub next_module : Store → ModuleAddr
next_module s = record { 0 = length s.modules }

-- a new instance of a module without imports, and its function with this index
abbrev pub instance_with : Module → (index : ℕ) → State → Result (FuncAddr × State) End
instance_with m index s =
    if is_within_limits (with_module m s.store) m
    then with_segments m (lists_of (next_module s.store) (blank (next_module s.store)) (with_module m s.store)) index s.left (instantiated (next_module s.store) (blank (next_module s.store)) (with_module m s.store))
    else Err range_error

-- new WebAssembly.Instance(new WebAssembly.Module(readbuffer(FILE))).exports.NAME at its statement's place: the call takes a
-- charge, then each `new`, and the bytes are read as a module before the second one
abbrev pub instance_of : Modules → (file name : List ℕ) → (place : ℕ) → State → Result (FuncAddr × State) End
instance_of modules file name place s =
    and_then (charge 1 s) (λ read. and_then (charge 1 read) (λ begun. and_then (compiled_of (decoded_of modules file)) (λ loaded.
    and_then (charge 1 begun) (λ rest. and_then (at_place place (exported loaded name)) (λ f. instance_with f.0 f.1 rest)))))

-- ToInt32 (ECMA-262, section 7.1.6), as the number that its 32 bits spell
abbrev pub word_of : Value → Result ℕ OutsideKind
word_of (values.Number z) = Ok (unsigned_abs (int_rem_euclid z (pos (2 ^ 32))))
word_of (values.Text s) = Err kinds.TextNumber

-- the arguments for so many parameters: missing ones are `undefined`, which gives 0, and the others are dropped
abbrev pub words_of : (parameters : ℕ) → List Value → Result (List ℕ) OutsideKind
words_of zero vs = Ok []
words_of (suc n) [] = and_then (words_of n []) (λ ws. Ok (0 ∷ ws))
words_of (suc n) (v ∷ vs) = and_then (word_of v) (λ w. and_then (words_of n vs) (λ ws. Ok (w ∷ ws)))

abbrev pub parameters_of : Store → FuncAddr → ℕ
parameters_of s f = length (type_of (function_at s f)).params

-- a result, as a signed Number
abbrev pub result_value : List WasmValue → Value
result_value (w.I32 n ∷ vs) = values.Number (cast_signed w32 n)
result_value _ = values.Number (pos 0)

-- a call of a function with these arguments, at the place of its `(`: its charge, the conversions, and then the body
abbrev pub call_of : FuncAddr → (place : ℕ) → List Value → State → Result (Value × State) End
call_of f place vs s =
    and_then (charge 1 s) (λ rest. and_then (at_place place (words_of (parameters_of rest.store f) vs)) (λ words.
    and_then (run f (map w.I32 words) rest) (λ r. Ok (result_value r.0, r.1))))
