-- The results of a call are put in place.
use Rattle.std.specs.List.{AllZip}
use Rattle.std.specs.Prelude.{reverse}
use Rattle.std.proofs.Common.{◌≡◌, suc, ◌+◌, ◌≤◌, List, [], ◌∷◌, ◌++◌, length, refl, ap, arith}
use Rattle.wasm_syntax.specs.declared.types.ValType.{ValType}
use Rattle.wasm_syntax.specs.declared.value.Value.{Value}
use Rattle.wasm_store.specs.Store.{Store}
use Rattle.wasm_store.specs.Whole.{HasType}
use Rattle.wasm_machine.specs.View.{View, with_values, operands_of}
use Rattle.wasm_machine.specs.Fits.{Fits, Waits}
use Rattle.wasm_machine.proofs.Entered.{args_typed, args_live}
use Rattle.wasm_machine.proofs.Calling.{supplied_fits, supplied_room}

zip_long : (s : Store) (values : List Value) (types : List ValType) → AllZip (HasType s) values types → length values ≡ length types
zip_long s [] [] h = refl
zip_long s [] (t ∷ ts) h = absurd h
zip_long s (x ∷ xs) [] h = absurd h
zip_long s (x ∷ xs) (t ∷ ts) h = ap suc (zip_long s xs ts h.1)

pub has_room : (s : Store) (R types : List ValType) (v : View) (values : List Value) → Waits s R types v → AllZip (HasType s) values types → operands_of v + length values ≤ v.room
has_room s R types v values f h = omega (arith, supplied_room s types v f, zip_long s values types h)

pub fits_again : (s : Store) (R types : List ValType) (v x : View) (values : List Value) → Waits s R types v → AllZip (HasType s) values types → x ≡ with_values (reverse values ++ v.top.values) v → Fits s R x
fits_again s R types v x values f h e = supplied_fits s types v x values f (record { types = args_typed s values types h; live = args_live s values types h }) e
