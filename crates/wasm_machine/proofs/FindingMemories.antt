-- What an instruction on memories or data segments finds in a frame that fits.
use Rattle.std.proofs.Common.{◌≡◌, ℕ, ◌≤◌, ◌<◌, [], ◌∷◌, List, length, sym, ap, ◌∙◌, subst, Some, Bool, true, ◌&&◌, slice_get}
use Rattle.std.specs.Prelude.{nat_lt, nat_le}
use Rattle.std.proofs.lemmas.Bool.{leb-true, ltb-true}
use Rattle.wasm_syntax.specs.declared.types.ValType.{ValType}
use Rattle.wasm_syntax.specs.declared.types.ValType.TheVariants as y
use Rattle.wasm_syntax.specs.declared.value.Value.{Value}
use Rattle.wasm_syntax.specs.declared.addresses.MemAddr.{MemAddr}
use Rattle.wasm_syntax.specs.declared.addresses.DataAddr.{DataAddr}
use Rattle.wasm_syntax.specs.declared.instructions.MemArg.{MemArg}
use Rattle.wasm_syntax.specs.declared.numbers.NumType.{NumType}
use Rattle.wasm_syntax.specs.declared.numbers.Width.{Width}
use Rattle.wasm_syntax.specs.declared.numbers.Extension.{Extension}
use Rattle.wasm_syntax.specs.declared.sorts.Simple.{Simple}
use Rattle.wasm_syntax.specs.declared.sorts.Simple.TheVariants as p
use Rattle.wasm_syntax.specs.Sorts.{sort_of, is_within}
use Rattle.wasm_syntax.specs.NumberTypes.{value_type as number_type, width_bits, bits_of, natural_alignment}
use Rattle.wasm_valid.specs.Spaces.{when, mems_of, has_memory}
use Rattle.wasm_valid.specs.Typing.{goes}
use Rattle.wasm_store.specs.declared.instances.Instance.{Instance}
use Rattle.wasm_store.specs.Store.{Store, module_at, instance_at}
use Rattle.wasm_store.specs.Whole.{HasLists, HasMemory, HasData}
use Rattle.wasm_machine.specs.View.{View, operands_of}
use Rattle.wasm_machine.specs.Control.{IsNumberFirst}
use Rattle.wasm_machine.specs.Classes.{IsTops, CanPerform, Names, IsThreeNumbers, IsLiveMemory, IsLiveData}
use Rattle.wasm_machine.proofs.Types.{when_some}
use Rattle.wasm_machine.proofs.PerformLaws.{zip_at, some_at}
use Rattle.wasm_machine.proofs.Finding.{inst, found, Has, has, both, within, named, room_for_one, number_first, three_numbers}

abbrev own : Store → View → Bool
own s v = has_memory (module_at s (inst s v).module)

live_memory : (s : Store) (v : View) → HasLists s (inst s v) → own s v ≡ true → Names (inst s v).mems 0 (IsLiveMemory s)
live_memory s v lists e =
    let ms = mems_of (module_at s (inst s v).module) in
    let k = some_at ms 0 (ltb-true 0 (length ms) e) in
    let z = zip_at (HasMemory s) (inst s v).mems ms 0 k.0 lists.mems k.1 in
    named (inst s v).mems 0 (IsLiveMemory s) z.0 z.1 z.2

live_data : (s : Store) (v : View) (x : ℕ) → HasLists s (inst s v) → nat_lt x (length (module_at s (inst s v).module).datas) ≡ true → Names (inst s v).datas x (IsLiveData s)
live_data s v x lists e =
    let ds = (module_at s (inst s v).module).datas in
    let k = some_at ds x (ltb-true x (length ds) e) in
    let z = zip_at (HasData s) (inst s v).datas ds x k.0 lists.datas k.1 in
    named (inst s v).datas x (IsLiveData s) z.0 z.1 z.2

-- the instance's memory, and operands of the instruction's types
record OnMemory (s : Store) (v : View) (ts gs : List ValType) : Type 0 where
  there : Names (inst s v).mems 0 (IsLiveMemory s)
  has : Has v ts gs

on_memory : (s : Store) (v : View) (k : Simple) (ts gs : List ValType) (h : CanPerform s k v) → when (own s v) (goes ts gs) ≡ Some (found s k v h).type → OnMemory s v ts gs
on_memory s v k ts gs h e =
    let f = found s k v h in
    let b = when_some (own s v) _ f.type e in
    record { there = live_memory s v h.fits.lists b.0; has = has v _ k ts gs f b.1 }

-- an access, whose alignment is low enough
on_access : (s : Store) (v : View) (k : Simple) (b : Bool) (ts gs : List ValType) (h : CanPerform s k v) → when (own s v && b) (goes ts gs) ≡ Some (found s k v h).type → OnMemory s v ts gs
on_access s v k b ts gs h e =
    let f = found s k v h in
    let c = when_some (own s v && b) _ f.type e in
    record { there = live_memory s v h.fits.lists (both (own s v) b c.0).0; has = has v _ k ts gs f c.1 }

load_at : (s : Store) (v : View) (ty : NumType) (width : Width) (extension : Extension) (at : MemArg) → CanPerform s (p.Load ty width extension at) v → OnMemory s v (y.I32 ∷ []) (number_type ty ∷ [])
load_at s v ty width extension at h = on_access s v (p.Load ty width extension at) (nat_le at.align (natural_alignment width)) (y.I32 ∷ []) (number_type ty ∷ []) h (found s (p.Load ty width extension at) v h).type_is

pub load_there : (s : Store) (v : View) (ty : NumType) (width : Width) (extension : Extension) (at : MemArg) → CanPerform s (p.Load ty width extension at) v → Names (inst s v).mems 0 (IsLiveMemory s)
load_there s v ty width extension at h = (load_at s v ty width extension at h).there

-- the number has the bits that are read
pub load_within : (s : Store) (v : View) (ty : NumType) (width : Width) (extension : Extension) (at : MemArg) → CanPerform s (p.Load ty width extension at) v → width_bits width ≤ bits_of ty
load_within s v ty width extension at h = leb-true (width_bits width) (bits_of ty) (ap is_within (sym h.sort_is) ∙ within h.instr)

pub load_tops : (s : Store) (v : View) (ty : NumType) (width : Width) (extension : Extension) (at : MemArg) → CanPerform s (p.Load ty width extension at) v → IsNumberFirst v.top.values
load_tops s v ty width extension at h = number_first [] v.top.values (load_at s v ty width extension at h).has.tops

store_at : (s : Store) (v : View) (ty : NumType) (width : Width) (at : MemArg) → CanPerform s (p.Store ty width at) v → OnMemory s v (number_type ty ∷ y.I32 ∷ []) []
store_at s v ty width at h = on_access s v (p.Store ty width at) (nat_le at.align (natural_alignment width)) (number_type ty ∷ y.I32 ∷ []) [] h (found s (p.Store ty width at) v h).type_is

pub store_there : (s : Store) (v : View) (ty : NumType) (width : Width) (at : MemArg) → CanPerform s (p.Store ty width at) v → Names (inst s v).mems 0 (IsLiveMemory s)
store_there s v ty width at h = (store_at s v ty width at h).there

pub store_tops : (s : Store) (v : View) (ty : NumType) (width : Width) (at : MemArg) → CanPerform s (p.Store ty width at) v → IsTops (number_type ty ∷ y.I32 ∷ []) v.top.values
store_tops s v ty width at h = (store_at s v ty width at h).has.tops

size_at : (s : Store) (v : View) → CanPerform s p.MemorySize v → OnMemory s v [] (y.I32 ∷ [])
size_at s v h = on_memory s v p.MemorySize [] (y.I32 ∷ []) h (found s p.MemorySize v h).type_is

pub size_there : (s : Store) (v : View) → CanPerform s p.MemorySize v → Names (inst s v).mems 0 (IsLiveMemory s)
size_there s v h = (size_at s v h).there

pub size_room : (s : Store) (v : View) → CanPerform s p.MemorySize v → operands_of v < v.room
size_room s v h = room_for_one v y.I32 (size_at s v h).has

grow_at : (s : Store) (v : View) → CanPerform s p.MemoryGrow v → OnMemory s v (y.I32 ∷ []) (y.I32 ∷ [])
grow_at s v h = on_memory s v p.MemoryGrow (y.I32 ∷ []) (y.I32 ∷ []) h (found s p.MemoryGrow v h).type_is

pub grow_there : (s : Store) (v : View) → CanPerform s p.MemoryGrow v → Names (inst s v).mems 0 (IsLiveMemory s)
grow_there s v h = (grow_at s v h).there

pub grow_tops : (s : Store) (v : View) → CanPerform s p.MemoryGrow v → IsNumberFirst v.top.values
grow_tops s v h = number_first [] v.top.values (grow_at s v h).has.tops

fill_at : (s : Store) (v : View) → CanPerform s p.MemoryFill v → OnMemory s v (y.I32 ∷ y.I32 ∷ y.I32 ∷ []) []
fill_at s v h = on_memory s v p.MemoryFill (y.I32 ∷ y.I32 ∷ y.I32 ∷ []) [] h (found s p.MemoryFill v h).type_is

pub fill_there : (s : Store) (v : View) → CanPerform s p.MemoryFill v → Names (inst s v).mems 0 (IsLiveMemory s)
fill_there s v h = (fill_at s v h).there

pub fill_tops : (s : Store) (v : View) → CanPerform s p.MemoryFill v → IsThreeNumbers v.top.values
fill_tops s v h = three_numbers v.top.values (fill_at s v h).has.tops

copy_at : (s : Store) (v : View) → CanPerform s p.MemoryCopy v → OnMemory s v (y.I32 ∷ y.I32 ∷ y.I32 ∷ []) []
copy_at s v h = on_memory s v p.MemoryCopy (y.I32 ∷ y.I32 ∷ y.I32 ∷ []) [] h (found s p.MemoryCopy v h).type_is

pub copy_there : (s : Store) (v : View) → CanPerform s p.MemoryCopy v → Names (inst s v).mems 0 (IsLiveMemory s)
copy_there s v h = (copy_at s v h).there

pub copy_tops : (s : Store) (v : View) → CanPerform s p.MemoryCopy v → IsThreeNumbers v.top.values
copy_tops s v h = three_numbers v.top.values (copy_at s v h).has.tops

init_at : (s : Store) (v : View) (x : ℕ) → CanPerform s (p.MemoryInit x) v → OnMemory s v (y.I32 ∷ y.I32 ∷ y.I32 ∷ []) []
init_at s v x h = on_access s v (p.MemoryInit x) (nat_lt x (length (module_at s (inst s v).module).datas)) (y.I32 ∷ y.I32 ∷ y.I32 ∷ []) [] h (found s (p.MemoryInit x) v h).type_is

pub init_there : (s : Store) (v : View) (x : ℕ) → CanPerform s (p.MemoryInit x) v → Names (inst s v).mems 0 (IsLiveMemory s)
init_there s v x h = (init_at s v x h).there

pub init_there_segment : (s : Store) (v : View) (x : ℕ) → CanPerform s (p.MemoryInit x) v → Names (inst s v).datas x (IsLiveData s)
init_there_segment s v x h =
    let f = found s (p.MemoryInit x) v h in
    let b = nat_lt x (length (module_at s (inst s v).module).datas) in
    live_data s v x h.fits.lists (both (own s v) b (when_some (own s v && b) _ f.type f.type_is).0).1

pub init_tops : (s : Store) (v : View) (x : ℕ) → CanPerform s (p.MemoryInit x) v → IsThreeNumbers v.top.values
init_tops s v x h = three_numbers v.top.values (init_at s v x h).has.tops

pub data_drop_there : (s : Store) (v : View) (x : ℕ) → CanPerform s (p.DataDrop x) v → Names (inst s v).datas x (IsLiveData s)
data_drop_there s v x h =
    let f = found s (p.DataDrop x) v h in
    live_data s v x h.fits.lists (when_some (nat_lt x (length (module_at s (inst s v).module).datas)) _ f.type f.type_is).0
