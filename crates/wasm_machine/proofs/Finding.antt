-- What a simple instruction at work in a frame that fits finds there.
use Rattle.std.proofs.Common.{◌≡◌, ℕ, zero, suc, ◌+◌, ◌-◌, ◌≤◌, ◌<◌, List, [], ◌∷◌, ◌++◌, length, refl, sym, ap, ◌∙◌, subst, arith, Option, Some, None, map, Bool, true, false, ◌&&◌}
use Rattle.std.specs.Prelude.{slice_get, nat_lt, is_some, Result, Ok, Err, OnOk, IfErr}
use Rattle.std.proofs.lemmas.Bool.{leb-true, ltb-true}
use Rattle.std.proofs.lemmas.Option.{same_Some, slice_get_within}
use Rattle.std.proofs.lemmas.List.Elements.{All-head, All-tail}
use Rattle.wasm_syntax.specs.declared.types.ValType.{ValType}
use Rattle.wasm_syntax.specs.declared.types.ValType.TheVariants as y
use Rattle.wasm_syntax.specs.declared.types.FuncType.{FuncType}
use Rattle.wasm_syntax.specs.declared.types.TableType.{TableType}
use Rattle.wasm_syntax.specs.declared.types.GlobalType.{GlobalType}
use Rattle.wasm_syntax.specs.declared.trap.Trap.{Trap}
use Rattle.wasm_syntax.specs.declared.value.Value.{Value}
use Rattle.wasm_syntax.specs.declared.value.Value.TheVariants as w
use Rattle.wasm_syntax.specs.declared.addresses.GlobalAddr.{GlobalAddr}
use Rattle.wasm_syntax.specs.declared.addresses.TableAddr.{TableAddr}
use Rattle.wasm_syntax.specs.declared.addresses.ElemAddr.{ElemAddr}
use Rattle.wasm_syntax.specs.declared.instructions.Instr.{Instr}
use Rattle.wasm_syntax.specs.declared.instructions.Instr.TheVariants as i
use Rattle.wasm_syntax.specs.declared.module.Module.{Module}
use Rattle.wasm_syntax.specs.declared.numbers.NumType.{NumType}
use Rattle.wasm_syntax.specs.declared.numbers.Num.{Num}
use Rattle.wasm_syntax.specs.declared.numbers.UnOp.{UnOp}
use Rattle.wasm_syntax.specs.declared.numbers.BinOp.{BinOp}
use Rattle.wasm_syntax.specs.declared.numbers.CmpOp.{CmpOp}
use Rattle.wasm_syntax.specs.declared.numbers.ConvOp.{ConvOp}
use Rattle.wasm_syntax.specs.declared.sorts.Simple.{Simple}
use Rattle.wasm_syntax.specs.declared.sorts.Simple.TheVariants as p
use Rattle.wasm_syntax.specs.Sorts.{sort_of, is_within}
use Rattle.wasm_syntax.specs.NumberTypes.{value_type as number_type, source_of, least_width_of, bits_of}
use Rattle.wasm_syntax.specs.ValueTypes.{same_type, is_reference}
use Rattle.wasm_valid.specs.Spaces.{then_, func_type, funcs_of, tables_of, globals_of, is_declared}
use Rattle.wasm_valid.specs.Typing.{Signature, signature, goes}
use Rattle.wasm_store.specs.declared.instances.Instance.{Instance}
use Rattle.wasm_store.specs.Store.{Store, module_at, instance_at, global_at, table_at, element_at}
use Rattle.wasm_store.specs.Whole.{value_type, IsLive, AreLive, AreTyped, HasType, HasLists, HasFunction, HasTable, HasGlobal, HasElement}
use Rattle.wasm_machine.specs.View.{View, operands_of, count_of, module_for}
use Rattle.wasm_machine.specs.Control.{IsNumberFirst}
use Rattle.wasm_machine.specs.Classes.{IsTops, CanPerform, Names, IsSettable, IsFirstTyped, IsSecondTyped, IsOverNumber, IsUnderNumber, IsBetweenNumbers, IsThreeNumbers, IsLiveTable, Goes, GoesTo, Ends}
use Rattle.wasm_machine.proofs.Types.{same_types, when_some}
use Rattle.wasm_machine.proofs.PerformLaws.{zip_at, some_at}
use Rattle.wasm_machine.proofs.Going.{next_at, simple_at, simple_room}
use Rattle.wasm_machine.proofs.Branching.{operands_fit}

-- ---- the type of the instruction, its operands and room

pub record IsFound (m : Module) (k : Simple) (v : View) : Type 0 where
  pub type : Signature
  pub type_is : signature m (map value_type v.locals) k ≡ Some type
  pub tops : IsTops type.takes v.top.values
  pub room : length type.gives + (length v.top.values - length type.takes) + count_of v.outer ≤ v.room

tops_of : (ts us : List ValType) (vs : List Value) → map value_type vs ≡ ts ++ us → IsTops ts vs
tops_of [] us vs e = tt
tops_of (t ∷ ts) us [] e = absurd (let f : ◌≡◌ [] (t ∷ (ts ++ us)) = e in cc)
tops_of (t ∷ ts) us (a ∷ vs) e = let f : value_type a ∷ map value_type vs ≡ t ∷ (ts ++ us) = e in ((let g : value_type a ≡ t = cc in g), tops_of ts us vs (let g : map value_type vs ≡ ts ++ us = cc in g))

found_in : (s : Store) (k : Simple) (v : View) → CanPerform s k v → IsFound (module_for s v) k v
found_in s k v h =
    let n = next_at (module_for s v) h.instr h.rest v h.fits.typed in
    let a = simple_at (module_for s v) h.instr h.rest v k h.fits.typed h.sort_is n in
    let r = simple_room (module_for s v) h.instr h.rest v k h.fits.typed n a in
    record { type = a.type; type_is = a.type_is; tops = tops_of a.type.takes a.others v.top.values a.values; room = r.room }

abbrev pub FoundIn : Store → Simple → View → Type 0
FoundIn s k v = IsFound (module_at s (instance_at s v.instance).module) k v

pub found : (s : Store) (k : Simple) (v : View) → CanPerform s k v → FoundIn s k v
found s k v h = subst (λ m. IsFound m k v) (ap (module_at s) (sym h.fits.module_is)) (found_in s k v h)

-- so it is of an instruction with this type
pub record Has (v : View) (ts gs : List ValType) : Type 0 where
  pub tops : IsTops ts v.top.values
  pub room : length gs + (length v.top.values - length ts) + count_of v.outer ≤ v.room

has_goes : (v : View) (ts gs : List ValType) (g : Signature) → goes ts gs ≡ Some g → IsTops g.takes v.top.values → length g.gives + (length v.top.values - length g.takes) + count_of v.outer ≤ v.room → Has v ts gs
has_goes v ts gs g e t r =
    let same : g ≡ record { takes = ts; gives = gs } = sym (same_Some _ _ e) in
    subst (λ (k : Signature). Has v k.takes k.gives) same (record { tops = t; room = r })

pub has : (v : View) (m : Module) (k : Simple) (ts gs : List ValType) (f : IsFound m k v) → goes ts gs ≡ Some f.type → Has v ts gs
has v m k ts gs f e = has_goes v ts gs f.type e f.tops f.room

then_some : {A : Type 0} (o : Option A) (f : A → Option Signature) (g : Signature) → then_ o f ≡ Some g → (a : A) × (o ≡ Some a) × (f a ≡ Some g)
then_some None f g e = absurd (let h : ◌≡◌ None (Some g) = e in cc)
then_some (Some a) f g e = (a, refl, e)

pub both : (a b : Bool) → (a && b) ≡ true → (a ≡ true) × (b ≡ true)
both true true e = (refl, refl)
both true false e = cc
both false b e = cc

pub live : (s : Store) (k : Simple) (v : View) → CanPerform s k v → v.instance.0 < length s.instances
live s k v h = h.fits.live

pub has_room : (s : Store) (k : Simple) (v : View) → CanPerform s k v → operands_of v ≤ v.room
has_room s k v h = operands_fit s (h.instr ∷ h.rest) v h.fits

pub room_for_one : (v : View) (t : ValType) → Has v [] (t ∷ []) → operands_of v < v.room
room_for_one v t h = omega (arith, h.room)

-- ---- numbers

pub const_room : (s : Store) (v : View) (a : Num) → CanPerform s (p.Const a) v → operands_of v < v.room
const_room s v a h = let f = found s (p.Const a) v h in room_for_one v _ (has v _ (p.Const a) [] _ f f.type_is)

pub unary_tops : (s : Store) (v : View) (ty : NumType) (op : UnOp) → CanPerform s (p.Unary ty op) v → IsTops (number_type ty ∷ []) v.top.values
unary_tops s v ty op h = let f = found s (p.Unary ty op) v h in (has v _ (p.Unary ty op) (number_type ty ∷ []) _ f f.type_is).tops

pub binary_tops : (s : Store) (v : View) (ty : NumType) (op : BinOp) → CanPerform s (p.Binary ty op) v → IsTops (number_type ty ∷ number_type ty ∷ []) v.top.values
binary_tops s v ty op h = let f = found s (p.Binary ty op) v h in (has v _ (p.Binary ty op) (number_type ty ∷ number_type ty ∷ []) _ f f.type_is).tops

pub test_tops : (s : Store) (v : View) (ty : NumType) → CanPerform s (p.Test ty) v → IsTops (number_type ty ∷ []) v.top.values
test_tops s v ty h = let f = found s (p.Test ty) v h in (has v _ (p.Test ty) (number_type ty ∷ []) _ f f.type_is).tops

pub compare_tops : (s : Store) (v : View) (ty : NumType) (op : CmpOp) → CanPerform s (p.Compare ty op) v → IsTops (number_type ty ∷ number_type ty ∷ []) v.top.values
compare_tops s v ty op h = let f = found s (p.Compare ty op) v h in (has v _ (p.Compare ty op) (number_type ty ∷ number_type ty ∷ []) _ f f.type_is).tops

pub convert_tops : (s : Store) (v : View) (op : ConvOp) → CanPerform s (p.Convert op) v → IsTops (number_type (source_of op) ∷ []) v.top.values
convert_tops s v op h = let f = found s (p.Convert op) v h in (has v _ (p.Convert op) (number_type (source_of op) ∷ []) _ f f.type_is).tops

-- a number has the bits from which it is extended
pub within : (instr : Instr) → is_within (sort_of instr) ≡ true
within i.Unreachable = refl
within _ = refl

pub unary_width : (s : Store) (v : View) (ty : NumType) (op : UnOp) → CanPerform s (p.Unary ty op) v → least_width_of op ≤ bits_of ty
unary_width s v ty op h = leb-true (least_width_of op) (bits_of ty) (ap is_within (sym h.sort_is) ∙ within h.instr)

-- ---- references and locals

pub null_room : (s : Store) (v : View) (ty : ValType) → CanPerform s (p.RefNull ty) v → operands_of v < v.room
null_room s v ty h = let f = found s (p.RefNull ty) v h in let b = when_some (is_reference ty) _ f.type f.type_is in room_for_one v ty (has v _ (p.RefNull ty) [] (ty ∷ []) f b.1)

some_local : (F : List Value) (x : ℕ) (t : ValType) → slice_get (map value_type F) x ≡ Some t → x < length F
some_local [] x t e = absurd (let f : ◌≡◌ None (Some t) = e in cc)
some_local (u ∷ F) zero t e = omega arith
some_local (u ∷ F) (suc x) t e = let h = some_local F x t e in omega (arith, h)

pub record IsLocal (v : View) (x : ℕ) : Type 0 where
  pub there : x < length v.locals

pub local_get_there : (s : Store) (v : View) (x : ℕ) → CanPerform s (p.LocalGet x) v → x < length v.locals
local_get_there s v x h = let f = found s (p.LocalGet x) v h in let t = then_some (slice_get (map value_type v.locals) x) _ f.type f.type_is in some_local v.locals x t.0 t.1

pub local_get_room : (s : Store) (v : View) (x : ℕ) → CanPerform s (p.LocalGet x) v → operands_of v < v.room
local_get_room s v x h = let f = found s (p.LocalGet x) v h in let t = then_some (slice_get (map value_type v.locals) x) _ f.type f.type_is in room_for_one v t.0 (has v _ (p.LocalGet x) [] (t.0 ∷ []) f t.2)

some_value : (t : ValType) (vs : List Value) → IsTops (t ∷ []) vs → vs ≡ [] → ⊥
some_value t [] h e = absurd h
some_value t (a ∷ vs) h e = absurd (let f : ◌≡◌ (a ∷ vs) [] = e in cc)

pub local_set_there : (s : Store) (v : View) (x : ℕ) → CanPerform s (p.LocalSet x) v → x < length v.locals
local_set_there s v x h = let f = found s (p.LocalSet x) v h in let t = then_some (slice_get (map value_type v.locals) x) _ f.type f.type_is in some_local v.locals x t.0 t.1

pub local_set_some : (s : Store) (v : View) (x : ℕ) → CanPerform s (p.LocalSet x) v → v.top.values ≡ [] → ⊥
local_set_some s v x h = let f = found s (p.LocalSet x) v h in let t = then_some (slice_get (map value_type v.locals) x) _ f.type f.type_is in some_value t.0 v.top.values (has v _ (p.LocalSet x) (t.0 ∷ []) [] f t.2).tops

pub local_tee_there : (s : Store) (v : View) (x : ℕ) → CanPerform s (p.LocalTee x) v → x < length v.locals
local_tee_there s v x h = let f = found s (p.LocalTee x) v h in let t = then_some (slice_get (map value_type v.locals) x) _ f.type f.type_is in some_local v.locals x t.0 t.1

pub local_tee_some : (s : Store) (v : View) (x : ℕ) → CanPerform s (p.LocalTee x) v → v.top.values ≡ [] → ⊥
local_tee_some s v x h = let f = found s (p.LocalTee x) v h in let t = then_some (slice_get (map value_type v.locals) x) _ f.type f.type_is in some_value t.0 v.top.values (has v _ (p.LocalTee x) (t.0 ∷ []) (t.0 ∷ []) f t.2).tops

-- ---- what an index of the instance names

pub named : {A : Type 0} (xs : List A) (x : ℕ) (P : A → Type 0) (a : A) → slice_get xs x ≡ Some a → P a → Names xs x P
named xs x P a e h = (slice_get_within xs x a e, λ b f. subst P (same_Some _ _ (sym e ∙ f)) h)

abbrev pub inst : Store → View → Instance
inst s v = instance_at s v.instance

func_there : (o : Option ℕ) (f : ℕ → Option FuncType) → is_some (then_ o f) ≡ true → (k : ℕ) × (o ≡ Some k)
func_there None f e = absurd (let g : false ≡ true = e in cc)
func_there (Some k) f e = (k, refl)

pub ref_func_there : (s : Store) (v : View) (x : ℕ) → CanPerform s (p.RefFunc x) v → x < length (inst s v).funcs
ref_func_there s v x h =
    let f = found s (p.RefFunc x) v h in
    let b = when_some (is_some (func_type (module_at s (inst s v).module) x) && is_declared (module_at s (inst s v).module) x) _ f.type f.type_is in
    let k = func_there (slice_get (funcs_of (module_at s (inst s v).module)) x) (slice_get (module_at s (inst s v).module).types) (both _ _ b.0).0 in
    let z = zip_at (HasFunction s (module_at s (inst s v).module)) (inst s v).funcs (funcs_of (module_at s (inst s v).module)) x k.0 h.fits.lists.funcs k.1 in
    slice_get_within (inst s v).funcs x z.0 z.1

pub ref_func_room : (s : Store) (v : View) (x : ℕ) → CanPerform s (p.RefFunc x) v → operands_of v < v.room
ref_func_room s v x h =
    let f = found s (p.RefFunc x) v h in
    let b = when_some (is_some (func_type (module_at s (inst s v).module) x) && is_declared (module_at s (inst s v).module) x) _ f.type f.type_is in
    room_for_one v y.FuncRef (has v _ (p.RefFunc x) [] (y.FuncRef ∷ []) f b.1)

global_for : (s : Store) (v : View) (x : ℕ) (ty : GlobalType) → HasLists s (inst s v) → slice_get (globals_of (module_at s (inst s v).module)) x ≡ Some ty → (a : GlobalAddr) × (slice_get (inst s v).globals x ≡ Some a) × HasGlobal s a ty
global_for s v x ty lists e = zip_at (HasGlobal s) (inst s v).globals (globals_of (module_at s (inst s v).module)) x ty lists.globals e

pub global_get_there : (s : Store) (v : View) (x : ℕ) → CanPerform s (p.GlobalGet x) v → Names (inst s v).globals x (λ (a : GlobalAddr). a.0 < length s.globals)
global_get_there s v x h =
    let f = found s (p.GlobalGet x) v h in
    let t = then_some (slice_get (globals_of (module_at s (inst s v).module)) x) _ f.type f.type_is in
    let z = global_for s v x t.0 h.fits.lists t.1 in
    named (inst s v).globals x (λ (a : GlobalAddr). a.0 < length s.globals) z.0 z.1 z.2.0

pub global_get_room : (s : Store) (v : View) (x : ℕ) → CanPerform s (p.GlobalGet x) v → operands_of v < v.room
global_get_room s v x h =
    let f = found s (p.GlobalGet x) v h in
    let t = then_some (slice_get (globals_of (module_at s (inst s v).module)) x) _ f.type f.type_is in
    room_for_one v t.0.val (has v _ (p.GlobalGet x) [] (t.0.val ∷ []) f t.2)

first_typed : (s : Store) (t : ValType) (ts : List ValType) (vs : List Value) → IsTops (t ∷ ts) vs → AreLive s vs → IsFirstTyped s vs t
first_typed s t ts [] h l = absurd h
first_typed s t ts (a ∷ vs) h l = (h.0, All-head (IsLive s) a vs l)

second_typed : (s : Store) (t u : ValType) (ts : List ValType) (vs : List Value) → IsTops (u ∷ t ∷ ts) vs → AreLive s vs → IsSecondTyped s vs t
second_typed s t u ts [] h l = absurd h
second_typed s t u ts (a ∷ []) h l = absurd h.1
second_typed s t u ts (a ∷ b ∷ vs) h l = (h.1.0, All-head (IsLive s) b vs (All-tail (IsLive s) a (b ∷ vs) l))

pub global_set_there : (s : Store) (v : View) (x : ℕ) → CanPerform s (p.GlobalSet x) v → Names (inst s v).globals x (λ (a : GlobalAddr). IsSettable s a v.top.values)
global_set_there s v x h =
    let f = found s (p.GlobalSet x) v h in
    let t = then_some (slice_get (globals_of (module_at s (inst s v).module)) x) _ f.type f.type_is in
    let b = when_some t.0.mutable _ f.type t.2 in
    let z = global_for s v x t.0 h.fits.lists t.1 in
    let k = has v _ (p.GlobalSet x) (t.0.val ∷ []) [] f b.1 in
    let typed : IsFirstTyped s v.top.values (global_at s z.0).ty.val = subst (λ (g : GlobalType). IsFirstTyped s v.top.values g.val) (sym z.2.1) (first_typed s t.0.val [] v.top.values k.tops h.fits.operands.0) in
    named (inst s v).globals x (λ (a : GlobalAddr). IsSettable s a v.top.values) z.0 z.1 (z.2.0, ap (λ (g : GlobalType). g.mutable) z.2.1 ∙ b.0, typed)

pub global_set_some : (s : Store) (v : View) (x : ℕ) → CanPerform s (p.GlobalSet x) v → v.top.values ≡ [] → ⊥
global_set_some s v x h =
    let f = found s (p.GlobalSet x) v h in
    let t = then_some (slice_get (globals_of (module_at s (inst s v).module)) x) _ f.type f.type_is in
    let b = when_some t.0.mutable _ f.type t.2 in
    some_value t.0.val v.top.values (has v _ (p.GlobalSet x) (t.0.val ∷ []) [] f b.1).tops

-- ---- tables

number_is : (u : Value) → value_type u ≡ y.I32 → (k : ℕ) × (u ≡ w.I32 k)
number_is (w.I32 k) e = (k, refl)
number_is (w.I64 k) e = cc
number_is w.FuncNull e = cc
number_is (w.Func a) e = cc
number_is w.ExternNull e = cc
number_is (w.Extern a) e = cc

pub number_first : (ts : List ValType) (vs : List Value) → IsTops (y.I32 ∷ ts) vs → IsNumberFirst vs
number_first ts [] h = absurd h
number_first ts (a ∷ vs) h = let n = number_is a h.0 in subst (λ u. IsNumberFirst (u ∷ vs)) (sym n.1) tt

over_number : (t : ValType) (ts : List ValType) (vs : List Value) → IsTops (t ∷ y.I32 ∷ ts) vs → IsOverNumber vs
over_number t ts [] h = absurd h
over_number t ts (a ∷ []) h = absurd h.1
over_number t ts (a ∷ b ∷ vs) h = let n = number_is b h.1.0 in subst (λ u. IsOverNumber (a ∷ u ∷ vs)) (sym n.1) tt

under_number : (t : ValType) (ts : List ValType) (vs : List Value) → IsTops (y.I32 ∷ t ∷ ts) vs → IsUnderNumber vs
under_number t ts [] h = absurd h
under_number t ts (a ∷ []) h = absurd h.1
under_number t ts (a ∷ b ∷ vs) h = let n = number_is a h.0 in subst (λ u. IsUnderNumber (u ∷ b ∷ vs)) (sym n.1) tt

between_numbers : (t : ValType) (vs : List Value) → IsTops (y.I32 ∷ t ∷ y.I32 ∷ []) vs → IsBetweenNumbers vs
between_numbers t [] h = absurd h
between_numbers t (a ∷ []) h = absurd h.1
between_numbers t (a ∷ b ∷ []) h = absurd h.1.1
between_numbers t (a ∷ b ∷ c ∷ vs) h =
    let n = number_is a h.0 in
    let k = number_is c h.1.1.0 in
    subst (λ u. IsBetweenNumbers (u ∷ b ∷ c ∷ vs)) (sym n.1) (subst (λ u. IsBetweenNumbers (w.I32 n.0 ∷ b ∷ u ∷ vs)) (sym k.1) tt)

pub three_numbers : (vs : List Value) → IsTops (y.I32 ∷ y.I32 ∷ y.I32 ∷ []) vs → IsThreeNumbers vs
three_numbers [] h = absurd h
three_numbers (a ∷ []) h = absurd h.1
three_numbers (a ∷ b ∷ []) h = absurd h.1.1
three_numbers (a ∷ b ∷ c ∷ vs) h =
    let n = number_is a h.0 in
    let k = number_is b h.1.0 in
    let j = number_is c h.1.1.0 in
    subst (λ u. IsThreeNumbers (u ∷ b ∷ c ∷ vs)) (sym n.1) (subst (λ u. IsThreeNumbers (w.I32 n.0 ∷ u ∷ c ∷ vs)) (sym k.1) (subst (λ u. IsThreeNumbers (w.I32 n.0 ∷ w.I32 k.0 ∷ u ∷ vs)) (sym j.1) tt))

table_for : (s : Store) (v : View) (x : ℕ) (ty : TableType) → HasLists s (inst s v) → slice_get (tables_of (module_at s (inst s v).module)) x ≡ Some ty → (a : TableAddr) × (slice_get (inst s v).tables x ≡ Some a) × HasTable s a ty
table_for s v x ty lists e = zip_at (HasTable s) (inst s v).tables (tables_of (module_at s (inst s v).module)) x ty lists.tables e

-- a table with this type, and what the instruction finds beside it
record AtTable (s : Store) (v : View) (x : ℕ) (k : Simple) (f : FoundIn s k v) (type : TableType → Option Signature) : Type 0 where
  table : TableType
  address : TableAddr
  address_is : slice_get (inst s v).tables x ≡ Some address
  is : HasTable s address table
  goes_is : type table ≡ Some f.type

at_table : (s : Store) (v : View) (x : ℕ) (k : Simple) (f : FoundIn s k v) (type : TableType → Option Signature) → HasLists s (inst s v) → then_ (slice_get (tables_of (module_at s (inst s v).module)) x) type ≡ Some f.type → AtTable s v x k f type
at_table s v x k f type lists e =
    let t = then_some (slice_get (tables_of (module_at s (inst s v).module)) x) type f.type e in
    let z = table_for s v x t.0 lists t.1 in
    record { table = t.0; address = z.0; address_is = z.1; is = z.2; goes_is = t.2 }

get_at : (s : Store) (v : View) (x : ℕ) (h : CanPerform s (p.TableGet x) v) → AtTable s v x (p.TableGet x) (found s (p.TableGet x) v h) (λ (table : TableType). goes (y.I32 ∷ []) (table.elem ∷ []))
get_at s v x h = let f = found s (p.TableGet x) v h in at_table s v x (p.TableGet x) f _ h.fits.lists f.type_is

live_table : (s : Store) (v : View) (x : ℕ) (a : TableAddr) (ty : TableType) → slice_get (inst s v).tables x ≡ Some a → HasTable s a ty → Names (inst s v).tables x (IsLiveTable s)
live_table s v x a ty e h = named (inst s v).tables x (IsLiveTable s) a e h.0

pub table_get_there : (s : Store) (v : View) (x : ℕ) → CanPerform s (p.TableGet x) v → Names (inst s v).tables x (IsLiveTable s)
table_get_there s v x h = let a = get_at s v x h in live_table s v x a.address a.table a.address_is a.is

pub table_get_tops : (s : Store) (v : View) (x : ℕ) → CanPerform s (p.TableGet x) v → IsNumberFirst v.top.values
table_get_tops s v x h = let a = get_at s v x h in number_first [] v.top.values (has v _ (p.TableGet x) (y.I32 ∷ []) (a.table.elem ∷ []) (found s (p.TableGet x) v h) a.goes_is).tops

set_at : (s : Store) (v : View) (x : ℕ) (h : CanPerform s (p.TableSet x) v) → AtTable s v x (p.TableSet x) (found s (p.TableSet x) v h) (λ (table : TableType). goes (table.elem ∷ y.I32 ∷ []) [])
set_at s v x h = let f = found s (p.TableSet x) v h in at_table s v x (p.TableSet x) f _ h.fits.lists f.type_is

set_has : (s : Store) (v : View) (x : ℕ) (h : CanPerform s (p.TableSet x) v) → Has v ((set_at s v x h).table.elem ∷ y.I32 ∷ []) []
set_has s v x h = has v _ (p.TableSet x) ((set_at s v x h).table.elem ∷ y.I32 ∷ []) [] (found s (p.TableSet x) v h) (set_at s v x h).goes_is

pub table_set_tops : (s : Store) (v : View) (x : ℕ) → CanPerform s (p.TableSet x) v → IsOverNumber v.top.values
table_set_tops s v x h = over_number (set_at s v x h).table.elem [] v.top.values (set_has s v x h).tops

pub table_set_there : (s : Store) (v : View) (x : ℕ) → CanPerform s (p.TableSet x) v → Names (inst s v).tables x (λ (a : TableAddr). IsLiveTable s a × IsFirstTyped s v.top.values (table_at s a).elem)
table_set_there s v x h =
    let a = set_at s v x h in
    let typed : IsFirstTyped s v.top.values (table_at s a.address).elem = subst (IsFirstTyped s v.top.values) (sym a.is.1) (first_typed s a.table.elem (y.I32 ∷ []) v.top.values (set_has s v x h).tops h.fits.operands.0) in
    named (inst s v).tables x (λ (a : TableAddr). IsLiveTable s a × IsFirstTyped s v.top.values (table_at s a).elem) a.address a.address_is (a.is.0, typed)

size_at : (s : Store) (v : View) (x : ℕ) (h : CanPerform s (p.TableSize x) v) → AtTable s v x (p.TableSize x) (found s (p.TableSize x) v h) (λ (table : TableType). goes [] (y.I32 ∷ []))
size_at s v x h = let f = found s (p.TableSize x) v h in at_table s v x (p.TableSize x) f _ h.fits.lists f.type_is

pub table_size_there : (s : Store) (v : View) (x : ℕ) → CanPerform s (p.TableSize x) v → Names (inst s v).tables x (IsLiveTable s)
table_size_there s v x h = let a = size_at s v x h in live_table s v x a.address a.table a.address_is a.is

pub table_size_room : (s : Store) (v : View) (x : ℕ) → CanPerform s (p.TableSize x) v → operands_of v < v.room
table_size_room s v x h = room_for_one v y.I32 (has v _ (p.TableSize x) [] (y.I32 ∷ []) (found s (p.TableSize x) v h) (size_at s v x h).goes_is)

grow_at : (s : Store) (v : View) (x : ℕ) (h : CanPerform s (p.TableGrow x) v) → AtTable s v x (p.TableGrow x) (found s (p.TableGrow x) v h) (λ (table : TableType). goes (y.I32 ∷ table.elem ∷ []) (y.I32 ∷ []))
grow_at s v x h = let f = found s (p.TableGrow x) v h in at_table s v x (p.TableGrow x) f _ h.fits.lists f.type_is

grow_has : (s : Store) (v : View) (x : ℕ) (h : CanPerform s (p.TableGrow x) v) → Has v (y.I32 ∷ (grow_at s v x h).table.elem ∷ []) (y.I32 ∷ [])
grow_has s v x h = has v _ (p.TableGrow x) (y.I32 ∷ (grow_at s v x h).table.elem ∷ []) (y.I32 ∷ []) (found s (p.TableGrow x) v h) (grow_at s v x h).goes_is

pub table_grow_tops : (s : Store) (v : View) (x : ℕ) → CanPerform s (p.TableGrow x) v → IsUnderNumber v.top.values
table_grow_tops s v x h = under_number (grow_at s v x h).table.elem [] v.top.values (grow_has s v x h).tops

pub table_grow_there : (s : Store) (v : View) (x : ℕ) → CanPerform s (p.TableGrow x) v → Names (inst s v).tables x (λ (a : TableAddr). IsLiveTable s a × IsSecondTyped s v.top.values (table_at s a).elem)
table_grow_there s v x h =
    let a = grow_at s v x h in
    let typed : IsSecondTyped s v.top.values (table_at s a.address).elem = subst (IsSecondTyped s v.top.values) (sym a.is.1) (second_typed s a.table.elem y.I32 [] v.top.values (grow_has s v x h).tops h.fits.operands.0) in
    named (inst s v).tables x (λ (a : TableAddr). IsLiveTable s a × IsSecondTyped s v.top.values (table_at s a).elem) a.address a.address_is (a.is.0, typed)

fill_at : (s : Store) (v : View) (x : ℕ) (h : CanPerform s (p.TableFill x) v) → AtTable s v x (p.TableFill x) (found s (p.TableFill x) v h) (λ (table : TableType). goes (y.I32 ∷ table.elem ∷ y.I32 ∷ []) [])
fill_at s v x h = let f = found s (p.TableFill x) v h in at_table s v x (p.TableFill x) f _ h.fits.lists f.type_is

fill_has : (s : Store) (v : View) (x : ℕ) (h : CanPerform s (p.TableFill x) v) → Has v (y.I32 ∷ (fill_at s v x h).table.elem ∷ y.I32 ∷ []) []
fill_has s v x h = has v _ (p.TableFill x) (y.I32 ∷ (fill_at s v x h).table.elem ∷ y.I32 ∷ []) [] (found s (p.TableFill x) v h) (fill_at s v x h).goes_is

pub table_fill_tops : (s : Store) (v : View) (x : ℕ) → CanPerform s (p.TableFill x) v → IsBetweenNumbers v.top.values
table_fill_tops s v x h = between_numbers (fill_at s v x h).table.elem v.top.values (fill_has s v x h).tops

pub table_fill_there : (s : Store) (v : View) (x : ℕ) → CanPerform s (p.TableFill x) v → Names (inst s v).tables x (λ (a : TableAddr). IsLiveTable s a × IsSecondTyped s v.top.values (table_at s a).elem)
table_fill_there s v x h =
    let a = fill_at s v x h in
    let typed : IsSecondTyped s v.top.values (table_at s a.address).elem = subst (IsSecondTyped s v.top.values) (sym a.is.1) (second_typed s a.table.elem y.I32 (y.I32 ∷ []) v.top.values (fill_has s v x h).tops h.fits.operands.0) in
    named (inst s v).tables x (λ (a : TableAddr). IsLiveTable s a × IsSecondTyped s v.top.values (table_at s a).elem) a.address a.address_is (a.is.0, typed)

-- two tables of one element type

pub record IsCopy (s : Store) (v : View) (to from : ℕ) : Type 0 where
  pub there : Names (inst s v).tables to (IsLiveTable s)
  pub there_from : Names (inst s v).tables from (IsLiveTable s)
  pub same : Names (inst s v).tables to (λ (a : TableAddr). Names (inst s v).tables from (λ (b : TableAddr). (table_at s b).elem ≡ (table_at s a).elem))
  pub tops : IsThreeNumbers v.top.values

pub table_copy_finds : (s : Store) (v : View) (to from : ℕ) → CanPerform s (p.TableCopy to from) v → IsCopy s v to from
table_copy_finds s v to from h =
    let f = found s (p.TableCopy to from) v h in
    let m = module_at s (inst s v).module in
    let t = then_some (slice_get (tables_of m) to) _ f.type f.type_is in
    let u = then_some (slice_get (tables_of m) from) _ f.type t.2 in
    let b = when_some (same_type t.0.elem u.0.elem) _ f.type u.2 in
    let z = table_for s v to t.0 h.fits.lists t.1 in
    let x = table_for s v from u.0 h.fits.lists u.1 in
    let e : (table_at s x.0).elem ≡ (table_at s z.0).elem = x.2.1 ∙ same_types t.0.elem u.0.elem b.0 ∙ sym z.2.1 in
    record {
      there = live_table s v to z.0 t.0 z.1 z.2;
      there_from = live_table s v from x.0 u.0 x.1 x.2;
      same = named (inst s v).tables to (λ (a : TableAddr). Names (inst s v).tables from (λ (b : TableAddr). (table_at s b).elem ≡ (table_at s a).elem)) z.0 z.1 (named (inst s v).tables from (λ (b : TableAddr). (table_at s b).elem ≡ (table_at s z.0).elem) x.0 x.1 e);
      tops = three_numbers v.top.values (has v _ (p.TableCopy to from) (y.I32 ∷ y.I32 ∷ y.I32 ∷ []) [] f b.1).tops;
    }

pub record IsInit (s : Store) (v : View) (elem table : ℕ) : Type 0 where
  pub there : Names (inst s v).tables table (IsLiveTable s)
  pub there_segment : Names (inst s v).elems elem (λ (e : ElemAddr). e.0 < length s.elements)
  pub typed : Names (inst s v).tables table (λ (a : TableAddr). Names (inst s v).elems elem (λ (e : ElemAddr). AreTyped s (element_at s e) (table_at s a).elem))
  pub tops : IsThreeNumbers v.top.values

pub table_init_finds : (s : Store) (v : View) (elem table : ℕ) → CanPerform s (p.TableInit elem table) v → IsInit s v elem table
table_init_finds s v elem table h =
    let f = found s (p.TableInit elem table) v h in
    let m = module_at s (inst s v).module in
    let t = then_some (slice_get m.elems elem) _ f.type f.type_is in
    let u = then_some (slice_get (tables_of m) table) _ f.type t.2 in
    let b = when_some (same_type t.0.ty u.0.elem) _ f.type u.2 in
    let z = zip_at (HasElement s) (inst s v).elems m.elems elem t.0 h.fits.lists.elems t.1 in
    let x = table_for s v table u.0 h.fits.lists u.1 in
    let e : t.0.ty ≡ (table_at s x.0).elem = sym (same_types t.0.ty u.0.elem b.0) ∙ sym x.2.1 in
    let typed : AreTyped s (element_at s z.0) (table_at s x.0).elem = subst (AreTyped s (element_at s z.0)) e z.2.1 in
    record {
      there = live_table s v table x.0 u.0 x.1 x.2;
      there_segment = named (inst s v).elems elem (λ (e : ElemAddr). e.0 < length s.elements) z.0 z.1 z.2.0;
      typed = named (inst s v).tables table (λ (a : TableAddr). Names (inst s v).elems elem (λ (e : ElemAddr). AreTyped s (element_at s e) (table_at s a).elem)) x.0 x.1 (named (inst s v).elems elem (λ (e : ElemAddr). AreTyped s (element_at s e) (table_at s x.0).elem) z.0 z.1 typed);
      tops = three_numbers v.top.values (has v _ (p.TableInit elem table) (y.I32 ∷ y.I32 ∷ y.I32 ∷ []) [] f b.1).tops;
    }

pub elem_drop_there : (s : Store) (v : View) (x : ℕ) → CanPerform s (p.ElemDrop x) v → Names (inst s v).elems x (λ (e : ElemAddr). e.0 < length s.elements)
elem_drop_there s v x h =
    let f = found s (p.ElemDrop x) v h in
    let m = module_at s (inst s v).module in
    let b = when_some (nat_lt x (length m.elems)) _ f.type f.type_is in
    let a = zip_segment s (inst s v) x h.fits.lists b.0 in
    named (inst s v).elems x (λ (e : ElemAddr). e.0 < length s.elements) a.0 a.1 a.2
  where
    zip_segment : (s : Store) (j : Instance) (x : ℕ) → HasLists s j → nat_lt x (length (module_at s j.module).elems) ≡ true → (e : ElemAddr) × (slice_get j.elems x ≡ Some e) × (e.0 < length s.elements)
    zip_segment s j x lists e =
        let k = some_at (module_at s j.module).elems x (ltb-true x (length (module_at s j.module).elems) e) in
        let z = zip_at (HasElement s) j.elems (module_at s j.module).elems x k.0 lists.elems k.1 in
        (z.0, z.1, z.2.0)

-- a value that has been taken off

pub first_from : (s : Store) (vs us : List Value) (u : Value) (t : ValType) → vs ≡ u ∷ us → IsFirstTyped s vs t → HasType s u t
first_from s vs us u t e h = subst (λ ws. IsFirstTyped s ws t) e h

pub second_from : (s : Store) (vs us ws : List Value) (k u : Value) (t : ValType) → vs ≡ k ∷ us → us ≡ u ∷ ws → IsSecondTyped s vs t → HasType s u t
second_from s vs us ws k u t e f h = subst (λ xs. IsSecondTyped s (k ∷ xs) t) f (subst (λ xs. IsSecondTyped s xs t) e h)

-- the instruction that is at work, by its name
pub as_is : (s : Store) (k j : Simple) (v : View) → k ≡ j → CanPerform s k v → CanPerform s j v
as_is s k j v e h = subst (λ i. CanPerform s i v) e h

-- what an instruction comes to whose rule asks for no store

pub ends_goes : (s : Store) (k j : Simple) (old new : View) → k ≡ j → Goes j old new → Ends s k old (Ok tt) s new
ends_goes s k j old new e h = subst (λ i. Ends s i old (Ok tt) s new) (sym e) (h s (instance_at s old.instance))

ends_by : (s : Store) (j : Simple) (old new : View) (r : Result (Unit {0}) Trap) → OnOk r (Goes j old new) → IfErr r (GoesTo j old) → Ends s j old r s new
ends_by s j old new (Ok x) g t = g s (instance_at s old.instance)
ends_by s j old new (Err cause) g t = (t s (instance_at s old.instance), refl)

pub ends_either : (s : Store) (k j : Simple) (old new : View) (r : Result (Unit {0}) Trap) → k ≡ j → OnOk r (Goes j old new) → IfErr r (GoesTo j old) → Ends s k old r s new
ends_either s k j old new r e g t = subst (λ i. Ends s i old r s new) (sym e) (ends_by s j old new r g t)
