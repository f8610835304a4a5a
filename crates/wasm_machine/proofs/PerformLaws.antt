-- A simple instruction on operands of its types goes on, with operands of the types that it gives and locals of the types that there
-- were, or it traps.
use Rattle.std.proofs.Common.{◌≡◌, ℕ, zero, suc, ◌<◌, List, [], ◌∷◌, ◌++◌, length, refl, sym, ap, ◌∙◌, subst, arith, Option, Some, None, map, Bool, true, false, ◌&&◌}
use Rattle.std.specs.Prelude.{replicate, ◌%◌, slice_get, slice_set, nat_lt, nat_le, is_some, Result, Ok, Err}
use Rattle.std.specs.List.{All, AllZip}
use Rattle.std.proofs.lemmas.Bool.{ltb-true}
use Rattle.std.proofs.lemmas.List.{map-set}
use Rattle.std.proofs.lemmas.List.Elements.{All-cons, All-head, All-tail, All-set}
use Rattle.std.proofs.lemmas.Option.{same_Some, slice_get_within, get_or_from_slice_get}
use Rattle.wasm_syntax.specs.declared.types.ValType.{ValType}
use Rattle.wasm_syntax.specs.declared.types.ValType.TheVariants as v
use Rattle.wasm_syntax.specs.declared.types.TableType.{TableType}
use Rattle.wasm_syntax.specs.declared.types.GlobalType.{GlobalType}
use Rattle.wasm_syntax.specs.declared.trap.Trap.{Trap}
use Rattle.wasm_syntax.specs.declared.value.Value.{Value}
use Rattle.wasm_syntax.specs.declared.value.Value.TheVariants as w
use Rattle.wasm_syntax.specs.declared.addresses.FuncAddr.{FuncAddr}
use Rattle.wasm_syntax.specs.declared.addresses.TableAddr.{TableAddr}
use Rattle.wasm_syntax.specs.declared.addresses.MemAddr.{MemAddr}
use Rattle.wasm_syntax.specs.declared.addresses.GlobalAddr.{GlobalAddr}
use Rattle.wasm_syntax.specs.declared.module.Module.{Module}
use Rattle.wasm_syntax.specs.declared.numbers.NumType.{NumType}
use Rattle.wasm_syntax.specs.declared.numbers.NumType.TheVariants as n
use Rattle.wasm_syntax.specs.declared.numbers.Num.{Num}
use Rattle.wasm_syntax.specs.declared.numbers.Num.TheVariants as m
use Rattle.wasm_syntax.specs.declared.numbers.BinOp.{BinOp}
use Rattle.wasm_syntax.specs.declared.numbers.UnOp.{UnOp}
use Rattle.wasm_syntax.specs.declared.numbers.ConvOp.{ConvOp}
use Rattle.wasm_syntax.specs.declared.numbers.ConvOp.TheVariants as c
use Rattle.wasm_syntax.specs.declared.numbers.Width.{Width}
use Rattle.wasm_syntax.specs.declared.numbers.Extension.{Extension}
use Rattle.wasm_syntax.specs.declared.numbers.Extension.TheVariants as x
use Rattle.wasm_syntax.specs.declared.sorts.Simple.{Simple}
use Rattle.wasm_syntax.specs.declared.sorts.Simple.TheVariants as p
use Rattle.wasm_syntax.specs.declared.instructions.MemArg.{MemArg}
use Rattle.wasm_syntax.specs.NumberTypes.{value_type as number_type, type_of_number, source_of, target_of, natural_alignment}
use Rattle.wasm_syntax.specs.ValueTypes.{same_type, is_reference}
use Rattle.wasm_num.specs.Integers.{unary_of, binary_of, convert_of, at_width_of, result_at_width_of, integer_binary, integer_unary, width_of, number_of as whole_of}
use Rattle.wasm_valid.specs.Spaces.{when, then_, funcs_of, tables_of, mems_of, globals_of, func_type, has_memory, is_declared}
use Rattle.wasm_valid.specs.Typing.{Signature, signature, goes}
use Rattle.wasm_store.specs.declared.instances.Instance.{Instance}
use Rattle.wasm_store.specs.Store.{Store, module_at, table_at, global_at, element_at, with_table, with_entries, run, no_table, no_global}
use Rattle.wasm_store.specs.Allocated.{null_of}
use Rattle.wasm_store.specs.Whole.{value_type, IsLive, AreLive, HasType, HasLists, HasFunction, HasTable, HasMemory, HasGlobal, HasElement, HasData, IsWhole}
use Rattle.wasm_machine.specs.Performing.{Performed, performs, traps, lacks, perform, take_value, take_i32, take_number, find, check, number_value, at_type, result, minus_one, read_entry, grow_by, grow_memory_by, extended, in_range, place, bytes_of, write_bytes, write_entries, number_of}
use Rattle.wasm_store.specs.Memories.{memory_at, data_at}
use Rattle.raw_memory.specs.Bytes.{number, low_bytes, run as bytes_from}
use Rattle.wasm_syntax.specs.declared.trap.Trap.TheVariants as trap

-- ---- what is shown

-- operands and locals of these types, all of them live in the store that there was
pub record Gone (s : Store) (F : List Value) (ts : List ValType) (G ws : List Value) : Type 0 where
  pub types : map value_type ws ≡ ts
  pub live : AreLive s ws
  pub locals : map value_type G ≡ map value_type F
  pub live_locals : AreLive s G

abbrev pub IsFine : Store → List Value → List ValType → Performed → Type 0
IsFine s F ts (performs t G ws) = Gone s F ts G ws
IsFine s F ts (traps cause) = Unit {0}
IsFine s F ts lacks = ⊥

-- so it is of a form where an instruction has this type, over operands of the types us
abbrev pub IsRight : Store → List Value → List Value → List ValType → Performed → Option Signature → Type 0
IsRight s F vs us q o = (g : Signature) → o ≡ Some g → map value_type vs ≡ g.takes ++ us → IsFine s F (g.gives ++ us) q

-- ---- lists

pub zip_at : {A B : Type 0} (R : A → B → Type 0) → (xs : List A) (ys : List B) (k : ℕ) (y : B) → AllZip R xs ys → slice_get ys k ≡ Some y → (a : A) × (slice_get xs k ≡ Some a) × R a y
zip_at R [] [] k y h e = absurd (let f : ◌≡◌ None (Some y) = e in cc)
zip_at R [] (z ∷ ys) k y h e = absurd h
zip_at R (a ∷ xs) [] k y h e = absurd h
zip_at {A} {B} R (a ∷ xs) (z ∷ ys) zero y h e = (a, refl, (let same : z ≡ y = cc in subst (λ (b : B). R a b) same h.0))
zip_at R (a ∷ xs) (z ∷ ys) (suc k) y h e = zip_at R xs ys k y h.1 e

pub some_at : {A : Type 0} (xs : List A) (k : ℕ) → k < length xs → (a : A) × (slice_get xs k ≡ Some a)
some_at [] k h = absurd (omega arith)
some_at (a ∷ xs) zero h = (a, refl)
some_at (a ∷ xs) (suc k) h = some_at xs k (omega arith)

pub zip_within : {A B : Type 0} (R : A → B → Type 0) → (xs : List A) (ys : List B) (k : ℕ) → AllZip R xs ys → nat_lt k (length ys) ≡ true → (a : A) × (slice_get xs k ≡ Some a)
zip_within R xs ys k h e =
    let b = some_at ys k (ltb-true k (length ys) e) in
    let z = zip_at R xs ys k b.0 h b.1 in
    (z.0, z.1)

set_same : (ts : List ValType) (k : ℕ) (t : ValType) → slice_get ts k ≡ Some t → slice_set ts k t ≡ ts
set_same [] k t e = refl
set_same (u ∷ ts) zero t e = let f : u ≡ t = cc in ap (λ w. w ∷ ts) (sym f)
set_same (u ∷ ts) (suc k) t e = ap (λ us. u ∷ us) (set_same ts k t e)

pub live_at : (s : Store) (vs : List Value) (k : ℕ) (u : Value) → AreLive s vs → slice_get vs k ≡ Some u → IsLive s u
live_at s vs k u h e = subst (IsLive s) (get_or_from_slice_get vs k u u e) (h k u (slice_get_within vs k u e))

-- ---- how a rule is taken apart

right_goes : (s : Store) (F vs : List Value) (us : List ValType) (q : Performed) (ts gs : List ValType) → (map value_type vs ≡ ts ++ us → IsFine s F (gs ++ us) q) → IsRight s F vs us q (goes ts gs)
right_goes s F vs us q ts gs h g e t =
    let same : record { takes = ts; gives = gs } ≡ g = same_Some _ _ e in
    subst (λ (k : Signature). map value_type vs ≡ k.takes ++ us → IsFine s F (k.gives ++ us) q) same h t

right_when : (s : Store) (F vs : List Value) (us : List ValType) (q : Performed) (b : Bool) (o : Option Signature) → (b ≡ true → IsRight s F vs us q o) → IsRight s F vs us q (when b o)
right_when s F vs us q true o h g e t = h refl g e t
right_when s F vs us q false o h g e t = absurd (let f : ◌≡◌ None (Some g) = e in cc)

right_then : {A : Type 0} (s : Store) (F vs : List Value) (us : List ValType) (q : Performed) (o : Option A) (f : A → Option Signature) → ((a : A) → o ≡ Some a → IsRight s F vs us q (f a)) → IsRight s F vs us q (then_ o f)
right_then s F vs us q None f h g e t = absurd (let k : ◌≡◌ None (Some g) = e in cc)
right_then s F vs us q (Some a) f h g e t = h a refl g e t

fine_find : {A : Type 0} (s : Store) (F : List Value) (ts : List ValType) (o : Option A) (f : A → Performed) (a : A) → o ≡ Some a → IsFine s F ts (f a) → IsFine s F ts (find o f)
fine_find s F ts o f a e h = subst (λ o. IsFine s F ts (find o f)) (sym e) h

fine_check : (s : Store) (F : List Value) (ts : List ValType) (t : Trap) (b : Bool) (q : Performed) → (b ≡ true → IsFine s F ts q) → IsFine s F ts (check t b q)
fine_check s F ts t true q h = h refl
fine_check s F ts t false q h = tt

fine_value : (s : Store) (F : List Value) (rs : List ValType) (t : ValType) (ts : List ValType) (vs : List Value) (f : Value → List Value → Performed)
    → map value_type vs ≡ t ∷ ts → AreLive s vs
    → ((a : Value) (us : List Value) → value_type a ≡ t → IsLive s a → map value_type us ≡ ts → AreLive s us → IsFine s F rs (f a us))
    → IsFine s F rs (take_value vs f)
fine_value s F rs t ts [] f e live h = absurd (let k : ◌≡◌ [] (t ∷ ts) = e in cc)
fine_value s F rs t ts (a ∷ us) f e live h =
    let k : value_type a ∷ map value_type us ≡ t ∷ ts = e in
    h a us (let r : value_type a ≡ t = cc in r) (All-head (IsLive s) a us live) (let r : map value_type us ≡ ts = cc in r) (All-tail (IsLive s) a us live)

fine_i32 : (s : Store) (F : List Value) (rs ts : List ValType) (vs : List Value) (f : ℕ → List Value → Performed)
    → map value_type vs ≡ v.I32 ∷ ts → AreLive s vs
    → ((k : ℕ) (us : List Value) → map value_type us ≡ ts → AreLive s us → IsFine s F rs (f k us))
    → IsFine s F rs (take_i32 vs f)
fine_i32 s F rs ts [] f e live h = cc
fine_i32 s F rs ts (w.I32 k ∷ us) f e live h = h k us (let r : map value_type us ≡ ts = cc in r) (All-tail (IsLive s) (w.I32 k) us live)
fine_i32 s F rs ts (w.I64 k ∷ us) f e live h = cc
fine_i32 s F rs ts (w.FuncNull ∷ us) f e live h = cc
fine_i32 s F rs ts (w.Func a ∷ us) f e live h = cc
fine_i32 s F rs ts (w.ExternNull ∷ us) f e live h = cc
fine_i32 s F rs ts (w.Extern a ∷ us) f e live h = cc

fine_number : (s : Store) (F : List Value) (rs : List ValType) (t : NumType) (ts : List ValType) (vs : List Value) (f : Num → List Value → Performed)
    → map value_type vs ≡ number_type t ∷ ts → AreLive s vs
    → ((a : Num) (us : List Value) → type_of_number a ≡ t → map value_type us ≡ ts → AreLive s us → IsFine s F rs (f a us))
    → IsFine s F rs (take_number t vs f)
fine_number s F rs n.I32 ts [] f e live h = cc
fine_number s F rs n.I32 ts (w.I32 k ∷ us) f e live h = h (m.I32 k) us refl (let r : map value_type us ≡ ts = cc in r) (All-tail (IsLive s) (w.I32 k) us live)
fine_number s F rs n.I32 ts (w.I64 k ∷ us) f e live h = cc
fine_number s F rs n.I32 ts (w.FuncNull ∷ us) f e live h = cc
fine_number s F rs n.I32 ts (w.Func a ∷ us) f e live h = cc
fine_number s F rs n.I32 ts (w.ExternNull ∷ us) f e live h = cc
fine_number s F rs n.I32 ts (w.Extern a ∷ us) f e live h = cc
fine_number s F rs n.I64 ts [] f e live h = cc
fine_number s F rs n.I64 ts (w.I32 k ∷ us) f e live h = cc
fine_number s F rs n.I64 ts (w.I64 k ∷ us) f e live h = h (m.I64 k) us refl (let r : map value_type us ≡ ts = cc in r) (All-tail (IsLive s) (w.I64 k) us live)
fine_number s F rs n.I64 ts (w.FuncNull ∷ us) f e live h = cc
fine_number s F rs n.I64 ts (w.Func a ∷ us) f e live h = cc
fine_number s F rs n.I64 ts (w.ExternNull ∷ us) f e live h = cc
fine_number s F rs n.I64 ts (w.Extern a ∷ us) f e live h = cc

-- one value more on the others
gone_push : (s : Store) (F : List Value) (t : ValType) (ts : List ValType) (u : Value) (us : List Value) → value_type u ≡ t → IsLive s u → map value_type us ≡ ts → AreLive s us → AreLive s F → Gone s F (t ∷ ts) F (u ∷ us)
gone_push s F t ts u us e live h lives locals = record {
  types = (let f : value_type u ∷ map value_type us ≡ t ∷ ts = cc in f);
  live = All-cons (IsLive s) u us live lives;
  locals = refl;
  live_locals = locals;
}

gone_same : (s : Store) (F : List Value) (ts : List ValType) (us : List Value) → map value_type us ≡ ts → AreLive s us → AreLive s F → Gone s F ts F us
gone_same s F ts us e lives locals = record { types = e; live = lives; locals = refl; live_locals = locals }

-- ---- numbers

number_typed : (a : Num) → value_type (number_value a) ≡ number_type (type_of_number a)
number_typed (m.I32 k) = refl
number_typed (m.I64 k) = refl

number_live : (s : Store) (a : Num) → IsLive s (number_value a)
number_live s (m.I32 k) = tt
number_live s (m.I64 k) = tt

gone_number : (s : Store) (F : List Value) (t : NumType) (ts : List ValType) (a : Num) (us : List Value) → type_of_number a ≡ t → map value_type us ≡ ts → AreLive s us → AreLive s F → Gone s F (number_type t ∷ ts) F (number_value a ∷ us)
gone_number s F t ts a us e h lives locals = gone_push s F (number_type t) ts (number_value a) us (number_typed a ∙ ap number_type e) (number_live s a) h lives locals

width_typed : (a : Num) (k : ℕ) → type_of_number (at_width_of a k) ≡ type_of_number a
width_typed (m.I32 j) k = refl
width_typed (m.I64 j) k = refl

unary_typed : (op : UnOp) (a : Num) → type_of_number (unary_of op a) ≡ type_of_number a
unfolding unary_of
unary_typed op a = width_typed a (integer_unary op (width_of a) (whole_of a))

convert_typed : (op : ConvOp) (a : Num) → type_of_number (convert_of op a) ≡ target_of op
unfolding convert_of
convert_typed c.Wrap a = refl
convert_typed c.ExtendS a = refl
convert_typed c.ExtendU a = refl

at_typed : (t : NumType) (k : ℕ) → type_of_number (at_type t k) ≡ t
at_typed n.I32 k = refl
at_typed n.I64 k = refl

extended_typed : (t : NumType) (width : Width) (extension : Extension) (k : ℕ) → type_of_number (extended t width extension k) ≡ t
extended_typed t width x.Unsigned k = at_typed t k
extended_typed t width x.Signed k = at_typed t _

fine_result : (s : Store) (F : List Value) (t : NumType) (ts : List ValType) (us : List Value) (a : Num) (r : Result ℕ Trap) → type_of_number a ≡ t → map value_type us ≡ ts → AreLive s us → AreLive s F
    → IsFine s F (number_type t ∷ ts) (result s F us (result_at_width_of a r))
fine_result s F t ts us a (Ok k) e h lives locals = gone_number s F t ts (at_width_of a k) us (width_typed a k ∙ e) h lives locals
fine_result s F t ts us a (Err cause) e h lives locals = tt

fine_binary : (s : Store) (F : List Value) (t : NumType) (ts : List ValType) (us : List Value) (op : BinOp) (a b : Num) → type_of_number a ≡ t → map value_type us ≡ ts → AreLive s us → AreLive s F
    → IsFine s F (number_type t ∷ ts) (result s F us (binary_of op a b))
unfolding binary_of
fine_binary s F t ts us op a b e h lives locals = fine_result s F t ts us a (integer_binary op (width_of a) (whole_of a) (whole_of b)) e h lives locals

-- ---- references and variables

null_typed : (t : ValType) → is_reference t ≡ true → value_type (null_of t) ≡ t
null_typed v.I32 e = cc
null_typed v.I64 e = cc
null_typed v.FuncRef e = refl
null_typed v.ExternRef e = refl

null_live : (s : Store) (t : ValType) → IsLive s (null_of t)
null_live s v.I32 = tt
null_live s v.I64 = tt
null_live s v.FuncRef = tt
null_live s v.ExternRef = tt

func_there : (m : Module) (y : ℕ) (o : Option ℕ) → is_some (then_ o (slice_get m.types)) ≡ true → (k : ℕ) × (o ≡ Some k)
func_there m y None e = absurd (let f : false ≡ true = e in cc)
func_there m y (Some k) e = (k, refl)

both : (a b : Bool) → (a && b) ≡ true → (a ≡ true) × (b ≡ true)
both true true e = (refl, refl)
both true false e = cc
both false b e = cc

-- what a rule stands on: the store is whole, the instance has its lists, and the values that there are are live
record Stands (s : Store) (i : Instance) (F vs : List Value) : Type 0 where
  whole : IsWhole s
  lists : HasLists s i
  locals : AreLive s F
  values : AreLive s vs

-- what an index of the module names
func_at : (s : Store) (i : Instance) (y : ℕ) → HasLists s i → is_some (func_type (module_at s i.module) y) ≡ true → (a : FuncAddr) × (slice_get i.funcs y ≡ Some a) × (a.0 < length s.functions)
func_at s i y lists e =
    let k = func_there (module_at s i.module) y (slice_get (funcs_of (module_at s i.module)) y) e in
    let z = zip_at (HasFunction s (module_at s i.module)) i.funcs (funcs_of (module_at s i.module)) y k.0 lists.funcs k.1 in
    (z.0, z.1, z.2.0)

global_for : (s : Store) (i : Instance) (y : ℕ) (ty : GlobalType) → HasLists s i → slice_get (globals_of (module_at s i.module)) y ≡ Some ty → (a : GlobalAddr) × (slice_get i.globals y ≡ Some a) × HasGlobal s a ty
global_for s i y ty lists e = zip_at (HasGlobal s) i.globals (globals_of (module_at s i.module)) y ty lists.globals e

table_for : (s : Store) (i : Instance) (y : ℕ) (ty : TableType) → HasLists s i → slice_get (tables_of (module_at s i.module)) y ≡ Some ty → (a : TableAddr) × (slice_get i.tables y ≡ Some a) × HasTable s a ty
table_for s i y ty lists e = zip_at (HasTable s) i.tables (tables_of (module_at s i.module)) y ty lists.tables e

memory_for : (s : Store) (i : Instance) → HasLists s i → has_memory (module_at s i.module) ≡ true → (a : MemAddr) × (slice_get i.mems 0 ≡ Some a)
memory_for s i lists e = zip_within (HasMemory s) i.mems (mems_of (module_at s i.module)) 0 lists.mems e

right_global_get : (s : Store) (i : Instance) (F vs : List Value) (us : List ValType) (y : ℕ) → Stands s i F vs → IsRight s F vs us (perform s i F vs (p.GlobalGet y)) (signature (module_at s i.module) (map value_type F) (p.GlobalGet y))
right_global_get s i F vs us y h = right_then s F vs us _ (slice_get (globals_of (module_at s i.module)) y) _ (λ ty e. right_goes s F vs us _ [] (ty.val ∷ []) (λ t.
    let g = global_for s i y ty h.lists e in
    let typed : HasType s (global_at s g.0).value (global_at s g.0).ty.val = h.whole.globals g.0.0 no_global g.2.0 in
    fine_find s F (ty.val ∷ us) (slice_get i.globals y) _ g.0 g.1 (gone_push s F ty.val us (global_at s g.0).value vs (typed.0 ∙ ap (λ (k : GlobalType). k.val) g.2.1) typed.1 t h.values h.locals)))

right_global_set : (s : Store) (i : Instance) (F vs : List Value) (us : List ValType) (y : ℕ) → Stands s i F vs → IsRight s F vs us (perform s i F vs (p.GlobalSet y)) (signature (module_at s i.module) (map value_type F) (p.GlobalSet y))
right_global_set s i F vs us y h = right_then s F vs us _ (slice_get (globals_of (module_at s i.module)) y) _ (λ ty e. right_when s F vs us _ ty.mutable _ (λ mutable. right_goes s F vs us _ (ty.val ∷ []) [] (λ t.
    let g = global_for s i y ty h.lists e in
    fine_find s F us (slice_get i.globals y) _ g.0 g.1 (fine_value s F us ty.val us vs _ t h.values (λ a rest typed live types lives. gone_same s F us rest types lives h.locals)))))

local_typed : (F : List Value) (y : ℕ) (t : ValType) → slice_get (map value_type F) y ≡ Some t → (u : Value) × (slice_get F y ≡ Some u) × (value_type u ≡ t)
local_typed [] y t e = absurd (let f : ◌≡◌ None (Some t) = e in cc)
local_typed (u ∷ F) zero t e = (u, refl, same_Some _ _ e)
local_typed (u ∷ F) (suc y) t e = local_typed F y t e

right_local_get : (s : Store) (i : Instance) (F vs : List Value) (us : List ValType) (y : ℕ) → Stands s i F vs → IsRight s F vs us (perform s i F vs (p.LocalGet y)) (signature (module_at s i.module) (map value_type F) (p.LocalGet y))
right_local_get s i F vs us y h = right_then s F vs us _ (slice_get (map value_type F) y) _ (λ ty e. right_goes s F vs us _ [] (ty ∷ []) (λ t.
    let l = local_typed F y ty e in
    fine_find s F (ty ∷ us) (slice_get F y) _ l.0 l.1 (gone_push s F ty us l.0 vs l.2 (live_at s F y l.0 h.locals l.1) t h.values h.locals)))

-- a local that is written has its type still
gone_set : (s : Store) (F : List Value) (y : ℕ) (ty : ValType) (ts : List ValType) (a : Value) (us : List Value) → slice_get (map value_type F) y ≡ Some ty → value_type a ≡ ty → IsLive s a → map value_type us ≡ ts → AreLive s us → AreLive s F
    → Gone s F ts (slice_set F y a) us
gone_set s F y ty ts a us e typed live types lives locals = record {
  types = types;
  live = lives;
  locals = map-set value_type F y a ∙ set_same (map value_type F) y (value_type a) (e ∙ ap Some (sym typed));
  live_locals = All-set (IsLive s) F y a live locals;
}

right_local_set : (s : Store) (i : Instance) (F vs : List Value) (us : List ValType) (y : ℕ) → Stands s i F vs → IsRight s F vs us (perform s i F vs (p.LocalSet y)) (signature (module_at s i.module) (map value_type F) (p.LocalSet y))
right_local_set s i F vs us y h = right_then s F vs us _ (slice_get (map value_type F) y) _ (λ ty e. right_goes s F vs us _ (ty ∷ []) [] (λ t.
    let l = local_typed F y ty e in
    fine_find s F us (slice_get F y) _ l.0 l.1 (fine_value s F us ty us vs _ t h.values (λ a rest typed live types lives. gone_set s F y ty us a rest e typed live types lives h.locals))))

right_local_tee : (s : Store) (i : Instance) (F vs : List Value) (us : List ValType) (y : ℕ) → Stands s i F vs → IsRight s F vs us (perform s i F vs (p.LocalTee y)) (signature (module_at s i.module) (map value_type F) (p.LocalTee y))
right_local_tee s i F vs us y h = right_then s F vs us _ (slice_get (map value_type F) y) _ (λ ty e. right_goes s F vs us _ (ty ∷ []) (ty ∷ []) (λ t.
    let l = local_typed F y ty e in
    fine_find s F (ty ∷ us) (slice_get F y) _ l.0 l.1 (fine_value s F (ty ∷ us) ty us vs _ t h.values (λ a rest typed live types lives.
    gone_set s F y ty (ty ∷ us) a (a ∷ rest) e typed live (let f : value_type a ∷ map value_type rest ≡ ty ∷ us = cc in f) (All-cons (IsLive s) a rest live lives) h.locals))))

-- ---- tables

fine_entry : (s : Store) (F : List Value) (ty : ValType) (us : List ValType) (vs entries : List Value) (k : ℕ) (o : Option Value) → slice_get entries k ≡ o → All (λ (u : Value). HasType s u ty) entries → map value_type vs ≡ us → AreLive s vs → AreLive s F
    → IsFine s F (ty ∷ us) (read_entry s F vs o)
fine_entry s F ty us vs entries k None e typed t lives locals = tt
fine_entry s F ty us vs entries k (Some u) e typed t lives locals =
    let h : HasType s u ty = subst (λ (w : Value). HasType s w ty) (get_or_from_slice_get entries k u u e) (typed k u (slice_get_within entries k u e)) in
    gone_push s F ty us u vs h.0 h.1 t lives locals

right_table_get : (s : Store) (i : Instance) (F vs : List Value) (us : List ValType) (y : ℕ) → Stands s i F vs → IsRight s F vs us (perform s i F vs (p.TableGet y)) (signature (module_at s i.module) (map value_type F) (p.TableGet y))
right_table_get s i F vs us y h = right_then s F vs us _ (slice_get (tables_of (module_at s i.module)) y) _ (λ ty e. right_goes s F vs us _ (v.I32 ∷ []) (ty.elem ∷ []) (λ t.
    let a = table_for s i y ty h.lists e in
    let typed : All (λ (u : Value). HasType s u ty.elem) (table_at s a.0).entries = subst (λ (k : ValType). All (λ (u : Value). HasType s u k) (table_at s a.0).entries) a.2.1 (h.whole.tables a.0.0 no_table a.2.0).typed in
    fine_find s F (ty.elem ∷ us) (slice_get i.tables y) _ a.0 a.1 (fine_i32 s F (ty.elem ∷ us) us vs _ t h.values (λ k rest types lives.
    fine_entry s F ty.elem us rest (table_at s a.0).entries k (slice_get (table_at s a.0).entries k) refl typed types lives h.locals))))

right_table_set : (s : Store) (i : Instance) (F vs : List Value) (us : List ValType) (y : ℕ) → Stands s i F vs → IsRight s F vs us (perform s i F vs (p.TableSet y)) (signature (module_at s i.module) (map value_type F) (p.TableSet y))
right_table_set s i F vs us y h = right_then s F vs us _ (slice_get (tables_of (module_at s i.module)) y) _ (λ ty e. right_goes s F vs us _ (ty.elem ∷ v.I32 ∷ []) [] (λ t.
    let a = table_for s i y ty h.lists e in
    fine_find s F us (slice_get i.tables y) _ a.0 a.1 (fine_value s F us ty.elem (v.I32 ∷ us) vs _ t h.values (λ u rest typed live types lives.
    fine_i32 s F us us rest _ types lives (λ k below types2 lives2. fine_check s F us trap.TableRange (nat_lt k (length (table_at s a.0).entries)) (performs (with_table a.0 (with_entries (slice_set (table_at s a.0).entries k u) (table_at s a.0)) s) F below) (λ within. gone_same s F us below types2 lives2 h.locals))))))

fine_grow : (s : Store) (F : List Value) (us : List ValType) (vs : List Value) (b : Bool) (a : TableAddr) (k : ℕ) (init : Value) → map value_type vs ≡ us → AreLive s vs → AreLive s F → IsFine s F (v.I32 ∷ us) (grow_by b s F vs a k init)
fine_grow s F us vs true a k init t lives locals = gone_push s F v.I32 us (w.I32 (length (table_at s a).entries)) vs refl tt t lives locals
fine_grow s F us vs false a k init t lives locals = gone_push s F v.I32 us minus_one vs refl tt t lives locals

right_table_grow : (s : Store) (i : Instance) (F vs : List Value) (us : List ValType) (y : ℕ) → Stands s i F vs → IsRight s F vs us (perform s i F vs (p.TableGrow y)) (signature (module_at s i.module) (map value_type F) (p.TableGrow y))
right_table_grow s i F vs us y h = right_then s F vs us _ (slice_get (tables_of (module_at s i.module)) y) _ (λ ty e. right_goes s F vs us _ (v.I32 ∷ ty.elem ∷ []) (v.I32 ∷ []) (λ t.
    let a = table_for s i y ty h.lists e in
    fine_find s F (v.I32 ∷ us) (slice_get i.tables y) _ a.0 a.1 (fine_i32 s F (v.I32 ∷ us) (ty.elem ∷ us) vs _ t h.values (λ k rest types lives.
    fine_value s F (v.I32 ∷ us) ty.elem us rest _ types lives (λ init below typed live types2 lives2. fine_grow s F us below _ a.0 k init types2 lives2 h.locals)))))

right_table_size : (s : Store) (i : Instance) (F vs : List Value) (us : List ValType) (y : ℕ) → Stands s i F vs → IsRight s F vs us (perform s i F vs (p.TableSize y)) (signature (module_at s i.module) (map value_type F) (p.TableSize y))
right_table_size s i F vs us y h = right_then s F vs us _ (slice_get (tables_of (module_at s i.module)) y) _ (λ ty e. right_goes s F vs us _ [] (v.I32 ∷ []) (λ t.
    let a = table_for s i y ty h.lists e in
    fine_find s F (v.I32 ∷ us) (slice_get i.tables y) _ a.0 a.1 (gone_push s F v.I32 us (w.I32 (length (table_at s a.0).entries)) vs refl tt t h.values h.locals)))

right_table_fill : (s : Store) (i : Instance) (F vs : List Value) (us : List ValType) (y : ℕ) → Stands s i F vs → IsRight s F vs us (perform s i F vs (p.TableFill y)) (signature (module_at s i.module) (map value_type F) (p.TableFill y))
right_table_fill s i F vs us y h = right_then s F vs us _ (slice_get (tables_of (module_at s i.module)) y) _ (λ ty e. right_goes s F vs us _ (v.I32 ∷ ty.elem ∷ v.I32 ∷ []) [] (λ t.
    let a = table_for s i y ty h.lists e in
    fine_find s F us (slice_get i.tables y) _ a.0 a.1 (fine_i32 s F us (ty.elem ∷ v.I32 ∷ us) vs _ t h.values (λ k rest types lives.
    fine_value s F us ty.elem (v.I32 ∷ us) rest _ types lives (λ u ts typed live types2 lives2.
    fine_i32 s F us us ts _ types2 lives2 (λ at below types3 lives3. fine_check s F us trap.TableRange (in_range (table_at s a.0).entries at k) (write_entries s F below a.0 at k (replicate k u)) (λ within. gone_same s F us below types3 lives3 h.locals)))))))

-- three numbers, and then nothing or a trap
fine_three : (s : Store) (F : List Value) (us : List ValType) (vs : List Value) (f : ℕ → ℕ → ℕ → List Value → Performed) → map value_type vs ≡ v.I32 ∷ v.I32 ∷ v.I32 ∷ us → AreLive s vs
    → ((a b k : ℕ) (ts : List Value) → map value_type ts ≡ us → AreLive s ts → IsFine s F us (f a b k ts))
    → IsFine s F us (take_i32 vs (λ a us. take_i32 us (λ b ts. take_i32 ts (λ k rest. f a b k rest))))
fine_three s F us vs f t lives h =
    fine_i32 s F us (v.I32 ∷ v.I32 ∷ us) vs _ t lives (λ a rest types lives. fine_i32 s F us (v.I32 ∷ us) rest _ types lives (λ b ts types2 lives2. fine_i32 s F us us ts _ types2 lives2 (λ k below types3 lives3. h a b k below types3 lives3)))

right_table_copy : (s : Store) (i : Instance) (F vs : List Value) (us : List ValType) (y z : ℕ) → Stands s i F vs → IsRight s F vs us (perform s i F vs (p.TableCopy y z)) (signature (module_at s i.module) (map value_type F) (p.TableCopy y z))
right_table_copy s i F vs us y z h = right_then s F vs us _ (slice_get (tables_of (module_at s i.module)) y) _ (λ ty e. right_then s F vs us _ (slice_get (tables_of (module_at s i.module)) z) _ (λ from e2. right_when s F vs us _ (same_type ty.elem from.elem) _ (λ same. right_goes s F vs us _ (v.I32 ∷ v.I32 ∷ v.I32 ∷ []) [] (λ t.
    let a = table_for s i y ty h.lists e in
    let b = table_for s i z from h.lists e2 in
    fine_find s F us (slice_get i.tables y) _ a.0 a.1 (fine_find s F us (slice_get i.tables z) _ b.0 b.1 (fine_three s F us vs _ t h.values (λ k source at below types lives. fine_check s F us trap.TableRange (in_range (table_at s b.0).entries source k && in_range (table_at s a.0).entries at k) (write_entries s F below a.0 at k (run (table_at s b.0).entries source k)) (λ within. gone_same s F us below types lives h.locals))))))))

right_table_init : (s : Store) (i : Instance) (F vs : List Value) (us : List ValType) (y z : ℕ) → Stands s i F vs → IsRight s F vs us (perform s i F vs (p.TableInit y z)) (signature (module_at s i.module) (map value_type F) (p.TableInit y z))
right_table_init s i F vs us y z h = right_then s F vs us _ (slice_get (module_at s i.module).elems y) _ (λ segment e. right_then s F vs us _ (slice_get (tables_of (module_at s i.module)) z) _ (λ ty e2. right_when s F vs us _ (same_type segment.ty ty.elem) _ (λ same. right_goes s F vs us _ (v.I32 ∷ v.I32 ∷ v.I32 ∷ []) [] (λ t.
    let a = table_for s i z ty h.lists e2 in
    let b = zip_at (HasElement s) i.elems (module_at s i.module).elems y segment h.lists.elems e in
    fine_find s F us (slice_get i.tables z) _ a.0 a.1 (fine_find s F us (slice_get i.elems y) _ b.0 b.1 (fine_three s F us vs _ t h.values (λ k source at below types lives. fine_check s F us trap.TableRange (in_range (element_at s b.0) source k && in_range (table_at s a.0).entries at k) (write_entries s F below a.0 at k (run (element_at s b.0) source k)) (λ within. gone_same s F us below types lives h.locals))))))))

right_elem_drop : (s : Store) (i : Instance) (F vs : List Value) (us : List ValType) (y : ℕ) → Stands s i F vs → IsRight s F vs us (perform s i F vs (p.ElemDrop y)) (signature (module_at s i.module) (map value_type F) (p.ElemDrop y))
right_elem_drop s i F vs us y h = right_when s F vs us _ (nat_lt y (length (module_at s i.module).elems)) _ (λ within. right_goes s F vs us _ [] [] (λ t.
    let e = zip_within (HasElement s) i.elems (module_at s i.module).elems y h.lists.elems within in
    fine_find s F us (slice_get i.elems y) _ e.0 e.1 (gone_same s F us vs t h.values h.locals)))

-- ---- memories

right_load : (s : Store) (i : Instance) (F vs : List Value) (us : List ValType) (ty : NumType) (width : Width) (extension : Extension) (at : MemArg) → Stands s i F vs → IsRight s F vs us (perform s i F vs (p.Load ty width extension at)) (signature (module_at s i.module) (map value_type F) (p.Load ty width extension at))
right_load s i F vs us ty width extension at h = right_when s F vs us _ (has_memory (module_at s i.module) && nat_le at.align (natural_alignment width)) _ (λ b. right_goes s F vs us _ (v.I32 ∷ []) (number_type ty ∷ []) (λ t.
    let a = memory_for s i h.lists (both _ _ b).0 in
    fine_find s F (number_type ty ∷ us) (slice_get i.mems 0) _ a.0 a.1 (fine_i32 s F (number_type ty ∷ us) us vs _ t h.values (λ k rest types lives.
    fine_check s F (number_type ty ∷ us) trap.MemoryRange (in_range (memory_at s a.0).bytes (place k at) (bytes_of width)) (performs s F (number_value (extended ty width extension (number (bytes_from (memory_at s a.0).bytes (place k at) (bytes_of width)))) ∷ rest)) (λ b. gone_number s F ty us (extended ty width extension (number (bytes_from (memory_at s a.0).bytes (place k at) (bytes_of width)))) rest (extended_typed ty width extension (number (bytes_from (memory_at s a.0).bytes (place k at) (bytes_of width)))) types lives h.locals)))))

right_store : (s : Store) (i : Instance) (F vs : List Value) (us : List ValType) (ty : NumType) (width : Width) (at : MemArg) → Stands s i F vs → IsRight s F vs us (perform s i F vs (p.Store ty width at)) (signature (module_at s i.module) (map value_type F) (p.Store ty width at))
right_store s i F vs us ty width at h = right_when s F vs us _ (has_memory (module_at s i.module) && nat_le at.align (natural_alignment width)) _ (λ b. right_goes s F vs us _ (number_type ty ∷ v.I32 ∷ []) [] (λ t.
    let a = memory_for s i h.lists (both _ _ b).0 in
    fine_find s F us (slice_get i.mems 0) _ a.0 a.1 (fine_number s F us ty (v.I32 ∷ us) vs _ t h.values (λ c rest typed types lives.
    fine_i32 s F us us rest _ types lives (λ k below types2 lives2. fine_check s F us trap.MemoryRange (in_range (memory_at s a.0).bytes (place k at) (bytes_of width)) (write_bytes s F below a.0 (place k at) (bytes_of width) (low_bytes (bytes_of width) (number_of c))) (λ within. gone_same s F us below types2 lives2 h.locals))))))

right_memory_size : (s : Store) (i : Instance) (F vs : List Value) (us : List ValType) → Stands s i F vs → IsRight s F vs us (perform s i F vs p.MemorySize) (signature (module_at s i.module) (map value_type F) p.MemorySize)
right_memory_size s i F vs us h = right_when s F vs us _ (has_memory (module_at s i.module)) _ (λ b. right_goes s F vs us _ [] (v.I32 ∷ []) (λ t.
    let a = memory_for s i h.lists b in
    fine_find s F (v.I32 ∷ us) (slice_get i.mems 0) _ a.0 a.1 (gone_push s F v.I32 us _ vs refl tt t h.values h.locals)))

fine_grow_memory : (s : Store) (F : List Value) (us : List ValType) (vs : List Value) (b : Bool) (a : MemAddr) (k : ℕ) → map value_type vs ≡ us → AreLive s vs → AreLive s F → IsFine s F (v.I32 ∷ us) (grow_memory_by b s F vs a k)
fine_grow_memory s F us vs true a k t lives locals = gone_push s F v.I32 us _ vs refl tt t lives locals
fine_grow_memory s F us vs false a k t lives locals = gone_push s F v.I32 us minus_one vs refl tt t lives locals

right_memory_grow : (s : Store) (i : Instance) (F vs : List Value) (us : List ValType) → Stands s i F vs → IsRight s F vs us (perform s i F vs p.MemoryGrow) (signature (module_at s i.module) (map value_type F) p.MemoryGrow)
right_memory_grow s i F vs us h = right_when s F vs us _ (has_memory (module_at s i.module)) _ (λ b. right_goes s F vs us _ (v.I32 ∷ []) (v.I32 ∷ []) (λ t.
    let a = memory_for s i h.lists b in
    fine_find s F (v.I32 ∷ us) (slice_get i.mems 0) _ a.0 a.1 (fine_i32 s F (v.I32 ∷ us) us vs _ t h.values (λ k rest types lives. fine_grow_memory s F us rest _ a.0 k types lives h.locals))))

right_memory_fill : (s : Store) (i : Instance) (F vs : List Value) (us : List ValType) → Stands s i F vs → IsRight s F vs us (perform s i F vs p.MemoryFill) (signature (module_at s i.module) (map value_type F) p.MemoryFill)
right_memory_fill s i F vs us h = right_when s F vs us _ (has_memory (module_at s i.module)) _ (λ b. right_goes s F vs us _ (v.I32 ∷ v.I32 ∷ v.I32 ∷ []) [] (λ t.
    let a = memory_for s i h.lists b in
    fine_find s F us (slice_get i.mems 0) _ a.0 a.1 (fine_three s F us vs _ t h.values (λ k byte at below types lives. fine_check s F us trap.MemoryRange (in_range (memory_at s a.0).bytes at k) (write_bytes s F below a.0 at k (replicate k (byte % 256))) (λ within. gone_same s F us below types lives h.locals)))))

right_memory_copy : (s : Store) (i : Instance) (F vs : List Value) (us : List ValType) → Stands s i F vs → IsRight s F vs us (perform s i F vs p.MemoryCopy) (signature (module_at s i.module) (map value_type F) p.MemoryCopy)
right_memory_copy s i F vs us h = right_when s F vs us _ (has_memory (module_at s i.module)) _ (λ b. right_goes s F vs us _ (v.I32 ∷ v.I32 ∷ v.I32 ∷ []) [] (λ t.
    let a = memory_for s i h.lists b in
    fine_find s F us (slice_get i.mems 0) _ a.0 a.1 (fine_three s F us vs _ t h.values (λ k source at below types lives. fine_check s F us trap.MemoryRange (in_range (memory_at s a.0).bytes source k && in_range (memory_at s a.0).bytes at k) (write_bytes s F below a.0 at k (bytes_from (memory_at s a.0).bytes source k)) (λ within. gone_same s F us below types lives h.locals)))))

right_memory_init : (s : Store) (i : Instance) (F vs : List Value) (us : List ValType) (y : ℕ) → Stands s i F vs → IsRight s F vs us (perform s i F vs (p.MemoryInit y)) (signature (module_at s i.module) (map value_type F) (p.MemoryInit y))
right_memory_init s i F vs us y h = right_when s F vs us _ (has_memory (module_at s i.module) && nat_lt y (length (module_at s i.module).datas)) _ (λ b. right_goes s F vs us _ (v.I32 ∷ v.I32 ∷ v.I32 ∷ []) [] (λ t.
    let a = memory_for s i h.lists (both _ _ b).0 in
    let d = zip_within (HasData s) i.datas (module_at s i.module).datas y h.lists.datas (both _ _ b).1 in
    fine_find s F us (slice_get i.mems 0) _ a.0 a.1 (fine_find s F us (slice_get i.datas y) _ d.0 d.1 (fine_three s F us vs _ t h.values (λ k source at below types lives. fine_check s F us trap.MemoryRange (in_range (data_at s d.0) source k && in_range (memory_at s a.0).bytes at k) (write_bytes s F below a.0 at k (bytes_from (data_at s d.0) source k)) (λ within. gone_same s F us below types lives h.locals))))))

right_data_drop : (s : Store) (i : Instance) (F vs : List Value) (us : List ValType) (y : ℕ) → Stands s i F vs → IsRight s F vs us (perform s i F vs (p.DataDrop y)) (signature (module_at s i.module) (map value_type F) (p.DataDrop y))
right_data_drop s i F vs us y h = right_when s F vs us _ (nat_lt y (length (module_at s i.module).datas)) _ (λ within. right_goes s F vs us _ [] [] (λ t.
    let e = zip_within (HasData s) i.datas (module_at s i.module).datas y h.lists.datas within in
    fine_find s F us (slice_get i.datas y) _ e.0 e.1 (gone_same s F us vs t h.values h.locals)))

-- ---- all of them

right : (s : Store) (i : Instance) (F vs : List Value) (us : List ValType) (k : Simple) → Stands s i F vs → IsRight s F vs us (perform s i F vs k) (signature (module_at s i.module) (map value_type F) k)
right s i F vs us p.Nop h = right_goes s F vs us (perform s i F vs p.Nop) [] [] (λ t. gone_same s F us vs t h.values h.locals)
right s i F vs us (p.Const a) h = right_goes s F vs us (perform s i F vs (p.Const a)) [] (number_type (type_of_number a) ∷ []) (λ t. gone_number s F (type_of_number a) us a vs refl t h.values h.locals)
right s i F vs us (p.Unary ty op) h = right_goes s F vs us _ (number_type ty ∷ []) (number_type ty ∷ []) (λ t. fine_number s F (number_type ty ∷ us) ty us vs _ t h.values (λ a rest typed types lives. gone_number s F ty us (unary_of op a) rest (unary_typed op a ∙ typed) types lives h.locals))
right s i F vs us (p.Binary ty op) h = right_goes s F vs us _ (number_type ty ∷ number_type ty ∷ []) (number_type ty ∷ []) (λ t. fine_number s F (number_type ty ∷ us) ty (number_type ty ∷ us) vs _ t h.values (λ b rest typed types lives. fine_number s F (number_type ty ∷ us) ty us rest _ types lives (λ a below typed2 types2 lives2. fine_binary s F ty us below op a b typed2 types2 lives2 h.locals)))
right s i F vs us (p.Test ty) h = right_goes s F vs us _ (number_type ty ∷ []) (v.I32 ∷ []) (λ t. fine_number s F (v.I32 ∷ us) ty us vs _ t h.values (λ a rest typed types lives. gone_push s F v.I32 us _ rest refl tt types lives h.locals))
right s i F vs us (p.Compare ty op) h = right_goes s F vs us _ (number_type ty ∷ number_type ty ∷ []) (v.I32 ∷ []) (λ t. fine_number s F (v.I32 ∷ us) ty (number_type ty ∷ us) vs _ t h.values (λ b rest typed types lives. fine_number s F (v.I32 ∷ us) ty us rest _ types lives (λ a below typed2 types2 lives2. gone_push s F v.I32 us _ below refl tt types2 lives2 h.locals)))
right s i F vs us (p.Convert op) h = right_goes s F vs us _ (number_type (source_of op) ∷ []) (number_type (target_of op) ∷ []) (λ t. fine_number s F (number_type (target_of op) ∷ us) (source_of op) us vs _ t h.values (λ a rest typed types lives. gone_number s F (target_of op) us (convert_of op a) rest (convert_typed op a) types lives h.locals))
right s i F vs us (p.Load ty width extension at) h = right_load s i F vs us ty width extension at h
right s i F vs us (p.Store ty width at) h = right_store s i F vs us ty width at h
right s i F vs us p.MemorySize h = right_memory_size s i F vs us h
right s i F vs us p.MemoryGrow h = right_memory_grow s i F vs us h
right s i F vs us (p.MemoryInit y) h = right_memory_init s i F vs us y h
right s i F vs us (p.DataDrop y) h = right_data_drop s i F vs us y h
right s i F vs us p.MemoryCopy h = right_memory_copy s i F vs us h
right s i F vs us p.MemoryFill h = right_memory_fill s i F vs us h
right s i F vs us (p.LocalGet y) h = right_local_get s i F vs us y h
right s i F vs us (p.LocalSet y) h = right_local_set s i F vs us y h
right s i F vs us (p.LocalTee y) h = right_local_tee s i F vs us y h
right s i F vs us (p.GlobalGet y) h = right_global_get s i F vs us y h
right s i F vs us (p.GlobalSet y) h = right_global_set s i F vs us y h
right s i F vs us (p.TableGet y) h = right_table_get s i F vs us y h
right s i F vs us (p.TableSet y) h = right_table_set s i F vs us y h
right s i F vs us (p.TableInit y z) h = right_table_init s i F vs us y z h
right s i F vs us (p.ElemDrop y) h = right_elem_drop s i F vs us y h
right s i F vs us (p.TableCopy y z) h = right_table_copy s i F vs us y z h
right s i F vs us (p.TableGrow y) h = right_table_grow s i F vs us y h
right s i F vs us (p.TableSize y) h = right_table_size s i F vs us y h
right s i F vs us (p.TableFill y) h = right_table_fill s i F vs us y h
right s i F vs us (p.RefNull ty) h = right_when s F vs us (perform s i F vs (p.RefNull ty)) (is_reference ty) _ (λ b. right_goes s F vs us (perform s i F vs (p.RefNull ty)) [] (ty ∷ []) (λ t. gone_push s F ty us (null_of ty) vs (null_typed ty b) (null_live s ty) t h.values h.locals))
right s i F vs us (p.RefFunc y) h = right_when s F vs us _ (is_some (func_type (module_at s i.module) y) && is_declared (module_at s i.module) y) _ (λ b. right_goes s F vs us _ [] (v.FuncRef ∷ []) (λ t.
    let a = func_at s i y h.lists (both _ _ b).0 in
    fine_find s F (v.FuncRef ∷ us) (slice_get i.funcs y) _ a.0 a.1 (gone_push s F v.FuncRef us (w.Func a.0) vs refl a.2 t h.values h.locals)))

-- an instruction of a type, on operands of the types that it takes over others
pub fine_simple : (s : Store) (i : Instance) (F vs : List Value) (us : List ValType) (k : Simple) (g : Signature) → IsWhole s → HasLists s i → AreLive s F → AreLive s vs
    → signature (module_at s i.module) (map value_type F) k ≡ Some g → map value_type vs ≡ g.takes ++ us → IsFine s F (g.gives ++ us) (perform s i F vs k)
fine_simple s i F vs us k g whole lists locals values e t = right s i F vs us k (record { whole = whole; lists = lists; locals = locals; values = values }) g e t
