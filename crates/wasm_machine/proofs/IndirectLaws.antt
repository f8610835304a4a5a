-- Indirect calls.
use Rattle.std.specs.Prelude.{slice_get, Vec, Result, Ok, Err}
use Rattle.std.specs.declared.alloc.Global.{Global}
use Rattle.std.proofs.Common.{◌≡◌, ◌≢◌, ℕ, suc, ◌+◌, ◌≤◌, ◌<◌, List, [], ◌∷◌, length, drop, refl, sym, ap, ◌∙◌, subst, arith, Option, Some, None, Bool, true, false, ◌&&◌, get_or, cond}
use Rattle.std.proofs.lemmas.List.{at_drop_more, drop_all}
use Rattle.std.proofs.lemmas.Option.{get_or_from_slice_get}
use Rattle.wasm_syntax.specs.Sorts.{sort_of}
use Rattle.wasm_syntax.specs.ValueTypes.{same_type}
use Rattle.wasm_syntax.specs.declared.types.ValType.{ValType}
use Rattle.wasm_syntax.specs.declared.types.ValType.TheVariants as t
use Rattle.wasm_syntax.specs.declared.types.FuncType.{FuncType}
use Rattle.wasm_syntax.specs.declared.instructions.Instr.{Instr}
use Rattle.wasm_syntax.specs.declared.sorts.Sort.TheVariants as sort
use Rattle.wasm_syntax.specs.declared.module.Module.{Module}
use Rattle.wasm_syntax.specs.declared.value.Value.{Value}
use Rattle.wasm_syntax.specs.declared.value.Value.TheVariants as w
use Rattle.wasm_syntax.specs.declared.trap.Trap.{Trap}
use Rattle.wasm_syntax.specs.declared.trap.Trap.TheVariants as because
use Rattle.wasm_syntax.specs.declared.addresses.FuncAddr.{FuncAddr}
use Rattle.wasm_syntax.specs.declared.addresses.TableAddr.{TableAddr}
use Rattle.wasm_store.specs.Store.{Store, type_of, function_at, table_at, instance_at, module_at}
use Rattle.wasm_machine.specs.declared.frame.Effect.TheVariants.{Call, Trapped}
use Rattle.wasm_machine.specs.Terms.{FrameState, trap}
use Rattle.wasm_machine.specs.Reduction.{goes, act, act_by, call, call_entry, call_through, traps_for, same_types, same_func_type, module_of}
use Rattle.wasm_machine.specs.View.{View, with_values, state_of, module_for}
use Rattle.wasm_machine.specs.Control.{CanCall, Calls, IsNumberFirst}
use Rattle.wasm_machine.specs.Indirect.{entry_target, IsThere, Targets}
use Rattle.wasm_machine.specs.Stepping.{fetched_instr, FitsBut, At, Stepped}
use Rattle.wasm_machine.proofs.Terms.{before_traps}
use Rattle.wasm_machine.proofs.Stepping.{call_makes}
use Rattle.wasm_machine.proofs.Kept.{module_live}
use Rattle.wasm_machine.proofs.Calling.{Callable, callable, calls_waits, calls_arguments, indirect_first, indirect_type, indirect_table, indirect_callable, same_func_types}
use Rattle.std.proofs.lemmas.List.Elements.{All-get_or}
use Rattle.wasm_store.specs.Store.{no_table}
use Rattle.wasm_store.specs.Whole.{value_type, HasType, IsWhole, IsTable}
use Rattle.wasm_machine.proofs.Growing.{none_by}
use Rattle.wasm_machine.proofs.Parts.{zip_results, back, others, within}

-- Lists of types.

pub lengths_differ : (ts bs : List ValType) → length ts ≢ length bs → same_types ts bs ≡ false
lengths_differ [] [] ne = absurd (ne refl)
lengths_differ [] (b ∷ bs) ne = refl
lengths_differ (a ∷ ts) [] ne = refl
lengths_differ (a ∷ ts) (b ∷ bs) ne = and_false (same_type a b) (same_types ts bs) (lengths_differ ts bs (λ e. ne (ap suc e)))
  where
    and_false : (x y : Bool) → y ≡ false → (x && y) ≡ false
    and_false true y e = e
    and_false false y e = refl

-- one type further on
same_more : (ts bs : List ValType) (k : ℕ) (d e : ValType) → k < length ts → k < length bs → same_types (drop k ts) (drop k bs) ≡ (same_type (get_or ts k d) (get_or bs k e) && same_types (drop (k + 1) ts) (drop (k + 1) bs))
same_more ts bs k d e la lb = at_drop_more (λ xs. same_types xs (drop k bs)) ts k d la ∙ at_drop_more (λ ys. same_types (get_or ts k d ∷ drop (k + 1) ts) ys) bs k e lb

-- What is there.

pub there : (s : Store) (v : View) (x y : ℕ) → At s (sort.CallIndirect x y) v → IsThere s x y v
there s v x y h =
    let g = indirect_type s (fetched_instr s v) v x y h.fits h.sort_is in
    let a = indirect_table s (fetched_instr s v) v x y h.fits h.sort_is in
    record { «instance» = h.fits.live; «module» = module_live s (others s v) [] v h.fits; type = g.0; type_is = g.1; table = a.0; table_is = a.1.address; live = a.1.live; elem = a.1.elem }

pub there_popped : (s : Store) (v u : View) (x y : ℕ) → At s (sort.CallIndirect x y) v → u ≡ with_values u.top.values v → IsThere s x y u
there_popped s v u x y h q = subst (IsThere s x y) (sym q) (with_them s v x y u.top.values (there s v x y h))
  where
    with_them : (s : Store) (v : View) (x y : ℕ) (us : List Value) → IsThere s x y v → IsThere s x y (with_values us v)
    with_them s v x y us h = record { «instance» = h.instance; «module» = h.module; type = h.type; type_is = h.type_is; table = h.table; table_is = h.table_is; live = h.live; elem = h.elem }

-- The rule.

entry_acts : (s : Store) (F : FrameState) (g : FuncType) (us : List Value) (a : FuncAddr) (o : Option Value) → entry_target s g o ≡ Ok a → call_entry s F g us o ≡ call s F a us
entry_acts s F g us a None e = cc
entry_acts s F g us a (Some (w.Func b)) e = typed_acts (same_func_type g (type_of (function_at s b))) e
  where
    typed_acts : (c : Bool) → cond c (Ok b) (Err because.WrongType) ≡ Ok a → cond c (call s F b us) (traps_for s F us because.WrongType) ≡ call s F a us
    typed_acts true h = let f : b ≡ a = cc in ap (λ z. call s F z us) f
    typed_acts false h = cc
entry_acts s F g us a (Some w.FuncNull) e = cc
entry_acts s F g us a (Some (w.I32 n)) e = cc
entry_acts s F g us a (Some (w.I64 n)) e = cc
entry_acts s F g us a (Some w.ExternNull) e = cc
entry_acts s F g us a (Some (w.Extern b)) e = cc

entry_traps : (s : Store) (F : FrameState) (g : FuncType) (us : List Value) (cause : Trap) (o : Option Value) → ((e : Value) → o ≡ Some e → value_type e ≡ t.FuncRef) → entry_target s g o ≡ Err cause → call_entry s F g us o ≡ traps_for s F us cause
entry_traps s F g us cause None r e = let f : because.TableRange ≡ cause = cc in ap (traps_for s F us) f
entry_traps s F g us cause (Some (w.Func b)) r e = typed_traps (same_func_type g (type_of (function_at s b))) e
  where
    typed_traps : (c : Bool) → cond c (Ok b) (Err because.WrongType) ≡ Err cause → cond c (call s F b us) (traps_for s F us because.WrongType) ≡ traps_for s F us cause
    typed_traps true h = cc
    typed_traps false h = let f : because.WrongType ≡ cause = cc in ap (traps_for s F us) f
entry_traps s F g us cause (Some w.FuncNull) r e = let f : because.NullEntry ≡ cause = cc in ap (traps_for s F us) f
entry_traps s F g us cause (Some (w.I32 n)) r e = absurd (let z : t.I32 ≡ t.FuncRef = r (w.I32 n) refl in cc)
entry_traps s F g us cause (Some (w.I64 n)) r e = absurd (let z : t.I64 ≡ t.FuncRef = r (w.I64 n) refl in cc)
entry_traps s F g us cause (Some w.ExternNull) r e = absurd (let z : t.ExternRef ≡ t.FuncRef = r w.ExternNull refl in cc)
entry_traps s F g us cause (Some (w.Extern b)) r e = absurd (let z : t.ExternRef ≡ t.FuncRef = r (w.Extern b) refl in cc)

target_type : (s : Store) (g : FuncType) (a : FuncAddr) (o : Option Value) → entry_target s g o ≡ Ok a → type_of (function_at s a) ≡ g
target_type s g a None e = cc
target_type s g a (Some (w.Func b)) e = type_by (same_func_type g (type_of (function_at s b))) refl e
  where
    type_by : (c : Bool) → same_func_type g (type_of (function_at s b)) ≡ c → cond c (Ok b) (Err because.WrongType) ≡ Ok a → type_of (function_at s a) ≡ g
    type_by true y h = let f : b ≡ a = cc in ap (λ z. type_of (function_at s z)) (sym f) ∙ same_func_types g (type_of (function_at s b)) y
    type_by false y h = cc
target_type s g a (Some w.FuncNull) e = cc
target_type s g a (Some (w.I32 n)) e = cc
target_type s g a (Some (w.I64 n)) e = cc
target_type s g a (Some w.ExternNull) e = cc
target_type s g a (Some (w.Extern b)) e = cc

through : (s : Store) (F : FrameState) (instr : Instr) (x y k : ℕ) (vs us : List Value) (g : FuncType) (a : TableAddr) → sort_of instr ≡ sort.CallIndirect x y → vs ≡ w.I32 k ∷ us → slice_get (module_of s F).types x ≡ Some g → slice_get (instance_at s F.instance).tables y ≡ Some a
    → act s F instr vs ≡ call_entry s F g us (slice_get (table_at s a).entries k)
through s F instr x y k vs us g a e q tg ta =
    ap (λ o. act_by s F instr o vs) e
    ∙ ap (λ o. call_through s F o (slice_get (instance_at s F.instance).tables y) vs) tg
    ∙ ap (λ o. call_through s F (Some g) o vs) ta
    ∙ ap (call_through s F (Some g) (Some a)) q

module_there : (s : Store) (v u : View) (x y : ℕ) → At s (sort.CallIndirect x y) v → u ≡ with_values u.top.values v → module_for s u ≡ module_of s (state_of u)
module_there s v u x y h q = subst (λ z. module_for s z ≡ module_of s (state_of z)) (sym q) (ap (module_at s) (sym h.fits.module_is))

-- the function that is found may be called
indirect_can : {R : List ValType} → (s : Store) (v u : View) (x y k : ℕ) (a : FuncAddr) (f : FitsBut s R v) → sort_of (fetched_instr s v) ≡ sort.CallIndirect x y → v.top.values ≡ w.I32 k ∷ u.top.values → u ≡ with_values u.top.values v → Targets s x y k u (Ok a) → Callable s R (fetched_instr s v) v u a f
indirect_can s v u x y k a f e t0 q h =
    let same : type_of (function_at s a) ≡ h.type = target_type s h.type a _ (sym h.found_is) in
    let types : slice_get (module_for s v).types x ≡ Some (type_of (function_at s a)) = ap (λ (m : Module). slice_get m.types x) (sym (ap (module_for s) q)) ∙ h.type_is ∙ ap Some (sym same) in
    indirect_callable s (fetched_instr s v) v u x y k a f e t0 q (h.live a refl) types

pub indirect_call_can : (s : Store) (v u : View) (x y k : ℕ) (a : FuncAddr) (r : Result FuncAddr Trap) → At s (sort.CallIndirect x y) v → v.top.values ≡ w.I32 k ∷ u.top.values → u ≡ with_values u.top.values v → Targets s x y k u r → r ≡ Ok a → CanCall s a u
indirect_call_can s v u x y k a r h t0 q b e =
    let b' : Targets s x y k u (Ok a) = subst (Targets s x y k u) e b in
    callable s (fetched_instr s v) v u a h.fits (indirect_can s v u x y k a h.fits h.sort_is t0 q b')

pub stepped_indirect : (s : Store) (v u z : View) (x y k : ℕ) (a : FuncAddr) (r : Result FuncAddr Trap) (args : Vec Value Global) → At s (sort.CallIndirect x y) v → v.top.values ≡ w.I32 k ∷ u.top.values → u ≡ with_values u.top.values v → Targets s x y k u r → r ≡ Ok a → Calls s a args.items u z → Stepped s v (Call a args) s z
stepped_indirect s v u z x y k a r args h t0 q b e c =
    let b' : Targets s x y k u (Ok a) = subst (Targets s x y k u) e b in
    let instr = fetched_instr s v in
    let g : slice_get (module_of s (state_of u)).types x ≡ Some b'.type = ap (λ (m : Module). slice_get m.types x) (sym (module_there s v u x y h q)) ∙ b'.type_is in
    let act_is : act s (state_of u) instr v.top.values ≡ call s (state_of u) a u.top.values =
    through s (state_of u) instr x y k v.top.values u.top.values b'.type b'.table h.sort_is t0 g b'.table_is ∙ entry_acts s (state_of u) b'.type u.top.values a _ (sym b'.found_is) in
    record {
      makes = back s v u z instr (Call a args) s q (refl, call_makes s u instr v.top.values a args.items z act_is (indirect_call_can s v u x y k a r h t0 q b e) c);
      grew = none_by s v instr (sort.CallIndirect x y) (Call a args) h.sort_is refl refl;
      fits = λ R f.
          let n = indirect_can s v u x y k a f h.sort_is t0 q b' in
          (n.live, zip_results s (type_of (function_at s a)).params args.items (calls_arguments s instr v u z a args.items f n c), calls_waits s instr v u z a args.items f n c);
    }

-- an entry of a table of functions is a reference to one, or null
entry_ref : (s : Store) (a : TableAddr) (k : ℕ) (e : Value) → IsWhole s → a.0 < length s.tables → (table_at s a).elem ≡ t.FuncRef → slice_get (table_at s a).entries k ≡ Some e → value_type e ≡ t.FuncRef
entry_ref s a k e whole live elem h =
    let tab = All-get_or (IsTable s) s.tables a.0 no_table live whole.tables in
    let c : HasType s (get_or (table_at s a).entries k e) (table_at s a).elem = All-get_or (λ value. HasType s value (table_at s a).elem) (table_at s a).entries k e (within (table_at s a).entries k e h) tab.typed in
    ap value_type (sym (get_or_from_slice_get (table_at s a).entries k e e h)) ∙ c.0 ∙ elem

pub stepped_indirect_trap : (s : Store) (v u : View) (x y k : ℕ) (cause : Trap) (r : Result FuncAddr Trap) → IsWhole s → At s (sort.CallIndirect x y) v → v.top.values ≡ w.I32 k ∷ u.top.values → u ≡ with_values u.top.values v → Targets s x y k u r → r ≡ Err cause → Stepped s v (Trapped cause) s u
stepped_indirect_trap s v u x y k cause r whole h t0 q b e =
    let b' : Targets s x y k u (Err cause) = subst (Targets s x y k u) e b in
    let instr = fetched_instr s v in
    let F = state_of v in
    let d = there s v x y h in
    let same : d.table ≡ b'.table = let z : Some d.table ≡ Some b'.table = sym d.table_is ∙ ap (λ (n : View). slice_get (instance_at s n.instance).tables y) (sym q) ∙ b'.table_is in cc in
    let g : slice_get (module_of s F).types x ≡ Some b'.type = ap (λ (m : Module). slice_get m.types x) (ap (module_at s) h.fits.module_is ∙ sym (ap (module_for s) q)) ∙ b'.type_is in
    let ta : slice_get (instance_at s F.instance).tables y ≡ Some b'.table = d.table_is ∙ ap Some same in
    let live : b'.table.0 < length s.tables = subst (λ (n : TableAddr). n.0 < length s.tables) same d.live in
    let elem : (table_at s b'.table).elem ≡ t.FuncRef = subst (λ (n : TableAddr). (table_at s n).elem ≡ t.FuncRef) same d.elem in
    let act_is : act s F instr v.top.values ≡ goes s F.locals u.top.values (trap cause) =
    through s F instr x y k v.top.values u.top.values b'.type b'.table h.sort_is t0 g ta ∙ entry_traps s F b'.type u.top.values cause _ (λ en he. entry_ref s b'.table k en whole live elem he) (sym b'.found_is) in
    record {
      grew = none_by s v instr (sort.CallIndirect x y) (Trapped cause) h.sort_is refl refl;
      makes = (refl, λ G. before_traps s (module_for s v) v instr v.locals u.top.values cause act_is G);
      fits = λ R f. tt;
    }
