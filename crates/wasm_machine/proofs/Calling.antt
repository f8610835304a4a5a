-- A call at work in a frame that fits: it finds its function and its arguments, and the frame fits once the results are there.
use Rattle.std.proofs.Common.{◌≡◌, ℕ, ◌+◌, ◌≤◌, ◌<◌, List, [], ◌∷◌, ◌++◌, length, drop, refl, sym, ap, ◌∙◌, subst, arith, Option, Some, None, map, Bool, true, false, ◌&&◌}
use Rattle.std.specs.Prelude.{slice_get, reverse}
use Rattle.std.proofs.lemmas.Option.{same_Some}
use Rattle.std.proofs.lemmas.List.{length-map, length-reverse, length-append, map-append}
use Rattle.std.proofs.lemmas.List.Elements.{All-append, All-drop, All-tail}
use Rattle.wasm_syntax.specs.declared.types.ValType.{ValType}
use Rattle.wasm_syntax.specs.declared.types.ValType.TheVariants as y
use Rattle.wasm_syntax.specs.declared.types.FuncType.{FuncType}
use Rattle.wasm_syntax.specs.declared.types.TableType.{TableType}
use Rattle.wasm_syntax.specs.declared.value.Value.{Value}
use Rattle.wasm_syntax.specs.declared.value.Value.TheVariants as w
use Rattle.wasm_syntax.specs.declared.addresses.FuncAddr.{FuncAddr}
use Rattle.wasm_syntax.specs.declared.addresses.TableAddr.{TableAddr}
use Rattle.wasm_syntax.specs.declared.instructions.Instr.{Instr}
use Rattle.wasm_syntax.specs.declared.module.Module.{Module}
use Rattle.wasm_syntax.specs.declared.sorts.Sort.TheVariants as sort
use Rattle.wasm_syntax.specs.Sorts.{sort_of}
use Rattle.wasm_syntax.specs.ValueTypes.{same_type}
use Rattle.wasm_valid.specs.Spaces.{when, then_, funcs_of, tables_of}
use Rattle.wasm_valid.specs.Operands.{Operands, take_one, ends_with}
use Rattle.wasm_valid.specs.Typing.{calls, holds_functions, is_block, after_all, height_all, block_height}
use Rattle.wasm_store.specs.Store.{Store, module_at, instance_at, function_at, table_at, type_of}
use Rattle.wasm_store.specs.Whole.{value_type, IsLive, AreLive, HasFunction, HasTable}
use Rattle.wasm_machine.specs.View.{View, with_values, rest_of, count_of, module_for}
use Rattle.wasm_machine.specs.Reduction.{same_func_type, same_types as same_lists}
use Rattle.wasm_machine.specs.Control.{IsNumberFirst, CanCall, Calls}
use Rattle.wasm_machine.specs.Fits.{standing, IsCode, HasRoom, IsTypedAt, FitsAt, Fits, Waits}
use Rattle.wasm_machine.proofs.Types.{standing_of, IsTops, exchanged, same_types}
use Rattle.wasm_machine.proofs.PerformLaws.{zip_at}
use Rattle.wasm_machine.proofs.Going.{NextOf, next_at, context_of, linked_same, room_now}
use Rattle.wasm_machine.proofs.Branching.{typing_at, AreResults, results_by, reverse_map, reverse_live}
use Rattle.wasm_machine.proofs.Beginning.{first_of_taken}

tops_long : (us : List ValType) (vs : List Value) → IsTops us vs → length us ≤ length vs
tops_long [] vs h = omega arith
tops_long (u ∷ us) [] h = absurd h
tops_long (u ∷ us) (a ∷ vs) h = omega (arith, tops_long us vs h.1)

-- a call of a function of this type stands on these values
pub record IsCalled (g : FuncType) (vs : List Value) (next : Operands) : Type 0 where
  pub tops : IsTops (reverse g.params) vs
  pub next_is : next ≡ standing (reverse g.results ++ map value_type (drop (length g.params) vs))

called : (g : FuncType) (vs : List Value) (next : Operands) → calls g (standing_of vs) ≡ Some next → IsCalled g vs next
called g vs next e =
    let x = exchanged (reverse g.params) (reverse g.results) vs next e in
    record { tops = x.tops; next_is = x.next_is ∙ ap (λ k. standing (reverse g.results ++ map value_type (drop k vs))) (length-reverse g.params) }

-- the frame waits for values of the results' types

waits_typed : {R : List ValType} → (m : Module) (instr : Instr) (is : List Instr) (v : View) (g : FuncType) (vs : List Value) (h : IsTypedAt m R (instr ∷ is) [] v) → (n : NextOf m instr is v h) → IsCalled g vs n.next → IsTypedAt m R is (reverse g.results) (with_values (drop (length g.params) vs) v)
waits_typed {R} m instr is v g vs h n c =
    let x = context_of m (instr ∷ is) [] v h in
    let ts = reverse g.results ++ map value_type (drop (length g.params) vs) in
    record {
      depth = h.depth;
      few = h.few;
      long = h.long;
      label = h.label;
      gives = h.gives;
      labels = h.labels;
      inner = record {
        arity = h.inner.arity;
        code = subst (λ (s : Operands). ends_with h.gives (after_all (is_block m h.depth) m x is s) ≡ true) c.next_is n.code;
        fits = subst (λ (s : Operands). count_of v.outer + height_all (block_height m h.depth) (is_block m h.depth) m x is s ≤ v.room) c.next_is n.fits;
        again = h.inner.again;
      };
      expects = h.expects;
      linked = linked_same m v.top (drop (length g.params) vs) v.outer h.linked;
    }

-- the arguments have the parameters' types
abbrev pub AreArguments : Store → FuncType → List Value → Type 0
AreArguments s g args = AreResults s g.params args

-- a function that can be called there
pub record Callable (s : Store) (R : List ValType) (instr : Instr) (v u : View) (a : FuncAddr) (f : FitsAt s R (instr ∷ rest_of (module_for s v) v) [] v) : Type 0 where
  pub live : a.0 < length s.functions
  pub called : IsCalled (type_of (function_at s a)) u.top.values (next_at (module_for s v) instr (rest_of (module_for s v) v) v f.typed).next
  pub values : AreLive s u.top.values
  pub rest : u ≡ with_values u.top.values v

pub callable : {R : List ValType} → (s : Store) (instr : Instr) (v u : View) (a : FuncAddr) (f : FitsAt s R (instr ∷ rest_of (module_for s v) v) [] v) → Callable s R instr v u a f → CanCall s a u
callable s instr v u a f c = record { live = c.live; enough = omega (arith, tops_long (reverse (type_of (function_at s a)).params) u.top.values c.called.tops, length-reverse (type_of (function_at s a)).params) }

pub calls_waits : {R : List ValType} → (s : Store) (instr : Instr) (v u x : View) (a : FuncAddr) (args : List Value) (f : FitsAt s R (instr ∷ rest_of (module_for s v) v) [] v) → Callable s R instr v u a f → Calls s a args u x → Waits s R (type_of (function_at s a)).results x
calls_waits {R} s instr v u x a args f c k =
    let m = module_for s v in
    let g = type_of (function_at s a) in
    let z : View = with_values (drop (length g.params) u.top.values) v in
    let t : FitsAt s R (rest_of m v) (reverse g.results) z = record {
      live = f.live;
      module_is = f.module_is;
      set = f.set;
      lists = f.lists;
      typed = waits_typed m instr (rest_of m v) v g u.top.values f.typed (next_at m instr (rest_of m v) v f.typed) c.called;
      locals = f.locals;
      operands = (All-drop (IsLive s) (length g.params) u.top.values c.values, f.operands.1);
    } in
    let same : x ≡ z = k.rest ∙ ap (with_values (drop (length g.params) u.top.values)) c.rest in
    subst (λ (q : View). Waits s R g.results q) (sym same) t

pub calls_arguments : {R : List ValType} → (s : Store) (instr : Instr) (v u x : View) (a : FuncAddr) (args : List Value) (f : FitsAt s R (instr ∷ rest_of (module_for s v) v) [] v) → Callable s R instr v u a f → Calls s a args u x → AreArguments s (type_of (function_at s a)) args
calls_arguments s instr v u x a args f c k = results_by s (type_of (function_at s a)).params u.top.values args c.called.tops c.values k.args_are

-- call

typed_with : (m : Module) (k : ℕ) (s next : Operands) (o : Option FuncType) → slice_get m.types k ≡ o → then_ o (λ g. calls g s) ≡ Some next → (g : FuncType) × (slice_get m.types k ≡ Some g) × (calls g s ≡ Some next)
typed_with m k s next None f e = absurd (let h : ◌≡◌ None (Some next) = e in cc)
typed_with m k s next (Some g) f e = (g, f, e)

typed_by : (m : Module) (o : Option ℕ) (s next : Operands) → then_ (then_ o (slice_get m.types)) (λ g. calls g s) ≡ Some next → (k : ℕ) × (g : FuncType) × (o ≡ Some k) × (slice_get m.types k ≡ Some g) × (calls g s ≡ Some next)
typed_by m None s next e = absurd (let f : ◌≡◌ None (Some next) = e in cc)
typed_by m (Some k) s next e = let t = typed_with m k s next (slice_get m.types k) refl e in (k, t.0, refl, t.1, t.2)

module_same : {R : List ValType} → (s : Store) (is : List Instr) (ts : List ValType) (v : View) → FitsAt s R is ts v → module_at s (instance_at s v.instance).module ≡ module_for s v
module_same s is ts v f = ap (module_at s) f.module_is

pub call_finds : {R : List ValType} → (s : Store) (instr : Instr) (v : View) (x : ℕ) → (f : FitsAt s R (instr ∷ rest_of (module_for s v) v) [] v) → sort_of instr ≡ sort.Call x → (a : FuncAddr) × (slice_get (instance_at s v.instance).funcs x ≡ Some a) × Callable s R instr v v a f
call_finds {R} s instr v x f e =
    let m = module_for s v in
    let t = typed_by m (slice_get (funcs_of m) x) (standing_of v.top.values) _ (typing_at s instr (rest_of m v) v (sort.Call x) f e) in
    let own : slice_get (funcs_of (module_at s (instance_at s v.instance).module)) x ≡ Some t.0 = ap (λ k. slice_get (funcs_of k) x) (module_same s (instr ∷ rest_of m v) [] v f) ∙ t.2 in
    let z = zip_at (HasFunction s (module_at s (instance_at s v.instance).module)) (instance_at s v.instance).funcs (funcs_of (module_at s (instance_at s v.instance).module)) x t.0 f.lists.funcs own in
    let same : type_of (function_at s z.0) ≡ t.1 = same_Some _ _ (sym z.2.1 ∙ ap (λ (k : Module). slice_get k.types t.0) (module_same s (instr ∷ rest_of m v) [] v f) ∙ t.3) in
    let c : IsCalled (type_of (function_at s z.0)) v.top.values (next_at m instr (rest_of m v) v f.typed).next = subst (λ (g : FuncType). IsCalled g v.top.values (next_at m instr (rest_of m v) v f.typed).next) (sym same) (called t.1 v.top.values _ t.4) in
    (z.0, z.1, record { live = z.2.0; called = c; values = f.operands.0; rest = refl })

-- call_indirect

pub record IsIndirect (s : Store) (v : View) (x : ℕ) (next : Operands) : Type 0 where
  pub type : FuncType
  pub type_is : slice_get (module_for s v).types x ≡ Some type
  pub taken : Operands
  pub test : take_one y.I32 (standing_of v.top.values) ≡ Some taken
  pub goes : calls type taken ≡ Some next

indirect_by : (s : Store) (v : View) (x : ℕ) (next : Operands) (b : Bool) (o : Option FuncType) → slice_get (module_for s v).types x ≡ o → when b (then_ o (λ g. then_ (take_one y.I32 (standing_of v.top.values)) (calls g))) ≡ Some next → (b ≡ true) × IsIndirect s v x next
indirect_by s v x next false o e h = absurd (let f : ◌≡◌ None (Some next) = h in cc)
indirect_by s v x next true None e h = absurd (let f : ◌≡◌ None (Some next) = h in cc)
indirect_by s v x next true (Some g) e h = (refl, test_by (take_one y.I32 (standing_of v.top.values)) refl h)
  where
    test_by : (o : Option Operands) → take_one y.I32 (standing_of v.top.values) ≡ o → then_ o (calls g) ≡ Some next → IsIndirect s v x next
    test_by None t k = absurd (let f : ◌≡◌ None (Some next) = k in cc)
    test_by (Some r) t k = record { type = g; type_is = e; taken = r; test = t; goes = k }

table_of : (o : Option TableType) → holds_functions o ≡ true → (table : TableType) × (o ≡ Some table) × (table.elem ≡ y.FuncRef)
table_of None e = absurd (let f : false ≡ true = e in cc)
table_of (Some table) e = (table, refl, sym (same_types table.elem y.FuncRef e))

-- a table of functions
pub record IsTableThere (s : Store) (v : View) (z : ℕ) (a : TableAddr) : Type 0 where
  pub address : slice_get (instance_at s v.instance).tables z ≡ Some a
  pub live : a.0 < length s.tables
  pub elem : (table_at s a).elem ≡ y.FuncRef

pub indirect : {R : List ValType} → (s : Store) (instr : Instr) (v : View) (x z : ℕ) → (f : FitsAt s R (instr ∷ rest_of (module_for s v) v) [] v) → sort_of instr ≡ sort.CallIndirect x z → (holds_functions (slice_get (tables_of (module_for s v)) z) ≡ true) × IsIndirect s v x (next_at (module_for s v) instr (rest_of (module_for s v) v) v f.typed).next
indirect s instr v x z f e =
    let m = module_for s v in
    indirect_by s v x _ (holds_functions (slice_get (tables_of m) z)) (slice_get m.types x) refl (typing_at s instr (rest_of m v) v (sort.CallIndirect x z) f e)

pub indirect_first : {R : List ValType} → (s : Store) (instr : Instr) (v : View) (x z : ℕ) → FitsAt s R (instr ∷ rest_of (module_for s v) v) [] v → sort_of instr ≡ sort.CallIndirect x z → IsNumberFirst v.top.values
indirect_first s instr v x z f e = let i = (indirect s instr v x z f e).1 in first_of_taken v.top.values i.taken i.test

pub indirect_type : {R : List ValType} → (s : Store) (instr : Instr) (v : View) (x z : ℕ) → FitsAt s R (instr ∷ rest_of (module_for s v) v) [] v → sort_of instr ≡ sort.CallIndirect x z → (g : FuncType) × (slice_get (module_for s v).types x ≡ Some g)
indirect_type s instr v x z f e = let i = (indirect s instr v x z f e).1 in (i.type, i.type_is)

pub indirect_table : {R : List ValType} → (s : Store) (instr : Instr) (v : View) (x z : ℕ) → FitsAt s R (instr ∷ rest_of (module_for s v) v) [] v → sort_of instr ≡ sort.CallIndirect x z → (a : TableAddr) × IsTableThere s v z a
indirect_table {R} s instr v x z f e =
    let m = module_for s v in
    let t = table_of (slice_get (tables_of m) z) (indirect s instr v x z f e).0 in
    let own : slice_get (tables_of (module_at s (instance_at s v.instance).module)) z ≡ Some t.0 = ap (λ k. slice_get (tables_of k) z) (module_same s (instr ∷ rest_of m v) [] v f) ∙ t.1 in
    let k = zip_at (HasTable s) (instance_at s v.instance).tables (tables_of (module_at s (instance_at s v.instance).module)) z t.0 f.lists.tables own in
    (k.0, record { address = k.1; live = k.2.0; elem = k.2.1 ∙ t.2 })

-- a function of that type can be called with the values that are left of the number
pub indirect_callable : {R : List ValType} → (s : Store) (instr : Instr) (v u : View) (x z k : ℕ) (a : FuncAddr) → (f : FitsAt s R (instr ∷ rest_of (module_for s v) v) [] v) → sort_of instr ≡ sort.CallIndirect x z
    → v.top.values ≡ w.I32 k ∷ u.top.values → u ≡ with_values u.top.values v → a.0 < length s.functions → slice_get (module_for s v).types x ≡ Some (type_of (function_at s a)) → Callable s R instr v u a f
indirect_callable {R} s instr v u x z k a f e t q live same =
    let m = module_for s v in
    let i = (indirect s instr v x z f e).1 in
    let r : i.taken ≡ standing_of u.top.values = same_Some _ _ (sym i.test ∙ ap (λ us. take_one y.I32 (standing_of us)) t) in
    let g : i.type ≡ type_of (function_at s a) = same_Some _ _ (sym i.type_is ∙ same) in
    let c : IsCalled (type_of (function_at s a)) u.top.values (next_at m instr (rest_of m v) v f.typed).next =
    subst (λ (h : FuncType). IsCalled h u.top.values (next_at m instr (rest_of m v) v f.typed).next) g (called i.type u.top.values _ (ap (calls i.type) (sym r) ∙ i.goes)) in
    record { live = live; called = c; values = All-tail (IsLive s) (w.I32 k) u.top.values (subst (AreLive s) t f.operands.0); rest = q }

-- types that a test finds the same

same_lists_are : (ts us : List ValType) → same_lists ts us ≡ true → us ≡ ts
same_lists_are [] [] e = refl
same_lists_are [] (u ∷ us) e = absurd (let f : false ≡ true = e in cc)
same_lists_are (t ∷ ts) [] e = absurd (let f : false ≡ true = e in cc)
same_lists_are (t ∷ ts) (u ∷ us) e =
    let p = both (same_type t u) (same_lists ts us) e in
    let a : u ≡ t = same_types t u p.0 in
    let b : us ≡ ts = same_lists_are ts us p.1 in cc
  where
    both : (a b : Bool) → (a && b) ≡ true → (a ≡ true) × (b ≡ true)
    both true true e = (refl, refl)
    both true false e = cc
    both false b e = cc

pub same_func_types : (g h : FuncType) → same_func_type g h ≡ true → h ≡ g
same_func_types g h e =
    let p = both (same_lists g.params h.params) (same_lists g.results h.results) e in
    let a : h.params ≡ g.params = same_lists_are g.params h.params p.0 in
    let b : h.results ≡ g.results = same_lists_are g.results h.results p.1 in
    ap (λ ps. record { params = ps; results = h.results }) a ∙ ap (λ rs. record { params = g.params; results = rs }) b
  where
    both : (a b : Bool) → (a && b) ≡ true → (a ≡ true) × (b ≡ true)
    both true true e = (refl, refl)
    both true false e = cc
    both false b e = cc

-- the values of a call put in place
pub supplied_fits : {R : List ValType} → (s : Store) (results : List ValType) (v x : View) (values : List Value) → Waits s R results v → AreResults s results values → x ≡ with_values (reverse values ++ v.top.values) v → Fits s R x
supplied_fits {R} s results v x values f a q =
    let m = module_for s v in
    let h = f.typed in
    let ts : reverse results ++ map value_type v.top.values ≡ map value_type (reverse values ++ v.top.values) =
    ap (λ us. us ++ map value_type v.top.values) (ap reverse (sym a.types) ∙ sym (reverse_map values)) ∙ sym (map-append value_type (reverse values) v.top.values) in
    let c = context_of m (rest_of m v) (reverse results) v h in
    let z : FitsAt s R (rest_of m v) [] (with_values (reverse values ++ v.top.values) v) = record {
      live = f.live;
      module_is = f.module_is;
      set = f.set;
      lists = f.lists;
      typed = record {
        depth = h.depth;
        few = h.few;
        long = h.long;
        label = h.label;
        gives = h.gives;
        labels = h.labels;
        inner = record {
          arity = h.inner.arity;
          code = subst (λ us. IsCode m h.depth c (rest_of m v) us h.gives) ts h.inner.code;
          fits = subst (λ us. HasRoom m h.depth c (rest_of m v) us (count_of v.outer) v.room) ts h.inner.fits;
          again = h.inner.again;
        };
        expects = h.expects;
        linked = linked_same m v.top (reverse values ++ v.top.values) v.outer h.linked;
      };
      locals = f.locals;
      operands = (All-append (IsLive s) (reverse values) v.top.values (reverse_live s values a.live) f.operands.0, f.operands.1);
    } in
    subst (Fits s R) (sym q) z

-- there is room for them
pub supplied_room : {R : List ValType} → (s : Store) (results : List ValType) (v : View) → Waits s R results v → length results + (length v.top.values + count_of v.outer) ≤ v.room
supplied_room {R} s results v f =
    let m = module_for s v in
    let r = room_now m f.typed.depth (context_of m (rest_of m v) (reverse results) v f.typed) (rest_of m v) (standing (reverse results ++ map value_type v.top.values)) (count_of v.outer) v.room f.typed.inner.fits in
    let l : length (standing (reverse results ++ map value_type v.top.values)).types ≡ length results + length v.top.values =
    length-map (reverse results ++ map value_type v.top.values) Some ∙ length-append (reverse results) (map value_type v.top.values) ∙ ap (λ k. k + length (map value_type v.top.values)) (length-reverse results) ∙ ap (λ k. length results + k) (length-map v.top.values value_type) in
    omega (arith, r, l)
