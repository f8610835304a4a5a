-- A new instance of a module without imports, and its function with an index.
use Rattle.std.proofs.Common.{◌≡◌, ℕ, zero, suc, ◌<◌, List, [], ◌∷◌, ◌++◌, Option, Some, None, Bool, true, false, cond, Result, Ok, Err, IfSome, length, map, refl, sym, ap, ◌∙◌, subst, arith, slice_get}
use Rattle.std.specs.Prelude.{slice_index_or}
use Rattle.std.specs.List.{filter_map}
use Rattle.std.proofs.Math.Seq.{get_or-append_seam}
use Rattle.std.proofs.lemmas.List.{length-append}
use Rattle.std.proofs.lemmas.Option.{get_or_from_slice_get, same_Some}
use Rattle.wasm_syntax.specs.declared.module.Module.{Module}
use Rattle.wasm_syntax.specs.declared.module.Func.{Func}
use Rattle.wasm_syntax.specs.declared.module.Import.{Import}
use Rattle.wasm_syntax.specs.declared.types.FuncType.{FuncType}
use Rattle.wasm_syntax.specs.declared.trap.Trap.{Trap}
use Rattle.wasm_syntax.specs.declared.addresses.FuncAddr.{FuncAddr}
use Rattle.wasm_syntax.specs.declared.addresses.InstAddr.{InstAddr}
use Rattle.wasm_syntax.specs.declared.addresses.ModuleAddr.{ModuleAddr}
use Rattle.wasm_valid.specs.Spaces.{then_, funcs_of, func_import}
use Rattle.wasm_store.specs.declared.instances.Instance.{Instance}
use Rattle.wasm_store.specs.Store.{Store, no_module, blank, with_module, module_at, instance_at, function_at, type_of}
use Rattle.wasm_store.specs.Whole.{HasLists, IsLater, own_type}
use Rattle.wasm_store.specs.Laws.{ModulesStay, FunctionOfIndex}
use Rattle.wasm_store.specs.Allocated.{func_addr, instance_of as lists_of}
use Rattle.wasm_instance.specs.declared.modules.Instantiated.{Instantiated}
use Rattle.wasm_instance.specs.declared.modules.Instantiated.TheVariants as ends
use Rattle.wasm_instance.specs.Instantiation.{goes, traps, instantiated, is_within_limits, start_of, Instantiates}
use Rattle.wasm_instance.specs.Laws.{IsThere}
use Rattle.embed_script.specs.declared.state.State.{State}
use Rattle.embed_script.specs.Ends.{End, and_then, runtime_error, range_error}
use Rattle.embed_script.specs.Functions.{is_empty, is_self_contained, is_word_type, has_word_type, started, with_segments, next_module, instance_with}
use Rattle.embed_script.specs.declared.stop.Stop.{Stop}
use Rattle.embed_script.specs.Stops.{end_of, Ends}
use Rattle.embed_script.specs.Serving.{IsCallable}

empty : {A : Type 0} → (xs : List A) → is_empty xs ≡ true → xs ≡ []
empty [] e = refl
empty (x ∷ xs) e = absurd (let h : false ≡ true = e in cc)

pub no_import : (m : Module) → is_self_contained m ≡ true → m.imports ≡ []
no_import m e = empty m.imports e

-- the module that was moved in
pub module_new : (m : Module) (s : Store) (a : ModuleAddr) → a.0 ≡ length s.modules → module_at (with_module m s) a ≡ m
module_new m s a e = ap (λ k. slice_index_or (s.modules ++ m ∷ []) k no_module) e ∙ get_or-append_seam s.modules m [] no_module

pub live_new : (m : Module) (s : Store) (a : ModuleAddr) → a.0 ≡ length s.modules → a.0 < length (with_module m s).modules
live_new m s a e = omega (arith, e, length-append s.modules (m ∷ []))

-- The function.

-- the type of an own function, by its number
pub record IsOwn (m : Module) (k : ℕ) : Type 0 where
  pub own : Func
  pub type : FuncType
  pub own_is : slice_get m.funcs k ≡ Some own
  pub type_is : slice_get m.types own.ty ≡ Some type
  pub word : is_word_type type ≡ true

by_type : (m : Module) (k : ℕ) (g : Func) → slice_get m.funcs k ≡ Some g → (o : Option FuncType) → slice_get m.types g.ty ≡ o → has_word_type o ≡ true → IsOwn m k
by_type m k g a None b e = absurd (let h : false ≡ true = e in cc)
by_type m k g a (Some t) b e = record { own = g; type = t; own_is = a; type_is = b; word = e }

by_func : (m : Module) (k : ℕ) (o : Option Func) → slice_get m.funcs k ≡ o → has_word_type (then_ o (λ (g : Func). slice_get m.types g.ty)) ≡ true → IsOwn m k
by_func m k None a e = absurd (let h : false ≡ true = e in cc)
by_func m k (Some g) a e = by_type m k g a (slice_get m.types g.ty) refl e

own_there : (m : Module) (k : ℕ) → has_word_type (own_type m k) ≡ true → IsOwn m k
own_there m k e = by_func m k (slice_get m.funcs k) refl e

get_mapped : (gs : List Func) (k : ℕ) (g : Func) → slice_get gs k ≡ Some g → slice_get (map (λ (f : Func). f.ty) gs) k ≡ Some g.ty
get_mapped [] k g e = absurd (let h : ◌≡◌ None (Some g) = e in cc)
get_mapped (f ∷ gs) zero g e = ap (λ (x : Func). Some x.ty) (same_Some f g e)
get_mapped (f ∷ gs) (suc k) g e = get_mapped gs k g e

own_index : (m : Module) (k : ℕ) (g : Func) → m.imports ≡ [] → slice_get m.funcs k ≡ Some g → slice_get (funcs_of m) k ≡ Some g.ty
own_index m k g e h =
    ap (λ (is : List Import). slice_get (filter_map (λ (i : Import). func_import i.desc) is ++ map (λ (f : Func). f.ty) m.funcs) k) e ∙ get_mapped m.funcs k g h

-- in an instance of the module it is live and of its type
pub own_callable : FunctionOfIndex → (s : Store) (i : Instance) (m : Module) (k : ℕ) → HasLists s i → module_at s i.module ≡ m → m.imports ≡ [] → has_word_type (own_type m k) ≡ true
    → IsCallable s (slice_index_or i.funcs k (func_addr 0))
own_callable index s i m k lists is none word =
    let o = own_there m k word in
    let at : slice_get (funcs_of (module_at s i.module)) k ≡ Some o.own.ty = ap (λ (n : Module). slice_get (funcs_of n) k) is ∙ own_index m k o.own none o.own_is in
    let h = index s i k o.own.ty lists at in
    let f : slice_index_or i.funcs k (func_addr 0) ≡ h.0 = get_or_from_slice_get i.funcs k h.0 (func_addr 0) h.1 in
    let typed : Some o.type ≡ Some (type_of (function_at s h.0)) = sym o.type_is ∙ ap (λ (n : Module). slice_get n.types o.own.ty) (sym is) ∙ h.2.1 in
    subst (IsCallable s) (sym f) (h.2.0, ap is_word_type (sym (same_Some o.type (type_of (function_at s h.0)) typed)) ∙ o.word)

-- What the definition says.

choose_within : (b : Bool) (x : Result (FuncAddr × State) End) → b ≡ true → cond b x (Err range_error) ≡ x
choose_within true x e = refl
choose_within false x e = cc

choose_past : (b : Bool) (x : Result (FuncAddr × State) End) → b ≡ false → cond b x (Err range_error) ≡ Err range_error
choose_past false x e = refl
choose_past true x e = cc

-- the parts of the definition, over the store with the module
pub record IsMade (m : Module) (s : State) (a : ModuleAddr) (t : Store) (imports : Instance) : Type 0 where
  pub address : a ≡ next_module s.store
  pub store : t ≡ with_module m s.store
  pub none : imports ≡ blank a
  pub «module» : module_at t a ≡ m

within : (m : Module) (s : State) (a : ModuleAddr) (t : Store) (imports : Instance) (k : ℕ) → IsMade m s a t imports → is_within_limits t (module_at t a) ≡ true
    → instance_with m k s ≡ with_segments m (lists_of a imports t) k s.left (instantiated a imports t)
within m s a t imports k h e =
    let n = next_module s.store in
    choose_within (is_within_limits (with_module m s.store) m) (with_segments m (lists_of n (blank n) (with_module m s.store)) k s.left (instantiated n (blank n) (with_module m s.store))) (ap (λ (u : Store). is_within_limits u m) (sym h.store) ∙ ap (is_within_limits t) (sym h.module) ∙ e)
    ∙ ap (λ b. with_segments m (lists_of b (blank b) (with_module m s.store)) k s.left (instantiated b (blank b) (with_module m s.store))) (sym h.address)
    ∙ ap (λ u. with_segments m (lists_of a (blank a) u) k s.left (instantiated a (blank a) u)) (sym h.store)
    ∙ ap (λ (i : Instance). with_segments m (lists_of a i t) k s.left (instantiated a i t)) (sym h.none)

pub made_ready : (m : Module) (s : State) (a : ModuleAddr) (t : Store) (imports : Instance) (k : ℕ) (u : Store) (start : Option FuncAddr) (r : State) (f : FuncAddr) → IsMade m s a t imports → is_within_limits t (module_at t a) ≡ true
    → instantiated a imports t ≡ goes u → start ≡ start_of (module_at t a) (lists_of a imports t) → started start (record { store = u; left = s.left }) ≡ Ok r → f ≡ slice_index_or (lists_of a imports t).funcs k (func_addr 0)
    → instance_with m k s ≡ Ok (f, r)
made_ready m s a t imports k u start r f h e g b d l =
    let i = lists_of a imports t in
    within m s a t imports k h e
    ∙ ap (with_segments m i k s.left) g
    ∙ ap (λ q. and_then (started q (record { store = u; left = s.left })) (λ x. Ok (slice_index_or i.funcs k (func_addr 0), x))) (ap (λ n. start_of n i) (sym h.module) ∙ sym b)
    ∙ ap (λ q. and_then q (λ x. Ok (slice_index_or i.funcs k (func_addr 0), x))) d
    ∙ ap (λ x. Ok (x, r)) (sym l)

pub made_stopped : (m : Module) (s : State) (a : ModuleAddr) (t : Store) (imports : Instance) (k : ℕ) (u : Store) (start : Option FuncAddr) (end : End) → IsMade m s a t imports → is_within_limits t (module_at t a) ≡ true
    → instantiated a imports t ≡ goes u → start ≡ start_of (module_at t a) (lists_of a imports t) → started start (record { store = u; left = s.left }) ≡ Err end
    → instance_with m k s ≡ Err end
made_stopped m s a t imports k u start end h e g b d =
    let i = lists_of a imports t in
    within m s a t imports k h e
    ∙ ap (with_segments m i k s.left) g
    ∙ ap (λ q. and_then (started q (record { store = u; left = s.left })) (λ x. Ok (slice_index_or i.funcs k (func_addr 0), x))) (ap (λ n. start_of n i) (sym h.module) ∙ sym b)
    ∙ ap (λ q. and_then q (λ x. Ok (slice_index_or i.funcs k (func_addr 0), x))) d

pub made_trapped : (m : Module) (s : State) (a : ModuleAddr) (t : Store) (imports : Instance) (k : ℕ) (u : Store) (cause : Trap) → IsMade m s a t imports → is_within_limits t (module_at t a) ≡ true
    → instantiated a imports t ≡ traps cause u → instance_with m k s ≡ Err runtime_error
made_trapped m s a t imports k u cause h e g = within m s a t imports k h e ∙ ap (with_segments m (lists_of a imports t) k s.left) g

pub made : (m : Module) (s : State) (a : ModuleAddr) (t : Store) (imports : Instance) → a.0 ≡ length s.store.modules → t ≡ with_module m s.store → imports ≡ blank a → IsMade m s a t imports
made m s a t imports e g h =
    let at : a ≡ next_module s.store = ap (λ n. record { 0 = n }) e in
    record { address = at; store = g; none = h; «module» = ap (λ u. module_at u a) g ∙ module_new m s.store a e }

-- An instantiation that is ready.

pub ready : (m : Module) (s : State) (a : ModuleAddr) (t : Store) (imports : Instance) (k : ℕ) (u : Store) (i : InstAddr) (start : Option FuncAddr) (d : Instantiated) (r : State) (f : FuncAddr) → IsMade m s a t imports
    → Instantiates a imports t d u → IsThere a imports t d u → d ≡ ends.Ready i start → started start (record { store = u; left = s.left }) ≡ Ok r → f ≡ slice_index_or (instance_at u i).funcs k (func_addr 0) → instance_with m k s ≡ Ok (f, r)
ready m s a t imports k u i start d r f h e there is q l =
    let b : Instantiates a imports t (ends.Ready i start) u = subst (λ x. Instantiates a imports t x u) is e in
    let g : IsThere a imports t (ends.Ready i start) u = subst (λ x. IsThere a imports t x u) is there in
    made_ready m s a t imports k u start r f h b.0 b.1 b.3 q (l ∙ ap (λ (j : Instance). slice_index_or j.funcs k (func_addr 0)) g.1)

ready_by : (m : Module) (s : State) (a : ModuleAddr) (t : Store) (imports : Instance) (k : ℕ) (u : Store) (i : InstAddr) (start : Option FuncAddr) (o : Option End) → IsMade m s a t imports → Instantiates a imports t (ends.Ready i start) u
    → IfSome o (λ e. started start (record { store = u; left = s.left }) ≡ Err e) → IfSome o (λ e. instance_with m k s ≡ Err e)
ready_by m s a t imports k u i start None h b q = tt
ready_by m s a t imports k u i start (Some e) h b q = made_stopped m s a t imports k u start e h b.0 b.1 b.3 q

-- its start function stops the run
pub ready_stops : (m : Module) (s : State) (a : ModuleAddr) (t : Store) (imports : Instance) (k : ℕ) (u : Store) (i : InstAddr) (start : Option FuncAddr) (d : Instantiated) (stop : Stop) → IsMade m s a t imports
    → Instantiates a imports t d u → d ≡ ends.Ready i start → Ends stop (started start (record { store = u; left = s.left })) → Ends stop (instance_with m k s)
ready_stops m s a t imports k u i start d stop h e is q = ready_by m s a t imports k u i start (end_of stop) h (subst (λ x. Instantiates a imports t x u) is e) q

pub ready_callable : ModulesStay → FunctionOfIndex → (m : Module) (s : State) (a : ModuleAddr) (t : Store) (imports : Instance) (k : ℕ) (u : Store) (i : InstAddr) (start : Option FuncAddr) (d : Instantiated) (f : FuncAddr) → IsMade m s a t imports
    → a.0 < length t.modules → IsLater t u → m.imports ≡ [] → has_word_type (own_type m k) ≡ true → IsThere a imports t d u → d ≡ ends.Ready i start → f ≡ slice_index_or (instance_at u i).funcs k (func_addr 0) → IsCallable u f
ready_callable stay index m s a t imports k u i start d f h live later none word there is l =
    let g : IsThere a imports t (ends.Ready i start) u = subst (λ x. IsThere a imports t x u) is there in
    let b : module_at u (instance_at u i).module ≡ m = ap (λ (j : Instance). module_at u j.module) g.1 ∙ (stay t u a later live).1 ∙ h.module in
    subst (IsCallable u) (sym l) (own_callable index u (instance_at u i) m k g.2 b none word)

pub trapped_is : (m : Module) (s : State) (a : ModuleAddr) (t : Store) (imports : Instance) (k : ℕ) (u : Store) (cause : Trap) (d : Instantiated) → IsMade m s a t imports → Instantiates a imports t d u → d ≡ ends.Trapped cause → instance_with m k s ≡ Err runtime_error
trapped_is m s a t imports k u cause d h e is =
    let b : Instantiates a imports t (ends.Trapped cause) u = subst (λ x. Instantiates a imports t x u) is e in
    made_trapped m s a t imports k u cause h b.0 b.1
