-- A frame that is entered.
use Rattle.std.proofs.Common.{◌≡◌, ⊎_elim, ℕ, zero, suc, ◌≤◌, List, [], ◌∷◌, ◌++◌, length, drop, map, refl, sym, ap, ◌∙◌, subst, arith, Option, Some, None, Bool, true, false, replicate, flat_map, option_map, get_or}
use Rattle.std.specs.Prelude.{slice_get}
use Rattle.std.specs.List.{AllZip}
use Rattle.std.proofs.lemmas.List.{append-nil, drop_all, map-append}
use Rattle.std.proofs.lemmas.Option.{get_or_from_slice_get}
use Rattle.std.proofs.lemmas.List.Elements.{All-get_or, All-cons, All-append, All-replicate}
use Rattle.wasm_syntax.specs.Blocks.{block_of}
use Rattle.wasm_syntax.specs.declared.types.ValType.{ValType}
use Rattle.wasm_syntax.specs.declared.types.ValType.TheVariants as v
use Rattle.wasm_syntax.specs.declared.types.FuncType.{FuncType}
use Rattle.wasm_syntax.specs.declared.module.Func.{Func}
use Rattle.wasm_syntax.specs.declared.module.Module.{Module}
use Rattle.wasm_syntax.specs.declared.value.Value.{Value}
use Rattle.wasm_syntax.specs.declared.addresses.FuncAddr.{FuncAddr}
use Rattle.wasm_syntax.specs.declared.addresses.InstAddr.{InstAddr}
use Rattle.wasm_valid.specs.Spaces.{then_}
use Rattle.wasm_valid.specs.Typing.{is_block, block_height, most_nested, body_context, body_type, is_typed_body, body_height, typed_as, typed_within, height_as, few_locals, locals_of}
use Rattle.wasm_store.specs.declared.instances.FuncInst.{FuncInst}
use Rattle.wasm_store.specs.declared.instances.FuncInst.TheVariants as f
use Rattle.wasm_store.specs.declared.instances.Instance.{Instance}
use Rattle.wasm_store.specs.Store.{Store, type_of, module_at, instance_at, function_at, blank, no_function}
use Rattle.wasm_store.specs.Whole.{value_type, IsLive, AreLive, HasType, HasLists, IsInstance, IsFunction, IsWhole}
use Rattle.wasm_machine.specs.Reduction.{default_of, default_locals, frame_of, frame_for, frame_with}
use Rattle.wasm_machine.specs.View.{View, begun_view, term_of}
use Rattle.wasm_machine.specs.Fits.{IsCode, HasRoom, IsTypedAt, Fits}
use Rattle.wasm_machine.specs.Entering.{HasCode, CanEnter}

pub defaults_done : (ws from : List Value) (runs : List (ℕ × ValType)) (i : ℕ) → ws ++ default_locals (drop i runs) ≡ from ++ default_locals runs → length runs ≤ i → ws ≡ from ++ default_locals runs
defaults_done ws from runs i e le = sym (append-nil ws) ∙ ap (λ rs. ws ++ default_locals rs) (sym (drop_all i runs le)) ∙ e

-- Locals.

default_typed : (t : ValType) → value_type (default_of t) ≡ t
default_typed v.I32 = refl
default_typed v.I64 = refl
default_typed v.FuncRef = refl
default_typed v.ExternRef = refl

default_live : (s : Store) (t : ValType) → IsLive s (default_of t)
default_live s v.I32 = tt
default_live s v.I64 = tt
default_live s v.FuncRef = tt
default_live s v.ExternRef = tt

run_typed : (n : ℕ) (t : ValType) → map value_type (replicate n (default_of t)) ≡ replicate n t
run_typed zero t = refl
run_typed (suc n) t = ap (λ u. u ∷ map value_type (replicate n (default_of t))) (default_typed t) ∙ ap (λ us. t ∷ us) (run_typed n t)

defaults_typed : (runs : List (ℕ × ValType)) → map value_type (default_locals runs) ≡ flat_map (λ (run : ℕ × ValType). replicate run.0 run.1) runs
defaults_typed [] = refl
defaults_typed (run ∷ runs) =
    map-append value_type (replicate run.0 (default_of run.1)) (default_locals runs)
    ∙ ap (λ us. us ++ map value_type (default_locals runs)) (run_typed run.0 run.1)
    ∙ ap (λ us. replicate run.0 run.1 ++ us) (defaults_typed runs)

defaults_live : (s : Store) (runs : List (ℕ × ValType)) → AreLive s (default_locals runs)
defaults_live s [] = All-replicate (IsLive s) 0 (default_of v.I32) tt
defaults_live s (run ∷ runs) = All-append (IsLive s) (replicate run.0 (default_of run.1)) (default_locals runs) (All-replicate (IsLive s) run.0 (default_of run.1) (default_live s run.1)) (defaults_live s runs)

pub args_typed : (s : Store) (args : List Value) (ts : List ValType) → AllZip (HasType s) args ts → map value_type args ≡ ts
args_typed s [] [] h = refl
args_typed s [] (t ∷ ts) h = absurd h
args_typed s (x ∷ args) [] h = absurd h
args_typed s (x ∷ args) (t ∷ ts) h = ap (λ u. u ∷ map value_type args) h.0.0 ∙ ap (λ us. t ∷ us) (args_typed s args ts h.1)

pub args_live : (s : Store) (args : List Value) (ts : List ValType) → AllZip (HasType s) args ts → AreLive s args
args_live s [] [] h = All-replicate (IsLive s) 0 (default_of v.I32) tt
args_live s [] (t ∷ ts) h = absurd h
args_live s (x ∷ args) [] h = absurd h
args_live s (x ∷ args) (t ∷ ts) h = All-cons (IsLive s) x args h.0.1 (args_live s args ts h.1)

-- The body.

body_by : (b : Bool) (m : Module) (g : FuncType) (own : Func) → typed_within b m g own ≡ true → is_block m (suc most_nested) (body_context g own) own.body (body_type g) ≡ true
body_by true m g own e = e
body_by false m g own e = cc

body_is : (m : Module) (g : FuncType) (own : Func) → slice_get m.types own.ty ≡ Some g → is_typed_body m own ≡ true → is_block m (suc most_nested) (body_context g own) own.body (body_type g) ≡ true
body_is m g own t e = body_by (few_locals g own) m g own (ap (λ o. typed_as o m own) (sym t) ∙ e)

height_is : (m : Module) (g : FuncType) (own : Func) (room : ℕ) → slice_get m.types own.ty ≡ Some g → body_height m own ≡ room → block_height m (suc most_nested) (body_context g own) own.body (body_type g) ≡ room
height_is m g own room t e = ap (λ o. height_as o m own) (sym t) ∙ e

-- What is entered.
pub record Entry (s : Store) (a : FuncAddr) (args : List Value) (g : FuncType) (i : InstAddr) (x room : ℕ) (own : Func) (words : List Value) : Type 0 where
  pub whole : IsWhole s
  pub can : CanEnter s a args
  pub is : function_at s a ≡ f.Wasm g i x
  pub body : slice_get (module_at s (instance_at s i).module).funcs x ≡ Some own
  pub height : option_map (body_height (module_at s (instance_at s i).module)) (slice_get (module_at s (instance_at s i).module).funcs x) ≡ Some room
  pub typed : option_map (is_typed_body (module_at s (instance_at s i).module)) (slice_get (module_at s (instance_at s i).module).funcs x) ≡ Some true
  pub words_are : words ≡ args ++ default_locals own.locals

module _ (s : Store) (a : FuncAddr) (args : List Value) (g : FuncType) (i : InstAddr) (x room : ℕ) (own : Func) (words : List Value) (h : Entry s a args g i x room own words) where
  abbrev m : Module
  m = module_at s (instance_at s i).module

  abbrev entered : View
  entered = begun_view i (instance_at s i).module (length g.results) room words own.body

  pub entered_stands : frame_for s a args ≡ Some (term_of s entered)
  entered_stands =
      ap (λ fn. frame_of s fn args) h.is
      ∙ ap (λ o. then_ o (λ (fn : Func). Some (frame_with (length g.results) (record { locals = args ++ default_locals fn.locals; «instance» = i }) (block_of m fn.body)))) h.body
      ∙ ap (λ ws. Some (frame_with (length g.results) (record { locals = ws; «instance» = i }) (block_of m own.body))) (sym h.words_are)

  func_is : IsFunction s (f.Wasm g i x)
  func_is = subst (IsFunction s) h.is (All-get_or (IsFunction s) s.functions a.0 no_function h.can.live h.whole.functions)

  type_is : slice_get m.types own.ty ≡ Some g
  type_is = ap (λ o. then_ o (λ (fn : Func). slice_get m.types fn.ty)) (sym h.body) ∙ func_is.1

  code_is : HasCode s (f.Wasm g i x)
  code_is = subst (HasCode s) h.is h.can.code

  instance_is : IsInstance s (instance_at s i)
  instance_is = All-get_or (IsInstance s) s.instances i.0 (blank (record { 0 = 0 })) func_is.0 h.whole.instances

  lists_are : HasLists s (instance_at s i)
  lists_are = ⊎_elim (λ b. absurd (code_is b)) (λ l. l) instance_is.1

  typed_args : AllZip (HasType s) args g.params
  typed_args = subst (λ (fn : FuncInst). AllZip (HasType s) args (type_of fn).params) h.is h.can.args

  locals_are : map value_type words ≡ locals_of g own
  locals_are =
      ap (map value_type) h.words_are ∙ map-append value_type args (default_locals own.locals)
      ∙ ap (λ us. us ++ map value_type (default_locals own.locals)) (args_typed s args g.params typed_args)
      ∙ ap (λ us. g.params ++ us) (defaults_typed own.locals)

  live_are : AreLive s words
  live_are = subst (AreLive s) (sym h.words_are) (All-append (IsLive s) args (default_locals own.locals) (args_live s args g.params typed_args) (defaults_live s own.locals))

  own_typed : is_typed_body m own ≡ true
  own_typed = let e : Some (is_typed_body m own) ≡ Some true = ap (option_map (is_typed_body m)) (sym h.body) ∙ h.typed in cc

  own_height : body_height m own ≡ room
  own_height = let e : Some (body_height m own) ≡ Some room = ap (option_map (body_height m)) (sym h.body) ∙ h.height in cc

  typed_is : IsTypedAt m g.results (block_of m own.body) [] entered
  typed_is = record {
    depth = most_nested;
    few = omega arith;
    long = refl;
    label = g.results;
    gives = g.results;
    labels = [];
    inner = record {
      arity = refl;
      code = subst (λ L. IsCode m most_nested (record { locals = L; labels = g.results ∷ []; results = g.results }) (block_of m own.body) [] g.results) (sym locals_are) (body_is m g own type_is own_typed);
      fits = subst (λ L. HasRoom m most_nested (record { locals = L; labels = g.results ∷ []; results = g.results }) (block_of m own.body) [] 0 room) (sym locals_are) (let e = height_is m g own room type_is own_height in omega (arith, e));
      again = refl;
    };
    expects = (refl, refl);
    linked = refl;
  }

  pub entered_fits : Fits s g.results entered
  entered_fits = record { live = func_is.0; module_is = refl; set = code_is; lists = lists_are; typed = typed_is; locals = live_are; operands = (All-replicate (IsLive s) 0 (default_of v.I32) tt, tt) }

-- The same from what the code finds.

body_of : {A : Type 0} → (fs : List Func) (x : ℕ) (d own : Func) (p : Func → A) (r : A) (o : Option Func) → slice_get fs x ≡ o → own ≡ get_or fs x d → option_map p o ≡ Some r → slice_get fs x ≡ Some own
body_of fs x d own p r None e g h = cc
body_of fs x d own p r (Some y) e g h = e ∙ ap Some (sym (g ∙ get_or_from_slice_get fs x y d e))

pub record Found (s : Store) (a : FuncAddr) (args : List Value) (g : FuncType) (i : InstAddr) (x room r : ℕ) (own : Func) (words : List Value) (inst : Instance) (u : View) : Type 0 where
  pub entry : Entry s a args g i x room own words
  pub inst_is : inst ≡ instance_at s i
  pub result_count : r ≡ length g.results
  pub begun : u ≡ begun_view i inst.module r room words own.body

pub entry_by : (s : Store) (a : FuncAddr) (args : List Value) (fn : FuncInst) (g : FuncType) (i : InstAddr) (x : ℕ) (inst : Instance) (m : Module) (fs : List Func) (room : ℕ) (d own : Func) (words : List Value)
    → IsWhole s → CanEnter s a args → fn ≡ function_at s a → fn ≡ f.Wasm g i x → inst ≡ instance_at s i → m ≡ module_at s inst.module → fs ≡ m.funcs → own ≡ get_or fs x d
    → option_map (body_height m) (slice_get m.funcs x) ≡ Some room → option_map (is_typed_body m) (slice_get m.funcs x) ≡ Some true → words ≡ args ++ default_locals own.locals
    → Entry s a args g i x room own words
entry_by s a args fn g i x inst m fs room d own words whole can e1 e2 e3 e4 e5 e6 e7 e8 e9 =
    let k : m ≡ module_at s (instance_at s i).module = e4 ∙ ap (λ (j : Instance). module_at s j.module) e3 in
    let b : slice_get m.funcs x ≡ Some own = body_of m.funcs x d own (body_height m) room (slice_get m.funcs x) refl (subst (λ xs. own ≡ get_or xs x d) e5 e6) e7 in
    record {
      whole = whole;
      can = can;
      is = sym e1 ∙ e2;
      body = subst (λ (n : Module). slice_get n.funcs x ≡ Some own) k b;
      height = subst (λ (n : Module). option_map (body_height n) (slice_get n.funcs x) ≡ Some room) k e7;
      typed = subst (λ (n : Module). option_map (is_typed_body n) (slice_get n.funcs x) ≡ Some true) k e8;
      words_are = e9;
    }

pub found_fits : (s : Store) (a : FuncAddr) (args : List Value) (g : FuncType) (i : InstAddr) (x room r : ℕ) (own : Func) (words : List Value) (inst : Instance) (u : View) → Found s a args g i x room r own words inst u → Fits s (type_of (function_at s a)).results u
found_fits s a args g i x room r own words inst u h =
    let e : u ≡ begun_view i (instance_at s i).module (length g.results) room words own.body = h.begun ∙ ap (λ (j : Instance). begun_view i j.module r room words own.body) h.inst_is ∙ ap (λ k. begun_view i (instance_at s i).module k room words own.body) h.result_count in
    let b : Fits s g.results u = subst (Fits s g.results) (sym e) (entered_fits s a args g i x room own words h.entry) in
    subst (λ (fn : FuncInst). Fits s (type_of fn).results u) (sym h.entry.is) b

pub found_stands : (s : Store) (a : FuncAddr) (args : List Value) (g : FuncType) (i : InstAddr) (x room r : ℕ) (own : Func) (words : List Value) (inst : Instance) (u : View) → Found s a args g i x room r own words inst u → frame_for s a args ≡ Some (term_of s u)
found_stands s a args g i x room r own words inst u h =
    let e : u ≡ begun_view i (instance_at s i).module (length g.results) room words own.body = h.begun ∙ ap (λ (j : Instance). begun_view i j.module r room words own.body) h.inst_is ∙ ap (λ k. begun_view i (instance_at s i).module k room words own.body) h.result_count in
    entered_stands s a args g i x room own words h.entry ∙ ap (λ z. Some (term_of s z)) (sym e)
