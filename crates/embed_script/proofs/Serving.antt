-- The functions of a run may be called, and go on so.
use Rattle.std.proofs.Common.{◌≡◌, ℕ, List, [], ◌∷◌, Option, Some, None, Bool, true, false, ◌&&◌, cond, length, map, refl, sym, ap, ◌∙◌, subst, arith, String, Global, string_bytes}
use Rattle.std.proofs.lemmas.Map.Text.{hash_map_updates_text}
use Rattle.std.specs.HashMap as hash
use Rattle.std.specs.List.{All, AllZip, list_all}
use Rattle.std.specs.Option.{option_map}
use Rattle.std.specs.Str.{bytes_eq}
use Rattle.std.specs.String.{string_eq}
use Rattle.wasm_syntax.specs.declared.types.ValType.{ValType}
use Rattle.wasm_syntax.specs.declared.types.ValType.TheVariants as v
use Rattle.wasm_syntax.specs.declared.value.Value.{Value as WasmValue}
use Rattle.wasm_syntax.specs.declared.value.Value.TheVariants as w
use Rattle.wasm_syntax.specs.declared.addresses.FuncAddr.{FuncAddr}
use Rattle.std.proofs.lemmas.List.Elements.{All-weaker}
use Rattle.wasm_syntax.specs.declared.module.Module.{Module}
use Rattle.wasm_store.specs.declared.instances.FuncInst.{FuncInst}
use Rattle.wasm_store.specs.declared.instances.FuncInst.TheVariants as kind
use Rattle.wasm_store.specs.Store.{Store, type_of, function_at, no_function, with_module, empty_store, blank}
use Rattle.wasm_store.specs.Whole.{HasType, HasCode, IsBlank, IsLater, AllHaveCode, HasSameCode}
use Rattle.wasm_store.specs.Laws.{FunctionsStay}
use Rattle.wasm_machine.specs.Entering.{CanEnter}
use Rattle.wasm_instance.specs.Laws.{IsStart}
use Rattle.wasm_store.specs.declared.instances.Instance.{Instance}
use Rattle.std.specs.Prelude.{slice_index_or}
use Rattle.std.specs.Map.{lookup}
use Rattle.embed_script.specs.declared.value.Bound.{Bound}
use Rattle.embed_script.specs.Functions.{is_i32, are_i32, is_one_i32, is_word_type, parameters_of}
use Rattle.embed_script.specs.Evaluation.{Binding, value, function}
use Rattle.embed_script.specs.Tasks.{Names, binding_of}
use Rattle.embed_script.specs.Serving.{IsCallable, BindingServes, Serves}
use Rattle.embed_script.proofs.Bound.{chosen}

-- Later stores.

pub callable_later : FunctionsStay → (s t : Store) (f : FuncAddr) → IsLater s t → IsCallable s f → IsCallable t f
callable_later stay s t f l h = let k = stay s t f l h.0 in (k.0, ap (λ g. is_word_type (type_of g)) k.1 ∙ h.1)

binding_later : FunctionsStay → (s t : Store) (o : Option Binding) → IsLater s t → BindingServes s o → BindingServes t o
binding_later stay s t None l h = tt
binding_later stay s t (Some (value u)) l h = tt
binding_later stay s t (Some (function f)) l h = callable_later stay s t f l h

pub serves_later : FunctionsStay → (names : Names) (s t : Store) → IsLater s t → AllHaveCode t → Serves names s → Serves names t
serves_later stay names s t l c h = record { code = c; callable = λ name. binding_later stay s t (option_map binding_of (hash.get_by_text names name)) l (h.callable name) }

-- One binding more.

choose : (s : Store) (b : Bool) (x y : Option Binding) → BindingServes s x → BindingServes s y → BindingServes s (cond b x y)
choose s true x y h k = h
choose s false x y h k = k

pub serves_more : (s : Store) (old new : Names) (key : String Global) (u : Bound) → hash.UpdatesBy string_eq (λ k. bytes_eq (string_bytes key) (string_bytes k)) old new (Some u)
    → BindingServes s (Some (binding_of u)) → Serves old s → Serves new s
serves_more s old new key u updates b h = record {
  code = h.code;
  callable = λ q.
      let e = ap (λ o. option_map binding_of o) (hash_map_updates_text (string_bytes key) old new (Some u) updates q) ∙ chosen (bytes_eq (string_bytes key) q) u (hash.get_by_text old q) in
      subst (BindingServes s) (sym e) (choose s (bytes_eq (string_bytes key) q) (Some (binding_of u)) (option_map binding_of (hash.get_by_text old q)) b (h.callable q));
}

pub callable_of : (names : Names) (s : Store) (name : List ℕ) (f : FuncAddr) → Serves names s → option_map binding_of (hash.get_by_text names name) ≡ Some (function f) → IsCallable s f
callable_of names s name f h e = subst (BindingServes s) e (h.callable name)

-- Arguments.

and_first : (a b : Bool) → (a && b) ≡ true → a ≡ true
and_first true b e = refl
and_first false b e = cc

and_second : (a b : Bool) → (a && b) ≡ true → b ≡ true
and_second true b e = e
and_second false b e = cc

word_typed : (s : Store) (n : ℕ) (t : ValType) → is_i32 t ≡ true → HasType s (w.I32 n) t
word_typed s n v.I32 e = (refl, tt)
word_typed s n v.I64 e = absurd (let h : false ≡ true = e in cc)
word_typed s n v.FuncRef e = absurd (let h : false ≡ true = e in cc)
word_typed s n v.ExternRef e = absurd (let h : false ≡ true = e in cc)

words_typed : (s : Store) (ws : List ℕ) (ts : List ValType) → list_all is_i32 ts ≡ true → length ws ≡ length ts → AllZip (HasType s) (map w.I32 ws) ts
words_typed s [] [] e n = tt
words_typed s [] (t ∷ ts) e n = absurd (omega (arith, n))
words_typed s (k ∷ ws) [] e n = absurd (omega (arith, n))
words_typed s (k ∷ ws) (t ∷ ts) e n =
    (word_typed s k t (and_first (is_i32 t) (list_all is_i32 ts) e), words_typed s ws ts (and_second (is_i32 t) (list_all is_i32 ts) e) (omega (arith, n)))

pub can_call : (s : Store) (f : FuncAddr) (ws : List ℕ) → AllHaveCode s → IsCallable s f → length ws ≡ parameters_of s f → CanEnter s f (map w.I32 ws)
can_call s f ws c h n =
    let g = type_of (function_at s f) in
    record { live = h.0; code = c f.0 no_function h.0; args = words_typed s ws g.params (and_first (are_i32 g.params) (is_one_i32 g.results) h.1) n }

pub can_call_at : (s t : Store) (f : FuncAddr) (args : List WasmValue) (ws : List ℕ) → t ≡ s → AllHaveCode s → IsCallable s f → args ≡ map w.I32 ws → length ws ≡ parameters_of t f → CanEnter t f args
can_call_at s t f args ws e c h k n =
    let in_s : length ws ≡ parameters_of s f = n ∙ ap (λ u. parameters_of u f) e in
    subst (λ u. CanEnter u f args) (sym e) (subst (CanEnter s f) (sym k) (can_call s f ws c h in_s))

pub can_start : (s : Store) (f : FuncAddr) → AllHaveCode s → IsStart s (Some f) → CanEnter s f []
can_start s f c h = record { live = h.0; code = c f.0 no_function h.0; args = subst (λ (ts : List ValType). AllZip (HasType s) [] ts) (sym h.1) tt }

-- Modules.

code_there : (m : Module) (s : Store) (g : FuncInst) → HasCode s g → HasCode (with_module m s) g
code_there m s (kind.Wasm ty i x) h = h
code_there m s (kind.Host ty callee) h = h
code_there m s (kind.Suspending ty callee) h = h

-- one module more takes no code away
pub code_with : (m : Module) (s t : Store) → t ≡ with_module m s → AllHaveCode s → AllHaveCode t
code_with m s t e h = subst AllHaveCode (sym e) (All-weaker (HasCode s) (HasCode (with_module m s)) (code_there m s) s.functions h)

same_code_there : (s t : Store) → HasSameCode s t → (g : FuncInst) → HasCode s g → HasCode t g
same_code_there s t c (kind.Wasm ty i x) h =
    subst (λ (j : Instance). IsBlank j → ⊥) (sym (ap (λ (xs : List Instance). slice_index_or xs i.0 (blank (record { 0 = 0 }))) c.instances)) h
same_code_there s t c (kind.Host ty callee) h = h
same_code_there s t c (kind.Suspending ty callee) h = h

-- the same code is there
pub code_same : (s t : Store) → HasSameCode s t → AllHaveCode s → AllHaveCode t
code_same s t c h = subst (All (HasCode t)) (sym c.functions) (All-weaker (HasCode s) (HasCode t) (same_code_there s t c) s.functions h)

-- at first nothing is there
pub serves_none : (names : Names) (s : Store) → hash.IsEmpty names → s ≡ empty_store → Serves names s
serves_none names s none e =
    record {
      code = subst AllHaveCode (sym e) (λ k d lt. absurd (omega (arith, lt)));
      callable = λ name.
          let n : option_map binding_of (hash.get_by_text names name) ≡ None = ap (λ es. option_map binding_of (lookup (λ k. bytes_eq name (string_bytes k)) es)) none in
          subst (BindingServes s) (sym n) tt;
    }
