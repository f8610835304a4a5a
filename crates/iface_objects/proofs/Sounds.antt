-- What the calls of the interface come to is sound.
use Rattle.std.proofs.Common.{◌≡◌, ℕ, ◌≤◌, Bool, true, false, List, [], length, refl, sym, ap, subst, ◌∙◌}
use Rattle.std.specs.Prelude.{Option, Some, None, Result, Ok, Err, IfOk, IfSome, nat_le, slice_get, if◌then◌else◌}
use Rattle.std.specs.Option.{option_map_or}
use Rattle.std.proofs.lemmas.Bool.{le-leb}
use Rattle.embed_base.specs.declared.outside.OutsideKind.TheVariants as outside
use Rattle.host_values.specs.Heaps.{kind_at}
use Rattle.host_values.specs.declared.kinds.Kind.{Kind}
use Rattle.host_values.specs.declared.kinds.Kind.TheVariants as kinds
use Rattle.host_values.specs.declared.values.ErrorClass.TheVariants as errors
use Rattle.host_values.specs.declared.values.HostValue.{HostValue}
use Rattle.host_values.specs.declared.values.HostValue.TheVariants as values
use Rattle.wasm_syntax.specs.declared.module.Module.{Module}
use Rattle.wasm_load.specs.Loading.{Loaded, Loads, valid, no_module, left_out, invalid}
use Rattle.wasm_store.specs.Laws.{NothingChanges, FunctionsStay, ModulesStay}
use Rattle.wasm_store.specs.Store.{Store, with_module}
use Rattle.wasm_store.specs.Whole.{IsLater}
use Rattle.iface_objects.specs.declared.answer.Answer.{Answer}
use Rattle.iface_objects.specs.declared.realm.Realm.{Realm}
use Rattle.iface_objects.specs.Loading.{IsLoading, Loading}
use Rattle.iface_objects.specs.Modules.{buffer_made, buffer_named, file_named, is_taken, module_constructed, module_loaded, module_made, module_of_buffer, module_of_bytes, module_of_kind, most_module_bytes}
use Rattle.iface_objects.specs.Realms.{Answered, Gives, lacks, refuses, throws}
use Rattle.iface_objects.specs.Sound.{AreNamed, CanStart, IsSound}
use Rattle.iface_objects.proofs.Stays.{fine_buffer, fine_module, later_more, loaded_more, named_later, named_more}

-- what a call comes to is sound, and its store is later than this one
pub record IsSafe (s : Store) (x : Answered) : Type 0 where
  pub sound : IsSound x.realm
  pub starts : CanStart x.realm.store x.answer
  pub later : IsLater s x.realm.store

-- what holds of the realm and the answer to which a call comes holds after the call
pub after : {E : Type 0} (result : Result Answer E) (x : Answered) (new : Realm) (P : Answer → Realm → Type 0) → IfOk result (λ a. Gives x a new) → P x.answer x.realm → IfOk result (λ a. P a new)
after (Ok a) x new P gives holds = subst (λ (r : Realm). P a r) (sym gives.1) (subst (λ (b : Answer). P b x.realm) (sym gives.0) holds)
after (Err e) x new P gives holds = tt

-- ---- buffers

-- the realm is sound, and its store is the same
pub record IsKept (r : Realm) (x : Answered) : Type 0 where
  pub sound : IsSound x.realm
  pub store : x.realm.store ≡ r.store

pub kept_as_it_was : (r : Realm) (a : Answer) → IsSound r → IsKept r (record { realm = r; answer = a })
kept_as_it_was r a sound = record { sound = sound; store = refl }

kept_made : (r : Realm) (bytes : List ℕ) → IsSound r → IsKept r (buffer_made r bytes)
kept_made r bytes sound = record {
  sound = record { code = sound.code; named = named_more r.heap r.store (kinds.Buffer (length r.buffers)) [] sound.named (fine_buffer r.store (length r.buffers)) };
  store = refl;
}

pub kept_named : (r : Realm) (v : HostValue) → IsSound r → IsKept r (buffer_named r v)
kept_named r (values.Text name) sound = by (file_named r.files name)
  where
    by : (o : Option (List ℕ)) → IsKept r (option_map_or (buffer_made r) o (throws r errors.TypeError))
    by None = kept_as_it_was r _ sound
    by (Some bytes) = kept_made r bytes sound
kept_named r values.Undefined sound = kept_as_it_was r _ sound
kept_named r values.Null sound = kept_as_it_was r _ sound
kept_named r (values.Bool b) sound = kept_as_it_was r _ sound
kept_named r (values.Number n) sound = kept_as_it_was r _ sound
kept_named r (values.BigInt n) sound = kept_as_it_was r _ sound
kept_named r (values.Object o) sound = kept_as_it_was r _ sound

-- ---- modules

module _ (nothing : NothingChanges) (functions : FunctionsStay) (modules : ModulesStay) (r : Realm) (sound : IsSound r) where
  -- the realm as it was
  stays : (a : Answer) → CanStart r.store a → IsSafe r.store (record { realm = r; answer = a })
  stays a starts = record { sound = sound; starts = starts; later = nothing r.store }

  safe_made : (m : Module) → is_taken m ≡ true → IsSafe r.store (module_made r m)
  safe_made m taken =
      let later : IsLater r.store (with_module m r.store) = later_more nothing r.store m in
      let named : AreNamed r.heap (with_module m r.store) = named_later functions modules r.heap r.store (with_module m r.store) later sound.named in
      record {
        sound = record {
          code = sound.code;
          named = named_more r.heap (with_module m r.store) (kinds.Module (record { 0 = length r.store.modules })) [] named (fine_module (with_module m r.store) (record { 0 = length r.store.modules }) (loaded_more r.store m taken));
        };
        starts = tt;
        later = later;
      }

  safe_taken : (m : Module) (b : Bool) → is_taken m ≡ b → IsSafe r.store (if b then module_made r m else lacks r)
  safe_taken m true e = safe_made m e
  safe_taken m false e = stays _ tt

  safe_loaded : (l : Loaded) → IsSafe r.store (module_loaded r l)
  safe_loaded (valid m) = safe_taken m (is_taken m) refl
  safe_loaded no_module = stays _ tt
  safe_loaded (left_out place what) = stays _ tt
  safe_loaded (invalid function) = stays _ tt

  safe_bytes : (load : Loading) (bytes : List ℕ) → IsSafe r.store (module_of_bytes load r bytes)
  safe_bytes load bytes = by (nat_le (length bytes) most_module_bytes)
    where
      by : (b : Bool) → IsSafe r.store (if b then module_loaded r (load bytes) else refuses r outside.ModuleSize)
      by true = safe_loaded (load bytes)
      by false = stays _ tt

  safe_buffer : (load : Loading) (n : ℕ) → IsSafe r.store (module_of_buffer load r n)
  safe_buffer load n = by (slice_get r.buffers n)
    where
      by : (o : Option (List ℕ)) → IsSafe r.store (option_map_or (module_of_bytes load r) o (throws r errors.TypeError))
      by None = stays _ tt
      by (Some bytes) = safe_bytes load bytes

  safe_kind : (load : Loading) (k : Option Kind) → IsSafe r.store (module_of_kind load r k)
  safe_kind load None = stays _ tt
  safe_kind load (Some (kinds.Buffer n)) = safe_buffer load n
  safe_kind load (Some (kinds.View buffer from len)) = stays _ tt
  safe_kind load (Some _) = stays _ tt

  pub safe_module : (load : Loading) (v : HostValue) → IsSafe r.store (module_constructed load r v)
  safe_module load (values.Object o) = safe_kind load (kind_at r.heap o)
  safe_module load values.Undefined = stays _ tt
  safe_module load values.Null = stays _ tt
  safe_module load (values.Bool b) = stays _ tt
  safe_module load (values.Number n) = stays _ tt
  safe_module load (values.BigInt n) = stays _ tt
  safe_module load (values.Text t) = stays _ tt

-- ---- after a call

pub buffer_gives : {E : Type 0} (load : Loading) (r : Realm) (n : ℕ) (bytes : List ℕ) (told : Option Loaded) (result : Result Answer E) (new : Realm)
    → slice_get r.buffers n ≡ Some bytes → length bytes ≤ most_module_bytes → IfSome told (λ t. t ≡ load bytes)
    → IfOk result (λ a. (answer : Loaded) → IfSome told (λ t. t ≡ answer) → Gives (module_loaded r answer) a new) → IfOk result (λ a. Gives (module_of_buffer load r n) a new)
buffer_gives load r n bytes told (Ok a) new there few is gives =
    let one : module_of_buffer load r n ≡ module_loaded r (load bytes) =
    ap (λ o. option_map_or (module_of_bytes load r) o (throws r errors.TypeError)) there
    ∙ ap (λ b. if b then module_loaded r (load bytes) else refuses r outside.ModuleSize) (le-leb (length bytes) most_module_bytes few) in
    subst (λ (x : Answered). Gives x a new) (sym one) (gives (load bytes) is)
buffer_gives load r n bytes told (Err e) new there few is gives = tt

pub module_after : {E : Type 0} → NothingChanges → FunctionsStay → ModulesStay → ((bytes : List ℕ) → (answer : Loaded) × Loads bytes answer) → (r : Realm) (v : HostValue) → IsSound r
    → (result : Result Answer E) (new : Realm) → ((load : Loading) → IsLoading load → IfOk result (λ a. Gives (module_constructed load r v) a new))
    → (P : Answer → Realm → Type 0) → ((x : Answered) → IsSafe r.store x → P x.answer x.realm) → IfOk result (λ a. P a new)
module_after nothing functions modules total r v sound result new gives P holds =
    let load : Loading = λ bytes. (total bytes).0 in
    after result (module_constructed load r v) new P (gives load (λ bytes. (total bytes).1)) (holds (module_constructed load r v) (safe_module nothing functions modules r sound load v))
