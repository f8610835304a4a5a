-- A frame that fits goes on fitting.
use Rattle.std.proofs.Common.{◌≡◌, ◌<◌, List, [], ◌∷◌, ◌++◌, length, refl, sym, ap, ◌∙◌, subst, map, reverse}
use Rattle.std.proofs.lemmas.List.Elements.{All-weaker}
use Rattle.wasm_syntax.specs.declared.types.ValType.{ValType}
use Rattle.wasm_syntax.specs.declared.value.Value.{Value}
use Rattle.wasm_syntax.specs.declared.addresses.ModuleAddr.{ModuleAddr}
use Rattle.wasm_syntax.specs.declared.instructions.Instr.{Instr}
use Rattle.wasm_syntax.specs.declared.module.Module.{Module}
use Rattle.wasm_syntax.specs.declared.sorts.Simple.{Simple}
use Rattle.wasm_syntax.specs.declared.sorts.Sort.TheVariants as sort
use Rattle.wasm_syntax.specs.Sorts.{sort_of}
use Rattle.wasm_store.specs.declared.instances.Instance.{Instance}
use Rattle.wasm_store.specs.Store.{Store, instance_at, module_at}
use Rattle.wasm_store.specs.Whole.{value_type, IsLive, AreLive, HasLists, IsBlank, IsLater, IsWhole}
use Rattle.wasm_store.specs.Laws.{ValuesStayTyped, ModulesStay, InstancesStay, ListsStay}
use Rattle.wasm_machine.specs.View.{View, Open, with_values, with_locals, rest_of, advanced, module_for}
use Rattle.wasm_machine.specs.Performing.{Performed, lacks, perform}
use Rattle.wasm_machine.specs.Steps.{Performs}
use Rattle.wasm_machine.specs.Fits.{standing, IsTypedAt, AreLiveIn, FitsAt, Fits, Waits, FitsLater, CodeStays}
use Rattle.wasm_machine.proofs.PerformLaws.{IsFine, Gone, fine_simple}
use Rattle.wasm_machine.proofs.Going.{NextOf, next_at, typed_goes, advanced_typed, IsAt, simple_at}

-- Later stores.

live_later : ValuesStayTyped → (s t : Store) → IsLater s t → (u : Value) → IsLive s u → IsLive t u
live_later stay s t l u h = (stay s t u (value_type u) l (refl, h)).1

lives_later : ValuesStayTyped → (s t : Store) → IsLater s t → (us : List Value) → AreLive s us → AreLive t us
lives_later stay s t l us h = All-weaker (IsLive s) (IsLive t) (live_later stay s t l) us h

labels_later : ValuesStayTyped → (s t : Store) → IsLater s t → (os : List Open) → AreLiveIn s os → AreLiveIn t os
labels_later stay s t l [] h = tt
labels_later stay s t l (o ∷ os) h = (lives_later stay s t l o.values h.0, labels_later stay s t l os h.1)

-- the module of a frame is there
pub module_live : {R : List ValType} → (s : Store) (is : List Instr) (ts : List ValType) (v : View) → FitsAt s R is ts v → v.module.0 < length s.modules
module_live {R} s is ts v h = subst (λ (a : ModuleAddr). a.0 < length s.modules) h.module_is h.lists.live

pub code_stays : ModulesStay → CodeStays
code_stays stay s t R v is ts l h = (stay s t v.module l (module_live s is ts v h)).1

pub fits_later : ValuesStayTyped → ModulesStay → InstancesStay → ListsStay → FitsLater
fits_later values modules instances lists s t R is ts v l h =
    let i = instances s t v.instance l h.live in
    let same : instance_at t v.instance ≡ instance_at s v.instance = i.2 h.set in
    let code : module_for t v ≡ module_for s v = code_stays modules s t R v is ts l h in
    record {
      live = i.0;
      module_is = i.1 ∙ h.module_is;
      set = subst (λ (j : Instance). IsBlank j → ⊥) (sym same) h.set;
      lists = subst (λ (j : Instance). HasLists t j) (sym same) (lists s t (instance_at s v.instance) l h.lists);
      typed = subst (λ (m : Module). IsTypedAt m R is ts v) (sym code) h.typed;
      locals = lives_later values s t l v.locals h.locals;
      operands = labels_later values s t l (v.top ∷ v.outer) h.operands;
    }

-- with the code that is left in the later store
pub fits_there : {R : List ValType} → FitsLater → CodeStays → (s t : Store) (v : View) → IsLater s t → Fits s R v → Fits t R v
fits_there {R} later stays s t v l h =
    let g = later s t R (rest_of (module_for s v) v) [] v l h in
    subst (λ (m : Module). FitsAt t R (rest_of m v) [] v) (sym (stays s t R v (rest_of (module_for s v) v) [] l h)) g

pub waits_there : FitsLater → CodeStays → {R : List ValType} → (s t : Store) (results : List ValType) (v : View) → IsLater s t → Waits s R results v → Waits t R results v
waits_there later stays {R} s t results v l h =
    let g = later s t R (rest_of (module_for s v) v) (reverse results) v l h in
    subst (λ (m : Module). FitsAt t R (rest_of m v) (reverse results) v) (sym (stays s t R v (rest_of (module_for s v) v) (reverse results) l h)) g

-- The frame has gone past an instruction, which is at work.

advanced_fits : {R : List ValType} → (s : Store) (is : List Instr) (v : View) → FitsAt s R is [] v → FitsAt s R is [] (advanced v)
advanced_fits {R} s is v h = record { live = h.live; module_is = h.module_is; set = h.set; lists = h.lists; typed = advanced_typed (module_for s v) is [] v h.typed; locals = h.locals; operands = h.operands }

pub fetched : {R : List ValType} → (s : Store) (i : Instr) (v u : View) → Fits s R v → rest_of (module_for s v) v ≡ i ∷ rest_of (module_for s v) u → u ≡ advanced v → FitsAt s R (i ∷ rest_of (module_for s u) u) [] u
fetched {R} s i v u h e f =
    let a : FitsAt s R (i ∷ rest_of (module_for s v) u) [] v = subst (λ is. FitsAt s R is [] v) e h in
    let b : FitsAt s R (i ∷ rest_of (module_for s v) u) [] (advanced v) = advanced_fits s (i ∷ rest_of (module_for s v) u) v a in
    let c : FitsAt s R (i ∷ rest_of (module_for s v) u) [] u = subst (FitsAt s R (i ∷ rest_of (module_for s v) u) []) (sym f) b in
    subst (λ (x : View). FitsAt s R (i ∷ rest_of (module_for s x) u) [] u) (sym f) c

-- Instructions that go on in their list.

-- with other locals and operands, of types that go on
goes_fits : {R : List ValType} → (s : Store) (i : Instr) (is : List Instr) (v : View) (G ws : List Value) → (h : FitsAt s R (i ∷ is) [] v) → (n : NextOf (module_for s v) i is v h.typed) → n.next ≡ standing (map value_type ws) → map value_type G ≡ map value_type v.locals → AreLive s G → AreLive s ws
    → FitsAt s R is [] (with_locals G (with_values ws v))
goes_fits {R} s i is v G ws h n e l locals lives = record {
  live = h.live;
  module_is = h.module_is;
  set = h.set;
  lists = h.lists;
  typed = typed_goes (module_for s v) i is v G ws h.typed n e l;
  locals = locals;
  operands = (lives, h.operands.1);
}

-- what an instruction comes to there
pub gone_fits : {R : List ValType} → (s r : Store) (i : Instr) (is : List Instr) (v u : View) (d : Performed) (ts : List ValType) → (h : FitsAt s R (i ∷ is) [] v) → (n : NextOf (module_for s v) i is v h.typed) → n.next ≡ standing ts → IsFine s v.locals ts d → Performs d r v u → FitsAt s R is [] u
gone_fits {R} s r i is v u d ts h n e fine q =
    let g : Gone s v.locals ts u.locals u.top.values = subst (IsFine s v.locals ts) q.acts fine in
    subst (FitsAt s R is []) (sym q.rest) (goes_fits s i is v u.locals u.top.values h n (e ∙ ap standing (sym g.types)) g.locals g.live_locals g.live)

-- a simple instruction at work in a frame that fits
pub record IsSimple (s : Store) (R : List ValType) (is : List Instr) (v : View) (k : Simple) : Type 0 where
  pub instr : Instr
  pub sort_is : sort_of instr ≡ sort.Simple k
  pub fits : FitsAt s R (instr ∷ is) [] v

abbrev pub performed : Store → View → Simple → Performed
performed s v k = perform s (instance_at s v.instance) v.locals v.top.values k

module_same : {R : List ValType} → (s : Store) (is : List Instr) (ts : List ValType) (v : View) → FitsAt s R is ts v → module_for s v ≡ module_at s (instance_at s v.instance).module
module_same {R} s is ts v h = ap (module_at s) (sym h.module_is)

at_instance : {R : List ValType} → (s : Store) (is : List Instr) (v : View) (k : Simple) (h : IsSimple s R is v k) → IsAt (module_at s (instance_at s v.instance).module) (map value_type v.locals) k v.top.values (next_at (module_for s v) h.instr is v h.fits.typed).next
at_instance {R} s is v k h =
    let n = next_at (module_for s v) h.instr is v h.fits.typed in
    subst (λ (m : Module). IsAt m (map value_type v.locals) k v.top.values n.next) (module_same s (h.instr ∷ is) [] v h.fits) (simple_at (module_for s v) h.instr is v k h.fits.typed h.sort_is n)

simple_fine : {R : List ValType} → (s : Store) (is : List Instr) (v : View) (k : Simple) → IsWhole s → (h : IsSimple s R is v k) → IsFine s v.locals ((at_instance s is v k h).type.gives ++ (at_instance s is v k h).others) (performed s v k)
simple_fine {R} s is v k whole h =
    let a = at_instance s is v k h in
    fine_simple s (instance_at s v.instance) v.locals v.top.values a.others k a.type whole h.fits.lists h.fits.locals h.fits.operands.0 a.type_is a.values

-- the frame that it leaves fits
pub simple_fits : {R : List ValType} → (s r : Store) (is : List Instr) (v u : View) (k : Simple) → IsWhole s → IsSimple s R is v k → Performs (performed s v k) r v u → FitsAt s R is [] u
simple_fits {R} s r is v u k whole h q =
    let a = at_instance s is v k h in
    gone_fits s r h.instr is v u (performed s v k) (a.type.gives ++ a.others) h.fits (next_at (module_for s v) h.instr is v h.fits.typed) a.next_is (simple_fine s is v k whole h) q

-- it is never without a rule
pub simple_goes : {R : List ValType} → (s : Store) (is : List Instr) (v : View) (k : Simple) → IsWhole s → IsSimple s R is v k → performed s v k ≡ lacks → ⊥
simple_goes {R} s is v k whole h e =
    let a = at_instance s is v k h in
    subst (IsFine s v.locals (a.type.gives ++ a.others)) e (simple_fine s is v k whole h)
