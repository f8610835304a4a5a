-- What the calls of the interface come to: an answer, and the realm after it.
use Rattle.std.specs.Prelude.{◌≡◌, [], None}
use Rattle.embed_base.specs.declared.outside.OutsideKind.{OutsideKind}
use Rattle.embed_base.specs.declared.outside.OutsideKind.TheVariants as outside
use Rattle.host_values.specs.Heaps.{next_object, with_object}
use Rattle.host_values.specs.Objects.{HostHeap}
use Rattle.host_values.specs.declared.kinds.Kind.{Kind}
use Rattle.host_values.specs.declared.values.ErrorClass.{ErrorClass}
use Rattle.host_values.specs.declared.values.HostValue.{HostValue}
use Rattle.host_values.specs.declared.values.HostValue.TheVariants as values
use Rattle.wasm_store.specs.Store.{Store}
use Rattle.iface_objects.specs.declared.realm.Realm.{Realm}
use Rattle.iface_objects.specs.declared.answer.Answer.{Answer}
use Rattle.iface_objects.specs.declared.answer.Answer.TheVariants as answers

pub record Answered : Type 0 where
  pub realm : Realm
  pub answer : Answer

abbrev pub with_heap : HostHeap → Realm → Realm
with_heap h r = record r { heap = h }

abbrev pub with_store : Store → Realm → Realm
with_store s r = record r { store = s }

-- it gives this value
abbrev pub gives : Realm → HostValue → Answered
gives r v = record { realm = r; answer = answers.Value v }

-- an exception of this class is thrown
abbrev pub throws : Realm → ErrorClass → Answered
throws r class = record { realm = r; answer = answers.Throw class }

-- the run ends with a named refusal
abbrev pub refuses : Realm → OutsideKind → Answered
refuses r kind = record { realm = r; answer = answers.Outside kind None }

-- what isn't built yet
abbrev pub lacks : Realm → Answered
lacks r = refuses r outside.NotYet

-- a new object of this kind
abbrev pub makes : Realm → Kind → Answered
makes r kind = gives (with_heap (with_object r.heap kind []) r) (values.Object (next_object r.heap))

-- a call of the code gives this, and leaves the realm so
abbrev pub Gives : Answered → Answer → Realm → Type 0
Gives a answer r = (answer ≡ a.answer) × (r ≡ a.realm)
