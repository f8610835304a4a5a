-- The run is at these frames, or at this end.
use Rattle.wasm_store.specs.Store.{type_of, function_at}
use Rattle.wasm_store.specs.Whole.{IsLater, HasSameCode}
use Rattle.wasm_calls.specs.Calls.{call_of, most_rewritings}
use Rattle.wasm_calls.specs.Activations.{Reaches, place_of, Lasts}
use Rattle.wasm_calls.proofs.activations.invoke.Given as goal

abbrev pub invariant-loop-alloc : goal.invariant-loop-alloc
invariant-loop-alloc l = record {
  comes : Reaches (call_of l.fn.store l.fn.func l.args l.fn.left) (place_of l.ending l.store l.activations);
  lasts : Lasts (type_of (function_at l.fn.store l.fn.func)).results l.ending l.store l.activations;
  later : IsLater l.fn.store l.store;
  code : HasSameCode l.fn.store l.store;
}

abbrev pub decreases-loop-alloc : goal.decreases-loop-alloc
decreases-loop-alloc l = most_rewritings (place_of l.ending l.store l.activations)
