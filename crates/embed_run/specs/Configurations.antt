-- The configurations of a run.
use Rattle.std.specs.Prelude.{ℕ, ◌+◌, List, [], ◌∷◌, Option, None}
use Rattle.host_nodes.specs.declared.form.Function.{Function}
use Rattle.host_parser.specs.Trees.{Tree}
use Rattle.host_values.specs.Heaps.{fresh_heap, next_object, with_binding, with_object}
use Rattle.host_values.specs.Objects.{HostHeap}
use Rattle.host_values.specs.declared.kinds.Callee.TheVariants as callees
use Rattle.host_values.specs.declared.kinds.Kind.TheVariants as kinds
use Rattle.host_values.specs.declared.values.HostValue.TheVariants as values
use Rattle.host_values.specs.declared.values.ObjId.{ObjId}
use Rattle.host_machine.specs.Frames.{top_frame}
use Rattle.host_machine.specs.Terms.{term_of}
use Rattle.wasm_syntax.specs.declared.types.ValType.{ValType}
use Rattle.wasm_store.specs.Store.{empty_store}
use Rattle.iface_caches.specs.Caches.{no_caches}
use Rattle.iface_objects.specs.declared.file.ModuleFile.{ModuleFile}
use Rattle.iface_objects.specs.declared.realm.Realm.{Realm}
use Rattle.iface_objects.specs.Loading.{Loading}
use Rattle.jspi_stacks.specs.Whole.{Whole, host}
use Rattle.embed_run.specs.declared.end.End.{End}
use Rattle.promise_jobs.specs.Promises.{no_promises}
use Rattle.promise_jobs.specs.Records.{HostPromises}

-- what a run is of: a script, and what bytes are as modules
pub record Program : Type 0 where
  pub script : Tree
  pub load : Loading

-- a computation of a module that waits for a promise: the promise of its promising call, the core term with a hole at the call that
-- suspended it, and the types of the values for which it waits
pub record Captured : Type 0 where
  pub promise : ObjId
  pub term : Whole
  pub results : List ValType

pub record Configuration : Type 0 where
  pub realm : Realm
  pub promises : HostPromises
  pub captured : List Captured
  pub term : Whole
  -- what is left of the budget
  pub left : ℕ
  -- the lines printed so far
  pub lines : List (List ℕ)
  -- the end, once the run has come to it
  pub ended : Option End

-- a function of the script as an object, at its binding (ECMA-262, section 16.1.7, GlobalDeclarationInstantiation)
abbrev pub with_function : ℕ → Function → HostHeap → HostHeap
with_function k f h = with_binding (with_object h (kinds.Function (callees.Script k f.parameters)) []) k (values.Object (next_object h))

-- the functions from one on
abbrev pub with_functions : ℕ → List Function → HostHeap → HostHeap
with_functions k [] h = h
with_functions k (f ∷ fs) h = with_functions (k + 1) fs (with_function k f h)

abbrev pub starting_heap : Tree → HostHeap
starting_heap s = with_functions 0 s.functions (fresh_heap s.globals)

-- before the first statement, with these files and this budget
abbrev pub starting : Tree → List ModuleFile → (budget : ℕ) → Configuration
starting s files budget = record {
  realm = record { heap = starting_heap s; store = empty_store; caches = no_caches; buffers = []; files = files };
  promises = no_promises;
  captured = [];
  term = host top_frame.locals (term_of top_frame);
  left = budget;
  lines = [];
  ended = None;
}
