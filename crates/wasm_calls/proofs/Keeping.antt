-- An instruction keeps the modules, instances and functions of the store, and leaves at most one form more.
use Rattle.std.proofs.Common.{◌≡◌, ℕ, zero, suc, ◌≤◌, List, [], ◌∷◌, refl, arith, Option, Some, None, Bool, true, false, cond}
use Rattle.std.specs.Prelude.{Result, Ok, Err, slice_get}
use Rattle.wasm_syntax.specs.declared.types.FuncType.{FuncType}
use Rattle.wasm_syntax.specs.declared.trap.Trap.{Trap}
use Rattle.wasm_syntax.specs.declared.value.Value.{Value}
use Rattle.wasm_syntax.specs.declared.value.Value.TheVariants as w
use Rattle.wasm_syntax.specs.declared.addresses.FuncAddr.{FuncAddr}
use Rattle.wasm_syntax.specs.declared.addresses.TableAddr.{TableAddr}
use Rattle.wasm_syntax.specs.declared.addresses.MemAddr.{MemAddr}
use Rattle.wasm_syntax.specs.declared.numbers.NumType.{NumType}
use Rattle.wasm_syntax.specs.declared.numbers.NumType.TheVariants as n
use Rattle.wasm_syntax.specs.declared.numbers.Num.{Num}
use Rattle.wasm_syntax.specs.declared.sorts.Simple.{Simple}
use Rattle.wasm_syntax.specs.declared.sorts.Simple.TheVariants as p
use Rattle.wasm_syntax.specs.declared.sorts.Nesting.{Nesting}
use Rattle.wasm_syntax.specs.declared.sorts.Sort.{Sort}
use Rattle.wasm_syntax.specs.declared.sorts.Sort.TheVariants as sort
use Rattle.wasm_syntax.specs.declared.instructions.Instr.{Instr}
use Rattle.wasm_syntax.specs.declared.instructions.BlockId.{BlockId}
use Rattle.wasm_syntax.specs.Sorts.{sort_of, labels_of}
use Rattle.wasm_syntax.specs.ValueTypes.{block_type}
use Rattle.wasm_syntax.specs.NumberTypes.{source_of}
use Rattle.wasm_store.specs.declared.instances.Instance.{Instance}
use Rattle.wasm_store.specs.Store.{Store, instance_at, table_at, type_of, function_at}
use Rattle.wasm_machine.specs.Terms.{FrameState, Kind, Term}
use Rattle.wasm_machine.specs.Performing.{Performed, performs, traps, lacks, perform, perform_drop, perform_select, perform_is_null, take_value, take_i32, take_number, find, check, result, read_entry, grow_by, grow_memory_by, is_null}
use Rattle.wasm_machine.specs.Reduction.{Act, goes, branches, returns, cannot, module_of, topmost, of_performed, opened, begun, nested, branch_if, branch_table, invoked, call, call_index, same_func_type, call_entry, call_through, act_by, act}
use Rattle.wasm_calls.specs.Calls.{weight}
use Rattle.wasm_store.specs.Whole.{HasSameCode}

pub same : (s : Store) → HasSameCode s s
same s = record { modules = refl; instances = refl; functions = refl }

abbrev Kept : Store → Performed → Type 0
Kept s (performs r F vs) = HasSameCode s r
Kept s (traps cause) = Unit {0}
Kept s lacks = Unit {0}

record Keeps (s : Store) (d : Performed) : Type 0 where
  kept : Kept s d

module _ (s : Store) where
  keeps_value : (vs : List Value) (f : Value → List Value → Performed) → ((v : Value) (us : List Value) → Keeps s (f v us)) → Keeps s (take_value vs f)
  keeps_value [] f h = record { kept = tt }
  keeps_value (v ∷ vs) f h = h v vs

  keeps_i32 : (vs : List Value) (f : ℕ → List Value → Performed) → ((k : ℕ) (us : List Value) → Keeps s (f k us)) → Keeps s (take_i32 vs f)
  keeps_i32 (w.I32 k ∷ vs) f h = h k vs
  keeps_i32 _ f h = record { kept = tt }

  keeps_number : (t : NumType) (vs : List Value) (f : Num → List Value → Performed) → ((a : Num) (us : List Value) → Keeps s (f a us)) → Keeps s (take_number t vs f)
  keeps_number n.I32 (w.I32 k ∷ vs) f h = h _ vs
  keeps_number n.I64 (w.I64 k ∷ vs) f h = h _ vs
  keeps_number _ _ f h = record { kept = tt }

  keeps_find : {A : Type 0} (o : Option A) (f : A → Performed) → ((a : A) → Keeps s (f a)) → Keeps s (find o f)
  keeps_find None f h = record { kept = tt }
  keeps_find (Some a) f h = h a

  keeps_check : (t : Trap) (b : Bool) (q : Performed) → Keeps s q → Keeps s (check t b q)
  keeps_check t true q h = h
  keeps_check t false q h = record { kept = tt }

  keeps_result : (F vs : List Value) (r : Result Num Trap) → Keeps s (result s F vs r)
  keeps_result F vs (Ok c) = record { kept = same s }
  keeps_result F vs (Err t) = record { kept = tt }

  keeps_entry : (F vs : List Value) (o : Option Value) → Keeps s (read_entry s F vs o)
  keeps_entry F vs None = record { kept = tt }
  keeps_entry F vs (Some v) = record { kept = same s }

  written : (r : Store) (F vs : List Value) → r.modules ≡ s.modules → r.instances ≡ s.instances → r.functions ≡ s.functions → Keeps s (performs r F vs)
  written r F vs a b c = record { kept = record { modules = a; instances = b; functions = c } }

  goes_on : (F vs : List Value) → Keeps s (performs s F vs)
  goes_on F vs = record { kept = same s }

  keeps_grow : (b : Bool) (F vs : List Value) (a : TableAddr) (k : ℕ) (init : Value) → Keeps s (grow_by b s F vs a k init)
  keeps_grow true F vs a k init = written _ _ _ refl refl refl
  keeps_grow false F vs a k init = goes_on _ _

  keeps_grow_memory : (b : Bool) (F vs : List Value) (a : MemAddr) (k : ℕ) → Keeps s (grow_memory_by b s F vs a k)
  keeps_grow_memory true F vs a k = written _ _ _ refl refl refl
  keeps_grow_memory false F vs a k = goes_on _ _

  keeps_simple : (i : Instance) (F vs : List Value) (k : Simple) → Keeps s (perform s i F vs k)
  keeps_simple i F vs p.Nop = goes_on _ _
  keeps_simple i F vs (p.Const c) = goes_on _ _
  keeps_simple i F vs (p.Unary t op) = keeps_number t vs _ (λ a us. goes_on _ _)
  keeps_simple i F vs (p.Binary t op) = keeps_number t vs _ (λ b us. keeps_number t us _ (λ a ts. keeps_result F ts _))
  keeps_simple i F vs (p.Test t) = keeps_number t vs _ (λ a us. goes_on _ _)
  keeps_simple i F vs (p.Compare t op) = keeps_number t vs _ (λ b us. keeps_number t us _ (λ a ts. goes_on _ _))
  keeps_simple i F vs (p.Convert op) = keeps_number (source_of op) vs _ (λ a us. goes_on _ _)
  keeps_simple i F vs (p.RefNull t) = goes_on _ _
  keeps_simple i F vs (p.RefFunc y) = keeps_find (slice_get i.funcs y) _ (λ a. goes_on _ _)
  keeps_simple i F vs (p.LocalGet y) = keeps_find (slice_get F y) _ (λ v. goes_on _ _)
  keeps_simple i F vs (p.LocalSet y) = keeps_find (slice_get F y) _ (λ old. keeps_value vs _ (λ v us. goes_on _ _))
  keeps_simple i F vs (p.LocalTee y) = keeps_find (slice_get F y) _ (λ old. keeps_value vs _ (λ v us. goes_on _ _))
  keeps_simple i F vs (p.GlobalGet y) = keeps_find (slice_get i.globals y) _ (λ a. goes_on _ _)
  keeps_simple i F vs (p.GlobalSet y) = keeps_find (slice_get i.globals y) _ (λ a. keeps_value vs _ (λ v us. written _ _ _ refl refl refl))
  keeps_simple i F vs (p.TableGet y) = keeps_find (slice_get i.tables y) _ (λ a. keeps_i32 vs _ (λ k us. keeps_entry F us _))
  keeps_simple i F vs (p.TableSet y) = keeps_find (slice_get i.tables y) _ (λ a. keeps_value vs _ (λ v us. keeps_i32 us _ (λ k ts. keeps_check _ _ _ (written _ _ _ refl refl refl))))
  keeps_simple i F vs (p.TableSize y) = keeps_find (slice_get i.tables y) _ (λ a. goes_on _ _)
  keeps_simple i F vs (p.TableGrow y) = keeps_find (slice_get i.tables y) _ (λ a. keeps_i32 vs _ (λ k us. keeps_value us _ (λ init ts. keeps_grow _ F ts a k init)))
  keeps_simple i F vs (p.TableFill y) = keeps_find (slice_get i.tables y) _ (λ a. keeps_i32 vs _ (λ k us. keeps_value us _ (λ v ts. keeps_i32 ts _ (λ at rest. keeps_check _ _ _ (written _ _ _ refl refl refl)))))
  keeps_simple i F vs (p.TableCopy to from) = keeps_find (slice_get i.tables to) _ (λ a. keeps_find (slice_get i.tables from) _ (λ b. keeps_i32 vs _ (λ k us. keeps_i32 us _ (λ source ts. keeps_i32 ts _ (λ at rest. keeps_check _ _ _ (written _ _ _ refl refl refl))))))
  keeps_simple i F vs (p.TableInit y z) = keeps_find (slice_get i.tables z) _ (λ a. keeps_find (slice_get i.elems y) _ (λ e. keeps_i32 vs _ (λ k us. keeps_i32 us _ (λ source ts. keeps_i32 ts _ (λ at rest. keeps_check _ _ _ (written _ _ _ refl refl refl))))))
  keeps_simple i F vs (p.ElemDrop y) = keeps_find (slice_get i.elems y) _ (λ e. written _ _ _ refl refl refl)
  keeps_simple i F vs (p.Load t width extension at) = keeps_find (slice_get i.mems 0) _ (λ a. keeps_i32 vs _ (λ k us. keeps_check _ _ _ (goes_on _ _)))
  keeps_simple i F vs (p.Store t width at) = keeps_find (slice_get i.mems 0) _ (λ a. keeps_number t vs _ (λ c us. keeps_i32 us _ (λ k ts. keeps_check _ _ _ (written _ _ _ refl refl refl))))
  keeps_simple i F vs p.MemorySize = keeps_find (slice_get i.mems 0) _ (λ a. goes_on _ _)
  keeps_simple i F vs p.MemoryGrow = keeps_find (slice_get i.mems 0) _ (λ a. keeps_i32 vs _ (λ k us. keeps_grow_memory _ F us a k))
  keeps_simple i F vs p.MemoryFill = keeps_find (slice_get i.mems 0) _ (λ a. keeps_i32 vs _ (λ k us. keeps_i32 us _ (λ byte ts. keeps_i32 ts _ (λ at rest. keeps_check _ _ _ (written _ _ _ refl refl refl)))))
  keeps_simple i F vs p.MemoryCopy = keeps_find (slice_get i.mems 0) _ (λ a. keeps_i32 vs _ (λ k us. keeps_i32 us _ (λ source ts. keeps_i32 ts _ (λ at rest. keeps_check _ _ _ (written _ _ _ refl refl refl)))))
  keeps_simple i F vs (p.MemoryInit y) = keeps_find (slice_get i.mems 0) _ (λ a. keeps_find (slice_get i.datas y) _ (λ d. keeps_i32 vs _ (λ k us. keeps_i32 us _ (λ source ts. keeps_i32 ts _ (λ at rest. keeps_check _ _ _ (written _ _ _ refl refl refl))))))
  keeps_simple i F vs (p.DataDrop y) = keeps_find (slice_get i.datas y) _ (λ d. written _ _ _ refl refl refl)

  keeps_drop : (F vs : List Value) → Keeps s (perform_drop s F vs)
  keeps_drop F vs = keeps_value vs _ (λ v us. goes_on _ _)

  keeps_select : (F vs : List Value) → Keeps s (perform_select s F vs)
  keeps_select F vs = keeps_i32 vs _ (λ k us. keeps_value us _ (λ second ts. keeps_value ts _ (λ first rest. goes_on _ _)))

  keeps_is_null : (F vs : List Value) → Keeps s (perform_is_null s F vs)
  keeps_is_null F vs = keeps_value vs _ (λ v us. keeps_find (is_null v) _ (λ test. goes_on _ _))

  -- The form that an instruction leaves.

  abbrev pub IsGentle : Act → Type 0
  IsGentle (goes r F vs form) = HasSameCode s r × (weight form ≤ 3)
  IsGentle (branches l vs) = Unit {0}
  IsGentle (returns vs) = Unit {0}
  IsGentle cannot = Unit {0}

  gentle_performed : (F : FrameState) (vs : List Value) (d : Performed) → Keeps s d → IsGentle (of_performed s F vs d)
  gentle_performed F vs (performs r G ws) h = (h.kept, omega arith)
  gentle_performed F vs (traps cause) h = (same s, omega arith)
  gentle_performed F vs lacks h = tt

  gentle_opened : (F : FrameState) (below : List Value) (k : Kind) (code : List Instr) (o : Option (List Value)) → IsGentle (opened s F below k code o)
  gentle_opened F below k code None = tt
  gentle_opened F below k code (Some ws) = (same s, omega arith)

  gentle_begun : (F : FrameState) (i : Instr) (again : Bool) (id : BlockId) (vs : List Value) (o : Option FuncType) → IsGentle (begun s F i again id vs o)
  gentle_begun F i again id vs None = tt
  gentle_begun F i again id vs (Some g) = gentle_opened F _ _ _ (topmost _ vs)

  gentle_nested : (F : FrameState) (i : Instr) (k : Nesting) (o : Option BlockId) (vs : List Value) → IsGentle (nested s F i k o vs)
  gentle_nested F i k None vs = gentle_begun F i k.again k.body vs (block_type (module_of s F) k.ty)
  gentle_nested F i k (Some other) (w.I32 zero ∷ vs) = gentle_begun F i k.again other vs (block_type (module_of s F) k.ty)
  gentle_nested F i k (Some other) (w.I32 (suc j) ∷ vs) = gentle_begun F i k.again k.body vs (block_type (module_of s F) k.ty)
  gentle_nested F i k (Some other) _ = tt

  gentle_branch_if : (F : FrameState) (l : ℕ) (vs : List Value) → IsGentle (branch_if s F l vs)
  gentle_branch_if F l (w.I32 zero ∷ vs) = (same s, omega arith)
  gentle_branch_if F l (w.I32 (suc k) ∷ vs) = tt
  gentle_branch_if F l _ = tt

  gentle_branch_table : (ls : List ℕ) (l : ℕ) (vs : List Value) → IsGentle (branch_table ls l vs)
  gentle_branch_table ls l (w.I32 k ∷ vs) = tt
  gentle_branch_table ls l _ = tt

  gentle_invoked : (F : FrameState) (a : FuncAddr) (below : List Value) (o : Option (List Value)) → IsGentle (invoked s F a below o)
  gentle_invoked F a below None = tt
  gentle_invoked F a below (Some ws) = (same s, omega arith)

  gentle_call : (F : FrameState) (a : FuncAddr) (vs : List Value) → IsGentle (call s F a vs)
  gentle_call F a vs = gentle_invoked F a _ (topmost _ vs)

  gentle_call_index : (F : FrameState) (o : Option FuncAddr) (vs : List Value) → IsGentle (call_index s F o vs)
  gentle_call_index F None vs = tt
  gentle_call_index F (Some a) vs = gentle_call F a vs

  gentle_typed : (F : FrameState) (a : FuncAddr) (vs : List Value) (b : Bool) (cause : Trap) → IsGentle (cond b (call s F a vs) (goes s F.locals vs (Term.trap cause)))
  gentle_typed F a vs true cause = gentle_call F a vs
  gentle_typed F a vs false cause = (same s, omega arith)

  gentle_entry : (F : FrameState) (g : FuncType) (vs : List Value) (o : Option Value) → IsGentle (call_entry s F g vs o)
  gentle_entry F g vs None = (same s, omega arith)
  gentle_entry F g vs (Some w.FuncNull) = (same s, omega arith)
  gentle_entry F g vs (Some (w.Func a)) = gentle_typed F a vs (same_func_type g (type_of (function_at s a))) _
  gentle_entry F g vs (Some _) = tt

  gentle_through : (F : FrameState) (o : Option FuncType) (q : Option TableAddr) (vs : List Value) → IsGentle (call_through s F o q vs)
  gentle_through F (Some g) (Some a) (w.I32 k ∷ vs) = gentle_entry F g vs (slice_get (table_at s a).entries k)
  gentle_through F _ _ _ = tt

  gentle_by : (F : FrameState) (i : Instr) (k : Sort) (vs : List Value) → IsGentle (act_by s F i k vs)
  gentle_by F i (sort.Simple simple) vs = gentle_performed F vs _ (keeps_simple (instance_at s F.instance) F.locals vs simple)
  gentle_by F i sort.Drop vs = gentle_performed F vs _ (keeps_drop F.locals vs)
  gentle_by F i sort.Select vs = gentle_performed F vs _ (keeps_select F.locals vs)
  gentle_by F i sort.SelectTyped vs = gentle_performed F vs _ (keeps_select F.locals vs)
  gentle_by F i sort.RefIsNull vs = gentle_performed F vs _ (keeps_is_null F.locals vs)
  gentle_by F i sort.Unreachable vs = (same s, omega arith)
  gentle_by F i (sort.Nested k) vs = gentle_nested F i k k.other vs
  gentle_by F i (sort.Br l) vs = tt
  gentle_by F i (sort.BrIf l) vs = gentle_branch_if F l vs
  gentle_by F i (sort.BrTable l) vs = gentle_branch_table (labels_of i) l vs
  gentle_by F i sort.Return vs = tt
  gentle_by F i (sort.Call x) vs = gentle_call_index F (slice_get (instance_at s F.instance).funcs x) vs
  gentle_by F i (sort.CallIndirect x y) vs = gentle_through F (slice_get (module_of s F).types x) (slice_get (instance_at s F.instance).tables y) vs

  pub gentle : (F : FrameState) (i : Instr) (vs : List Value) → IsGentle (act s F i vs)
  gentle F i vs = gentle_by F i (sort_of i) vs
