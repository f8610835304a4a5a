-- A store after one of its tables was written by a call that may refuse.
use Rattle.std.proofs.Common.{◌≡◌, ℕ, ◌+◌, ◌<◌, ◌≤◌, List, length, refl, sym, ap, ◌∙◌, subst, arith}
use Rattle.std.specs.Prelude.{true, false, Bool, Option, Some, None, Result, Ok, Err, IsTrue, IfOk, OnErr, replicate, slice_index_or, slice_set}
use Rattle.std.specs.Bool.{OnTrue, OnFalse}
use Rattle.std.proofs.lemmas.List.{get_or_read, set-get_or, set-set, length-set, get_or-set_other, get_or_default}
use Rattle.wasm_syntax.specs.declared.types.ValType.{ValType}
use Rattle.wasm_syntax.specs.declared.value.Value.{Value}
use Rattle.wasm_syntax.specs.declared.addresses.TableAddr.{TableAddr}
use Rattle.wasm_syntax.specs.declared.addresses.GlobalAddr.{GlobalAddr}
use Rattle.wasm_store.specs.declared.instances.GlobalInst.{GlobalInst}
use Rattle.wasm_store.specs.Store as st
use Rattle.wasm_store.specs.Store.{Store, TableInst, table_at, global_at, with_entries, grown, run, replaced}
use Rattle.wasm_store.specs.Growth.{MayGrow, Grows}
use Rattle.wasm_store.specs.Whole.{IsWhole, IsLater, HasType, AreTyped}
use Rattle.wasm_store.proofs.Later as later
use Rattle.wasm_store.proofs.Keeps.{whole_global}
use Rattle.wasm_store.proofs.TableLaws.{Changed, set_changed, filled_changed, copied_changed, grown_changed}

-- the store as the code has it, s, and as contracts see it, now
pub record After (s now : Store) (a : TableAddr) (u : TableInst) : Type 0 where
  pub whole : IsWhole (st.with_table a u s)
  pub later : IsLater now (st.with_table a u s)

after : (s now : Store) (a : TableAddr) (u v : TableInst) → s ≡ now → u ≡ v → Changed s a v → After s now a u
after s now a u v view e h = record {
  whole = subst (λ (t : TableInst). IsWhole (st.with_table a t s)) (sym e) h.whole;
  later = subst (λ (t : TableInst). IsLater now (st.with_table a t s)) (sym e) (subst (λ (n : Store). IsLater n (st.with_table a v s)) view h.later);
}

same_store : (s : Store) (a : TableAddr) → st.with_table a (table_at s a) s ≡ s
same_store s a = ap (λ (ts : List TableInst). record s { tables = ts }) (set-get_or s.tables a.0 st.no_table)

unchanged : (s now : Store) (a : TableAddr) (u : TableInst) → s ≡ now → IsWhole s → u ≡ table_at s a → After s now a u
unchanged s now a u view whole e =
    let same : st.with_table a u s ≡ s = ap (λ (t : TableInst). st.with_table a t s) e ∙ same_store s a in
    record { whole = subst IsWhole (sym same) whole; later = later.later_refused now (st.with_table a u s) (same ∙ view) }

module _ (s now : Store) (a : TableAddr) (t u : TableInst) (view : s ≡ now) (whole : IsWhole s) (live : a.0 < length now.tables) (read : t ≡ slice_index_or s.tables a.0 t) where
  live_here : a.0 < length s.tables
  live_here = subst (λ (n : Store). a.0 < length n.tables) (sym view) live

  is_here : t ≡ table_at s a
  is_here = get_or_read s.tables a.0 t live_here read st.no_table

  kept : u ≡ t → After s now a u
  kept e = unchanged s now a u view whole (e ∙ is_here)

  pub set_after : (i : ℕ) (v : Value) (r : Bool) → HasType now v (table_at now a).elem → OnTrue r (u ≡ with_entries (slice_set t.entries i v) t) → OnFalse r (u ≡ t) → After s now a u
  set_after i v true typed written refused =
      after s now a u (with_entries (slice_set (table_at s a).entries i v) (table_at s a)) view
      (written ∙ ap (λ (x : TableInst). with_entries (slice_set x.entries i v) x) is_here)
      (set_changed s a i v whole live_here (subst (λ (n : Store). HasType n v (table_at n a).elem) (sym view) typed))
  set_after i v false typed written refused = kept refused

  pub fill_after : (at n : ℕ) (v : Value) (r : Bool) → HasType now v (table_at now a).elem → (IsTrue r → at + n ≤ length t.entries) → OnTrue r (u ≡ replaced at n (replicate n v) t) → OnFalse r (u ≡ t) → After s now a u
  fill_after at n v true typed within written refused =
      after s now a u (replaced at n (replicate n v) (table_at s a)) view
      (written ∙ ap (replaced at n (replicate n v)) is_here)
      (filled_changed s a at n v whole live_here
      (subst (λ (x : TableInst). at + n ≤ length x.entries) is_here (within refl))
      (subst (λ (m : Store). HasType m v (table_at m a).elem) (sym view) typed))
  fill_after at n v false typed within written refused = kept refused

  pub write_after : (to from n : ℕ) (vs : List Value) (r : Bool) → AreTyped s vs (table_at s a).elem → (IsTrue r → (to + n ≤ length t.entries) × (from + n ≤ length vs)) → OnTrue r (u ≡ replaced to n (run vs from n) t) → OnFalse r (u ≡ t) → After s now a u
  write_after to from n vs true typed within written refused =
      after s now a u (replaced to n (run vs from n) (table_at s a)) view
      (written ∙ ap (replaced to n (run vs from n)) is_here)
      (copied_changed s a to from n vs whole live_here
      (subst (λ (x : TableInst). to + n ≤ length x.entries) is_here (within refl).0) (within refl).1 typed)
  write_after to from n vs false typed within written refused = kept refused

  pub grow_after : {E : Type 0} (n : ℕ) (v : Value) (r : Result (Option ℕ) E) → HasType now v (table_at now a).elem → IfOk r (Grows n v t u) → OnErr r (u ≡ t) → After s now a u
  grow_after n v (Ok (Some size)) typed did refused =
      after s now a u (grown n v (table_at s a)) view
      (did.2 ∙ ap (grown n v) is_here)
      (grown_changed s a n v whole live_here
      (subst (λ (x : TableInst). MayGrow x n) is_here did.1)
      (subst (λ (m : Store). HasType m v (table_at m a).elem) (sym view) typed))
  grow_after n v (Ok None) typed did refused = kept did.1
  grow_after n v (Err e) typed did refused = kept refused

-- Copies.

on_true : (r : Bool) (P Q : Type 0) → (P → Q) → OnTrue r P → OnTrue r Q
on_true true P Q f h = f h
on_true false P Q f h = h

on_false : (r : Bool) (P Q : Type 0) → (P → Q) → OnFalse r P → OnFalse r Q
on_false true P Q f h = h
on_false false P Q f h = f h

-- a table that is taken out of the list, written and put back, where e stands in its place meanwhile
module _ (ts : List TableInst) (i : ℕ) (e old target u : TableInst) (r : Bool) (within : i < length ts) (taken : target ≡ slice_index_or ts i old) where
  is_old : target ≡ slice_index_or ts i st.no_table
  is_old = taken ∙ get_or_default ts i old st.no_table within

  pub swap_refused : OnFalse r (u ≡ target) → OnFalse r (slice_set (slice_set ts i e) i u ≡ ts)
  swap_refused h = on_false r (u ≡ target) (slice_set (slice_set ts i e) i u ≡ ts)
      (λ same. set-set ts i e u ∙ ap (slice_set ts i) (same ∙ is_old) ∙ set-get_or ts i st.no_table) h

  pub swap_written : (j to from n : ℕ) (other : TableInst) (vs : List Value) → j < length ts → (j ≡ i → ⊥) → vs ≡ (slice_index_or (slice_set ts i e) j other).entries → OnTrue r (u ≡ replaced to n (run vs from n) target) → OnTrue r (slice_set (slice_set ts i e) i u ≡ slice_set ts i (replaced to n (run (slice_index_or ts j st.no_table).entries from n) (slice_index_or ts i st.no_table)))
  swap_written j to from n other vs within_other differ lent h =
      let more : j < length (slice_set ts i e) = omega (arith, length-set ts i e) in
      let is_other : slice_index_or (slice_set ts i e) j other ≡ slice_index_or ts j st.no_table = get_or_default (slice_set ts i e) j other st.no_table more ∙ get_or-set_other ts i j e st.no_table differ in
      let items : vs ≡ (slice_index_or ts j st.no_table).entries = lent ∙ ap (λ (t : TableInst). t.entries) is_other in
      on_true r (u ≡ replaced to n (run vs from n) target) (slice_set (slice_set ts i e) i u ≡ slice_set ts i (replaced to n (run (slice_index_or ts j st.no_table).entries from n) (slice_index_or ts i st.no_table)))
      (λ same. set-set ts i e u ∙ ap (slice_set ts i) (same ∙ ap (λ (ws : List Value). replaced to n (run ws from n) target) items ∙ ap (replaced to n (run (slice_index_or ts j st.no_table).entries from n)) is_old)) h

-- the store with other tables
pub record Copied (s now : Store) (tables : List TableInst) : Type 0 where
  pub whole : IsWhole (record s { tables = tables })
  pub later : IsLater now (record s { tables = tables })

copied : (s now : Store) (a : TableAddr) (u : TableInst) (tables : List TableInst) → tables ≡ slice_set s.tables a.0 u → After s now a u → Copied s now tables
copied s now a u tables e h = record {
  whole = subst (λ (ts : List TableInst). IsWhole (record s { tables = ts })) (sym e) h.whole;
  later = subst (λ (ts : List TableInst). IsLater now (record s { tables = ts })) (sym e) h.later;
}

pub copy_after : (s now : Store) (a b : TableAddr) (to from n : ℕ) (r : Bool) (tables : List TableInst) → s ≡ now → IsWhole s → a.0 < length now.tables → b.0 < length now.tables → (table_at now b).elem ≡ (table_at now a).elem → (IsTrue r → (to + n ≤ length (table_at s a).entries) × (from + n ≤ length (table_at s b).entries)) → OnTrue r (tables ≡ slice_set s.tables a.0 (replaced to n (run (table_at s b).entries from n) (table_at s a))) → OnFalse r (tables ≡ s.tables) → Copied s now tables
copy_after s now a b to from n true tables view whole live live_from same within written refused =
    let here : a.0 < length s.tables = subst (λ (m : Store). a.0 < length m.tables) (sym view) live in
    let there : b.0 < length s.tables = subst (λ (m : Store). b.0 < length m.tables) (sym view) live_from in
    let elems : (table_at s b).elem ≡ (table_at s a).elem = subst (λ (m : Store). (table_at m b).elem ≡ (table_at m a).elem) (sym view) same in
    let typed : AreTyped s (table_at s b).entries (table_at s a).elem = subst (λ (ty : ValType). AreTyped s (table_at s b).entries ty) elems (whole.tables b.0 st.no_table there).typed in
    copied s now a (replaced to n (run (table_at s b).entries from n) (table_at s a)) tables written
    (after s now a (replaced to n (run (table_at s b).entries from n) (table_at s a)) (replaced to n (run (table_at s b).entries from n) (table_at s a)) view refl
    (copied_changed s a to from n (table_at s b).entries whole here (within refl).0 (within refl).1 typed))
copy_after s now a b to from n false tables view whole live live_from same within written refused =
    copied s now a (table_at s a) tables (refused ∙ sym (set-get_or s.tables a.0 st.no_table)) (unchanged s now a (table_at s a) view whole refl)

-- the same, of a list that is known to be that of the store
pub copy_step : (s now : Store) (a b : TableAddr) (to from n : ℕ) (r : Bool) (ts tables : List TableInst) → ts ≡ s.tables → s ≡ now → IsWhole s → a.0 < length now.tables → b.0 < length now.tables → (table_at now b).elem ≡ (table_at now a).elem → (IsTrue r → (to + n ≤ length (slice_index_or ts a.0 st.no_table).entries) × (from + n ≤ length (slice_index_or ts b.0 st.no_table).entries)) → OnTrue r (tables ≡ slice_set ts a.0 (replaced to n (run (slice_index_or ts b.0 st.no_table).entries from n) (slice_index_or ts a.0 st.no_table))) → OnFalse r (tables ≡ ts) → Copied s now tables
copy_step s now a b to from n r ts tables e view whole live live_from same within written refused =
    copy_after s now a b to from n r tables view whole live live_from same
    (subst (λ (us : List TableInst). IsTrue r → (to + n ≤ length (slice_index_or us a.0 st.no_table).entries) × (from + n ≤ length (slice_index_or us b.0 st.no_table).entries)) e within)
    (subst (λ (us : List TableInst). OnTrue r (tables ≡ slice_set us a.0 (replaced to n (run (slice_index_or us b.0 st.no_table).entries from n) (slice_index_or us a.0 st.no_table)))) e written)
    (subst (λ (us : List TableInst). OnFalse r (tables ≡ us)) e refused)

-- Globals.

-- the store with another value in one of its globals
pub record Set (s now : Store) (a : GlobalAddr) (g : GlobalInst) : Type 0 where
  pub whole : IsWhole (st.with_global a g s)
  pub later : IsLater now (st.with_global a g s)

pub set_global : (s now : Store) (a : GlobalAddr) (g : GlobalInst) (v : Value) → s ≡ now → IsWhole s → a.0 < length now.globals → (global_at now a).ty.mutable ≡ true → HasType now v (global_at now a).ty.val → g ≡ slice_index_or s.globals a.0 g → Set s now a (record { ty = g.ty; value = v })
set_global s now a g v view whole live mutable typed read =
    let here : a.0 < length s.globals = subst (λ (m : Store). a.0 < length m.globals) (sym view) live in
    let is_here : g ≡ global_at s a = get_or_read s.globals a.0 g here read st.no_global in
    let change : IsLater s (st.with_global a (record { ty = (global_at s a).ty; value = v }) s) = later.later_global a v s (subst (λ (m : Store). (global_at m a).ty.mutable ≡ true) (sym view) mutable) in
    let keeps : IsWhole (st.with_global a (record { ty = (global_at s a).ty; value = v }) s) = whole_global a (record { ty = (global_at s a).ty; value = v }) s whole change (subst (λ (m : Store). HasType m v (global_at m a).ty.val) (sym view) typed) in
    record {
      whole = subst (λ (h : GlobalInst). IsWhole (st.with_global a (record { ty = h.ty; value = v }) s)) (sym is_here) keeps;
      later = subst (λ (h : GlobalInst). IsLater now (st.with_global a (record { ty = h.ty; value = v }) s)) (sym is_here) (subst (λ (n : Store). IsLater n (st.with_global a (record { ty = (global_at s a).ty; value = v }) s)) view change);
    }
