-- A table that changed is one of the store still, and is what it was but for its entries.
use Rattle.std.proofs.Common.{◌≡◌, ℕ, ◌+◌, ◌<◌, ◌≤◌, List, ◌++◌, length, take, drop, refl, sym, subst, arith, length-append}
use Rattle.std.specs.Prelude.{true, false, Bool, ◌&&◌, Option, Some, None, unwrap_or, replicate, slice_set}
use Rattle.std.proofs.lemmas.List.{length-set, length-replicate, length-take, length-drop}
use Rattle.std.proofs.lemmas.List.Elements.{All-append, All-set, All-take, All-drop, All-replicate}
use Rattle.std.proofs.lemmas.Bool.{le-leb}
use Rattle.wasm_syntax.specs.declared.types.ValType.{ValType}
use Rattle.wasm_syntax.specs.declared.types.TableType.{TableType}
use Rattle.wasm_syntax.specs.declared.value.Value.{Value}
use Rattle.wasm_syntax.specs.declared.addresses.TableAddr.{TableAddr}
use Rattle.wasm_valid.specs.ModuleRules.{is_table, is_limit}
use Rattle.wasm_store.specs.Store as st
use Rattle.wasm_store.specs.Store.{Store, TableInst, table_at, table_type_of, with_entries, grown, new_table, run, replaced, most_entries}
use Rattle.wasm_store.specs.Growth.{MayGrow}
use Rattle.wasm_store.specs.Whole.{IsWhole, IsLater, HasType, AreTyped, IsTable, TableStays}
use Rattle.wasm_store.proofs.Later as later
use Rattle.wasm_store.proofs.Keeps.{whole_table}

-- a store after a table of it changed
pub record Changed (s : Store) (a : TableAddr) (t : TableInst) : Type 0 where
  pub whole : IsWhole (st.with_table a t s)
  pub later : IsLater s (st.with_table a t s)

changed : (s : Store) (a : TableAddr) (t : TableInst) → IsWhole s → TableStays (table_at s a) t → IsTable s t → Changed s a t
changed s a t whole stays fits = let l = later.later_table a t s stays in record { whole = whole_table a t s whole l fits; later = l }

table_whole : (s : Store) (a : TableAddr) → IsWhole s → a.0 < length s.tables → IsTable s (table_at s a)
table_whole s a whole h = whole.tables a.0 st.no_table h

type_with : (elem : ValType) (max : Option ℕ) (n m : ℕ) → n ≡ m → is_table (record { elem = elem; limit = record { min = m; max = max } }) ≡ true → is_table (record { elem = elem; limit = record { min = n; max = max } }) ≡ true
type_with elem max n m e h = subst (λ (k : ℕ). is_table (record { elem = elem; limit = record { min = k; max = max } }) ≡ true) (sym e) h

-- other entries, as many as before
rewritten : (s : Store) (t : TableInst) (entries : List Value) → length entries ≡ length t.entries → AreTyped s entries t.elem → IsTable s t → IsTable s (with_entries entries t)
rewritten s t entries same typed h = record {
  type_is = type_with t.elem t.max (length entries) (length t.entries) same h.type_is;
  few = (let few : length t.entries ≤ most_entries = h.few in subst (λ (k : ℕ). k ≤ most_entries) (sym same) few);
  typed = typed;
}

stays : (t : TableInst) (entries : List Value) → length t.entries ≤ length entries → TableStays t (with_entries entries t)
stays t entries more = record { elem = refl; max = refl; size = more }

pub set_changed : (s : Store) (a : TableAddr) (i : ℕ) (v : Value) → IsWhole s → a.0 < length s.tables → HasType s v (table_at s a).elem → Changed s a (with_entries (slice_set (table_at s a).entries i v) (table_at s a))
set_changed s a i v whole live typed =
    let t : TableInst = table_at s a in
    let same : length (slice_set (table_at s a).entries i v) ≡ length (table_at s a).entries = length-set (table_at s a).entries i v in
    let fits : IsTable s (table_at s a) = table_whole s a whole live in
    changed s a (with_entries (slice_set t.entries i v) t) whole
    (stays t (slice_set t.entries i v) (omega (arith, same)))
    (rewritten s t (slice_set t.entries i v) same (All-set (λ (u : Value). HasType s u (table_at s a).elem) t.entries i v typed fits.typed) fits)

length_replaced : (xs new : List Value) (at n : ℕ) → at + n ≤ length xs → length new ≡ n → length (take at xs ++ new ++ drop (at + n) xs) ≡ length xs
length_replaced xs new at n within count = simp (length-append, length-take, length-drop) (omega arith)

typed_replaced : (s : Store) (ty : ValType) (xs new : List Value) (at n : ℕ) → AreTyped s xs ty → AreTyped s new ty → AreTyped s (take at xs ++ new ++ drop (at + n) xs) ty
typed_replaced s ty xs new at n h k =
    All-append (λ (v : Value). HasType s v ty) (take at xs ++ new) (drop (at + n) xs)
    (All-append (λ (v : Value). HasType s v ty) (take at xs) new (All-take (λ (v : Value). HasType s v ty) at xs h) k)
    (All-drop (λ (v : Value). HasType s v ty) (at + n) xs h)

pub replaced_changed : (s : Store) (a : TableAddr) (at n : ℕ) (new : List Value) → IsWhole s → a.0 < length s.tables → at + n ≤ length (table_at s a).entries → length new ≡ n → AreTyped s new (table_at s a).elem → Changed s a (replaced at n new (table_at s a))
replaced_changed s a at n new whole live within count typed =
    let same : length (take at (table_at s a).entries ++ new ++ drop (at + n) (table_at s a).entries) ≡ length (table_at s a).entries = length_replaced (table_at s a).entries new at n within count in
    let fits : IsTable s (table_at s a) = table_whole s a whole live in
    changed s a (replaced at n new (table_at s a)) whole
    (stays (table_at s a) (take at (table_at s a).entries ++ new ++ drop (at + n) (table_at s a).entries) (omega (arith, same)))
    (rewritten s (table_at s a) (take at (table_at s a).entries ++ new ++ drop (at + n) (table_at s a).entries) same (typed_replaced s (table_at s a).elem (table_at s a).entries new at n fits.typed typed) fits)

pub filled_changed : (s : Store) (a : TableAddr) (at n : ℕ) (v : Value) → IsWhole s → a.0 < length s.tables → at + n ≤ length (table_at s a).entries → HasType s v (table_at s a).elem → Changed s a (replaced at n (replicate n v) (table_at s a))
filled_changed s a at n v whole live within typed =
    replaced_changed s a at n (replicate n v) whole live within (length-replicate n v) (All-replicate (λ (u : Value). HasType s u (table_at s a).elem) n v typed)

length_run : (vs : List Value) (from n : ℕ) → from + n ≤ length vs → length (run vs from n) ≡ n
length_run vs from n within = simp (length-take, length-drop) (omega arith)

pub copied_changed : (s : Store) (a : TableAddr) (to from n : ℕ) (vs : List Value) → IsWhole s → a.0 < length s.tables → to + n ≤ length (table_at s a).entries → from + n ≤ length vs → AreTyped s vs (table_at s a).elem → Changed s a (replaced to n (run vs from n) (table_at s a))
copied_changed s a to from n vs whole live within within_from typed =
    replaced_changed s a to n (run vs from n) whole live within (length_run vs from n within_from)
    (All-take (λ (v : Value). HasType s v (table_at s a).elem) n (drop from vs) (All-drop (λ (v : Value). HasType s v (table_at s a).elem) from vs typed))

-- Growth.

limit_grown : (t : TableInst) (n most : ℕ) → length t.entries + n ≤ unwrap_or t.max most → (elem : Bool) → (elem && is_limit (record { min = length t.entries; max = t.max })) ≡ true → (m : ℕ) → m ≡ length t.entries + n → (elem && is_limit (record { min = m; max = t.max })) ≡ true
limit_grown t n most may false h m e = h
limit_grown t n most may true h m e = limit_of t.max most m (subst (λ (k : ℕ). k ≤ unwrap_or t.max most) (sym e) may)
  where
    limit_of : (max : Option ℕ) (most m : ℕ) → m ≤ unwrap_or max most → is_limit (record { min = m; max = max }) ≡ true
    limit_of None most m h = le-leb m m (omega arith)
    limit_of (Some k) most m h = le-leb m k h

pub grown_changed : (s : Store) (a : TableAddr) (n : ℕ) (v : Value) → IsWhole s → a.0 < length s.tables → MayGrow (table_at s a) n → HasType s v (table_at s a).elem → Changed s a (grown n v (table_at s a))
grown_changed s a n v whole live may typed =
    let count : length ((table_at s a).entries ++ replicate n v) ≡ length (table_at s a).entries + n = simp (length-append, length-replicate) refl in
    let fits : IsTable s (table_at s a) = table_whole s a whole live in
    changed s a (grown n v (table_at s a)) whole
    (stays (table_at s a) ((table_at s a).entries ++ replicate n v) (omega (arith, count)))
    (record {
      type_is = limit_grown (table_at s a) n most_entries may.0 _ fits.type_is (length ((table_at s a).entries ++ replicate n v)) count;
      few = (let few : length (table_at s a).entries + n ≤ most_entries = may.1 in subst (λ (k : ℕ). k ≤ most_entries) (sym count) few);
      typed = All-append (λ (u : Value). HasType s u (table_at s a).elem) (table_at s a).entries (replicate n v) fits.typed (All-replicate (λ (u : Value). HasType s u (table_at s a).elem) n v typed);
    })

pub new_table_fits : (s : Store) (ty : TableType) (init : Value) → is_table ty ≡ true → ty.limit.min ≤ most_entries → HasType s init ty.elem → IsTable s (new_table ty init)
new_table_fits s ty init table few typed = record {
  type_is = type_with ty.elem ty.limit.max (length (replicate ty.limit.min init)) ty.limit.min (length-replicate ty.limit.min init) table;
  few = subst (λ (k : ℕ). k ≤ most_entries) (sym (length-replicate ty.limit.min init)) few;
  typed = All-replicate (λ (u : Value). HasType s u ty.elem) ty.limit.min init typed;
}
