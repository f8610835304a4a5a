-- Memories of a store: their sizes, and a store after one of them was written or grown.
use Rattle.std.proofs.Common.{◌≡◌, ℕ, ◌+◌, ◌*◌, ◌/◌, ◌%◌, ◌<◌, ◌≤◌, List, [], ◌∷◌, ◌++◌, length, sym, ap, ◌∙◌, subst, arith, length-append}
use Rattle.std.specs.Prelude.{true, ◌&&◌, nat_le, Option, Some, None, unwrap_or, slice_index_or, slice_set, zero, suc}
use Rattle.std.proofs.lemmas.List.{get_or_read, length-replicate}
use Rattle.std.proofs.lemmas.List.Elements.{All-push, All-set}
use Rattle.std.proofs.lemmas.Bool.{leb-true}
use Rattle.wasm_syntax.specs.declared.types.Limit.{Limit}
use Rattle.wasm_syntax.specs.declared.addresses.MemAddr.{MemAddr}
use Rattle.raw_memory.specs.Bytes.{page_size, most_pages, zeros}
use Rattle.wasm_valid.specs.ModuleRules.{is_memory}
use Rattle.wasm_store.specs.Store.{Store, MemInst}
use Rattle.wasm_store.specs.Memories.{no_memory, memory_at, with_new_memory, with_memory, pages_of, all_pages, most_pages_in_all, new_memory, grown_memory, may_have_memory, may_grow_memory, IsMemory, SameSize}
use Rattle.wasm_store.specs.Whole.{IsWhole, IsLater, MemoryStays}
use Rattle.wasm_store.proofs.Later as later
use Rattle.wasm_store.proofs.Keeps.{whole_memories}
use Rattle.wasm_store.proofs.RuleLaws.{left_true, right_true}

-- Pages.

pages_same : (m n : MemInst) → length n.bytes ≡ length m.bytes → pages_of n ≡ pages_of m
pages_same m n e = ap (λ (k : ℕ). k / page_size) e

all_same : (ms : List MemInst) (i : ℕ) (m d : MemInst) → i < length ms → pages_of m ≡ pages_of (slice_index_or ms i d) → all_pages (slice_set ms i m) ≡ all_pages ms
all_same [] i m d h e = absurd (omega (arith, h))
all_same (x ∷ ms) zero m d h e = ap (λ (n : ℕ). n + all_pages ms) e
all_same (x ∷ ms) (suc i) m d h e = ap (λ (n : ℕ). pages_of x + n) (all_same ms i m d (omega (arith, h)) e)

all_grown : (ms : List MemInst) (i : ℕ) (m d : MemInst) (n : ℕ) → i < length ms → pages_of m ≡ pages_of (slice_index_or ms i d) + n → all_pages (slice_set ms i m) ≡ all_pages ms + n
all_grown [] i m d n h e = absurd (omega (arith, h))
all_grown (x ∷ ms) zero m d n h e =
    let more : pages_of m ≡ pages_of x + n = e in
    ap (λ (k : ℕ). k + all_pages ms) more ∙ (let swap : pages_of x + n + all_pages ms ≡ pages_of x + all_pages ms + n = omega arith in swap)
all_grown (x ∷ ms) (suc i) m d n h e =
    ap (λ (k : ℕ). pages_of x + k) (all_grown ms i m d n (omega (arith, h)) e) ∙ (let swap : pages_of x + (all_pages ms + n) ≡ pages_of x + all_pages ms + n = omega arith in swap)

pub all_pushed : (ms : List MemInst) (m : MemInst) → all_pages (ms ++ m ∷ []) ≡ all_pages ms + pages_of m
all_pushed [] m = let e : pages_of m + 0 ≡ 0 + pages_of m = omega arith in e
all_pushed (x ∷ ms) m = ap (λ (k : ℕ). pages_of x + k) (all_pushed ms m) ∙ (let swap : pages_of x + (all_pages ms + pages_of m) ≡ pages_of x + all_pages ms + pages_of m = omega arith in swap)

-- One memory.

pub pages_new : (limit : Limit) → pages_of (new_memory limit) ≡ limit.min
pages_new limit = ap (λ (k : ℕ). k / page_size) (length-replicate (limit.min * page_size) 0) ∙ (let e : limit.min * 65536 / 65536 ≡ limit.min = omega arith in e)

pub new_is_memory : (limit : Limit) → is_memory limit ≡ true → limit.min ≤ most_pages → IsMemory (new_memory limit)
new_is_memory limit h few = record {
  whole = ap (λ (k : ℕ). k % page_size) (length-replicate (limit.min * page_size) 0) ∙ (let e : limit.min * 65536 % 65536 ≡ 0 = omega arith in e);
  few = subst (λ (k : ℕ). k ≤ most_pages) (sym (pages_new limit)) few;
  within = subst (λ (k : ℕ). k ≤ unwrap_or limit.max most_pages) (sym (pages_new limit)) (bound limit.max (leb-true limit.min (unwrap_or limit.max limit.min) (left_true _ _ (left_true _ _ h))));
}
  where
    bound : (max : Option ℕ) → limit.min ≤ unwrap_or max limit.min → limit.min ≤ unwrap_or max most_pages
    bound None k = few
    bound (Some n) k = k

same_is_memory : (m n : MemInst) → SameSize m n → IsMemory m → IsMemory n
same_is_memory m n same h = record {
  whole = ap (λ (k : ℕ). k % page_size) same.size ∙ h.whole;
  few = subst (λ (k : ℕ). k ≤ most_pages) (sym (pages_same m n same.size)) h.few;
  within = subst (λ (k : ℕ). k ≤ unwrap_or n.max most_pages) (sym (pages_same m n same.size)) (subst (λ (o : Option ℕ). pages_of m ≤ unwrap_or o most_pages) (sym same.max) h.within);
}

pub length_grown : (n : ℕ) (m : MemInst) → length (grown_memory n m).bytes ≡ length m.bytes + n * page_size
length_grown n m = length-append m.bytes (zeros (n * page_size)) ∙ ap (λ (k : ℕ). length m.bytes + k) (length-replicate (n * page_size) 0)

pub pages_grown : (n : ℕ) (m : MemInst) → pages_of (grown_memory n m) ≡ pages_of m + n
pages_grown n m = ap (λ (k : ℕ). k / page_size) (length_grown n m) ∙ (let e : (length m.bytes + n * 65536) / 65536 ≡ length m.bytes / 65536 + n = omega arith in e)

grown_is_memory : (n : ℕ) (m : MemInst) → pages_of m + n ≤ unwrap_or m.max most_pages → pages_of m + n ≤ most_pages → IsMemory m → IsMemory (grown_memory n m)
grown_is_memory n m within few h = record {
  whole = ap (λ (k : ℕ). k % page_size) (length_grown n m) ∙ (let w : length m.bytes % 65536 ≡ 0 = h.whole in let e : (length m.bytes + n * 65536) % 65536 ≡ 0 = omega (arith, w) in e);
  few = subst (λ (k : ℕ). k ≤ most_pages) (sym (pages_grown n m)) few;
  within = subst (λ (k : ℕ). k ≤ unwrap_or m.max most_pages) (sym (pages_grown n m)) within;
}

-- A store after one of its memories was written or grown: s is as the code has it, and now as contracts see it.
pub record MemoryAfter (s now : Store) (count : ℕ) (a : MemAddr) (u : MemInst) : Type 0 where
  pub whole : IsWhole (with_memory a u s)
  pub count_is : count ≡ all_pages (slice_set s.memories a.0 u)
  pub later : IsLater now (with_memory a u s)

module _ (s now : Store) (count : ℕ) (a : MemAddr) (t u : MemInst) (view : s ≡ now) (whole : IsWhole s) (counted : count ≡ all_pages s.memories) (live : a.0 < length now.memories) (read : t ≡ slice_index_or s.memories a.0 t) where
  live_here : a.0 < length s.memories
  live_here = subst (λ (n : Store). a.0 < length n.memories) (sym view) live

  is_here : t ≡ memory_at s a
  is_here = get_or_read s.memories a.0 t live_here read no_memory

  here : IsMemory t
  here = subst IsMemory (sym is_here) (whole.memories.each a.0 no_memory live_here)

  at_now : IsLater s (with_memory a u s) → IsLater now (with_memory a u s)
  at_now h = subst (λ (n : Store). IsLater n (with_memory a u s)) view h

  -- as large as before
  pub written_after : SameSize t u → MemoryAfter s now count a u
  written_after same =
      let all : all_pages (slice_set s.memories a.0 u) ≡ all_pages s.memories = all_same s.memories a.0 u no_memory live_here (pages_same t u same.size ∙ ap pages_of is_here) in
      let step : IsLater s (with_memory a u s) = later.later_memory a u s (subst (λ (m : MemInst). MemoryStays m u) is_here (record { max = same.max; size = (let e : length u.bytes ≡ length t.bytes = same.size in omega (arith, e)) })) in
      record {
        whole = whole_memories (slice_set s.memories a.0 u) s whole step (record {
          each = All-set IsMemory s.memories a.0 u (same_is_memory t u same here) whole.memories.each;
          pages = subst (λ (k : ℕ). k ≤ most_pages_in_all) (sym all) whole.memories.pages;
        });
        count_is = counted ∙ sym all;
        later = at_now step;
      }

  -- n pages more
  pub grown_after : (n : ℕ) → u ≡ grown_memory n t → may_grow_memory s (memory_at s a) n ≡ true → MemoryAfter s now (count + n) a u
  grown_after n made may =
      let each = left_true (nat_le (pages_of (memory_at s a) + n) (unwrap_or (memory_at s a).max most_pages) && nat_le (pages_of (memory_at s a) + n) most_pages) (nat_le (all_pages s.memories + n) most_pages_in_all) may in
      let within_here = leb-true (pages_of (memory_at s a) + n) (unwrap_or (memory_at s a).max most_pages) (left_true (nat_le (pages_of (memory_at s a) + n) (unwrap_or (memory_at s a).max most_pages)) (nat_le (pages_of (memory_at s a) + n) most_pages) each) in
      let most_here = leb-true (pages_of (memory_at s a) + n) most_pages (right_true (nat_le (pages_of (memory_at s a) + n) (unwrap_or (memory_at s a).max most_pages)) (nat_le (pages_of (memory_at s a) + n) most_pages) each) in
      let within : pages_of t + n ≤ unwrap_or t.max most_pages = subst (λ (m : MemInst). pages_of m + n ≤ unwrap_or m.max most_pages) (sym is_here) within_here in
      let most : pages_of t + n ≤ most_pages = subst (λ (m : MemInst). pages_of m + n ≤ most_pages) (sym is_here) most_here in
      let in_all : all_pages s.memories + n ≤ most_pages_in_all = leb-true (all_pages s.memories + n) most_pages_in_all (right_true (nat_le (pages_of (memory_at s a) + n) (unwrap_or (memory_at s a).max most_pages) && nat_le (pages_of (memory_at s a) + n) most_pages) (nat_le (all_pages s.memories + n) most_pages_in_all) may) in
      let pages : pages_of u ≡ pages_of (memory_at s a) + n = ap pages_of made ∙ pages_grown n t ∙ ap (λ (m : MemInst). pages_of m + n) is_here in
      let all : all_pages (slice_set s.memories a.0 u) ≡ all_pages s.memories + n = all_grown s.memories a.0 u no_memory n live_here pages in
      let size : length u.bytes ≡ length t.bytes + n * page_size = ap (λ (m : MemInst). length m.bytes) made ∙ length_grown n t in
      let step : IsLater s (with_memory a u s) = later.later_memory a u s (subst (λ (m : MemInst). MemoryStays m u) is_here (record { max = ap (λ (m : MemInst). m.max) made; size = omega (arith, size) })) in
      record {
        whole = whole_memories (slice_set s.memories a.0 u) s whole step (record {
          each = All-set IsMemory s.memories a.0 u (subst IsMemory (sym made) (grown_is_memory n t within most here)) whole.memories.each;
          pages = subst (λ (k : ℕ). k ≤ most_pages_in_all) (sym all) in_all;
        });
        count_is = ap (λ (k : ℕ). k + n) counted ∙ sym all;
        later = at_now step;
      }

-- A memory is added.
pub whole_new_memory : (limit : Limit) (s : Store) (m : MemInst) → m ≡ new_memory limit → IsWhole s → is_memory limit ≡ true → may_have_memory s limit ≡ true → IsWhole (with_new_memory m s)
whole_new_memory limit s m made whole typed may =
    let few : limit.min ≤ most_pages = leb-true _ _ (left_true (nat_le limit.min most_pages) _ may) in
    let in_all : all_pages s.memories + limit.min ≤ most_pages_in_all = leb-true _ _ (right_true (nat_le limit.min most_pages) _ may) in
    let pages : all_pages (s.memories ++ m ∷ []) ≡ all_pages s.memories + limit.min = all_pushed s.memories m ∙ ap (λ (k : ℕ). all_pages s.memories + k) (ap pages_of made ∙ pages_new limit) in
    whole_memories (s.memories ++ m ∷ []) s whole (later.later_new_memory m s) (record {
      each = All-push IsMemory s.memories m whole.memories.each (subst IsMemory (sym made) (new_is_memory limit typed few));
      pages = subst (λ (k : ℕ). k ≤ most_pages_in_all) (sym pages) in_all;
    })

pub count_new_memory : (limit : Limit) (ms : List MemInst) (m : MemInst) (count : ℕ) → m ≡ new_memory limit → count ≡ all_pages ms → count + limit.min ≡ all_pages (ms ++ m ∷ [])
count_new_memory limit ms m count made counted =
    ap (λ (k : ℕ). k + limit.min) counted ∙ sym (all_pushed ms m ∙ ap (λ (k : ℕ). all_pages ms + k) (ap pages_of made ∙ pages_new limit))
