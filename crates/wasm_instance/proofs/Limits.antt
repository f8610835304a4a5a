-- How many pages the memories of a store have together with those of a module.
use Rattle.std.proofs.Common.{◌≡◌, ℕ, ◌+◌, ◌*◌, ◌/◌, ◌<◌, ◌≤◌, List, [], ◌∷◌, ◌++◌, length, take, refl, sym, ap, ◌∙◌, subst, arith}
use Rattle.std.specs.Prelude.{true, false, Bool, ◌&&◌, nat_le, slice_get, slice_index_or, Some, None, zero, suc}
use Rattle.std.specs.List.{list_all}
use Rattle.std.proofs.Math.Seq.{take-length}
use Rattle.std.proofs.lemmas.List.{length-replicate, take_more, take-map}
use Rattle.std.proofs.lemmas.List.Folds.{list_all-append}
use Rattle.std.proofs.lemmas.Bool.{leb-true, le-leb}
use Rattle.wasm_syntax.specs.declared.types.Limit.{Limit}
use Rattle.raw_memory.specs.Bytes.{page_size, most_pages}
use Rattle.wasm_store.specs.Store.{Store, MemInst}
use Rattle.std.proofs.lemmas.Option.{slice_get_within, get_or_from_slice_get}
use Rattle.wasm_store.specs.Memories.{pages_of, all_pages, new_memory, most_pages_in_all, may_have_memory, NewMemory}
use Rattle.wasm_instance.specs.Parts.{with_memories}
use Rattle.wasm_store.specs.Allocated.{memories_from}
use Rattle.wasm_instance.specs.Instantiation.{are_memories_within}
use Rattle.wasm_instance.proofs.Rules.{left_true, right_true}

abbrev is_small : Limit → Bool
is_small limit = nat_le limit.min most_pages

pages_new : (limit : Limit) → pages_of (new_memory limit) ≡ limit.min
pages_new limit = ap (λ (k : ℕ). k / page_size) (length-replicate (limit.min * page_size) 0) ∙ (let e : limit.min * 65536 / 65536 ≡ limit.min = omega arith in e)

pub all_joined : (ms ns : List MemInst) → all_pages (ms ++ ns) ≡ all_pages ms + all_pages ns
all_joined [] ns = let e : all_pages ns ≡ 0 + all_pages ns = omega arith in e
all_joined (m ∷ ms) ns = ap (λ (k : ℕ). pages_of m + k) (all_joined ms ns) ∙ (let e : pages_of m + (all_pages ms + all_pages ns) ≡ pages_of m + all_pages ms + all_pages ns = omega arith in e)

abbrev sum_of : List Limit → ℕ
sum_of limits = all_pages (memories_from limits)

sum_more : (limits : List Limit) (k : ℕ) (d : Limit) → k < length limits → sum_of (take (k + 1) limits) ≡ sum_of (take k limits) + (slice_index_or limits k d).min
sum_more limits k d h =
    ap sum_of (take_more limits k d h) ∙ sum_joined (take k limits) (slice_index_or limits k d)
  where
    sum_joined : (xs : List Limit) (x : Limit) → sum_of (xs ++ x ∷ []) ≡ sum_of xs + x.min
    sum_joined [] x = ap (λ (k : ℕ). k + 0) (pages_new x) ∙ (let e : x.min + 0 ≡ 0 + x.min = omega arith in e)
    sum_joined (y ∷ xs) x = ap (λ (k : ℕ). pages_of (new_memory y) + k) (sum_joined xs x) ∙ (let e : pages_of (new_memory y) + (sum_of xs + x.min) ≡ pages_of (new_memory y) + sum_of xs + x.min = omega arith in e)

sum_taken : (limits : List Limit) (k : ℕ) → sum_of (take k limits) ≤ sum_of limits
sum_taken limits zero = omega arith
sum_taken [] (suc k) = omega arith
sum_taken (x ∷ limits) (suc k) = let h : sum_of (take k limits) ≤ sum_of limits = sum_taken limits k in omega (arith, h)

-- so many pages with the first k of the module's
pub record AreCounted (s : Store) (limits : List Limit) (k pages : ℕ) : Type 0 where
  pub small : list_all is_small (take k limits) ≡ true
  pub count : pages ≡ all_pages s.memories + sum_of (take k limits)
  pub few : pages ≤ most_pages_in_all

small_more : (limits : List Limit) (k : ℕ) (d : Limit) → k < length limits → list_all is_small (take k limits) ≡ true → (slice_index_or limits k d).min ≤ most_pages → list_all is_small (take (k + 1) limits) ≡ true
small_more limits k d h before few =
    ap (list_all is_small) (take_more limits k d h) ∙ list_all-append is_small (take k limits) (slice_index_or limits k d ∷ [])
    ∙ ap (λ (b : Bool). b && list_all is_small (slice_index_or limits k d ∷ [])) before
    ∙ ap (λ (b : Bool). b && true) (le-leb (slice_index_or limits k d).min most_pages few)

pub counted_more : (s : Store) (limits : List Limit) (k pages : ℕ) (limit : Limit) → k < length limits → limit ≡ slice_index_or limits k limit → AreCounted s limits k pages → limit.min ≤ most_pages → pages + limit.min ≤ most_pages_in_all → AreCounted s limits (k + 1) (pages + limit.min)
counted_more s limits k pages limit h at before small few =
    let more : sum_of (take (k + 1) limits) ≡ sum_of (take k limits) + limit.min = sum_more limits k limit h ∙ ap (λ (l : Limit). sum_of (take k limits) + l.min) (sym at) in
    let count : pages ≡ all_pages s.memories + sum_of (take k limits) = before.count in
    record {
      small = small_more limits k limit h before.small (subst (λ (l : Limit). l.min ≤ most_pages) at small);
      count = omega (arith, more, count);
      few = few;
    }

within_by : (s : Store) (limits : List Limit) → list_all is_small limits ≡ true → all_pages s.memories + sum_of limits ≤ most_pages_in_all → are_memories_within s limits ≡ true
within_by s limits small few =
    let all : all_pages (s.memories ++ memories_from limits) ≡ all_pages s.memories + sum_of limits = all_joined s.memories (memories_from limits) in
    ap (λ (b : Bool). b && nat_le (all_pages (s.memories ++ memories_from limits)) most_pages_in_all) small
    ∙ le-leb (all_pages (s.memories ++ memories_from limits)) most_pages_in_all (omega (arith, all, few))

pub counted_all : (s : Store) (limits : List Limit) (k pages : ℕ) → k ≡ length limits → AreCounted s limits k pages → true ≡ are_memories_within s limits
counted_all s limits k pages e h =
    let whole : take k limits ≡ limits = ap (λ (j : ℕ). take j limits) e ∙ take-length limits in
    let small : list_all is_small limits ≡ true = ap (list_all is_small) (sym whole) ∙ h.small in
    let count : pages ≡ all_pages s.memories + sum_of limits = h.count ∙ ap (λ (ls : List Limit). all_pages s.memories + sum_of ls) whole in
    let few : pages ≤ most_pages_in_all = h.few in
    sym (within_by s limits small (omega (arith, count, few)))

-- what is within
pub record Within (s : Store) (limits : List Limit) : Type 0 where
  pub small : list_all is_small limits ≡ true
  pub few : all_pages s.memories + sum_of limits ≤ most_pages_in_all

pub within_is : (s : Store) (limits : List Limit) → are_memories_within s limits ≡ true → Within s limits
within_is s limits h =
    let all : all_pages (s.memories ++ memories_from limits) ≡ all_pages s.memories + sum_of limits = all_joined s.memories (memories_from limits) in
    let few : all_pages (s.memories ++ memories_from limits) ≤ most_pages_in_all = leb-true (all_pages (s.memories ++ memories_from limits)) most_pages_in_all (right_true (list_all is_small limits) _ h) in
    record { small = left_true (list_all is_small limits) _ h; few = omega (arith, all, few) }

small_at : (limits : List Limit) (k : ℕ) (d : Limit) → list_all is_small limits ≡ true → k < length limits → (slice_index_or limits k d).min ≤ most_pages
small_at [] k d h within = absurd (omega (arith, within))
small_at (x ∷ limits) zero d h within = leb-true x.min most_pages (left_true (is_small x) (list_all is_small limits) h)
small_at (x ∷ limits) (suc k) d h within = small_at limits k d (right_true (is_small x) (list_all is_small limits) h) (omega (arith, within))

not_within : (s : Store) (limits : List Limit) → (are_memories_within s limits ≡ true → ⊥) → false ≡ are_memories_within s limits
not_within s limits h = by_cases (are_memories_within s limits) h
  where
    by_cases : (b : Bool) → (b ≡ true → ⊥) → false ≡ b
    by_cases true k = absurd (k refl)
    by_cases false k = refl

-- one that is too large, or one too many
pub counted_past : (s : Store) (limits : List Limit) (k pages : ℕ) (limit : Limit) → k < length limits → limit ≡ slice_index_or limits k limit → AreCounted s limits k pages → (limit.min ≤ most_pages → pages + limit.min ≤ most_pages_in_all → ⊥) → false ≡ are_memories_within s limits
counted_past s limits k pages limit h at before past =
    not_within s limits
    (λ within.
    let w : Within s limits = within_is s limits within in
    let more : sum_of (take (k + 1) limits) ≡ sum_of (take k limits) + limit.min = sum_more limits k limit h ∙ ap (λ (l : Limit). sum_of (take k limits) + l.min) (sym at) in
    let all : sum_of (take (k + 1) limits) ≤ sum_of limits = sum_taken limits (k + 1) in
    let count : pages ≡ all_pages s.memories + sum_of (take k limits) = before.count in
    let few : all_pages s.memories + sum_of limits ≤ most_pages_in_all = w.few in
    past (subst (λ (l : Limit). l.min ≤ most_pages) (sym at) (small_at limits k limit w.small h)) (omega (arith, more, all, count, few)))

-- a memory of the module may be added when those before it are there
pub may_have_next : (s : Store) (limits : List Limit) (k : ℕ) (limit : Limit) → are_memories_within s limits ≡ true → slice_get limits k ≡ Some limit → k < length limits → limit ≡ slice_index_or limits k limit → (limit.min ≤ most_pages) × (all_pages (s.memories ++ take k (memories_from limits)) + limit.min ≤ most_pages_in_all)
may_have_next s limits k limit within at h read =
    let w : Within s limits = within_is s limits within in
    let more : sum_of (take (k + 1) limits) ≡ sum_of (take k limits) + limit.min = sum_more limits k limit h ∙ ap (λ (l : Limit). sum_of (take k limits) + l.min) (sym read) in
    let all : sum_of (take (k + 1) limits) ≤ sum_of limits = sum_taken limits (k + 1) in
    let few : all_pages s.memories + sum_of limits ≤ most_pages_in_all = w.few in
    let joined : all_pages (s.memories ++ take k (memories_from limits)) ≡ all_pages s.memories + sum_of (take k limits) =
    all_joined s.memories (take k (memories_from limits)) ∙ ap (λ (ms : List MemInst). all_pages s.memories + all_pages ms) (take-map new_memory k limits) in
    (subst (λ (l : Limit). l.min ≤ most_pages) (sym read) (small_at limits k limit w.small h), omega (arith, more, all, few, joined))

pub next_may_be_had : (s t : Store) (limits : List Limit) (k : ℕ) (limit : Limit) → are_memories_within s limits ≡ true → slice_get limits k ≡ Some limit → t ≡ with_memories (take k (memories_from limits)) s → may_have_memory t limit ≡ true
next_may_be_had s t limits k limit within at e =
    let here : k < length limits = slice_get_within limits k limit at in
    let next = may_have_next s limits k limit within at here (sym (get_or_from_slice_get limits k limit limit at)) in
    subst (λ (x : Store). may_have_memory x limit ≡ true) (sym e)
    (ap (λ (b : Bool). b && nat_le (all_pages (s.memories ++ take k (memories_from limits)) + limit.min) most_pages_in_all) (le-leb limit.min most_pages next.0)
    ∙ le-leb (all_pages (s.memories ++ take k (memories_from limits)) + limit.min) most_pages_in_all next.1)

-- a memory that may be had isn't refused
pub not_refused : (s t : Store) (limit : Limit) → may_have_memory s limit ≡ true → NewMemory limit s t None → ⊥
not_refused s t limit may refused = absurd (let e : true ≡ false = sym may ∙ refused.0 in cc)
