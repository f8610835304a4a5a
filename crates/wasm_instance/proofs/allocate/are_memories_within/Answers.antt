use Rattle.std.proofs.Common.{◌≡◌, ◌<◌, ◌≤◌, ℕ, List, length, arith}
use Rattle.std.specs.Prelude.{None, slice_index_or}
use Rattle.std.proofs.lemmas.List.{get_or_default}
use Rattle.wasm_syntax.specs.declared.types.Limit.{Limit}
use Rattle.wasm_instance.proofs.Limits.{counted_more, counted_all, counted_past}
use Rattle.wasm_instance.proofs.allocate.are_memories_within.Goals as goal
use Rattle.wasm_instance.proofs.allocate.are_memories_within.Goals.{then-limit-gt-MOST_PAGES-via-then-limit-gt-MOST_PAGES, then-limit-gt-MOST_PAGES-via-else-limit-gt-MOST_PAGES+then-pages-limit-gt-MOST_PAGES_IN_ALL}

abbrev no_limit : Limit
no_limit = record { min = 0; max = None }

read : (limits : List Limit) (k : ℕ) → k < length limits → slice_index_or limits k no_limit ≡ slice_index_or limits k (slice_index_or limits k no_limit)
read limits k h = get_or_default limits k no_limit (slice_index_or limits k no_limit) h

pub returns-then-limit-gt-MOST_PAGES : goal.returns-then-limit-gt-MOST_PAGES
returns-then-limit-gt-MOST_PAGES c =
    let limit : Limit = slice_index_or c.args.limits.now c.loop-limit.limit-index no_limit in
    counted_past c.args.store.now c.args.limits.now c.loop-limit.limit-index c.loop-limit.pages limit c.loop-limit-test.true (read c.args.limits.now c.loop-limit.limit-index c.loop-limit-test.true) c.loop-limit.invariant
    (λ small few. elim c.then-limit-gt-MOST_PAGES.branch [
      | then-limit-gt-MOST_PAGES-via-then-limit-gt-MOST_PAGES w ↦ omega (arith, small, few, w.if-limit-gt-MOST_PAGES.true)
      | then-limit-gt-MOST_PAGES-via-else-limit-gt-MOST_PAGES+then-pages-limit-gt-MOST_PAGES_IN_ALL w ↦ omega (arith, small, few, w.if-pages-limit-gt-MOST_PAGES_IN_ALL.true)
    ])

pub loop-limit-preserved : goal.loop-limit-preserved
loop-limit-preserved c =
    let limit : Limit = slice_index_or c.args.limits.now c.loop-limit.limit-index no_limit in
    counted_more c.args.store.now c.args.limits.now c.loop-limit.limit-index c.loop-limit.pages limit c.loop-limit-test.true (read c.args.limits.now c.loop-limit.limit-index c.loop-limit-test.true) c.loop-limit.invariant
    c.if-limit-gt-MOST_PAGES.false c.if-pages-limit-gt-MOST_PAGES_IN_ALL.false

pub returns : goal.returns
returns c =
    counted_all c.args.store.now c.args.limits.now c.loop-limit.limit-index c.loop-limit.pages
    (let past : length c.args.limits.now ≤ c.loop-limit.limit-index = c.loop-limit-test.false in let end : c.loop-limit.limit-index ≤ length c.args.limits.now = c.loop-limit.auto.limit-index-end in omega (arith, past, end))
    c.loop-limit.invariant
