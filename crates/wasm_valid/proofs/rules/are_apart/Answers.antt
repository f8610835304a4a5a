use Rattle.std.proofs.Common.{ℕ, List, ◌∙◌, sym, ap}
use Rattle.std.specs.List.{list_any}
use Rattle.std.specs.Cmp.Lexicographic.{slice_cmp}
use Rattle.std.specs.Ordering.{is_eq, nat_cmp}
use denote.Ref.{Bor}
use Rattle.wasm_valid.proofs.NameLaws.{all_fresh, fresh_end, knows_next, name_at, repeated, goes_on, was_there, was_new}
use Rattle.wasm_valid.proofs.rules.are_apart.Goals as goal

pub loop-export-init : goal.loop-export-init
loop-export-init c = record {
  left = all_fresh c.args.exports.now;
  known = λ q. ap (λ (keys : List (Bor (List ℕ))). list_any (λ k. is_eq (slice_cmp nat_cmp q.now k.now)) keys) c.new-names.ensures.empty;
}

pub returns-then-not-is_new : goal.returns-then-not-is_new
returns-then-not-is_new c =
    repeated c.args.exports.now c.loop-export.export-index c.export-item.result c.as_str.result.now c.loop-export-test.true c.export-item.is c.as_str.ensures
    (sym (c.loop-export.invariant.known c.as_str.result) ∙ was_there _ _ c.in_ok-is_new.ensures.added c.if-not-is_new.true) c.loop-export.invariant.left

pub loop-export-preserved : goal.loop-export-preserved
loop-export-preserved c = record {
  left = goes_on c.args.exports.now c.loop-export.export-index c.export-item.result c.as_str.result.now c.loop-export-test.true c.export-item.is c.as_str.ensures
      (sym (c.loop-export.invariant.known c.as_str.result) ∙ was_new _ _ c.in_ok-is_new.ensures.added c.if-not-is_new.false) c.loop-export.invariant.left;
  known = knows_next c.args.exports.now c.loop-export.export-index c.export-item.result c.as_str.result c.loop-export.names.keys c.insert.new.self.keys c.loop-export-test.true
      (name_at c.args.exports.now c.loop-export.export-index c.export-item.result c.as_str.result.now c.export-item.is c.as_str.ensures)
      c.in_ok-is_new.ensures.updates.0 c.loop-export.invariant.known;
}

pub returns : goal.returns
returns c = sym (c.loop-export.invariant.left ∙ fresh_end c.args.exports.now c.loop-export.export-index c.loop-export-test.false)
