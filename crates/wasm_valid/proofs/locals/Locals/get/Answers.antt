use Rattle.std.proofs.Common.{◌≡◌, ◌∙◌, ap, slice_get, rules, of_calls, nat_le, length}
use Rattle.std.proofs.lemmas.Fn.{always_returns_same}
use Rattle.wasm_valid.proofs.LocalLaws.{parted, before_is, type_behind, found_type, no_type}
use Rattle.wasm_valid.specs.Views.{ends_from}
use Rattle.wasm_valid.proofs.locals.Locals.get.Goals as goal

pub returns-in-Some : goal.returns-in-Some
returns-in-Some c =
    let locals = c.self.inside in
    let ends : c.deref.result.now ≡ ends_from (length locals.params.now) locals.runs.now = c.deref.ensures.value ∙ c.self.invariant in
    let before = before_is (length locals.params.now) locals.runs.now c.deref.result.now c.args.index c.partition_point-before.result ends c.partition_point-before.ensures.bound
    (c.partition_point-before.ensures.partitioned (λ end. nat_le end c.args.index) (always_returns_same _ _ _ (λ a r f k. search (rules, of_calls)))
    (parted (length locals.params.now) locals.runs.now c.deref.result.now c.args.index ends)) in
    found_type locals.runs.now c.partition_point-before.result c.in-Some.run'.now c.in-Some.ensures.lookup.3.0 c.in-Some.ensures.lookup.1
    ∙ type_behind locals.params.now locals.runs.now c.args.index c.partition_point-before.result c.if-index-self.false before
    ∙ ap (λ types. slice_get types c.args.index) c.self.view_is

pub returns-in-None : goal.returns-in-None
returns-in-None c =
    let locals = c.self.inside in
    let ends : c.deref.result.now ≡ ends_from (length locals.params.now) locals.runs.now = c.deref.ensures.value ∙ c.self.invariant in
    let before = before_is (length locals.params.now) locals.runs.now c.deref.result.now c.args.index c.partition_point-before.result ends c.partition_point-before.ensures.bound
    (c.partition_point-before.ensures.partitioned (λ end. nat_le end c.args.index) (always_returns_same _ _ _ (λ a r f k. search (rules, of_calls)))
    (parted (length locals.params.now) locals.runs.now c.deref.result.now c.args.index ends)) in
    no_type locals.runs.now c.partition_point-before.result c.in-None.ensures.lookup.3
    ∙ type_behind locals.params.now locals.runs.now c.args.index c.partition_point-before.result c.if-index-self.false before
    ∙ ap (λ types. slice_get types c.args.index) c.self.view_is
