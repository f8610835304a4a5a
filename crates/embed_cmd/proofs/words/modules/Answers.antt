use Rattle.std.proofs.Common.{◌≡◌, ◌+◌, Some, true, false, drop, get_or, length, arith, sym, ap, ◌∙◌, subst}
use Rattle.embed_cmd.specs.Words.{module_of}
use Rattle.embed_cmd.proofs.Modules.{ModulesLeft, has_name, too_many, next_module, module_twice, all_modules}
use Rattle.embed_cmd.proofs.words.modules.Goals as goal

pub returns-then-values-gt-MOST_MODULES : goal.returns-then-values-gt-MOST_MODULES
returns-then-values-gt-MOST_MODULES c = too_many c.args.values.now c.if-values-gt-MOST_MODULES.true

pub returns-then-has_name : goal.returns-then-has_name
returns-then-has_name c =
    let is : module_of (get_or c.args.values.now c.loop-value.value-index c.value-item.result) ≡ Some c.in-Some.module =
    ap module_of (sym c.value-item.is) ∙ ap module_of (sym c.as_str.ensures) ∙ sym c.in_ok-module.ensures ∙ c.in-Some.is in
    let old : has_name c.loop-value.modules c.in-Some.module.0 ≡ true =
    ap (λ ms. has_name ms c.in-Some.module.0) (sym c.as_slice.ensures) ∙ ap (λ n. has_name c.as_slice.result.now n) (sym c.as_str-in-loop-value.ensures) ∙ sym c.has_name.ensures ∙ c.if-has_name.true in
    module_twice c.args.values.now c.loop-value.value-index c.value-item.result c.loop-value.modules c.in-Some.module c.loop-value-test.true c.loop-value.invariant is old

pub loop-value-preserved : goal.loop-value-preserved
loop-value-preserved c =
    let is : module_of (get_or c.args.values.now c.loop-value.value-index c.value-item.result) ≡ Some c.in-Some.module =
    ap module_of (sym c.value-item.is) ∙ ap module_of (sym c.as_str.ensures) ∙ sym c.in_ok-module.ensures ∙ c.in-Some.is in
    let new : has_name c.loop-value.modules c.in-Some.module.0 ≡ false =
    ap (λ ms. has_name ms c.in-Some.module.0) (sym c.as_slice.ensures) ∙ ap (λ n. has_name c.as_slice.result.now n) (sym c.as_str-in-loop-value.ensures) ∙ sym c.has_name.ensures ∙ c.if-has_name.false in
    let next = next_module c.args.values.now c.loop-value.value-index c.value-item.result c.loop-value.modules c.in-Some.module c.loop-value-test.true c.loop-value.invariant is new in
    subst (λ ms. ModulesLeft c.args.values.now (drop (c.loop-value.value-index + 1) c.args.values.now) ms) (sym c.in_ok-push.ensures.ok) next

pub returns : goal.returns
returns c =
    let at_end : c.loop-value.value-index ≡ length c.args.values.now = omega arith in
    all_modules c.args.values.now c.loop-value.value-index c.loop-value.modules at_end c.if-values-gt-MOST_MODULES.false c.loop-value.invariant
