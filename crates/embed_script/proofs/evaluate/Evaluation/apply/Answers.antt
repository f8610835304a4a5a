-- The last two values, and what an operator makes of them.
use Rattle.std.proofs.Common.{◌≡◌, ◌++◌, ◌∷◌, [], suc, length, subst, sym, ap, ◌∙◌, arith, length-append}
use Rattle.std.specs.Option.{option_to_list}
use Rattle.embed_script.specs.Ends.{at_place}
use Rattle.embed_script.specs.Operators.{operate}
use Rattle.embed_script.specs.Tasks.{applies, applied, perform, Fits, Steps}
use Rattle.embed_script.proofs.Steps.{two_on_top}
use Rattle.embed_script.proofs.evaluate.Evaluation.apply.Goals as goal

pub returns-clause-steps : goal.returns-clause-steps
returns-clause-steps c = λ nodes b state ts todos fits.
    let old = c.args.self.now.values.items in
    let mid = c.pop.new.self.items in
    let rest = c.pop-2.new.self.items in
    let right = c.unwrap-right.result in
    let left = c.unwrap-left.result in
    let first : old ≡ mid ++ right ∷ [] = c.pop.ensures.items ∙ ap (λ o. mid ++ option_to_list o) c.unwrap-right.ensures in
    let second : mid ≡ rest ++ left ∷ [] = c.pop-2.ensures.items ∙ ap (λ o. rest ++ option_to_list o) c.unwrap-left.ensures in
    let long : length old ≡ suc (suc (length rest)) = omega (arith, ap length first, ap length second, length-append mid (right ∷ []), length-append rest (left ∷ [])) in
    let enough = subst (Fits (applies c.args.operator c.args.place ∷ ts)) long fits in
    subst (λ vs. Steps c.give.result nodes b (applied c.args.operator c.args.place vs state (perform b ts)) c.give.new.self.tasks c.give.new.self.values state)
    (sym (two_on_top old mid rest left right first second))
    (c.give.ensures.steps nodes b state (at_place c.args.place (operate c.args.operator left right)) ts c.operate.ensures todos enough)
