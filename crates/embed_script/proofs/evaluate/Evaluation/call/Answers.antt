-- The last values of a call, and what the call makes of them.
use Rattle.std.proofs.Common.{◌≡◌, ◌-◌, ◌∷◌, ◌∙◌, suc, length, reverse, drop, subst, sym, ap, refl, arith, Ok}
use Rattle.std.proofs.lemmas.List.{length-take}
use Rattle.embed_script.specs.Evaluation.{called}
use Rattle.embed_script.specs.Tasks.{perform, Fits, Steps}
use Rattle.embed_script.specs.Stops.{Ends}
use Rattle.embed_script.proofs.Steps.{call_gives, call_ends, to_end}
use Rattle.embed_script.proofs.evaluate.Evaluation.call.Goals as goal

pub returns-in-Ok-clause-steps : goal.returns-in-Ok-clause-steps
returns-in-Ok-clause-steps c = λ nodes b bound ts todos fits.
    let old = c.args.self.now.values.items in
    let left = c.args.state.now in
    let at = c.len.result - c.args.count in
    let is : at ≡ length old - c.args.count = ap (λ k. k - c.args.count) (c.len.ensures ∙ c.args.self.now.values.ok.0) in
    let whole = to_end c.as_slice.result.now at ∙ ap (λ vs. drop at vs) c.as_slice.ensures.value in
    let gave = subst (λ vs. called c.args.place (b c.args.callee.now) vs left ≡ Ok (c.in-Ok.value, c.call_named.new.state)) whole (c.in-Ok.ensures.meets b bound) in
    let long : length c.truncate.new.self.items ≡ length old - c.args.count = omega (arith, ap length c.truncate.ensures.items, length-take at old, is) in
    let enough = subst (Fits ts) (ap suc (sym long)) fits.1 in
    subst (λ a. Steps c.give.result nodes b a c.give.new.self.tasks c.give.new.self.values c.call_named.new.state)
    (sym (call_gives b c.args.callee.now c.args.place c.args.count at left c.call_named.new.state ts old c.in-Ok.value fits.0 is gave ∙ ap (λ vs. perform b ts (c.in-Ok.value ∷ reverse vs) c.call_named.new.state) (sym c.truncate.ensures.items)))
    (c.give.ensures.steps nodes b c.call_named.new.state (Ok c.in-Ok.value) ts refl todos enough)

pub returns-in-Err-clause-steps : goal.returns-in-Err-clause-steps
returns-in-Err-clause-steps c = λ nodes b bound ts todos fits.
    let old = c.args.self.now.values.items in
    let left = c.args.state.now in
    let at = c.len.result - c.args.count in
    let is : at ≡ length old - c.args.count = ap (λ k. k - c.args.count) (c.len.ensures ∙ c.args.self.now.values.ok.0) in
    let whole = to_end c.as_slice.result.now at ∙ ap (λ vs. drop at vs) c.as_slice.ensures.value in
    call_ends b c.args.callee.now c.args.place c.args.count at left ts old c.in-Err.stop fits.0 is
    (subst (λ vs. Ends c.in-Err.stop (called c.args.place (b c.args.callee.now) vs left)) whole (c.in-Err.ensures.meets b bound))
