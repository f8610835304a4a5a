use Rattle.std.proofs.Common.{List, ℕ, refl, ◌≡◌, length, arith}
use Rattle.std.proofs.lemmas.Result.{err_from_is_err_and}
use Rattle.std.specs.HashMap.{get_by_text}
use Rattle.std.specs.Option.{option_map}
use Rattle.embed_script.specs.Tasks.{values_of, binding_of}
use Rattle.embed_script.proofs.Lines.{front, value_done, end_of_all, all_done}
use Rattle.embed_script.proofs.run.evaluate_all.Goals as goal

pub evaluate-requires-clause-shows : goal.evaluate-requires-clause-shows
evaluate-requires-clause-shows c =
    let b = λ (name : List ℕ). option_map binding_of (get_by_text c.args.names.now name) in
    let f = front c.args.nodes.now b (values_of b c.requires.shows.0 c.args.state.now) c.args.ids.now c.loop-id.id-index (record { 0 = 0 }) c.loop-id.values.items c.loop-id.state c.loop-id-test.true (c.loop-id.invariant.gives b (λ name. refl) c.requires.shows.0 c.requires.shows.1) in
    (f.first, f.first_shown)

pub returns-in_err-value-clause-meets : goal.returns-in_err-value-clause-meets
returns-in_err-value-clause-meets c = λ b bound es shows.
    let p = err_from_is_err_and c.from_residual.result c.from_residual.ensures.1 in
    let f = front c.args.nodes.now b (values_of b es c.args.state.now) c.args.ids.now c.loop-id.id-index (record { 0 = 0 }) c.loop-id.values.items c.loop-id.state c.loop-id-test.true (c.loop-id.invariant.gives b bound es shows) in
    rw (p.1, p.2) (end_of_all c.args.nodes.now b (values_of b es c.args.state.now) _ _ c.loop-id.values.items c.loop-id.state c.in_err-value.field-0.0 f (c.in_err-value.ensures.meets b bound f.first f.first_shown))

pub loop-id-preserved : goal.loop-id-preserved
loop-id-preserved c = record {
  gives = λ b bound es shows.
      let f = front c.args.nodes.now b (values_of b es c.args.state.now) c.args.ids.now c.loop-id.id-index (record { 0 = 0 }) c.loop-id.values.items c.loop-id.state c.loop-id-test.true (c.loop-id.invariant.gives b bound es shows) in
      value_done c.args.nodes.now b (values_of b es c.args.state.now) _ _ c.in_ok-value.value c.loop-id.values.items c.push.new.self.items c.loop-id.state c.evaluate.new.state f (c.in_ok-value.ensures.meets b bound f.first f.first_shown) c.in_ok-push.ensures.items;
  serves = c.in_ok-value.ensures.serves;
}

pub returns-clause-meets : goal.returns-clause-meets
returns-clause-meets c = λ b bound es shows.
    let at_end : c.loop-id.id-index ≡ length c.args.ids.now = omega arith in
    all_done c.args.nodes.now b (values_of b es c.args.state.now) c.args.ids.now c.loop-id.id-index c.loop-id.values.items c.loop-id.state at_end (c.loop-id.invariant.gives b bound es shows)
