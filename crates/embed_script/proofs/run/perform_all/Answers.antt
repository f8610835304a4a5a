use Rattle.std.proofs.Common.{◌≡◌, length, arith, ◌∙◌, sym, ap}
use Rattle.embed_script.specs.Outcome.{going, performed, run_of, transcript_of}
use Rattle.embed_script.proofs.Runs.{begun_left, first_left, performed_left, stopped_left, done_outcome, all_left, cut_first}
use Rattle.embed_script.proofs.Serving.{serves_none}
use Rattle.embed_script.proofs.run.perform_all.Goals as goal

pub loop-id-init : goal.loop-id-init
loop-id-init c = record {
  shown = λ d shows. all_left d c.args.nodes.now c.args.ids.now shows;
  run = λ d shows modules decoded. begun_left modules c.args.nodes.now c.args.budget d c.args.ids.now (record { names = c.new.result; state = record { store = c.new-2.result; left = c.args.budget }; text = c.new-3.result }) shows c.new.ensures.empty c.new-3.ensures.bytes (ap (λ s. record { store = s; left = c.args.budget }) c.new-2.ensures);
  serves = serves_none c.new.result c.new-2.result c.new.ensures.empty c.new-2.ensures;
}

pub perform-requires-clause-shows : goal.perform-requires-clause-shows
perform-requires-clause-shows c = (cut_first c.args.nodes.now c.args.ids.now c.loop-id.id-index (record { 0 = 0 }) c.loop-id-test.true (c.loop-id.invariant.shown c.requires.0 c.requires.1)).0

pub returns-in-Err-clause-exact : goal.returns-in-Err-clause-exact
returns-in-Err-clause-exact c = λ d shows modules decoded.
    let left = c.loop-id.invariant.run d shows modules decoded in
    let f = first_left modules c.args.nodes.now c.args.budget d c.args.ids.now c.loop-id.id-index (record { 0 = 0 }) c.loop-id.run c.loop-id-test.true left in
    c.stopped.ensures.exact (run_of modules c.args.budget d) (stopped_left modules c.args.budget d c.perform.new.self c.in-Err.stop (performed modules (going left.bindings c.loop-id.run.state left.lines) f.first) f.rest
    (c.in-Err.ensures.performs modules decoded left.bindings left.lines left.is_bound left.printed f.first f.first_shown) f.gives)

pub loop-id-preserved : goal.loop-id-preserved
loop-id-preserved c = record {
  shown = λ d shows. (cut_first c.args.nodes.now c.args.ids.now c.loop-id.id-index (record { 0 = 0 }) c.loop-id-test.true (c.loop-id.invariant.shown d shows)).1;
  run = λ d shows modules decoded.
      let left = c.loop-id.invariant.run d shows modules decoded in
      let f = first_left modules c.args.nodes.now c.args.budget d c.args.ids.now c.loop-id.id-index (record { 0 = 0 }) c.loop-id.run c.loop-id-test.true left in
      performed_left modules c.args.nodes.now c.args.budget d _ c.perform.new.self (performed modules (going left.bindings c.loop-id.run.state left.lines) f.first) f.rest
      (c.in-Ok.ensures.performs modules decoded left.bindings left.lines left.is_bound left.printed f.first f.first_shown) f.rest_shown f.gives;
  serves = c.in-Ok.ensures.serves;
}

pub returns-clause-exact : goal.returns-clause-exact
returns-clause-exact c = λ d shows modules decoded.
    let left = c.loop-id.invariant.run d shows modules decoded in
    let at_end : c.loop-id.id-index ≡ length c.args.ids.now = omega arith in
    let is = done_outcome modules c.args.nodes.now c.args.budget d c.args.ids.now c.loop-id.id-index c.loop-id.run at_end left in
    c.done.ensures.exact left.lines left.printed ∙ sym (ap transcript_of is)
