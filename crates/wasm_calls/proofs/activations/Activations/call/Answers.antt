use Rattle.std.proofs.Common.{arith, ◌≤◌, ◌<◌, ◌+◌, length}
use Rattle.wasm_calls.specs.Calls.{most_frames}
use Rattle.wasm_calls.proofs.Calling.{call_comes, call_exhausts, call_lasts}
use Rattle.wasm_calls.proofs.activations.Activations.call.Goals as goal

pub returns-then-len-ge-MOST_FRAMES-clause-comes :
    goal.returns-then-len-ge-MOST_FRAMES-clause-comes
returns-then-len-ge-MOST_FRAMES-clause-comes c =
    let full : most_frames ≤ length c.args.self.now.outer.items + 1 = omega (arith, c.if-len-ge-MOST_FRAMES.true, c.len.ensures, c.args.self.now.outer.ok.0) in
    call_exhausts c.args.store.now c.args.self.now.outer.items c.args.self.now.top c.args.func c.args.args.items c.args.self.now.left full

pub returns-clause-comes : goal.returns-clause-comes
returns-clause-comes c =
    let few : length c.args.self.now.outer.items + 1 < most_frames = omega (arith, c.if-len-ge-MOST_FRAMES.false, c.len.ensures, c.args.self.now.outer.ok.0) in
    call_comes c.args.store.now c.args.self.now.outer.items c.push.new.self.items c.args.self.now.top c.replace-waiting.result c.in_ok-frame.frame c.replace-waiting.new.dest c.args.func c.args.args.items c.as_slice.result.now c.args.self.now.left
    few c.in_ok-frame.ensures.stands c.as_slice.ensures.value c.replace-waiting.ensures.after c.replace-waiting.ensures.value c.in_ok-push.ensures.items

pub returns-clause-lasts : goal.returns-clause-lasts
returns-clause-lasts c = λ R h.
    let few : length c.args.self.now.outer.items + 1 < most_frames = omega (arith, c.if-len-ge-MOST_FRAMES.false, c.len.ensures, c.args.self.now.outer.ok.0) in
    call_lasts c.args.store.now R c.args.self.now c.args.func c.args.args c.in_ok-frame.frame c.replace-waiting.new.dest c.replace-waiting.result c.push.new.self
    few c.replace-waiting.ensures.after c.replace-waiting.ensures.value c.in_ok-push.ensures.items c.in_ok-frame.ensures.fits h
