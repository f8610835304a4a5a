use Rattle.std.proofs.Common.{◌-◌, length, length-drop, ap, arith, drop, take}
use Rattle.std.proofs.lemmas.List.{take_rest}
use Rattle.embed_cmd.proofs.Written.{more_written}
use Rattle.embed_cmd.proofs.write.write_whole.Goals as goal

pub loop-at-preserved : goal.loop-at-preserved
loop-at-preserved g c =
    let rest = take (length c.args.bytes.now - c.loop-at.at) (drop c.loop-at.at c.args.bytes.now) in
    record {
      within = omega (arith, c.in_ok-at.ensures.within, ap length (take_rest c.args.bytes.now c.loop-at.at), length-drop c.loop-at.at c.args.bytes.now);
      written = more_written (g.O.Sink.written c.args.out.now) (g.O.Sink.written c.loop-at.out) (g.O.Sink.written c.write.new.self) c.args.bytes.now rest c.loop-at.at c.in_ok-at.field-0
          c.loop-at.invariant.written (take_rest c.args.bytes.now c.loop-at.at) c.in_ok-at.ensures.taken;
      sound = omega (arith, c.in_ok-at.ensures.rose_failed, c.in_ok-at.ensures.faults_stay, c.loop-at.invariant.sound);
    }
