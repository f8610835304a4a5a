use Rattle.std.proofs.Common.{◌∙◌, ap, reverse, take}
use Rattle.host_parser.specs.Repeats.{is_declared}
use Rattle.host_parser.proofs.Keys.{one_seen, name_seen}
use Rattle.host_parser.proofs.again.repeated.Goals as goal

pub loop-one-preserved : goal.loop-one-preserved
loop-one-preserved c = record {
  left = one_seen c.args.declared.now c.loop-one.one-index c.one-item.result c.loop-one.found c.in_ok-found.found _ c.in_ok-is_new.is_new _ c.loop-one-test.true c.one-item.is c.in_ok-is_new.ensures.added
      (c.loop-one.invariant.known c.as_str.result ∙ ap (λ n. is_declared n (reverse (take c.loop-one.one-index c.args.declared.now))) c.as_str.ensures) c.in_ok-found.ensures c.loop-one.invariant.left;
  known = name_seen c.args.declared.now c.loop-one.one-index c.one-item.result c.as_str.result c.loop-one.names.keys c.insert.new.self.keys c.loop-one-test.true c.one-item.is c.as_str.ensures
      c.in_ok-is_new.ensures.updates.0 c.loop-one.invariant.known;
}
