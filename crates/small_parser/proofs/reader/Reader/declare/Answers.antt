use Rattle.std.proofs.Common.{refl}
use Rattle.small_parser.specs.Grammar as grammar
use Rattle.small_parser.specs.Machine as machine
use Rattle.small_parser.proofs.Steps.{declares, knows_more}
use Rattle.small_parser.proofs.reader.Reader.declare.Goals as goal

pub returns : goal.returns
returns c = λ f l n q k hf hl s h alone. (
  refl,
  (
    (
      declares s c.args.place c.args.name.now n q (machine.sum_of l f) k c.args.self.now.nodes c.close_level.new.nodes c.add.new.nodes c.args.self.now.top c.push.new.self c.in_ok-value.value c.in_ok-id.id
          c.in_ok-value.ensures.grown (c.in_ok-value.ensures.shown l f (rw c.replace-level.ensures.value hl) hf) c.in_ok-id.ensures.id (rw c.in_ok-spelling.ensures at c.in_ok-id.ensures.nodes) c.in_ok-push.ensures.ok h.0,
      knows_more (grammar.declared_by s) c.args.self.now.names.keys c.insert.new.self.keys c.args.name c.in_ok-insert.ensures.updates.0 h.1,
      h.2,
    ),
    alone,
  ),
)
