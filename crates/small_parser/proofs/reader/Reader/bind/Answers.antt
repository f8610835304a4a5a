use Rattle.std.proofs.Common.{◌∙◌, refl}
use Rattle.small_parser.specs.Grammar as grammar
use Rattle.small_parser.proofs.Steps.{binds, knows_more}
use Rattle.small_parser.proofs.reader.Reader.bind.Goals as goal

pub returns : goal.returns
returns c = λ n q k i f1 f2 s h alone. (
  refl,
  (
    (
      binds s c.args.place c.args.name.now n q i k c.args.self.now.nodes c.add.new.nodes c.args.self.now.top c.push.new.self c.in_ok-id.id c.in_ok-from_str-2.field-0 c.in_ok-from_str-3.field-0
          (c.in_ok-from_str-2.ensures ∙ f1) (c.in_ok-from_str-3.ensures ∙ f2) c.in_ok-id.ensures.id (rw c.in_ok-from_str.ensures at c.in_ok-id.ensures.nodes) c.in_ok-push.ensures.ok h.0,
      knows_more (grammar.declared_by s) c.args.self.now.names.keys c.insert.new.self.keys c.args.name c.in_ok-insert.ensures.updates.0 h.1,
      knows_more (grammar.bound_by s) c.args.self.now.functions.keys c.insert-2.new.self.keys c.args.name c.in_ok-insert-2.ensures.updates.0 h.2,
    ),
    alone,
  ),
)
