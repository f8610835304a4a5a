use Rattle.std.proofs.Common.{◌∙◌, refl, reverse}
use Rattle.small_parser.specs.Machine as machine
use Rattle.small_parser.proofs.Grow.{outer_kept, script_kept}
use Rattle.small_parser.proofs.Closes.{added_level}
use Rattle.small_parser.proofs.reader.Reader.added.Goals as goal

pub returns : goal.returns
returns c = λ o same f l outer h hf hl ho. (
  refl,
  (
    (script_kept c.args.self.now.nodes c.close_product.new.nodes (machine.script_of outer) c.args.self.now.top c.in_ok-node.ensures.grown h.0, h.1, h.2),
    (
      added_level l f o c.args.self.now.nodes c.close_product.new.nodes c.args.self.now.level (record { sum = c.push.new.self; product = c.replace-product.new.dest }) c.args.operand.0 (record { node = c.in_ok-node.node; operator = c.args.operator; place = c.args.place }) c.args.place
          c.in_ok-node.ensures.grown (rw c.replace-product.ensures.value at c.in_ok-node.ensures.shown) c.in_ok-push.ensures.ok (c.replace-product.ensures.after ∙ c.new.ensures) same refl hl hf,
      outer_kept c.args.self.now.nodes c.close_product.new.nodes outer (reverse c.args.self.now.outer.items) c.args.self.now.statement c.in_ok-node.ensures.grown ho,
    ),
  ),
)
