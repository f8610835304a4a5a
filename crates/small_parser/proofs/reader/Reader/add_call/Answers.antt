use Rattle.std.proofs.Common.{refl}
use Rattle.small_parser.specs.declared.script.Form.TheVariants as forms
use Rattle.small_parser.specs.Grammar as grammar
use Rattle.small_parser.proofs.Steps.{made, call_made}
use Rattle.small_parser.proofs.reader.Reader.add_call.Goals as goal

pub returns : goal.returns
returns c = λ k p a l outer h hl ha ho. (
  refl,
  made (grammar.call c.args.call.callee.now p c.args.call.place a k) (record c.args.self.now { level = c.args.outside }) c.add.new.nodes (forms.Call c.args.call.callee.now c.args.call.arguments) c.args.call.place c.in_ok-id.id l outer
      c.in_ok-id.ensures.id (rw c.in_ok-from_str.ensures at c.in_ok-id.ensures.nodes) (call_made c.args.self.now.nodes c.args.call.callee.now p c.args.call.place a k c.args.call.arguments ha) h hl ho,
)
