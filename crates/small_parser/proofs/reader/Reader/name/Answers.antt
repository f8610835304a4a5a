use Rattle.std.proofs.Common.{◌≡◌, ◌∙◌, sym, refl, true, false}
use Rattle.small_parser.specs.declared.script.Form.TheVariants as forms
use Rattle.small_parser.specs.Grammar as grammar
use Rattle.small_parser.specs.Machine as machine
use Rattle.small_parser.proofs.Steps.{made, name_made}
use Rattle.small_parser.proofs.reader.Reader.name.Goals as goal

pub returns : goal.returns
returns c = λ l outer h hl ho.
    let unbound : machine.is_known (grammar.bound_by (machine.script_of outer)) c.args.name.now ≡ false = sym (h.2 c.args.name) ∙ sym c.contains.ensures ∙ c.if-contains.false in
    let known : machine.is_known (grammar.declared_by (machine.script_of outer)) c.args.name.now ≡ true = sym (h.1 c.args.name) ∙ sym c.contains-2.ensures ∙ c.if-not-contains.false in
    rw (unbound, known) (
      refl,
      made (grammar.name c.args.name.now c.args.place) c.args.self.now c.add.new.nodes (forms.Name c.args.name.now) c.args.place c.in_ok-id.id l outer
          c.in_ok-id.ensures.id (rw c.in_ok-spelling.ensures at c.in_ok-id.ensures.nodes) (name_made c.args.self.now.nodes c.args.name.now c.args.place) h hl ho,
    )
