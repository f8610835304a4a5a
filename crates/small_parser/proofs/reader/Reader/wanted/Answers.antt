use Rattle.std.proofs.Common.{◌∙◌, refl}
use Rattle.small_parser.specs.declared.script.Form.TheVariants as forms
use Rattle.small_parser.specs.Grammar as grammar
use Rattle.small_parser.proofs.Steps.{made, number_made, text_made}
use Rattle.small_parser.proofs.reader.Reader.wanted.Goals as goal

pub returns-in_ok-id-in-Number : goal.returns-in_ok-id-in-Number
returns-in_ok-id-in-Number c = λ l outer h hl ho.
    rw c.in-Number.is (
      refl,
      made (grammar.number c.in-Number.value c.args.token.now.from) c.args.self.now c.add.new.nodes (forms.Number c.in-Number.value) c.args.token.now.from c.in_ok-id-in-Number.id l outer
          c.in_ok-id-in-Number.ensures.id c.in_ok-id-in-Number.ensures.nodes (number_made c.args.self.now.nodes c.in-Number.value c.args.token.now.from) h hl ho,
    )

pub returns-in_ok-id-in-Text : goal.returns-in_ok-id-in-Text
returns-in_ok-id-in-Text c = λ l outer h hl ho.
    rw c.in-Text.is (
      refl,
      made (grammar.text c.in-Text.text c.args.token.now.from) c.args.self.now c.add-in-Text.new.nodes (forms.Text c.in-Text.text) c.args.token.now.from c.in_ok-id-in-Text.id l outer
          c.in_ok-id-in-Text.ensures.id (rw (c.in_ok-inside-in-Text.ensures ∙ c.as_str.ensures) at c.in_ok-id-in-Text.ensures.nodes) (text_made c.args.self.now.nodes c.in-Text.text c.args.token.now.from) h hl ho,
    )
