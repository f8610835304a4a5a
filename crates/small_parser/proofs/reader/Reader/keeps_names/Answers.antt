use Rattle.std.proofs.Common.{◌≡◌, ◌∙◌, sym, true}
use Rattle.small_parser.specs.Grammar.{reading_name, interface_name}
use Rattle.small_parser.proofs.Known.{lent, keeps_alone, reading_hidden, keeps_both}
use Rattle.small_parser.proofs.reader.Reader.keeps_names.Goals as goal

pub returns-then-is_empty : goal.returns-then-is_empty
returns-then-is_empty c = λ s h. keeps_alone s c.args.self.now.functions.keys h.2 (c.is_empty.ensures.0 c.if-is_empty.true)

pub returns-then-contains : goal.returns-then-contains
returns-then-contains c = λ s h. reading_hidden s c.args.self.now.functions.keys h.2 (λ e. let q : c.is_empty.result ≡ true = c.is_empty.ensures.1 e in let f = c.if-is_empty.false in cc)
    (sym (h.1 (lent reading_name)) ∙ sym c.contains.ensures ∙ c.if-contains.true)

pub returns : goal.returns
returns c = λ s h. keeps_both s c.args.self.now.functions.keys c.contains-2.result h.2 (λ e. let q : c.is_empty.result ≡ true = c.is_empty.ensures.1 e in let f = c.if-is_empty.false in cc)
    (sym (h.1 (lent reading_name)) ∙ sym c.contains.ensures ∙ c.if-contains.false) (sym (h.1 (lent interface_name)) ∙ sym c.contains-2.ensures)
