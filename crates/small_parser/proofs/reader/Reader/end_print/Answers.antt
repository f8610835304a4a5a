use Rattle.std.proofs.Common.{◌≡◌, refl, Some, rules}
use Rattle.small_parser.specs.Grammar as grammar
use Rattle.small_parser.specs.Machine as machine
use Rattle.small_parser.proofs.Steps.{prints}
use Rattle.small_parser.proofs.reader.Reader.end_print.Goals as goal

pub returns-in_ok-push-in-Mark-Semicolon : goal.returns-in_ok-push-in-Mark-Semicolon
returns-in_ok-push-in-Mark-Semicolon c = λ o a k ha s h alone.
    let next : machine.print_ended s c.args.place o a k c.args.token.now.from c.args.token.now.kind ≡ Some (machine.items (grammar.printing s c.args.place o a k c.args.token.now.from)) = search rules in
    rw next (
      refl,
      (
        (
          prints s c.args.place o a k c.args.token.now.from c.args.self.now.nodes c.add.new.nodes c.args.self.now.top c.push.new.self c.args.arguments c.in_ok-id-in-Mark-Semicolon.id
              ha c.in_ok-id-in-Mark-Semicolon.ensures.id c.in_ok-id-in-Mark-Semicolon.ensures.nodes c.in_ok-push-in-Mark-Semicolon.ensures.ok h.0,
          h.1,
          h.2,
        ),
        alone,
      ),
    )
