use Rattle.std.proofs.lemmas.Grind.{common_steps}
use Rattle.std.proofs.Common.{arith}
use Rattle.small_parser.proofs.Steps.{room_print, room_other}
use Rattle.small_parser.proofs.reader.Reader.has_room.Goals as goal

pub returns-in-Print : goal.returns-in-Print
returns-in-Print c = λ outer h. room_print outer c.args.self.now.nodes c.args.self.now.outer.items c.args.self.now.statement c.in-Print.field-0 c.len.result c.in-Print.field-1 c.in-Print.is (grind (arith, common_steps)) h

pub returns-in_default : goal.returns-in_default
returns-in_default c = λ outer h. room_other outer c.args.self.now.nodes c.args.self.now.outer.items c.args.self.now.statement c.len-in_default.result c.in_default.not-Print (grind (arith, common_steps)) h
