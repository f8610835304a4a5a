use Rattle.std.proofs.Common.{sym}
use Rattle.host_parser.specs.Predefined.{all}
use Rattle.host_parser.proofs.Missed.{missed}
use Rattle.host_parser.proofs.predefined.predefined_of.Goals as goal

pub returns-in_default : goal.returns-in_default
returns-in_default c = sym (missed c.args.name.now all (
  c.in_default.not-print,
  (
    c.in_default.not-readbuffer,
    (
      c.in_default.not-utf8Text,
      (
        c.in_default.not-Object,
        (
          c.in_default.not-BigInt,
          (
            c.in_default.not-Number,
            (
              c.in_default.not-String,
              (c.in_default.not-Promise, (c.in_default.not-Uint8Array, (c.in_default.not-Error, (c.in_default.not-TypeError, (c.in_default.not-RangeError, (c.in_default.not-ReferenceError, (c.in_default.not-SyntaxError, (c.in_default.not-WebAssembly, tt)))))))),
            ),
          ),
        ),
      ),
    ),
  ),
))
