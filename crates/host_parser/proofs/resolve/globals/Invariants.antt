use Rattle.std.proofs.Common.{◌+◌, ◌≤◌, drop, length}
use Rattle.host_parser.proofs.Globals.{Numbers}
use Rattle.host_parser.proofs.resolve.globals.Given as goal

abbrev pub invariant-loop-one : goal.invariant-loop-one
invariant-loop-one l = record {
  numbers : Numbers l.declared l.numbering.scoped (drop l.one-index l.declared) l.numbering.function l.numbering.variable;
  function : l.numbering.function ≤ l.one-index;
  variable : l.numbering.variable ≤ length l.declared + l.one-index;
}
