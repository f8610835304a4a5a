use Rattle.std.proofs.Common.{◌≡◌, ◌≤◌, take}
use Rattle.host_lexer.specs.Numerals.{value_in, AreDigits}
use Rattle.host_lexer.proofs.numbers.digits_value.Given as goal

abbrev pub invariant-loop-c : goal.invariant-loop-c
invariant-loop-c l = record {
  so_far : l.value ≡ value_in l.radix (take l.c-index l.digits);
  are_digits : AreDigits l.radix (take l.c-index l.digits);
  small : l.value ≤ l.greatest;
}
