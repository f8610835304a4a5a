use Rattle.std.proofs.Common.{◌≡◌, ◌≤◌, take}
use Rattle.small_lexer.specs.Tokens.{value_of, greatest_number}
use Rattle.small_lexer.proofs.number.number_value.Given as goal

abbrev pub invariant-loop-digit : goal.invariant-loop-digit
invariant-loop-digit l = record { so_far : l.value ≡ value_of (take l.digit-index l.digits); small : l.value ≤ greatest_number }
