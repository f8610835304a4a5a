-- Private: an order of values of scripts, by their type and then by what they hold.
use Rattle.std.specs.Prelude.{ℕ, ℤ, pos, List, [], if◌then◌else◌}
use Rattle.std.specs.Ordering.{nat_cmp, int_cmp, on, then_cmp}
use Rattle.std.specs.declared.cmp.Ordering.{Ordering}
use Rattle.std.specs.Cmp.{IsTotalOrder}
use Rattle.std.specs.Cmp.Lexicographic.{slice_cmp}
use Rattle.std.proofs.lemmas.Cmp.{nat_cmp_total, int_cmp_total, nat_list_cmp_total, on_total, then_total}
use Rattle.host_values.specs.declared.values.HostValue.{HostValue}
use Rattle.host_values.specs.declared.values.HostValue.TheVariants as values

-- the number of a value's type
abbrev pub rank : HostValue → ℕ
rank values.Undefined = 0
rank values.Null = 1
rank (values.Bool b) = 2
rank (values.Number z) = 3
rank (values.BigInt z) = 4
rank (values.Text s) = 5
rank (values.Object o) = 6

-- the number that it holds, where it holds one
abbrev pub number : HostValue → ℤ
number values.Undefined = pos 0
number values.Null = pos 0
number (values.Bool b) = if b then pos 1 else pos 0
number (values.Number z) = z
number (values.BigInt z) = z
number (values.Text s) = pos 0
number (values.Object o) = pos o.0

-- the text that it holds, where it holds one
abbrev pub text : HostValue → List ℕ
text values.Undefined = []
text values.Null = []
text (values.Bool b) = []
text (values.Number z) = []
text (values.BigInt z) = []
text (values.Text s) = s
text (values.Object o) = []

abbrev pub value_cmp : HostValue → HostValue → Ordering
value_cmp = then_cmp (on rank nat_cmp) (then_cmp (on number int_cmp) (on text (slice_cmp nat_cmp)))

pub value_cmp_total : IsTotalOrder value_cmp
value_cmp_total = then_total (on_total rank nat_cmp_total) (then_total (on_total number int_cmp_total) (on_total text nat_list_cmp_total))
