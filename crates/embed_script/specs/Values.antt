-- Values of scripts (ECMA-262, section 6.1, cut to the profile's first script form), and how `print` shows them.
use Rattle.std.specs.Prelude.{ℕ, List}
use Rattle.std.specs.Fmt.{signed_decimal}
use Rattle.embed_script.specs.declared.value.Value.{Value}
use Rattle.embed_script.specs.declared.value.Value.TheVariants as values

-- a Number shows in decimal, and a text as it is
abbrev pub shown_of : Value → List ℕ
shown_of (values.Number z) = signed_decimal z
shown_of (values.Text s) = s
