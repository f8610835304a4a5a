-- The texts so far, with those of the keys that are left, are all.
use Rattle.std.proofs.Common.{◌≡◌, ◌++◌, drop, map}
use Rattle.host_values.specs.KeyOrder.{text_of_key}
use Rattle.host_values.specs.declared.values.HostValue.TheVariants as values
use Rattle.host_builtins.proofs.object_keys.texts.Given as goal

abbrev pub invariant-loop-key : goal.invariant-loop-key
invariant-loop-key l = l.texts.items ++ map (λ k. values.Text (text_of_key k)) (drop l.key-index l.keys) ≡ map (λ k. values.Text (text_of_key k)) l.keys
