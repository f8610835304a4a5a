-- Sorting the words gives what their parts give.
use Rattle.std.proofs.Common.{◌≡◌, ℕ, List, [], ◌∷◌, Option, Some, None, Bool, true, false, cond, codes, refl, sym, ap, ◌∙◌}
use Rattle.std.specs.Option.{option_map, option_and_then}
use Rattle.std.specs.Str.{bytes_eq}
use Rattle.embed_cmd.specs.declared.sorting.Flag.{Flag}
use Rattle.embed_cmd.specs.declared.sorting.Flag.TheVariants as flags
use Rattle.embed_cmd.specs.declared.sorting.Sorted.{Sorted}
use Rattle.embed_cmd.specs.declared.words.Asked.{Asked}
use Rattle.embed_cmd.specs.Words.{Part, positional, budget, module_file, is_dashed, parts_of, option_of, setting_of, before, placed, parts_in, value_in, positional_words, budget_values, module_values, asked_by, command_of}
use Rattle.embed_cmd.specs.Sorting.{flag_of, flag_setting_of, with_value, with_word, sorted_before, sorted_of, taking, command_of_sorted}

abbrev part_for : Flag → List ℕ → Part
part_for flags.Steps = budget
part_for flags.Module = module_file

abbrev with_flag : Flag × List ℕ → Part
with_flag s = part_for s.0 s.1

abbrev sorted_from : List Part → Sorted
sorted_from parts = record { positional = positional_words parts; steps = budget_values parts; modules = module_values parts }

two_tests : (a b : Bool) → cond a (Some budget) (cond b (Some module_file) None) ≡ option_map part_for (cond a (Some flags.Steps) (cond b (Some flags.Module) None))
two_tests true b = refl
two_tests false true = refl
two_tests false false = refl

option_is : (word : List ℕ) → option_of word ≡ option_map part_for (flag_of word)
option_is word = two_tests (bytes_eq word (codes "--steps")) (bytes_eq word (codes "--module"))

given_value : (value : List ℕ) (flag : Option Flag) → option_map (λ option. option value) (option_map part_for flag) ≡ option_map with_flag (option_map (λ f. (f, value)) flag)
given_value value None = refl
given_value value (Some f) = refl

in_parts : (parts : Option (List ℕ × List ℕ)) → option_and_then (λ p. option_map (λ option. option p.1) (option_of p.0)) parts ≡ option_map with_flag (option_and_then (λ p. option_map (λ f. (f, p.1)) (flag_of p.0)) parts)
in_parts None = refl
in_parts (Some p) = ap (λ o. option_map (λ option. option p.1) o) (option_is p.0) ∙ given_value p.1 (flag_of p.0)

setting_is : (word : List ℕ) → setting_of word ≡ option_map with_flag (flag_setting_of word)
setting_is word = in_parts (parts_of word)

value_before : (flag : Flag) (value : List ℕ) (more : Option (List Part)) → option_map (with_value flag value) (option_map sorted_from more) ≡ option_map sorted_from (before (part_for flag value) more)
value_before flag value None = refl
value_before flags.Steps value (Some parts) = refl
value_before flags.Module value (Some parts) = refl

word_before : (word : List ℕ) (more : Option (List Part)) → option_map (with_word word) (option_map sorted_from more) ≡ option_map sorted_from (before (positional word) more)
word_before word None = refl
word_before word (Some parts) = refl

unless : (b : Bool) (x : Option Sorted) (y : Option (List Part)) → x ≡ option_map sorted_from y → cond b None x ≡ option_map sorted_from (cond b None y)
unless true x y h = refl
unless false x y h = h

placed_is : (word : List ℕ) (setting : Option (Flag × List ℕ)) (flag : Option Flag) (more : Option (List Part)) (taken : Flag → Option Sorted) (next : (List ℕ → Part) → Option (List Part))
    → ((f : Flag) → taken f ≡ option_map sorted_from (next (part_for f)))
    → sorted_before word setting flag (option_map sorted_from more) taken ≡ option_map sorted_from (placed word (option_map with_flag setting) (option_map part_for flag) more next)
placed_is word (Some s) flag more taken next h = value_before s.0 s.1 more
placed_is word None (Some f) more taken next h = h f
placed_is word None None more taken next h = unless (is_dashed word) (option_map (with_word word) (option_map sorted_from more)) (before (positional word) more) (word_before word more)

mutual
  sorted_is : (words : List (List ℕ)) → sorted_of words ≡ option_map sorted_from (parts_in words)
  sorted_is [] = refl
  sorted_is (word ∷ words) =
      ap (λ more. sorted_before word (flag_setting_of word) (flag_of word) more (λ flag. taking flag words)) (sorted_is words)
      ∙ placed_is word (flag_setting_of word) (flag_of word) (parts_in words) (λ flag. taking flag words) (λ option. value_in option words) (λ f. taking_is f words)
      ∙ ap (λ s. option_map sorted_from (placed word s (option_map part_for (flag_of word)) (parts_in words) (λ option. value_in option words))) (sym (setting_is word))
      ∙ ap (λ o. option_map sorted_from (placed word (setting_of word) o (parts_in words) (λ option. value_in option words))) (sym (option_is word))

  taking_is : (flag : Flag) (words : List (List ℕ)) → taking flag words ≡ option_map sorted_from (value_in (part_for flag) words)
  taking_is flag [] = refl
  taking_is flag (word ∷ words) =
      ap (λ more. cond (is_dashed word) None (option_map (with_value flag word) more)) (sorted_is words)
      ∙ unless (is_dashed word) (option_map (with_value flag word) (option_map sorted_from (parts_in words))) (before (part_for flag word) (parts_in words)) (value_before flag word (parts_in words))

of_sorted : (parts : Option (List Part)) → option_and_then command_of_sorted (option_map sorted_from parts) ≡ option_and_then (λ ps. asked_by (positional_words ps) (budget_values ps) (module_values ps)) parts
of_sorted None = refl
of_sorted (Some parts) = refl

-- what sorted words ask for is what the words ask for
pub command_is : (words : List (List ℕ)) → option_and_then command_of_sorted (sorted_of words) ≡ command_of words
command_is words = ap (λ s. option_and_then command_of_sorted s) (sorted_is words) ∙ of_sorted (parts_in words)
