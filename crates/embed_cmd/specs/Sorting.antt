-- Private: how words are sorted one after the other.
use Rattle.std.specs.Prelude.{ℕ, List, [], ◌∷◌, ◌++◌, Option, Some, None, codes, if◌then◌else◌}
use Rattle.std.specs.Option.{option_map, option_and_then}
use Rattle.std.specs.Str.{bytes_eq}
use Rattle.embed_cmd.specs.declared.sorting.Flag.{Flag}
use Rattle.embed_cmd.specs.declared.sorting.Flag.TheVariants as flags
use Rattle.embed_cmd.specs.declared.sorting.Next.{Next}
use Rattle.embed_cmd.specs.declared.sorting.Next.TheVariants as nexts
use Rattle.embed_cmd.specs.declared.sorting.Sorted.{Sorted}
use Rattle.embed_cmd.specs.declared.words.Asked.{Asked}
use Rattle.embed_cmd.specs.Words.{is_dashed, parts_of, asked_by}

-- the options' words
abbrev pub flag_of : List ℕ → Option Flag
flag_of word = if bytes_eq word (codes "--steps") then Some flags.Steps else if bytes_eq word (codes "--module") then Some flags.Module else None

-- an option and its value in one word: `--steps=V` or `--module=V`
abbrev pub flag_setting_of : List ℕ → Option (Flag × List ℕ)
flag_setting_of word = option_and_then (λ parts. option_map (λ flag. (flag, parts.1)) (flag_of parts.0)) (parts_of word)

-- words sorted by what they are for, with a value of an option before them
abbrev pub with_value : Flag → List ℕ → Sorted → Sorted
with_value flags.Steps value more = record { positional = more.positional; steps = value ∷ more.steps; modules = more.modules }
with_value flags.Module value more = record { positional = more.positional; steps = more.steps; modules = value ∷ more.modules }

-- and with a positional word before them
abbrev pub with_word : List ℕ → Sorted → Sorted
with_word word more = record { positional = word ∷ more.positional; steps = more.steps; modules = more.modules }

-- a word before others: an option with its value; an option that takes the next word; a word that is positional, unless it
-- begins with `-`
abbrev pub sorted_before : List ℕ → Option (Flag × List ℕ) → Option Flag → Option Sorted → (Flag → Option Sorted) → Option Sorted
sorted_before word (Some setting) flag more taking = option_map (with_value setting.0 setting.1) more
sorted_before word None (Some flag) more taking = taking flag
sorted_before word None None more taking = if is_dashed word then None else option_map (with_word word) more

abbrev mutual
  -- the words, sorted by what they are for
  pub sorted_of : List (List ℕ) → Option Sorted
  sorted_of [] = Some (record { positional = []; steps = []; modules = [] })
  sorted_of (word ∷ words) = sorted_before word (flag_setting_of word) (flag_of word) (sorted_of words) (λ flag. taking flag words)

  -- the words after an option that takes the next one as its value, which doesn't begin with `-`
  pub taking : Flag → List (List ℕ) → Option Sorted
  taking flag [] = None
  taking flag (word ∷ words) = if is_dashed word then None else option_map (with_value flag word) (sorted_of words)

-- what sorted words ask for
abbrev pub command_of_sorted : Sorted → Option Asked
command_of_sorted s = asked_by s.positional s.steps s.modules

-- the sorted words of two lists of words
abbrev pub joined : Sorted → Sorted → Sorted
joined first second = record { positional = first.positional ++ second.positional; steps = first.steps ++ second.steps; modules = first.modules ++ second.modules }

-- what the words that are left give after those that are sorted
abbrev pub sorted_after : Next → Sorted → List (List ℕ) → Option Sorted
sorted_after nexts.Word done words = option_map (joined done) (sorted_of words)
sorted_after (nexts.Value flag) done words = option_map (joined done) (taking flag words)
sorted_after nexts.Nothing done words = None
