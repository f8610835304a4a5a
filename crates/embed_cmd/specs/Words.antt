-- The command line: the words after the program's name, and what they ask for.
use Rattle.std.specs.Prelude.{ℕ, List, [], ◌∷◌, length, Option, Some, None, Bool, true, false, not, ◌&&◌, ◌==◌, nat_lt, nat_le, codes, map, string_bytes, if◌then◌else◌}
use Rattle.std.specs.Option.{option_map, option_and_then}
use Rattle.std.specs.List.{list_any, list_all, position_or_len, before_first, after_first}
use Rattle.std.specs.Str.{bytes_eq}
use Rattle.std.specs.Char.{is_ascii_digit}
use Rattle.std.specs.Str.Parse.{digits_value}
use Rattle.std.specs.declared.alloc.Global.{Global}
use Rattle.std.specs.declared.string.String.{String}
use Rattle.embed_cmd.specs.declared.words.Asked.{Asked}

-- the words as bytes
abbrev pub texts_of : List (String Global) → List (List ℕ)
texts_of words = map string_bytes words

-- a word begins with `-`
abbrev pub is_dashed : List ℕ → Bool
is_dashed [] = false
is_dashed (c ∷ cs) = c == 45

-- what stands before and after the first `=`, where there is one
abbrev pub parts_of : List ℕ → Option (List ℕ × List ℕ)
parts_of word =
    if nat_lt (position_or_len (λ c. c == 61) word) (length word) then Some (before_first (λ c. c == 61) word, after_first (λ c. c == 61) word) else None

-- What a word, or an option with the next word, is.
pub data Part : Type 0 where
  positional : List ℕ → Part
  -- the value of `--steps`
  budget : List ℕ → Part
  -- the value of `--module`
  module_file : List ℕ → Part

-- an option's word, which takes a value
abbrev pub option_of : List ℕ → Option (List ℕ → Part)
option_of word = if bytes_eq word (codes "--steps") then Some budget else if bytes_eq word (codes "--module") then Some module_file else None

-- an option and its value in one word: `--steps=V` or `--module=V`
abbrev pub setting_of : List ℕ → Option Part
setting_of word = option_and_then (λ parts. option_map (λ option. option parts.1) (option_of parts.0)) (parts_of word)

abbrev pub before : Part → Option (List Part) → Option (List Part)
before part more = option_map (λ parts. part ∷ parts) more

-- a word before others: an option with its value; an option that takes the next word; a word that is positional, unless it begins
-- with `-`
abbrev pub placed : List ℕ → Option Part → Option (List ℕ → Part) → (more : Option (List Part)) → (taking : (List ℕ → Part) → Option (List Part)) → Option (List Part)
placed word (Some part) option more taking = before part more
placed word None (Some option) more taking = taking option
placed word None None more taking = if is_dashed word then None else before (positional word) more

abbrev mutual
  -- the words, each by what it is
  pub parts_in : List (List ℕ) → Option (List Part)
  parts_in [] = Some []
  parts_in (word ∷ words) = placed word (setting_of word) (option_of word) (parts_in words) (λ option. value_in option words)

  -- the words after an option that takes the next one as its value, which doesn't begin with `-`
  pub value_in : (List ℕ → Part) → List (List ℕ) → Option (List Part)
  value_in option [] = None
  value_in option (word ∷ words) = if is_dashed word then None else before (option word) (parts_in words)

abbrev pub positional_words : List Part → List (List ℕ)
positional_words [] = []
positional_words (positional word ∷ parts) = word ∷ positional_words parts
positional_words (budget value ∷ parts) = positional_words parts
positional_words (module_file value ∷ parts) = positional_words parts

abbrev pub budget_values : List Part → List (List ℕ)
budget_values [] = []
budget_values (positional word ∷ parts) = budget_values parts
budget_values (budget value ∷ parts) = value ∷ budget_values parts
budget_values (module_file value ∷ parts) = budget_values parts

abbrev pub module_values : List Part → List (List ℕ)
module_values [] = []
module_values (positional word ∷ parts) = module_values parts
module_values (budget value ∷ parts) = module_values parts
module_values (module_file value ∷ parts) = value ∷ module_values parts

-- the script's path: the positional words are `run` and a path that isn't empty
abbrev pub script_of : List (List ℕ) → Option (List ℕ)
script_of (word ∷ path ∷ []) = if bytes_eq word (codes "run") && nat_lt 0 (length path) then Some path else None
script_of _ = None

-- the units of a budget: at most so many, and so many where the words name none
abbrev pub most_budget : ℕ
most_budget = 1000000000000

abbrev pub usual_budget : ℕ
usual_budget = 10000000

-- 1 to 13 digits
abbrev pub is_short_number : List ℕ → Bool
is_short_number value = nat_lt 0 (length value) && (nat_le (length value) 13 && list_all is_ascii_digit value)

-- the units that a value names: the number of its digits, which is in the limit
abbrev pub units_of : List ℕ → Option ℕ
units_of value = if is_short_number value && nat_le (digits_value 10 value) most_budget then Some (digits_value 10 value) else None

-- `--steps` stands at most once
abbrev pub budget_of : List (List ℕ) → Option ℕ
budget_of [] = Some usual_budget
budget_of (value ∷ []) = units_of value
budget_of _ = None

-- a module's name and path, which aren't empty
abbrev pub module_of : List ℕ → Option (List ℕ × List ℕ)
module_of value = option_and_then (λ parts. if nat_lt 0 (length parts.0) && nat_lt 0 (length parts.1) then Some parts else None) (parts_of value)

-- all of some values, where each is there
abbrev pub all_of : {A : Type 0} → List (Option A) → Option (List A)
all_of [] = Some []
all_of (first ∷ rest) = option_and_then (λ x. option_map (λ xs. x ∷ xs) (all_of rest)) first

-- no text is equal to one after it
abbrev pub are_distinct : List (List ℕ) → Bool
are_distinct [] = true
are_distinct (name ∷ names) = not (list_any (λ other. bytes_eq name other) names) && are_distinct names

-- the module files of a command line, at most
abbrev pub most_modules : ℕ
most_modules = 64

-- there aren't too many modules, and their names differ
abbrev pub are_modules : List (List ℕ × List ℕ) → Bool
are_modules modules = nat_le (length modules) most_modules && are_distinct (map (λ m. m.0) modules)

abbrev pub fitting : List (List ℕ × List ℕ) → Option (List (List ℕ × List ℕ))
fitting modules = if are_modules modules then Some modules else None

-- the modules that the values of `--module` name
abbrev pub modules_of : List (List ℕ) → Option (List (List ℕ × List ℕ))
modules_of values = option_and_then fitting (all_of (map module_of values))

-- what is asked for by positional words and by the options' values
abbrev pub asked_by : (words budgets modules : List (List ℕ)) → Option Asked
asked_by words budgets modules =
    option_and_then (λ script. option_and_then (λ units. option_map (λ named. record { script = script; modules = named; budget = units }) (modules_of modules)) (budget_of budgets)) (script_of words)

-- what the words of a command line ask for
abbrev pub command_of : List (List ℕ) → Option Asked
command_of words = option_and_then (λ parts. asked_by (positional_words parts) (budget_values parts) (module_values parts)) (parts_in words)
