-- Keys of properties, and their order (ECMA-262, sections 6.1.7 and 10.1.11.1).
use Rattle.std.specs.Prelude.{ℕ, ◌+◌, ◌-◌, ◌*◌, ◌&&◌, ◌||◌, nat_eq, nat_lt, nat_le, ℤ, pos, List, [], ◌∷◌, ◌++◌, map, length, slice_index, Option, Some, None, if◌then◌else◌}
use Rattle.std.specs.Fmt.{decimal, signed_decimal}
use Rattle.std.specs.Option.{option_map_or}
use Rattle.std.specs.Ordering.{nat_cmp}
use Rattle.std.specs.BTreeSet.{insert_key}
use Rattle.host_values.specs.declared.keys.Key.{Key}
use Rattle.host_values.specs.declared.keys.Key.TheVariants as keys
use Rattle.host_values.specs.declared.values.HostValue.{HostValue}
use Rattle.host_values.specs.declared.values.HostValue.TheVariants as values

-- 2^32 - 2, the greatest index of an Array's element
abbrev pub greatest_index : ℕ
greatest_index = 4294967294

-- the number that a digit writes when it follows those of n: none where the byte is no digit, or where an index would be passed
abbrev pub next_index : ℕ → ℕ → Option ℕ
next_index n c = if nat_lt c 48 || nat_lt 57 c then None else if nat_le (n * 10 + (c - 48)) greatest_index then Some (n * 10 + (c - 48)) else None

-- the number that digits write when they follow those of n
abbrev pub index_after : ℕ → List ℕ → Option ℕ
index_after n [] = Some n
index_after n (c ∷ cs) = option_map_or (λ m. index_after m cs) (next_index n c) None

-- the index of which a text is the canonical decimal form: `0`, or digits not beginning with `0`
abbrev pub index_of : List ℕ → Option ℕ
index_of text = if nat_eq (length text) 0 || (nat_eq (slice_index text 0) 48 && nat_le 2 (length text)) then None else index_after 0 text

-- the key that a text spells
abbrev pub key_of_text : List ℕ → Key
key_of_text text = option_map_or (λ index. keys.Index index) (index_of text) (keys.Name text)

-- the key of a Number: that of its decimal form
abbrev pub key_of_number : ℤ → Key
key_of_number (pos n) = if nat_le n greatest_index then keys.Index n else keys.Name (signed_decimal (pos n))
key_of_number z = keys.Name (signed_decimal z)

-- the key of a value (ECMA-262, section 7.1.19, ToPropertyKey, cut to texts and Numbers)
abbrev pub key_of : HostValue → Option Key
key_of (values.Number z) = Some (key_of_number z)
key_of (values.Text text) = Some (key_of_text text)
key_of _ = None

-- the text of a key
abbrev pub text_of_key : Key → List ℕ
text_of_key (keys.Index index) = decimal index
text_of_key (keys.Name text) = text

-- the indices among keys
abbrev pub indices_of : List Key → List ℕ
indices_of [] = []
indices_of (keys.Index index ∷ rest) = index ∷ indices_of rest
indices_of (keys.Name text ∷ rest) = indices_of rest

-- the names among keys, which keep their order
abbrev pub names_of : List Key → List Key
names_of [] = []
names_of (keys.Index index ∷ rest) = names_of rest
names_of (keys.Name text ∷ rest) = keys.Name text ∷ names_of rest

-- ascending numbers, with more numbers put in their places, each once
abbrev pub ascending : List ℕ → List ℕ → List ℕ
ascending sorted [] = sorted
ascending sorted (n ∷ rest) = ascending (insert_key nat_cmp sorted n) rest

-- keys in the order of OrdinaryOwnPropertyKeys: the indices ascending, then the names in order of creation
abbrev pub ordered_keys : List Key → List Key
ordered_keys created = map (λ index. keys.Index index) (ascending [] (indices_of created)) ++ names_of created
