-- Worked cases: small lists of tokens that are scripts, by their derivation, and derivations with a fault.
use Rattle.std.specs.Prelude.{◌≡◌, ℕ, zero, suc, ◌+◌, ◌≤◌, List, [], ◌∷◌, ◌++◌, map, false, refl, codes}
use Rattle.std.proofs.Common.{arith}
use Rattle.small_lexer.specs.declared.token.Word.TheVariants as words
use Rattle.small_lexer.specs.declared.token.Mark.TheVariants as marks
use Rattle.small_lexer.specs.declared.token.TokenKind.{TokenKind}
use Rattle.small_lexer.specs.declared.token.TokenKind.TheVariants as kinds
use Rattle.small_lexer.specs.declared.token.Token.{Token}
use Rattle.small_parser.specs.Grammar.{plus, minus, Sum, product, added, factor, times, number, text, name, parens, single, comma, none, listed, Script, nothing, declaration, printing, IsFine, IsScript, print_name, sum_depth, most_open, call, unlisted, passed_more, Instance, binding, declared_by, bound_by, reading_name, KeepsNames, sign_of}
use Rattle.small_parser.proofs.Known.{known_contains, known_lacks, other_text}

abbrev token : TokenKind → ℕ → Token
token k from = record { kind = k; from = from; to = from + 1; after_line = false }

abbrev open_at : ℕ → Token
open_at k = token (kinds.Mark marks.Open) k

abbrev close_at : ℕ → Token
close_at k = token (kinds.Mark marks.Close) k

abbrev end_at : ℕ → Token
end_at k = token (kinds.Mark marks.Semicolon) k

-- a script without an item that loads a module hides nothing from one
alone : (s : Script) → bound_by s ≡ [] → KeepsNames s
alone s e n = absurd (n e)

-- a number alone
abbrev just : ℕ → ℕ → Sum
just n k = product (factor (number n k))

-- a name alone
abbrev named : List ℕ → ℕ → Sum
named w k = product (factor (name w k))

-- no token at all
empty : IsScript [] nothing
empty = record { spelled = refl; fine = tt; keeps = alone nothing refl }

-- print();
abbrev prints_nothing : Script
prints_nothing = printing nothing 0 5 none 6 7

print_nothing : IsScript (token (kinds.Name (codes "print")) 0 ∷ open_at 5 ∷ close_at 6 ∷ end_at 7 ∷ []) prints_nothing
print_nothing = record { spelled = refl; fine = (tt, tt, omega arith); keeps = alone prints_nothing refl }

-- let a = 6; print("a", a);
abbrev six : Script
six = declaration nothing 0 (codes "a") 4 6 (just 6 8) 9

six_fine : IsFine six
six_fine = (tt, known_lacks [] (codes "a") refl, other_text (codes "a") print_name refl, tt, omega arith)

abbrev prints_six : Script
prints_six = printing six 11 16 (listed (comma (single (product (factor (text (codes "a") 17)))) 20 (named (codes "a") 22))) 23 24

print_six : IsScript (token (kinds.Word words.Let) 0 ∷ token (kinds.Name (codes "a")) 4 ∷ token (kinds.Mark marks.Equals) 6 ∷ token (kinds.Number 6) 8 ∷ end_at 9
    ∷ token (kinds.Name (codes "print")) 11 ∷ open_at 16 ∷ token (kinds.Text (codes "a")) 17 ∷ token (kinds.Mark marks.Comma) 20 ∷ token (kinds.Name (codes "a")) 22 ∷ close_at 23 ∷ end_at 24 ∷ []) prints_six
print_six = record { spelled = refl; fine = (six_fine, (tt, (known_contains (codes "a" ∷ []) (codes "a") refl, known_lacks [] (codes "a") refl)), omega arith); keeps = alone prints_six refl }

-- print(2 - 3 * 4 - (5 - 6)); where `*` binds tighter than `-`, and `-` goes from left to right
abbrev differences : Sum
differences = added (added (just 2 6) minus 8 (times (factor (number 3 10)) 12 (number 4 14))) minus 16 (factor (parens 18 (added (just 5 19) minus 21 (factor (number 6 23))) 24))

print_differences : IsScript (token (kinds.Name (codes "print")) 0 ∷ open_at 5 ∷ token (kinds.Number 2) 6 ∷ token (kinds.Mark marks.Minus) 8 ∷ token (kinds.Number 3) 10 ∷ token (kinds.Mark marks.Star) 12
    ∷ token (kinds.Number 4) 14 ∷ token (kinds.Mark marks.Minus) 16 ∷ open_at 18 ∷ token (kinds.Number 5) 19 ∷ token (kinds.Mark marks.Minus) 21 ∷ token (kinds.Number 6) 23 ∷ close_at 24 ∷ close_at 25 ∷ end_at 26 ∷ [])
    (printing nothing 0 5 (listed (single differences)) 25 26)
print_differences = record { spelled = refl; fine = (tt, ((tt, (tt, tt)), (tt, tt)), omega arith); keeps = alone (printing nothing 0 5 (listed (single differences)) 25 26) refl }

-- let a = 1 + 2; let b = a * a;
abbrev three : Script
three = declaration nothing 0 (codes "a") 4 6 (added (just 1 8) plus 10 (factor (number 2 12))) 13

abbrev square : Script
square = declaration three 15 (codes "b") 19 21 (product (times (factor (name (codes "a") 23)) 25 (name (codes "a") 27))) 28

square_fine : IsFine square
square_fine = (
  (tt, known_lacks [] (codes "a") refl, other_text (codes "a") print_name refl, (tt, tt), omega arith),
  known_lacks (codes "a" ∷ []) (codes "b") refl,
  other_text (codes "b") print_name refl,
  ((known_contains (codes "a" ∷ []) (codes "a") refl, known_lacks [] (codes "a") refl), (known_contains (codes "a" ∷ []) (codes "a") refl, known_lacks [] (codes "a") refl)),
  omega arith,
)

-- let a = 6; let a = 1;
declared_twice : IsFine (declaration six 11 (codes "a") 15 17 (just 1 19) 20) → ⊥
declared_twice h = h.1 (known_contains (codes "a" ∷ []) (codes "a") refl)

-- let print = 1;
print_declared : IsFine (declaration nothing 0 (codes "print") 4 10 (just 1 12) 13) → ⊥
print_declared h = h.2 refl

-- print(b);
undeclared : IsFine (printing nothing 0 5 (listed (single (named (codes "b") 6))) 7 8) → ⊥
undeclared h = known_lacks [] (codes "b") refl h.1.0

-- let a = a;
used_in_itself : IsFine (declaration nothing 0 (codes "a") 4 6 (named (codes "a") 8) 9) → ⊥
used_in_itself h = known_lacks [] (codes "a") refl h.3.0

-- print(print);
print_used : IsFine (printing nothing 0 5 (listed (single (named (codes "print") 6))) 11 12) → ⊥
print_used h = known_lacks [] (codes "print") refl h.1.0

-- parentheses round an expression, so many
abbrev nest : ℕ → Sum → Sum
nest zero e = e
nest (suc n) e = product (factor (parens 0 (nest n e) 0))

-- let a = ((1)); with 256 parentheses, and with one more
most_fit : IsFine (declaration nothing 0 (codes "a") 4 6 (nest 256 (just 1 8)) 9)
most_fit = (tt, known_lacks [] (codes "a") refl, other_text (codes "a") print_name refl, tt, omega arith)

one_too_many : IsFine (declaration nothing 0 (codes "a") 4 6 (nest 257 (just 1 8)) 9) → ⊥
one_too_many h = let deep : sum_depth (nest 257 (just 1 8)) ≤ most_open = h.4 in omega arith

-- in a `print` its own parenthesis counts
most_fit_printed : IsFine (printing nothing 0 5 (listed (single (nest 255 (just 1 6)))) 7 8)
most_fit_printed = (tt, tt, omega arith)

one_too_many_printed : IsFine (printing nothing 0 5 (listed (single (nest 256 (just 1 6)))) 7 8) → ⊥
one_too_many_printed h = let deep : sum_depth (nest 256 (just 1 6)) + 1 ≤ most_open = h.2 in omega arith

-- new WebAssembly.Instance(new WebAssembly.Module(readbuffer("add"))).exports.f, after 8 bytes
abbrev loading : List Token
loading =
    token (kinds.Word words.New) 8 ∷ token (kinds.Name (codes "WebAssembly")) 12 ∷ token (kinds.Mark marks.Dot) 23 ∷ token (kinds.Name (codes "Instance")) 24 ∷ open_at 32
    ∷ token (kinds.Word words.New) 33 ∷ token (kinds.Name (codes "WebAssembly")) 37 ∷ token (kinds.Mark marks.Dot) 48 ∷ token (kinds.Name (codes "Module")) 49 ∷ open_at 55
    ∷ token (kinds.Name (codes "readbuffer")) 56 ∷ open_at 66 ∷ token (kinds.Text (codes "add")) 67 ∷ close_at 72 ∷ close_at 73 ∷ close_at 74
    ∷ token (kinds.Mark marks.Dot) 75 ∷ token (kinds.Name (codes "exports")) 76 ∷ token (kinds.Mark marks.Dot) 83 ∷ token (kinds.Name (codes "f")) 84 ∷ []

abbrev adder : Instance
adder = record { file = codes "add"; export = codes "f"; tokens = map sign_of loading }

-- let f = new WebAssembly.Instance(new WebAssembly.Module(readbuffer("add"))).exports.f;
abbrev binds_f : Script
binds_f = binding nothing 0 (codes "f") 4 6 adder 85

f_fine : IsFine binds_f
f_fine = (tt, known_lacks [] (codes "f") refl, other_text (codes "f") print_name refl, refl, other_text (codes "f") print_name refl)

-- the same, and print(f(1,) - f());
abbrev calls_f : Script
calls_f = printing binds_f 87 92 (listed (single (added (product (factor (call (codes "f") 93 94 (passed_more (single (just 1 95)) 96) 97))) minus 99 (factor (call (codes "f") 101 102 unlisted 103))))) 104 105

abbrev bound_f : List (List ℕ)
bound_f = codes "f" ∷ []

calls_f_fine : IsFine calls_f
calls_f_fine = (f_fine, ((known_contains bound_f (codes "f") refl, tt), (known_contains bound_f (codes "f") refl, tt)), omega arith)

calls_f_keeps : KeepsNames calls_f
calls_f_keeps _ = (known_lacks bound_f reading_name refl, known_lacks bound_f (codes "WebAssembly") refl)

call_f : IsScript
    (token (kinds.Word words.Let) 0 ∷ token (kinds.Name (codes "f")) 4 ∷ token (kinds.Mark marks.Equals) 6 ∷ (loading ++ end_at 85
    ∷ token (kinds.Name (codes "print")) 87 ∷ open_at 92 ∷ token (kinds.Name (codes "f")) 93 ∷ open_at 94 ∷ token (kinds.Number 1) 95 ∷ token (kinds.Mark marks.Comma) 96 ∷ close_at 97
    ∷ token (kinds.Mark marks.Minus) 99 ∷ token (kinds.Name (codes "f")) 101 ∷ open_at 102 ∷ close_at 103 ∷ close_at 104 ∷ end_at 105 ∷ []))
    calls_f
call_f = record { spelled = refl; fine = calls_f_fine; keeps = calls_f_keeps }

-- print(f); after that item
bound_used : IsFine (printing binds_f 87 92 (listed (single (named (codes "f") 93))) 94 95) → ⊥
bound_used h = h.1.1 (known_contains bound_f (codes "f") refl)

-- let a = 6; print(a());
value_called : IsFine (printing six 11 16 (listed (single (product (factor (call (codes "a") 17 18 unlisted 19))))) 20 21) → ⊥
value_called h = known_lacks [] (codes "a") refl h.1.0

-- let readbuffer = 6; before the item, and after it
abbrev hides_before : Script
hides_before = binding (declaration nothing 0 (codes "readbuffer") 4 15 (just 6 17) 18) 20 (codes "f") 24 26 adder 105

abbrev hides_after : Script
hides_after = declaration binds_f 87 (codes "WebAssembly") 91 103 (just 6 105) 106

hidden_before : KeepsNames hides_before → ⊥
hidden_before h = (h (λ e. cc)).0 (known_contains (declared_by hides_before) reading_name refl)

hidden_after : KeepsNames hides_after → ⊥
hidden_after h = (h (λ e. cc)).1 (known_contains (declared_by hides_after) (codes "WebAssembly") refl)

-- let f = ;
no_instance : IsFine (binding nothing 0 (codes "f") 4 6 (record { file = codes "add"; export = codes "f"; tokens = [] }) 7) → ⊥
no_instance h = let q : [] ≡ kinds.Word words.New ∷ _ = h.3 in cc

-- let a = (f()); with a call in 255 parentheses, and in one more
most_fit_called : IsFine (declaration binds_f 87 (codes "a") 91 93 (nest 255 (product (factor (call (codes "f") 95 96 unlisted 97)))) 98)
most_fit_called = (f_fine, known_lacks bound_f (codes "a") refl, other_text (codes "a") print_name refl, (known_contains bound_f (codes "f") refl, tt), omega arith)

one_too_many_called : IsFine (declaration binds_f 87 (codes "a") 91 93 (nest 256 (product (factor (call (codes "f") 95 96 unlisted 97)))) 98) → ⊥
one_too_many_called h = let deep : sum_depth (nest 256 (product (factor (call (codes "f") 95 96 unlisted 97)))) ≤ most_open = h.4 in omega arith

-- an export called `print`
export_print : IsFine (binding nothing 0 (codes "f") 4 6 (record { file = codes "add"; export = codes "print"; tokens = [] }) 7) → ⊥
export_print h = h.4 refl
