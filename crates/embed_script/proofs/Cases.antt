-- Worked cases of the definitions, each by computation. How a number is written in decimal is left to the standard library.
use Rattle.std.proofs.Common.{◌≡◌, ℕ, [], ◌∷◌, ◌++◌, Ok, Err, refl, pos, negsuc, codes}
use Rattle.embed_base.specs.declared.status.Status.TheVariants as statuses
use Rattle.embed_base.specs.declared.outside.OutsideKind.TheVariants as kinds
use Rattle.embed_base.specs.declared.outside.Place.TheVariants as places
use Rattle.small_parser.specs.declared.script.Operator.TheVariants as operators
use Rattle.small_parser.specs.Grammar.{plus, minus, Sum, product, added, factor, times, number, text, name, parens, single, comma, none, listed, Script, nothing, declaration, binding, printing}
use Rattle.embed_script.specs.declared.value.Value.TheVariants as values
use Rattle.std.specs.Fmt.{decimal}
use Rattle.embed_script.specs.Operators.{operate, text_of}
use Rattle.wasm_grammar.specs.Decoding as decoding
use Rattle.wasm_grammar.specs.declared.built.Foreign.TheVariants as foreign
use Rattle.wasm_syntax.specs.declared.value.Value.TheVariants as w
use Rattle.wasm_syntax.specs.declared.trap.Trap.TheVariants as because
use Rattle.wasm_store.specs.Store.{empty_store}
use Rattle.wasm_calls.specs.Calls as calls
use Rattle.wasm_calls.specs.Calls.{ended, trapped, thrown}
use Rattle.embed_script.specs.Ends.{done, outside, past_budget, compile_error, runtime_error, range_error}
use Rattle.embed_script.specs.Functions.{words_of, result_value, settled, module_of}
use Rattle.embed_script.specs.Outcome.{outcome_of, transcript_of, end_line}

abbrev only : ℕ → ℕ → Sum
only n k = product (factor (number n k))

-- let a = 6; print("a", a * 7);
abbrev hello : Script
hello =
    printing (declaration nothing 0 (codes "a") 4 6 (only 6 8) 9) 11 16
    (listed (comma (single (product (factor (text (codes "a") 17)))) 20 (product (times (factor (name (codes "a") 22)) 24 (number 7 26))))) 27 28

hello_prints : outcome_of [] 100 hello ≡ record { lines = (codes "a " ++ decimal 42) ∷ []; end = done }
hello_prints = refl

-- an empty script
empty_prints_nothing : transcript_of (outcome_of [] 0 nothing) ≡ record { status = statuses.Done; text = [] }
empty_prints_nothing = refl

-- print();
empty_line : transcript_of (outcome_of [] 100 (printing nothing 0 5 none 6 7)) ≡ record { status = statuses.Done; text = 10 ∷ [] }
empty_line = refl

-- print(2 - 3 * 4 - (5 - 6));
chain : outcome_of [] 100 (printing nothing 0 5
    (listed (single (added (added (only 2 6) minus 8 (times (factor (number 3 10)) 12 (number 4 14))) minus 16 (factor (parens 18 (added (only 5 19) minus 21 (factor (number 6 23))) 24))))) 25 26)
    ≡ record { lines = (45 ∷ decimal 9) ∷ []; end = done }
chain = refl

-- print(1); print(9007199254740991 + 1); print(2);
refused_after_a_line : outcome_of [] 100 (printing (printing (printing nothing 0 5 (listed (single (only 1 6))) 7 8) 10 15
    (listed (single (added (only 9007199254740991 16) plus 33 (factor (number 1 35))))) 36 37) 39 44 (listed (single (only 2 45))) 46 47)
    ≡ record { lines = decimal 1 ∷ []; end = outside (record { kind = kinds.Number; place = places.Script 33 }) }
refused_after_a_line = refl

-- print("a" - 1);
text_as_a_number : outcome_of [] 100 (printing nothing 0 5 (listed (single (added (product (factor (text (codes "a") 6))) minus 10 (factor (number 1 12))))) 13 14)
    ≡ record { lines = []; end = outside (record { kind = kinds.TextNumber; place = places.Script 10 }) }
text_as_a_number = refl

refusal_line : end_line (outside (record { kind = kinds.TextNumber; place = places.Script 10 })) ≡ codes "outside: text-number at " ++ (decimal 10 ++ 10 ∷ [])
refusal_line = refl

joined : operate operators.Plus (values.Number (negsuc 0)) (values.Text (codes "b")) ≡ text_of (45 ∷ (decimal 1 ++ codes "b"))
joined = refl

least_number : operate operators.Minus (values.Number (pos 0)) (values.Number (pos 9007199254740991)) ≡ Ok (values.Number (negsuc 9007199254740990))
least_number = refl

past_the_least : operate operators.Minus (values.Number (negsuc 9007199254740990)) (values.Number (pos 1)) ≡ Err kinds.Number
past_the_least = refl

text_times : operate operators.Times (values.Text (codes "a")) (values.Number (pos 2)) ≡ Err kinds.TextNumber
text_times = refl

-- print(1); print(2); with 3 units: the second line isn't printed
past_its_budget : outcome_of [] 3 (printing (printing nothing 0 5 (listed (single (only 1 6))) 7 8) 10 15 (listed (single (only 2 16))) 17 18)
    ≡ record { lines = decimal 1 ∷ []; end = past_budget 1 0 }
past_its_budget = refl

within_its_budget : outcome_of [] 4 (printing (printing nothing 0 5 (listed (single (only 1 6))) 7 8) 10 15 (listed (single (only 2 16))) 17 18)
    ≡ record { lines = decimal 1 ∷ decimal 2 ∷ []; end = done }
within_its_budget = refl

-- ToInt32: modulo 2^32, with a missing argument and one too many
converted : words_of 3 (values.Number (negsuc 0) ∷ values.Number (pos 4294967301) ∷ []) ≡ Ok (4294967295 ∷ 5 ∷ 0 ∷ [])
converted = refl

dropped : words_of 1 (values.Number (negsuc 9007199254740990) ∷ values.Text (codes "a") ∷ []) ≡ Ok (1 ∷ [])
dropped = refl

no_word : words_of 2 (values.Text (codes "a") ∷ []) ≡ Err kinds.TextNumber
no_word = refl

signed_result : result_value (w.I32 2147483648 ∷ []) ≡ values.Number (negsuc 2147483647)
signed_result = refl

a_trap : settled (ended empty_store (trapped because.DivideByZero) 5) ≡ Err runtime_error
a_trap = refl

a_frame_too_many : settled (ended empty_store (thrown 0) 5) ≡ Err range_error
a_frame_too_many = refl

an_instruction_past_the_budget : settled (ended empty_store (calls.past_budget 2) 1) ≡ Err (past_budget 2 1)
an_instruction_past_the_budget = refl

-- let f = new WebAssembly.Instance(new WebAssembly.Module(readbuffer("m"))).exports.g;
abbrev item : Script
item = binding nothing 0 (codes "f") 4 6 (record { file = codes "m"; export = codes "g"; tokens = [] }) 87

no_such_file : outcome_of [] 4 item ≡ record { lines = []; end = outside (record { kind = kinds.NotYet; place = places.Script 0 }) }
no_such_file = refl

the_fourth_charge_comes_first : outcome_of [] 3 item ≡ record { lines = []; end = past_budget 1 0 }
the_fourth_charge_comes_first = refl

malformed_before_the_fourth_charge : outcome_of ((codes "m", decoding.malformed) ∷ []) 3 item ≡ record { lines = []; end = compile_error }
malformed_before_the_fourth_charge = refl

malformed_after_the_third_charge : outcome_of ((codes "m", decoding.malformed) ∷ []) 2 item ≡ record { lines = []; end = past_budget 1 0 }
malformed_after_the_third_charge = refl

a_leaf_of_a_module : end_line (outside (record { kind = kinds.Float; place = places.Module 13 })) ≡ codes "outside: float at module byte " ++ (decimal 13 ++ 10 ∷ [])
a_leaf_of_a_module = refl

floating : module_of (decoding.outside 13 foreign.Float) ≡ Err (outside (record { kind = kinds.Float; place = places.Module 13 }))
floating = refl
