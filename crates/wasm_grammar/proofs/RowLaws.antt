-- A table of rows says of each opcode what the definition gives of it.
use Rattle.std.proofs.Common.{◌≡◌, ℕ, ◌+◌, ◌<◌, ◌≤◌, List, map, get_or, slice_index_or, refl, sym, ap, ◌∙◌, arith}
use Rattle.std.specs.List.{range_with_len}
use Rattle.std.proofs.lemmas.Bool.{ne_eqb}
use Rattle.std.proofs.lemmas.List.FromFn.{get_or-map-range_with_len}
use Rattle.std.proofs.Math.ListN.{get_or-map}
use Rattle.wasm_grammar.specs.declared.opcodes.Row.{Row}
use Rattle.wasm_grammar.specs.Opcodes.{Shape, unknown, bulk_shape}
use Rattle.wasm_grammar.specs.Rows.{shape}

-- a table of the rows from an opcode on
pub at_each : (table : List Row) (first n : ℕ) (f : ℕ → Shape) → map shape table ≡ map f (range_with_len first n) → (i op : ℕ) (d : Row) → i < n → first + i ≡ op → shape (slice_index_or table i d) ≡ f op
at_each table first n f e i op d h is = sym (get_or-map shape table i d) ∙ ap (λ (l : List Shape). get_or l i (shape d)) e ∙ get_or-map-range_with_len f first n i op (shape d) h is

-- numbers behind the last row
pub no_row : (n : ℕ) → 18 ≤ n → bulk_shape n ≡ unknown
unfolding bulk_shape
no_row n h = rw (ne_eqb n 8 (omega arith), ne_eqb n 9 (omega arith), ne_eqb n 10 (omega arith), ne_eqb n 11 (omega arith), ne_eqb n 12 (omega arith), ne_eqb n 13 (omega arith), ne_eqb n 14 (omega arith), ne_eqb n 15 (omega arith), ne_eqb n 16 (omega arith), ne_eqb n 17 (omega arith)) refl
