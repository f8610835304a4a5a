-- When a table may grow, and what a call that grows it answers (WebAssembly Core 2.0, section 4.5.3).
use Rattle.std.specs.Prelude.{◌≡◌, ℕ, ◌+◌, ◌<◌, ◌≤◌, Option, Some, None, length, unwrap_or}
use Rattle.wasm_syntax.specs.declared.value.Value.{Value}
use Rattle.wasm_syntax.specs.declared.types.TableType.{TableType}
use Rattle.wasm_syntax.specs.declared.addresses.TableAddr.{TableAddr}
use Rattle.wasm_store.specs.Store.{Store, TableInst, grown, new_table, with_table, with_new_table, table_at, most_entries}

-- with n entries more it has at most as many as its type and the limit of the embedding allow
abbrev pub MayGrow : TableInst → ℕ → Type 0
MayGrow t n = (length t.entries + n ≤ unwrap_or t.max most_entries) × (length t.entries + n ≤ most_entries)

-- it has n entries more and the answer is the size that it had, or it may not grow and stays
abbrev pub Grows : ℕ → Value → TableInst → TableInst → Option ℕ → Type 0
Grows n init old new (Some size) = (size ≡ length old.entries) × MayGrow old n × (new ≡ grown n init old)
Grows n init old new None = (MayGrow old n → ⊥) × (new ≡ old)

-- a table is added where its type has no more entries than the limit of the embedding
abbrev pub NewTable : TableType → Value → Store → Store → Option TableAddr → Type 0
NewTable ty init old new (Some a) = (a.0 ≡ length old.tables) × (ty.limit.min ≤ most_entries) × (new ≡ with_new_table (new_table ty init) old)
NewTable ty init old new None = (most_entries < ty.limit.min) × (new ≡ old)

-- a table of a store grows
abbrev pub GrowsTable : TableAddr → ℕ → Value → Store → Store → Option ℕ → Type 0
GrowsTable a n init old new (Some size) = (size ≡ length (table_at old a).entries) × MayGrow (table_at old a) n × (new ≡ with_table a (grown n init (table_at old a)) old)
GrowsTable a n init old new None = (MayGrow (table_at old a) n → ⊥) × (new ≡ old)
