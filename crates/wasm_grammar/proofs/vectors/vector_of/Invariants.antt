-- The items that were read, and those that are told of the bytes that are left, are all.
use Rattle.std.proofs.Common.{◌≡◌, ◌+◌, ◌-◌, ◌≤◌, length}
use Rattle.wasm_grammar.specs.Threads.{items_in}
use Rattle.wasm_grammar.proofs.Loops.{behind}
use Rattle.wasm_grammar.proofs.vectors.vector_of.Given as goal

abbrev pub invariant-loop : goal.invariant-loop
invariant-loop g l = record {
  room : length l.built.blocks + length l.rest ≤ length l.fn.built.blocks + length l.bytes;
  so_far : behind l.items (items_in g.T.Item.reading (l.count - l.counter) l.built l.after l.rest) ≡ items_in g.T.Item.reading l.count l.fn.built l.after l.initial.rest;
}
