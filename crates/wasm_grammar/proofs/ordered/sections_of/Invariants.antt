-- What the sections so far hold, and those that are left, is what all hold.
use Rattle.std.proofs.Common.{◌≡◌, ◌+◌, ◌-◌, ◌≤◌, length}
use Rattle.wasm_grammar.specs.Sections.{section_in, all_in}
use Rattle.wasm_grammar.specs.Module.{no_parts, held_of}
use Rattle.wasm_grammar.proofs.ordered.sections_of.Given as goal

abbrev pub invariant-loop : goal.invariant-loop
invariant-loop l = record {
  room : length l.built.blocks + length l.rest ≤ length l.fn.built.blocks + length l.bytes;
  so_far : held_of l.parts l.last (all_in section_in (length l.bytes - l.counter) l.built 0 l.rest) ≡ held_of no_parts 0 (all_in section_in (length l.bytes) l.fn.built 0 l.bytes);
}
