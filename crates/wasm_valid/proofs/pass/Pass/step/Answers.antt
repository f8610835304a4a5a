use Rattle.std.proofs.Common.{◌∙◌, sym, arith, ap}
use Rattle.wasm_syntax.specs.Sorts.{nesting_in}
use Rattle.wasm_valid.proofs.PlaceLaws.{holds_none, went_moves, rest_ends, rest_begins, place_after_note, counted_after_note, moves_after_note}
use Rattle.wasm_valid.proofs.pass.Pass.step.Goals as goal

pub open_block-requires : goal.open_block-requires
open_block-requires c = record {
  place = place_after_note _ _ _ _ c.note.ensures.operands c.note.ensures.opens c.requires.place;
  at = (c.index-code-at.result, rest_begins c.args.«module».now c.note.new.self.opens.top c.code-code.result.now c.index-code-at.result c.code-code.ensures c.if-at-code.false c.index-code-at.is, ap nesting_in (sym c.sort.ensures.value ∙ c.in-Nested.is));
  fits = omega (arith, c.if-at-code.false);
  counted = counted_after_note _ _ _ _ c.note.ensures.operands c.note.ensures.highest;
}

pub end_block-requires : goal.end_block-requires
end_block-requires c = record {
  place = place_after_note _ _ _ _ c.note.ensures.operands c.note.ensures.opens c.requires.place;
  at = rest_ends c.args.«module».now c.note.new.self.opens.top c.code-code.result.now c.code-code.ensures c.if-at-code.true;
  counted = counted_after_note _ _ _ _ c.note.ensures.operands c.note.ensures.highest;
}

pub go_flat-requires : goal.go_flat-requires
go_flat-requires c = record {
  spaces = c.requires.spaces;
  place = place_after_note _ _ _ _ c.note.ensures.operands c.note.ensures.opens c.requires.place;
  at = rest_begins c.args.«module».now c.note.new.self.opens.top c.code-code.result.now c.index-code-at.result c.code-code.ensures c.if-at-code.false c.index-code-at.is;
  sort = c.sort.ensures.value;
  flat = holds_none c.sort.result c.in_default.not-Nested;
  fits = omega (arith, c.if-at-code.false);
  counted = counted_after_note _ _ _ _ c.note.ensures.operands c.note.ensures.highest;
}

pub returns-then-at-code : goal.returns-then-at-code
returns-then-at-code c = record {
  moves =
      moves_after_note c.args.«module».now _ _ _ _ _ c.args.self.now.highest c.note.new.self.highest c.end_block.new.self.highest c.in_ok-step.step _
      c.note.ensures.operands c.note.ensures.opens c.note.ensures.highest (c.in_ok-step.ensures.moves _);
}

pub returns-in_ok-fine-in-Nested : goal.returns-in_ok-fine-in-Nested
returns-in_ok-fine-in-Nested c = record {
  moves =
      went_moves c.args.«module».now _ _ _ _ _ c.args.self.now.highest c.note.new.self.highest c.open_block.new.self.highest c.in_ok-fine-in-Nested.fine c.went.result _
      c.note.ensures.operands c.note.ensures.opens c.note.ensures.highest c.went.ensures c.open_block.ensures.highest (c.in_ok-fine-in-Nested.ensures.goes _);
}

pub returns-in_ok-fine-in_default : goal.returns-in_ok-fine-in_default
returns-in_ok-fine-in_default c = record {
  moves =
      went_moves c.args.«module».now _ _ _ _ _ c.args.self.now.highest c.note.new.self.highest c.go_flat.new.self.highest c.in_ok-fine-in_default.fine c.went-in_default.result _
      c.note.ensures.operands c.note.ensures.opens c.note.ensures.highest c.went-in_default.ensures c.go_flat.ensures.highest c.in_ok-fine-in_default.ensures.goes;
}
