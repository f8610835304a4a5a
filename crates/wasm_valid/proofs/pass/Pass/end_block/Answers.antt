use Rattle.std.proofs.Common.{◌∙◌, ap, sym, reverse}
use Rattle.wasm_valid.specs.Operands.{is_spent}
use Rattle.wasm_valid.proofs.PlaceLaws.{end_fails, second_goes, end_moves, passes, fails}
use Rattle.wasm_valid.proofs.pass.Pass.end_block.Goals as goal

pub returns-then-not-pop_types : goal.returns-then-not-pop_types
returns-then-not-pop_types c = record {
  moves = λ F.
      end_fails c.args.«module».now F c.args.self.now.opens.top c.args.self.now.operands.own c.args.self.now.operands.under c.args.self.now.highest c.requires.at (reverse c.args.self.now.opens.outer.items)
      (ap is_spent (fails _ _ _ (rw c.types_of-results.ensures at c.pop_types.ensures.own) c.if-not-pop_types.true));
}

pub returns-then-not-is_spent : goal.returns-then-not-is_spent
returns-then-not-is_spent c = record {
  moves = λ F.
      end_fails c.args.«module».now F c.args.self.now.opens.top c.args.self.now.operands.own c.args.self.now.operands.under c.args.self.now.highest c.requires.at (reverse c.args.self.now.opens.outer.items)
      (ap is_spent (passes _ _ _ (rw c.types_of-results.ensures at c.pop_types.ensures.own) c.if-not-pop_types.false) ∙ sym c.is_spent.ensures ∙ c.if-not-is_spent.true);
}

pub returns-in_ok-begin_second-in-Some : goal.returns-in_ok-begin_second-in-Some
returns-in_ok-begin_second-in-Some c = record {
  moves = λ F.
      second_goes c.args.«module».now F c.args.self.now.opens.top c.begin_second.new.self.opens.top _ _ c.args.self.now.operands.own c.begin_second.new.self.operands.own c.args.self.now.operands.under c.begin_second.new.self.operands.under
      c.args.self.now.highest c.begin_second.new.self.highest c.in-Some.second c.requires.at
      (ap is_spent (passes _ _ _ (rw c.types_of-results.ensures at c.pop_types.ensures.own) c.if-not-pop_types.false) ∙ sym c.is_spent.ensures ∙ c.if-not-is_spent.false)
      c.in-Some.is c.requires.counted c.requires.place
      c.in_ok-begin_second-in-Some.ensures.top c.in_ok-begin_second-in-Some.ensures.own (ap (λ v. reverse v.items) c.in_ok-begin_second-in-Some.ensures.outer)
      (c.in_ok-begin_second-in-Some.ensures.under ∙ c.pop_types.ensures.under) c.in_ok-begin_second-in-Some.ensures.highest;
}

pub returns-in_ok-step-in-None : goal.returns-in_ok-step-in-None
returns-in_ok-step-in-None c = record {
  moves = λ F.
      end_moves c.args.«module».now F c.args.self.now.opens.top (reverse c.args.self.now.opens.outer.items) c.args.self.now.operands.own c.pop_types.new.self.own c.args.self.now.operands.under c.pop_types.new.self.under
      c.args.self.now.highest c.close_block.new.self.highest c.in_ok-step-in-None.step _ c.requires.at
      (ap is_spent (passes _ _ _ (rw c.types_of-results.ensures at c.pop_types.ensures.own) c.if-not-pop_types.false) ∙ sym c.is_spent.ensures ∙ c.if-not-is_spent.false)
      c.in-None.is c.requires.counted c.requires.place c.pop_types.ensures.under c.in_ok-step-in-None.ensures.closed;
}
