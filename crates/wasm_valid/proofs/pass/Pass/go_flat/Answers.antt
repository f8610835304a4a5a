use Rattle.std.proofs.Common.{◌∙◌, ap, sym}
use Rattle.wasm_syntax.specs.Sorts.{nesting_in}
use Rattle.wasm_valid.proofs.PlaceLaws.{flat_moves}
use Rattle.wasm_valid.proofs.pass.Pass.go_flat.Goals as goal

pub returns-clause-goes : goal.returns-clause-goes
returns-clause-goes c =
    flat_moves c.args.«module».now _ c.args.self.now.opens.top _ c.args.self.now.operands.own c.args.self.now.operands.under c.pass_flat.new.operands.under c.args.instr.now c.in_ok-fine.fine c.pass_flat.new.operands.own
    c.args.self.now.highest c.requires.at (ap nesting_in (sym c.requires.sort) ∙ c.requires.flat) (rw c.requires.sort at c.in_ok-fine.ensures.own) c.pass_flat.ensures.under c.requires.counted c.requires.place
