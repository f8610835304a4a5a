use Rattle.std.proofs.Common.{◌∙◌, sym}
use Rattle.wasm_valid.proofs.ValidLaws.{unnumbered, unruly, untyped, typed}
use Rattle.wasm_valid.proofs.valid.validate.Goals as goal

pub returns-then-not-branch-clause-refused : goal.returns-then-not-branch-clause-refused
returns-then-not-branch-clause-refused c = unnumbered c.args.«module» (sym c.in_ok-has_numbering.ensures ∙ c.if-not-branch.true)

pub returns-then-not-branch-2-clause-refused : goal.returns-then-not-branch-2-clause-refused
returns-then-not-branch-2-clause-refused c =
    unruly c.args.«module» (sym c.in_ok-has_numbering.ensures ∙ c.if-not-branch.false) (sym c.in_ok-keeps_rules.ensures ∙ c.if-not-branch-2.true)

pub invariant_of-result : goal.invariant_of-result
invariant_of-result c =
    let bodies = rw c.in-None.is at c.in_ok-index.ensures in
    record {
      typed = typed c.args.«module» (sym c.in_ok-has_numbering.ensures ∙ c.if-not-branch.false) (sym c.in_ok-keeps_rules.ensures ∙ c.if-not-branch-2.false) bodies.0;
      heights_are = bodies.1;
    }

pub returns-in-Some-clause-refused : goal.returns-in-Some-clause-refused
returns-in-Some-clause-refused c =
    let bodies = rw c.in-Some.is at c.in_ok-index.ensures in
    untyped c.args.«module» c.in-Some.index (sym c.in_ok-has_numbering.ensures ∙ c.if-not-branch.false) (sym c.in_ok-keeps_rules.ensures ∙ c.if-not-branch-2.false) bodies.0 bodies.1

pub returns-in-None-clause-typed : goal.returns-in-None-clause-typed
returns-in-None-clause-typed c =
    typed c.args.«module» (sym c.in_ok-has_numbering.ensures ∙ c.if-not-branch.false) (sym c.in_ok-keeps_rules.ensures ∙ c.if-not-branch-2.false) (rw c.in-None.is at c.in_ok-index.ensures).0
