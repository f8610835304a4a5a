use Rattle.std.proofs.Common.{◌∙◌, sym, refl}
use Rattle.wasm_valid.proofs.RunLaws.{some_left, one_shorter}
use Rattle.wasm_valid.proofs.runs.Runs.pop.Goals as goal

pub invariant_of-self : goal.invariant_of-self
invariant_of-self c =
    one_shorter _ _ _ _
    (some_left c.self.inside.runs.items c.len-count.result c.index-run.result.now c.in-Some.lower c.if-count-eq0.false (c.len-count.ensures ∙ c.self.inside.runs.ok.0) c.index-run.ensures c.in-Some.ensures)
    c.self.invariant

pub returns-in-Some-clause-items : goal.returns-in-Some-clause-items
returns-in-Some-clause-items c =
    sym c.self.view_is
    ∙ some_left c.self.inside.runs.items c.len-count.result c.index-run.result.now c.in-Some.lower c.if-count-eq0.false (c.len-count.ensures ∙ c.self.inside.runs.ok.0) c.index-run.ensures c.in-Some.ensures

pub returns-in-Some-clause-len : goal.returns-in-Some-clause-len
returns-in-Some-clause-len c =
    sym
    (one_shorter _ _ _ _
    (sym c.self.view_is
    ∙ some_left c.self.inside.runs.items c.len-count.result c.index-run.result.now c.in-Some.lower c.if-count-eq0.false (c.len-count.ensures ∙ c.self.inside.runs.ok.0) c.index-run.ensures c.in-Some.ensures)
    refl)
