use Rattle.std.proofs.Common.{◌∷◌, [], ◌++◌, subst}
use Rattle.embed_script.specs.Ends.{charge}
use Rattle.embed_script.specs.Outcome.{going, after, line_of}
use Rattle.embed_script.specs.Runs.{Performs}
use Rattle.embed_script.specs.Tasks.{values_of}
use Rattle.embed_script.proofs.Runs.{goes_after}
use Rattle.embed_script.proofs.run.Run.print.Goals as goal

pub returns-clause-performs : goal.returns-clause-performs
returns-clause-performs c = λ b lines is_bound printed es shows.
    goes_after c.print_line.result lines (values_of b es c.args.self.now.state) (c.in_ok-values.values.items, c.evaluate_all.new.state) (λ vs. after lines (charge 1 vs.1) (λ rest. going b rest (lines ++ line_of vs.0 ∷ []))) c.print_line.new.self
    (c.in_ok-values.ensures.meets b is_bound es shows)
    (subst (λ vs. Performs c.print_line.result (after lines (charge 1 c.evaluate_all.new.state) (λ rest. going b rest (lines ++ line_of vs ∷ []))) c.print_line.new.self) c.as_slice.ensures.value (c.print_line.ensures.performs b lines is_bound printed))
