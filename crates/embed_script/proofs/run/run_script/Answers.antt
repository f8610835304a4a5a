use Rattle.std.proofs.Common.{subst, sym}
use Rattle.small_parser.specs.Shows.{ScriptShows}
use Rattle.embed_script.proofs.run.run_script.Goals as goal

pub returns-clause-exact : goal.returns-clause-exact
returns-clause-exact c = λ d shows modules decoded.
    c.perform_all.ensures.exact d
    (subst (λ nodes. ScriptShows d nodes c.as_slice-2.result.now) (sym c.as_slice.ensures) (subst (λ ids. ScriptShows d c.args.script.now.nodes ids) (sym c.as_slice-2.ensures) shows))
    modules decoded
