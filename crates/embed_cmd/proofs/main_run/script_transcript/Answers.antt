use Rattle.std.proofs.Common.{MatchOption, subst}
use Rattle.small_parser.specs.Grammar.{Script}
use Rattle.embed_cmd.specs.Transcript.{IsScriptText}
use Rattle.embed_cmd.specs.Reading.{IsTree}
use Rattle.embed_cmd.proofs.Readings.{refused_bytes, ran_bytes}
use Rattle.embed_cmd.proofs.main_run.script_transcript.Goals as goal

pub returns-in-None-clause-exact : goal.returns-in-None-clause-exact
returns-in-None-clause-exact c =
    refused_bytes c.args.files.now c.args.budget c.args.bytes.now c.refused.result
    (subst (λ o. MatchOption o ((d : Script) → IsScriptText c.args.bytes.now d → ⊥) (λ tree. IsTree c.args.bytes.now tree)) c.in-None.is c.in_ok-read_script.ensures) c.refused.ensures

pub returns-in-Some-clause-exact : goal.returns-in-Some-clause-exact
returns-in-Some-clause-exact c =
    ran_bytes c.args.files.now c.args.budget c.args.bytes.now c.in-Some.script c.run_script.result
    (subst (λ o. MatchOption o ((d : Script) → IsScriptText c.args.bytes.now d → ⊥) (λ tree. IsTree c.args.bytes.now tree)) c.in-Some.is c.in_ok-read_script.ensures) c.run_script.ensures.exact
