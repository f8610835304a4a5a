-- The statements that are left, and the run so far.
use Rattle.std.proofs.Common.{drop}
use Rattle.small_parser.specs.Grammar.{Script}
use Rattle.small_parser.specs.Shows.{ScriptShows}
use Rattle.embed_script.specs.Functions.{Modules}
use Rattle.embed_script.specs.ModuleFiles.{AreDecodings}
use Rattle.embed_script.specs.Serving.{Serves}
use Rattle.embed_script.proofs.Runs.{StatementsLeft, RunLeft}
use Rattle.embed_script.proofs.run.perform_all.Given as goal

abbrev pub invariant-loop-id : goal.invariant-loop-id
invariant-loop-id l = record {
  shown : (d : Script) → ScriptShows d l.nodes l.ids → StatementsLeft l.nodes (drop l.id-index l.ids);
  serves : Serves l.run.names l.run.state.store;
  run : (d : Script) → ScriptShows d l.nodes l.ids → (modules : Modules) → AreDecodings l.files modules → RunLeft modules l.nodes l.fn.budget d (drop l.id-index l.ids) l.run;
}
