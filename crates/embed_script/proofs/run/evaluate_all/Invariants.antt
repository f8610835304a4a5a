-- The values so far, and the expressions that are left.
use Rattle.std.proofs.Common.{List, drop}
use Rattle.small_parser.specs.Grammar.{Sum}
use Rattle.embed_script.specs.Evaluation.{Bindings}
use Rattle.embed_script.specs.Serving.{Serves}
use Rattle.embed_script.specs.Tasks.{IsBoundAs, SumsShow, values_of}
use Rattle.embed_script.proofs.Lines.{ValuesLeft}
use Rattle.embed_script.proofs.run.evaluate_all.Given as goal

abbrev pub invariant-loop-id : goal.invariant-loop-id
invariant-loop-id l = record {
  gives : (b : Bindings) → IsBoundAs b l.names → (es : List Sum) → SumsShow l.nodes es l.ids → ValuesLeft l.nodes b (values_of b es l.fn.state) (drop l.id-index l.ids) l.values.items l.state;
  serves : Serves l.names l.state.store;
}
