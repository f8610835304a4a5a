-- What a statement does, read off the node that shows it.
use Rattle.std.proofs.Common.{◌≡◌, ℕ, List, [], ◌∷◌, ◌++◌, IsSomeAnd, get_or, length, refl, sym, ap, ◌∙◌, subst}
use Rattle.std.proofs.lemmas.Option.{slice_get_read}
use Rattle.small_parser.specs.declared.script.NodeId.{NodeId}
use Rattle.small_parser.specs.declared.script.Form.{Form}
use Rattle.small_parser.specs.declared.script.Form.TheVariants as forms
use Rattle.small_parser.specs.declared.script.Node.{Node}
use Rattle.small_parser.specs.Grammar.{Sum}
use Rattle.small_parser.specs.Shows.{SumShows}
use Rattle.embed_script.specs.declared.state.State.{State}
use Rattle.embed_script.specs.Ends.{charge}
use Rattle.embed_script.specs.Functions.{Modules, instance_of}
use Rattle.embed_script.specs.Evaluation.{Bindings, value, function, sum_value}
use Rattle.embed_script.specs.Outcome.{Statement, declares, binds, prints, going, after, bound, line_of, effect}
use Rattle.embed_script.specs.Tasks.{SumsShow, expressions_of, values_of}
use Rattle.embed_script.specs.Runs.{StatementShows, FormShows, IsPlaceOf}
use Rattle.embed_script.proofs.Values.{arguments_are}
use Rattle.embed_script.proofs.Steps.{node_in_range}

-- what the node of a statement tells
pub statement_at : (nodes : List Node) (s : Statement) (id : NodeId) (node : Node) (form : Form) → node ≡ get_or nodes id.0 node → node.form ≡ form → StatementShows nodes s id → IsPlaceOf s node.place × FormShows nodes s form
statement_at nodes s id node form is same shows =
    let at = slice_get_read nodes (length nodes) id.0 node refl (node_in_range nodes id.0 _ shows) is in
    let here = subst (λ o. IsSomeAnd o (λ n. IsPlaceOf s n.place × FormShows nodes s n.form)) at shows in
    (here.0, subst (λ f. FormShows nodes s f) same here.1)

pub effect_declares : (modules : Modules) (b : Bindings) (left : State) (lines : List (List ℕ)) (nodes : List Node) (s : Statement) (name : List ℕ) (id : NodeId) (k : ℕ) → IsPlaceOf s k → FormShows nodes s (forms.Let name id)
    → (e : Sum) × SumShows e nodes id.0 × (effect modules b left lines s ≡ after lines (sum_value b e left) (λ v. going (bound b name (value v.0)) v.1 lines))
effect_declares modules b left lines nodes (declares w e) name id k here (same, shows) = (e, shows, ap (λ n. after lines (sum_value b e left) (λ v. going (bound b n (value v.0)) v.1 lines)) (sym same))
effect_declares modules b left lines nodes (binds place w i) name id k here h = absurd h
effect_declares modules b left lines nodes (prints a) name id k here h = absurd h

pub effect_binds : (modules : Modules) (b : Bindings) (left : State) (lines : List (List ℕ)) (nodes : List Node) (s : Statement) (name file export : List ℕ) (k : ℕ) → IsPlaceOf s k → FormShows nodes s (forms.Bind name file export)
    → effect modules b left lines s ≡ after lines (instance_of modules file export k left) (λ f. going (bound b name (function f.0)) f.1 lines)
effect_binds modules b left lines nodes (declares w e) name file export k here h = absurd h
effect_binds modules b left lines nodes (binds place w i) name file export k here (same, file_is, export_is) =
    ap (λ n. after lines (instance_of modules i.file i.export place left) (λ f. going (bound b n (function f.0)) f.1 lines)) (sym same)
    ∙ ap (λ n. after lines (instance_of modules n i.export place left) (λ f. going (bound b name (function f.0)) f.1 lines)) (sym file_is)
    ∙ ap (λ n. after lines (instance_of modules file n place left) (λ f. going (bound b name (function f.0)) f.1 lines)) (sym export_is)
    ∙ ap (λ j. after lines (instance_of modules file export j left) (λ f. going (bound b name (function f.0)) f.1 lines)) (sym here)
effect_binds modules b left lines nodes (prints a) name file export k here h = absurd h

pub effect_prints : (modules : Modules) (b : Bindings) (left : State) (lines : List (List ℕ)) (nodes : List Node) (s : Statement) (arguments : List NodeId) (k : ℕ) → IsPlaceOf s k → FormShows nodes s (forms.Print arguments)
    → (es : List Sum) × SumsShow nodes es arguments × (effect modules b left lines s ≡ after lines (values_of b es left) (λ vs. after lines (charge 1 vs.1) (λ rest. going b rest (lines ++ line_of vs.0 ∷ []))))
effect_prints modules b left lines nodes (declares w e) arguments k here h = absurd h
effect_prints modules b left lines nodes (binds place w i) arguments k here h = absurd h
effect_prints modules b left lines nodes (prints a) arguments k here h = (
  expressions_of a,
  h,
  ap (λ r. after lines r (λ vs. after lines (charge 1 vs.1) (λ rest. going b rest (lines ++ line_of vs.0 ∷ [])))) (sym (arguments_are b a left)),
)
