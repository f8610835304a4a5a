use Rattle.std.specs.Prelude.{[], None, reverse, Ok}
use Rattle.std.proofs.Common.{sym, ◌∙◌, ap, subst}
use Rattle.host_parser.specs.Names.{script_environment}
use Rattle.host_parser.specs.Repeats.{repeated, repeated_in}
use Rattle.host_parser.specs.Resolving.{resolved}
use Rattle.host_parser.specs.Parsing.{IsAnswer}
use Rattle.host_parser.proofs.Parses.{is_early, is_tree, is_answer, none_found}
use Rattle.host_parser.proofs.parsing.finish.Goals as goal

pub returns-in-Some : goal.returns-in-Some
returns-in-Some c = is_early c.args.tokens.now c.args.len c.args.built c.requires.whole c.in_ok-again.field-0 c.in-Some.again
    (c.in_ok-again.ensures ∙ ap (λ ds. repeated_in (repeated [] None ds) c.as_slice-mentions.result.now) c.as_slice-declared.ensures ∙ ap (repeated_in (repeated [] None c.args.built.declared)) c.as_slice-mentions.ensures)
    c.in-Some.is

pub of_built-requires : goal.of_built-requires
of_built-requires c = is_tree c.args.tokens.now c.args.len c.args.built c.in_ok-bindings.bindings c.requires.in_order c.requires.whole
    (c.in_ok-bindings.ensures ∙ ap (λ ds. resolved (script_environment ds) [] (reverse c.as_slice-mentions.result.now) []) c.as_slice-declared.ensures ∙ ap (λ ms. resolved (script_environment c.args.built.declared) [] (reverse ms) []) c.as_slice-mentions.ensures)

pub returns : goal.returns
returns c = subst (λ t. IsAnswer c.args.tokens.now c.args.len (Ok t)) (sym c.of_built.ensures) (is_answer c.args.tokens.now c.args.len c.args.built c.in_ok-bindings.bindings c.in_ok-again.field-0 c.requires.whole
    (c.in_ok-again.ensures ∙ ap (λ ds. repeated_in (repeated [] None ds) c.as_slice-mentions.result.now) c.as_slice-declared.ensures ∙ ap (repeated_in (repeated [] None c.args.built.declared)) c.as_slice-mentions.ensures)
    (none_found c.in_ok-again.field-0 (λ a e. c.in_default.not-Some a e))
    (c.in_ok-bindings.ensures ∙ ap (λ ds. resolved (script_environment ds) [] (reverse c.as_slice-mentions.result.now) []) c.as_slice-declared.ensures ∙ ap (λ ms. resolved (script_environment c.args.built.declared) [] (reverse ms) []) c.as_slice-mentions.ensures))
