use Rattle.std.proofs.Common.{◌++◌, ◌∷◌, [], ◌∙◌, ap, sym, take, string_bytes, append_assoc, arith}
use Rattle.embed_script.specs.Values.{shown_of}
use Rattle.embed_script.specs.Outcome.{line_of}
use Rattle.embed_script.proofs.Lines.{line_next, line_first}
use Rattle.embed_script.proofs.run.add_line.Goals as goal
use Rattle.embed_script.proofs.run.add_line.Goals.{then-index-gt0+in_ok-push_str, else-index-gt0}

pub loop-index-preserved : goal.loop-index-preserved
loop-index-preserved c =
    let vs = c.args.values.now in
    let i = c.loop-index.index in
    let v = c.index-values-index.result in
    let before = string_bytes c.args.text.now in
    elim c.if-index-gt0.branch [
      | then-index-gt0+in_ok-push_str w ↦
          let next = line_next vs i v (omega arith) (omega arith) c.index-values-index.is in
          c.in_ok-show.ensures ∙ ap (λ t. string_bytes t ++ shown_of v) w.text-is ∙ ap (λ t. t ++ shown_of v) w.in_ok-push_str.ensures.bytes
          ∙ ap (λ t. (t ++ 32 ∷ []) ++ shown_of v) c.loop-index.invariant
          ∙ append_assoc (before ++ line_of (take i vs)) (32 ∷ []) (shown_of v) ∙ append_assoc before (line_of (take i vs)) (32 ∷ shown_of v)
          ∙ ap (λ t. before ++ t) (sym next)
      | else-index-gt0 w ↦
          let next = line_first vs i v (omega arith) (omega arith) c.index-values-index.is in
          c.in_ok-show.ensures ∙ ap (λ t. string_bytes t ++ shown_of v) w.text-is ∙ ap (λ t. t ++ shown_of v) c.loop-index.invariant
          ∙ append_assoc before (line_of (take i vs)) (shown_of v) ∙ ap (λ t. before ++ t) (sym next)
    ]
