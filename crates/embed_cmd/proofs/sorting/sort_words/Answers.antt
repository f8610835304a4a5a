use Rattle.std.proofs.Common.{◌≡◌, [], ◌∷◌, length, arith, sym, ap, ◌∙◌, string_bytes, inl, inr}
use Rattle.embed_cmd.specs.Words.{texts_of}
use Rattle.embed_cmd.specs.Sorting.{sorted_after}
use Rattle.embed_cmd.specs.declared.sorting.Next.TheVariants as nexts
use Rattle.embed_cmd.proofs.Sortings.{begun, next_word, all_sorted, sorted_done}
use Rattle.embed_cmd.proofs.sorting.sort_words.Goals as goal

pub loop-word-init : goal.loop-word-init
loop-word-init c = begun c.args.words.now ∙ ap (λ s. sorted_after nexts.Word s (texts_of c.args.words.now)) (sym c.new-sorted.ensures)

pub loop-word-preserved : goal.loop-word-preserved
loop-word-preserved c =
    next_word c.args.words.now c.loop-word.word-index c.word-item.result c.loop-word.next c.in_ok-next.next c.loop-word.sorted c.take.new.self c.loop-word-test.true c.loop-word.invariant
    (λ rest. ap (λ w. sorted_after c.loop-word.next c.loop-word.sorted (w ∷ rest)) (ap string_bytes (sym c.word-item.is) ∙ sym c.as_str.ensures.value) ∙ c.in_ok-next.ensures rest)

pub returns-in-Word : goal.returns-in-Word
returns-in-Word c =
    let at_end : c.loop-word.word-index ≡ length c.args.words.now = omega arith in
    sym (all_sorted c.args.words.now c.loop-word.word-index c.loop-word.next c.loop-word.sorted at_end c.loop-word.invariant
    ∙ ap (λ n. sorted_after n c.loop-word.sorted []) c.in-Word.is ∙ sorted_done c.loop-word.sorted)

pub returns-in-Value : goal.returns-in-Value
returns-in-Value c =
    let at_end : c.loop-word.word-index ≡ length c.args.words.now = omega arith in
    let all = all_sorted c.args.words.now c.loop-word.word-index c.loop-word.next c.loop-word.sorted at_end c.loop-word.invariant in
    elim c.in-Value.is [
      | inl w ↦ sym (all ∙ ap (λ n. sorted_after n c.loop-word.sorted []) w.1)
      | inr w ↦ sym (all ∙ ap (λ n. sorted_after n c.loop-word.sorted []) w)
    ]
