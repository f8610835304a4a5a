use Rattle.std.proofs.Common.{◌≡◌, ◌∙◌, [], ap}
use Rattle.indexmap.specs.IndexMap.{insert_all}
use Rattle.indexmap.proofs.CallerLemmas.{Drains-YieldsInOrder}
use Rattle.host_values.specs.SameKeys.{same_key}
use Rattle.host_values.proofs.Collected.{collected}
use Rattle.host_values.proofs.heap.collect.Goals as goal

pub returns : goal.returns
returns c =
    let ran = c.in_ok-extend.ensures.ran in
    let all : ran.1 ≡ c.args.pairs.items = Drains-YieldsInOrder _ _ ran.0 ran.1 ran.2.3 ran.4 ∙ ran.2.0 in
    ran.3.0 ∙ ap (λ es. insert_all same_key es ran.1) c.new-properties.ensures.empty ∙ ap (insert_all same_key []) all
    ∙ collected c.args.pairs.items c.requires.distinct
