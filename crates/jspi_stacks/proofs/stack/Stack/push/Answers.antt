use Rattle.std.proofs.Common.{◌≡◌, ◌+◌, ◌<◌, length, rules, ap, ◌∙◌, arith, ◌∷◌, []}
use Rattle.std.proofs.lemmas.List.{length-append}
use Rattle.jspi_stacks.proofs.Entries.{few_entries}
use Rattle.jspi_stacks.proofs.stack.Stack.push.Goals as goal

pub one_more-self-inside-requires : goal.one_more-self-inside-requires
one_more-self-inside-requires c =
    let n : c.len.result ≡ length c.push.new.self.items = search rules in
    let few = few_entries c.self.inside.list.items c.self.inside.activations c.self.invariant in
    omega (arith, n, few, ap length c.in_ok-push.ensures.items, length-append c.self.inside.list.items (c.args.frame ∷ []))
