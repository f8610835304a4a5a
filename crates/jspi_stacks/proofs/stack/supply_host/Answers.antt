use Rattle.std.proofs.Common.{◌≡◌, ◌+◌, ◌-◌, length, rules, ap, ◌∙◌, arith, ◌∷◌}
use Rattle.jspi_stacks.specs.declared.frame.Frame.TheVariants.{Host}
use Rattle.jspi_stacks.proofs.Entries.{last_set, last_host, supplied_from}
use Rattle.jspi_stacks.proofs.stack.supply_host.Goals as goal

pub returns : goal.returns
returns c =
    let n : c.len-top.result ≡ length c.args.list.now.items = search rules in
    let lt = last_host c.args.list.now.items _ c.requires in
    let l = last_set c.args.list.now.items (c.len-top.result - 1) c.index_mut.result.now (Host c.supply.new.self) (omega (arith, n, lt)) c.index_mut.ensures.value in
    supplied_from _ _ l.rest c.in-Host.frame c.args.value (l.old ∙ ap (λ x. x ∷ l.rest) c.in-Host.is) (l.new ∙ ap (λ f. Host f ∷ l.rest) c.supply.ensures)
