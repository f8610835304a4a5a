use Rattle.std.proofs.Common.{◌≡◌, ◌+◌, ◌-◌, length, rules, ap, ◌∙◌, arith, ◌∷◌}
use Rattle.jspi_stacks.specs.declared.frame.Frame.TheVariants.{Wasm}
use Rattle.jspi_stacks.proofs.Entries.{last_set, last_wasm, results_from}
use Rattle.jspi_stacks.proofs.stack.supply_wasm.Goals as goal

pub returns : goal.returns
returns c =
    let n : c.len-top.result ≡ length c.args.list.now.items = search rules in
    let lt = last_wasm c.args.list.now.items _ c.requires in
    let l = last_set c.args.list.now.items (c.len-top.result - 1) c.index_mut.result.now (Wasm c.supply.new.self) (omega (arith, n, lt)) c.index_mut.ensures.value in
    results_from _ _ l.rest c.in-Wasm.frame c.args.results.now (l.old ∙ ap (λ x. x ∷ l.rest) c.in-Wasm.is) (l.new ∙ ap (λ v. Wasm v ∷ l.rest) c.supply.ensures.supplied)
