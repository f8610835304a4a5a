use Rattle.std.proofs.Common.{◌≡◌, ◌+◌, ◌-◌, length, rules, ap, ◌∙◌, arith, ◌∷◌}
use Rattle.jspi_stacks.specs.declared.frame.Frame.TheVariants.{Wasm}
use Rattle.jspi_stacks.proofs.Entries.{last_set, last_wasm, wasm_changed}
use Rattle.jspi_stacks.proofs.stack.step_wasm.Goals as goal

pub returns-clause-steps : goal.returns-clause-steps
returns-clause-steps c =
    let n : c.len-top.result ≡ length c.args.list.now.items = search rules in
    let lt = last_wasm c.args.list.now.items _ c.requires in
    let l = last_set c.args.list.now.items (c.len-top.result - 1) c.index_mut.result.now (Wasm c.step.new.self) (omega (arith, n, lt)) c.index_mut.ensures.value in
    record {
      before = c.in-Wasm.frame;
      after = c.step.new.self;
      rest = l.rest;
      old_is = l.old ∙ ap (λ x. x ∷ l.rest) c.in-Wasm.is;
      new_is = l.new;
      makes = c.in_ok-effect-in-Wasm.ensures.makes;
      fits = c.in_ok-effect-in-Wasm.ensures.fits;
    }

pub returns-clause-as_many : goal.returns-clause-as_many
returns-clause-as_many c =
    let n : c.len-top.result ≡ length c.args.list.now.items = search rules in
    let lt = last_wasm c.args.list.now.items _ c.requires in
    let l = last_set c.args.list.now.items (c.len-top.result - 1) c.index_mut.result.now (Wasm c.step.new.self) (omega (arith, n, lt)) c.index_mut.ensures.value in
    wasm_changed _ _ l.rest c.step.new.self c.in-Wasm.frame l.new (l.old ∙ ap (λ x. x ∷ l.rest) c.in-Wasm.is)
