use Rattle.std.proofs.Common.{◌≡◌, ◌+◌, ◌-◌, length, rules, ap, ◌∙◌, arith, ◌∷◌}
use Rattle.jspi_stacks.specs.declared.frame.Frame.TheVariants.{Host}
use Rattle.jspi_stacks.proofs.Entries.{last_set, last_host, host_changed}
use Rattle.jspi_stacks.proofs.stack.step_host.Goals as goal

pub returns-in_err-effect-in-Host-clause-as_many :
    goal.returns-in_err-effect-in-Host-clause-as_many
returns-in_err-effect-in-Host-clause-as_many c =
    let n : c.len-top.result ≡ length c.args.list.now.items = search rules in
    let lt = last_host c.args.list.now.items _ c.requires in
    let l = last_set c.args.list.now.items (c.len-top.result - 1) c.index_mut.result.now (Host c.step.new.self) (omega (arith, n, lt)) c.index_mut.ensures.value in
    host_changed _ _ l.rest c.step.new.self c.in-Host.frame l.new (l.old ∙ ap (λ x. x ∷ l.rest) c.in-Host.is)

pub returns-clause-steps : goal.returns-clause-steps
returns-clause-steps c =
    let n : c.len-top.result ≡ length c.args.list.now.items = search rules in
    let lt = last_host c.args.list.now.items _ c.requires in
    let l = last_set c.args.list.now.items (c.len-top.result - 1) c.index_mut.result.now (Host c.step.new.self) (omega (arith, n, lt)) c.index_mut.ensures.value in
    record {
      before = c.in-Host.frame;
      after = c.step.new.self;
      rest = l.rest;
      old_is = l.old ∙ ap (λ x. x ∷ l.rest) c.in-Host.is;
      new_is = l.new;
      makes = c.in_ok-effect-in-Host.ensures;
    }

pub returns-clause-as_many : goal.returns-clause-as_many
returns-clause-as_many c =
    let n : c.len-top.result ≡ length c.args.list.now.items = search rules in
    let lt = last_host c.args.list.now.items _ c.requires in
    let l = last_set c.args.list.now.items (c.len-top.result - 1) c.index_mut.result.now (Host c.step.new.self) (omega (arith, n, lt)) c.index_mut.ensures.value in
    host_changed _ _ l.rest c.step.new.self c.in-Host.frame l.new (l.old ∙ ap (λ x. x ∷ l.rest) c.in-Host.is)
