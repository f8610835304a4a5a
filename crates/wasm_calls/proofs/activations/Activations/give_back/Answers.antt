use Rattle.std.proofs.Common.{sym, subst}
use Rattle.std.specs.List.{AllZip}
use Rattle.wasm_store.specs.Whole.{HasType}
use Rattle.wasm_calls.proofs.Calling.{next_frame, give_lasts}
use Rattle.wasm_calls.proofs.activations.Activations.give_back.Goals as goal

pub returns-in-Some-clause-lasts : goal.returns-in-Some-clause-lasts
returns-in-Some-clause-lasts c = λ R h.
    let n = next_frame c.args.store.now R c.args.self.now c.args.values c.in-Some.waiting c.pop.new.self.items c.in-Some.ensures.items h in
    give_lasts c.args.store.now R c.args.values.items c.in-Some.waiting c.supply.new.self c.pop.new.self c.args.self.now.left n
    (λ own types w t. c.supply.ensures.fits c.args.store.now own types w (subst (λ vs. AllZip (HasType c.args.store.now) vs types) (sym c.as_slice.ensures.value) t))
