use Rattle.std.proofs.Common.{◌≡◌, sym, subst}
use Rattle.wasm_store.specs.Store.{Store, instance_at}
use Rattle.wasm_store.specs.View.{store_of}
use Rattle.wasm_store.specs.Whole.{IsBlank, HasLists}
use Rattle.wasm_store.proofs.Keeps.{whole_instance}
use Rattle.wasm_store.proofs.store.Store.set_instance.Goals as goal

pub invariant_of-self : goal.invariant_of-self
invariant_of-self c =
    record {
      whole = (
          whole_instance c.args.a c.args.i (store_of c.self.inside) c.self.invariant.whole
          (subst (λ (s : Store). IsBlank (instance_at s c.args.a)) (sym c.self.view_is) c.requires.blank)
          (subst (λ (s : Store). c.args.i.module ≡ (instance_at s c.args.a).module) (sym c.self.view_is) c.requires.same_module)
          (subst (λ (s : Store). HasLists s c.args.i) (sym c.self.view_is) c.requires.lists)
          );
      count = c.self.invariant.count;
    }
