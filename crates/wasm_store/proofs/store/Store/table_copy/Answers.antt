use Rattle.std.proofs.Common.{◌≡◌, List, sym, ◌∙◌, subst}
use Rattle.std.specs.Vec.{with_items}
use Rattle.std.proofs.lemmas.List.{with_items_is}
use Rattle.wasm_store.specs.Store.{TableInst}
use Rattle.wasm_store.specs.View.{store_of}
use Rattle.wasm_store.specs.Whole.{IsWhole, IsLater}
use Rattle.wasm_store.proofs.Steps.{Copied, copy_step}
use Rattle.wasm_store.proofs.store.Store.table_copy.Goals as goal

done_ : (c : goal.Joined-copy) → Copied (store_of c.self.inside) c.args.self.now c.copy.new.tables
done_ c =
    copy_step (store_of c.self.inside) c.args.self.now c.args.to_table c.args.from_table c.args.to c.args.from c.args.n c.copy.result c.deref_mut.result.now c.copy.new.tables
    c.deref_mut.ensures.value c.self.view_is c.self.invariant.whole c.requires.live_to c.requires.live_from c.requires.typed c.copy.ensures.within.0 c.copy.ensures.written c.copy.ensures.refused

items_are : (c : goal.Joined-copy) → (with_items c.self.inside.tables c.copy.new.tables).items ≡ c.copy.new.tables
items_are c = with_items_is c.self.inside.tables c.copy.new.tables (c.copy.ensures.len ∙ c.deref_mut.ensures.len)

pub invariant_of-self : goal.invariant_of-self
invariant_of-self c =
    record {
      whole = (
          subst (λ (ts : List TableInst). IsWhole (record (store_of c.self.inside) { tables = ts })) (sym (items_are c)) (done_ c).whole
          );
      count = c.self.invariant.count;
    }

pub returns-clause-later : goal.returns-clause-later
returns-clause-later c = subst (λ (ts : List TableInst). IsLater c.args.self.now (record (store_of c.self.inside) { tables = ts })) (sym (items_are c)) (done_ c).later
