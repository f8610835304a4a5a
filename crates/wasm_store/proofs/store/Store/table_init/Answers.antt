use Rattle.std.proofs.Common.{◌≡◌, ◌<◌, List, [], length, sym, ◌∙◌, subst}
use Rattle.std.proofs.lemmas.List.{get_or_read}
use Rattle.wasm_syntax.specs.declared.value.Value.{Value}
use Rattle.wasm_store.specs.Store.{Store, table_at, element_at}
use Rattle.wasm_store.specs.View.{store_of}
use Rattle.wasm_store.specs.Whole.{AreTyped}
use Rattle.wasm_store.proofs.Steps.{After, write_after}
use Rattle.wasm_store.proofs.store.Store.table_init.Goals as goal

items_are : (c : goal.Joined-write) → c.as_slice-items.result.now ≡ element_at (store_of c.self.inside) c.args.e
items_are c =
    let here : c.args.e.0 < length (store_of c.self.inside).elements = subst (λ (s : Store). c.args.e.0 < length s.elements) (sym c.self.view_is) c.requires.live_segment in
    c.as_slice-items.ensures ∙ get_or_read (store_of c.self.inside).elements c.args.e.0 c.index.result.now here c.index.ensures []

typed : (c : goal.Joined-write) → AreTyped (store_of c.self.inside) c.as_slice-items.result.now (table_at (store_of c.self.inside) c.args.a).elem
typed c =
    subst (λ (vs : List Value). AreTyped (store_of c.self.inside) vs (table_at (store_of c.self.inside) c.args.a).elem) (sym (items_are c))
    (subst (λ (s : Store). AreTyped s (element_at s c.args.e) (table_at s c.args.a).elem) (sym c.self.view_is) c.requires.typed)

done_ : (c : goal.Joined-write) → After (store_of c.self.inside) c.args.self.now c.args.a c.write.new.self
done_ c =
    write_after (store_of c.self.inside) c.args.self.now c.args.a c.index_mut-table.result.now c.write.new.self c.self.view_is c.self.invariant.whole c.requires.live c.index_mut-table.ensures.value
    c.args.to c.args.from c.args.n c.as_slice-items.result.now c.write.result (typed c) c.write.ensures.within.0 c.write.ensures.written c.write.ensures.refused

pub invariant_of-self : goal.invariant_of-self
invariant_of-self c =
    record {
      whole = (
          (done_ c).whole
          );
      count = c.self.invariant.count;
    }

pub returns-clause-later : goal.returns-clause-later
returns-clause-later c = (done_ c).later
