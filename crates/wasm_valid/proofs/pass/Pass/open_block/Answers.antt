use Rattle.std.proofs.Common.{◌∙◌, ◌++◌, ◌∷◌, [], ap, arith, reverse, length}
use Rattle.std.proofs.lemmas.List.{length-reverse}
use Rattle.wasm_valid.specs.Operands.{exactly}
use Rattle.wasm_valid.specs.declared.opens.Opens.{Opens}
use Rattle.wasm_valid.specs.Places.{next_open}
use Rattle.wasm_valid.specs.Typing.{most_nested}
use Rattle.wasm_valid.proofs.PlaceLaws.{no_type, no_test, no_params, too_deep, open_goes}
use Rattle.wasm_valid.proofs.pass.Pass.open_block.Goals as goal

pub returns-in_default-clause-goes : goal.returns-in_default-clause-goes
returns-in_default-clause-goes c = λ F.
    no_type c.args.«module».now F c.args.self.now.opens.top (reverse c.args.self.now.opens.outer.items) c.args.self.now.operands.own c.args.self.now.operands.under c.args.nesting
    c.requires.at c.in_default.ensures

pub returns-then-not-take_test-clause-goes : goal.returns-then-not-take_test-clause-goes
returns-then-not-take_test-clause-goes c = λ F.
    no_test c.args.«module».now F c.args.self.now.opens.top (reverse c.args.self.now.opens.outer.items) c.args.self.now.operands.own c.args.self.now.operands.under c.args.nesting
    c.requires.at _ _ _ c.in-Some.ensures c.take_test.ensures.own c.if-not-take_test.true

pub returns-then-not-pop_types-clause-goes : goal.returns-then-not-pop_types-clause-goes
returns-then-not-pop_types-clause-goes c = λ F.
    no_params c.args.«module».now F c.args.self.now.opens.top (reverse c.args.self.now.opens.outer.items) c.args.self.now.operands.own c.args.self.now.operands.under c.args.nesting
    c.requires.at _ _ _ _ _ c.in-Some.ensures c.take_test.ensures.own c.if-not-take_test.false (rw c.types_of.ensures at c.pop_types.ensures.own) c.if-not-pop_types.true

pub returns-then-len-ge-MOST_NESTED-clause-goes : goal.returns-then-len-ge-MOST_NESTED-clause-goes
unfolding most_nested
returns-then-len-ge-MOST_NESTED-clause-goes c = λ F.
    too_deep c.args.«module».now F c.args.self.now.opens.top (reverse c.args.self.now.opens.outer.items) c.args.self.now.operands.own c.args.self.now.operands.under c.args.nesting
    c.requires.at _ _ _ _ _ c.in-Some.ensures c.take_test.ensures.own c.if-not-take_test.false (rw c.types_of.ensures at c.pop_types.ensures.own) c.if-not-pop_types.false
    (omega (arith, c.if-len-ge-MOST_NESTED.true, c.len.ensures, ap (λ (o : Opens). length o.outer.items) c.take_test.ensures.opens, length-reverse c.args.self.now.opens.outer.items, c.take_test.new.self.opens.outer.ok.0))

pub returns-clause-goes : goal.returns-clause-goes
unfolding most_nested
returns-clause-goes c = λ F.
    open_goes c.args.«module».now F c.args.self.now.opens.top c.opened-self.result c.args.self.now.opens.outer.items c.push.new.self.items c.args.self.now.operands.own c.open.new.self.own c.args.self.now.operands.under c.open.new.self.under c.pop_types.new.self.under c.args.nesting
    c.in-Some.parts.params c.in-Some.parts.results _ _ _ _ c.in_ok-saved.saved c.args.self.now.highest
    c.requires.at c.in-Some.ensures c.take_test.ensures.own c.if-not-take_test.false (rw c.types_of.ensures at c.pop_types.ensures.own) c.if-not-pop_types.false
    (c.pop_types.ensures.under ∙ c.take_test.ensures.under) c.in_ok-saved.ensures.saved.0 c.in_ok-saved.ensures.saved.1
    c.opened-self.ensures (c.in_ok-saved.ensures.own ∙ ap exactly c.types_of-2.ensures)
    (c.in_ok-push.ensures.items ∙ ap (λ (o : Opens). o.outer.items ++ record { «open» = next_open o.top; saved = c.in_ok-saved.saved } ∷ []) c.take_test.ensures.opens)
    c.in_ok-saved.ensures.under
    (omega (arith, c.if-len-ge-MOST_NESTED.false, c.len.ensures, ap (λ (o : Opens). length o.outer.items) c.take_test.ensures.opens, c.take_test.new.self.opens.outer.ok.0))
    c.requires.counted c.requires.place
