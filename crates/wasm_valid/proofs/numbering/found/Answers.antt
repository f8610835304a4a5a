use Rattle.std.proofs.Common.{◌∙◌, ◌-◌, ◌++◌, ◌∷◌, [], List, ap, arith, flat_map}
use Rattle.wasm_syntax.specs.declared.instructions.Instr.{Instr}
use Rattle.wasm_syntax.specs.Numbering.{nested_in}
use Rattle.wasm_valid.proofs.NumberLaws.{too_many, other_number, this_number, leaves_same, leaves_none, none_of}
use Rattle.wasm_valid.proofs.numbering.found.Goals as goal

pub returns-then-left-eq0 : goal.returns-then-left-eq0
returns-then-left-eq0 c = too_many c.args.«module».now c.args.from (c.args.id ∷ []) c.loop-left.left c.loop-left.pending.items c.loop-left.next c.loop-left.invariant c.if-left-eq0.true

pub returns-then-next-left : goal.returns-then-next-left
returns-then-next-left c =
    other_number c.args.«module».now c.args.from (c.args.id ∷ []) c.loop-left.left c.loop-left.pending.items c.loop-left.next c.loop-left.invariant c.if-left-eq0.false c.if-next-left.true

pub loop-left-preserved : goal.loop-left-preserved
loop-left-preserved c =
    leaves_same c.args.«module».now c.args.from (c.args.id ∷ []) (c.loop-left.left - 1) c.add_nested.new.pending.items _
    (this_number c.args.«module».now c.args.from (c.args.id ∷ []) c.loop-left.left c.loop-left.pending.items c.loop-left.next c.loop-left.invariant c.if-left-eq0.false c.if-next-left.false
    c.add_nested.new.pending.items (c.in_ok-add_nested.ensures ∙ ap (λ (code : List Instr). c.loop-left.pending.items ++ flat_map nested_in code) c.code.ensures))
    c.in-Some.ensures.items

pub returns-in-None : goal.returns-in-None
returns-in-None c =
    leaves_none c.args.«module».now c.args.from (c.args.id ∷ []) (c.loop-left.left - 1) c.add_nested.new.pending.items
    (this_number c.args.«module».now c.args.from (c.args.id ∷ []) c.loop-left.left c.loop-left.pending.items c.loop-left.next c.loop-left.invariant c.if-left-eq0.false c.if-next-left.false
    c.add_nested.new.pending.items (c.in_ok-add_nested.ensures ∙ ap (λ (code : List Instr). c.loop-left.pending.items ++ flat_map nested_in code) c.code.ensures))
    (none_of c.add_nested.new.pending.items (omega (arith, c.add_nested.new.pending.ok.0, c.in-None.ensures.cases.0)))
