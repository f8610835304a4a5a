use Rattle.wasm_valid.proofs.NumberLaws.{no_datas, no_funcs, no_elems, globals_last}
use Rattle.wasm_valid.proofs.numbering.found_all.Goals as goal

pub returns-in_default : goal.returns-in_default
returns-in_default c = no_datas c.args.«module».now c.len-count.result c.len-count.ensures (rw (c.in_default.is, c.as_slice.ensures) at c.in_ok-left.ensures)

pub returns-in_default-2 : goal.returns-in_default-2
returns-in_default-2 c =
    no_funcs c.args.«module».now c.len-count.result c.in-Some.left c.len-count.ensures (rw (c.in-Some.is, c.as_slice.ensures) at c.in_ok-left.ensures)
    (rw (c.in_default-2.is, c.as_slice-2.ensures) at c.in_ok-left-2.ensures)

pub returns-in_default-3 : goal.returns-in_default-3
returns-in_default-3 c =
    no_elems c.args.«module».now c.len-count.result c.in-Some.left c.in-Some-2.left c.len-count.ensures (rw (c.in-Some.is, c.as_slice.ensures) at c.in_ok-left.ensures)
    (rw (c.in-Some-2.is, c.as_slice-2.ensures) at c.in_ok-left-2.ensures) (rw (c.in_default-3.is, c.as_slice-3.ensures) at c.in_ok-left-3.ensures)

pub returns : goal.returns
returns c =
    globals_last c.args.«module».now c.len-count.result c.in-Some.left c.in-Some-2.left c.in-Some-3.left c.found_globals.result c.len-count.ensures
    (rw (c.in-Some.is, c.as_slice.ensures) at c.in_ok-left.ensures) (rw (c.in-Some-2.is, c.as_slice-2.ensures) at c.in_ok-left-2.ensures)
    (rw (c.in-Some-3.is, c.as_slice-3.ensures) at c.in_ok-left-3.ensures) (rw c.as_slice-4.ensures at c.found_globals.ensures)
