use Rattle.std.proofs.Common.{sym}
use Rattle.wasm_valid.proofs.ValidLaws.{body_is, locals_are, few_are}
use Rattle.wasm_valid.proofs.valid.check_body.Goals as goal

pub returns : goal.returns
returns c =
    body_is c.args.«module».now c.args.func.now c.in-Some.ty.now c.in-Some-2.locals c.in_ok-height.height (sym c.in-Some.ensures.value)
    (locals_are c.in-Some.ty.now c.args.func.now c.as_slice.result.now c.as_slice-2.result.now c.in_ok-locals.field-0 c.in-Some-2.locals c.as_slice.ensures c.as_slice-2.ensures c.in-Some-2.is c.in_ok-locals.ensures.types)
    (few_are c.in-Some.ty.now c.args.func.now c.as_slice.result.now c.as_slice-2.result.now c.in_ok-locals.field-0 c.in-Some-2.locals c.as_slice.ensures c.as_slice-2.ensures c.in-Some-2.is c.in_ok-locals.ensures.few)
    c.in_ok-height.ensures
