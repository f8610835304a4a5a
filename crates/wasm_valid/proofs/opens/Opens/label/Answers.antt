use Rattle.std.proofs.Common.{◌∙◌, arith}
use Rattle.wasm_valid.proofs.PlaceLaws.{label_found}
use Rattle.wasm_valid.proofs.opens.Opens.label.Goals as goal

pub returns : goal.returns
returns c =
    label_found c.args.«module».now c.args.self.now.top c.args.self.now.outer.items c.args.index c.len-2.result c.index-outer.result.now _ c.if-index-eq0.false
    (omega (arith, c.len.ensures, c.len-2.ensures)) (c.len-2.ensures ∙ c.args.self.now.outer.ok.0) c.index-outer.ensures c.types_of-2.ensures
