use Rattle.std.proofs.Common.{◌∙◌, sym, ap}
use Rattle.std.specs.List.{slice_get}
use Rattle.small_parser.proofs.Closes.{empty_list, product_alone, product_closed}
use Rattle.small_parser.proofs.chain.close_product.Goals as goal

pub returns-in_default-clause-shown : goal.returns-in_default-clause-shown
returns-in_default-clause-shown c = λ m f h g. product_alone m f c.args.nodes.now c.args.left c.args.operand.0 (empty_list c.args.left (c.in_default.ensures.value ∙ ap (λ z. slice_get z 0) c.as_slice.ensures)) h g

pub returns-clause-shown : goal.returns-clause-shown
returns-clause-shown c = λ m f h g. product_closed m f c.args.nodes.now c.add.new.nodes c.args.left c.args.operand c.in_ok-id.id.0 c.in-Some.first.now
    (ap (λ z. slice_get z 0) (sym c.as_slice.ensures) ∙ sym c.in-Some.ensures.value) c.in_ok-id.ensures.id c.in_ok-id.ensures.nodes h g
