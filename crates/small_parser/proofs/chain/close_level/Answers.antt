use Rattle.small_parser.proofs.Closes.{level_closed, grows_on}
use Rattle.small_parser.proofs.chain.close_level.Goals as goal

pub returns-clause-grown : goal.returns-clause-grown
returns-clause-grown c = grows_on _ _ _ c.in_ok-chain.ensures.grown c.in_ok-id.ensures.grown

pub returns-clause-shown : goal.returns-clause-shown
returns-clause-shown c = λ l f h g. level_closed l f c.args.nodes.now c.close_product.new.nodes c.close_sum.new.nodes c.args.level c.args.operand.0 c.in_ok-chain.chain.0 c.in_ok-id.id.0
    c.in_ok-chain.ensures.grown c.in_ok-chain.ensures.shown c.in_ok-id.ensures.shown h g
