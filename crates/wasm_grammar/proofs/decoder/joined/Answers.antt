use Rattle.wasm_grammar.proofs.Joining.{no_codes_left}
use Rattle.wasm_grammar.proofs.decoder.joined.Goals as goal

pub returns-in_default : goal.returns-in_default
returns-in_default c = no_codes_left c.loop-ty.funcs _ c.loop-ty.left _ c.in_default.ensures.0 c.loop-ty.invariant
