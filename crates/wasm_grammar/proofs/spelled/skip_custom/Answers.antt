use Rattle.wasm_grammar.proofs.Customs.{custom_spelled, custom_only}
use Rattle.wasm_grammar.proofs.spelled.skip_custom.Goals as goal

pub returns-clause-spelled : goal.returns-clause-spelled
returns-clause-spelled c = custom_spelled c.args.bytes.now (λ x. x.now) c.behind_custom.result c.behind_custom.ensures.gives

pub returns-clause-only : goal.returns-clause-only
returns-clause-only c = custom_only c.args.bytes.now (λ x. x.now) c.behind_custom.result c.behind_custom.ensures.gives
