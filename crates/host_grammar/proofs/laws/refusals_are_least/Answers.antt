use Rattle.host_grammar.proofs.Main.{unexpected_within, unexpected_at_end}
use Rattle.host_grammar.proofs.laws.refusals_are_least.Goals as goal

pub returns-clause-token : goal.returns-clause-token
returns-clause-token c = unexpected_within

pub returns-clause-missing : goal.returns-clause-missing
returns-clause-missing c = unexpected_at_end
