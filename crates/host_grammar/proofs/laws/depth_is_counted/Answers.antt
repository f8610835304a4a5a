use Rattle.host_grammar.proofs.Main.{counted}
use Rattle.host_grammar.proofs.Deep.{too_deep_at, none_too_deep, refused_before}
use Rattle.host_grammar.proofs.laws.depth_is_counted.Goals as goal

pub returns-clause-counted : goal.returns-clause-counted
returns-clause-counted c = counted

pub returns-clause-deep : goal.returns-clause-deep
returns-clause-deep c = too_deep_at

pub returns-clause-no_more : goal.returns-clause-no_more
returns-clause-no_more c = none_too_deep

pub returns-clause-refused : goal.returns-clause-refused
returns-clause-refused c = refused_before
