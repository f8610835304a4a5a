use Rattle.host_states.proofs.Leads.{Leads}
use Rattle.host_states.proofs.refusal.refusal_of.Given as goal

-- the tokens so far lead to a state that the reader shows
abbrev pub invariant-loop-token : goal.invariant-loop-token
invariant-loop-token l = Leads l.tokens l.token-index l.reader
