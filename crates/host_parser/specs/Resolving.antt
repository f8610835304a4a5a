-- Private: what mentions are bound to, from the last one to the first, where a scope's end comes before what stands in it.
use Rattle.std.specs.Prelude.{ℕ, List, [], ◌∷◌, drop, length}
use Rattle.host_nodes.specs.declared.form.Mention.{Mention}
use Rattle.host_nodes.specs.declared.form.Mention.TheVariants as mentions
use Rattle.host_parser.specs.declared.binding.Binding.{Binding}
use Rattle.host_parser.specs.Names.{Environment, binding_of, enter}

-- so many locals go out of scope
abbrev pub left : ℕ → Environment → Environment
left k e = record { globals = e.globals; locals = drop k e.locals }

-- the bindings of what is left, with those of what comes after it; how many names each scope that is open declares, the innermost first
abbrev pub resolved : Environment → List ℕ → List Mention → List Binding → List Binding
resolved e cs [] y = y
resolved e cs (mentions.Name n ∷ ms) y = resolved e cs ms (binding_of n e ∷ y)
resolved e cs (mentions.Ends ds ∷ ms) y = resolved (enter ds e) (length ds ∷ cs) ms y
resolved e (c ∷ cs) (mentions.Begins ∷ ms) y = resolved (left c e) cs ms y
resolved e [] (mentions.Begins ∷ ms) y = resolved e [] ms y
