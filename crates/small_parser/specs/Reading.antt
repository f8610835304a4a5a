-- Private: what the reader shows of the machine that it follows.
use Rattle.std.specs.Prelude.{◌≡◌, ℕ, List, [], ◌∷◌, reverse, Option, Some, None, Bool, true, false}
use Rattle.std.specs.List.{list_any}
use Rattle.std.specs.Str.{bytes_eq}
use denote.Ref.{Bor}
use Rattle.small_parser.specs.declared.script.Node.{Node}
use Rattle.small_parser.specs.declared.script.NodeId.{NodeId}
use Rattle.small_parser.specs.declared.chain.Level as code
use Rattle.small_parser.specs.declared.reader.Call.{Call}
use Rattle.small_parser.specs.declared.reader.Outer as code_outer
use Rattle.small_parser.specs.declared.reader.Outer.TheVariants as outers
use Rattle.small_parser.specs.declared.reader.Statement.{Statement}
use Rattle.small_parser.specs.declared.reader.Statement.TheVariants as statements
use Rattle.small_parser.specs.declared.reader.Phase.{Phase}
use Rattle.small_parser.specs.declared.reader.Phase.TheVariants as phases
use Rattle.small_parser.specs.declared.reader.Reader.{Reader}
use Rattle.small_parser.specs.Grammar.{Factor, Passed, Script, declared_by, bound_by}
use Rattle.small_parser.specs.Shows.{FactorShows, PassedShow, ArgumentsShow, ScriptShows}
use Rattle.small_parser.specs.Machine.{BeforeListed, Level, Outer, in_let, in_print, in_parens, in_call, State, items, let_begun, let_named, let_equals, before_file, after_file, instanced, print_begun, argument, printed, want, called, passing, have, script_of, is_known}
use Rattle.small_parser.specs.Chains.{LevelShows, BeforeListedShows}

-- a call that is open, with its arguments so far
abbrev pub CallShows : List ℕ → ℕ → BeforeListed → List Node → Call → Type 0
CallShows w o a nodes c = (c.callee.now ≡ w) × (c.place ≡ o) × BeforeListedShows a nodes c.arguments

-- the parentheses that are open, the innermost one first, and the statement around them
abbrev pub OuterShows : Outer → List Node → List code_outer.Outer → Statement → Type 0
OuterShows (in_let s l w n q) nodes [] (statements.Let p v) = (p ≡ l) × (v.now ≡ w)
OuterShows (in_print s p o a) nodes [] (statements.Print q ids) = (q ≡ p) × BeforeListedShows a nodes ids
OuterShows (in_parens o l outer) nodes (outers.Parens v ∷ vs) around = LevelShows l nodes v × OuterShows outer nodes vs around
OuterShows (in_call w k o a l outer) nodes (outers.Call v c ∷ vs) around = LevelShows l nodes v × CallShows w o a nodes c × OuterShows outer nodes vs around
OuterShows _ nodes _ _ = ⊥

-- the names of a set are these
abbrev pub Knows : List (List ℕ) → List (Bor (List ℕ)) → Type 0
Knows known keys = (q : Bor (List ℕ)) → list_any (λ k. bytes_eq q.now k.now) keys ≡ is_known known q.now

-- the statements that have ended, the names that they declare, and the functions among these
abbrev pub Held : Script → Reader → Type 0
Held s r = ScriptShows s r.nodes r.top × Knows (declared_by s) r.names.keys × Knows (bound_by s) r.functions.keys

abbrev pub state_script : State → Script
state_script (items s) = s
state_script (let_begun s l) = s
state_script (let_named s l w n) = s
state_script (let_equals s l w n q) = s
state_script (before_file s l w n q read left) = s
state_script (after_file s l w n q file read left) = s
state_script (instanced s l w n q i) = s
state_script (print_begun s p) = s
state_script (argument s p o) = s
state_script (printed s p o a c) = s
state_script (want l outer) = script_of outer
state_script (called w k l outer) = script_of outer
state_script (passing w k o a l outer) = script_of outer
state_script (have f l outer) = script_of outer

-- where a statement begins or ends, no parentheses are open in an expression
abbrev pub PhaseShows : State → Phase → List Node → code.Level → List code_outer.Outer → Statement → Type 0
PhaseShows (items s) phases.Items nodes v vs around = vs ≡ []
PhaseShows (let_begun s l) (phases.LetBegun k) nodes v vs around = (k ≡ l) × (vs ≡ [])
PhaseShows (let_named s l w n) (phases.LetNamed k x) nodes v vs around = (k ≡ l) × (x.now ≡ w) × (vs ≡ [])
PhaseShows (let_equals s l w n q) (phases.LetEquals k x) nodes v vs around = (k ≡ l) × (x.now ≡ w) × (vs ≡ [])
PhaseShows (before_file s l w n q read left) (phases.BeforeFile k x ps) nodes v vs around = (k ≡ l) × (x.now ≡ w) × (ps.now ≡ left) × (vs ≡ [])
PhaseShows (after_file s l w n q file read left) (phases.AfterFile k x y ps) nodes v vs around = (k ≡ l) × (x.now ≡ w) × (y.now ≡ file) × (ps.now ≡ left) × (vs ≡ [])
PhaseShows (instanced s l w n q i) (phases.Instanced k x y z) nodes v vs around = (k ≡ l) × (x.now ≡ w) × (y.now ≡ i.file) × (z.now ≡ i.export) × (vs ≡ [])
PhaseShows (print_begun s p) (phases.PrintBegun k) nodes v vs around = (k ≡ p) × (vs ≡ [])
PhaseShows (argument s p o) (phases.Argument k) nodes v vs around = (k ≡ p) × (vs ≡ [])
PhaseShows (printed s p o a c) (phases.Printed k ids) nodes v vs around = (k ≡ p) × ArgumentsShow a nodes ids × (vs ≡ [])
PhaseShows (want l outer) phases.Want nodes v vs around = LevelShows l nodes v × OuterShows outer nodes vs around
PhaseShows (called w k l outer) (phases.Called x) nodes v vs around = (x.now ≡ w) × LevelShows l nodes v × OuterShows outer nodes vs around
PhaseShows (passing w k o a l outer) phases.Passing nodes v vs around = OuterShows (in_call w k o a l outer) nodes vs around
PhaseShows (have f l outer) (phases.Have c) nodes v vs around = FactorShows f nodes c.0 × LevelShows l nodes v × OuterShows outer nodes vs around
PhaseShows _ _ nodes v vs around = ⊥

abbrev pub Shows : State → Reader → Type 0
Shows s r = Held (state_script s) r × PhaseShows s r.phase r.nodes r.level (reverse r.outer.items) r.statement

-- what a step leaves
abbrev pub Follows : Option State → Bool → Reader → Type 0
Follows None went r = went ≡ false
Follows (Some s) went r = (went ≡ true) × Shows s r

-- what a step leaves where an operand is wanted, by what the machine does there
abbrev pub FromWant : (Level → Outer → Option State) → Reader → Bool → Reader → Type 0
FromWant next old went new = (l : Level) (outer : Outer) → Held (script_of outer) old → LevelShows l old.nodes old.level → OuterShows outer old.nodes (reverse old.outer.items) old.statement → Follows (next l outer) went new

-- after an operand
abbrev pub FromHave : (Factor → Level → Outer → Option State) → NodeId → Reader → Bool → Reader → Type 0
FromHave next operand old went new = (f : Factor) (l : Level) (outer : Outer) → Held (script_of outer) old → FactorShows f old.nodes operand.0 → LevelShows l old.nodes old.level → OuterShows outer old.nodes (reverse old.outer.items) old.statement → Follows (next f l outer) went new

-- at the end of a parenthesis after an operand, where what was open there is taken off the list
abbrev pub FromClosed : (Factor → Level → Outer → Option State) → NodeId → code_outer.Outer → Reader → Bool → Reader → Type 0
FromClosed next operand taken old went new = (f : Factor) (l : Level) (outer : Outer) → Held (script_of outer) old → FactorShows f old.nodes operand.0 → LevelShows l old.nodes old.level
    → OuterShows outer old.nodes (taken ∷ reverse old.outer.items) old.statement → Follows (next f l outer) went new

-- where an argument of a call or its end is wanted
abbrev pub FromPassing : (List ℕ → ℕ → ℕ → BeforeListed → Level → Outer → Option State) → Reader → Bool → Reader → Type 0
FromPassing next old went new = (w : List ℕ) (k o : ℕ) (a : BeforeListed) (l : Level) (outer : Outer) → Held (script_of outer) old
    → OuterShows (in_call w k o a l outer) old.nodes (reverse old.outer.items) old.statement → Follows (next w k o a l outer) went new

-- a call whose arguments have been read
abbrev pub FromArguments : (List ℕ → ℕ → ℕ → Passed → Level → Outer → Option State) → code.Level → Call → Reader → Bool → Reader → Type 0
FromArguments next outside c old went new = (k : ℕ) (a : Passed) (l : Level) (outer : Outer) → Held (script_of outer) old → LevelShows l old.nodes outside → PassedShow a old.nodes c.arguments
    → OuterShows outer old.nodes (reverse old.outer.items) old.statement → Follows (next c.callee.now k c.place a l outer) went new

-- outside of an expression
abbrev pub FromScript : (Script → Option State) → Reader → Bool → Reader → Type 0
FromScript next old went new = (s : Script) → Held s old → reverse old.outer.items ≡ [] → Follows (next s) went new
