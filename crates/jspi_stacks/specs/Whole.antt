-- Whole terms: what a run of a script and its modules has yet to do. Terms of the script and terms of modules (WebAssembly Core 2.0,
-- section 4.4) stand round one another, each with a hole where its effect or call is, and so on inward to the one place at work.
use Rattle.std.specs.Prelude.{List, [], ◌∷◌, Option}
use Rattle.host_values.specs.declared.values.HostValue.{HostValue}
use Rattle.host_machine.specs.Terms.{HostTerm, term_of as host_term_of}
use Rattle.wasm_store.specs.Store.{Store}
use Rattle.wasm_machine.specs.Terms.{Term}
use Rattle.wasm_machine.specs.View.{term_of as core_term_of}
use Rattle.jspi_stacks.specs.declared.frame.Frame.{Frame}
use Rattle.jspi_stacks.specs.declared.frame.Frame.TheVariants as frames
use Rattle.jspi_stacks.specs.declared.mark.Mark.{Mark}

-- what stands round a term
pub data Form : Type 0 where
  -- the script, or a function of it, with its bindings, which waits for the answer of an effect
  host_round : (locals : List (Option HostValue)) → HostTerm → Form
  -- a function of a module, which waits for the results of a call
  core_round : Term → Form
  -- what becomes of the end of a call from one side to the other
  mark_round : Mark → Form

pub data Whole : Type 0 where
  -- nothing is left to do
  idle : Whole
  -- the place of what isn't there yet
  hole : Whole
  -- the script or a function of it is at work
  host : (locals : List (Option HostValue)) → HostTerm → Whole
  -- a function of a module is at work
  core : Term → Whole
  -- an exception is on its way out
  thrown : HostValue → Whole
  around : Form → Whole → Whole

-- the term with its hole filled
abbrev pub fill : Whole → Whole → Whole
fill idle x = idle
fill hole x = x
fill (host locals t) x = host locals t
fill (core t) x = core t
fill (thrown v) x = thrown v
fill (around f w) x = around f (fill w x)

-- the form that an entry of the stack is, where it waits
abbrev pub form_of : Store → Frame → Form
form_of s (frames.Host f) = host_round f.locals (host_term_of f)
form_of s (frames.Wasm v) = core_round (core_term_of s v)
form_of s (frames.Mark m) = mark_round m

-- entries round a term, the topmost one innermost
abbrev pub fold : Store → List Frame → Whole → Whole
fold s [] w = w
fold s (e ∷ es) w = fold s es (around (form_of s e) w)

-- the term that the topmost entry is
abbrev pub at_work : Store → Frame → Whole
at_work s (frames.Host f) = host f.locals (host_term_of f)
at_work s (frames.Wasm v) = core (core_term_of s v)
at_work s (frames.Mark m) = around (mark_round m) hole

-- the term for which a stack stands, its topmost entry first
abbrev pub whole_of : Store → List Frame → Whole
whole_of s [] = idle
whole_of s (e ∷ es) = fold s es (at_work s e)
