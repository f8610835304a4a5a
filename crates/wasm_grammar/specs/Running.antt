-- Private: reading an expression with a list of open blocks.
use Rattle.std.specs.Prelude.{ℕ, zero, suc, ◌+◌, List, [], ◌∷◌, ◌++◌, length, Option, Some, None, Bool, true, false, cond, ◌&&◌, ◌==◌, reverse}
use Rattle.wasm_syntax.specs.declared.instructions.BlockId.{BlockId}
use Rattle.wasm_syntax.specs.declared.instructions.Instr.{Instr}
use Rattle.wasm_syntax.specs.declared.instructions.Instr.TheVariants as i
use Rattle.wasm_grammar.specs.declared.built.Foreign.TheVariants as w
use Rattle.wasm_grammar.specs.declared.built.Built.{Built}
use Rattle.wasm_grammar.specs.declared.tokens.Token.{Token}
use Rattle.wasm_grammar.specs.declared.tokens.Token.TheVariants as t
use Rattle.wasm_grammar.specs.declared.blocks.Kind.{Kind}
use Rattle.wasm_grammar.specs.declared.blocks.Kind.TheVariants as k
use Rattle.wasm_grammar.specs.declared.blocks.Level.{Level}
use Rattle.wasm_grammar.specs.declared.blocks.Open.{Open}
use Rattle.wasm_grammar.specs.Leaves.{with_leaf}
use Rattle.wasm_grammar.specs.Reading.{◌>>=◌}
use Rattle.wasm_grammar.specs.Threads.{Reader, Whole, whole_in}
use Rattle.wasm_grammar.specs.Instructions.{token_in}
use Rattle.wasm_grammar.specs.Code.{make_block, if_of}

-- the instructions of the innermost open block, the levels around it from the inside out, and what is built
pub record State : Type 0 where
  pub instrs : List Instr
  pub levels : List Level
  pub built : Built

abbrev pub state : Open → Built → State
state o b = record { instrs = o.instrs; levels = reverse o.levels; built = b }

abbrev pub opens : Kind → State → State
opens kind s = record { instrs = []; levels = record { kind = kind; before = s.instrs } ∷ s.levels; built = s.built }

-- the instructions before a block go on with its instruction
abbrev pub ends_as : Kind → (before instrs : List Instr) → Built → List Instr × Built
ends_as (k.Block type) before instrs s = let n = make_block instrs s in (before ++ i.Block type n.0 ∷ [], n.1)
ends_as (k.Loop type) before instrs s = let n = make_block instrs s in (before ++ i.Loop type n.0 ∷ [], n.1)
ends_as (k.If type) before instrs s = let m = make_block instrs s in let n = make_block [] m.1 in (before ++ if_of type m.0 n.0 ∷ [], n.1)
ends_as (k.Else type one) before instrs s = let n = make_block instrs s in (before ++ if_of type one n.0 ∷ [], n.1)

abbrev pub closes : List Level → List Instr → Built → Option State
closes [] instrs b = None
closes (l ∷ ls) instrs b = let x = ends_as l.kind l.before instrs b in Some (record { instrs = x.0; levels = ls; built = x.1 })

abbrev pub turns_as : Kind → (before : List Instr) → List Level → List Instr → Built → Option State
turns_as (k.If type) before ls instrs b = let n = make_block instrs b in Some (record { instrs = []; levels = record { kind = k.Else type n.0; before = before } ∷ ls; built = n.1 })
turns_as _ before ls instrs b = None

abbrev pub turns : List Level → List Instr → Built → Option State
turns [] instrs b = None
turns (l ∷ ls) instrs b = turns_as l.kind l.before ls instrs b

abbrev pub step : State → Token → Option State
step s (t.Plain instr) = Some (record s { instrs = s.instrs ++ instr ∷ [] })
step s t.Foreign = Some s
step s (t.Block type) = Some (opens (k.Block type) s)
step s (t.Loop type) = Some (opens (k.Loop type) s)
step s (t.If type) = Some (opens (k.If type) s)
step s t.Else = turns s.levels s.instrs s.built
step s t.End = closes s.levels s.instrs s.built

-- the end of no open block
abbrev pub is_last : List Level → Token → Bool
is_last [] t.End = true
is_last _ _ = false

-- the byte of a foreign leaf that takes the rest of a code entry
abbrev pub begins_simd : List ℕ → Bool
begins_simd [] = false
begins_simd (b ∷ bytes) = b == 0xFD

-- it ends all open blocks
abbrev pub cut_at : (left : ℕ) → Built → State
cut_at left b = record { instrs = []; levels = []; built = with_leaf (record b { blocks = [] }) (record { left = left; what = w.Simd }) }

abbrev pub with_built : State → Built → State
with_built s b = record s { built = b }

-- at most so many tokens; in a code entry or elsewhere
unfoldable pub run : (entry : Bool) → ℕ → State → ℕ → List ℕ → Option (State × List ℕ)
run entry zero s after bytes = None
run entry (suc n) s after bytes =
    cond (entry && begins_simd bytes) (Some (cut_at (after + length bytes) s.built, [])) (
    token_in entry s.built after bytes >>= λ x.
    cond (is_last s.levels x.0.0) (Some (with_built s x.0.1, x.1)) (step (with_built s x.0.1) x.0.0 >>= λ s'. run entry n s' after x.1))

abbrev pub start : Built → State
start b = record { instrs = []; levels = []; built = b }

unfoldable pub expression_in : (entry : Bool) → Reader Built BlockId
expression_in entry s after bytes = run entry (length bytes) (start s) after bytes >>= λ x. Some (make_block x.0.instrs x.0.built, x.1)

abbrev pub body_in : Whole Built BlockId
body_in = whole_in (expression_in true)
