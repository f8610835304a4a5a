-- Which memory a rewriting grows: that of a memory.grow at work, where it may grow, so that the instruction doesn't give -1
-- (WebAssembly Core 2.0, section 4.4.7).
use Rattle.std.specs.Prelude.{List, [], ◌∷◌, Option, Some, None, slice_get}
use Rattle.wasm_syntax.specs.Sorts.{sort_of}
use Rattle.wasm_syntax.specs.declared.addresses.MemAddr.{MemAddr}
use Rattle.wasm_syntax.specs.declared.instructions.Instr.{Instr}
use Rattle.wasm_syntax.specs.declared.sorts.Simple.{Simple}
use Rattle.wasm_syntax.specs.declared.sorts.Simple.TheVariants as simple
use Rattle.wasm_syntax.specs.declared.sorts.Sort.{Sort}
use Rattle.wasm_syntax.specs.declared.sorts.Sort.TheVariants as sort
use Rattle.wasm_syntax.specs.declared.value.Value.{Value}
use Rattle.wasm_syntax.specs.declared.value.Value.TheVariants as w
use Rattle.wasm_valid.specs.Spaces.{when}
use Rattle.wasm_store.specs.declared.instances.Instance.{Instance}
use Rattle.wasm_store.specs.Store.{Store, instance_at}
use Rattle.wasm_store.specs.Memories.{memory_at, may_grow_memory}
use Rattle.wasm_machine.specs.declared.frame.Effect.{Effect}
use Rattle.wasm_machine.specs.declared.frame.Effect.TheVariants.{Grew}
use Rattle.wasm_machine.specs.Terms.{FrameState, Term, here, inside}
use Rattle.wasm_machine.specs.Reduction.{under}

-- the memory at an address, where it may have as many pages more as the topmost operand tells
abbrev pub grown_at : Store → Option MemAddr → List Value → Option MemAddr
grown_at s (Some a) (w.I32 n ∷ vs) = when (may_grow_memory s (memory_at s a) n) (Some a)
grown_at s _ _ = None

abbrev pub growth_of_simple : Store → Instance → Simple → List Value → Option MemAddr
growth_of_simple s i simple.MemoryGrow vs = grown_at s (slice_get i.mems 0) vs
growth_of_simple s i _ vs = None

-- the memory that an instruction of this sort grows, in an instance and on these values
abbrev pub growth_by : Store → Instance → Sort → List Value → Option MemAddr
growth_by s i (sort.Simple p) vs = growth_of_simple s i p vs
growth_by s i _ vs = None

abbrev pub growth_next : Store → FrameState → List Value → List Instr → Option MemAddr
growth_next s F vs [] = None
growth_next s F vs (i ∷ is) = growth_by s (instance_at s F.instance) (sort_of i) vs

-- a form in a list with these values before it and these instructions after it
abbrev pub growth_in : Store → FrameState → List Value → List Instr → Term → Option MemAddr
growth_in s F vs is here = growth_next s F vs is
growth_in s F vs is (inside l t) = growth_in s (under l.kind F) l.values l.rest t
growth_in s F vs is _ = None

-- the memory that the rewriting of a term grows, under this state of the frame round it
abbrev pub growth_of : Store → FrameState → Term → Option MemAddr
growth_of s F t = growth_in s F [] [] t

-- the memory of which an effect tells that it has grown
abbrev pub grown_in : Effect → Option MemAddr
grown_in (Grew memory) = Some memory
grown_in _ = None
