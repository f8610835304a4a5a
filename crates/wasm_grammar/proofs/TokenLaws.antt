-- The laws of block types and tokens.
use Rattle.std.proofs.Common.{◌≡◌, ℕ, ◌+◌, ◌<◌, ◌≤◌, ◌^◌, Bool, true, false, not, cond, eqb, ltb, ◌&&◌, List, [], ◌∷◌, ◌++◌, length, take, drop, Option, Some, refl, sym, ap, subst, ◌∙◌, length-append, arith, inl, inr, ◌⊎◌, lit<}
use Rattle.std.proofs.lemmas.Bool.{eqb-true, ne_eqb, lt-ltb, le-ltb, ltb-false}
use Rattle.std.proofs.lemmas.List.{take_at, drop_at, take-append-drop, length-take}
use Rattle.wasm_syntax.specs.declared.instructions.BlockType.{BlockType}
use Rattle.wasm_syntax.specs.declared.instructions.BlockType.TheVariants as bt
use Rattle.wasm_syntax.specs.declared.instructions.MemArg.{MemArg}
use Rattle.wasm_grammar.specs.declared.built.Foreign.{Foreign}
use Rattle.wasm_grammar.specs.declared.built.Foreign.TheVariants as w
use Rattle.wasm_grammar.specs.declared.built.Leaf.{Leaf}
use Rattle.wasm_grammar.specs.declared.built.Built.{Built}
use Rattle.wasm_grammar.specs.declared.tokens.Token.TheVariants as t
use Rattle.wasm_grammar.specs.Forms.{Form, Run, Front}
use Rattle.wasm_grammar.specs.Leb128.{IsU32, IsS32, IsTypeIndex, IsS64}
use Rattle.wasm_grammar.specs.Leaves.{leaf_before, Leafed, leafed_in}
use Rattle.wasm_grammar.specs.Reading.{◌>>=◌, u32_at, s32_at, type_index_at, s64_at, run_at}
use Rattle.wasm_grammar.specs.Binary.{IsVector}
use Rattle.wasm_grammar.specs.Threads.{make_same, make_each, same_in, of_in, vector_in}
use Rattle.wasm_grammar.specs.Types.{Tagged, TypeTree, IsValType, val_in}
use Rattle.wasm_grammar.specs.Opcodes.{Shape, unknown, alone, one_index, indices, access, word, wide_word, reference, labels, result_types, zero, two_zeros, data_index, data_zero, begins_block, begins_loop, begins_if, goes_on, ends, float_bytes, float_access, float_leaf, shape_of, prefixed_shape}
use Rattle.wasm_grammar.specs.Instructions.{BlockTree, empty, one, index, make_block_type, IsBlockType, block_type_in, plain, selection, leaf, block, loop, choice, otherwise, end_of, make_token, typed_selection, mem_arg_of, IsMemArg, IsZero, IsShaped, IsToken, mem_arg_at, vector_constant_at, zero_in, shaped_in, token_in}
use Rattle.wasm_grammar.proofs.Steps.{bind_some, guard_not, guard_is, chosen, some_is}
use Rattle.wasm_grammar.proofs.Integers.{ReadsPlain, u32_reads, signed_reads, type_index_reads}
use Rattle.wasm_grammar.proofs.Threads.{joined, parted, Took, Reads, same_reads, nothing_reads, never_reads, when_reads, by_first_reads, of_reads, made_reads, after_reads, both_reads, vector_reads, by_number_reads, remade_reads, each_same}
use Rattle.wasm_grammar.proofs.Productions.{tagged_reads, val_type_reads, ref_type_reads}

u32s : Reads {S = Built} IsU32 make_same (same_in u32_at)
u32s = same_reads IsU32 u32_at u32_reads

s32s : Reads {S = Built} IsS32 make_same (same_in s32_at)
s32s = same_reads IsS32 s32_at (signed_reads 5 (2 ^ 31))

type_indices : Reads {S = Built} IsTypeIndex make_same (same_in type_index_at)
type_indices = same_reads IsTypeIndex type_index_at type_index_reads

s64s : Reads {S = Built} IsS64 make_same (same_in s64_at)
s64s = same_reads IsS64 s64_at (signed_reads 10 (2 ^ 63))

-- ---- block types: the three kinds differ in their first byte

picked : (c : Bool) (P Q : Type 0) → cond c P Q → (c ≡ true) ⊎ Q
picked true P Q p = inl refl
picked false P Q p = inr p

within : (b n : ℕ) → eqb b n ≡ true → 64 < n → n < 128 → (64 < b) × (b < 128)
within b n e low high = let same : b ≡ n = eqb-true b n e in (omega arith, omega arith)

type_byte : (after b : ℕ) (bytes : List ℕ) (tree : TypeTree) → IsValType after (b ∷ bytes) tree → (64 < b) × (b < 128)
type_byte after b bytes tree p =
    elim (picked (eqb b 127) _ _ p) [
      | inl h ↦ within b 127 h (lit< tt) (lit< tt)
      | inr p1 ↦
          elim (picked (eqb b 126) _ _ p1) [
            | inl h ↦ within b 126 h (lit< tt) (lit< tt)
            | inr p2 ↦
                elim (picked (eqb b 125) _ _ p2) [
                  | inl h ↦ within b 125 h (lit< tt) (lit< tt)
                  | inr p3 ↦
                      elim (picked (eqb b 124) _ _ p3) [
                        | inl h ↦ within b 124 h (lit< tt) (lit< tt)
                        | inr p4 ↦
                            elim (picked (eqb b 123) _ _ p4) [
                              | inl h ↦ within b 123 h (lit< tt) (lit< tt)
                              | inr p5 ↦
                                  elim (picked (eqb b 112) _ _ p5) [
                                    | inl h ↦ within b 112 h (lit< tt) (lit< tt)
                                    | inr p6 ↦
                                        elim (picked (eqb b 111) _ _ p6) [
                                          | inl h ↦ within b 111 h (lit< tt) (lit< tt)
                                          | inr p7 ↦
                                              absurd p7
                                        ]
                                  ]
                            ]
                      ]
                ]
          ]
    ]

index_byte : (after b : ℕ) (bytes : List ℕ) (n : ℕ) → IsTypeIndex after (b ∷ bytes) n → (b < 64) ⊎ (128 ≤ b)
index_byte after b [] n p = inl (let e : n ≡ b = p.groups.1 in omega (arith, p.not_negative))
index_byte after b (c ∷ bytes) n p = inr p.groups.0

no_type : (b : ℕ) → (b < 64) ⊎ (128 ≤ b) → (eqb b 64 ≡ false) × ((ltb 64 b && ltb b 128) ≡ false)
no_type b (inl h) = (ne_eqb b 64 (omega arith), rw (le-ltb 64 b (omega arith)) refl)
no_type b (inr h) = (ne_eqb b 64 (omega arith), rw (lt-ltb 64 b (omega arith), le-ltb b 128 h) refl)

block_type_takes : (s : Built) (after : ℕ) (bytes : List ℕ) (x : (BlockType × Built) × List ℕ) → block_type_in s after bytes ≡ Some x → Took IsBlockType make_block_type s after bytes x
unfolding block_type_in
block_type_takes s after [] x e = absurd cc
block_type_takes s after (b ∷ bytes) x e =
    let first : Option ((BlockType × Built) × List ℕ) = Some ((bt.Empty, s), bytes) in
    let second : Option ((BlockType × Built) × List ℕ) = of_in bt.One val_in s after (b ∷ bytes) in
    let third : Option ((BlockType × Built) × List ℕ) = of_in bt.Index (same_in type_index_at) s after (b ∷ bytes) in
    elim (chosen (eqb b 64) first (cond (ltb 64 b && ltb b 128) second third) (Some x) e) [
      | inl h ↦ subst (λ (y : (BlockType × Built) × List ℕ). Took IsBlockType make_block_type s after (b ∷ bytes) y) (some_is _ _ h.1)
          (record { tree = empty; front = b ∷ []; parts = refl; is_form = ap (λ (k : ℕ). k ∷ []) (eqb-true b 64 h.0); made = refl })
      | inr h ↦ elim (chosen (ltb 64 b && ltb b 128) second third (Some x) h.1) [
        | inl k ↦
            let u = (of_reads bt.One _ _ _ val_type_reads).takes s after (b ∷ bytes) x k.1 in
            record { tree = one u.tree; front = u.front; parts = u.parts; is_form = u.is_form; made = u.made }
        | inr k ↦
            let u = (of_reads bt.Index _ _ _ type_indices).takes s after (b ∷ bytes) x k.1 in
            record { tree = index u.tree; front = u.front; parts = u.parts; is_form = u.is_form; made = u.made }
      ]
    ]

block_type_again : (s : Built) (after : ℕ) (front rest : List ℕ) (tree : BlockTree) → IsBlockType (after + length rest) front tree → block_type_in s after (front ++ rest) ≡ Some (make_block_type tree s, rest)
unfolding block_type_in
block_type_again s after front rest empty p = rw p refl
block_type_again s after [] rest (one tree) p = absurd p
block_type_again s after (b ∷ front) rest (one tree) p =
    let w = type_byte (after + length rest) b front tree p in
    let c : eqb b 64 ≡ false = ne_eqb b 64 (omega (arith, w.0)) in
    rw (c, lt-ltb 64 b w.0, lt-ltb b 128 w.1) ((of_reads bt.One _ _ _ val_type_reads).again s after (b ∷ front) rest tree p)
block_type_again s after [] rest (index n) p = absurd p.groups
block_type_again s after (b ∷ front) rest (index n) p =
    let w = no_type b (index_byte (after + length rest) b front n (record { groups = p.groups; short = p.short; not_negative = p.not_negative; fits = p.fits })) in
    rw (w.0, w.1) ((of_reads bt.Index _ _ _ type_indices).again s after (b ∷ front) rest n (record { groups = p.groups; short = p.short; not_negative = p.not_negative; fits = p.fits }))

pub block_type_reads : Reads IsBlockType make_block_type block_type_in
block_type_reads = record { takes = block_type_takes; again = block_type_again }

-- ---- immediates

module _ {A : Type 0} (P : Form A) (read : List ℕ → Option (A × List ℕ)) (r : ReadsPlain P read) where
  -- a leaf behind whose first byte a form stands
  pub leafed_reads : {S B : Type 0} (what : Foreign) (f : Leaf → S → B × S) → Reads (Leafed what P) f (leafed_in what f read)
  leafed_reads {S} {B} what f = record {
    takes = λ s after bytes x e.
        let a = bind_some (read bytes) (λ x. Some (f (leaf_before (after + length bytes) what) s, x.1)) x e in
        let t = r.takes after bytes a.0 a.1 in
        let long : after + length bytes ≡ after + length a.0.1 + length t.front = omega (arith, ap length t.parts, length-append t.front a.0.1) in
        subst (λ (y : (B × S) × List ℕ). Took (Leafed what P) f s after bytes y) (some_is _ _ a.2)
        (record { tree = leaf_before (after + length bytes) what; front = t.front; parts = t.parts; is_form = record { is_leaf = ap (λ (k : ℕ). leaf_before k what) long; behind = a.0.0; is_behind = t.is_form }; made = refl });
    again = λ s after front rest first p.
        let long : after + length (front ++ rest) ≡ after + length rest + length front = omega (arith, length-append front rest) in
        let is : leaf_before (after + length (front ++ rest)) what ≡ first = ap (λ (k : ℕ). leaf_before k what) long ∙ sym p.is_leaf in
        rw (r.again after front rest p.behind p.is_behind, is) refl;
  }

run_reads : (n : ℕ) → ReadsPlain (Run n) (run_at n)
run_reads n = record {
  takes = λ after bytes x e.
      let g = guard_not (ltb (length bytes) n) (Some (take n bytes, drop n bytes)) x e in
      let long : n ≤ length bytes = ltb-false _ _ g.0 in
      subst (λ (y : List ℕ × List ℕ). Front (Run n) after bytes y.0 y.1) (some_is _ _ g.1)
      (record { front = take n bytes; parts = sym (take-append-drop n bytes); is_form = (omega (arith, length-take n bytes), refl) });
  again = λ after front rest x p.
      let size : length front ≡ n = p.0 in
      let c : ltb (length (front ++ rest)) n ≡ false = le-ltb _ _ (omega (arith, length-append front rest)) in
      rw (c, take_at front rest n size, drop_at front rest n size, p.1) refl;
}

mem_arg_reads : ReadsPlain IsMemArg mem_arg_at
mem_arg_reads = record {
  takes = λ after bytes x e.
      let a = bind_some (u32_at bytes) (λ a. u32_at a.1 >>= λ o. Some (mem_arg_of (a.0, o.0), o.1)) x e in
      let b = bind_some (u32_at a.0.1) (λ o. Some (mem_arg_of (a.0.0, o.0), o.1)) x a.2 in
      let t = u32_reads.takes after bytes a.0 a.1 in
      let u = u32_reads.takes after a.0.1 b.0 b.1 in
      let j = joined (λ k w. IsU32 k w a.0.0) after bytes a.0.1 b.0.1 t.front u.front t.parts u.parts t.is_form in
      subst (λ (y : MemArg × List ℕ). Front IsMemArg after bytes y.0 y.1) (some_is _ _ b.2)
      (record { front = t.front ++ u.front; parts = j.0; is_form = record { of = (a.0.0, b.0.0); is_made = refl; is_of = record { front = t.front; back = u.front; parts = refl; first = j.1; second = u.is_form } } });
  again = λ after front rest m p.
      let q = p.is_of in
      let d = parted (λ k w. IsU32 k w p.of.0) after front rest q.front q.back q.parts q.first in
      rw (d.whole_is, u32_reads.again after q.front (q.back ++ rest) p.of.0 d.first, u32_reads.again after q.back rest p.of.1 q.second, p.is_made) refl;
}

tagged_is : (c : Bool) (P : Type 0) → c ≡ true → P → cond c P ⊥
tagged_is true P e p = p
tagged_is false P e p = absurd cc

vector_constant_reads : ReadsPlain (Tagged 12 (Run 16)) vector_constant_at
vector_constant_reads = record { takes = took; again = again }
  where
    took : (after : ℕ) (bytes : List ℕ) (x : List ℕ × List ℕ) → vector_constant_at bytes ≡ Some x → Front (Tagged 12 (Run 16)) after bytes x.0 x.1
    took after [] x e = absurd cc
    took after (b ∷ bytes) x e =
        let g = guard_is (eqb b 12) (run_at 16 bytes) x e in
        let t = (run_reads 16).takes after bytes x g.1 in
        record { front = b ∷ t.front; parts = ap (λ (w : List ℕ). b ∷ w) t.parts; is_form = tagged_is (eqb b 12) _ g.0 t.is_form }

    again : (after : ℕ) (front rest : List ℕ) (x : List ℕ) → Tagged 12 (Run 16) (after + length rest) front x → vector_constant_at (front ++ rest) ≡ Some (x, rest)
    again after [] rest x p = absurd p
    again after (b ∷ front) rest x p =
        let h = tag_is (eqb b 12) _ p in
        rw h.0 ((run_reads 16).again after front rest x h.1)
      where
        tag_is : (c : Bool) (P : Type 0) → cond c P ⊥ → (c ≡ true) × P
        tag_is true P p = (refl, p)
        tag_is false P p = absurd p

-- ---- tokens

mem_args : Reads {S = Built} IsMemArg make_same (same_in mem_arg_at)
mem_args = same_reads IsMemArg mem_arg_at mem_arg_reads

zero_reads : Reads {S = Built} IsZero make_same zero_in
zero_reads = tagged_reads 0 _ _ _ (nothing_reads tt make_same)

-- a vector of indices
index_vectors : Reads {S = Built} (IsVector IsU32) make_same (vector_in (same_in u32_at))
index_vectors = remade_reads (IsVector IsU32) (make_each make_same) make_same _ each_same (vector_reads _ _ _ u32s)

pub shaped_reads : (in_code : Bool) (sh : Shape) → Reads (IsShaped sh) (make_token in_code) (shaped_in in_code sh)
unfolding shaped_in
shaped_reads c unknown = never_reads _
shaped_reads c (alone x) = nothing_reads (plain x) (make_token c)
shaped_reads c (one_index f) = made_reads _ _ _ _ (after_reads _ _ _ _ u32s)
shaped_reads c (indices f) = made_reads _ _ _ _ (after_reads _ _ _ _ (both_reads _ _ _ _ _ _ u32s u32s))
shaped_reads c (access f) = made_reads _ _ _ _ (after_reads _ _ _ _ mem_args)
shaped_reads c (word f) = made_reads _ _ _ _ (after_reads _ _ _ _ s32s)
shaped_reads c (wide_word f) = made_reads _ _ _ _ (after_reads _ _ _ _ s64s)
shaped_reads c (reference f) = made_reads _ _ _ _ (after_reads _ _ _ _ ref_type_reads)
shaped_reads c (labels f) = made_reads _ _ _ _ (after_reads _ _ _ _ (both_reads _ _ _ _ _ _ index_vectors u32s))
shaped_reads c result_types = made_reads selection _ (make_token c) _ (of_reads typed_selection _ _ _ (vector_reads _ _ _ val_type_reads))
shaped_reads c (zero x) = made_reads _ _ _ _ (after_reads _ _ _ _ zero_reads)
shaped_reads c (two_zeros x) = made_reads _ _ _ _ (after_reads _ _ _ _ (both_reads _ _ _ _ _ _ zero_reads zero_reads))
shaped_reads c (data_index f) = made_reads _ _ _ _ (after_reads _ _ _ _ u32s)
shaped_reads c (data_zero f) = made_reads _ _ _ _ (after_reads _ _ _ _ (both_reads _ _ _ _ _ _ u32s zero_reads))
shaped_reads c begins_block = made_reads block _ (make_token c) _ (of_reads t.Block _ _ _ block_type_reads)
shaped_reads c begins_loop = made_reads loop _ (make_token c) _ (of_reads t.Loop _ _ _ block_type_reads)
shaped_reads c begins_if = made_reads choice _ (make_token c) _ (of_reads t.If _ _ _ block_type_reads)
shaped_reads c goes_on = nothing_reads otherwise (make_token c)
shaped_reads c ends = nothing_reads end_of (make_token c)
shaped_reads c (float_bytes n) = made_reads leaf _ (make_token c) _ (leafed_reads _ _ (run_reads n) w.Float _)
shaped_reads c float_access = made_reads leaf _ (make_token c) _ (leafed_reads _ _ mem_arg_reads w.Float _)
shaped_reads c (float_leaf first) = nothing_reads (leaf first) (make_token c)

pub token_reads : (in_code : Bool) → Reads (IsToken in_code) (make_token in_code) (token_in in_code)
token_reads c = by_first_reads _ _ _ (λ b.
    when_reads (eqb b 252) _ _ _ _ _ (by_number_reads _ _ _ (λ left n. shaped_reads c (prefixed_shape left n))) (
    when_reads (eqb b 253 && not c) _ _ _ _ _ (made_reads leaf _ (make_token c) _ (leafed_reads _ _ vector_constant_reads w.Simd _)) (
    shaped_reads c (shape_of b))))
