-- Reading that builds: what was built before goes in, and comes out with what was added.
use Rattle.std.specs.Prelude.{ℕ, zero, suc, ◌+◌, List, [], ◌∷◌, length, Option, Some, None, Bool, ◌==◌, cond, if◌then◌else◌}
use Rattle.wasm_grammar.specs.Reading.{◌>>=◌, u32_at, part_at}

-- what a tree makes of what was built before: a value, and what is built then
abbrev pub Making : Type 0 → Type 0 → Type 0 → Type 0
Making S T B = T → S → B × S

-- the value itself, and nothing is built
abbrev pub make_same : {S T : Type 0} → Making S T T
make_same t s = (t, s)

abbrev pub make_both : {S T U B C : Type 0} → Making S T B → Making S U C → Making S (T × U) (B × C)
make_both f g t s = let x = f t.0 s in let y = g t.1 x.1 in ((x.0, y.0), y.1)

abbrev pub make_each : {S T B : Type 0} → Making S T B → Making S (List T) (List B)
make_each f [] s = ([], s)
make_each f (t ∷ ts) s = let x = f t s in let xs = make_each f ts x.1 in (x.0 ∷ xs.0, xs.1)

abbrev pub make_of : {S T B C : Type 0} → (B → C) → Making S T B → Making S T C
make_of h f t s = let x = f t s in (h x.0, x.1)

-- what is made of a value that was made
abbrev pub make_after : {S T B C : Type 0} → (B → S → C × S) → Making S T B → Making S T C
make_after g f t s = let x = f t s in g x.0 x.1

-- ---- a part, which stands before others

abbrev pub Reader : Type 0 → Type 0 → Type 0
Reader S B = S → ℕ → List ℕ → Option ((B × S) × List ℕ)

-- a reader that builds nothing, and doesn't look at what stands behind
abbrev pub same_in : {S A : Type 0} → (List ℕ → Option (A × List ℕ)) → Reader S A
same_in read s after bytes = read bytes >>= λ x. Some ((x.0, s), x.1)

-- no bytes
abbrev pub nothing_in : {S B : Type 0} → (S → B × S) → Reader S B
nothing_in f s after bytes = Some (f s, bytes)

abbrev pub never_in : {S B : Type 0} → Reader S B
never_in s after bytes = None

abbrev pub both_in : {S B C : Type 0} → Reader S B → Reader S C → Reader S (B × C)
both_in read more s after bytes = read s after bytes >>= λ x. more x.0.1 after x.1 >>= λ y. Some (((x.0.0, y.0.0), y.0.1), y.1)

abbrev pub of_in : {S B C : Type 0} → (B → C) → Reader S B → Reader S C
of_in h read s after bytes = read s after bytes >>= λ x. Some ((h x.0.0, x.0.1), x.1)

abbrev pub after_in : {S B C : Type 0} → (B → S → C × S) → Reader S B → Reader S C
after_in g read s after bytes = read s after bytes >>= λ x. Some (g x.0.0 x.0.1, x.1)

abbrev pub by_number : {S B : Type 0} → ((left number : ℕ) → Reader S B) → Reader S B
by_number k s after bytes = u32_at bytes >>= λ n. k (after + length bytes) n.0 s after n.1

abbrev pub by_first : {S B : Type 0} → (ℕ → Reader S B) → Reader S B
by_first k s after [] = None
by_first k s after (b ∷ bytes) = k b s after bytes

abbrev pub when : {S B : Type 0} → Bool → Reader S B → Reader S B → Reader S B
when c read other s after bytes = cond c (read s after bytes) (other s after bytes)

unfoldable pub items_in : {S B : Type 0} → Reader S B → ℕ → Reader S (List B)
items_in read zero s after bytes = Some (([], s), bytes)
items_in read (suc n) s after bytes = read s after bytes >>= λ x. items_in read n x.0.1 after x.1 >>= λ xs. Some ((x.0.0 ∷ xs.0.0, xs.0.1), xs.1)

abbrev pub vector_in : {S B : Type 0} → Reader S B → Reader S (List B)
vector_in read s after bytes = u32_at bytes >>= λ n. items_in read n.0 s after n.1

-- ---- all of the bytes

abbrev pub Whole : Type 0 → Type 0 → Type 0
Whole S B = S → ℕ → List ℕ → Option (B × S)

abbrev pub at_end : {A : Type 0} → Option (A × List ℕ) → Option A
at_end None = None
at_end (Some x) = if length x.1 == 0 then Some x.0 else None

abbrev pub whole_in : {S B : Type 0} → Reader S B → Whole S B
whole_in read s after bytes = at_end (read s after bytes)

abbrev pub both_whole : {S B C : Type 0} → Reader S B → Whole S C → Whole S (B × C)
both_whole read all s after bytes = read s after bytes >>= λ x. all x.0.1 after x.1 >>= λ y. Some ((x.0.0, y.0), y.1)

abbrev pub of_whole : {S B C : Type 0} → (B → C) → Whole S B → Whole S C
of_whole h all s after bytes = all s after bytes >>= λ x. Some (h x.0, x.1)

-- a size, and all of so many bytes
abbrev pub sized_in : {S B : Type 0} → Whole S B → Reader S B
sized_in all s after bytes = part_at bytes >>= λ x. all s (after + length x.1) x.0 >>= λ y. Some (y, x.1)
