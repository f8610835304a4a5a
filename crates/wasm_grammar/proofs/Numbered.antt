-- The blocks that a module's spelling makes are numbered in the order in which they end.
use Rattle.std.proofs.Common.{◌≡◌, ℕ, zero, suc, ◌≤◌, Bool, true, false, eqb, ◌&&◌, List, [], ◌∷◌, ◌++◌, length, get_or, Option, Some, None, refl, sym, ap, subst, ◌∙◌, append_assoc, length-append, arith}
use Rattle.std.specs.Prelude.{flat_map}
use Rattle.std.proofs.lemmas.Bool.{eqb-true, eq-eqb, and_from}
use Rattle.std.proofs.lemmas.List.{append-nil}
use Rattle.std.proofs.lemmas.Grind.{flat_map-append}
use Rattle.std.proofs.Math.Seq.{get_or-append_seam}
use Rattle.wasm_syntax.specs.declared.instructions.BlockId.{BlockId}
use Rattle.wasm_syntax.specs.declared.instructions.Instr.{Instr}
use Rattle.wasm_syntax.specs.declared.module.Module.{Module}
use Rattle.wasm_syntax.specs.Blocks.{block_of}
use Rattle.wasm_syntax.specs.Numbering.{nested_in, ends_in, counts_to}
use Rattle.wasm_grammar.specs.declared.built.Leaf.{Leaf}
use Rattle.wasm_grammar.specs.declared.built.Built.{Built}
use Rattle.wasm_grammar.specs.Leaves.{with_leaf, first_of}
use Rattle.wasm_grammar.specs.Threads.{Making, make_each}
use Rattle.wasm_grammar.specs.Types.{TypeTree, make_type, known, strange}
use Rattle.wasm_grammar.specs.Instructions.{BlockTree, empty, one, index, make_block_type, with_data}
use Rattle.wasm_grammar.specs.Code.{instr, data_access, selection, leaf, Code, done, plain, block, loop, choice, choice_one, make_block, make_code}
use Rattle.wasm_grammar.proofs.Flat.{FlatCode}

-- ---- lists that count on

pub both_true : (x y : Bool) → (x && y) ≡ true → (x ≡ true) × (y ≡ true)
both_true true y e = (refl, e)
both_true false y e = absurd cc

counts_more : (n p k : ℕ) (xs ys : List ℕ) → counts_to n k xs ≡ true → counts_to p n ys ≡ true → counts_to p k (xs ++ ys) ≡ true
counts_more n p k [] ys h g = subst (λ (j : ℕ). counts_to p j ys ≡ true) (sym (eqb-true k n h)) g
counts_more n p k (x ∷ xs) ys h g =
    let a = both_true (eqb x k) (counts_to n (suc k) xs) h in
    and_from (eqb x k) (counts_to p (suc k) (xs ++ ys)) a.0 (counts_more n p (suc k) xs ys a.1 g)

counts_one : (n : ℕ) → counts_to (suc n) n (n ∷ []) ≡ true
counts_one n = and_from (eqb n n) (eqb (suc n) (suc n)) (eq-eqb n n refl) (eq-eqb (suc n) (suc n) refl)

-- ---- what is built grows by blocks that end in the order of their numbers

-- these blocks, and those within them, are the ones that were added
pub record Grown (roots : List BlockId) (s t : Built) : Type 0 where
  pub new : List (List Instr)
  pub blocks_are : t.blocks ≡ s.blocks ++ new
  pub counted : (m : Module) (more : List (List Instr)) (d : ℕ) → m.blocks ≡ t.blocks ++ more → length t.blocks ≤ d → counts_to (length t.blocks) (length s.blocks) (flat_map (ends_in m d) roots) ≡ true

none_grown : (s t : Built) → t.blocks ≡ s.blocks → Grown [] s t
none_grown s t e = record { new = []; blocks_are = e ∙ sym (append-nil s.blocks); counted = λ m more d is le. eq-eqb (length s.blocks) (length t.blocks) (ap length (sym e)) }

more_grown : (xs ys : List BlockId) (s t u : Built) → Grown xs s t → Grown ys t u → Grown (xs ++ ys) s u
more_grown xs ys s t u a b = record {
  new = a.new ++ b.new;
  blocks_are = b.blocks_are ∙ ap (λ (w : List (List Instr)). w ++ b.new) a.blocks_are ∙ append_assoc s.blocks a.new b.new;
  counted = λ m more d is le.
      let mid : m.blocks ≡ t.blocks ++ (b.new ++ more) = is ∙ ap (λ (w : List (List Instr)). w ++ more) b.blocks_are ∙ append_assoc t.blocks b.new more in
      let long : length t.blocks ≤ d = omega (arith, le, ap length b.blocks_are, length-append t.blocks b.new) in
      ap (counts_to (length u.blocks) (length s.blocks)) (flat_map-append (ends_in m d) xs ys)
      ∙ counts_more (length t.blocks) (length u.blocks) (length s.blocks) _ _ (a.counted m (b.new ++ more) d mid long) (b.counted m more d is le);
}

block_is : (m : Module) (before : List (List Instr)) (instrs : List Instr) (more : List (List Instr)) → m.blocks ≡ before ++ (instrs ∷ more) → block_of m (record { 0 = length before }) ≡ instrs
block_is m before instrs more e = ap (λ (w : List (List Instr)). get_or w (length before) []) e ∙ get_or-append_seam before instrs more []

block_counted : (instrs : List Instr) (s t : Built) → Grown (flat_map nested_in instrs) s t → (m : Module) (more : List (List Instr)) (d : ℕ) → m.blocks ≡ (t.blocks ++ instrs ∷ []) ++ more → length (t.blocks ++ instrs ∷ []) ≤ d
    → counts_to (length (t.blocks ++ instrs ∷ [])) (length s.blocks) (flat_map (ends_in m d) ((make_block instrs t).0 ∷ [])) ≡ true
block_counted instrs s t a m more zero is le = absurd (omega (arith, le, length-append t.blocks (instrs ∷ [])))
block_counted instrs s t a m more (suc d) is le =
    let mid : m.blocks ≡ t.blocks ++ (instrs ∷ more) = is ∙ append_assoc t.blocks (instrs ∷ []) more in
    let len : length (t.blocks ++ instrs ∷ []) ≡ suc (length t.blocks) = omega (arith, length-append t.blocks (instrs ∷ [])) in
    let id : BlockId = record { 0 = length t.blocks } in
    let nested : List ℕ = flat_map (ends_in m d) (flat_map nested_in instrs) in
    let ends : flat_map (ends_in m (suc d)) (id ∷ []) ≡ nested ++ length t.blocks ∷ [] =
    append-nil (ends_in m (suc d) id) ∙ ap (λ (w : List Instr). flat_map (ends_in m d) (flat_map nested_in w) ++ length t.blocks ∷ []) (block_is m t.blocks instrs more mid) in
    let all = counts_more (length t.blocks) (suc (length t.blocks)) (length s.blocks) nested (length t.blocks ∷ []) (a.counted m (instrs ∷ more) d mid (omega (arith, le, len))) (counts_one (length t.blocks)) in
    ap (λ (n : ℕ). counts_to n (length s.blocks) (flat_map (ends_in m (suc d)) (id ∷ []))) len ∙ ap (counts_to (suc (length t.blocks)) (length s.blocks)) ends ∙ all

block_grown : (instrs : List Instr) (s t : Built) → Grown (flat_map nested_in instrs) s t → Grown ((make_block instrs t).0 ∷ []) s (make_block instrs t).1
block_grown instrs s t a = record {
  new = a.new ++ instrs ∷ [];
  blocks_are = ap (λ (w : List (List Instr)). w ++ instrs ∷ []) a.blocks_are ∙ append_assoc s.blocks a.new (instrs ∷ []);
  counted = block_counted instrs s t a;
}

-- ---- where no leaf is found

abbrev pub Numbered : List BlockId → Built → Built → Type 0
Numbered roots s t = t.first ≡ None → (s.first ≡ None) × Grown roots s t

pub none_numbered : (s t : Built) → t.blocks ≡ s.blocks → (t.first ≡ None → s.first ≡ None) → Numbered [] s t
none_numbered s t e f = λ h. (f h, none_grown s t e)

pub still : (s : Built) → Numbered [] s s
still s = none_numbered s s refl (λ h. h)

pub more_numbered : (xs ys : List BlockId) (s t u : Built) → Numbered xs s t → Numbered ys t u → Numbered (xs ++ ys) s u
more_numbered xs ys s t u a b = λ h. let q = b h in let p = a q.0 in (p.0, more_grown xs ys s t u p.1 q.1)

pub block_numbered : (instrs : List Instr) (s t : Built) → Numbered (flat_map nested_in instrs) s t → Numbered ((make_block instrs t).0 ∷ []) s (make_block instrs t).1
block_numbered instrs s t a = λ h. let p = a h in (p.0, block_grown instrs s t p.1)

pub leaf_first : (f : Option Leaf) (l : Leaf) → first_of f l ≡ None → ⊥
leaf_first None l e = absurd cc
leaf_first (Some x) l e = absurd cc

pub leaf_numbered : (roots : List BlockId) (s t : Built) (l : Leaf) → Numbered roots s (with_leaf t l)
leaf_numbered roots s t l = λ h. absurd (leaf_first t.first l h)

-- ---- types and tokens build no blocks

pub type_still : (tree : TypeTree) (s : Built) → Numbered [] s (make_type tree s).1
type_still (known t) s = still s
type_still (strange l) s = leaf_numbered [] s s l

pub each_still : {T B : Type 0} (f : Making Built T B) → ((t : T) (s : Built) → Numbered [] s (f t s).1) → (ts : List T) (s : Built) → Numbered [] s (make_each f ts s).1
each_still f law [] s = still s
each_still f law (t ∷ ts) s = more_numbered [] [] s (f t s).1 _ (law t s) (each_still f law ts (f t s).1)

block_type_still : (tree : BlockTree) (s : Built) → Numbered [] s (make_block_type tree s).1
block_type_still empty s = still s
block_type_still (one tree) s = type_still tree s
block_type_still (index n) s = still s

data_still : (e : Bool) (s : Built) → Numbered [] s (with_data e s)
data_still true s = none_numbered s (record s { data_used = true }) refl (λ h. h)
data_still false s = still s

flat_still : (roots : List BlockId) (s t : Built) → roots ≡ [] → Numbered [] s t → Numbered roots s t
flat_still roots s t e a = subst (λ (w : List BlockId). Numbered w s t) (sym e) a

-- ---- code

pub code_numbered : (e : Bool) (c : Code) → FlatCode c → (s : Built) → Numbered (flat_map nested_in (make_code e c s).0) s (make_code e c s).1
code_numbered e done f s = still s
code_numbered e (plain (instr x) c) f s = more_numbered (nested_in x) _ s s _ (flat_still (nested_in x) s s f.0 (still s)) (code_numbered e c f.1 s)
code_numbered e (plain (data_access x) c) f s =
    let t = with_data e s in
    more_numbered (nested_in x) _ s t _ (flat_still (nested_in x) s t f.0 (data_still e s)) (code_numbered e c f.1 t)
code_numbered e (plain (selection types) c) f s =
    let t = (make_each make_type types s).1 in
    more_numbered [] _ s t _ (each_still make_type type_still types s) (code_numbered e c f.1 t)
code_numbered e (plain (leaf l) c) f s =
    let t = with_leaf s l in
    more_numbered [] _ s t _ (leaf_numbered [] s s l) (code_numbered e c f.1 t)
code_numbered e (block tree body c) f s =
    let type = make_block_type tree s in
    let b = make_code e body type.1 in
    let n = make_block b.0 b.1 in
    more_numbered (n.0 ∷ []) _ s n.1 _ (block_numbered b.0 s b.1 (more_numbered [] _ s type.1 b.1 (block_type_still tree s) (code_numbered e body f.0 type.1))) (code_numbered e c f.1 n.1)
code_numbered e (loop tree body c) f s =
    let type = make_block_type tree s in
    let b = make_code e body type.1 in
    let n = make_block b.0 b.1 in
    more_numbered (n.0 ∷ []) _ s n.1 _ (block_numbered b.0 s b.1 (more_numbered [] _ s type.1 b.1 (block_type_still tree s) (code_numbered e body f.0 type.1))) (code_numbered e c f.1 n.1)
code_numbered e (choice tree c1 c2 c) f s =
    let type = make_block_type tree s in
    let a = make_code e c1 type.1 in
    let m = make_block a.0 a.1 in
    let b = make_code e c2 m.1 in
    let n = make_block b.0 b.1 in
    more_numbered (m.0 ∷ []) _ s m.1 _ (block_numbered a.0 s a.1 (more_numbered [] _ s type.1 a.1 (block_type_still tree s) (code_numbered e c1 f.0 type.1)))
    (more_numbered (n.0 ∷ []) _ m.1 n.1 _ (block_numbered b.0 m.1 b.1 (code_numbered e c2 f.1 m.1)) (code_numbered e c f.2 n.1))
code_numbered e (choice_one tree c1 c) f s =
    let type = make_block_type tree s in
    let a = make_code e c1 type.1 in
    let m = make_block a.0 a.1 in
    let n = make_block [] m.1 in
    more_numbered (m.0 ∷ []) _ s m.1 _ (block_numbered a.0 s a.1 (more_numbered [] _ s type.1 a.1 (block_type_still tree s) (code_numbered e c1 f.0 type.1)))
    (more_numbered (n.0 ∷ []) _ m.1 n.1 _ (block_numbered [] m.1 m.1 (still m.1)) (code_numbered e c f.1 n.1))
