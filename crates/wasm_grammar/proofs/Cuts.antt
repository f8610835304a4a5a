-- The body of a code entry, which a foreign leaf may cut.
use Rattle.std.proofs.Common.{◌≡◌, ℕ, zero, suc, ◌+◌, ◌<◌, Bool, true, List, [], ◌∷◌, ◌++◌, length, Option, Some, None, refl, sym, ap, subst, ◌∙◌, append_assoc, length-append, arith, inl, inr}
use Rattle.std.proofs.lemmas.List.{append-nil}
use Rattle.wasm_syntax.specs.declared.instructions.Instr.{Instr}
use Rattle.wasm_syntax.specs.declared.instructions.BlockId.{BlockId}
use Rattle.wasm_grammar.specs.declared.built.Foreign.TheVariants as w
use Rattle.wasm_grammar.specs.declared.built.Leaf.{Leaf}
use Rattle.wasm_grammar.specs.declared.built.Built.{Built}
use Rattle.wasm_grammar.specs.declared.blocks.Kind.{Kind}
use Rattle.wasm_grammar.specs.declared.blocks.Kind.TheVariants as k
use Rattle.wasm_grammar.specs.declared.blocks.Level.{Level}
use Rattle.wasm_grammar.specs.declared.tokens.Token.{Token}
use Rattle.wasm_grammar.specs.declared.tokens.Token.TheVariants as t
use Rattle.wasm_grammar.specs.Forms.{Items}
use Rattle.wasm_grammar.specs.Leaves.{with_leaf}
use Rattle.wasm_grammar.specs.Reading.{◌>>=◌}
use Rattle.wasm_grammar.specs.Threads.{Making, make_each}
use Rattle.wasm_grammar.specs.Types.{TypeTree, known, strange, make_type}
use Rattle.wasm_grammar.specs.Instructions.{BlockTree, empty, one, index, make_block_type, TokenTree, make_token, IsToken, token_in}
use Rattle.wasm_grammar.specs.Instructions as u
use Rattle.wasm_grammar.specs.Code.{Code, tokens, make_block, IsExpression, Body, whole, cut, IsBody, make_body}
use Rattle.wasm_grammar.specs.Running.{State, ends_as, closes, turns_as, turns, step, with_built, cut_at, run, start, expression_in, body_in}
use Rattle.wasm_grammar.proofs.Steps.{bind_some, some_is}
use Rattle.wasm_grammar.proofs.Threads.{TookAll, ReadsAll, at_end_is}
use Rattle.wasm_grammar.proofs.TokenLaws.{token_reads}
use Rattle.wasm_grammar.proofs.Trees.{goes, goes_again, goes_found}
use Rattle.wasm_grammar.proofs.Runs.{Ran, Cut, ended_block, at_end_of, run_takes, ran_made, run_expression, not_last, no_simd, tokens_append, items_long}

-- ---- what was passed is the front of code

goes_append : (e : Bool) (us vs : List TokenTree) (s : State) → goes e s (us ++ vs) ≡ (goes e s us >>= λ s'. goes e s' vs)
goes_append e [] vs s = refl
goes_append e (u ∷ us) vs s =
    let m = make_token e u s.built in
    elim (step (with_built s m.1) m.0) as (λ (r : Option State). (r >>= λ s'. goes e s' (us ++ vs)) ≡ ((r >>= λ s'. goes e s' us) >>= λ s'. goes e s' vs)) [
      | None ↦ refl
      | Some s' ↦ goes_append e us vs s'
    ]

-- an end for each open block
ends : List Level → List TokenTree
ends [] = []
ends (f ∷ fs) = u.end_of ∷ ends fs

ends_close : (e : Bool) (fs : List Level) (instrs : List Instr) (b : Built) → (g : State) × (goes e (record { instrs = instrs; levels = fs; built = b }) (ends fs) ≡ Some g) × (g.levels ≡ [])
unfolding ends
ends_close e [] instrs b = (record { instrs = instrs; levels = []; built = b }, refl, refl)
ends_close e (f ∷ fs) instrs b = let x = ends_as f.kind f.before instrs b in ends_close e fs x.0 x.1

ends_more : (fs : List Level) → (next : TokenTree) × (more : List TokenTree) × (ends fs ++ u.end_of ∷ [] ≡ next ∷ more)
unfolding ends
ends_more [] = (u.end_of, [], refl)
ends_more (f ∷ fs) = (u.end_of, ends fs ++ u.end_of ∷ [], refl)

completes : (e : Bool) (s : Built) (us : List TokenTree) (mid : State) → goes e (start s) us ≡ Some mid → (code : Code) × (next : TokenTree) × (more : List TokenTree) × (tokens code (u.end_of ∷ []) ≡ us ++ next ∷ more)
completes e s us mid h =
    let g = ends_close e mid.levels mid.instrs mid.built in
    let all : goes e (start s) (us ++ ends mid.levels) ≡ Some g.0 = goes_append e us (ends mid.levels) (start s) ∙ rw h g.1 in
    let f = goes_found e (us ++ ends mid.levels) (start s) g.0 g.2 all in
    let m = ends_more mid.levels in
    let whole_is : us ++ ends mid.levels ≡ tokens f.code [] = f.is ∙ ap (tokens f.code) f.more.0 in
    let last : tokens f.code (u.end_of ∷ []) ≡ (us ++ ends mid.levels) ++ u.end_of ∷ [] = sym (tokens_append f.code [] (u.end_of ∷ [])) ∙ ap (λ (w : List TokenTree). w ++ u.end_of ∷ []) (sym whole_is) in
    (f.code, m.0, m.1, last ∙ append_assoc us (ends mid.levels) (u.end_of ∷ []) ∙ ap (λ (w : List TokenTree). us ++ w) m.2)

front_of : (us vs : List TokenTree) (next last : TokenTree) (more : List TokenTree) → vs ++ last ∷ [] ≡ us ++ next ∷ more → (w : List TokenTree) × (vs ≡ us ++ w)
front_of [] vs next last more h = (vs, refl)
front_of (u ∷ []) [] next last more h = absurd cc
front_of (u ∷ v ∷ us) [] next last more h = absurd cc
front_of (u ∷ us) (v ∷ vs) next last more h =
    let tail : vs ++ last ∷ [] ≡ us ++ next ∷ more = cc in
    let head : v ≡ u = cc in
    let r = front_of us vs next last more tail in
    (r.0, cc (r.1, head))

passes : (e : Bool) (s : Built) (code : Code) (us : List TokenTree) (next : TokenTree) (more : List TokenTree) → tokens code (u.end_of ∷ []) ≡ us ++ next ∷ more → (mid : State) × (goes e (start s) us ≡ Some mid)
passes e s code us next more h =
    let r = front_of us (tokens code []) next u.end_of more (tokens_append code [] (u.end_of ∷ []) ∙ h) in
    let g : goes e (start s) (tokens code []) ≡ Some (at_end_of e s code) = goes_again e code (start s) [] in
    let k : (goes e (start s) us >>= λ s'. goes e s' r.0) ≡ Some (at_end_of e s code) = sym (goes_append e us r.0 (start s)) ∙ sym (ap (goes e (start s)) r.1) ∙ g in
    let b = bind_some (goes e (start s) us) (λ s'. goes e s' r.0) (at_end_of e s code) k in
    (b.0, b.1)

-- ---- all but the blocks is built by the tokens alone

abbrev unblocked : Built → Built
unblocked b = record b { blocks = [] }

each_unblocked : {T B : Type 0} (f : Making Built T B) → ((t : T) (b : Built) → (f t (unblocked b)).1 ≡ unblocked (f t b).1) → (ts : List T) (b : Built) → (make_each f ts (unblocked b)).1 ≡ unblocked (make_each f ts b).1
each_unblocked f h [] b = refl
each_unblocked f h (t ∷ ts) b = ap (λ (w : Built). (make_each f ts w).1) (h t b) ∙ each_unblocked f h ts (f t b).1

type_unblocked : (tree : TypeTree) (b : Built) → (make_type tree (unblocked b)).1 ≡ unblocked (make_type tree b).1
type_unblocked (known v) b = refl
type_unblocked (strange l) b = refl

block_type_unblocked : (tree : BlockTree) (b : Built) → (make_block_type tree (unblocked b)).1 ≡ unblocked (make_block_type tree b).1
block_type_unblocked empty b = refl
block_type_unblocked (one tree) b = type_unblocked tree b
block_type_unblocked (index n) b = refl

token_unblocked : (u : TokenTree) (b : Built) → (make_token true u (unblocked b)).1 ≡ unblocked (make_token true u b).1
token_unblocked (u.plain x) b = refl
token_unblocked (u.data_access x) b = refl
token_unblocked (u.selection ts) b = each_unblocked make_type type_unblocked ts b
token_unblocked (u.leaf l) b = refl
token_unblocked (u.block tree) b = block_type_unblocked tree b
token_unblocked (u.loop tree) b = block_type_unblocked tree b
token_unblocked (u.choice tree) b = block_type_unblocked tree b
token_unblocked u.otherwise b = refl
token_unblocked u.end_of b = refl

ends_unblocked : (kind : Kind) (before instrs : List Instr) (b : Built) → unblocked (ends_as kind before instrs b).1 ≡ unblocked b
ends_unblocked (k.Block type) before instrs b = refl
ends_unblocked (k.Loop type) before instrs b = refl
ends_unblocked (k.If type) before instrs b = refl
ends_unblocked (k.Else type n) before instrs b = refl

closes_unblocked : (ls : List Level) (instrs : List Instr) (b : Built) (s : State) → closes ls instrs b ≡ Some s → unblocked s.built ≡ unblocked b
closes_unblocked [] instrs b s h = absurd cc
closes_unblocked (l ∷ ls) instrs b s h = ap (λ (g : State). unblocked g.built) (sym (some_is _ _ h)) ∙ ends_unblocked l.kind l.before instrs b

turns_as_unblocked : (kind : Kind) (before : List Instr) (ls : List Level) (instrs : List Instr) (b : Built) (s : State) → turns_as kind before ls instrs b ≡ Some s → unblocked s.built ≡ unblocked b
turns_as_unblocked (k.If type) before ls instrs b s h = ap (λ (g : State). unblocked g.built) (sym (some_is _ _ h))
turns_as_unblocked (k.Block type) before ls instrs b s h = absurd cc
turns_as_unblocked (k.Loop type) before ls instrs b s h = absurd cc
turns_as_unblocked (k.Else type n) before ls instrs b s h = absurd cc

turns_unblocked : (ls : List Level) (instrs : List Instr) (b : Built) (s : State) → turns ls instrs b ≡ Some s → unblocked s.built ≡ unblocked b
turns_unblocked [] instrs b s h = absurd cc
turns_unblocked (l ∷ ls) instrs b s h = turns_as_unblocked l.kind l.before ls instrs b s h

step_unblocked : (s : State) (tok : Token) (s' : State) → step s tok ≡ Some s' → unblocked s'.built ≡ unblocked s.built
step_unblocked s (t.Plain i) s' h = ap (λ (g : State). unblocked g.built) (sym (some_is _ _ h))
step_unblocked s t.Foreign s' h = ap (λ (g : State). unblocked g.built) (sym (some_is _ _ h))
step_unblocked s (t.Block type) s' h = ap (λ (g : State). unblocked g.built) (sym (some_is _ _ h))
step_unblocked s (t.Loop type) s' h = ap (λ (g : State). unblocked g.built) (sym (some_is _ _ h))
step_unblocked s (t.If type) s' h = ap (λ (g : State). unblocked g.built) (sym (some_is _ _ h))
step_unblocked s t.Else s' h = turns_unblocked s.levels s.instrs s.built s' h
step_unblocked s t.End s' h = closes_unblocked s.levels s.instrs s.built s' h

goes_unblocked : (us : List TokenTree) (s g : State) → goes true s us ≡ Some g → unblocked g.built ≡ unblocked (make_each (make_token true) us s.built).1
goes_unblocked [] s g h = ap (λ (g : State). unblocked g.built) (sym (some_is _ _ h))
goes_unblocked (u ∷ us) s g h =
    let m = make_token true u s.built in
    let a = bind_some (step (with_built s m.1) m.0) (λ s'. goes true s' us) g h in
    let one = step_unblocked (with_built s m.1) m.0 a.0 a.1 in
    goes_unblocked us a.0 g a.2 ∙ sym (each_unblocked (make_token true) token_unblocked us a.0.built) ∙ ap (λ (b : Built). (make_each (make_token true) us b).1) one ∙ each_unblocked (make_token true) token_unblocked us m.1

-- ---- a run to the leaf

run_cut : (us : List TokenTree) (n : ℕ) (s mid : State) (after : ℕ) (front back : List ℕ) → goes true s us ≡ Some mid → length us < n → Items (IsToken true) (after + length back + 1) front us
    → run true n s after (front ++ 253 ∷ back) ≡ Some (cut_at (after + length back + 1) mid.built, [])
unfolding run
run_cut us zero s mid after front back g lt p = absurd (omega arith)
run_cut [] (suc n) s mid after front back g lt p =
    let left : after + length (253 ∷ back) ≡ after + length back + 1 = omega arith in
    rw (p, left) (ap (λ (v : State). Some (cut_at (after + length back + 1) v.built, [])) (some_is _ _ g))
run_cut (u ∷ us) (suc n) s mid after front back g lt p =
    let m = make_token true u s.built in
    let b = bind_some (step (with_built s m.1) m.0) (λ s'. goes true s' us) mid g in
    let rest = 253 ∷ back in
    let whole_is : front ++ rest ≡ p.0 ++ (p.1 ++ rest) = ap (λ (w : List ℕ). w ++ rest) p.2 ∙ append_assoc p.0 p.1 rest in
    let long : after + length back + 1 + length p.1 ≡ after + length (p.1 ++ rest) = omega (arith, length-append p.1 rest) in
    let item : IsToken true (after + length (p.1 ++ rest)) p.0 u = subst (λ (k : ℕ). IsToken true k p.0 u) long p.3 in
    rw (whole_is, no_simd true _ p.0 (p.1 ++ rest) u item, (token_reads true).again s.built after p.0 (p.1 ++ rest) u item, not_last (with_built s m.1) m.0 b.0 b.1, b.1) (run_cut us n b.0 mid after p.1 back b.2 (omega arith) p.4)

-- ---- the two laws of bodies

made_whole : (s : Built) (after : ℕ) (bytes : List ℕ) (g : State) → Ran true (start s) after bytes g [] → TookAll IsBody make_body s after bytes (make_block g.instrs g.built)
made_whole s after bytes g r =
    let m = ran_made true s after bytes (g, []) r in
    let front_is : m.front ≡ bytes = sym (m.parts ∙ append-nil m.front) in
    let is : IsExpression true after bytes m.tree = subst (λ (w : List ℕ). IsExpression true after w m.tree) front_is (subst (λ (n : ℕ). IsExpression true n m.front m.tree) (omega arith) m.is_form) in
    record { tree = whole m.tree; is_form = is; made = m.made }

made_cut : (s : Built) (after : ℕ) (bytes : List ℕ) (g : State) → Cut true (start s) after bytes g [] → TookAll IsBody make_body s after bytes (make_block g.instrs g.built)
made_cut s after bytes g r =
    let c = completes true s r.passed r.mid r.goes_to in
    let left = after + length r.back + 1 in
    let l : Leaf = record { left = left; what = w.Simd } in
    let same = goes_unblocked r.passed (start s) r.mid r.goes_to in
    let made : make_block g.instrs g.built ≡ make_body (cut r.passed l) s = ap (λ (v : State). make_block v.instrs v.built) r.goal_is ∙ ap (λ (b : Built). make_block [] (with_leaf b l)) same in
    record { tree = cut r.passed l; is_form = record { front = r.front; back = r.back; parts = r.parts; items = r.items; leaf_is = refl; code = c.0; next = c.1; more = c.2; is_front = c.3 }; made = made }

body_taken : (s : Built) (after : ℕ) (bytes : List ℕ) (x : BlockId × Built) → body_in s after bytes ≡ Some x → TookAll IsBody make_body s after bytes x
unfolding expression_in
body_taken s after bytes x h =
    let e = at_end_is (expression_in true s after bytes) x h in
    let a = bind_some (run true (length bytes) (start s) after bytes) (λ x. Some (ended_block x)) (x, []) e in
    let same = some_is _ _ a.2 in
    let rest_is : a.0.1 ≡ [] = ap (λ (y : (BlockId × Built) × List ℕ). y.1) same in
    let value_is : make_block a.0.0.instrs a.0.0.built ≡ x = ap (λ (y : (BlockId × Built) × List ℕ). y.0) same in
    subst (λ (y : BlockId × Built). TookAll IsBody make_body s after bytes y) value_is (elim (run_takes true (length bytes) (start s) after bytes a.0 a.1) [
      | inl r ↦ made_whole s after bytes a.0.0 (subst (λ (w : List ℕ). Ran true (start s) after bytes a.0.0 w) rest_is r)
      | inr r ↦ made_cut s after bytes a.0.0 (subst (λ (w : List ℕ). Cut true (start s) after bytes a.0.0 w) rest_is r)
    ])

body_again : (s : Built) (after : ℕ) (bytes : List ℕ) (t : Body) → IsBody after bytes t → body_in s after bytes ≡ Some (make_body t s)
unfolding expression_in
body_again s after bytes (whole c) p =
    let is : IsExpression true (after + 0) bytes c = subst (λ (n : ℕ). IsExpression true n bytes c) (omega arith) p in
    let one : run true (length bytes) (start s) after bytes ≡ Some (at_end_of true s c, []) = ap (run true (length bytes) (start s) after) (sym (append-nil bytes)) ∙ run_expression true s (length bytes) after bytes [] c (omega arith) is in
    rw one refl
body_again s after bytes (cut us l) p =
    let g = passes true s p.code us p.next p.more p.is_front in
    let long : length us < length bytes = omega (arith, ap length p.parts ∙ length-append p.front (253 ∷ p.back), items_long true us _ p.front p.items) in
    let one : run true (length bytes) (start s) after bytes ≡ Some (cut_at (after + length p.back + 1) g.0.built, []) = ap (run true (length bytes) (start s) after) p.parts ∙ run_cut us (length bytes) (start s) g.0 after p.front p.back g.1 long p.items in
    let l0 : Leaf = record { left = after + length p.back + 1; what = w.Simd } in
    let same = goes_unblocked us (start s) g.0 g.1 in
    let made : make_block [] (with_leaf (unblocked g.0.built) l0) ≡ make_body (cut us l) s = ap (λ (b : Built). make_block [] (with_leaf b l0)) same ∙ ap (λ (m : Leaf). make_block [] (with_leaf (unblocked (make_each (make_token true) us s).1) m)) (sym p.leaf_is) in
    rw one (ap (λ (x : BlockId × Built). Some x) made)

pub body_reads : ReadsAll IsBody make_body body_in
body_reads = record { takes = body_taken; again = body_again }
