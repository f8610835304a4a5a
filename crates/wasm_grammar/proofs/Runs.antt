-- Reading an expression with a list of open blocks, and the code that is spelled.
use Rattle.std.proofs.Common.{◌≡◌, ℕ, zero, suc, ◌+◌, ◌<◌, ◌≤◌, Bool, true, false, cond, ◌&&◌, List, [], ◌∷◌, ◌++◌, length, Some, refl, sym, ap, subst, ◌∙◌, append_assoc, length-append, arith, inl, inr, ◌⊎◌}
use Rattle.std.proofs.lemmas.List.{append-nil}
use Rattle.std.proofs.lemmas.Bool.{eqb-true, ne_eqb}
use Rattle.wasm_syntax.specs.declared.instructions.BlockId.{BlockId}
use Rattle.wasm_grammar.specs.declared.built.Built.{Built}
use Rattle.wasm_grammar.specs.declared.blocks.Level.{Level}
use Rattle.wasm_grammar.specs.declared.tokens.Token.{Token}
use Rattle.wasm_grammar.specs.declared.tokens.Token.TheVariants as t
use Rattle.wasm_grammar.specs.Forms.{Items}
use Rattle.wasm_grammar.specs.Reading.{◌>>=◌}
use Rattle.wasm_grammar.specs.Opcodes.{rows, shape_of}
use Rattle.wasm_grammar.specs.Instructions.{TokenTree, make_token, IsToken, token_in}
use Rattle.wasm_grammar.specs.Instructions as u
use Rattle.wasm_grammar.specs.Code.{Code, plain_token, done, plain, block, loop, choice, choice_one, tokens, make_block, make_code, IsExpression, make_expression}
use Rattle.wasm_grammar.specs.Running.{State, step, with_built, is_last, begins_simd, cut_at, run, start, expression_in}
use Rattle.wasm_grammar.proofs.Steps.{bind_some, chosen, some_is}
use Rattle.wasm_grammar.proofs.Threads.{Took, Reads}
use Rattle.wasm_grammar.proofs.TokenLaws.{token_reads}
use Rattle.wasm_grammar.proofs.Trees.{goes, goes_again, goes_found}

-- ---- tokens

is_end : (ls : List Level) (v : TokenTree) (e : Bool) (b : Built) → is_last ls (make_token e v b).0 ≡ true → (ls ≡ []) × (v ≡ u.end_of)
is_end [] u.end_of e b h = (refl, refl)
is_end [] (u.plain x) e b h = absurd cc
is_end [] (u.data_access x) e b h = absurd cc
is_end [] (u.selection ts) e b h = absurd cc
is_end [] (u.leaf l) e b h = absurd cc
is_end [] (u.block tree) e b h = absurd cc
is_end [] (u.loop tree) e b h = absurd cc
is_end [] (u.choice tree) e b h = absurd cc
is_end [] u.otherwise e b h = absurd cc
is_end (f ∷ fs) v e b h = absurd cc

pub not_last : (s : State) (tok : Token) (s' : State) → step s tok ≡ Some s' → is_last s.levels tok ≡ false
not_last s tok s' h = not_last_in s.levels tok (steps s tok s' h)
  where
    not_last_in : (ls : List Level) (tok : Token) → (ls ≡ [] → tok ≡ t.End → ⊥) → is_last ls tok ≡ false
    not_last_in [] t.End h = absurd (h refl refl)
    not_last_in [] (t.Plain i) h = refl
    not_last_in [] t.Foreign h = refl
    not_last_in [] (t.Block b) h = refl
    not_last_in [] (t.Loop b) h = refl
    not_last_in [] (t.If b) h = refl
    not_last_in [] t.Else h = refl
    not_last_in (f ∷ fs) tok h = refl

    steps : (s : State) (tok : Token) (s' : State) → step s tok ≡ Some s' → s.levels ≡ [] → tok ≡ t.End → ⊥
    steps s tok s' h e g =
        let k : step (record { instrs = s.instrs; levels = []; built = s.built }) t.End ≡ Some s' = sym (ap (λ (w : List Level). step (record { instrs = s.instrs; levels = w; built = s.built }) t.End) e) ∙ sym (ap (step s) g) ∙ h in
        absurd (cc k)

-- no token of a code entry begins with that byte
pub no_simd : (e : Bool) (after : ℕ) (front rest : List ℕ) (u : TokenTree) → IsToken e after front u → (e && begins_simd (front ++ rest)) ≡ false
unfolding rows shape_of
no_simd false after front rest u p = refl
no_simd true after [] rest u p = absurd p
no_simd true after (b ∷ bs) rest u p = ne_eqb b 253 (λ (same : b ≡ 253). let q : IsToken true after (253 ∷ bs) u = subst (λ (k : ℕ). IsToken true after (k ∷ bs) u) same p in q)

token_long : (e : Bool) (after : ℕ) (bytes : List ℕ) (u : TokenTree) → IsToken e after bytes u → 0 < length bytes
token_long e after [] u p = absurd p
token_long e after (b ∷ bs) u p = omega arith

pub items_long : (e : Bool) (us : List TokenTree) (after : ℕ) (bytes : List ℕ) → Items (IsToken e) after bytes us → length us ≤ length bytes
items_long e [] after bytes p = omega arith
items_long e (u ∷ us) after bytes p = omega (arith, ap length p.2 ∙ length-append p.0 p.1, items_long e us after p.1 p.4, token_long e _ p.0 u p.3)

pub tokens_append : (c : Code) (us vs : List TokenTree) → tokens c us ++ vs ≡ tokens c (us ++ vs)
tokens_append done us vs = refl
tokens_append (plain x c) us vs = ap (λ (w : List TokenTree). plain_token x ∷ w) (tokens_append c us vs)
tokens_append (block b body c) us vs = ap (λ (w : List TokenTree). u.block b ∷ w) (tokens_append body (u.end_of ∷ tokens c us) vs ∙ ap (λ (w : List TokenTree). tokens body (u.end_of ∷ w)) (tokens_append c us vs))
tokens_append (loop b body c) us vs = ap (λ (w : List TokenTree). u.loop b ∷ w) (tokens_append body (u.end_of ∷ tokens c us) vs ∙ ap (λ (w : List TokenTree). tokens body (u.end_of ∷ w)) (tokens_append c us vs))
tokens_append (choice b one two c) us vs = ap (λ (w : List TokenTree). u.choice b ∷ w) (tokens_append one (u.otherwise ∷ tokens two (u.end_of ∷ tokens c us)) vs ∙ ap (λ (w : List TokenTree). tokens one (u.otherwise ∷ w)) (tokens_append two (u.end_of ∷ tokens c us) vs ∙ ap (λ (w : List TokenTree). tokens two (u.end_of ∷ w)) (tokens_append c us vs)))
tokens_append (choice_one b one c) us vs = ap (λ (w : List TokenTree). u.choice b ∷ w) (tokens_append one (u.end_of ∷ tokens c us) vs ∙ ap (λ (w : List TokenTree). tokens one (u.end_of ∷ w)) (tokens_append c us vs))

-- ---- what a run passed: tokens to the end of the expression

pub record Ran (e : Bool) (s : State) (after : ℕ) (bytes : List ℕ) (goal : State) (rest : List ℕ) : Type 0 where
  pub front : List ℕ
  pub parts : bytes ≡ front ++ rest
  pub passed : List TokenTree
  pub items : Items (IsToken e) (after + length rest) front (passed ++ u.end_of ∷ [])
  pub goes_to : goes e s passed ≡ Some goal
  pub all_closed : goal.levels ≡ []

-- or to a leaf that takes the rest
pub record Cut (e : Bool) (s : State) (after : ℕ) (bytes : List ℕ) (goal : State) (rest : List ℕ) : Type 0 where
  pub in_entry : e ≡ true
  pub none_left : rest ≡ []
  pub front : List ℕ
  pub back : List ℕ
  pub parts : bytes ≡ front ++ 253 ∷ back
  pub passed : List TokenTree
  pub items : Items (IsToken e) (after + length back + 1) front passed
  pub mid : State
  pub goes_to : goes e s passed ≡ Some mid
  pub goal_is : goal ≡ cut_at (after + length back + 1) mid.built

step_tree : (e : Bool) (s s' : State) (x : Token × Built) (u : TokenTree) → x ≡ make_token e u s.built → step (with_built s x.1) x.0 ≡ Some s' → step (with_built s (make_token e u s.built).1) (make_token e u s.built).0 ≡ Some s'
step_tree e s s' x u made h = sym (ap (λ (z : Token × Built). step (with_built s z.1) z.0) made) ∙ h

one_more : (e : Bool) (s s' : State) (after : ℕ) (bytes : List ℕ) (x : (Token × Built) × List ℕ) (goal : State) (rest : List ℕ) → Took (IsToken e) (make_token e) s.built after bytes x → step (with_built s x.0.1) x.0.0 ≡ Some s' → Ran e s' after x.1 goal rest → Ran e s after bytes goal rest
one_more e s s' after bytes x goal rest t h r =
    let parts : bytes ≡ (t.front ++ r.front) ++ rest = t.parts ∙ ap (λ (w : List ℕ). t.front ++ w) r.parts ∙ sym (append_assoc t.front r.front rest) in
    let long : after + length x.1 ≡ after + length rest + length r.front = omega (arith, ap length r.parts ∙ length-append r.front rest) in
    let first : IsToken e (after + length rest + length r.front) t.front t.tree = subst (λ (k : ℕ). IsToken e k t.front t.tree) long t.is_form in
    record { front = t.front ++ r.front; parts = parts; passed = t.tree ∷ r.passed; items = (t.front, r.front, refl, first, r.items); goes_to = rw (step_tree e s s' x.0 t.tree t.made h) r.goes_to; all_closed = r.all_closed }

cut_here : (e : Bool) (s : State) (after : ℕ) (bytes : List ℕ) (x : State × List ℕ) → (e && begins_simd bytes) ≡ true → (cut_at (after + length bytes) s.built, []) ≡ x → Cut e s after bytes x.0 x.1
cut_here false s after bytes x e h = absurd cc
cut_here true s after [] x e h = absurd cc
cut_here true s after (b ∷ bs) x e h =
    let is : b ≡ 253 = eqb-true b 253 e in
    let left : after + length (b ∷ bs) ≡ after + length bs + 1 = omega arith in
    subst (λ (y : State × List ℕ). Cut true s after (b ∷ bs) y.0 y.1) h
    (record { in_entry = refl; none_left = refl; front = []; back = bs; parts = ap (λ (k : ℕ). k ∷ bs) is; passed = []; items = refl; mid = s; goes_to = refl; goal_is = ap (λ (k : ℕ). cut_at k s.built) left })

one_more_cut : (e : Bool) (s s' : State) (after : ℕ) (bytes : List ℕ) (x : (Token × Built) × List ℕ) (goal : State) (rest : List ℕ) → Took (IsToken e) (make_token e) s.built after bytes x → step (with_built s x.0.1) x.0.0 ≡ Some s' → Cut e s' after x.1 goal rest → Cut e s after bytes goal rest
one_more_cut e s s' after bytes x goal rest t h r =
    let parts : bytes ≡ (t.front ++ r.front) ++ 253 ∷ r.back = t.parts ∙ ap (λ (w : List ℕ). t.front ++ w) r.parts ∙ sym (append_assoc t.front r.front (253 ∷ r.back)) in
    let long : after + length x.1 ≡ after + length r.back + 1 + length r.front = omega (arith, ap length r.parts ∙ length-append r.front (253 ∷ r.back)) in
    let first : IsToken e (after + length r.back + 1 + length r.front) t.front t.tree = subst (λ (k : ℕ). IsToken e k t.front t.tree) long t.is_form in
    record { in_entry = r.in_entry; none_left = r.none_left; front = t.front ++ r.front; back = r.back; parts = parts; passed = t.tree ∷ r.passed; items = (t.front, r.front, refl, first, r.items); mid = r.mid; goes_to = rw (step_tree e s s' x.0 t.tree t.made h) r.goes_to; goal_is = r.goal_is }

ends_here : (e : Bool) (s : State) (after : ℕ) (bytes : List ℕ) (x : (Token × Built) × List ℕ) → Took (IsToken e) (make_token e) s.built after bytes x → is_last s.levels x.0.0 ≡ true → Ran e s after bytes (with_built s x.0.1) x.1
ends_here e s after bytes x t h =
    let w = is_end s.levels t.tree e s.built (sym (ap (λ (z : Token × Built). is_last s.levels z.0) t.made) ∙ h) in
    let same : after + length x.1 ≡ after + length x.1 + 0 = omega arith in
    let item : IsToken e (after + length x.1) t.front u.end_of = subst (λ (v : TokenTree). IsToken e (after + length x.1) t.front v) w.1 t.is_form in
    let one : IsToken e (after + length x.1 + 0) t.front u.end_of = subst (λ (k : ℕ). IsToken e k t.front u.end_of) same item in
    let built_is : x.0.1 ≡ s.built = ap (λ (z : Token × Built). z.1) t.made ∙ ap (λ (v : TokenTree). (make_token e v s.built).1) w.1 in
    record { front = t.front; parts = t.parts; passed = []; items = (t.front, [], sym (append-nil t.front), one, refl); goes_to = ap (λ (b : Built). Some (with_built s b)) (sym built_is); all_closed = w.0 }

pub run_takes : (e : Bool) (n : ℕ) (s : State) (after : ℕ) (bytes : List ℕ) (x : State × List ℕ) → run e n s after bytes ≡ Some x → Ran e s after bytes x.0 x.1 ⊎ Cut e s after bytes x.0 x.1
unfolding run
run_takes e zero s after bytes x h = absurd cc
run_takes e (suc n) s after bytes x h =
    elim (chosen (e && begins_simd bytes) (Some (cut_at (after + length bytes) s.built, [])) (token_in e s.built after bytes >>= λ x. cond (is_last s.levels x.0.0) (Some (with_built s x.0.1, x.1)) (step (with_built s x.0.1) x.0.0 >>= λ s'. run e n s' after x.1)) (Some x) h) [
      | inl h ↦ inr (cut_here e s after bytes x h.0 (some_is _ _ h.1))
      | inr k ↦
          let a = bind_some (token_in e s.built after bytes) (λ x. cond (is_last s.levels x.0.0) (Some (with_built s x.0.1, x.1)) (step (with_built s x.0.1) x.0.0 >>= λ s'. run e n s' after x.1)) x k.1 in
          let t = (token_reads e).takes s.built after bytes a.0 a.1 in
          elim (chosen (is_last s.levels a.0.0.0) (Some (with_built s a.0.0.1, a.0.1)) (step (with_built s a.0.0.1) a.0.0.0 >>= λ s'. run e n s' after a.0.1) (Some x) a.2) [
            | inl h ↦ inl (subst (λ (y : State × List ℕ). Ran e s after bytes y.0 y.1) (some_is _ _ h.1) (ends_here e s after bytes a.0 t h.0))
            | inr h ↦
                let b = bind_some (step (with_built s a.0.0.1) a.0.0.0) (λ s'. run e n s' after a.0.1) x h.1 in
                elim (run_takes e n b.0 after a.0.1 x b.2) [
                  | inl r ↦ inl (one_more e s b.0 after bytes a.0 x.0 x.1 t b.1 r)
                  | inr r ↦ inr (one_more_cut e s b.0 after bytes a.0 x.0 x.1 t b.1 r)
                ]
          ]
    ]

pub run_again : (e : Bool) (us : List TokenTree) (n : ℕ) (s goal : State) (after : ℕ) (front rest : List ℕ) → goes e s us ≡ Some goal → goal.levels ≡ [] → length us < n → Items (IsToken e) (after + length rest) front (us ++ u.end_of ∷ [])
    → run e n s after (front ++ rest) ≡ Some (goal, rest)
unfolding run
run_again e us zero s goal after front rest g cl lt p = absurd (omega arith)
run_again e [] (suc n) s goal after front rest g cl lt p =
    let same : s ≡ goal = some_is _ _ g in
    let nil : p.1 ≡ [] = p.4 in
    let whole_is : front ++ rest ≡ p.0 ++ rest = ap (λ (w : List ℕ). w ++ rest) (p.2 ∙ ap (λ (w : List ℕ). p.0 ++ w) nil ∙ append-nil p.0) in
    let item : IsToken e (after + length rest) p.0 u.end_of = subst (λ (k : ℕ). IsToken e k p.0 u.end_of) (omega (arith, ap length nil)) p.3 in
    let closed : s.levels ≡ [] = ap (λ (v : State). v.levels) same ∙ cl in
    let last : is_last s.levels t.End ≡ true = rw closed refl in
    rw (whole_is, no_simd e _ p.0 rest u.end_of item, (token_reads e).again s.built after p.0 rest u.end_of item, last) (ap (λ (v : State). Some (v, rest)) same)
run_again e (u ∷ us) (suc n) s goal after front rest g cl lt p =
    let m = make_token e u s.built in
    let b = bind_some (step (with_built s m.1) m.0) (λ s'. goes e s' us) goal g in
    let whole_is : front ++ rest ≡ p.0 ++ (p.1 ++ rest) = ap (λ (w : List ℕ). w ++ rest) p.2 ∙ append_assoc p.0 p.1 rest in
    let long : after + length rest + length p.1 ≡ after + length (p.1 ++ rest) = omega (arith, length-append p.1 rest) in
    let item : IsToken e (after + length (p.1 ++ rest)) p.0 u = subst (λ (k : ℕ). IsToken e k p.0 u) long p.3 in
    rw (whole_is, no_simd e _ p.0 (p.1 ++ rest) u item, (token_reads e).again s.built after p.0 (p.1 ++ rest) u item, not_last (with_built s m.1) m.0 b.0 b.1, b.1) (run_again e us n b.0 goal after p.1 rest b.2 cl (omega arith) p.4)

-- ---- expressions

abbrev pub ended_block : State × List ℕ → (BlockId × Built) × List ℕ
ended_block x = (make_block x.0.instrs x.0.built, x.1)

-- the state at the end of code
abbrev pub at_end_of : Bool → Built → Code → State
at_end_of e s c = let x = make_code e c s in record { instrs = x.0; levels = []; built = x.1 }

pub ran_made : (e : Bool) (s : Built) (after : ℕ) (bytes : List ℕ) (x : State × List ℕ) → Ran e (start s) after bytes x.0 x.1 → Took (IsExpression e) (make_expression e) s after bytes (ended_block x)
ran_made e s after bytes x r =
    let f = goes_found e r.passed (start s) x.0 r.all_closed r.goes_to in
    let whole_is : r.passed ≡ tokens f.code [] = f.is ∙ ap (tokens f.code) f.more.0 in
    let all_are : r.passed ++ u.end_of ∷ [] ≡ tokens f.code (u.end_of ∷ []) = ap (λ (w : List TokenTree). w ++ u.end_of ∷ []) whole_is ∙ tokens_append f.code [] (u.end_of ∷ []) in
    record { tree = f.code; front = r.front; parts = r.parts; is_form = subst (λ (w : List TokenTree). Items (IsToken e) (after + length x.1) r.front w) all_are r.items; made = ap (λ (g : State). make_block g.instrs g.built) f.more.1 }

pub run_expression : (e : Bool) (s : Built) (n after : ℕ) (front rest : List ℕ) (c : Code) → length front ≤ n → IsExpression e (after + length rest) front c → run e n (start s) after (front ++ rest) ≡ Some (at_end_of e s c, rest)
run_expression e s n after front rest c le p =
    let all_are : tokens c [] ++ u.end_of ∷ [] ≡ tokens c (u.end_of ∷ []) = tokens_append c [] (u.end_of ∷ []) in
    let items : Items (IsToken e) (after + length rest) front (tokens c [] ++ u.end_of ∷ []) = subst (λ (w : List TokenTree). Items (IsToken e) (after + length rest) front w) (sym all_are) p in
    let long = items_long e (tokens c [] ++ u.end_of ∷ []) (after + length rest) front items in
    let g : goes e (start s) (tokens c []) ≡ Some (at_end_of e s c) = goes_again e c (start s) [] in
    run_again e (tokens c []) n (start s) (at_end_of e s c) after front rest g refl (omega (arith, long, length-append (tokens c []) (u.end_of ∷ []))) items

not_cut : (s : State) (after : ℕ) (bytes : List ℕ) (goal : State) (rest : List ℕ) → Ran false s after bytes goal rest ⊎ Cut false s after bytes goal rest → Ran false s after bytes goal rest
not_cut s after bytes goal rest (inl r) = r
not_cut s after bytes goal rest (inr r) = let h = r.in_entry in absurd cc

pub expression_reads : Reads (IsExpression false) (make_expression false) (expression_in false)
unfolding expression_in
expression_reads = record {
  takes = λ s after bytes x h.
      let a = bind_some (run false (length bytes) (start s) after bytes) (λ x. Some (ended_block x)) x h in
      let r = not_cut (start s) after bytes a.0.0 a.0.1 (run_takes false (length bytes) (start s) after bytes a.0 a.1) in
      subst (λ (y : (BlockId × Built) × List ℕ). Took (IsExpression false) (make_expression false) s after bytes y) (some_is _ _ a.2) (ran_made false s after bytes a.0 r);
  again = λ s after front rest c p.
      let one = run_expression false s (length (front ++ rest)) after front rest c (omega (arith, length-append front rest)) p in
      rw one refl;
}
