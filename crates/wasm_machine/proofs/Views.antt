-- What writes of a frame's fields do to its view.
use Rattle.std.proofs.Common.{◌≡◌, ◌≢◌, ◌⊎◌, inl, inr, ⊎_elim, ℕ, zero, suc, ◌+◌, ◌-◌, ◌≤◌, ◌<◌, List, [], ◌∷◌, ◌++◌, length, take, drop, refl, sym, ap, ◌∙◌, subst, arith, add-one, length-append, length-drop, Option, Some, None, option_to_list}
use Rattle.std.specs.Prelude.{reverse, is_some, true, false, slice_set}
use Rattle.std.proofs.lemmas.List.{reverse-append, drop-append-le, take-append-le, length-take-le, append-nil, drop-drop, take-take, take_all, length-reverse, take-append-drop, take_at, drop_at, drop-take, append_assoc, drop-set-lt, length-take, drop_all}
use Rattle.std.proofs.Math.Seq.{take-set-lt}
use Rattle.std.proofs.lemmas.Bool.{cases_lt}
use Rattle.wasm_syntax.specs.declared.instructions.BlockId.{BlockId}
use Rattle.wasm_syntax.specs.declared.instructions.BlockType.{BlockType}
use Rattle.wasm_syntax.specs.declared.value.Value.{Value}
use Rattle.wasm_syntax.specs.declared.addresses.InstAddr.{InstAddr}
use Rattle.wasm_syntax.specs.declared.addresses.ModuleAddr.{ModuleAddr}
use Rattle.wasm_machine.specs.declared.frame.Control.{Control}
use Rattle.wasm_machine.specs.View.{View, Open, view_of, begun_view, open_of, opens, Heights, with_values, with_locals, values_of, with_label, left, branched, with_labels, arity_in, resumed, next_code, count_of, operands_of}

-- Lists.

-- the last k of a list, and the others, in reverse
reverse_split : (xs : List Value) (k : ℕ) → reverse xs ≡ reverse (drop k xs) ++ reverse (take k xs)
reverse_split xs k = ap reverse (sym (take-append-drop k xs)) ∙ reverse-append (take k xs) (drop k xs)

take-reverse : (xs : List Value) (k : ℕ) → k ≤ length xs → take k (reverse xs) ≡ reverse (drop (length xs - k) xs)
take-reverse xs k le =
    let e : length (reverse (drop (length xs - k) xs)) ≡ k = omega (arith, length-reverse (drop (length xs - k) xs), length-drop (length xs - k) xs) in
    ap (take k) (reverse_split xs (length xs - k)) ∙ take_at _ _ k e

drop-reverse : (xs : List Value) (k : ℕ) → k ≤ length xs → drop k (reverse xs) ≡ reverse (take (length xs - k) xs)
drop-reverse xs k le =
    let e : length (reverse (drop (length xs - k) xs)) ≡ k = omega (arith, length-reverse (drop (length xs - k) xs), length-drop (length xs - k) xs) in
    ap (drop k) (reverse_split xs (length xs - k)) ∙ drop_at _ _ k e

-- a list from h on, cut at a later place
drop-to : (h j : ℕ) (xs : List Value) → h ≤ j → drop h (take j xs) ≡ take (j - h) (drop h xs)
drop-to h j xs le =
    let e : j ≡ h + (j - h) = omega arith in
    ap (λ i. drop h (take i xs)) e ∙ drop-take h (j - h) xs

-- the topmost k operands of a label, and the others
pub top_values : (h : ℕ) (ops : List Value) (k : ℕ) → h ≤ length ops → k ≤ length (reverse (drop h ops)) → reverse (drop (length ops - k) ops) ≡ take k (reverse (drop h ops))
top_values h ops k le h2 =
    let long : length (reverse (drop h ops)) ≡ length ops - h = length-reverse (drop h ops) ∙ length-drop h ops in
    let le1 : k ≤ length (drop h ops) = omega (arith, long, length-reverse (drop h ops)) in
    sym (take-reverse (drop h ops) k le1 ∙ ap reverse (drop-drop (length (drop h ops) - k) h ops ∙ ap (λ i. drop i ops) (let e : h + (length (drop h ops) - k) ≡ length ops - k = omega (arith, length-drop h ops) in e)))

pub lower_values : (h : ℕ) (ops : List Value) (k : ℕ) → h ≤ length ops → k ≤ length (reverse (drop h ops)) → reverse (drop h (take (length ops - k) ops)) ≡ drop k (reverse (drop h ops))
lower_values h ops k le h2 =
    let long : length (reverse (drop h ops)) ≡ length ops - h = length-reverse (drop h ops) ∙ length-drop h ops in
    let le1 : k ≤ length (drop h ops) = omega (arith, long, length-reverse (drop h ops)) in
    sym (drop-reverse (drop h ops) k le1 ∙ ap reverse (ap (λ i. take i (drop h ops)) (let e : length (drop h ops) - k ≡ length ops - k - h = omega (arith, length-drop h ops) in e) ∙ sym (drop-to h (length ops - k) ops (omega (arith, long)))))

pub lower_rest : (h : ℕ) (ops : List Value) (k : ℕ) → h ≤ length ops → k ≤ length (reverse (drop h ops)) → take h (take (length ops - k) ops) ≡ take h ops
lower_rest h ops k le h2 = take-take h (length ops - k) ops (omega (arith, h2, length-reverse (drop h ops), length-drop h ops))

-- the words begin with the locals
pub heights_least : (n : ℕ) (cs : List Control) (k : ℕ) → Heights n cs k → n ≤ k
heights_least n [] k h = omega (arith, h)
heights_least n (c ∷ cs) k h = omega (arith, h.0, heights_least n cs c.height h.1)

-- a write of a local leaves the operands
opens_set : (n : ℕ) (cs : List Control) (ws : List Value) (i : ℕ) (x : Value) → i < n → Heights n cs (length ws) → opens cs (slice_set ws i x) ≡ opens cs ws
opens_set n [] ws i x lt h = refl
opens_set n (c ∷ cs) ws i x lt h =
    let le : n ≤ c.height = heights_least n cs c.height h.1 in
    let e2 : drop c.height (slice_set ws i x) ≡ drop c.height ws = drop-set-lt c.height ws i x (omega (arith, lt, le)) in
    let h' : Heights n cs (length (take c.height ws)) = subst (Heights n cs) (sym (length-take-le c.height ws h.0)) h.1 in
    let e3 : opens cs (take c.height (slice_set ws i x)) ≡ opens cs (take c.height ws) = ap (opens cs) (take-set-lt c.height ws i x (omega (arith, lt, le))) ∙ opens_set n cs (take c.height ws) i x lt h' in
    ap (λ ys. open_of c ys ∷ opens cs (take c.height (slice_set ws i x))) e2 ∙ ap (λ os. open_of c (drop c.height ws) ∷ os) e3

heights_low : (h : ℕ) (ws : List Value) (k : ℕ) → h ≤ length ws → reverse (drop h ws) ≢ [] → length ws ≡ k + 1 → h ≤ k
heights_low h ws k le ne e = ⊎_elim (λ lt. omega (arith, lt, e)) (λ ge. absurd (ne (ap reverse (drop_all h ws ge)))) (cases_lt h (length ws))

-- A frame's fields.

module _ (a : InstAddr) (m : ModuleAddr) (r n room : ℕ) where
  pub view_push : (c : Control) (cs : List Control) (ws : List Value) (v : Value) → Heights n (c ∷ cs) (length ws)
      → view_of a m r n room c cs (ws ++ v ∷ []) ≡ with_values (v ∷ values_of (view_of a m r n room c cs ws)) (view_of a m r n room c cs ws)
  view_push c cs ws v h =
      let le : n ≤ length ws = heights_least n (c ∷ cs) (length ws) h in
      rw (drop-append-le c.height ws (v ∷ []) h.0, take-append-le c.height ws (v ∷ []) h.0, take-append-le n ws (v ∷ []) le) (simp reverse-append)

  pub pushed_is : (c : Control) (cs : List Control) (ws ws' : List Value) (x : Value) (v : View) → view_of a m r n room c cs ws ≡ v → Heights n (c ∷ cs) (length ws) → ws' ≡ ws ++ x ∷ []
      → view_of a m r n room c cs ws' ≡ with_values (x ∷ values_of v) v
  pushed_is c cs ws ws' x v e h o = ap (view_of a m r n room c cs) o ∙ view_push c cs ws x h ∙ ap (λ u. with_values (x ∷ values_of u) u) e

  -- more operands
  pub view_push_all : (c : Control) (cs : List Control) (ws xs : List Value) → Heights n (c ∷ cs) (length ws)
      → view_of a m r n room c cs (ws ++ xs) ≡ with_values (reverse xs ++ values_of (view_of a m r n room c cs ws)) (view_of a m r n room c cs ws)
  view_push_all c cs ws xs h =
      let le : n ≤ length ws = heights_least n (c ∷ cs) (length ws) h in
      rw (drop-append-le c.height ws xs h.0, take-append-le c.height ws xs h.0, take-append-le n ws xs le) (simp reverse-append)

  pub pushed_all_is : (c : Control) (cs : List Control) (ws ws' xs : List Value) (v : View) → view_of a m r n room c cs ws ≡ v → Heights n (c ∷ cs) (length ws) → ws' ≡ ws ++ xs
      → view_of a m r n room c cs ws' ≡ with_values (reverse xs ++ values_of v) v
  pushed_all_is c cs ws ws' xs v e h o = ap (view_of a m r n room c cs) o ∙ view_push_all c cs ws xs h ∙ ap (λ u. with_values (reverse xs ++ values_of u) u) e

  -- without the topmost operand
  pub popped_is : (c : Control) (cs : List Control) (ws ws' : List Value) (x : Value) (v : View) → view_of a m r n room c cs ws ≡ v → Heights n (c ∷ cs) (length ws') → ws ≡ ws' ++ x ∷ []
      → view_of a m r n room c cs ws' ≡ with_values (values_of (view_of a m r n room c cs ws')) v
  popped_is c cs ws ws' x v e h o = ap (with_values (values_of (view_of a m r n room c cs ws'))) (sym (view_push c cs ws' x h) ∙ ap (view_of a m r n room c cs) (sym o) ∙ e)

  set_view : (c : Control) (cs : List Control) (ws : List Value) (i : ℕ) (x : Value) → take n (slice_set ws i x) ≡ slice_set (take n ws) i x → drop c.height (slice_set ws i x) ≡ drop c.height ws → opens cs (take c.height (slice_set ws i x)) ≡ opens cs (take c.height ws)
      → view_of a m r n room c cs (slice_set ws i x) ≡ with_locals (slice_set (take n ws) i x) (view_of a m r n room c cs ws)
  set_view c cs ws i x e1 e2 e3 = cc (e1, e2, e3)

  -- a write of a local
  pub set_is : (c : Control) (cs : List Control) (ws : List Value) (i : ℕ) (x : Value) (v : View) → view_of a m r n room c cs ws ≡ v → Heights n (c ∷ cs) (length ws) → i < length v.locals
      → view_of a m r n room c cs (slice_set ws i x) ≡ with_locals (slice_set v.locals i x) v
  set_is c cs ws i x v e h lt =
      let lt' : i < length (take n ws) = subst (λ (u : View). i < length u.locals) (sym e) lt in
      let lt2 : i < n = omega (arith, lt', length-take n ws) in
      let le : n ≤ c.height = heights_least n cs c.height h.1 in
      let e1 : take n (slice_set ws i x) ≡ slice_set (take n ws) i x = take-set-lt n ws i x lt2 in
      let e2 : drop c.height (slice_set ws i x) ≡ drop c.height ws = drop-set-lt c.height ws i x (omega (arith, lt2, le)) in
      let e3 : opens cs (take c.height (slice_set ws i x)) ≡ opens cs (take c.height ws) = ap (opens cs) (take-set-lt c.height ws i x (omega (arith, lt2, le))) ∙ opens_set n cs (take c.height ws) i x lt2 (subst (Heights n cs) (sym (length-take-le c.height ws h.0)) h.1) in
      set_view c cs ws i x e1 e2 e3 ∙ ap (λ (u : View). with_locals (slice_set u.locals i x) u) e

  pub view_open : (c : Control) (cs : List Control) (ws : List Value) (k arity : ℕ) (again : Option BlockType) (b : BlockId)
      → c.height ≤ length ws → k ≤ length (values_of (view_of a m r n room c cs ws))
      → view_of a m r n room (record { height = length ws - k; arity = arity; again = again; block = b; at = 0 }) (c ∷ cs) ws ≡ with_label k arity again b (view_of a m r n room c cs ws)
  view_open c cs ws k arity again b le h =
      let e1 = top_values c.height ws k le h in
      let e2 = lower_values c.height ws k le h in
      let e3 = lower_rest c.height ws k le h in
      cc (e1, e2, e3)

  pub view_drop : (c : Control) (cs : List Control) (ws : List Value) (k : ℕ) → Heights n (c ∷ cs) (length ws) → k ≤ length (values_of (view_of a m r n room c cs ws))
      → view_of a m r n room c cs (take (length ws - k) ws) ≡ with_values (drop k (values_of (view_of a m r n room c cs ws))) (view_of a m r n room c cs ws)
  view_drop c cs ws k hs h =
      let e2 = lower_values c.height ws k hs.0 h in
      let e3 = lower_rest c.height ws k hs.0 h in
      let le : n ≤ c.height = heights_least n cs c.height hs.1 in
      let e4 : take n (take (length ws - k) ws) ≡ take n ws = take-take n (length ws - k) ws (omega (arith, h, length-reverse (drop c.height ws), length-drop c.height ws, le, hs.0)) in
      cc (e2, e3, e4)

  -- a label ends
  pub view_leave : (c d : Control) (cs : List Control) (ws : List Value) → Heights n (c ∷ d ∷ cs) (length ws)
      → view_of a m r n room d cs ws ≡ left (view_of a m r n room c (d ∷ cs) ws)
  view_leave c d cs ws h =
      let le : d.height ≤ c.height = h.1.0 in
      let e1 : reverse (drop d.height ws) ≡ reverse (drop c.height ws) ++ reverse (drop d.height (take c.height ws)) =
      reverse_split (drop d.height ws) (c.height - d.height)
      ∙ ap (λ xs. reverse xs ++ reverse (take (c.height - d.height) (drop d.height ws))) (drop-drop (c.height - d.height) d.height ws ∙ ap (λ i. drop i ws) (let e : d.height + (c.height - d.height) ≡ c.height = omega arith in e))
      ∙ ap (λ xs. reverse (drop c.height ws) ++ reverse xs) (sym (drop-to d.height c.height ws le)) in
      let e3 : take d.height (take c.height ws) ≡ take d.height ws = take-take d.height c.height ws le in
      cc (e1, e3)

  -- the same of the fields as the code has them
  pub opened_is : (c : Control) (outs outs' : List Control) (ws : List Value) (k arity : ℕ) (again : Option BlockType) (b : BlockId) (v : View)
      → view_of a m r n room c (reverse outs) ws ≡ v → Heights n (c ∷ reverse outs) (length ws) → outs' ≡ outs ++ c ∷ [] → k ≤ length (values_of v)
      → view_of a m r n room (record { height = length ws - k; arity = arity; again = again; block = b; at = 0 }) (reverse outs') ws ≡ with_label k arity again b v
  opened_is c outs outs' ws k arity again b v e h o le =
      let le' : k ≤ length (values_of (view_of a m r n room c (reverse outs) ws)) = subst (λ w. k ≤ length (values_of w)) (sym e) le in
      ap (λ xs. view_of a m r n room (record { height = length ws - k; arity = arity; again = again; block = b; at = 0 }) xs ws) (ap reverse o ∙ reverse-append outs (c ∷ []))
      ∙ view_open c (reverse outs) ws k arity again b h.0 le'
      ∙ ap (with_label k arity again b) e

  pub left_is : (c d : Control) (outs outs' : List Control) (ws : List Value) (v : View)
      → view_of a m r n room c (reverse outs) ws ≡ v → Heights n (c ∷ reverse outs) (length ws) → outs ≡ outs' ++ d ∷ []
      → view_of a m r n room d (reverse outs') ws ≡ left v
  left_is c d outs outs' ws v e h o =
      let x : reverse outs ≡ d ∷ reverse outs' = ap reverse o ∙ reverse-append outs' (d ∷ []) in
      view_leave c d (reverse outs') ws (subst (λ xs. Heights n (c ∷ xs) (length ws)) x h)
      ∙ ap left (ap (λ xs. view_of a m r n room c xs ws) (sym x) ∙ e)

  pub dropped_is : (c : Control) (cs : List Control) (ws ws' : List Value) (k j : ℕ) (v : View)
      → view_of a m r n room c cs ws ≡ v → Heights n (c ∷ cs) (length ws) → k ≤ length (values_of v) → j ≡ length ws → ws' ≡ take (j - k) ws
      → view_of a m r n room c cs ws' ≡ with_values (drop k (values_of v)) v
  dropped_is c cs ws ws' k j v e h le f o =
      let le' : k ≤ length (values_of (view_of a m r n room c cs ws)) = subst (λ w. k ≤ length (values_of w)) (sym e) le in
      ap (view_of a m r n room c cs) (o ∙ ap (λ i. take (i - k) ws) f) ∙ view_drop c cs ws k h le' ∙ ap (λ w. with_values (drop k (values_of w)) w) e

  pub last_is : (c : Control) (cs : List Control) (ws : List Value) (k j : ℕ) (v : View)
      → view_of a m r n room c cs ws ≡ v → c.height ≤ length ws → k ≤ length (values_of v) → j ≡ length ws
      → reverse (drop (j - k) ws) ≡ take k (values_of v)
  last_is c cs ws k j v e h le f =
      let le' : k ≤ length (values_of (view_of a m r n room c cs ws)) = subst (λ w. k ≤ length (values_of w)) (sym e) le in
      ap (λ i. reverse (drop (i - k) ws)) f ∙ top_values c.height ws k h le' ∙ ap (λ w. take k (values_of w)) e

  -- the kept values of a label, in the list round it
  pub view_break : (c d : Control) (cs : List Control) (ws ws' : List Value)
      → Heights n (c ∷ d ∷ cs) (length ws) → c.arity ≤ length ws - c.height → ws' ≡ take c.height ws ++ drop (length ws - c.arity) ws
      → view_of a m r n room (record d { at = d.at - length (next_code c.block c.again) }) cs ws' ≡ branched 0 (reverse (drop c.height ws)) (open_of c (drop c.height ws)) (opens (d ∷ cs) (take c.height ws)) (view_of a m r n room c (d ∷ cs) ws)
  view_break c d cs ws ws' h le o =
      let long : length (take c.height ws) ≡ c.height = length-take-le c.height ws h.0 in
      let low : d.height ≤ length (take c.height ws) = omega (arith, h.1.0, long) in
      let least : n ≤ length (take c.height ws) = omega (arith, heights_least n (d ∷ cs) c.height h.1, long) in
      let kept = drop (length ws - c.arity) ws in
      let e1 : drop d.height (take c.height ws ++ kept) ≡ drop d.height (take c.height ws) ++ kept = drop-append-le d.height (take c.height ws) kept low in
      let e2 : take d.height (take c.height ws ++ kept) ≡ take d.height (take c.height ws) = take-append-le d.height (take c.height ws) kept low in
      let e3 : reverse kept ≡ take c.arity (reverse (drop c.height ws)) =
      sym (take-reverse (drop c.height ws) c.arity (omega (arith, length-drop c.height ws)) ∙ ap reverse (drop-drop (length (drop c.height ws) - c.arity) c.height ws ∙ ap (λ i. drop i ws) (let e : c.height + (length (drop c.height ws) - c.arity) ≡ length ws - c.arity = omega (arith, length-drop c.height ws, h.0) in e))) in
      let e4 : reverse (drop d.height ws') ≡ take c.arity (reverse (drop c.height ws)) ++ reverse (drop d.height (take c.height ws)) =
      ap (λ xs. reverse (drop d.height xs)) o ∙ ap reverse e1 ∙ reverse-append (drop d.height (take c.height ws)) kept ∙ ap (λ xs. xs ++ reverse (drop d.height (take c.height ws))) e3 in
      let e5 : take d.height ws' ≡ take d.height (take c.height ws) = ap (take d.height) o ∙ e2 in
      let e6 : take n ws' ≡ take n ws = ap (take n) o ∙ take-append-le n (take c.height ws) kept least ∙ take-take n c.height ws (omega (arith, least, long)) in
      cc (e4, e5, e6)

  pub broken_is : (c d : Control) (outs outs' : List Control) (ws ws' : List Value) (at : ℕ) (v : View)
      → view_of a m r n room c (reverse outs) ws ≡ v → Heights n (c ∷ reverse outs) (length ws) → v.top.arity ≤ length (values_of v)
      → outs ≡ outs' ++ d ∷ [] → ws' ≡ take c.height ws ++ drop (length ws - c.arity) ws → at ≡ d.at - length (next_code c.block c.again)
      → view_of a m r n room (record d { at = at }) (reverse outs') ws' ≡ branched 0 (values_of v) v.top v.outer v
  broken_is c d outs outs' ws ws' at v e h le o k f =
      let x : reverse outs ≡ d ∷ reverse outs' = ap reverse o ∙ reverse-append outs' (d ∷ []) in
      let e' : view_of a m r n room c (d ∷ reverse outs') ws ≡ v = ap (λ xs. view_of a m r n room c xs ws) (sym x) ∙ e in
      let long : length (reverse (drop c.height ws)) ≡ length ws - c.height = length-reverse (drop c.height ws) ∙ length-drop c.height ws in
      let le2 : c.arity ≤ length (values_of (view_of a m r n room c (d ∷ reverse outs') ws)) = subst (λ (w : View). w.top.arity ≤ length (values_of w)) (sym e') le in
      let le3 : c.arity ≤ length ws - c.height = omega (arith, le2, long) in
      ap (λ i. view_of a m r n room (record d { at = i }) (reverse outs') ws') f
      ∙ view_break c d (reverse outs') ws ws' (subst (λ xs. Heights n (c ∷ xs) (length ws)) x h) le3 k
      ∙ ap (λ w. branched 0 (values_of w) w.top w.outer w) e'

begun_by : (a : InstAddr) (m : ModuleAddr) (r n room : ℕ) (body : BlockId) (ws : List Value) → take n ws ≡ ws → drop n ws ≡ []
    → view_of a m r n room (record { height = n; arity = r; again = None; block = body; at = 0 }) [] ws ≡ begun_view a m r room ws body
begun_by a m r n room body ws e1 e2 = cc (e1, e2)

-- a frame at the beginning of a body
pub begun_is : (a : InstAddr) (m : ModuleAddr) (r n room : ℕ) (body : BlockId) (outs : List Control) (ws : List Value) → n ≡ length ws → outs ≡ []
    → view_of a m r n room (record { height = n; arity = r; again = None; block = body; at = 0 }) (reverse outs) ws ≡ begun_view a m r room ws body
begun_is a m r n room body outs ws e f =
    let e1 : take n ws ≡ ws = take_all n ws (omega (arith, e)) in
    let e2 : drop n ws ≡ [] = drop_all n ws (omega (arith, e)) in
    ap (λ os. view_of a m r n room (record { height = n; arity = r; again = None; block = body; at = 0 }) (reverse os) ws) f ∙ begun_by a m r n room body ws e1 e2

-- Counts.

opens_long : (cs : List Control) (ws : List Value) → length (opens cs ws) ≡ length cs
opens_long [] ws = refl
opens_long (c ∷ cs) ws = ap suc (opens_long cs (take c.height ws))

pub outer_long : (a : InstAddr) (m : ModuleAddr) (r n room : ℕ) (c : Control) (outs : List Control) (ws : List Value) (v : View) → view_of a m r n room c (reverse outs) ws ≡ v → length v.outer ≡ length outs
outer_long a m r n room c outs ws v e = ap (λ (w : View). length w.outer) (sym e) ∙ opens_long (reverse outs) (take c.height ws) ∙ length-reverse outs

-- the operands of these labels stand right after the locals
opens_count : (n : ℕ) (cs : List Control) (ws : List Value) → Heights n cs (length ws) → n + count_of (opens cs ws) ≡ length ws
opens_count n [] ws h = omega (arith, h)
opens_count n (c ∷ cs) ws h =
    let e : length (take c.height ws) ≡ c.height = length-take-le c.height ws h.0 in
    let h' : Heights n cs (length (take c.height ws)) = subst (Heights n cs) (sym e) h.1 in
    omega (arith, opens_count n cs (take c.height ws) h', e, h.0, length-reverse (drop c.height ws), length-drop c.height ws)

pub words_count : (a : InstAddr) (m : ModuleAddr) (r n room : ℕ) (c : Control) (cs : List Control) (ws : List Value) (v : View) → view_of a m r n room c cs ws ≡ v → Heights n (c ∷ cs) (length ws) → n + operands_of v ≡ length ws
words_count a m r n room c cs ws v e h = subst (λ w. n + operands_of w ≡ length ws) e (opens_count n (c ∷ cs) ws h)

pub outer_within : (a : InstAddr) (m : ModuleAddr) (r n room : ℕ) (c : Control) (outs : List Control) (ws : List Value) (v : View) (len cap : ℕ) → view_of a m r n room c (reverse outs) ws ≡ v → len ≡ length outs → length v.outer + 1 < 257 → 257 ≤ cap → len < cap
outer_within a m r n room c outs ws v len cap e f lt le = omega (arith, outer_long a m r n room c outs ws v e, f, lt, le)

pub words_within : (a : InstAddr) (m : ModuleAddr) (r n room : ℕ) (c : Control) (cs : List Control) (ws : List Value) (v : View) (len cap : ℕ) → view_of a m r n room c cs ws ≡ v → Heights n (c ∷ cs) (length ws) → len ≡ length ws → operands_of v < v.room → n + room ≤ cap → len < cap
words_within a m r n room c cs ws v len cap e h f lt le =
    let x : room ≡ v.room = ap (λ (u : View). u.room) e in
    omega (arith, words_count a m r n room c cs ws v e h, f, lt, le, x)

pub words_more : (a : InstAddr) (m : ModuleAddr) (r n room : ℕ) (c : Control) (cs : List Control) (ws : List Value) (v : View) (len cap k : ℕ) → view_of a m r n room c cs ws ≡ v → Heights n (c ∷ cs) (length ws) → len ≡ length ws → operands_of v + k ≤ v.room → n + room ≤ cap → cap < len + k → ⊥
words_more a m r n room c cs ws v len cap k e h f le low lt =
    let x : room ≡ v.room = ap (λ (u : View). u.room) e in
    let y = words_count a m r n room c cs ws v e h in
    let z : suc cap ≤ cap = omega (arith, y, f, le, low, lt, x) in absurd (omega (arith, z))

-- Heights.

pub heights_pop : (a : InstAddr) (m : ModuleAddr) (r n room : ℕ) (c : Control) (cs : List Control) (ws ws' : List Value) (x : Value) (v : View) → view_of a m r n room c cs ws ≡ v → values_of v ≢ [] → Heights n (c ∷ cs) (length ws) → ws ≡ ws' ++ x ∷ [] → Heights n (c ∷ cs) (length ws')
heights_pop a m r n room c cs ws ws' x v e ne h o =
    let ne' : reverse (drop c.height ws) ≢ [] = λ z. ne (ap (λ (u : View). values_of u) (sym e) ∙ z) in
    let long : length ws ≡ length ws' + 1 = ap length o ∙ length-append ws' (x ∷ []) in
    (heights_low c.height ws (length ws') h.0 ne' long, h.1)

pub heights_push : (n : ℕ) (c : Control) (cs : List Control) (k j : ℕ) → k ≤ j → Heights n (c ∷ cs) k → Heights n (c ∷ cs) j
heights_push n c cs k j le h = (omega (arith, h.0), h.1)

pub heights_open : (n : ℕ) (c : Control) (cs : List Control) (j k arity : ℕ) (again : Option BlockType) (b : BlockId) → Heights n (c ∷ cs) j → k ≤ j - c.height → Heights n (record { height = j - k; arity = arity; again = again; block = b; at = 0 } ∷ c ∷ cs) j
heights_open n c cs j k arity again b h le = (omega arith, (omega (arith, h.0), h.1))

pub heights_leave : (n : ℕ) (c d : Control) (cs : List Control) (k : ℕ) → Heights n (c ∷ d ∷ cs) k → Heights n (d ∷ cs) k
heights_leave n c d cs k h = (omega (arith, h.0, h.1.0), h.1.1)

pub heights_break : (n : ℕ) (c d : Control) (cs : List Control) (ws ws' : List Value) (at : ℕ) → Heights n (c ∷ d ∷ cs) (length ws) → c.arity ≤ length ws - c.height → ws' ≡ take c.height ws ++ drop (length ws - c.arity) ws
    → Heights n (record d { at = at } ∷ cs) (length ws')
heights_break n c d cs ws ws' at h le o =
    let e = ap length o in
    (omega (arith, h.0, h.1.0, e, length-append (take c.height ws) (drop (length ws - c.arity) ws), length-take-le c.height ws h.0), h.1.1)

pub heights_broken : (a : InstAddr) (m : ModuleAddr) (r n room : ℕ) (c d : Control) (outs outs' : List Control) (ws ws' : List Value) (at : ℕ) (v : View)
    → view_of a m r n room c (reverse outs) ws ≡ v → Heights n (c ∷ reverse outs) (length ws) → v.top.arity ≤ length (values_of v)
    → outs ≡ outs' ++ d ∷ [] → ws' ≡ take c.height ws ++ drop (length ws - c.arity) ws
    → Heights n (record d { at = at } ∷ reverse outs') (length ws')
heights_broken a m r n room c d outs outs' ws ws' at v e h le o k =
    let x : reverse outs ≡ d ∷ reverse outs' = ap reverse o ∙ reverse-append outs' (d ∷ []) in
    let long : length (reverse (drop c.height ws)) ≡ length ws - c.height = length-reverse (drop c.height ws) ∙ length-drop c.height ws in
    let le2 : c.arity ≤ length (values_of (view_of a m r n room c (reverse outs) ws)) = subst (λ (w : View). w.top.arity ≤ length (values_of w)) (sym e) le in
    heights_break n c d (reverse outs') ws ws' at (subst (λ xs. Heights n (c ∷ xs) (length ws)) x h) (omega (arith, le2, long)) k

-- Branches.

pub back_some : (id : BlockId) (o : Option BlockType) (i j : ℕ) → is_some o ≡ true → i ≡ j - 1 → i ≡ j - length (next_code id o)
back_some id (Some ty) i j h e = e
back_some id None i j h e = cc

pub back_none : (id : BlockId) (o : Option BlockType) (j : ℕ) → is_some o ≡ false → j ≡ j - length (next_code id o)
back_none id (Some ty) j h = cc
back_none id None j h = omega arith

-- a branch takes the topmost values alone, and none that the label had
branch_values : (k : ℕ) (vs more ws : List Value) (p : Open) (os : List Open) (v w : View) → with_labels p os v ≡ with_labels p os w
    → k < length os → arity_in k p os ≤ length vs → branched k (vs ++ more) (record p { values = ws }) os v ≡ branched k vs p os w
branch_values k vs more ws p [] v w f lt le = absurd (omega arith)
branch_values zero vs more ws p (q ∷ os) v w f lt le =
    ap (λ us. with_labels (record q { values = us ++ q.values; at = q.at - length (next_code p.block p.again) }) os v) (take-append-le p.arity vs more le)
    ∙ ap (λ u. with_labels (resumed p vs q) os u) f
branch_values (suc k) vs more ws p (q ∷ os) v w f lt le = branch_values k vs more q.values q os v w (ap (with_labels q os) f) (omega arith) le

arity_same : (k : ℕ) (p : Open) (ws : List Value) (os : List Open) → arity_in k (record p { values = ws }) os ≡ arity_in k p os
arity_same zero p ws os = refl
arity_same (suc k) p ws [] = refl
arity_same (suc k) p ws (q ∷ os) = refl

-- what is known in a branch, with this many labels left to leave
pub record Leaving (k : ℕ) (v : View) (end : View) : Type 0 where
  pub inner : k < length v.outer
  pub enough : arity_in k v.top v.outer ≤ length (values_of v)
  pub to : branched k (values_of v) v.top v.outer v ≡ end

leaving_by : (k : ℕ) (o : Open) (os : List Open) (v end : View) → Leaving (suc k) (with_labels o os v) end → Leaving k (left (with_labels o os v)) end
leaving_by k o [] v end l = absurd (omega (arith, l.inner))
leaving_by k o (p ∷ os) v end l = record {
  inner = omega (arith, l.inner);
  enough = omega (arith, l.enough, arity_same k p (o.values ++ p.values) os, length-append o.values p.values);
  to = branch_values k o.values p.values (o.values ++ p.values) p os (left (with_labels o (p ∷ os) v)) (with_labels o (p ∷ os) v) refl (omega (arith, l.inner)) l.enough ∙ l.to;
}

pub leaving_more : (k j : ℕ) (v w : View) (end : View) → Leaving k v end → k ≡ suc j → w ≡ left v → Leaving j w end
leaving_more k j v w end l e f =
    let l' : Leaving (suc j) v end = subst (λ i. Leaving i v end) e l in
    subst (λ u. Leaving j u end) (sym f) (leaving_by j v.top v.outer v end l')

pub ruleset views = (view_push, view_drop, top_values, heights_push, heights_open, heights_leave, heights_least, length-append, reverse-append, length-reverse, length-drop)
