-- The last entry of a list is the topmost one.
use Rattle.std.proofs.Common.{◌≡◌, ℕ, suc, ◌+◌, ◌-◌, ◌<◌, List, [], ◌∷◌, ◌++◌, length, take, refl, sym, ap, ◌∙◌, subst, arith, get_or, set}
use Rattle.std.specs.Prelude.{reverse}
use Rattle.std.proofs.lemmas.List.{length-reverse, reverse-append, take_more, take_all, set_at, length-take-le}
use Rattle.jspi_stacks.specs.declared.frame.Frame.{Frame}
use Rattle.jspi_stacks.specs.declared.frame.Frame.TheVariants as frames
use Rattle.host_machine.specs.Terms.{Frame as HostView}
use Rattle.wasm_machine.specs.View.{View, values_of, with_values}
use Rattle.wasm_syntax.specs.declared.value.Value.{Value}
use Rattle.host_values.specs.declared.values.HostValue.{HostValue}
use Rattle.host_machine.specs.Frames.{supplied, thrown}
use Rattle.jspi_stacks.specs.Stacks.{activations_of, OnTopHost, OnTopWasm, Supplied, Thrown, HasResults}

-- one more on top
pub more : (items : List Frame) (e : Frame) → reverse (items ++ e ∷ []) ≡ e ∷ reverse items
more items e = reverse-append items (e ∷ [])

pub ruleset entries = more

-- another one in the place of the last
pub record LastSet (xs : List Frame) (k : ℕ) (x y : Frame) : Type 0 where
  pub rest : List Frame
  pub old : reverse xs ≡ x ∷ rest
  pub new : reverse (set xs k y) ≡ y ∷ rest

pub last_set : (xs : List Frame) (k : ℕ) (x y : Frame) → k + 1 ≡ length xs → x ≡ get_or xs k x → LastSet xs k x y
last_set xs k x y e f =
    let lt : k < length xs = omega arith in
    let p = take k xs in
    let n : length p ≡ k = length-take-le k xs (omega arith) in
    let s : xs ≡ p ++ x ∷ [] = sym (take_all (k + 1) xs (omega arith)) ∙ take_more xs k x lt ∙ ap (λ z. take k xs ++ z ∷ []) (sym f) in
    record {
      rest = reverse p;
      old = ap reverse s ∙ reverse-append p (x ∷ []);
      new = ap reverse (ap (λ zs. set zs k y) s ∙ set_at p x [] y k n) ∙ reverse-append p (y ∷ []);
    }

some_host : (es : List Frame) (P : HostView → Type 0) → OnTopHost es P → 0 < length es
some_host [] P h = absurd h
some_host (e ∷ es) P h = omega arith

some_wasm : (es : List Frame) (P : View → Type 0) → OnTopWasm es P → 0 < length es
some_wasm [] P h = absurd h
some_wasm (e ∷ es) P h = omega arith

pub last_host : (xs : List Frame) (P : HostView → Type 0) → OnTopHost (reverse xs) P → 0 < length xs
last_host xs P h = omega (arith, some_host (reverse xs) P h, length-reverse xs)

pub last_wasm : (xs : List Frame) (P : View → Type 0) → OnTopWasm (reverse xs) P → 0 < length xs
last_wasm xs P h = omega (arith, some_wasm (reverse xs) P h, length-reverse xs)

-- as many functions run with another frame of the script
same_host : (f g : HostView) (es : List Frame) → activations_of (frames.Host f ∷ es) ≡ activations_of (frames.Host g ∷ es)
same_host f g [] = refl
same_host f g (e ∷ es) = refl

pub host_changed : (old new rest : List Frame) (f g : HostView) → old ≡ frames.Host f ∷ rest → new ≡ frames.Host g ∷ rest → activations_of old ≡ activations_of new
host_changed old new rest f g e h = ap activations_of e ∙ same_host f g rest ∙ ap activations_of (sym h)

pub wasm_changed : (old new rest : List Frame) (v w : View) → old ≡ frames.Wasm v ∷ rest → new ≡ frames.Wasm w ∷ rest → activations_of old ≡ activations_of new
wasm_changed old new rest v w e h = ap activations_of e ∙ ap activations_of (sym h)

-- fewer functions run than there are entries
pub few : (es : List Frame) → activations_of es < suc (length es)
few [] = omega arith
few (frames.Host f ∷ []) = omega arith
few (frames.Host f ∷ e ∷ es) = omega (arith, few (e ∷ es))
few (frames.Wasm v ∷ es) = omega (arith, few es)
few (frames.Mark m ∷ es) = omega (arith, few es)

pub few_entries : (items : List Frame) (n : ℕ) → n ≡ activations_of (reverse items) → n < suc (length items)
few_entries items n e = omega (arith, e, few (reverse items), length-reverse items)

-- the answers of effects
pub supplied_from : (old new rest : List Frame) (f : HostView) (v : HostValue) → old ≡ frames.Host f ∷ rest → new ≡ frames.Host (supplied v f) ∷ rest → Supplied v old new
supplied_from old new rest f v e h = subst (λ xs. Supplied v xs new) (sym e) h

pub thrown_from : (old new rest : List Frame) (f : HostView) (v : HostValue) → old ≡ frames.Host f ∷ rest → new ≡ frames.Host (thrown v f) ∷ rest → Thrown v old new
thrown_from old new rest f v e h = subst (λ xs. Thrown v xs new) (sym e) h

pub results_from : (old new rest : List Frame) (v : View) (results : List Value) → old ≡ frames.Wasm v ∷ rest → new ≡ frames.Wasm (with_values (reverse results ++ values_of v) v) ∷ rest → HasResults results old new
results_from old new rest v results e h = subst (λ xs. HasResults results xs new) (sym e) h
