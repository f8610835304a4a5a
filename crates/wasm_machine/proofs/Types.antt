-- What typing says of the values that there are.
use Rattle.std.proofs.Common.{◌≡◌, ◌≤◌, List, [], ◌∷◌, ◌++◌, length, take, drop, refl, sym, ap, ◌∙◌, arith, Option, Some, None, map, Bool, true, false, IsTrue, reverse}
use Rattle.std.proofs.lemmas.List.{map-append}
use Rattle.wasm_syntax.specs.declared.types.ValType.{ValType}
use Rattle.wasm_syntax.specs.declared.types.ValType.TheVariants.{I32, I64, FuncRef, ExternRef}
use Rattle.wasm_syntax.specs.declared.value.Value.{Value}
use Rattle.wasm_syntax.specs.ValueTypes.{same_type}
use Rattle.wasm_valid.specs.Spaces.{when, then_}
use Rattle.wasm_valid.specs.Operands.{Operands, take_all, exchange, put, is_spent, ends_with, anything}
use Rattle.wasm_store.specs.Whole.{value_type}
use Rattle.wasm_machine.specs.Fits.{standing}
pub use Rattle.wasm_machine.specs.Classes.{IsTops}

-- operands that these values are
abbrev pub standing_of : List Value → Operands
standing_of vs = standing (map value_type vs)

pub same_types : (t u : ValType) → same_type t u ≡ true → u ≡ t
same_types I32 I32 e = refl
same_types I32 I64 e = cc
same_types I32 FuncRef e = cc
same_types I32 ExternRef e = cc
same_types I64 I32 e = cc
same_types I64 I64 e = refl
same_types I64 FuncRef e = cc
same_types I64 ExternRef e = cc
same_types FuncRef I32 e = cc
same_types FuncRef I64 e = cc
same_types FuncRef FuncRef e = refl
same_types FuncRef ExternRef e = cc
same_types ExternRef I32 e = cc
same_types ExternRef I64 e = cc
same_types ExternRef FuncRef e = cc
same_types ExternRef ExternRef e = refl

pub same_self : (t : ValType) → same_type t t ≡ true
same_self I32 = refl
same_self I64 = refl
same_self FuncRef = refl
same_self ExternRef = refl

-- what is left after the values of the types ts were taken
pub record Taken (ts : List ValType) (vs : List Value) (s : Operands) : Type 0 where
  pub tops : IsTops ts vs
  pub long : length ts ≤ length vs
  pub left : s ≡ standing_of (drop (length ts) vs)

taken_more : (t : ValType) (ts : List ValType) (v : Value) (vs : List Value) (s : Operands) (b : Bool) → same_type t (value_type v) ≡ b
    → ((r : Operands) → take_all ts (standing_of vs) ≡ Some r → Taken ts vs r)
    → then_ (when b (Some (standing_of vs))) (take_all ts) ≡ Some s → Taken (t ∷ ts) (v ∷ vs) s
taken_more t ts v vs s true e more h =
    let r = more s h in
    record { tops = (same_types t (value_type v) e, r.tops); long = omega (arith, r.long); left = r.left }
taken_more t ts v vs s false e more h = cc

pub taken : (ts : List ValType) (vs : List Value) (s : Operands) → take_all ts (standing_of vs) ≡ Some s → Taken ts vs s
taken [] vs s e = record { tops = tt; long = omega arith; left = cc }
taken (t ∷ ts) [] s e = cc
taken (t ∷ ts) (v ∷ vs) s e = taken_more t ts v vs s (same_type t (value_type v)) refl (λ r. taken ts vs r) e

pub when_some : {A : Type 0} (b : Bool) (o : Option A) (x : A) → when b o ≡ Some x → (b ≡ true) × (o ≡ Some x)
when_some true o x e = (refl, e)
when_some false o x e = cc

pub put_standing : (us ts : List ValType) → put (map Some us) (standing ts) ≡ standing (us ++ ts)
put_standing us ts = ap (λ (xs : List (Option ValType)). record { types = xs; any = false }) (sym (map-append Some us ts))

-- an exchange of operand types at these values
pub record Exchanged (ts us : List ValType) (vs : List Value) (next : Operands) : Type 0 where
  pub tops : IsTops ts vs
  pub long : length ts ≤ length vs
  pub next_is : next ≡ standing (us ++ map value_type (drop (length ts) vs))

exchanged_by : (ts us : List ValType) (vs : List Value) (next : Operands) (o : Option Operands) → take_all ts (standing_of vs) ≡ o → then_ o (λ r. Some (put (map Some us) r)) ≡ Some next → Exchanged ts us vs next
exchanged_by ts us vs next None h e = cc
exchanged_by ts us vs next (Some r) h e =
    let t = taken ts vs r h in
    record { tops = t.tops; long = t.long; next_is = let n : put (map Some us) r ≡ next = cc in sym n ∙ ap (put (map Some us)) t.left ∙ put_standing us (map value_type (drop (length ts) vs)) }

pub exchanged : (ts us : List ValType) (vs : List Value) (next : Operands) → exchange ts us (standing_of vs) ≡ Some next → Exchanged ts us vs next
exchanged ts us vs next e = exchanged_by ts us vs next (take_all ts (standing_of vs)) refl e

-- operands that stand over others are taken from them
pub take_over : (ts us : List ValType) → take_all ts (standing (ts ++ us)) ≡ Some (standing us)
take_over [] us = refl
take_over (t ∷ ts) us = ap (λ b. then_ (when b (Some (standing (ts ++ us)))) (take_all ts)) (same_self t) ∙ take_over ts us

ends_more : (r : ValType) (rs : List ValType) (v : Value) (vs : List Value) (b : Bool) → same_type r (value_type v) ≡ b
    → (IsTrue (is_spent (take_all rs (standing_of vs))) → map value_type vs ≡ rs)
    → IsTrue (is_spent (then_ (when b (Some (standing_of vs))) (take_all rs))) → map value_type (v ∷ vs) ≡ r ∷ rs
ends_more r rs v vs true e more h = let a = same_types r (value_type v) e in let b = more h in cc
ends_more r rs v vs false e more h = cc

ends_all : (rs : List ValType) (vs : List Value) → IsTrue (is_spent (take_all rs (standing_of vs))) → map value_type vs ≡ rs
ends_all [] [] h = refl
ends_all [] (v ∷ vs) h = cc
ends_all (r ∷ rs) [] h = cc
ends_all (r ∷ rs) (v ∷ vs) h = ends_more r rs v vs (same_type r (value_type v)) refl (λ g. ends_all rs vs g) h

-- values that end a list have exactly the types that are asked
pub ends_exactly : (rs : List ValType) (vs : List Value) → IsTrue (ends_with rs (Some (standing_of vs))) → map value_type vs ≡ reverse rs
ends_exactly rs vs h = ends_all (reverse rs) vs h

-- the topmost values have the types that were taken
pub tops_types : (ts : List ValType) (vs : List Value) → IsTops ts vs → map value_type (take (length ts) vs) ≡ ts
tops_types [] vs h = refl
tops_types (t ∷ ts) [] h = absurd h
tops_types (t ∷ ts) (v ∷ vs) h = let a : value_type v ≡ t = h.0 in let b = tops_types ts vs h.1 in cc

pub leaves_tops : (us : List ValType) (vs : List Value) (n : Operands) (o : Option Operands) → take_all us (standing_of vs) ≡ o → then_ o (λ r. Some anything) ≡ Some n → Taken us vs (standing_of (drop (length us) vs))
leaves_tops us vs n None h e = cc
leaves_tops us vs n (Some r) h e = let t = taken us vs r h in record { tops = t.tops; long = t.long; left = refl }
