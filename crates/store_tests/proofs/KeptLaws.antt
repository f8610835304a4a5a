-- What the tests' calls give to a store.
use Rattle.std.proofs.Common.{◌≡◌, ℕ, ◌+◌, ◌<◌, List, [], ◌∷◌, ◌++◌, length, sym, ◌∙◌, subst, arith}
use Rattle.std.proofs.lemmas.List.Elements.{All-nil, All-cons}
use Rattle.std.proofs.lemmas.List.{get_or_push, length_push}
use Rattle.wasm_syntax.specs.declared.types.ValType.{ValType}
use Rattle.wasm_syntax.specs.declared.types.ValType.TheVariants as v
use Rattle.wasm_syntax.specs.declared.value.Value.{Value}
use Rattle.wasm_syntax.specs.declared.addresses.TableAddr.{TableAddr}
use Rattle.wasm_syntax.specs.declared.addresses.ElemAddr.{ElemAddr}
use Rattle.wasm_store.specs.Store.{Store, table_at, element_at, with_new_element}
use Rattle.wasm_store.specs.Whole.{IsLive, HasType, AreTyped, AreLive}
use Rattle.store_tests.specs.Kept.{IsTableOfHost, IsSegmentOfHost, IsOfHost}

pub of_host : (s : Store) (a : TableAddr) (value : Value) → IsTableOfHost s a → IsOfHost value → HasType s value (table_at s a).elem
of_host s a value h k = subst (λ (ty : ValType). HasType s value ty) (sym h.1) (k s)

pub two_live : (s : Store) (first second : Value) (items : List Value) → IsOfHost first → IsOfHost second → items ≡ first ∷ second ∷ [] → AreLive s items
two_live s first second items h k e =
    subst (λ (vs : List Value). AreLive s vs) (sym e) (All-cons (IsLive s) first (second ∷ []) (h s).1 (All-cons (IsLive s) second [] (k s).1 (All-nil (IsLive s))))

pub segment_made : (old new : Store) (e : ElemAddr) (first second : Value) (items : List Value) → IsOfHost first → IsOfHost second → items ≡ first ∷ second ∷ [] → e.0 ≡ length old.elements → new ≡ with_new_element items old → IsSegmentOfHost new e
segment_made old new e first second items h k same at_end added =
    let count : length (old.elements ++ items ∷ []) ≡ length old.elements + 1 = length_push old.elements items in
    let there : element_at (with_new_element items old) e ≡ first ∷ second ∷ [] = get_or_push old.elements items [] e.0 (sym at_end) ∙ same in
    let typed : AreTyped (with_new_element items old) (first ∷ second ∷ []) v.ExternRef =
    All-cons (λ (u : Value). HasType (with_new_element items old) u v.ExternRef) first (second ∷ []) (h (with_new_element items old))
    (All-cons (λ (u : Value). HasType (with_new_element items old) u v.ExternRef) second [] (k (with_new_element items old)) (All-nil (λ (u : Value). HasType (with_new_element items old) u v.ExternRef))) in
    subst (λ (s : Store). IsSegmentOfHost s e) (sym added) (omega (arith, count), subst (λ (vs : List Value). AreTyped (with_new_element items old) vs v.ExternRef) (sym there) typed)
