-- The machine values of the pointer of a block, of the values that take no space, and of the three together.
use Rattle.std.proofs.Common.{◌≡◌, List, [], ◌∷◌, ◌++◌, refl, ◌∙◌, lit<}
use seplogic.Ra.Ura.{Ura}
use base.Logic.{ent, sep, emp}
use base.Fml.{Fml}
use mir.Syntax.{ty_ptr, ty_struct, tcons, tnil}
use mir.Val.{Val, vstruct, vcons, vnil, of_list, has_ty, WT}
use lib.Dec.{T}
use types.Kit.{‵, ◌$◌, ◌∵◌, !, qed, move, fjoin, fpack, feq_i, done}
use types.Logic.{Logic, sem}
use denote.Laws.{Tells, Is}
use denote.RattleType.{RattleType, Valss}
use denote.RawPtr.{Ptr, block_ptr, null_ptr, ptr_val}
use denote.Shadow.{shadow, makes_shadow}
use denote.Steps.{nothing}
use denote.Struct.Declared.{shape}
use denote.Struct.Struct.{Struct, within}
use denote.Struct.Tuple.{Tuple, tuple_type}
use Rattle.raw_memory.specs.contracts.block.BlockStart.{the_row as BlockStart}

-- a struct of one pointer
abbrev pub word : Ptr → Val
word p = vstruct (vcons (ptr_val p) vnil)

abbrev pub start_vals : BlockStart.Denot → List Val
start_vals start = word start.ptr ∷ []

pub start_Tells : Tells BlockStart (Is BlockStart) start_vals
start_Tells start vs is = is.1.0 ∙ (λ i. vstruct (of_list (is.1.1.0 i ++ [])) ∷ [])

-- it is a value of its type
pub word_typed : (p : Ptr) → T (has_ty (ty_struct [] (tcons ty_ptr tnil)) (word p)) × WT (word p)
word_typed (block_ptr b o) = (tt, (tt, tt))
word_typed null_ptr = (tt, (record { fits = lit< tt }, tt))

pub start_made : {M : Type 1} {𝓤 : Ura M} (𝓛 : Logic 𝓤) (start : BlockStart.Denot) → ent 𝓤 (emp 𝓤) (sem 𝓛 (BlockStart.own_val start (word start.ptr ∷ [])))
start_made 𝓛 start = makes_shadow 𝓛 (BlockStart.own_val start (word start.ptr ∷ [])) (λ _. (tt, (tt, tt))) ((ptr_val start.ptr ∷ [], tt), (refl, (refl, tt)))

-- a struct whose one field is a marker
abbrev unnamed : List RattleType → RattleType
unnamed Rs = Struct (record { name = []; args = []; types = []; fields = Rs })

abbrev pub mark : Val
mark = vstruct (vcons (vstruct vnil) vnil)

abbrev pub mark_own : List Val → Fml
mark_own = (unnamed (unnamed [] ∷ [])).own_val (tt, tt)

pub mark_told : (vs : List Val) → shadow (mark_own vs) → vs ≡ mark ∷ []
mark_told vs is = is.1.0 ∙ (λ i. vstruct (of_list (is.1.1.0.1.0 i ++ [])) ∷ [])

pub mark_made : {M : Type 1} {𝓤 : Ura M} (𝓛 : Logic 𝓤) → ent 𝓤 (emp 𝓤) (sem 𝓛 (mark_own (mark ∷ [])))
mark_made 𝓛 = makes_shadow 𝓛 (mark_own (mark ∷ [])) (λ _. (tt, ((λ _. (tt, tt)), tt))) ((vstruct vnil ∷ [], tt), (refl, ((tt, (refl, tt)), tt)))

-- three values side by side
abbrev pub trio : Val → Val → Val → Val
trio u v w = vstruct (vcons u (vcons v (vcons w vnil)))

pub trio_made : {M : Type 1} {𝓤 : Ura M} (𝓛 : Logic 𝓤) (R S U : RattleType) (x : R.Denot) (y : S.Denot) (z : U.Denot) (u v w : Val)
    → ent 𝓤 (sep 𝓤 (sem 𝓛 (R.own_val x (u ∷ []))) (sep 𝓤 (sem 𝓛 (S.own_val y (v ∷ []))) (sem 𝓛 (U.own_val z (w ∷ []))))) (sem 𝓛 ((Tuple (R ∷ S ∷ U ∷ [])).own_val (x, y, z) (trio u v w ∷ [])))
trio_made 𝓛 R S U x y z u v w =
    let Rs : List RattleType = R ∷ S ∷ U ∷ [] in
    qed 𝓛 (‵ (R.own_val x (u ∷ [])) ∷ ‵ (S.own_val y (v ∷ [])) ∷ ‵ (U.own_val z (w ∷ [])) ∷ []) ∵
    nothing ! $ move ! (3 ∷ 0 ∷ []) $ fjoin ! $ move ! (2 ∷ 0 ∷ []) $ fjoin ! $ move ! (1 ∷ 0 ∷ []) $ fjoin ! $
    feq_i ! (List Val) (trio u v w ∷ []) (trio u v w ∷ []) refl $ fjoin ! $
    fpack ! (Valss Rs) (within (shape (tuple_type Rs)) (x, (y, (z, tt))) (trio u v w ∷ [])) (u ∷ [], (v ∷ [], (w ∷ [], tt))) $ done !
