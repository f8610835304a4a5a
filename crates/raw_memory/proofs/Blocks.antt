-- The bytes of a block grow by one at their end, and a byte that is no longer wanted is room.
use Rattle.raw_memory.proofs.Steps.{ℕ, suc, ◌+◌, List, [], ◌∷◌, ◌++◌, length, refl, arith, w8, Ura, full_share, ent, sep, ftrue, fat, froom, ty_int, vint, Logic, sem, cells, ‵, ◌$◌, ◌∵◌, !, qed, by, done, move, drop, use1, use2, fsplit, fjoin, rewrite, u8, mem, part_at, uint_out, nothing}
use Rattle.raw_memory.specs.Ownership.{places}

module _ {M : Type 1} {𝓤 : Ura M} (𝓛 : Logic 𝓤) where
  open 𝓛 use {H}

  pub one_more : (xs : List ℕ) (x b o : ℕ) → ent 𝓤 (sep 𝓤 (sem 𝓛 (cells (mem u8) xs b o)) (sem 𝓛 (part_at u8 full_share x b (length xs + o)))) (sem 𝓛 (cells (mem u8) (xs ++ x ∷ []) b o))
  one_more [] x b o =
      qed 𝓛 (‵ ftrue ∷ ‵ (part_at u8 full_share x b (0 + o)) ∷ []) ∵ drop ! $
      rewrite ! 0 (λ (k : ℕ). ‵ (part_at u8 full_share x b k)) {x = o} (omega arith) refl $ nothing ! $ move ! (1 ∷ 0 ∷ []) $ fjoin ! $ done !
  one_more (y ∷ ys) x b o =
      qed 𝓛 (‵ (cells (mem u8) (y ∷ ys) b o) ∷ ‵ (part_at u8 full_share x b (suc (length ys) + o)) ∷ []) ∵ fsplit ! $ move ! (1 ∷ 2 ∷ []) $
      rewrite ! 1 (λ (k : ℕ). ‵ (part_at u8 full_share x b k)) {x = length ys + (o + 1)} (omega arith) refl $
      use2 𝓛 (‵ (cells (mem u8) (ys ++ x ∷ []) b (o + 1))) (one_more ys x b (o + 1)) $ move ! (1 ∷ 0 ∷ []) $ fjoin ! $ done !

  pub forgotten : (xs : List ℕ) (b o : ℕ) → ent 𝓤 (sem 𝓛 (cells (mem u8) xs b o)) (H.room (places (length xs)) b o)
  forgotten [] b o = 𝓛.laws.room_nil (ty_int w8) b o
  forgotten (x ∷ xs) b o =
      qed 𝓛 (‵ (cells (mem u8) (x ∷ xs) b o) ∷ []) ∵ fsplit ! $
      use1 𝓛 (‵ (fat full_share (ty_int w8) b o (vint w8 x))) (uint_out 𝓛 full_share w8 x b o) $
      use1 𝓛 (‵ (froom (ty_int w8) b o)) (𝓛.laws.at_room (ty_int w8) b o (vint w8 x)) $ move ! (1 ∷ []) $
      use1 𝓛 (‵ (froom (places (length xs)) b (o + 1))) (forgotten xs b (o + 1)) $ move ! (1 ∷ 0 ∷ []) $ by ! (𝓛.laws.room_cons (ty_int w8) (length xs) b o)
