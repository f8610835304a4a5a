-- `bytes_mut` lends the bytes as a slice, and the block follows what is last in it.
use Rattle.raw_memory.proofs.Steps.{◌≡◌, ℕ, ◌+◌, ◌*◌, ◌^◌, ◌<◌, List, [], ◌∷◌, length, refl, sym, ap, ◌∙◌, arith, w64, MutBor, proved, after, Ura, full_share, ent, sep, never, id⊢, GName, Fml, ftrue, fsep, fat, froom, flft, named, Val, fact, tables, Logic, sem, cells, ‵, raw, ◌⊛◌, some, later, at_ret, ◌$◌, ◌∵◌, !, qed, done, move, keep, use1, split, join, fsplit, fsplit3, fjoin, fjoin3, fpack, flt_i, flt_l, pick, await, rewrite, suffices, frame, group, enter, of_opd, stop, fld, no_more, and_then, first, blocks, exec, returns, alloc_all, pass_all, free_all, look_at, get, get_in, sets, sets_last, take_at, give_at, is, env, u8, usize, Array, yes, no, follows, Elements, lends_Elements, whole, sub, agg, mem, cell_at, lone, uint_vals, uint_Tells, owns, Ptr, block_ptr, in_a_block, MutRef, mut_vals, mut_Tells, MutSlice, slice_val, plain, mut_ref_to, nothing, opens, heard, Stays, walk_of, says, stay_dropped, Goes-dropped, Goes-spent_ref, ends_at}
use Rattle.std.proofs.Common.{drop as drop_l}
use lib.Seq.{take_at as front_is}
use denote.Memory.{part_of}
use denote.Struct.Owning.{shape}
use denote.Struct.Struct.{Struct}
use Rattle.std.specs.List.{refill}
use Rattle.raw_memory.proofs.Words.{word, start_vals, start_Tells, word_typed}
use Rattle.raw_memory.specs.Ownership.{places, bytes_owned}
use Rattle.raw_memory.specs.Lending.{with_bytes}
use Rattle.raw_memory.specs.contracts.block.BlockStart.{the_row as B}
use Rattle.raw_memory.specs.contracts.block.BlockBytes as C
use Rattle.raw_memory.specs.contracts.block.BlockBytes.{the_row as R}
use Rattle.raw_memory.specs.contracts.block.BlockBytes.bytes_mut as f
use Rattle.raw_memory.proofs.block.BlockBytes.bytes_mut.Statement.{statement}
use Rattle.raw_memory.proofs.block.BlockBytes.bytes_mut.Code as code

abbrev stayed : Stays f.ended.signature.params f.ended.kept
stayed = (stay_dropped (mut_ref_to (0 ∷ []) tt (plain (λ _. R))) no, (stay_dropped (plain (λ _. B)) yes, (stay_dropped (plain (λ _. usize)) yes, tt)))

-- the block, once ws was last in the slice
abbrev last : R.Denot → List ℕ → R.Denot
last h ws = with_bytes h (refill (length h.bytes) h.bytes ws)

module _ {M : Type 1} {𝓤 : Ura M} (𝓛 : Logic 𝓤) (rb ro b o : ℕ) (h : R.Denot) (us : List Val) where
  -- all but the bytes: the room, what the fields own, and the cell of the struct
  abbrev Rest : Fml
  Rest = fsep (froom (places h.spare) b (length h.bytes + o)) (fsep ((Struct (shape C.the_type)).own_val (tt, tt) us) (cell_at full_share R.mir us rb ro))

  back : h.at ≡ block_ptr b o → length h.bytes + h.spare < 2 ^ 63 → (ws : List ℕ) → length ws ≡ length h.bytes
      → ent 𝓤 (sep 𝓤 (sem 𝓛 (cells (mem u8) ws b o)) (sem 𝓛 Rest)) (sem 𝓛 ((mem R).own_at (last h ws) rb ro))
  unfolding part_of
  back e small ws same =
      let bytes = h.bytes in
      let all : refill (length bytes) bytes ws ≡ ws = front_is ws (drop_l (length ws) bytes) (length bytes) same in
      let long : length bytes ≡ length (last h ws).bytes = sym same ∙ ap length (sym all) in
      qed 𝓛 (‵ (cells (mem u8) ws b o) ∷ ‵ Rest ∷ []) ∵ move ! (1 ∷ []) $ fsplit3 ! $ move ! (3 ∷ 0 ∷ []) $
      rewrite ! 0 (λ (l : List ℕ). ‵ (cells (mem u8) l b o)) (sym all) refl $
      rewrite ! 1 (λ (k : ℕ). ‵ (froom (places h.spare) b (k + o))) long refl $ fjoin ! $
      flt_i ! (length (last h ws).bytes + h.spare) (2 ^ 63) (omega (arith, long)) $ fjoin ! $
      rewrite ! 0 (λ (p : Ptr). ‵ (bytes_owned p (last h ws).bytes h.spare)) (sym e) refl $ move ! (1 ∷ 0 ∷ []) $ fjoin ! $ move ! (1 ∷ 0 ∷ []) $ fjoin ! $
      fpack ! (List Val) (λ vs. fsep (cell_at full_share R.mir vs rb ro) (R.own_val (last h ws) vs)) us $ done !

pub bytes_mut_spec : {M : Type 1} → statement M
bytes_mut_spec 𝓤 𝓛 𝓜 𝓡 wired =
    let c = f.clauses 𝓛 𝓜.mem 𝓡.returns in let W = walk_of 𝓛 f.ended stayed c in let 𝓣 = tables 𝓤 𝓛.H 𝓜 𝓡 𝓡.env in
    proved 𝓛 f.ended stayed c 𝓜 𝓡
    (Goes-spent_ref 𝓛 1 (0 ∷ []) tt (plain (λ _. R)), (Goes-dropped 𝓛 1 (plain (λ _. B)) yes (λ κs x w. refl), (Goes-dropped 𝓛 1 (plain (λ _. usize)) yes (λ κs x w. refl), tt)))
    f.Key.name code.function (code.unfolded 𝓤 𝓛.H 𝓜 𝓡 wired)
    (λ κs. (mut_vals, (start_vals, (uint_vals w64, tt))))
    (λ κs. (mut_Tells (named 0) κs.0 R, (start_Tells, (uint_Tells w64, tt)))) (λ κs qs bounds a _ are.
    let κ = κs.0 in let q = qs.0 in
    let rb = a.0.ref_ptr.0 in let ro = a.0.ref_ptr.1 in let h = a.0.now in let γ = a.0.ghost_name in let start = a.1.0 in let len = a.1.1.0 in let bytes = h.bytes in
    let fits_len : len < 2 ^ 64 = are.1.1.0.1 in
    let y : W.Ghost = ((κs, qs, bounds, a, (mut_vals a.0, (start_vals start, (uint_vals w64 len, tt)))), tt) in
    let Asked : Type 0 = (start.ptr ≡ h.at) × (length bytes ≡ len) in
    qed 𝓛 (((‵ (flft κ q) ⊛ ‵ ftrue) ⊛ ‵ (owns (MutRef (named 0) κ R ∷ B ∷ usize ∷ []) a y.0.4)) ∷ raw (fact 𝓤 Asked) ∷ []) ∵
    move ! (1 ∷ []) $ heard ! Asked (λ asked. split ! $ split ! $ move ! (2 ∷ []) $ fsplit ! $ keep ! (0 ∷ 2 ∷ []) $
    enter ! _ _ _ _ _ $ alloc_all ! (λ l. pass_all ! refl ((tt, tt), (word_typed start.ptr, ((tt, record { fits = fits_len }), tt))) $
    fsplit3 ! $ move ! (1 ∷ 2 ∷ 3 ∷ []) $ opens ! tt R rb ro (λ us.
    move ! (1 ∷ []) $ fsplit ! $ move ! (1 ∷ []) $
    in_a_block ! h.at (λ p. bytes_owned p bytes h.spare) (id⊢ 𝓤 (never 𝓤)) (λ b o e. fsplit ! $ flt_l ! (λ small. fsplit ! $
    -- [the bytes; the room; what the fields own; the struct's cell; the open borrow, in three entries; ..]
    take_at ! 2 $ rewrite ! 0 (λ (p : Ptr). ‵ (fat full_share (lone B.mir) (l 2) 0 (word p))) (asked.0 ∙ e) refl $ give_at ! 2 $
    let v : Val = slice_val (b, o) (length bytes) in let roomy : length bytes < 2 ^ 64 = omega arith in let fitting : length bytes * 1 < 2 ^ 63 = omega arith in
    let way = back 𝓛 rb ro b o h us e small in let others = sem 𝓛 (Rest 𝓛 rb ro b o h us) in
    first ! $ blocks ! $
    sets_last ! (is ! (agg ! (and_then ! (get_in ! (fld ! refl (stop !)) (sub ! 0 refl (whole !))) (and_then ! (get ! refl) (no_more !)))) (ap (slice_val (b, o)) (sym asked.1))) refl (tt, (tt, (record { fits = roomy }, tt))) $
    exec ! 𝓣.C 𝓣.Λ (env code.Mir.locals l) (after 1 (code.function).body) (at_ret _ (W.post y)) $
    sets ! (of_opd ! (get ! refl)) refl (tt, (tt, (record { fits = roomy }, tt))) $
    move ! (1 ∷ 2 ∷ 3 ∷ []) $ fjoin3 ! $ move ! (2 ∷ 3 ∷ 4 ∷ 1 ∷ 0 ∷ []) $ group ! 5 $
    use1 𝓛 (later (some (λ (δ : GName). raw (Elements 𝓛 R u8 (last h) (named 0) κ q rb ro b o γ bytes (roomy, fitting) others way δ))))
    (lends_Elements 𝓛 R u8 (last h) (named 0) κ q rb ro b o γ bytes (roomy, fitting) others way (R.coded.code h) (R.coded.code h)) $ await ! tt $ pick ! (λ δ.
    let r : MutBor (List ℕ) = record { ref_ptr = (b, o); ghost_name = δ; now = bytes } in
    use1 𝓛 (‵ ((MutSlice (named 0) κ u8).own_val r (v ∷ [])) ⊛ (‵ (flft κ q) ⊛ ‵ (follows R (Array u8 0) γ δ (last h)))) (id⊢ 𝓤 _) $ split ! $ move ! (1 ∷ []) $ split ! $
    returns ! (look_at ! 0 refl) $ free_all ! refl $ keep ! (0 ∷ 1 ∷ 2 ∷ []) $
    -- [the token; what follows; the slice]
    suffices ! _ (ends_at 𝓛 f.ended stayed c y v r (tt, (tt, (tt, tt))) (tt, (tt, (tt, tt)))) $
    nothing ! $ nothing ! $ join ! $ nothing ! $ join ! $ nothing ! $ join ! $
    nothing ! $ move ! (2 ∷ 0 ∷ []) $ join ! $ move ! (0 ∷ 1 ∷ 3 ∷ 2 ∷ []) $ group ! 3 $ frame ! $ says ! refl $ done !)))))))
