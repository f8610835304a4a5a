-- `push` writes the first place of the room, and the byte joins the others.
use Rattle.raw_memory.proofs.Steps.{◌≡◌, ℕ, suc, ◌+◌, ◌-◌, ◌^◌, ◌<◌, [], ◌∷◌, ◌++◌, length, refl, sym, ◌∙◌, arith, length-append, w8, w64, proved, after, full_share, never, id⊢, ftrue, fat, froom, flft, ty_int, named, vunit, fact, tables, cells, ‵, raw, ◌⊛◌, at_ret, ◌$◌, ◌∵◌, !, qed, done, move, keep, use1, use2, split, join, fsplit, fsplit3, fjoin, feq_i, flt_i, flt_l, rewrite, suffices, frame, group, enter, of_opd, unit_lit, bin, init, stop, fld, assigns_last, first, blocks, exec, returns, alloc_all, pass_all, free_all, look_at, get, get_in, through, sets, take_at, give_at, env, u8, usize, yes, whole, sub, mem, part_at, lone, uint_in, uint_vals, uint_Tells, owns, Ptr, in_a_block, MutRef, mut_vals, mut_Tells, plain, nothing, opens, closes, heard, Stays, walk_of, says, stay_dropped, Goes-dropped, stay_ref, Goes-ref, ends_at}
use Rattle.raw_memory.proofs.Blocks.{one_more}
use Rattle.raw_memory.proofs.Words.{word, start_vals, start_Tells, word_typed}
use Rattle.raw_memory.specs.Ownership.{places, bytes_owned}
use Rattle.raw_memory.specs.contracts.block.BlockStart.{the_row as B}
use Rattle.raw_memory.specs.contracts.block.BlockBytes.{the_row as R}
use Rattle.raw_memory.specs.contracts.block.BlockBytes.push as f
use Rattle.raw_memory.proofs.block.BlockBytes.push.Statement.{statement}
use Rattle.raw_memory.proofs.block.BlockBytes.push.Code as code

abbrev stayed : Stays f.ended.signature.params f.ended.kept
stayed = (stay_ref (0 ∷ []) tt (plain (λ _. R)), (stay_dropped (plain (λ _. B)) yes, (stay_dropped (plain (λ _. usize)) yes, (stay_dropped (plain (λ _. u8)) yes, tt))))

pub push_spec : {M : Type 1} → statement M
push_spec 𝓤 𝓛 𝓜 𝓡 wired =
    let c = f.clauses 𝓛 𝓜.mem 𝓡.returns in let W = walk_of 𝓛 f.ended stayed c in let 𝓣 = tables 𝓤 𝓛.H 𝓜 𝓡 𝓡.env in
    proved 𝓛 f.ended stayed c 𝓜 𝓡
    (Goes-ref 𝓛 1 0 tt (plain (λ _. R)), (Goes-dropped 𝓛 1 (plain (λ _. B)) yes (λ κs x w. refl), (Goes-dropped 𝓛 1 (plain (λ _. usize)) yes (λ κs x w. refl), (Goes-dropped 𝓛 1 (plain (λ _. u8)) yes (λ κs x w. refl), tt))))
    f.Key.name code.function (code.unfolded 𝓤 𝓛.H 𝓜 𝓡 wired)
    (λ κs. (mut_vals, (start_vals, (uint_vals w64, (uint_vals w8, tt)))))
    (λ κs. (mut_Tells (named 0) κs.0 R, (start_Tells, (uint_Tells w64, (uint_Tells w8, tt))))) (λ κs qs bounds a _ are.
    let κ = κs.0 in let q = qs.0 in
    let b = a.0.ref_ptr.0 in let o = a.0.ref_ptr.1 in let h = a.0.now in let start = a.1.0 in let len = a.1.1.0 in let byte = a.1.1.1.0 in
    let bytes = h.bytes in let spare = h.spare in let n = spare - 1 in
    let fits_len : len < 2 ^ 64 = are.1.1.0.1 in let fits_byte : byte < 2 ^ 8 = are.1.1.1.0.1 in
    let y : W.Ghost = ((κs, qs, bounds, a, (mut_vals a.0, (start_vals start, (uint_vals w64 len, (uint_vals w8 byte, tt))))), tt) in
    let Asked : Type 0 = (start.ptr ≡ h.at) × (length bytes ≡ len) × (0 < spare) in
    qed 𝓛 (((‵ (flft κ q) ⊛ ‵ ftrue) ⊛ ‵ (owns (MutRef (named 0) κ R ∷ B ∷ usize ∷ u8 ∷ []) a y.0.4)) ∷ raw (fact 𝓤 Asked) ∷ []) ∵
    move ! (1 ∷ []) $ heard ! Asked (λ asked. split ! $ split ! $ move ! (2 ∷ []) $ fsplit ! $ keep ! (0 ∷ 2 ∷ []) $
    enter ! _ _ _ _ _ $ alloc_all ! (λ l. pass_all ! refl ((tt, tt), (word_typed start.ptr, ((tt, record { fits = fits_len }), ((tt, record { fits = fits_byte }), tt)))) $
    fsplit3 ! $ move ! (1 ∷ 2 ∷ 3 ∷ []) $ opens ! tt R b o (λ us.
    move ! (1 ∷ []) $ fsplit ! $ move ! (1 ∷ []) $
    in_a_block ! h.at (λ p. bytes_owned p bytes spare) (id⊢ 𝓤 (never 𝓤)) (λ b' o' e. fsplit ! $ flt_l ! (λ small. fsplit ! $
    -- [the bytes; the room; what the fields own; the struct's cell; the open borrow, in three entries; ..]
    let new : R.Denot = record { mark = h.mark; at = h.at; bytes = bytes ++ byte ∷ []; spare = n } in
    let one : spare ≡ suc n = omega arith in let end : length bytes ≡ len = asked.1 in
    take_at ! 2 $ rewrite ! 0 (λ (p : Ptr). ‵ (fat full_share (lone B.mir) (l 2) 0 (word p))) (asked.0 ∙ e) refl $ give_at ! 2 $
    rewrite ! 1 (λ (k : ℕ × ℕ). ‵ (froom (places k.0) b' (k.1 + o'))) (λ i. (one i, end i)) refl $ move ! (1 ∷ []) $
    use1 𝓛 (‵ (froom (ty_int w8) b' (len + o')) ⊛ ‵ (froom (places n) b' (len + o' + 1))) (𝓛.laws.room_uncons (ty_int w8) n b' (len + o')) $ split ! $
    first ! $ blocks ! $
    sets ! (bin ! (get_in ! (fld ! refl (stop !)) (sub ! 0 refl (whole !))) (get ! refl) tt) refl (tt, tt) $
    assigns_last ! (of_opd ! (get ! refl)) (through ! refl (stop !)) (init ! 0 refl (tt, record { fits = fits_byte })) $
    exec ! 𝓣.C 𝓣.Λ (env code.Mir.locals l) (after 1 (code.function).body) (at_ret _ (W.post y)) $
    sets ! (of_opd ! (unit_lit !)) refl (tt, tt) $
    -- the byte joins the others
    use1 𝓛 (‵ (part_at u8 full_share byte b' (len + o'))) (uint_in 𝓛 full_share w8 byte b' (len + o')) $
    rewrite ! 0 (λ (k : ℕ). ‵ (part_at u8 full_share byte b' (k + o'))) (sym end) refl $ move ! (2 ∷ 0 ∷ []) $
    use2 𝓛 (‵ (cells (mem u8) new.bytes b' o')) (one_more 𝓛 bytes byte b' o') $
    let longer : length new.bytes ≡ length bytes + 1 = length-append bytes (byte ∷ []) in
    let place : len + o' + 1 ≡ length new.bytes + o' = omega (arith, longer) in
    rewrite ! 1 (λ (k : ℕ). ‵ (froom (places n) b' k)) place refl $ fjoin ! $
    flt_i ! (length new.bytes + n) (2 ^ 63) (omega (arith, longer)) $ fjoin ! $
    rewrite ! 0 (λ (p : Ptr). ‵ (bytes_owned p new.bytes n)) (sym e) refl $ move ! (1 ∷ 0 ∷ []) $ fjoin ! $ move ! (1 ∷ 0 ∷ []) $ closes ! tt R new us b o $
    returns ! (look_at ! 0 refl) $ free_all ! refl $ move ! (3 ∷ []) $
    suffices ! _ (ends_at 𝓛 f.ended stayed c y vunit tt (new, (tt, (tt, (tt, tt)))) (tt, (tt, (tt, (tt, tt))))) $ says ! (refl, refl, omega arith) $
    group ! 3 $ nothing ! $ nothing ! $ join ! $ nothing ! $ join ! $ nothing ! $ join ! $ move ! (1 ∷ 0 ∷ []) $ join ! $
    nothing ! $ move ! (2 ∷ 0 ∷ []) $ join ! $ frame ! $ frame ! $ feq_i ! _ (vunit ∷ []) _ refl $ done !))))))
