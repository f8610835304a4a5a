-- `grow_block` hands the bytes over as an array with no room behind it, and takes them back with the room that the block has grown by.
use Rattle.raw_memory.proofs.Steps.{◌≡◌, ℕ, ◌+◌, ◌-◌, ◌*◌, ◌≤◌, ◌^◌, ◌<◌, [], ◌∷◌, length, refl, sym, subst, ◌∙◌, arith, lit<, w64, proved, after, head, arm_body, full_share, never, id⊢, SProp, Lft, Share, ftrue, fat, froom, flft, ty_int, w8, named, Val, Env, fact, tables, cells, ‵, raw, ◌⊛◌, later, at_ret, ◌$◌, ◌∵◌, !, qed, done, move, keep, drop, use0, use1, split, join, fsplit, fsplit3, fjoin, feq_i, flt_i, flt_l, await, rewrite, suffices, frame, group, enter, of_opd, lit, stop, fld, no_more, and_then, first, blocks, switches_on, exec, returns, alloc_all, pass_all, free_all, look_at, get, get_in, get_tag, sets, sets_last, lands_last, take_at, give_at, env, u8, usize, RefOf, whole, sub, agg, mem, part_at, lone, uint_vals, uint_Tells, RattleType, owns, Ptr, block_ptr, in_a_block, ShrRef, shr_vals, shr_Tells, MutRef, mut_vals, mut_Tells, plain, nothing, opens, closes, heard, Stays, walk_of, says, stay_dropped, Goes-dropped, stay_ref, Goes-ref, ends_at}
use mir.Syntax.{Fn, Args, a_type, dcons, dnil}
use mir.Val.{vstruct, vcons, vnil}
use mir.MapTy.{inst_fn}
use seplogic.Ra.Ura.{Ura}
use base.Logic.{ent, emp, ex}
use base.Fml.{Fml, feq, fsep}
use lib.Dec.{T}
use types.Kit.{split3, Post as After, any_q}
use types.Match.{live, vrt, in_variant}
use prog.Wp.{Wp, after_seq, at_return}
use mir.Val.{has_ty, WT}
use denote.Param.{layout}
use types.Logic.{Logic, sem}
use contract.BorrowLft.{◌⊑◌, ⊑_trans, ⊑_static}
use denote.Array.{Array}
use denote.ArrayMemory.{Array-apart, Array-whole}
use denote.Index.{row, whole_out, whole_in}
use denote.Param.Laws.{Laws, of_field}
use denote.Param.Shared.{copy_shared}
use denote.Struct.Field.{u8-field}
use denote.Struct.Laws.{u8-laws, u8-copy}
use Rattle.std.proofs.Common.{le_refl, true, false}
use Rattle.std.specs.Allocator.{block_with_items}
use denote.Laws.{Is}
use denote.Param.{param, bounded}
use denote.Steps.{owned}
use denote.Struct.Declared as Declared
use denote.Struct.Struct.{Struct, Struct-Makes}
use Rattle.std.specs.Prelude.{Ok, Err}
use Rattle.std.specs.contracts.alloc.AllocError as AE
use Rattle.std.specs.contracts.result.Result as RS
use Rattle.std.proofs.ResultValues.{ok_of, err_of}
use denote.Triple.Call.{calls_at_last}
use denote.Triple.Table.{framed}
use Rattle.std.proofs.alloc.Calls.{Al, token, Answer, Answer-typed, seen}
use Rattle.std.proofs.alloc.Resizes.{Grows, Resizes, at_resizes, Resizes-goes, Resizes-gives, left_by, Flagged, flagged}
use Rattle.raw_memory.proofs.Words.{word, start_vals, start_Tells, word_typed, start_made}
use Rattle.raw_memory.specs.Ownership.{places, bytes_owned}
use Rattle.raw_memory.specs.contracts.block.BlockStart.{the_row as B}
use Rattle.raw_memory.specs.contracts.block.BlockBytes.{the_row as C}
use Rattle.raw_memory.specs.contracts.block.FreeRight as D
use Rattle.raw_memory.specs.contracts.block.grow_block as f
use Rattle.raw_memory.proofs.block.grow_block.Statement.{statement}
use Rattle.raw_memory.proofs.block.grow_block.Code as code

-- no places take no room
no_room : {M : Type 1} {𝓤 : Ura M} (𝓛 : Logic 𝓤) (n b o : ℕ) → n ≡ 0 → ent 𝓤 (emp 𝓤) (sem 𝓛 (froom (places n) b o))
no_room {𝓤 = 𝓤} 𝓛 n b o e = subst (λ (k : ℕ). ent 𝓤 (emp 𝓤) (sem 𝓛 (froom (places k) b o))) (sym e) (𝓛.laws.room_nil (ty_int w8) b o)

byte_laws : Laws u8
byte_laws = of_field u8-field u8-laws refl (copy_shared u8-field u8-copy)

pub grow_block_spec : {M : Type 1} → statement M
grow_block_spec 𝓤 𝓛 𝓜 𝓡 wired A L g d dd met md =
    let H = 𝓛.H in
    let Y : Al = record { row = A; laws = L; g = g; d = d; drops = dd } in
    let P : RattleType = param 0 A in let FreeRight : RattleType = D.the_row P g in
    let E = f.ended A g d dd in let c = f.clauses A g d dd 𝓛 𝓜.mem 𝓡.returns in
    let args : Args = bounded (a_type ∷ []) (A, tt) (dcons d (dcons dd dnil)) in
    let fn : Fn = inst_fn args code.function in
    let ks = E.kept in
    let hs : Stays E.signature.params ks = (stay_dropped (RefOf (0 ∷ []) tt (plain (λ _. P)) (λ _. tt)) ks.0, (stay_dropped (plain (λ _. B)) ks.1.0, (stay_dropped (plain (λ _. usize)) ks.1.1.0, (stay_dropped (plain (λ _. usize)) ks.1.1.1.0, (stay_ref (1 ∷ []) tt (plain (λ _. C)), (stay_ref (2 ∷ []) tt (plain (λ _. FreeRight)), tt)))))) in
    let W = walk_of 𝓛 E hs c in let 𝓣 = tables 𝓤 H 𝓜 𝓡 𝓡.env in
    proved 𝓛 E hs c 𝓜 𝓡 (
      Goes-dropped 𝓛 4 (RefOf (0 ∷ []) tt (plain (λ _. P)) (λ _. tt)) ks.0 (λ κs x w. refl),
      (
        Goes-dropped 𝓛 4 (plain (λ _. B)) ks.1.0 (λ κs x w. refl),
        (
          Goes-dropped 𝓛 4 (plain (λ _. usize)) ks.1.1.0 (λ κs x w. refl),
          (Goes-dropped 𝓛 4 (plain (λ _. usize)) ks.1.1.1.0 (λ κs x w. refl), (Goes-ref 𝓛 4 1 tt (plain (λ _. C)), (Goes-ref 𝓛 4 2 tt (plain (λ _. FreeRight)), tt))),
        ),
      ),
    )
    (f.Key.name args) fn (code.unfolded 𝓤 H 𝓜 𝓡 wired (A, tt) d dd)
    (λ κs. (shr_vals, (start_vals, (uint_vals w64, (uint_vals w64, (mut_vals, (mut_vals, tt)))))))
    (λ κs. (shr_Tells (named 0) κs.0 P, (start_Tells, (uint_Tells w64, (uint_Tells w64, (mut_Tells (named 1) κs.1.0 C, (mut_Tells (named 2) κs.1.1.0 FreeRight, tt))))))) (λ κs qs bounds a _ are.
    let κ : Lft = κs.0 in let q : Share = qs.0 in
    let κC : Lft = κs.1.0 in let qC : Share = qs.1.0 in
    let κD : Lft = κs.1.1.0 in let qD : Share = qs.1.1.0 in
    let κA : Lft = κs.1.1.1.0 in let qA : Share = qs.1.1.1.0 in
    let h = a.0.now in let at = a.0.ref_ptr in let start = a.1.0 in let len = a.1.1.0 in let longer = a.1.1.1.0 in
    let bC = a.1.1.1.1.0.ref_ptr.0 in let oC = a.1.1.1.1.0.ref_ptr.1 in let contents = a.1.1.1.1.0.now in
    let bD = a.1.1.1.1.1.0.ref_ptr.0 in let oD = a.1.1.1.1.1.0.ref_ptr.1 in let right = a.1.1.1.1.1.0.now in
    let fits_len : len < 2 ^ 64 = are.1.1.0.1 in let fits_longer : longer < 2 ^ 64 = are.1.1.1.0.1 in
    let y : W.Ghost = ((κs, qs, bounds, a, (shr_vals a.0, (start_vals start, (uint_vals w64 len, (uint_vals w64 longer, (mut_vals a.1.1.1.1.0, (mut_vals a.1.1.1.1.1.0, tt))))))), tt) in
    let Post : Val → SProp 𝓤 = W.post y in
    let Refusal : RattleType = Struct (Declared.shape AE.the_type) in
    let Out : RattleType = RS.the_row B AE.the_row in
    let Asked : Type 0 = (len ≤ longer) × (longer < 2 ^ 63) × (contents.at ≡ start.ptr) × (length contents.bytes ≡ len) × (right.at ≡ start.ptr) × (right.len ≡ len) × (right.alloc ≡ h) in
    qed 𝓛 (((‵ (flft κ q) ⊛ ‵ (flft κC qC) ⊛ ‵ (flft κD qD) ⊛ ‵ (flft κA qA) ⊛ ‵ ftrue) ⊛ ‵ (owns (ShrRef (named 0) κ P ∷ B ∷ usize ∷ usize ∷ MutRef (named 1) κC C ∷ MutRef (named 2) κD FreeRight ∷ []) a y.0.4)) ∷ (raw (fact 𝓤 (κA ⊑ A.lives)) ⊛ raw (fact 𝓤 Asked)) ∷ []) ∵
    move ! (1 ∷ []) $ split ! $ heard ! (κA ⊑ A.lives) (λ le. heard ! Asked (λ asked. split ! $ move ! (1 ∷ []) $ fsplit ! $ fsplit ! $ drop ! $
    -- [the allocator, for reading; what the other parameters own; the tokens]
    use1 𝓛 (‵ (seen Y κ at h)) (id⊢ 𝓤 _) $ move ! (1 ∷ []) $ fsplit ! $ drop ! $ fsplit ! $ drop ! $ fsplit ! $ drop ! $ fsplit ! $ move ! (1 ∷ []) $ fsplit ! $ keep ! (0 ∷ 2 ∷ 3 ∷ 4 ∷ []) $
    -- [the right's reference; the bytes' reference; the allocator, for reading; the tokens]
    move ! (3 ∷ []) $ split ! $ move ! (1 ∷ []) $ split ! $ move ! (1 ∷ []) $ split ! $ move ! (1 ∷ []) $ split ! $ keep ! (5 ∷ 2 ∷ 0 ∷ 3 ∷ 4 ∷ 6 ∷ 7 ∷ []) $
    enter ! _ _ _ _ _ $ alloc_all ! (λ l. pass_all ! refl ((tt, tt), (word_typed start.ptr, ((tt, record { fits = fits_len }), ((tt, record { fits = fits_longer }), ((tt, tt), ((tt, tt), tt)))))) $
    let En : Env 𝓤 H = env fn.locals l in
    let Then : After 𝓤 H = any_q (after_seq 𝓤 H (Wp 𝓤 H 𝓣.C 𝓣.Λ En (after 3 fn.body) (at_return 𝓤 H En Post)) (at_return 𝓤 H En Post)) in
    fsplit3 ! $ move ! (1 ∷ 2 ∷ 3 ∷ []) $ opens ! tt FreeRight bD oD (λ us. move ! (1 ∷ []) $ fsplit ! $ move ! (1 ∷ []) $
    -- [the right; what its fields own; its cell; its open borrow, in three entries; its reference; the token of A; that of the bytes; that of the allocator; the bytes' reference; the allocator]
    move ! (10 ∷ 8 ∷ []) $ fsplit3 ! $ move ! (1 ∷ 2 ∷ 3 ∷ []) $ opens ! tt C bC oC (λ ws. move ! (1 ∷ []) $ fsplit ! $ move ! (1 ∷ []) $
    in_a_block ! contents.at (λ p. bytes_owned p contents.bytes contents.spare) (id⊢ 𝓤 (never 𝓤)) (λ b o e. fsplit ! $ flt_l ! (λ small. fsplit ! $
    -- the bytes as an array, no room behind them, and the right to the block
    use1 𝓛 (‵ (row u8 full_share contents.bytes b o)) (whole_out 𝓛 u8 contents.bytes b o) $ feq_i ! ℕ (length contents.bytes) len asked.3 $ fjoin ! $
    use1 𝓛 (‵ (part_at (Array u8 len) full_share contents.bytes b o)) (Array-whole 𝓛 u8 full_share len contents.bytes b o) $
    rewrite ! 8 (λ (t : A.Denot × ℕ × Ptr). ‵ (g.dealloc_token t.0 (places t.1) t.2)) (λ i. (asked.6 i, asked.5 i, (asked.4 ∙ (sym asked.2 ∙ e)) i)) refl $
    use0 𝓛 (‵ (froom (places (len - len)) b (o + len * 1))) (no_room 𝓛 (len - len) b (o + len * 1) (omega arith)) $ move ! (0 ∷ 9 ∷ []) $ fjoin ! $ move ! (1 ∷ 0 ∷ []) $ fjoin ! $
    use1 𝓛 (‵ (block_with_items (token Y h) (param 1 u8) (block_ptr b o) len len contents.bytes)) (id⊢ 𝓤 _) $ move ! (0 ∷ 16 ∷ 15 ∷ 14 ∷ []) $
    take_at ! 2 $ rewrite ! 0 (λ (p : Ptr). ‵ (fat full_share (lone B.mir) (l 2) 0 (word p))) (sym asked.2 ∙ e) refl $ give_at ! 2 $
    -- [the block; the allocator; its token; that of A; the room that is told behind the bytes; what the fields of the bytes own; ..]
    let Call = Resizes Y u8 (Grows u8) 𝓛 𝓜.mem 𝓡.returns in
    let z : Call.Ghost = at_resizes Y u8 (Grows u8) 𝓛 𝓜.mem 𝓡.returns κ κA q qA at h b o len len longer contents.bytes in
    group ! 4 $ use1 𝓛 (raw (Call.pre z)) (Resizes-goes Y u8 (Grows u8) 𝓛 𝓜.mem 𝓡.returns κ κA q qA at h b o len len longer contents.bytes (⊑_trans κ κA A.lives bounds.0 le) (⊑_static κA) (le_refl len, asked.0, omega (arith, asked.1)) fits_len fits_len fits_longer) $
    first ! $ blocks ! $
    calls_at_last ! (framed 𝓤 H 𝓜 𝓣) Call (met.grow dd u8 byte_laws) z (and_then ! (get ! refl) (and_then ! (get_in ! (fld ! refl (stop !)) (sub ! 0 refl (whole !))) (and_then ! (get ! refl) (and_then ! (get ! refl) (and_then ! (get ! refl) (no_more !)))))) (λ v.
    let left : Answer.Denot → Fml = left_by Y u8 (Grows u8) 𝓛 𝓜.mem 𝓡.returns κ κA q qA at h b o len len longer contents.bytes in
    use1 𝓛 (later (raw (ex 𝓤 (Flagged 𝓛 left v)) ⊛ ‵ (flft κ q) ⊛ ‵ (flft κA qA))) (Resizes-gives Y u8 (Grows u8) 𝓛 𝓜.mem 𝓡.returns κ κA q qA at h b o len len longer contents.bytes v) $ await ! tt $ split3 ! $
    flagged ! v left
    (λ b' o' e'.
    lands_last ! refl (subst (λ (u : Val). T (has_ty (layout Answer) u) × WT u) (sym e') (Answer-typed true b' o')) $ exec ! 𝓣.C 𝓣.Λ En (after 1 fn.body) (at_ret En Post) $
    take_at ! 10 $ rewrite ! 0 (λ (u : Val). ‵ (fat full_share (layout Answer) (l 10) 0 u)) e' refl $ give_at ! 10 $
    sets ! (of_opd ! (get ! refl)) refl (Answer-typed true b' o') $ first ! $ switches_on ! (get_tag ! (vrt ! refl (fld ! refl (stop !))) (whole !)) $ exec ! 𝓣.C 𝓣.Λ En (arm_body 0 (head (after 2 fn.body))) Then $
    sets ! (of_opd ! (get_in ! (vrt ! refl (fld ! refl (stop !))) (in_variant ! 0 0 refl refl (whole !)))) refl (tt, tt) $
    let p : Ptr = block_ptr b' o' in
    let made : B.Denot = record { ptr = p } in
    let grown : C.Denot = record { mark = contents.mark; at = p; bytes = contents.bytes; spare = longer - len } in
    let given' : FreeRight.Denot = record { mark = right.mark; at = p; len = longer; alloc = h } in
    let out : Val = live 0 (vcons (word p) vnil) in
    sets ! (agg ! (and_then ! (get ! refl) (no_more !))) refl (tt, (tt, tt)) $
    sets_last ! (agg ! (and_then ! (lit ! tt) (and_then ! (get ! refl) (no_more !)))) refl (tt, (record { fits = lit< tt }, ((tt, tt), tt))) $
    exec ! 𝓣.C 𝓣.Λ En (after 3 fn.body) (at_ret En Post) $ sets ! (of_opd ! (get ! refl)) refl (tt, (record { fits = lit< tt }, ((tt, tt), tt))) $
    -- the bytes, the room that the block has grown by, and the right to the new block
    use1 𝓛 (‵ (block_with_items (token Y h) (param 1 u8) p len longer contents.bytes)) (id⊢ 𝓤 _) $ fsplit ! $
    use1 𝓛 (‵ (fsep (feq ℕ (length contents.bytes) len) (row u8 full_share contents.bytes b' o'))) (Array-apart 𝓛 u8 full_share tt len contents.bytes b' o') $ fsplit ! $ drop ! $
    use1 𝓛 (‵ (cells (mem u8) contents.bytes b' o')) (whole_in 𝓛 u8 contents.bytes b' o') $ move ! (1 ∷ []) $ fsplit ! $
    let behind : o' + len * 1 ≡ length contents.bytes + o' = omega (arith, asked.3) in
    rewrite ! 0 (λ (k : ℕ). ‵ (froom (places (longer - len)) b' k)) behind refl $ move ! (2 ∷ 0 ∷ []) $ fjoin ! $
    flt_i ! (length contents.bytes + (longer - len)) (2 ^ 63) (omega (arith, asked.0, asked.1, asked.3)) $ fjoin ! $
    move ! (5 ∷ 0 ∷ []) $ fjoin ! $ move ! (5 ∷ 0 ∷ 6 ∷ 7 ∷ 8 ∷ []) $ closes ! tt C grown ws bC oC $
    move ! (8 ∷ 3 ∷ []) $ fjoin ! $ move ! (8 ∷ 0 ∷ 9 ∷ 10 ∷ 11 ∷ []) $ closes ! tt FreeRight given' us bD oD $
    -- [the tokens; the reference of the bytes; that of the right; ..]
    move ! (6 ∷ 5 ∷ 2 ∷ 7 ∷ 9 ∷ 3 ∷ 4 ∷ 10 ∷ 0 ∷ 1 ∷ []) $
    returns ! (look_at ! 0 refl) $ free_all ! refl $
    use0 𝓛 (‵ (B.own_val made (word p ∷ []))) (start_made 𝓛 made) $ use1 𝓛 (‵ (Out.own_val (Ok made) (out ∷ []))) (ok_of 𝓛 B AE.the_row made (word p)) $
    suffices ! _ (ends_at 𝓛 E hs c y out (Ok made) (tt, (tt, (tt, (tt, (grown, (given', tt)))))) (tt, (tt, (tt, (tt, (tt, (tt, tt))))))) $ says ! (refl, refl, omega (arith, asked.0), refl, refl, refl) $
    nothing ! $ move ! (5 ∷ 0 ∷ []) $ join ! $ move ! (4 ∷ 0 ∷ []) $ join ! $ move ! (3 ∷ 0 ∷ []) $ join ! $ move ! (2 ∷ 0 ∷ []) $ join ! $ frame ! $
    move ! (4 ∷ 5 ∷ 6 ∷ []) $ group ! 3 $ nothing ! $ move ! (1 ∷ 0 ∷ []) $ join ! $ move ! (2 ∷ 3 ∷ 4 ∷ []) $ group ! 3 $ join ! $
    nothing ! $ join ! $ nothing ! $ join ! $ nothing ! $ join ! $ nothing ! $ join ! $ keep ! (0 ∷ 1 ∷ []) $ done !)
    (λ e'.
    let out : Val = live 1 (vcons (vstruct vnil) vnil) in
    lands_last ! refl (subst (λ (u : Val). T (has_ty (layout Answer) u) × WT u) (sym e') (Answer-typed false 0 0)) $ exec ! 𝓣.C 𝓣.Λ En (after 1 fn.body) (at_ret En Post) $
    take_at ! 10 $ rewrite ! 0 (λ (u : Val). ‵ (fat full_share (layout Answer) (l 10) 0 u)) e' refl $ give_at ! 10 $
    sets ! (of_opd ! (get ! refl)) refl (Answer-typed false 0 0) $ first ! $ switches_on ! (get_tag ! (vrt ! refl (fld ! refl (stop !))) (whole !)) $ exec ! 𝓣.C 𝓣.Λ En (arm_body 1 (head (after 2 fn.body))) Then $
    sets ! (of_opd ! (get_in ! (vrt ! refl (fld ! refl (stop !))) (in_variant ! 1 0 refl refl (whole !)))) refl (tt, tt) $
    sets_last ! (agg ! (and_then ! (lit ! tt) (and_then ! (get ! refl) (no_more !)))) refl (tt, (record { fits = lit< tt }, (tt, tt))) $
    exec ! 𝓣.C 𝓣.Λ En (after 3 fn.body) (at_ret En Post) $ sets ! (of_opd ! (get ! refl)) refl (tt, (record { fits = lit< tt }, (tt, tt))) $
    -- the block as it was
    use1 𝓛 (‵ (block_with_items (token Y h) (param 1 u8) (block_ptr b o) len len contents.bytes)) (id⊢ 𝓤 _) $ fsplit ! $
    use1 𝓛 (‵ (fsep (feq ℕ (length contents.bytes) len) (row u8 full_share contents.bytes b o))) (Array-apart 𝓛 u8 full_share tt len contents.bytes b o) $ fsplit ! $ drop ! $
    use1 𝓛 (‵ (cells (mem u8) contents.bytes b o)) (whole_in 𝓛 u8 contents.bytes b o) $ move ! (1 ∷ []) $ fsplit ! $ drop ! $
    move ! (1 ∷ 4 ∷ []) $ fjoin ! $ flt_i ! (length contents.bytes + contents.spare) (2 ^ 63) small $ fjoin ! $
    rewrite ! 0 (λ (p : Ptr). ‵ (bytes_owned p contents.bytes contents.spare)) (sym e) refl $
    move ! (4 ∷ 0 ∷ []) $ fjoin ! $ move ! (4 ∷ 0 ∷ 5 ∷ 6 ∷ 7 ∷ []) $ closes ! tt C contents ws bC oC $
    rewrite ! 3 (λ (t : A.Denot × ℕ × Ptr). ‵ (g.dealloc_token t.0 (places t.1) t.2)) (sym (λ i. (asked.6 i, asked.5 i, (asked.4 ∙ (sym asked.2 ∙ e)) i))) refl $
    move ! (7 ∷ 3 ∷ []) $ fjoin ! $ move ! (7 ∷ 0 ∷ 8 ∷ 9 ∷ 10 ∷ []) $ closes ! tt FreeRight right us bD oD $
    move ! (6 ∷ 5 ∷ 2 ∷ 7 ∷ 8 ∷ 3 ∷ 4 ∷ 9 ∷ 0 ∷ 1 ∷ []) $
    owned ! Refusal (Is Refusal) (Struct-Makes 𝓛 (Declared.shape AE.the_type) tt) tt (vstruct vnil ∷ []) (tt, (refl, tt)) $
    use1 𝓛 (‵ (Out.own_val (Err (record {})) (out ∷ []))) (err_of 𝓛 B AE.the_row (record {}) (vstruct vnil)) $
    returns ! (look_at ! 0 refl) $ free_all ! refl $
    suffices ! _ (ends_at 𝓛 E hs c y out (Err (record {})) (tt, (tt, (tt, (tt, (contents, (right, tt)))))) (tt, (tt, (tt, (tt, (tt, (tt, tt))))))) $ says ! (refl, refl) $
    nothing ! $ move ! (5 ∷ 0 ∷ []) $ join ! $ move ! (4 ∷ 0 ∷ []) $ join ! $ move ! (3 ∷ 0 ∷ []) $ join ! $ move ! (2 ∷ 0 ∷ []) $ join ! $ frame ! $
    move ! (4 ∷ 5 ∷ 6 ∷ []) $ group ! 3 $ nothing ! $ move ! (1 ∷ 0 ∷ []) $ join ! $ move ! (2 ∷ 3 ∷ 4 ∷ []) $ group ! 3 $ join ! $
    nothing ! $ join ! $ nothing ! $ join ! $ nothing ! $ join ! $ nothing ! $ join ! $ keep ! (0 ∷ 1 ∷ []) $ done !)))))))))
    )
