-- `take_block` cuts the new block into room for bytes and the right to free it.
use Rattle.raw_memory.proofs.Steps.{ℕ, ◌+◌, ◌*◌, ◌^◌, ◌<◌, [], ◌∷◌, refl, ◌∙◌, arith, lit<, w64, proved, after, head, arm_body, id⊢, SProp, Lft, Share, ftrue, froom, flft, named, Val, Env, fact, tables, ‵, raw, ◌⊛◌, later, at_ret, ◌$◌, ◌∵◌, !, qed, done, move, keep, use0, use1, use2, use3, split, join, fsplit, fjoin, flt_i, await, rewrite, suffices, frame, enter, of_opd, lit, stop, fld, no_more, and_then, first, switches_on, exec, returns, alloc_all, pass_all, free_all, look_at, get, get_in, get_tag, sets, sets_last, lands_as, env, usize, RefOf, yes, whole, agg, uint_vals, uint_Tells, RattleType, owns, Ptr, block_ptr, ShrRef, shr_vals, shr_Tells, plain, nothing, heard, Stays, walk_of, says, stay_dropped, Goes-dropped, ends_at}
use mir.Syntax.{Ty, Fn, Args, a_type, dcons, dnil}
use mir.Val.{vstruct, vcons, vnil}
use mir.MapTy.{inst_fn}
use contract.BorrowLft.{◌⊑◌, ⊑_trans}
use prog.Capped.{capped_is}
use prog.Wp.{Wp, after_seq, at_return}
use types.Kit.{Post as After, any_q}
use types.Match.{live, vrt, in_variant}
use denote.Laws.{Is}
use denote.Param.{param, bounded}
use denote.Steps.{owned}
use denote.Struct.Declared as Declared
use denote.Struct.Struct.{Struct, Struct-Makes}
use denote.Struct.Tuple.{Tuple}
use denote.Triple.Call.{calls_at}
use denote.Triple.Table.{framed}
use Rattle.std.specs.Prelude.{true, false, Ok, Err}
use Rattle.std.specs.contracts.alloc.AllocError as AE
use Rattle.std.specs.contracts.result.Result as RS
use Rattle.std.proofs.alloc.Calls.{Al, Answer-typed, seen, Takes, at_takes, Answered, Takes-goes, Takes-gives, answers}
use Rattle.std.proofs.ResultValues.{ok_of, err_of}
use Rattle.raw_memory.proofs.Words.{word, start_made, mark, mark_own, mark_made, trio, trio_made}
use Rattle.raw_memory.specs.Ownership.{places}
use Rattle.raw_memory.specs.contracts.block.BlockStart.{the_row as B}
use Rattle.raw_memory.specs.contracts.block.BlockBytes.{the_row as C}
use Rattle.raw_memory.specs.contracts.block.FreeRight as D
use Rattle.raw_memory.specs.contracts.block.take_block as f
use Rattle.raw_memory.proofs.block.take_block.Statement.{statement}
use Rattle.raw_memory.proofs.block.take_block.Code as code

pub take_block_spec : {M : Type 1} → statement M
take_block_spec 𝓤 𝓛 𝓜 𝓡 wired A L g d dd met md =
    let H = 𝓛.H in
    let Y : Al = record { row = A; laws = L; g = g; d = d; drops = dd } in
    let P : RattleType = param 0 A in
    let E = f.ended A g d dd in let c = f.clauses A g d dd 𝓛 𝓜.mem 𝓡.returns in
    let given : Args = bounded (a_type ∷ []) (A, tt) (dcons d (dcons dd dnil)) in
    let fn : Fn = inst_fn given code.function in
    let hs : Stays E.signature.params E.kept = (stay_dropped (RefOf (0 ∷ []) tt (plain (λ _. P)) (λ _. tt)) yes, (stay_dropped (plain (λ _. usize)) yes, tt)) in
    let W = walk_of 𝓛 E hs c in let 𝓣 = tables 𝓤 H 𝓜 𝓡 𝓡.env in
    proved 𝓛 E hs c 𝓜 𝓡
    (Goes-dropped 𝓛 2 (RefOf (0 ∷ []) tt (plain (λ _. P)) (λ _. tt)) yes (λ κs x w. refl), (Goes-dropped 𝓛 2 (plain (λ _. usize)) yes (λ κs x w. refl), tt))
    (f.Key.name given) fn (code.unfolded 𝓤 H 𝓜 𝓡 wired (A, tt) d dd)
    (λ κs. (shr_vals, (uint_vals w64, tt))) (λ κs. (shr_Tells (named 0) κs.0 P, (uint_Tells w64, tt))) (λ κs qs bounds a _ are.
    let κ : Lft = κs.0 in let q : Share = qs.0 in
    let h = a.0.now in let at = a.0.ref_ptr in let len = a.1.0 in
    let fits_len : len < 2 ^ 64 = are.1.0.1 in
    let y : W.Ghost = ((κs, qs, bounds, a, (shr_vals a.0, (uint_vals w64 len, tt))), tt) in
    let Post : Val → SProp 𝓤 = W.post y in
    let τ : Ty = places len in
    let z = at_takes Y 𝓛 𝓜.mem 𝓡.returns κ q at h len 1 τ in
    let FreeRight : RattleType = D.the_row P g in
    let Three : RattleType = Tuple (B ∷ C ∷ FreeRight ∷ []) in
    let Out : RattleType = RS.the_row Three AE.the_row in
    let Asked : Type 0 = len < 2 ^ 63 in
    qed 𝓛 (((‵ (flft κ q) ⊛ ‵ (flft κs.1.0 qs.1.0) ⊛ ‵ ftrue) ⊛ ‵ (owns (ShrRef (named 0) κ P ∷ usize ∷ []) a y.0.4)) ∷ (raw (fact 𝓤 (κs.1.0 ⊑ A.lives)) ⊛ raw (fact 𝓤 Asked)) ∷ []) ∵
    move ! (1 ∷ []) $ split ! $ heard ! (κs.1.0 ⊑ A.lives) (λ le. heard ! Asked (λ small. split ! $ move ! (1 ∷ []) $ fsplit ! $ fsplit ! $ keep ! (1 ∷ 3 ∷ []) $
    use1 𝓛 (‵ (seen Y κ at h)) (id⊢ 𝓤 _) $ move ! (1 ∷ []) $ use1 𝓛 (‵ (flft κ q) ⊛ (‵ (flft κs.1.0 qs.1.0) ⊛ ‵ ftrue)) (id⊢ 𝓤 _) $ split ! $ move ! (2 ∷ 0 ∷ []) $
    -- [the allocator, for reading; its token; the other tokens]
    enter ! _ _ _ _ _ $ alloc_all ! (λ l. pass_all ! refl ((tt, tt), ((tt, record { fits = fits_len }), tt)) $
    let En : Env 𝓤 H = env fn.locals l in
    let Then : After 𝓤 H = any_q (after_seq 𝓤 H (Wp 𝓤 H 𝓣.C 𝓣.Λ En (after 2 fn.body) (at_return 𝓤 H En Post)) (at_return 𝓤 H En Post)) in
    use2 𝓛 (raw ((Takes Y 𝓛 𝓜.mem 𝓡.returns).pre z)) (Takes-goes Y 𝓛 𝓜.mem 𝓡.returns κ q at h (⊑_trans κ κs.1.0 A.lives bounds.0 le) len 1 τ (capped_is (len * 1) (omega arith) ∙ omega arith) refl fits_len (lit< tt)) $
    calls_at ! (framed 𝓤 H 𝓜 𝓣) (Takes Y 𝓛 𝓜.mem 𝓡.returns) (met.allocate dd) z (and_then ! (get ! refl) (and_then ! (get ! refl) (and_then ! (lit ! tt) (no_more !)))) (λ v.
    use1 𝓛 (later (raw (Answered Y 𝓛 𝓜.mem 𝓡.returns h τ v) ⊛ ‵ (flft κ q))) (Takes-gives Y 𝓛 𝓜.mem 𝓡.returns κ q at h len 1 τ v) $ await ! tt $ split ! $
    answers Y ! 𝓜.mem 𝓡.returns h τ v
    (λ b o e.
    let p : Ptr = block_ptr b o in
    let start : B.Denot = record { ptr = p } in
    let contents : C.Denot = record { mark = record {}; at = p; bytes = []; spare = len } in
    let right : FreeRight.Denot = record { mark = record {}; at = p; len = len; alloc = h } in
    let made : Val = trio (word p) mark mark in
    let out : Val = live 0 (vcons made vnil) in
    -- [the room; the right to free it; the token; the other tokens; ..]
    lands_as ! e refl (Answer-typed true b o) $ first ! $ switches_on ! (get_tag ! (vrt ! refl (fld ! refl (stop !))) (whole !)) $ exec ! 𝓣.C 𝓣.Λ En (arm_body 0 (head (after 1 fn.body))) Then $
    sets ! (of_opd ! (get_in ! (vrt ! refl (fld ! refl (stop !))) (in_variant ! 0 0 refl refl (whole !)))) refl (tt, tt) $
    sets ! (agg ! (and_then ! (get ! refl) (no_more !))) refl (tt, (tt, tt)) $
    sets ! (agg ! (no_more !)) refl (tt, tt) $ sets ! (agg ! (and_then ! (get ! refl) (no_more !))) refl (tt, (tt, tt)) $
    sets ! (agg ! (no_more !)) refl (tt, tt) $ sets ! (agg ! (and_then ! (get ! refl) (no_more !))) refl (tt, (tt, tt)) $
    sets ! (agg ! (and_then ! (get ! refl) (and_then ! (get ! refl) (and_then ! (get ! refl) (no_more !))))) refl (tt, ((tt, tt), ((tt, tt), ((tt, tt), tt)))) $
    sets_last ! (agg ! (and_then ! (lit ! tt) (and_then ! (get ! refl) (no_more !)))) refl (tt, (record { fits = lit< tt }, (((tt, tt), ((tt, tt), ((tt, tt), tt))), tt))) $
    exec ! 𝓣.C 𝓣.Λ En (after 2 fn.body) (at_ret En Post) $
    sets ! (of_opd ! (get ! refl)) refl (tt, (record { fits = lit< tt }, (((tt, tt), ((tt, tt), ((tt, tt), tt))), tt))) $
    move ! (1 ∷ []) $ use0 𝓛 (‵ (mark_own (mark ∷ []))) (mark_made 𝓛) $ fjoin ! $ move ! (1 ∷ []) $
    rewrite ! 0 (λ (k : ℕ). ‵ (froom τ b k)) {x = 0 + o} (omega arith) refl $ nothing ! $ fjoin ! $
    flt_i ! (0 + len) (2 ^ 63) (omega arith) $ fjoin ! $ use0 𝓛 (‵ (mark_own (mark ∷ []))) (mark_made 𝓛) $ fjoin ! $
    use0 𝓛 (‵ (B.own_val start (word p ∷ []))) (start_made 𝓛 start) $
    use3 𝓛 (‵ (Three.own_val (start, contents, right) (made ∷ []))) (trio_made 𝓛 B C FreeRight start contents right (word p) mark mark) $
    use1 𝓛 (‵ (Out.own_val (Ok (start, contents, right)) (out ∷ []))) (ok_of 𝓛 Three AE.the_row (start, contents, right) made) $
    returns ! (look_at ! 0 refl) $ free_all ! refl $
    suffices ! _ (ends_at 𝓛 E hs c y out (Ok (start, contents, right)) (tt, (tt, tt)) (tt, (tt, tt))) $ says ! (refl, refl, refl, refl, refl, refl) $
    move ! (1 ∷ 2 ∷ []) $ join ! $ frame ! $ nothing ! $ nothing ! $ join ! $ nothing ! $ join ! $ done !)
    (λ e.
    let Refusal : RattleType = Struct (Declared.shape AE.the_type) in
    let out : Val = live 1 (vcons (vstruct vnil) vnil) in
    lands_as ! e refl (Answer-typed false 0 0) $ first ! $ switches_on ! (get_tag ! (vrt ! refl (fld ! refl (stop !))) (whole !)) $ exec ! 𝓣.C 𝓣.Λ En (arm_body 1 (head (after 1 fn.body))) Then $
    sets ! (of_opd ! (get_in ! (vrt ! refl (fld ! refl (stop !))) (in_variant ! 1 0 refl refl (whole !)))) refl (tt, tt) $
    sets_last ! (agg ! (and_then ! (lit ! tt) (and_then ! (get ! refl) (no_more !)))) refl (tt, (record { fits = lit< tt }, (tt, tt))) $
    exec ! 𝓣.C 𝓣.Λ En (after 2 fn.body) (at_ret En Post) $ sets ! (of_opd ! (get ! refl)) refl (tt, (record { fits = lit< tt }, (tt, tt))) $
    owned ! Refusal (Is Refusal) (Struct-Makes 𝓛 (Declared.shape AE.the_type) tt) tt (vstruct vnil ∷ []) (tt, (refl, tt)) $
    use1 𝓛 (‵ (Out.own_val (Err (record {})) (out ∷ []))) (err_of 𝓛 Three AE.the_row (record {}) (vstruct vnil)) $
    returns ! (look_at ! 0 refl) $ free_all ! refl $
    suffices ! _ (ends_at 𝓛 E hs c y out (Err (record {})) (tt, (tt, tt)) (tt, (tt, tt))) $ says ! tt $
    move ! (1 ∷ 2 ∷ []) $ join ! $ frame ! $ nothing ! $ nothing ! $ join ! $ nothing ! $ join ! $ done !))))))
