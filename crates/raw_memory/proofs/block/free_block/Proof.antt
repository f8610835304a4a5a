-- `free_block` makes the block of room again, and hands it back with the right to free it.
use Rattle.raw_memory.proofs.Steps.{◌≡◌, ℕ, ◌*◌, ◌^◌, ◌<◌, List, [], ◌∷◌, length, refl, sym, subst, ◌∙◌, arith, lit<, w64, proved, after, full_share, never, id⊢, SProp, Lft, Share, ftrue, fat, froom, flft, named, Val, vunit, Env, fact, tables, ‵, raw, ◌⊛◌, later, given, at_ret, ◌$◌, ◌∵◌, !, qed, done, move, keep, drop, use1, split, join, fsplit, feq_i, learn, await, rewrite, suffices, group, enter, of_opd, lit, unit_lit, stop, fld, no_more, and_then, first, blocks, exec, returns, alloc_all, pass_all, free_all, look_at, get, get_in, sets, lands_last, take_at, give_at, env, usize, RefOf, whole, sub, lone, uint_vals, uint_Tells, RattleType, owns, Ptr, in_a_block, ShrRef, shr_vals, shr_Tells, plain, nothing, heard, Stays, walk_of, stay_dropped, Goes-dropped, ends_at}
use lib.Dec.{T}
use mir.Syntax.{Ty, Fn, Args, a_type, dcons, dnil, ty_unit}
use mir.Val.{has_ty, WT}
use mir.MapTy.{inst_fn}
use contract.BorrowLft.{◌⊑◌, ⊑_trans}
use prog.Capped.{capped_is}
use denote.Param.{param, bounded}
use denote.Triple.Call.{calls_at_last}
use denote.Triple.Table.{framed}
use Rattle.std.proofs.alloc.Calls.{Al, seen, Goes-blank, Gives, at_gives, Gives-goes, Gives-Gives}
use Rattle.raw_memory.proofs.Blocks.{forgotten}
use Rattle.raw_memory.proofs.Words.{word, start_vals, start_Tells, word_typed, mark, mark_told}
use Rattle.raw_memory.specs.Ownership.{places, bytes_owned}
use Rattle.raw_memory.specs.contracts.block.BlockStart.{the_row as B}
use Rattle.raw_memory.specs.contracts.block.BlockBytes.{the_row as C}
use Rattle.raw_memory.specs.contracts.block.FreeRight as D
use Rattle.raw_memory.specs.contracts.block.free_block as f
use Rattle.raw_memory.proofs.block.free_block.Statement.{statement}
use Rattle.raw_memory.proofs.block.free_block.Code as code

pub free_block_spec : {M : Type 1} → statement M
free_block_spec 𝓤 𝓛 𝓜 𝓡 wired A L g d dd met md =
    let H = 𝓛.H in
    let Y : Al = record { row = A; laws = L; g = g; d = d; drops = dd } in
    let P : RattleType = param 0 A in let FreeRight : RattleType = D.the_row P g in
    let E = f.ended A g d dd in let c = f.clauses A g d dd 𝓛 𝓜.mem 𝓡.returns in
    let args : Args = bounded (a_type ∷ []) (A, tt) (dcons d (dcons dd dnil)) in
    let fn : Fn = inst_fn args code.function in
    let ks = E.kept in
    let hs : Stays E.signature.params ks = (stay_dropped (RefOf (0 ∷ []) tt (plain (λ _. P)) (λ _. tt)) ks.0, (stay_dropped (plain (λ _. B)) ks.1.0, (stay_dropped (plain (λ _. usize)) ks.1.1.0, (stay_dropped (plain (λ _. C)) ks.1.1.1.0, (stay_dropped (plain (λ _. FreeRight)) ks.1.1.1.1.0, tt))))) in
    let W = walk_of 𝓛 E hs c in let 𝓣 = tables 𝓤 H 𝓜 𝓡 𝓡.env in
    proved 𝓛 E hs c 𝓜 𝓡 (
      Goes-dropped 𝓛 2 (RefOf (0 ∷ []) tt (plain (λ _. P)) (λ _. tt)) ks.0 (λ κs x w. refl),
      (
        Goes-dropped 𝓛 2 (plain (λ _. B)) ks.1.0 (λ κs x w. refl),
        (
          Goes-dropped 𝓛 2 (plain (λ _. usize)) ks.1.1.0 (λ κs x w. refl),
          (Goes-blank 𝓛 2 (plain (λ _. C)) ks.1.1.1.0 (λ κs x w. tt), (Goes-blank 𝓛 2 (plain (λ _. FreeRight)) ks.1.1.1.1.0 (λ κs x w. tt), tt)),
        ),
      ),
    )
    (f.Key.name args) fn (code.unfolded 𝓤 H 𝓜 𝓡 wired (A, tt) d dd)
    (λ κs. (shr_vals, (start_vals, (uint_vals w64, ((λ x. mark ∷ []), ((λ x. mark ∷ []), tt))))))
    (λ κs. (shr_Tells (named 0) κs.0 P, (start_Tells, (uint_Tells w64, ((λ x vs is. mark_told vs is.0), ((λ x vs is. mark_told vs is.0), tt)))))) (λ κs qs bounds a _ are.
    let κ : Lft = κs.0 in let q : Share = qs.0 in
    let h = a.0.now in let at = a.0.ref_ptr in let start = a.1.0 in let len = a.1.1.0 in let contents = a.1.1.1.0 in let right = a.1.1.1.1.0 in
    let fits_len : len < 2 ^ 64 = are.1.1.0.1 in
    let y : W.Ghost = ((κs, qs, bounds, a, (shr_vals a.0, (start_vals start, (uint_vals w64 len, (mark ∷ [], (mark ∷ [], tt)))))), tt) in
    let Post : Val → SProp 𝓤 = W.post y in
    let τ : Ty = places len in
    let Asked : Type 0 = (contents.at ≡ start.ptr) × (length contents.bytes ≡ len) × (right.at ≡ start.ptr) × (right.len ≡ len) × (right.alloc ≡ h) in
    qed 𝓛 (((‵ (flft κ q) ⊛ ‵ (flft κs.1.0 qs.1.0) ⊛ ‵ ftrue) ⊛ ‵ (owns (ShrRef (named 0) κ P ∷ B ∷ usize ∷ C ∷ FreeRight ∷ []) a y.0.4)) ∷ (raw (fact 𝓤 (κs.1.0 ⊑ A.lives)) ⊛ raw (fact 𝓤 Asked)) ∷ []) ∵
    move ! (1 ∷ []) $ split ! $ heard ! (κs.1.0 ⊑ A.lives) (λ le. heard ! Asked (λ asked. split ! $ move ! (1 ∷ []) $ fsplit ! $ fsplit ! $ drop ! $
    -- [the allocator, for reading; what the other parameters own; the tokens]
    use1 𝓛 (‵ (seen Y κ at h)) (id⊢ 𝓤 _) $ move ! (1 ∷ []) $ fsplit ! $ drop ! $ fsplit ! $ drop ! $ fsplit ! $ fsplit ! $ drop ! $ move ! (1 ∷ []) $ fsplit ! $ fsplit ! $ drop ! $
    -- [the right to free the block; nothing; the block; the allocator, for reading; the tokens]
    move ! (4 ∷ []) $ use1 𝓛 (‵ (flft κ q) ⊛ (‵ (flft κs.1.0 qs.1.0) ⊛ ‵ ftrue)) (id⊢ 𝓤 _) $ split ! $ keep ! (4 ∷ 2 ∷ 5 ∷ 0 ∷ 1 ∷ []) $
    enter ! _ _ _ _ _ $ alloc_all ! (λ l. pass_all ! refl ((tt, tt), (word_typed start.ptr, ((tt, record { fits = fits_len }), ((tt, (tt, tt)), ((tt, (tt, tt)), tt))))) $
    let En : Env 𝓤 H = env fn.locals l in
    in_a_block ! contents.at (λ p. bytes_owned p contents.bytes contents.spare) (id⊢ 𝓤 (never 𝓤)) (λ b o e.
    let z = at_gives Y 𝓛 𝓜.mem 𝓡.returns κ q at h b o len 1 τ in
    fsplit ! $ drop ! $ fsplit ! $ move ! (1 ∷ []) $ drop ! $
    use1 𝓛 (‵ (froom (places (length contents.bytes)) b o)) (forgotten 𝓛 contents.bytes b o) $
    rewrite ! 0 (λ (k : ℕ). ‵ (froom (places k) b o)) asked.1 refl $
    rewrite ! 1 (λ (t : A.Denot × ℕ × Ptr). ‵ (g.dealloc_token t.0 (places t.1) t.2)) (λ i. (asked.4 i, asked.3 i, (asked.2 ∙ (sym asked.0 ∙ e)) i)) refl $
    take_at ! 2 $ rewrite ! 0 (λ (p : Ptr). ‵ (fat full_share (lone B.mir) (l 2) 0 (word p))) (sym asked.0 ∙ e) refl $ give_at ! 2 $
    -- [the room; the right to free it; the allocator, for reading; its token; the other tokens; ..]
    group ! 4 $ use1 𝓛 (raw ((Gives Y 𝓛 𝓜.mem 𝓡.returns).pre z)) (Gives-goes Y 𝓛 𝓜.mem 𝓡.returns κ q at h (⊑_trans κ κs.1.0 A.lives bounds.0 le) b o len 1 τ (capped_is (len * 1) (omega arith) ∙ omega arith) refl fits_len (lit< tt)) $
    first ! $ blocks ! $
    calls_at_last ! (framed 𝓤 H 𝓜 𝓣) (Gives Y 𝓛 𝓜.mem 𝓡.returns) (met.deallocate dd) z (and_then ! (get ! refl) (and_then ! (get_in ! (fld ! refl (stop !)) (sub ! 0 refl (whole !))) (and_then ! (get ! refl) (and_then ! (lit ! tt) (no_more !))))) (λ v.
    use1 𝓛 (later (given (v ≡ vunit) (‵ (flft κ q)))) (Gives-Gives Y 𝓛 𝓜.mem 𝓡.returns κ q at h b o len 1 τ v) $ await ! tt $ learn ! (λ returned.
    lands_last ! refl (subst (λ (u : Val). T (has_ty ty_unit u) × WT u) (sym returned) (tt, tt)) $
    exec ! 𝓣.C 𝓣.Λ En (after 1 fn.body) (at_ret En Post) $ sets ! (of_opd ! (unit_lit !)) refl (tt, tt) $
    returns ! (look_at ! 0 refl) $ free_all ! refl $
    suffices ! _ (ends_at 𝓛 E hs c y vunit tt (tt, (tt, (tt, (tt, (tt, tt))))) (tt, (tt, (tt, (tt, (tt, tt)))))) $
    join ! $ feq_i ! (List Val) (vunit ∷ []) (vunit ∷ []) refl $
    nothing ! $ nothing ! $ join ! $ nothing ! $ join ! $ nothing ! $ join ! $ nothing ! $ join ! $ nothing ! $ join ! $
    move ! (2 ∷ 0 ∷ 1 ∷ []) $ group ! 3 $ nothing ! $ move ! (1 ∷ 0 ∷ []) $ done !)))))))
