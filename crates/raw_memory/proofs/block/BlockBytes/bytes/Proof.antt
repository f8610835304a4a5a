-- `bytes` makes a slice of the pointer and the length, over what a reader of the block sees.
use Rattle.raw_memory.proofs.Steps.{◌≡◌, ℕ, ◌*◌, ◌^◌, ◌<◌, List, [], ◌∷◌, length, refl, sym, ap, ◌∙◌, arith, w64, proved, after, full_share, never, id⊢, ftrue, fat, flft, named, Val, fact, tables, ‵, raw, ◌⊛◌, at_ret, ◌$◌, ◌∵◌, !, qed, done, move, keep, drop, split, join, fsplit, fjoin, feq_i, flt_i, flt_l, rewrite, suffices, frame, enter, of_opd, stop, fld, no_more, and_then, first, blocks, exec, returns, alloc_all, pass_all, free_all, look_at, get, get_in, sets, sets_last, take_at, give_at, env, usize, RefOf, yes, whole, sub, agg, lone, uint_vals, uint_Tells, owns, Ptr, in_a_block, Bor, ShrRef, shr_vals, shr_Tells, hide, unhide, slice_val, plain, nothing, heard, Stays, walk_of, says, stay_dropped, Goes-dropped, ends_at}
use Rattle.raw_memory.proofs.Words.{word, start_vals, start_Tells, word_typed}
use Rattle.raw_memory.specs.Ownership.{bytes_lent}
use Rattle.raw_memory.specs.contracts.block.BlockStart.{the_row as B}
use Rattle.raw_memory.specs.contracts.block.BlockBytes.{the_row as R}
use Rattle.raw_memory.specs.contracts.block.BlockBytes.bytes as f
use Rattle.raw_memory.proofs.block.BlockBytes.bytes.Statement.{statement}
use Rattle.raw_memory.proofs.block.BlockBytes.bytes.Code as code

abbrev stayed : Stays f.ended.signature.params f.ended.kept
stayed = (stay_dropped (RefOf (0 ∷ []) tt (plain (λ _. R)) (λ _. tt)) yes, (stay_dropped (plain (λ _. B)) yes, (stay_dropped (plain (λ _. usize)) yes, tt)))

pub bytes_spec : {M : Type 1} → statement M
bytes_spec 𝓤 𝓛 𝓜 𝓡 wired =
    let c = f.clauses 𝓛 𝓜.mem 𝓡.returns in let W = walk_of 𝓛 f.ended stayed c in let 𝓣 = tables 𝓤 𝓛.H 𝓜 𝓡 𝓡.env in
    proved 𝓛 f.ended stayed c 𝓜 𝓡
    (Goes-dropped 𝓛 1 (RefOf (0 ∷ []) tt (plain (λ _. R)) (λ _. tt)) yes (λ κs x w. refl), (Goes-dropped 𝓛 1 (plain (λ _. B)) yes (λ κs x w. refl), (Goes-dropped 𝓛 1 (plain (λ _. usize)) yes (λ κs x w. refl), tt)))
    f.Key.name code.function (code.unfolded 𝓤 𝓛.H 𝓜 𝓡 wired)
    (λ κs. (shr_vals, (start_vals, (uint_vals w64, tt))))
    (λ κs. (shr_Tells (named 0) κs.0 R, (start_Tells, (uint_Tells w64, tt)))) (λ κs qs bounds a _ are.
    let κ = κs.0 in let q = qs.0 in
    let h = a.0.now in let start = a.1.0 in let len = a.1.1.0 in let bytes = h.bytes in
    let fits_len : len < 2 ^ 64 = are.1.1.0.1 in
    let y : W.Ghost = ((κs, qs, bounds, a, (shr_vals a.0, (start_vals start, (uint_vals w64 len, tt)))), tt) in
    let Asked : Type 0 = (start.ptr ≡ h.at) × (length bytes ≡ len) in
    qed 𝓛 (((‵ (flft κ q) ⊛ ‵ ftrue) ⊛ ‵ (owns (ShrRef (named 0) κ R ∷ B ∷ usize ∷ []) a y.0.4)) ∷ raw (fact 𝓤 Asked) ∷ []) ∵
    move ! (1 ∷ []) $ heard ! Asked (λ asked. split ! $ split ! $ move ! (2 ∷ []) $ fsplit ! $ fsplit ! $ keep ! (1 ∷ 3 ∷ []) $
    enter ! _ _ _ _ _ $ alloc_all ! (λ l. pass_all ! refl ((tt, tt), (word_typed start.ptr, ((tt, record { fits = fits_len }), tt))) $
    unhide ! $ fsplit ! $ drop ! $
    in_a_block ! h.at (λ p. bytes_lent p bytes h.spare κ) (id⊢ 𝓤 (never 𝓤)) (λ b o e. fsplit ! $ flt_l ! (λ small. hide ! $
    -- [what a reader sees, hidden; the token; ..]
    take_at ! 2 $ rewrite ! 0 (λ (p : Ptr). ‵ (fat full_share (lone B.mir) (l 2) 0 (word p))) (asked.0 ∙ e) refl $ give_at ! 2 $
    first ! $ blocks ! $
    sets_last ! (agg ! (and_then ! (get_in ! (fld ! refl (stop !)) (sub ! 0 refl (whole !))) (and_then ! (get ! refl) (no_more !)))) refl (tt, (tt, (record { fits = fits_len }, tt))) $
    exec ! 𝓣.C 𝓣.Λ (env code.Mir.locals l) (after 1 (code.function).body) (at_ret _ (W.post y)) $
    sets ! (of_opd ! (get ! refl)) refl (tt, (tt, (record { fits = fits_len }, tt))) $
    let v : Val = slice_val (b, o) len in let r : Bor (List ℕ) = record { ref_ptr = (b, o); now = bytes } in
    flt_i ! (length bytes * 1) (2 ^ 63) (omega arith) $ flt_i ! (length bytes) (2 ^ 64) (omega arith) $ fjoin ! $
    feq_i ! (List Val) (v ∷ []) (slice_val (b, o) (length bytes) ∷ []) (ap (λ (k : ℕ). slice_val (b, o) k ∷ []) (sym asked.1)) $ fjoin ! $ fjoin ! $
    returns ! (look_at ! 0 refl) $ free_all ! refl $
    suffices ! _ (ends_at 𝓛 f.ended stayed c y v r (tt, (tt, (tt, tt))) (tt, (tt, (tt, tt)))) $ says ! refl $
    nothing ! $ move ! (2 ∷ 0 ∷ []) $ join ! $ frame ! $
    nothing ! $ nothing ! $ join ! $ nothing ! $ join ! $ nothing ! $ join ! $ done !)))))
