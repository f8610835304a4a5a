-- The names that the proofs by hand cite.
pub use Rattle.std.proofs.Common.{◌≡◌, ℕ, suc, ◌+◌, ◌-◌, ◌*◌, ◌^◌, ◌<◌, ◌≤◌, List, [], ◌∷◌, ◌++◌, length, refl, sym, ap, subst, ◌∙◌, arith, lit<, length-append, w8, w64, MutBor}
pub use Rattle.std.proofs.raw_atomic.Walks.{proved}
pub use Rattle.std.proofs.alloc.Shapes.{after, head, arm_body}
pub use seplogic.Ra.Ura.{Ura}
pub use base.Fraction.{full_share}
pub use base.Logic.{SProp, ent, sep, never, id⊢}
pub use base.Fml.{Lft, GName, Share, Fml, ftrue, fsep, fat, froom, flft}
pub use mir.Syntax.{ty_int, named}
pub use mir.Val.{Val, vunit, vint}
pub use prog.Wp.{Env}
pub use contract.Monad.{fact}
pub use contract.Running.{tables}
pub use types.Logic.{Logic, sem}
pub use types.SemTy.{cells}
pub use types.Kit.{‵, raw, ◌⊛◌, some, later, given, at_ret, ◌$◌, ◌∵◌, !, qed, by, done, move, keep, drop, use0, use1, use2, use3, split, join, fsplit, fsplit3, fjoin, fjoin3, fpack, feq_i, flt_i, flt_l, pick, learn, await, rewrite, suffices, frame, group}
pub use types.Part.{whole, sub, agg}
pub use types.Run.{enter, of_opd, lit, unit_lit, bin, init, stop, fld, no_more, and_then, assigns_last, first, blocks, switches_on, exec, returns}
pub use types.ByLocal.{alloc_all, pass_all, free_all, look_at, get, get_in, get_tag, through, sets, sets_last, lands_as, lands_last, take_at, give_at, is, env}
pub use denote.Builtin.{u8, usize, RefOf}
pub use denote.Array.{Array}
pub use denote.Exit.{yes, no}
pub use denote.Follow.{follows}
pub use denote.FollowSlice.{Elements, lends_Elements}
pub use denote.Memory.{mem, part_at, cell_at, lone}
pub use denote.Plain.{uint_in, uint_out, uint_vals, uint_Tells}
pub use denote.RattleType.{RattleType, owns}
pub use denote.RawPtr.{Ptr, block_ptr, in_a_block}
pub use denote.Opens.{hide, unhide}
pub use denote.Ref.{Bor, MutRef, mut_vals, mut_Tells, ShrRef, shr_vals, shr_Tells}
pub use denote.Signature.{plain, mut_ref_to}
pub use denote.Slice.{MutSlice, slice_val}
pub use denote.Steps.{nothing, opens, closes, heard}
pub use denote.Triple.Walked.{Stays, walk_of, says, stay_dropped, Goes-dropped, stay_ref, Goes-ref, Goes-spent_ref, ends_at}
