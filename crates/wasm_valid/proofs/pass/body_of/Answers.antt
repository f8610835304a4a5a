use Rattle.std.proofs.Common.{refl, ap, reverse}
use Rattle.wasm_valid.specs.Piles.{Pile}
use Rattle.wasm_valid.specs.Places.{frame_of}
use Rattle.wasm_valid.proofs.PlaceLaws.{same_place, start_reached, reached_on, body_untyped, body_ends}
use Rattle.wasm_valid.proofs.pass.body_of.Goals as goal

pub loop-pass-init : goal.loop-pass-init
loop-pass-init c =
    start_reached c.args.«module».now (frame_of c.args.«module».now c.args.locals.now c.args.ty) c.args.body c.args.ty _ _
    (same_place _ _ _ _ _ _ _ _ refl (ap (λ (pile : Pile). pile.own) c.new.ensures) (ap reverse c.new-2.ensures.items) (ap (λ (pile : Pile). pile.under) c.new.ensures)) refl

pub loop-pass-preserved : goal.loop-pass-preserved
loop-pass-preserved c =
    reached_on c.args.«module».now (frame_of c.args.«module».now c.args.locals.now c.args.ty) _ _ _ c.loop-pass.pass.highest c.step.new.self.highest c.loop-pass.invariant
    (rw c.in-Went.is at c.in_ok-step.ensures.moves)

pub returns-in-Untyped : goal.returns-in-Untyped
returns-in-Untyped c =
    body_untyped c.args.«module».now (frame_of c.args.«module».now c.args.locals.now c.args.ty) c.args.body c.args.ty _ c.loop-pass.pass.highest c.loop-pass.invariant
    (rw c.in-Untyped.is at c.in_ok-step.ensures.moves)

pub returns-in-Ended : goal.returns-in-Ended
returns-in-Ended c =
    let ended = rw c.in-Ended.is at c.in_ok-step.ensures.moves in
    body_ends c.args.«module».now (frame_of c.args.«module».now c.args.locals.now c.args.ty) c.args.body c.args.ty _ c.loop-pass.pass.highest c.step.new.self.highest c.loop-pass.invariant
    ended.0 ended.1
