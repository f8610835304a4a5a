use Rattle.std.proofs.Common.{◌≡◌, ◌∷◌, ◌∙◌, ap, drop}
use Rattle.host_lexer.proofs.Quoted.{first_two, matched, byte_piece, no_byte, unit_piece, no_unit}
use Rattle.host_lexer.proofs.texts.escape.Goals as goal

pub returns-in-x : goal.returns-in-x
returns-in-x c = λ q.
    let e : c.args.chars.now ≡ 92 ∷ 120 ∷ drop 2 c.args.chars.now =
    first_two c.args.chars.now c.index-chars-1.result c.requires c.if-chars-lt2.false c.index-chars-1.is ∙ ap (λ y. 92 ∷ y ∷ drop 2 c.args.chars.now) c.in-x.is in
    matched c.fixed.result _ _ _ _ (no_byte q c.args.chars.now e) (λ p h. byte_piece q c.args.chars.now p.len p.code e h.0 h.1) c.fixed.ensures

pub returns-in-u-2 : goal.returns-in-u-2
returns-in-u-2 c = λ q.
    let e : c.args.chars.now ≡ 92 ∷ 117 ∷ drop 2 c.args.chars.now =
    first_two c.args.chars.now c.index-chars-1.result c.requires c.if-chars-lt2.false c.index-chars-1.is ∙ ap (λ y. 92 ∷ y ∷ drop 2 c.args.chars.now) c.in-u.is in
    matched c.fixed-in-u-2.result _ _ _ _ (no_unit q c.args.chars.now e (λ f. c.if-next-eq123.false (c.char_or_null-next.ensures ∙ f)))
    (λ p h. unit_piece q c.args.chars.now p.len p.code e h.0 h.1) c.fixed-in-u-2.ensures
