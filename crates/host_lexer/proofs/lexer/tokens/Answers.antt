use Rattle.std.proofs.Common.{◌≡◌, ◌∙◌, ap, subst, length, All, IfSome, encode_utf8_all}
use Rattle.host_lexer.specs.Tokens.{IsRead, InOrder, told}
use Rattle.host_lexer.proofs.Reached.{told_one}
use Rattle.host_lexer.proofs.Ordered.{IsSpelled, in_order, are_spelled, answered}
use Rattle.host_lexer.proofs.lexer.tokens.Goals as goal

pub returns-clause-only : goal.returns-clause-only
returns-clause-only c =
    let e : encode_utf8_all c.as_slice.result.now ≡ c.args.text.now = ap encode_utf8_all c.as_slice.ensures.value ∙ c.in_ok-chars.ensures in
    told_one c.args.text.now (told c.tokens_of.result) (subst (λ y. IfSome (told c.tokens_of.result) (IsRead y)) e c.tokens_of.ensures)

pub returns-clause-spans : goal.returns-clause-spans
returns-clause-spans c =
    let e : encode_utf8_all c.as_slice.result.now ≡ c.args.text.now = ap encode_utf8_all c.as_slice.ensures.value ∙ c.in_ok-chars.ensures in
    answered c.args.text.now (InOrder 0 (length c.args.text.now)) c.tokens_of.result (subst (λ y. IfSome (told c.tokens_of.result) (IsRead y)) e c.tokens_of.ensures) (in_order c.args.text.now)

pub returns-clause-spelled : goal.returns-clause-spelled
returns-clause-spelled c =
    let e : encode_utf8_all c.as_slice.result.now ≡ c.args.text.now = ap encode_utf8_all c.as_slice.ensures.value ∙ c.in_ok-chars.ensures in
    answered c.args.text.now (All (IsSpelled c.args.text.now)) c.tokens_of.result (subst (λ y. IfSome (told c.tokens_of.result) (IsRead y)) e c.tokens_of.ensures) (are_spelled c.args.text.now)
