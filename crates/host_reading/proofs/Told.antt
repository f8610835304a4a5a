-- What is told of bytes, and that nothing else is what they are read as.
use Rattle.std.specs.Prelude.{◌≡◌, ℕ, List, length, Result, Ok, Err, IfOk}
use Rattle.std.specs.Str.{IsUtf8, IsValidUpTo}
use Rattle.std.specs.declared.alloc.AllocError.{AllocError}
use Rattle.std.proofs.Common.{sym, ◌∙◌, ap, subst, inl, inr}
use Rattle.std.proofs.Math.Seq.{take-length}
use Rattle.std.proofs.lemmas.Str.{utf8_valid_len-IsValidUpTo}
use Rattle.host_lexer.specs.declared.token.Token.{Token}
use Rattle.host_lexer.specs.Tokens.{Reading, tokens, bad_token, number_outside, IsRead}
use Rattle.host_grammar.specs.Refusals.{IsParsed, early}
use Rattle.host_reading.specs.declared.reading.Read.{Read}
use Rattle.host_reading.specs.declared.reading.Read.TheVariants as answers
use Rattle.host_reading.specs.declared.refusal.Refusal.TheVariants as reasons
use Rattle.host_reading.specs.Reads.{Answers, Reads, ReadsText}

-- a name that is declared again
pub told_twice : (ts : List Token) (len place : ℕ) (name said : List ℕ) (r : Result Read AllocError) → IsParsed ts len (early place name) → said ≡ name
    → IfOk r (λ a. a ≡ answers.Refused (reasons.DeclaredTwice said place)) → IfOk r (λ a. Answers (tokens ts) len a)
told_twice ts len place name said (Ok a) h e q = (early place name, h, q ∙ ap (λ n. answers.Refused (reasons.DeclaredTwice n place)) e)
told_twice ts len place name said (Err x) h e q = tt

-- a text that is split is answered so, and not otherwise
pub text_only : (bytes : List ℕ) (reading : Reading) (r : Result Read AllocError) → ((other : Reading) → IsRead bytes other → reading ≡ other)
    → ((a : Read) → Answers reading (length bytes) a → IfOk r (λ t. t ≡ a)) → (a : Read) → ReadsText bytes a → IfOk r (λ t. t ≡ a)
text_only bytes reading r one only a (other, h, k) = only a (subst (λ x. Answers x (length bytes) a) (sym (one other h)) k)

pub bad_only : (bytes : List ℕ) (place : ℕ) → ((other : Reading) → IsRead bytes other → bad_token place ≡ other) → (a : Read) → ReadsText bytes a → answers.Refused (reasons.BadToken place) ≡ a
bad_only bytes place one a (other, h, k) = sym (subst (λ x. Answers x (length bytes) a) (sym (one other h)) k)

pub outside_only : (bytes : List ℕ) (place : ℕ) → ((other : Reading) → IsRead bytes other → number_outside place ≡ other) → (a : Read) → ReadsText bytes a
    → answers.Refused (reasons.NumberOutside place) ≡ a
outside_only bytes place one a (other, h, k) = sym (subst (λ x. Answers x (length bytes) a) (sym (one other h)) k)

-- bytes are a text, or stop being one at one place
pub no_text : (bytes : List ℕ) (place : ℕ) → IsUtf8 bytes → IsValidUpTo bytes place → ⊥
no_text bytes place u v = v.longest (length bytes) v.short (subst IsUtf8 (sym (take-length bytes)) u)

pub same_place : (bytes : List ℕ) (p q : ℕ) → IsValidUpTo bytes p → IsValidUpTo bytes q → p ≡ q
same_place bytes p q v w = sym (utf8_valid_len-IsValidUpTo bytes p v) ∙ utf8_valid_len-IsValidUpTo bytes q w

pub script_only : (bytes text : List ℕ) (r : Result Read AllocError) → text ≡ bytes → IsUtf8 bytes → ((a : Read) → ReadsText text a → IfOk r (λ t. t ≡ a)) → (a : Read) → Reads bytes a → IfOk r (λ t. t ≡ a)
script_only bytes text r e u only a (inl (place, v, q)) = absurd (no_text bytes place u v)
script_only bytes text r e u only a (inr (k, h)) = only a (subst (λ b. ReadsText b a) (sym e) h)

pub refused_only : (bytes : List ℕ) (place : ℕ) → IsValidUpTo bytes place → (a : Read) → Reads bytes a → answers.Refused (reasons.NotUtf8 place) ≡ a
refused_only bytes place v a (inl (other, w, q)) = ap (λ p. answers.Refused (reasons.NotUtf8 p)) (same_place bytes place other v w) ∙ sym q
refused_only bytes place v a (inr (k, h)) = absurd (no_text bytes place k v)
