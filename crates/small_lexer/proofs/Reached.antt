-- How far a reader has come, and what one more element adds.
use Rattle.std.specs.Prelude.{◌≡◌, ℕ, ◌+◌, ◌<◌, ◌≤◌, Bool, true, false, List, [], ◌∷◌, ◌++◌, length, Some, refl, drop}
use Rattle.std.proofs.Common.{sym, ◌∙◌, ap, subst, arith}
use Rattle.std.proofs.lemmas.List.{append_assoc, append-nil, drop_all, length-append, length-drop}
use Rattle.small_lexer.specs.declared.token.TokenKind.{TokenKind}
use Rattle.small_lexer.specs.declared.token.Token.{Token}
use Rattle.small_lexer.specs.declared.token.LexError.{LexError}
use Rattle.small_lexer.specs.declared.token.LexError.TheVariants as errors
use Rattle.small_lexer.specs.Tokens.{Element, space, line_feed, name, number, text, mark, spelling_of, spelled, EndsBefore, AreElements, tokens_from, HasTokens}
use Rattle.small_lexer.specs.Steps.{kind_of, Heads, Reads, NoElement, OnNotYet}
use Rattle.small_lexer.proofs.Fronts.{identifier, same_element, same_rest}

-- what is left of some bytes from a place on is a row of elements
pub record Rest (bytes : List ℕ) (at : ℕ) (rest : List Element) : Type 0 where
  pub spell : spelled rest ≡ drop at bytes
  pub are_elements : AreElements rest

-- up to a place these tokens were read: with those of the rest they are the text's, and each splitting of the text is so
pub record Reached (bytes : List ℕ) (at : ℕ) (after : Bool) (read : List Token) : Type 0 where
  pub found : (rest : List Element) → Rest bytes at rest → HasTokens bytes (read ++ tokens_from at after rest)
  pub only : (ts : List Token) → HasTokens bytes ts → (rest : List Element) × Rest bytes at rest × (ts ≡ read ++ tokens_from at after rest)

pub start : (bytes : List ℕ) → Reached bytes 0 false []
start bytes = record {
  found = λ rest r. record { elements = rest; spell = r.spell; are_elements = r.are_elements; are_theirs = refl };
  only = λ ts h. (h.elements, record { spell = h.spell; are_elements = h.are_elements }, sym h.are_theirs);
}

-- a place within the bytes has an element, where the bytes are a row of elements
first_of_rest : (bytes : List ℕ) (at : ℕ) (rest : List Element) → at < length bytes → Rest bytes at rest
    → (e : Element) × (es : List Element) × (rest ≡ e ∷ es) × Heads (drop at bytes) e (spelled es) × AreElements es
first_of_rest bytes at [] lt r = let q : length (drop at bytes) ≡ 0 = ap length (sym r.spell) in absurd (omega (arith, q, length-drop at bytes))
first_of_rest bytes at (e ∷ es) lt r = (e, es, refl, record { spell = r.spell; is_element = r.are_elements.0; ends = r.are_elements.1 }, r.are_elements.2)

-- one more element
pub step : (bytes : List ℕ) (at : ℕ) (after : Bool) (read : List Token) (e : Element) (to : ℕ) (then : Bool) (now : List Token)
    → at < length bytes → Heads (drop at bytes) e (drop to bytes)
    → ((rest : List Element) → read ++ tokens_from at after (e ∷ rest) ≡ now ++ tokens_from to then rest)
    → Reached bytes at after read → Reached bytes to then now
step bytes at after read e to then now lt h same r = record {
  found = λ rest g. subst (HasTokens bytes) (same rest) (r.found (e ∷ rest) (record {
    spell = ap (λ xs. spelling_of e ++ xs) g.spell ∙ h.spell;
    are_elements = (h.is_element, subst (EndsBefore e) (sym g.spell) h.ends, g.are_elements);
  }));
  only = λ ts k. on ts (r.only ts k);
}
  where
    on : (ts : List Token) → (rest : List Element) × Rest bytes at rest × (ts ≡ read ++ tokens_from at after rest)
        → (rest : List Element) × Rest bytes to rest × (ts ≡ now ++ tokens_from to then rest)
    on ts (rest, g, q) = more (first_of_rest bytes at rest lt g)
      where
        more : (d : Element) × (es : List Element) × (rest ≡ d ∷ es) × Heads (drop at bytes) d (spelled es) × AreElements es
            → (rest : List Element) × Rest bytes to rest × (ts ≡ now ++ tokens_from to then rest)
        more (d, es, is, k, all) = (
          es,
          record { spell = same_rest (drop at bytes) d e (spelled es) (drop to bytes) k h; are_elements = all },
          q ∙ rw (is, same_element (drop at bytes) d e (spelled es) (drop to bytes) k h) (same es),
        )

pub step_space : (bytes : List ℕ) (at : ℕ) (after : Bool) (read : List Token) → at < length bytes → drop at bytes ≡ 32 ∷ drop (at + 1) bytes
    → Reached bytes at after read → Reached bytes (at + 1) after read
step_space bytes at after read lt e r = step bytes at after read space (at + 1) after read lt (record { spell = sym e; is_element = tt; ends = tt }) (λ rest. refl) r

pub step_line : (bytes : List ℕ) (at : ℕ) (after : Bool) (read : List Token) → at < length bytes → drop at bytes ≡ 10 ∷ drop (at + 1) bytes
    → Reached bytes at after read → Reached bytes (at + 1) true read
step_line bytes at after read lt e r = step bytes at after read line_feed (at + 1) true read lt (record { spell = sym e; is_element = tt; ends = tt }) (λ rest. refl) r

-- the token of an element that makes one
makes_token : (at : ℕ) (after : Bool) (e : Element) (rest : List Element) (kind : TokenKind) (to : ℕ) → kind_of e ≡ Some kind → to ≡ at + length (spelling_of e)
    → tokens_from at after (e ∷ rest) ≡ (record { kind = kind; from = at; to = to; after_line = after }) ∷ tokens_from to false rest
makes_token at after space rest kind to k s = cc
makes_token at after line_feed rest kind to k s = cc
makes_token at after (name w) rest kind to k s = rw s cc
makes_token at after (number ds) rest kind to k s = rw s cc
makes_token at after (text t) rest kind to k s = let q : at + (length t + 2) ≡ to = omega (arith, length-append t (34 ∷ [])) in cc
makes_token at after (mark m) rest kind to k s = rw s cc

pub step_token : (bytes : List ℕ) (at : ℕ) (after : Bool) (read : List Token) (kind : TokenKind) (to : ℕ) → at < length bytes → Reads bytes at kind to
    → Reached bytes at after read → Reached bytes to false (read ++ (record { kind = kind; from = at; to = to; after_line = after }) ∷ [])
step_token bytes at after read kind to lt h r = step bytes at after read h.element to false (read ++ (record { kind = kind; from = at; to = to; after_line = after }) ∷ []) lt h.heads
    (λ rest. ap (λ xs. read ++ xs) (makes_token at after h.element rest kind to h.makes h.size) ∙ sym (append_assoc read ((record { kind = kind; from = at; to = to; after_line = after }) ∷ []) (tokens_from to false rest))) r

-- the end of the bytes
pub found_all : (bytes : List ℕ) (at : ℕ) (after : Bool) (read : List Token) → length bytes ≤ at → Reached bytes at after read → HasTokens bytes read
found_all bytes at after read le r = subst (HasTokens bytes) (append-nil read) (r.found [] (record { spell = sym (drop_all at bytes le); are_elements = tt }))

pub nothing_left : (es : List Element) → spelled es ≡ [] → AreElements es → es ≡ []
nothing_left [] s a = refl
nothing_left (space ∷ es) s a = cc
nothing_left (line_feed ∷ es) s a = cc
nothing_left (name [] ∷ es) s a = absurd (identifier [] a.0)
nothing_left (name (c ∷ cs) ∷ es) s a = cc
nothing_left (number [] ∷ es) s a = absurd a.0.0
nothing_left (number (d ∷ ds) ∷ es) s a = cc
nothing_left (text t ∷ es) s a = cc
nothing_left (mark m ∷ es) s a = cc

pub only_these : (bytes : List ℕ) (at : ℕ) (after : Bool) (read : List Token) → length bytes ≤ at → Reached bytes at after read
    → (ts : List Token) → HasTokens bytes ts → read ≡ ts
only_these bytes at after read le r ts h = on (r.only ts h)
  where
    on : (rest : List Element) × Rest bytes at rest × (ts ≡ read ++ tokens_from at after rest) → read ≡ ts
    on (rest, g, q) = sym (q ∙ rw (nothing_left rest (g.spell ∙ drop_all at bytes le) g.are_elements) (append-nil read))

-- where no element begins, the bytes have no tokens
pub none : (bytes : List ℕ) (at : ℕ) (after : Bool) (read : List Token) → at < length bytes → NoElement bytes at → Reached bytes at after read
    → (ts : List Token) → HasTokens bytes ts → ⊥
none bytes at after read lt never r ts h = on (r.only ts h)
  where
    on : (rest : List Element) × Rest bytes at rest × (ts ≡ read ++ tokens_from at after rest) → ⊥
    on (rest, g, q) = more (first_of_rest bytes at rest lt g)
      where
        more : (d : Element) × (es : List Element) × (rest ≡ d ∷ es) × Heads (drop at bytes) d (spelled es) × AreElements es → ⊥
        more (d, es, is, k, all) = never d (spelled es) k

pub refuses : (bytes : List ℕ) (at : ℕ) (after : Bool) (read : List Token) (e : LexError) → at < length bytes → OnNotYet e (NoElement bytes at) → Reached bytes at after read
    → (ts : List Token) → HasTokens bytes ts → e ≡ errors.NoMemory
refuses bytes at after read errors.NotYet lt never r ts h = absurd (none bytes at after read lt never r ts h)
refuses bytes at after read errors.NoMemory lt never r ts h = refl
