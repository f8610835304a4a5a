-- Words and marks by their spellings.
use Rattle.std.specs.Prelude.{◌≡◌, ℕ, ◌<◌, ◌≤◌, Bool, true, false, cond, ◌&&◌, ◌==◌, List, [], ◌∷◌, ◌++◌, length, codes, All, Option, Some, None, nat_lt, encode_utf8_all, refl}
use Rattle.std.specs.List.{list_all}
use Rattle.std.specs.Str.{bytes_eq}
use Rattle.std.proofs.Common.{sym, ◌∙◌, ap, subst, arith, get_or, lit≤}
use Rattle.std.proofs.lemmas.Bool.Decides.{nat_tests}
use Rattle.std.proofs.lemmas.List.Elements.{All-nil, All-cons, All-weaker}
use Rattle.std.proofs.lemmas.Str.Ascii.{encodes-IsAscii, IsAscii-from_all}
use Rattle.unicode_ident.proofs.Computing.{unicode_ident}
use Rattle.host_lexer.specs.declared.token.Word.{Word}
use Rattle.host_lexer.specs.declared.token.Word.TheVariants as words
use Rattle.host_lexer.specs.declared.token.Mark.{Mark}
use Rattle.host_lexer.specs.declared.token.Mark.TheVariants as marks
use Rattle.host_lexer.specs.Characters.{is_name_start, is_name_part}
use Rattle.host_lexer.specs.Spellings.{word_chars, mark_chars}
use Rattle.host_lexer.specs.Steps.{mark_front, IsSpelt}
use Rattle.host_lexer.specs.Tokens.{IsIdentifier, IsLongest}

-- the word that is spelt so
abbrev pub word_from : List ℕ → Option Word
word_from xs =
    cond (bytes_eq xs (codes "arguments")) (Some words.Arguments) (
    cond (bytes_eq xs (codes "await")) (Some words.Await) (
    cond (bytes_eq xs (codes "break")) (Some words.Break) (
    cond (bytes_eq xs (codes "case")) (Some words.Case) (
    cond (bytes_eq xs (codes "catch")) (Some words.Catch) (
    cond (bytes_eq xs (codes "class")) (Some words.Class) (
    cond (bytes_eq xs (codes "const")) (Some words.Const) (
    cond (bytes_eq xs (codes "continue")) (Some words.Continue) (
    cond (bytes_eq xs (codes "debugger")) (Some words.Debugger) (
    cond (bytes_eq xs (codes "default")) (Some words.Default) (
    cond (bytes_eq xs (codes "delete")) (Some words.Delete) (
    cond (bytes_eq xs (codes "do")) (Some words.Do) (
    cond (bytes_eq xs (codes "else")) (Some words.Else) (
    cond (bytes_eq xs (codes "enum")) (Some words.Enum) (
    cond (bytes_eq xs (codes "eval")) (Some words.Eval) (
    cond (bytes_eq xs (codes "export")) (Some words.Export) (
    cond (bytes_eq xs (codes "extends")) (Some words.Extends) (
    cond (bytes_eq xs (codes "false")) (Some words.False) (
    cond (bytes_eq xs (codes "finally")) (Some words.Finally) (
    cond (bytes_eq xs (codes "for")) (Some words.For) (
    cond (bytes_eq xs (codes "function")) (Some words.Function) (
    cond (bytes_eq xs (codes "if")) (Some words.If) (
    cond (bytes_eq xs (codes "implements")) (Some words.Implements) (
    cond (bytes_eq xs (codes "import")) (Some words.Import) (
    cond (bytes_eq xs (codes "in")) (Some words.In) (
    cond (bytes_eq xs (codes "instanceof")) (Some words.InstanceOf) (
    cond (bytes_eq xs (codes "interface")) (Some words.Interface) (
    cond (bytes_eq xs (codes "let")) (Some words.Let) (
    cond (bytes_eq xs (codes "new")) (Some words.New) (
    cond (bytes_eq xs (codes "null")) (Some words.Null) (
    cond (bytes_eq xs (codes "package")) (Some words.Package) (
    cond (bytes_eq xs (codes "private")) (Some words.Private) (
    cond (bytes_eq xs (codes "protected")) (Some words.Protected) (
    cond (bytes_eq xs (codes "public")) (Some words.Public) (
    cond (bytes_eq xs (codes "return")) (Some words.Return) (
    cond (bytes_eq xs (codes "static")) (Some words.Static) (
    cond (bytes_eq xs (codes "super")) (Some words.Super) (
    cond (bytes_eq xs (codes "switch")) (Some words.Switch) (
    cond (bytes_eq xs (codes "this")) (Some words.This) (
    cond (bytes_eq xs (codes "throw")) (Some words.Throw) (
    cond (bytes_eq xs (codes "true")) (Some words.True) (
    cond (bytes_eq xs (codes "try")) (Some words.Try) (
    cond (bytes_eq xs (codes "typeof")) (Some words.TypeOf) (
    cond (bytes_eq xs (codes "undefined")) (Some words.Undefined) (
    cond (bytes_eq xs (codes "var")) (Some words.Var) (
    cond (bytes_eq xs (codes "void")) (Some words.Void) (
    cond (bytes_eq xs (codes "while")) (Some words.While) (
    cond (bytes_eq xs (codes "with")) (Some words.With) (
    cond (bytes_eq xs (codes "yield")) (Some words.Yield) (
    None)))))))))))))))))))))))))))))))))))))))))))))))))

word_from_is : (w : Word) → word_from (word_chars w) ≡ Some w
word_from_is words.Arguments = refl
word_from_is words.Await = refl
word_from_is words.Break = refl
word_from_is words.Case = refl
word_from_is words.Catch = refl
word_from_is words.Class = refl
word_from_is words.Const = refl
word_from_is words.Continue = refl
word_from_is words.Debugger = refl
word_from_is words.Default = refl
word_from_is words.Delete = refl
word_from_is words.Do = refl
word_from_is words.Else = refl
word_from_is words.Enum = refl
word_from_is words.Eval = refl
word_from_is words.Export = refl
word_from_is words.Extends = refl
word_from_is words.False = refl
word_from_is words.Finally = refl
word_from_is words.For = refl
word_from_is words.Function = refl
word_from_is words.If = refl
word_from_is words.Implements = refl
word_from_is words.Import = refl
word_from_is words.In = refl
word_from_is words.InstanceOf = refl
word_from_is words.Interface = refl
word_from_is words.Let = refl
word_from_is words.New = refl
word_from_is words.Null = refl
word_from_is words.Package = refl
word_from_is words.Private = refl
word_from_is words.Protected = refl
word_from_is words.Public = refl
word_from_is words.Return = refl
word_from_is words.Static = refl
word_from_is words.Super = refl
word_from_is words.Switch = refl
word_from_is words.This = refl
word_from_is words.Throw = refl
word_from_is words.True = refl
word_from_is words.Try = refl
word_from_is words.TypeOf = refl
word_from_is words.Undefined = refl
word_from_is words.Var = refl
word_from_is words.Void = refl
word_from_is words.While = refl
word_from_is words.With = refl
word_from_is words.Yield = refl

pub same_word : (v w : Word) → word_chars v ≡ word_chars w → v ≡ w
same_word v w e = let p = word_from_is v in let q = word_from_is w in let r = ap word_from e in cc

-- a word is spelt as a name is
all_pass : (p : ℕ → Bool) (xs : List ℕ) → list_all p xs ≡ true → All (λ c. p c ≡ true) xs
all_pass p [] h = All-nil (λ c. p c ≡ true)
all_pass p (c ∷ cs) h = on (p c) refl h (all_pass p cs)
  where
    on : (b : Bool) → p c ≡ b → (b && list_all p cs) ≡ true → (list_all p cs ≡ true → All (λ c. p c ≡ true) cs) → All (λ c. p c ≡ true) (c ∷ cs)
    on true e h ih = All-cons (λ c. p c ≡ true) c cs e (ih h)
    on false e h ih = cc

both : (a b : Bool) → (a && b) ≡ true → (a ≡ true) × (b ≡ true)
both true b h = (refl, h)
both false b h = cc

abbrev pub is_identifier : List ℕ → Bool
is_identifier [] = false
is_identifier (c ∷ cs) = is_name_start c && list_all is_name_part cs

identifier_passes : (w : List ℕ) → is_identifier w ≡ true → IsIdentifier w
identifier_passes [] h = cc
identifier_passes (c ∷ cs) h = let p = both (is_name_start c) (list_all is_name_part cs) h in (p.0, all_pass is_name_part cs p.1)

are_identifiers : (w : Word) → is_identifier (word_chars w) ≡ true
unfolding unicode_ident
are_identifiers words.Arguments = refl
are_identifiers words.Await = refl
are_identifiers words.Break = refl
are_identifiers words.Case = refl
are_identifiers words.Catch = refl
are_identifiers words.Class = refl
are_identifiers words.Const = refl
are_identifiers words.Continue = refl
are_identifiers words.Debugger = refl
are_identifiers words.Default = refl
are_identifiers words.Delete = refl
are_identifiers words.Do = refl
are_identifiers words.Else = refl
are_identifiers words.Enum = refl
are_identifiers words.Eval = refl
are_identifiers words.Export = refl
are_identifiers words.Extends = refl
are_identifiers words.False = refl
are_identifiers words.Finally = refl
are_identifiers words.For = refl
are_identifiers words.Function = refl
are_identifiers words.If = refl
are_identifiers words.Implements = refl
are_identifiers words.Import = refl
are_identifiers words.In = refl
are_identifiers words.InstanceOf = refl
are_identifiers words.Interface = refl
are_identifiers words.Let = refl
are_identifiers words.New = refl
are_identifiers words.Null = refl
are_identifiers words.Package = refl
are_identifiers words.Private = refl
are_identifiers words.Protected = refl
are_identifiers words.Public = refl
are_identifiers words.Return = refl
are_identifiers words.Static = refl
are_identifiers words.Super = refl
are_identifiers words.Switch = refl
are_identifiers words.This = refl
are_identifiers words.Throw = refl
are_identifiers words.True = refl
are_identifiers words.Try = refl
are_identifiers words.TypeOf = refl
are_identifiers words.Undefined = refl
are_identifiers words.Var = refl
are_identifiers words.Void = refl
are_identifiers words.While = refl
are_identifiers words.With = refl
are_identifiers words.Yield = refl

pub word_identifier : (w : Word) → IsIdentifier (word_chars w)
word_identifier w = identifier_passes (word_chars w) (are_identifiers w)

are_ascii : (w : Word) → list_all (λ c. nat_lt c 128) (word_chars w) ≡ true
are_ascii words.Arguments = refl
are_ascii words.Await = refl
are_ascii words.Break = refl
are_ascii words.Case = refl
are_ascii words.Catch = refl
are_ascii words.Class = refl
are_ascii words.Const = refl
are_ascii words.Continue = refl
are_ascii words.Debugger = refl
are_ascii words.Default = refl
are_ascii words.Delete = refl
are_ascii words.Do = refl
are_ascii words.Else = refl
are_ascii words.Enum = refl
are_ascii words.Eval = refl
are_ascii words.Export = refl
are_ascii words.Extends = refl
are_ascii words.False = refl
are_ascii words.Finally = refl
are_ascii words.For = refl
are_ascii words.Function = refl
are_ascii words.If = refl
are_ascii words.Implements = refl
are_ascii words.Import = refl
are_ascii words.In = refl
are_ascii words.InstanceOf = refl
are_ascii words.Interface = refl
are_ascii words.Let = refl
are_ascii words.New = refl
are_ascii words.Null = refl
are_ascii words.Package = refl
are_ascii words.Private = refl
are_ascii words.Protected = refl
are_ascii words.Public = refl
are_ascii words.Return = refl
are_ascii words.Static = refl
are_ascii words.Super = refl
are_ascii words.Switch = refl
are_ascii words.This = refl
are_ascii words.Throw = refl
are_ascii words.True = refl
are_ascii words.Try = refl
are_ascii words.TypeOf = refl
are_ascii words.Undefined = refl
are_ascii words.Var = refl
are_ascii words.Void = refl
are_ascii words.While = refl
are_ascii words.With = refl
are_ascii words.Yield = refl

ascii_all : (xs : List ℕ) → All (λ c. nat_lt c 128 ≡ true) xs → All (λ c. c < 128) xs
ascii_all xs h = All-weaker (λ c. nat_lt c 128 ≡ true) (λ c. c < 128) (λ c e. grind (arith, nat_tests)) xs h

-- a word's characters are its bytes
pub word_bytes : (w : Word) → encode_utf8_all (word_chars w) ≡ word_chars w
word_bytes w = encodes-IsAscii (word_chars w) (IsAscii-from_all (word_chars w) (ascii_all (word_chars w) (all_pass (λ c. nat_lt c 128) (word_chars w) (are_ascii w))))

-- the mark that begins some characters
abbrev pub mark_at : List ℕ → Option Mark
mark_at xs = mark_front (get_or xs 0 0) (get_or xs 1 0) (get_or xs 2 0)

-- whether what follows a mark makes a longer one of it
abbrev pub goes_on : Mark → List ℕ → Bool
goes_on marks.Less rest = get_or rest 0 0 == 61
goes_on marks.Greater rest = get_or rest 0 0 == 61
goes_on marks.Equals rest = (get_or rest 0 0 == 61) && (get_or rest 1 0 == 61)
goes_on marks.Not rest = (get_or rest 0 0 == 61) && (get_or rest 1 0 == 61)
goes_on marks.Plus rest = get_or rest 0 0 == 43
goes_on marks.Minus rest = get_or rest 0 0 == 45
goes_on _ rest = false

-- the first of some characters is no 0
pub first_is : (rest : List ℕ) (k : ℕ) → (0 == k) ≡ false → (get_or rest 0 0 == k) ≡ true → (more : List ℕ) × (k ∷ more ≡ rest)
first_is [] k z h = cc
first_is (c ∷ cs) k z h = let e : c ≡ k = grind (arith, nat_tests) in (cs, ap (λ x. x ∷ cs) (sym e))

not_both : (a b : Bool) → (a ≡ true → b ≡ true → ⊥) → (a && b) ≡ false
not_both true true h = absurd (h refl refl)
not_both true false h = refl
not_both false b h = refl

not_true : (a : Bool) → (a ≡ true → ⊥) → a ≡ false
not_true true h = absurd (h refl)
not_true false h = refl

-- what follows the longest mark makes no longer one of it
pub longest_stops : (m : Mark) (rest : List ℕ) → IsLongest m rest → goes_on m rest ≡ false
longest_stops marks.Less rest h = not_true (get_or rest 0 0 == 61) (λ t. let p = first_is rest 61 refl t in let q : 2 ≤ 1 = h marks.LessEquals p.0 (ap (λ xs. 60 ∷ xs) p.1) in absurd (omega (arith, q)))
longest_stops marks.Greater rest h = not_true (get_or rest 0 0 == 61) (λ t. let p = first_is rest 61 refl t in let q : 2 ≤ 1 = h marks.GreaterEquals p.0 (ap (λ xs. 62 ∷ xs) p.1) in absurd (omega (arith, q)))
longest_stops marks.Plus rest h = not_true (get_or rest 0 0 == 43) (λ t. let p = first_is rest 43 refl t in let q : 2 ≤ 1 = h marks.Increment p.0 (ap (λ xs. 43 ∷ xs) p.1) in absurd (omega (arith, q)))
longest_stops marks.Minus rest h = not_true (get_or rest 0 0 == 45) (λ t. let p = first_is rest 45 refl t in let q : 2 ≤ 1 = h marks.Decrement p.0 (ap (λ xs. 45 ∷ xs) p.1) in absurd (omega (arith, q)))
longest_stops marks.Equals rest h = not_both (get_or rest 0 0 == 61) (get_or rest 1 0 == 61) (λ t u. let p = first_is rest 61 refl t in
    let v : (get_or p.0 0 0 == 61) ≡ true = rw (sym p.1) at u in let r = first_is p.0 61 refl v in
    let q : 3 ≤ 1 = h marks.StrictEquals r.0 (ap (λ xs. 61 ∷ 61 ∷ xs) r.1 ∙ ap (λ xs. 61 ∷ xs) p.1) in absurd (omega (arith, q)))
longest_stops marks.Not rest h = not_both (get_or rest 0 0 == 61) (get_or rest 1 0 == 61) (λ t u. let p = first_is rest 61 refl t in
    let v : (get_or p.0 0 0 == 61) ≡ true = rw (sym p.1) at u in let r = first_is p.0 61 refl v in
    let q : 3 ≤ 1 = h marks.StrictNotEquals r.0 (ap (λ xs. 33 ∷ 61 ∷ xs) r.1 ∙ ap (λ xs. 33 ∷ xs) p.1) in absurd (omega (arith, q)))
longest_stops marks.StrictEquals rest h = refl
longest_stops marks.StrictNotEquals rest h = refl
longest_stops marks.LessEquals rest h = refl
longest_stops marks.GreaterEquals rest h = refl
longest_stops marks.And rest h = refl
longest_stops marks.Or rest h = refl
longest_stops marks.Increment rest h = refl
longest_stops marks.Decrement rest h = refl
longest_stops marks.OpenBrace rest h = refl
longest_stops marks.CloseBrace rest h = refl
longest_stops marks.OpenParen rest h = refl
longest_stops marks.CloseParen rest h = refl
longest_stops marks.OpenBracket rest h = refl
longest_stops marks.CloseBracket rest h = refl
longest_stops marks.Dot rest h = refl
longest_stops marks.Semicolon rest h = refl
longest_stops marks.Comma rest h = refl
longest_stops marks.Colon rest h = refl
longest_stops marks.Star rest h = refl
longest_stops marks.Slash rest h = refl
longest_stops marks.Percent rest h = refl

-- a mark that isn't gone on with is the one that begins its characters
pub mark_at_is : (m : Mark) (rest : List ℕ) → goes_on m rest ≡ false → mark_at (mark_chars m ++ rest) ≡ Some m
mark_at_is marks.StrictEquals rest h = refl
mark_at_is marks.StrictNotEquals rest h = refl
mark_at_is marks.LessEquals rest h = refl
mark_at_is marks.GreaterEquals rest h = refl
mark_at_is marks.And rest h = refl
mark_at_is marks.Or rest h = refl
mark_at_is marks.Increment rest h = refl
mark_at_is marks.Decrement rest h = refl
mark_at_is marks.OpenBrace rest h = refl
mark_at_is marks.CloseBrace rest h = refl
mark_at_is marks.OpenParen rest h = refl
mark_at_is marks.CloseParen rest h = refl
mark_at_is marks.OpenBracket rest h = refl
mark_at_is marks.CloseBracket rest h = refl
mark_at_is marks.Dot rest h = refl
mark_at_is marks.Semicolon rest h = refl
mark_at_is marks.Comma rest h = refl
mark_at_is marks.Colon rest h = refl
mark_at_is marks.Less rest h = ap (λ b. Some (cond b marks.LessEquals marks.Less)) h
mark_at_is marks.Greater rest h = ap (λ b. Some (cond b marks.GreaterEquals marks.Greater)) h
mark_at_is marks.Equals rest h = ap (λ b. Some (cond b marks.StrictEquals marks.Equals)) h
mark_at_is marks.Plus rest h = ap (λ b. Some (cond b marks.Increment marks.Plus)) h
mark_at_is marks.Minus rest h = ap (λ b. Some (cond b marks.Decrement marks.Minus)) h
mark_at_is marks.Star rest h = refl
mark_at_is marks.Slash rest h = refl
mark_at_is marks.Percent rest h = refl
mark_at_is marks.Not rest h = ap (λ b. Some (cond b marks.StrictNotEquals marks.Not)) h

pub one_at_least : (m : Mark) → 1 ≤ length (mark_chars m)
one_at_least marks.StrictEquals = lit≤ tt
one_at_least marks.StrictNotEquals = lit≤ tt
one_at_least marks.LessEquals = lit≤ tt
one_at_least marks.GreaterEquals = lit≤ tt
one_at_least marks.And = lit≤ tt
one_at_least marks.Or = lit≤ tt
one_at_least marks.Increment = lit≤ tt
one_at_least marks.Decrement = lit≤ tt
one_at_least marks.OpenBrace = lit≤ tt
one_at_least marks.CloseBrace = lit≤ tt
one_at_least marks.OpenParen = lit≤ tt
one_at_least marks.CloseParen = lit≤ tt
one_at_least marks.OpenBracket = lit≤ tt
one_at_least marks.CloseBracket = lit≤ tt
one_at_least marks.Dot = lit≤ tt
one_at_least marks.Semicolon = lit≤ tt
one_at_least marks.Comma = lit≤ tt
one_at_least marks.Colon = lit≤ tt
one_at_least marks.Less = lit≤ tt
one_at_least marks.Greater = lit≤ tt
one_at_least marks.Equals = lit≤ tt
one_at_least marks.Plus = lit≤ tt
one_at_least marks.Minus = lit≤ tt
one_at_least marks.Star = lit≤ tt
one_at_least marks.Slash = lit≤ tt
one_at_least marks.Percent = lit≤ tt
one_at_least marks.Not = lit≤ tt

no_longer : (n m : Mark) (more : List ℕ) → mark_at (mark_chars n ++ more) ≡ Some m → length (mark_chars n) ≤ length (mark_chars m)
no_longer marks.StrictEquals m more e = let q : marks.StrictEquals ≡ m = cc in subst (λ x. 3 ≤ length (mark_chars x)) q (lit≤ tt)
no_longer marks.StrictNotEquals m more e = let q : marks.StrictNotEquals ≡ m = cc in subst (λ x. 3 ≤ length (mark_chars x)) q (lit≤ tt)
no_longer marks.LessEquals m more e = let q : marks.LessEquals ≡ m = cc in subst (λ x. 2 ≤ length (mark_chars x)) q (lit≤ tt)
no_longer marks.GreaterEquals m more e = let q : marks.GreaterEquals ≡ m = cc in subst (λ x. 2 ≤ length (mark_chars x)) q (lit≤ tt)
no_longer marks.And m more e = let q : marks.And ≡ m = cc in subst (λ x. 2 ≤ length (mark_chars x)) q (lit≤ tt)
no_longer marks.Or m more e = let q : marks.Or ≡ m = cc in subst (λ x. 2 ≤ length (mark_chars x)) q (lit≤ tt)
no_longer marks.Increment m more e = let q : marks.Increment ≡ m = cc in subst (λ x. 2 ≤ length (mark_chars x)) q (lit≤ tt)
no_longer marks.Decrement m more e = let q : marks.Decrement ≡ m = cc in subst (λ x. 2 ≤ length (mark_chars x)) q (lit≤ tt)
no_longer marks.OpenBrace m more e = one_at_least m
no_longer marks.CloseBrace m more e = one_at_least m
no_longer marks.OpenParen m more e = one_at_least m
no_longer marks.CloseParen m more e = one_at_least m
no_longer marks.OpenBracket m more e = one_at_least m
no_longer marks.CloseBracket m more e = one_at_least m
no_longer marks.Dot m more e = one_at_least m
no_longer marks.Semicolon m more e = one_at_least m
no_longer marks.Comma m more e = one_at_least m
no_longer marks.Colon m more e = one_at_least m
no_longer marks.Less m more e = one_at_least m
no_longer marks.Greater m more e = one_at_least m
no_longer marks.Equals m more e = one_at_least m
no_longer marks.Plus m more e = one_at_least m
no_longer marks.Minus m more e = one_at_least m
no_longer marks.Star m more e = one_at_least m
no_longer marks.Slash m more e = one_at_least m
no_longer marks.Percent m more e = one_at_least m
no_longer marks.Not m more e = one_at_least m

pub is_longest : (m : Mark) (rest : List ℕ) → goes_on m rest ≡ false → IsLongest m rest
is_longest m rest h = λ n more e. no_longer n m more (subst (λ xs. mark_at xs ≡ Some m) (sym e) (mark_at_is m rest h))

-- what the code has seen of a mark
pub found_mark : (m : Mark) (xs : List ℕ) → 0 < length xs → IsSpelt m (get_or xs 0 0) (get_or xs 1 0) (get_or xs 2 0)
    → (rest : List ℕ) × (mark_chars m ++ rest ≡ xs) × (goes_on m rest ≡ false)
found_mark m [] lt h = absurd (omega arith)
found_mark marks.StrictEquals (x ∷ []) lt h = absurd (omega (arith, h.1))
found_mark marks.StrictEquals (x ∷ y ∷ []) lt h = absurd (omega (arith, h.2))
found_mark marks.StrictEquals (x ∷ y ∷ z ∷ ys) lt h = (ys, ap (λ c. c ∷ 61 ∷ 61 ∷ ys) (sym h.0) ∙ ap (λ c. x ∷ c ∷ 61 ∷ ys) (sym h.1) ∙ ap (λ c. x ∷ y ∷ c ∷ ys) (sym h.2), refl)
found_mark marks.StrictNotEquals (x ∷ []) lt h = absurd (omega (arith, h.1))
found_mark marks.StrictNotEquals (x ∷ y ∷ []) lt h = absurd (omega (arith, h.2))
found_mark marks.StrictNotEquals (x ∷ y ∷ z ∷ ys) lt h = (ys, ap (λ c. c ∷ 61 ∷ 61 ∷ ys) (sym h.0) ∙ ap (λ c. x ∷ c ∷ 61 ∷ ys) (sym h.1) ∙ ap (λ c. x ∷ y ∷ c ∷ ys) (sym h.2), refl)
found_mark marks.LessEquals (x ∷ []) lt h = absurd (omega (arith, h.1))
found_mark marks.LessEquals (x ∷ y ∷ ys) lt h = (ys, ap (λ c. c ∷ 61 ∷ ys) (sym h.0) ∙ ap (λ c. x ∷ c ∷ ys) (sym h.1), refl)
found_mark marks.GreaterEquals (x ∷ []) lt h = absurd (omega (arith, h.1))
found_mark marks.GreaterEquals (x ∷ y ∷ ys) lt h = (ys, ap (λ c. c ∷ 61 ∷ ys) (sym h.0) ∙ ap (λ c. x ∷ c ∷ ys) (sym h.1), refl)
found_mark marks.And (x ∷ []) lt h = absurd (omega (arith, h.1))
found_mark marks.And (x ∷ y ∷ ys) lt h = (ys, ap (λ c. c ∷ 38 ∷ ys) (sym h.0) ∙ ap (λ c. x ∷ c ∷ ys) (sym h.1), refl)
found_mark marks.Or (x ∷ []) lt h = absurd (omega (arith, h.1))
found_mark marks.Or (x ∷ y ∷ ys) lt h = (ys, ap (λ c. c ∷ 124 ∷ ys) (sym h.0) ∙ ap (λ c. x ∷ c ∷ ys) (sym h.1), refl)
found_mark marks.Increment (x ∷ []) lt h = absurd (omega (arith, h.1))
found_mark marks.Increment (x ∷ y ∷ ys) lt h = (ys, ap (λ c. c ∷ 43 ∷ ys) (sym h.0) ∙ ap (λ c. x ∷ c ∷ ys) (sym h.1), refl)
found_mark marks.Decrement (x ∷ []) lt h = absurd (omega (arith, h.1))
found_mark marks.Decrement (x ∷ y ∷ ys) lt h = (ys, ap (λ c. c ∷ 45 ∷ ys) (sym h.0) ∙ ap (λ c. x ∷ c ∷ ys) (sym h.1), refl)
found_mark marks.OpenBrace (x ∷ xs) lt h = (xs, ap (λ c. c ∷ xs) (sym h), refl)
found_mark marks.CloseBrace (x ∷ xs) lt h = (xs, ap (λ c. c ∷ xs) (sym h), refl)
found_mark marks.OpenParen (x ∷ xs) lt h = (xs, ap (λ c. c ∷ xs) (sym h), refl)
found_mark marks.CloseParen (x ∷ xs) lt h = (xs, ap (λ c. c ∷ xs) (sym h), refl)
found_mark marks.OpenBracket (x ∷ xs) lt h = (xs, ap (λ c. c ∷ xs) (sym h), refl)
found_mark marks.CloseBracket (x ∷ xs) lt h = (xs, ap (λ c. c ∷ xs) (sym h), refl)
found_mark marks.Dot (x ∷ xs) lt h = (xs, ap (λ c. c ∷ xs) (sym h), refl)
found_mark marks.Semicolon (x ∷ xs) lt h = (xs, ap (λ c. c ∷ xs) (sym h), refl)
found_mark marks.Comma (x ∷ xs) lt h = (xs, ap (λ c. c ∷ xs) (sym h), refl)
found_mark marks.Colon (x ∷ xs) lt h = (xs, ap (λ c. c ∷ xs) (sym h), refl)
found_mark marks.Less (x ∷ xs) lt h = (xs, ap (λ c. c ∷ xs) (sym h.0), h.1)
found_mark marks.Greater (x ∷ xs) lt h = (xs, ap (λ c. c ∷ xs) (sym h.0), h.1)
found_mark marks.Equals (x ∷ xs) lt h = (xs, ap (λ c. c ∷ xs) (sym h.0), h.1)
found_mark marks.Plus (x ∷ xs) lt h = (xs, ap (λ c. c ∷ xs) (sym h.0), h.1)
found_mark marks.Minus (x ∷ xs) lt h = (xs, ap (λ c. c ∷ xs) (sym h.0), h.1)
found_mark marks.Star (x ∷ xs) lt h = (xs, ap (λ c. c ∷ xs) (sym h), refl)
found_mark marks.Slash (x ∷ xs) lt h = (xs, ap (λ c. c ∷ xs) (sym h), refl)
found_mark marks.Percent (x ∷ xs) lt h = (xs, ap (λ c. c ∷ xs) (sym h), refl)
found_mark marks.Not (x ∷ xs) lt h = (xs, ap (λ c. c ∷ xs) (sym h.0), h.1)
