-- Classes of characters by their code, and what stands where a row of characters begins.
use Rattle.std.specs.Prelude.{◌≡◌, ℕ, Bool, true, false, not, ◌||◌, ◌==◌, List, [], ◌∷◌}
use Rattle.unicode_ident.specs.Ident.{is_xid_start, is_xid_continue}

-- tab, vertical tab, form feed, space, no-break space and byte order mark (ECMA-262, section 12.2)
abbrev pub is_space : ℕ → Bool
is_space c = (c == 9) || (c == 11) || (c == 12) || (c == 32) || (c == 160) || (c == 65279)

-- line feed and carriage return (section 12.3)
abbrev pub is_line_end : ℕ → Bool
is_line_end c = (c == 10) || (c == 13)

-- line separator and paragraph separator, which end a line in ECMA-262; the profile has them in texts alone
abbrev pub is_separator : ℕ → Bool
is_separator c = (c == 8232) || (c == 8233)

-- what a line's comment goes on with
abbrev pub is_comment_part : ℕ → Bool
is_comment_part c = not (is_line_end c || is_separator c)

-- `$`, `_` and XID_Start
abbrev pub is_name_start : ℕ → Bool
is_name_start c = (c == 36) || (c == 95) || is_xid_start c

-- `$` and XID_Continue, `_` among it
abbrev pub is_name_part : ℕ → Bool
is_name_part c = (c == 36) || is_xid_continue c

-- what a run that begins with a digit goes on with
abbrev pub is_number_part : ℕ → Bool
is_number_part c = (c == 46) || is_name_part c

-- `"` and `'`
abbrev pub is_quote : ℕ → Bool
is_quote c = (c == 34) || (c == 39)

-- there is a first of these characters, and it passes a test
abbrev pub HasFirst : (ℕ → Bool) → List ℕ → Type 0
HasFirst test [] = ⊥
HasFirst test (c ∷ cs) = test c ≡ true

-- the first of these characters, if there is one, fails a test
abbrev pub StopsAt : (ℕ → Bool) → List ℕ → Type 0
StopsAt test [] = Unit {0}
StopsAt test (c ∷ cs) = test c ≡ false

-- no `*` is followed by `/`
abbrev pub HasNoEnd : List ℕ → Type 0
HasNoEnd [] = Unit {0}
HasNoEnd (c ∷ cs) = (c ≡ 42 → StopsAt (λ d. d == 47) cs) × HasNoEnd cs
