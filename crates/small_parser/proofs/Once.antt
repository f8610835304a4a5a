-- Whether tokens are those of a script is decided, and they are those of one script alone.
use Rattle.std.specs.Prelude.{◌≡◌, ◌⊎◌, ℕ, List, [], ◌∷◌, Bool, true, false, map, Contains, Option, Some, refl}
use Rattle.std.proofs.Common.{sym, ◌∙◌, inl, inr}
use Rattle.small_lexer.specs.declared.token.Token.{Token}
use Rattle.small_parser.specs.Grammar.{Script, sign_of, declared_by, bound_by, reading_name, interface_name, IsScript}
use Rattle.small_parser.specs.Machine.{State, items, run, start, is_known}
use Rattle.small_parser.proofs.Known.{known_contains, known_lacks}
use Rattle.small_parser.proofs.Main.{script_read, read_script}

same_items : (d e : Script) → Some (items d) ≡ Some (items e) → d ≡ e
same_items d e q = cc

pub parse_once : (ts : List Token) (d e : Script) → IsScript ts d → IsScript ts e → d ≡ e
parse_once ts d e h k = same_items d e (sym (script_read ts d h) ∙ script_read ts e k)

-- ---- the names by which a script loads a module

abbrev Keeps : (bound declared : List (List ℕ)) → Type 0
Keeps bound declared = (¬ (bound ≡ [])) → (¬ Contains declared reading_name) × (¬ Contains declared interface_name)

keeps_or_not : (bound declared : List (List ℕ)) → Keeps bound declared ⊎ (Keeps bound declared → ⊥)
keeps_or_not [] declared = inl (λ never. absurd (never refl))
keeps_or_not (w ∷ bound) declared = on (is_known declared reading_name) (is_known declared interface_name) refl refl
  where
    some : w ∷ bound ≡ [] → ⊥
    some q = cc

    on : (b c : Bool) → is_known declared reading_name ≡ b → is_known declared interface_name ≡ c → Keeps (w ∷ bound) declared ⊎ (Keeps (w ∷ bound) declared → ⊥)
    on true c p q = inr (λ keeps. (keeps some).0 (known_contains declared reading_name p))
    on false true p q = inr (λ keeps. (keeps some).1 (known_contains declared interface_name q))
    on false false p q = inl (λ _. (known_lacks declared reading_name p, known_lacks declared interface_name q))

-- ---- a script or none

abbrev Parsed : List Token → Type 0
Parsed ts = (d : Script) × IsScript ts d

abbrev Unparsed : List Token → Type 0
Unparsed ts = (d : Script) → IsScript ts d → ⊥

-- where the machine ends after another form, there is none
ends_elsewhere : (ts : List Token) (o : Option State) → run start (map sign_of ts) ≡ o → ((d : Script) → o ≡ Some (items d) → ⊥) → Unparsed ts
ends_elsewhere ts o h never d is = never d (sym h ∙ script_read ts d is)

at_items : (ts : List Token) (d : Script) → run start (map sign_of ts) ≡ Some (items d) → Keeps (bound_by d) (declared_by d) ⊎ (Keeps (bound_by d) (declared_by d) → ⊥) → Parsed ts ⊎ Unparsed ts
at_items ts d h (inl keeps) = inl (d, read_script ts d h keeps)
at_items ts d h (inr never) = inr (λ e is. let same : e ≡ d = same_items e d (sym (script_read ts e is) ∙ h) in never (rw same at is.keeps))

ends_at : (ts : List Token) (o : Option State) → run start (map sign_of ts) ≡ o → Parsed ts ⊎ Unparsed ts
ends_at ts (Some (items d)) h = at_items ts d h (keeps_or_not (bound_by d) (declared_by d))
ends_at ts o h = inr (ends_elsewhere ts o h (λ d q. cc))

pub parse_or_not : (ts : List Token) → Parsed ts ⊎ Unparsed ts
parse_or_not ts = ends_at ts (run start (map sign_of ts)) refl
