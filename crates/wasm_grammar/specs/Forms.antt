-- How forms of bytes are put together (WebAssembly Core 2.0, sections 5.1.2 and 5.1.3). A form says which bytes spell which
-- value, where so many bytes of the file stand behind them. That number serves to tell places in the file alone.
use Rattle.std.specs.Prelude.{◌≡◌, ℕ, ◌+◌, List, [], ◌∷◌, ◌++◌, length, Bool, cond}

abbrev pub Form : Type 0 → Type 1
Form A = ℕ → List ℕ → A → Type 0

-- any bytes, which spell themselves
abbrev pub Any : Form (List ℕ)
Any after bytes x = x ≡ bytes

-- so many bytes, which spell themselves
abbrev pub Run : ℕ → Form (List ℕ)
Run n after bytes x = (length bytes ≡ n) × (x ≡ bytes)

-- no bytes, which spell one value
abbrev pub Nothing : {A : Type 0} → A → Form A
Nothing a after bytes x = (bytes ≡ []) × (x ≡ a)

-- one part and then the other
pub record Both {A B : Type 0} (P : Form A) (Q : Form B) (after : ℕ) (bytes : List ℕ) (x : A × B) : Type 0 where
  pub front : List ℕ
  pub back : List ℕ
  pub parts : bytes ≡ front ++ back
  pub first : P (after + length back) front x.0
  pub second : Q after back x.1

-- a value that is made of a spelled one
pub record Made {A B : Type 0} (f : A → B) (P : Form A) (after : ℕ) (bytes : List ℕ) (y : B) : Type 0 where
  pub of : A
  pub is_made : y ≡ f of
  pub is_of : P after bytes of

-- items one after the other
abbrev pub Items : {A : Type 0} → Form A → Form (List A)
Items P after bytes [] = bytes ≡ []
Items P after bytes (x ∷ xs) = (front back : List ℕ) × (bytes ≡ front ++ back) × P (after + length back) front x × Items P after back xs

-- what the first byte chooses
abbrev pub ByFirst : {A : Type 0} → (ℕ → Form A) → Form A
ByFirst K after [] x = ⊥
ByFirst K after (b ∷ bytes) x = K b after bytes x

-- a choice by a test
abbrev pub When : {A : Type 0} → Bool → Form A → Form A → Form A
When c P Q after bytes x = cond c (P after bytes x) (Q after bytes x)

-- no bytes spell anything
abbrev pub Never : {A : Type 0} → Form A
Never after bytes x = ⊥

-- bytes begin with a spelling of a value, behind which others stand
pub record Front {A : Type 0} (P : Form A) (after : ℕ) (bytes : List ℕ) (x : A) (rest : List ℕ) : Type 0 where
  pub front : List ℕ
  pub parts : bytes ≡ front ++ rest
  pub is_form : P (after + length rest) front x
