-- The machine reads what a derivation spells, where the derivation is fine.
use Rattle.std.specs.Prelude.{◌≡◌, ℕ, ◌+◌, ◌<◌, ◌≤◌, List, [], ◌∷◌, ◌++◌, map, true, nat_lt, refl}
use Rattle.std.proofs.Common.{sym, ◌∙◌, ap, arith, subst, append_assoc}
use Rattle.std.proofs.lemmas.Bool.Decides.{nat_tests}
use Rattle.small_lexer.specs.declared.token.Word.TheVariants as words
use Rattle.small_lexer.specs.declared.token.Mark.TheVariants as marks
use Rattle.small_lexer.specs.declared.token.TokenKind.{TokenKind}
use Rattle.small_lexer.specs.declared.token.TokenKind.TheVariants as kinds
use Rattle.small_parser.specs.declared.instance.Piece.{Piece}
use Rattle.small_parser.specs.Grammar.{plus, minus, Sum, product, added, Product, factor, times, Factor, number, text, name, parens, call, Listed, single, comma, Passed, unlisted, passed, passed_more, Arguments, none, listed, Script, nothing, declaration, binding, printing, Sign, at, sum_then, product_then, factor_then, listed_then, passed_then, arguments_then, script_then, print_name, declared_by, bound_by, most_open, sum_depth, product_depth, factor_depth, listed_depth, passed_depth, arguments_depth, SumUses, ProductUses, FactorUses, ListedUses, PassedUse, ArgumentsUse, IsInstance, IsFine}
use Rattle.small_parser.specs.Pieces.{kind_of, pieces_before_file, pieces_after_file, fits}
use Rattle.small_parser.specs.Machine.{BeforeSum, no_sum, sum_before, BeforeProduct, no_product, product_before, BeforeListed, no_listed, listed_before, Level, level, fresh, Outer, in_let, in_print, in_parens, in_call, State, items, let_equals, before_file, after_file, instanced, argument, printed, want, passing, have, product_with, sum_with, listed_with, script_of, open_in, run}
use Rattle.small_parser.proofs.Known.{contains_known, lacks_known, other_bytes}
use Rattle.small_parser.proofs.Pieces.{fits_itself}

-- the last operand of a chain, and what stands before it
abbrev pub before_last : Product → BeforeProduct
before_last (factor f) = no_product
before_last (times m k f) = product_before m k

abbrev pub last : Product → Factor
last (factor f) = f
last (times m k f) = f

abbrev pub before_last_sum : Sum → BeforeSum
before_last_sum (product m) = no_sum
before_last_sum (added a o k m) = sum_before a o k

abbrev pub last_sum : Sum → Product
last_sum (product m) = m
last_sum (added a o k m) = m

abbrev pub before_last_listed : Listed → BeforeListed
before_last_listed (single e) = no_listed
before_last_listed (comma l k e) = listed_before l k

abbrev pub last_listed : Listed → Sum
last_listed (single e) = e
last_listed (comma l k e) = e

-- the state after a part, in what is open around it
abbrev pub after_product : BeforeSum → Product → Outer → State
after_product a m outer = have (last m) (level a (before_last m)) outer

abbrev pub after_sum : Sum → Outer → State
after_sum e outer = after_product (before_last_sum e) (last_sum e) outer

-- closing gives the part again
product_again : (m : Product) → product_with (before_last m) (last m) ≡ m
product_again (factor f) = refl
product_again (times m k f) = refl

sum_again : (e : Sum) → sum_with (before_last_sum e) (product_with (before_last (last_sum e)) (last (last_sum e))) ≡ e
sum_again (product m) = ap product (product_again m)
sum_again (added a o k m) = ap (added a o k) (product_again m)

listed_again : (l : Listed) → listed_with (before_last_listed l) (last_listed l) ≡ l
listed_again (single e) = refl
listed_again (comma l k e) = refl

-- a sum begins with one of these
module _ (P : List Sign → Type 0) (at_number : (n k : ℕ) (y : List Sign) → P (at (kinds.Number n) k ∷ y)) (at_text : (s : List ℕ) (k : ℕ) (y : List Sign) → P (at (kinds.Text s) k ∷ y))
    (at_name : (w : List ℕ) (k : ℕ) (y : List Sign) → P (at (kinds.Name w) k ∷ y)) (at_open : (k : ℕ) (y : List Sign) → P (at (kinds.Mark marks.Open) k ∷ y)) where
  factor_begins : (f : Factor) (y : List Sign) → P (factor_then f y)
  factor_begins (number n k) y = at_number n k y
  factor_begins (text s k) y = at_text s k y
  factor_begins (name w k) y = at_name w k y
  factor_begins (parens o e c) y = at_open o _
  factor_begins (call w k o a c) y = at_name w k _

  product_begins : (m : Product) (y : List Sign) → P (product_then m y)
  product_begins (factor f) y = factor_begins f y
  product_begins (times m k f) y = product_begins m _

  sum_begins : (e : Sum) (y : List Sign) → P (sum_then e y)
  sum_begins (product m) y = product_begins m y
  sum_begins (added a o k m) y = sum_begins a _

-- an argument is begun, and not the end of the arguments
argument_begins : (s : Script) (p o : ℕ) (e : Sum) (y : List Sign) → run (argument s p o) (sum_then e y) ≡ run (want fresh (in_print s p o no_listed)) (sum_then e y)
argument_begins s p o = sum_begins (λ y. run (argument s p o) y ≡ run (want fresh (in_print s p o no_listed)) y) (λ n k y. refl) (λ v k y. refl) (λ w k y. refl) (λ k y. refl)

-- so is one of a call
passing_begins : (w : List ℕ) (k o : ℕ) (a : BeforeListed) (l : Level) (outer : Outer) (e : Sum) (y : List Sign) → run (passing w k o a l outer) (sum_then e y) ≡ run (want fresh (in_call w k o a l outer)) (sum_then e y)
passing_begins w k o a l outer = sum_begins (λ y. run (passing w k o a l outer) y ≡ run (want fresh (in_call w k o a l outer)) y) (λ n k y. refl) (λ v k y. refl) (λ w k y. refl) (λ k y. refl)

-- and the value of a `let`, where it is no instance
value_begins : (s : Script) (l : ℕ) (w : List ℕ) (n q : ℕ) (e : Sum) (y : List Sign) → run (let_equals s l w n q) (sum_then e y) ≡ run (want fresh (in_let s l w n q)) (sum_then e y)
value_begins s l w n q = sum_begins (λ y. run (let_equals s l w n q) y ≡ run (want fresh (in_let s l w n q)) y) (λ n k y. refl) (λ v k y. refl) (λ w k y. refl) (λ k y. refl)

opens : (n : ℕ) → n < most_open → nat_lt n most_open ≡ true
opens n h = grind (arith, nat_tests)

mutual
  pub run_factor : (f : Factor) (l : Level) (outer : Outer) (y : List Sign) → FactorUses (declared_by (script_of outer)) (bound_by (script_of outer)) f → factor_depth f + open_in outer ≤ most_open
      → run (want l outer) (factor_then f y) ≡ run (have f l outer) y
  run_factor (number n k) l outer y u d = refl
  run_factor (text s k) l outer y u d = refl
  run_factor (name w k) l outer y u d = rw (lacks_known (bound_by (script_of outer)) w u.1, contains_known (declared_by (script_of outer)) w u.0, run) refl
  run_factor (parens o e c) l outer y u d = rw (opens (open_in outer) (omega arith), run) (run_sum e (in_parens o l outer) (at (kinds.Mark marks.Close) c ∷ y) u (omega arith) ∙ rw (sum_again e, run) refl)
  run_factor (call w k o a c) l outer y u d = rw (contains_known (bound_by (script_of outer)) w u.0, run) (rw (opens (open_in outer) (omega arith), run) (run_passed a w k o c l outer y u.1 (omega arith)))

  run_passed : (a : Passed) (w : List ℕ) (k o c : ℕ) (l : Level) (outer : Outer) (y : List Sign) → PassedUse (declared_by (script_of outer)) (bound_by (script_of outer)) a → passed_depth a + 1 + open_in outer ≤ most_open
      → run (passing w k o no_listed l outer) (passed_then a (at (kinds.Mark marks.Close) c ∷ y)) ≡ run (have (call w k o a c) l outer) y
  run_passed unlisted w k o c l outer y u d = refl
  run_passed (passed m) w k o c l outer y u d = run_call_listed m w k o l outer (at (kinds.Mark marks.Close) c ∷ y) u d ∙ rw (sum_again (last_listed m), listed_again m, run) refl
  run_passed (passed_more m j) w k o c l outer y u d = run_call_listed m w k o l outer (at (kinds.Mark marks.Comma) j ∷ at (kinds.Mark marks.Close) c ∷ y) u d ∙ rw (sum_again (last_listed m), listed_again m, run) refl

  run_call_listed : (m : Listed) (w : List ℕ) (k o : ℕ) (l : Level) (outer : Outer) (y : List Sign) → ListedUses (declared_by (script_of outer)) (bound_by (script_of outer)) m → listed_depth m + 1 + open_in outer ≤ most_open
      → run (passing w k o no_listed l outer) (listed_then m y) ≡ run (after_sum (last_listed m) (in_call w k o (before_last_listed m) l outer)) y
  run_call_listed (single e) w k o l outer y u d = passing_begins w k o no_listed l outer e y ∙ run_sum e (in_call w k o no_listed l outer) y u (omega arith)
  run_call_listed (comma m j e) w k o l outer y u d = run_call_listed m w k o l outer (at (kinds.Mark marks.Comma) j ∷ sum_then e y) u.0 (omega arith)
      ∙ rw (sum_again (last_listed m), listed_again m, run) (passing_begins w k o (listed_before m j) l outer e y ∙ run_sum e (in_call w k o (listed_before m j) l outer) y u.1 (omega arith))

  pub run_product : (m : Product) (a : BeforeSum) (outer : Outer) (y : List Sign) → ProductUses (declared_by (script_of outer)) (bound_by (script_of outer)) m → product_depth m + open_in outer ≤ most_open
      → run (want (level a no_product) outer) (product_then m y) ≡ run (after_product a m outer) y
  run_product (factor f) a outer y u d = run_factor f (level a no_product) outer y u d
  run_product (times m k f) a outer y u d = run_product m a outer (at (kinds.Mark marks.Star) k ∷ factor_then f y) u.0 (omega arith)
      ∙ rw (product_again m, run) (run_factor f (level a (product_before m k)) outer y u.1 (omega arith))

  pub run_sum : (e : Sum) (outer : Outer) (y : List Sign) → SumUses (declared_by (script_of outer)) (bound_by (script_of outer)) e → sum_depth e + open_in outer ≤ most_open
      → run (want fresh outer) (sum_then e y) ≡ run (after_sum e outer) y
  run_sum (product m) outer y u d = run_product m no_sum outer y u d
  run_sum (added a plus k m) outer y u d = run_sum a outer (at (kinds.Mark marks.Plus) k ∷ product_then m y) u.0 (omega arith)
      ∙ rw (sum_again a, run) (run_product m (sum_before a plus k) outer y u.1 (omega arith))
  run_sum (added a minus k m) outer y u d = run_sum a outer (at (kinds.Mark marks.Minus) k ∷ product_then m y) u.0 (omega arith)
      ∙ rw (sum_again a, run) (run_product m (sum_before a minus k) outer y u.1 (omega arith))

run_listed : (l : Listed) (s : Script) (p o : ℕ) (y : List Sign) → ListedUses (declared_by s) (bound_by s) l → listed_depth l + 1 ≤ most_open
    → run (argument s p o) (listed_then l y) ≡ run (after_sum (last_listed l) (in_print s p o (before_last_listed l))) y
run_listed (single e) s p o y u d = argument_begins s p o e y ∙ run_sum e (in_print s p o no_listed) y u d
run_listed (comma l k e) s p o y u d = run_listed l s p o (at (kinds.Mark marks.Comma) k ∷ sum_then e y) u.0 (omega arith)
    ∙ rw (sum_again (last_listed l), listed_again l, run) (run_sum e (in_print s p o (listed_before l k)) y u.1 (omega arith))

run_arguments : (a : Arguments) (s : Script) (p o c : ℕ) (y : List Sign) → ArgumentsUse (declared_by s) (bound_by s) a → arguments_depth a + 1 ≤ most_open
    → run (argument s p o) (arguments_then a (at (kinds.Mark marks.Close) c ∷ y)) ≡ run (printed s p o a c) y
run_arguments none s p o c y u d = refl
run_arguments (listed l) s p o c y u d = run_listed l s p o (at (kinds.Mark marks.Close) c ∷ y) u d ∙ rw (sum_again (last_listed l), listed_again l, run) refl

-- a token is its kind at its place
at_itself : (t : Sign) (k : TokenKind) → t.kind ≡ k → t ≡ at k t.place
at_itself t k e = ap (λ z. at z t.place) e

-- the tokens of an instance after its file's name, and before the end
run_export : (left : List Piece) (ts read : List Sign) (file export : List ℕ) (s : Script) (l : ℕ) (w : List ℕ) (n q : ℕ) (y : List Sign)
    → map (λ t. t.kind) ts ≡ map kind_of left ++ kinds.Name export ∷ [] → (¬ (export ≡ print_name))
    → run (after_file s l w n q file read left) (ts ++ y) ≡ run (instanced s l w n q (record { file = file; export = export; tokens = read ++ ts })) y
run_export [] [] read file export s l w n q y h f = cc
run_export [] (t ∷ []) read file export s l w n q y h f =
    let e : t.kind ≡ kinds.Name export = cc in
    subst (λ x. run (after_file s l w n q file read []) (x ∷ y) ≡ run (instanced s l w n q (record { file = file; export = export; tokens = read ++ x ∷ [] })) y) (sym (at_itself t (kinds.Name export) e)) (rw (other_bytes export print_name f, run) refl)
run_export [] (t ∷ u ∷ ts) read file export s l w n q y h f = cc
run_export (p ∷ left) [] read file export s l w n q y h f = cc
run_export (p ∷ left) (t ∷ ts) read file export s l w n q y h f =
    let e : t.kind ≡ kind_of p = cc in
    let rest : map (λ t. t.kind) ts ≡ map kind_of left ++ kinds.Name export ∷ [] = cc in
    let passes : fits p t.kind ≡ true = rw e (fits_itself p) in
    rw (run, passes) (run_export left ts (read ++ t ∷ []) file export s l w n q y rest f ∙ ap (λ z. run (instanced s l w n q (record { file = file; export = export; tokens = z })) y) (append_assoc read (t ∷ []) ts))

run_file : (left : List Piece) (ts read : List Sign) (file export : List ℕ) (s : Script) (l : ℕ) (w : List ℕ) (n q : ℕ) (y : List Sign)
    → map (λ t. t.kind) ts ≡ map kind_of left ++ kinds.Text file ∷ map kind_of pieces_after_file ++ kinds.Name export ∷ [] → (¬ (export ≡ print_name))
    → run (before_file s l w n q read left) (ts ++ y) ≡ run (instanced s l w n q (record { file = file; export = export; tokens = read ++ ts })) y
run_file [] [] read file export s l w n q y h f = cc
run_file [] (t ∷ ts) read file export s l w n q y h f =
    let e : t.kind ≡ kinds.Text file = cc in
    let rest : map (λ t. t.kind) ts ≡ map kind_of pieces_after_file ++ kinds.Name export ∷ [] = cc in
    subst (λ x. run (before_file s l w n q read []) (x ∷ ts ++ y) ≡ run (instanced s l w n q (record { file = file; export = export; tokens = read ++ x ∷ ts })) y) (sym (at_itself t (kinds.Text file) e))
    (run_export pieces_after_file ts (read ++ at (kinds.Text file) t.place ∷ []) file export s l w n q y rest f
    ∙ ap (λ z. run (instanced s l w n q (record { file = file; export = export; tokens = z })) y) (append_assoc read (at (kinds.Text file) t.place ∷ []) ts))
run_file (p ∷ left) [] read file export s l w n q y h f = cc
run_file (p ∷ left) (t ∷ ts) read file export s l w n q y h f =
    let e : t.kind ≡ kind_of p = cc in
    let rest : map (λ t. t.kind) ts ≡ map kind_of left ++ kinds.Text file ∷ map kind_of pieces_after_file ++ kinds.Name export ∷ [] = cc in
    let passes : fits p t.kind ≡ true = rw e (fits_itself p) in
    rw (run, passes) (run_file left ts (read ++ t ∷ []) file export s l w n q y rest f ∙ ap (λ z. run (instanced s l w n q (record { file = file; export = export; tokens = z })) y) (append_assoc read (t ∷ []) ts))

-- the tokens of an instance
run_instance : (ts : List Sign) (file export : List ℕ) (s : Script) (l : ℕ) (w : List ℕ) (n q : ℕ) (y : List Sign) → IsInstance (record { file = file; export = export; tokens = ts }) → (¬ (export ≡ print_name))
    → run (let_equals s l w n q) (ts ++ y) ≡ run (instanced s l w n q (record { file = file; export = export; tokens = ts })) y
run_instance [] file export s l w n q y h f = cc
run_instance (t ∷ ts) file export s l w n q y h f =
    let e : t.kind ≡ kinds.Word words.New = cc in
    let rest : map (λ t. t.kind) ts ≡ map kind_of pieces_before_file ++ kinds.Text file ∷ map kind_of pieces_after_file ++ kinds.Name export ∷ [] = cc in
    subst (λ x. run (let_equals s l w n q) (x ∷ ts ++ y) ≡ run (instanced s l w n q (record { file = file; export = export; tokens = x ∷ ts })) y) (sym (at_itself t (kinds.Word words.New) e))
    (run_file pieces_before_file ts (at (kinds.Word words.New) t.place ∷ []) file export s l w n q y rest f)

pub run_script : (d : Script) (y : List Sign) → IsFine d → run (items nothing) (script_then d y) ≡ run (items d) y
run_script nothing y h = refl
run_script (declaration s l w n q e c) y h =
    run_script s (at (kinds.Word words.Let) l ∷ at (kinds.Name w) n ∷ at (kinds.Mark marks.Equals) q ∷ sum_then e (at (kinds.Mark marks.Semicolon) c ∷ y)) h.0
    ∙ rw (other_bytes w print_name h.2, lacks_known (declared_by s) w h.1, run) (value_begins s l w n q e (at (kinds.Mark marks.Semicolon) c ∷ y) ∙ run_sum e (in_let s l w n q) (at (kinds.Mark marks.Semicolon) c ∷ y) h.3 (omega arith) ∙ rw (sum_again e, run) refl)
run_script (binding s l w n q i c) y h =
    run_script s (at (kinds.Word words.Let) l ∷ at (kinds.Name w) n ∷ at (kinds.Mark marks.Equals) q ∷ (i.tokens ++ at (kinds.Mark marks.Semicolon) c ∷ y)) h.0
    ∙ rw (other_bytes w print_name h.2, lacks_known (declared_by s) w h.1, run) (run_instance i.tokens i.file i.export s l w n q (at (kinds.Mark marks.Semicolon) c ∷ y) h.3 h.4)
run_script (printing s p o a c e) y h =
    run_script s (at (kinds.Name print_name) p ∷ at (kinds.Mark marks.Open) o ∷ arguments_then a (at (kinds.Mark marks.Close) c ∷ at (kinds.Mark marks.Semicolon) e ∷ y)) h.0
    ∙ run_arguments a s p o c (at (kinds.Mark marks.Semicolon) e ∷ y) h.1 h.2
