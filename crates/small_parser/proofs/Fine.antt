-- What the machine has read is fine.
use Rattle.std.specs.Prelude.{◌≡◌, ℕ, ◌+◌, ◌<◌, ◌≤◌, List, [], ◌∷◌, ◌++◌, map, Option, Some, None, Bool, true, false, cond, nat_lt, Contains, refl}
use Rattle.std.specs.Str.{bytes_eq}
use Rattle.std.proofs.Common.{◌∙◌, sym, ap, arith, subst, append-nil}
use Rattle.std.proofs.lemmas.Bool.Decides.{nat_tests}
use Rattle.small_lexer.specs.declared.token.Word.TheVariants as words
use Rattle.small_lexer.specs.declared.token.Mark.{Mark}
use Rattle.small_lexer.specs.declared.token.Mark.TheVariants as marks
use Rattle.small_lexer.specs.declared.token.TokenKind.{TokenKind}
use Rattle.small_lexer.specs.declared.token.TokenKind.TheVariants as kinds
use Rattle.small_parser.specs.declared.instance.Piece.{Piece}
use Rattle.small_parser.specs.Grammar.{Sum, Product, Factor, name, call, Listed, Passed, passed, Arguments, Instance, Script, Sign, at, print_name, declared_by, bound_by, most_open, sum_depth, product_depth, factor_depth, listed_depth, passed_depth, arguments_depth, SumUses, ProductUses, FactorUses, ListedUses, PassedUse, ArgumentsUse, kinds_before_file, kinds_after_file, IsInstance, IsFine}
use Rattle.small_parser.specs.Pieces.{kind_of, fits}
use Rattle.small_parser.specs.Machine.{BeforeSum, no_sum, sum_before, BeforeProduct, no_product, product_before, BeforeListed, no_listed, listed_before, Level, level, fresh, Outer, in_let, in_print, in_parens, in_call, State, items, let_begun, let_named, let_equals, before_file, after_file, instanced, print_begun, argument, printed, want, called, passing, have, product_with, sum_with, listed_with, passed_with, sum_of, script_of, open_in, is_known, named, opened, wanted, call_opened, pass, closed, parted, ended, marked, had, next_item, let_name, let_value, valued, file_named, export_named, bind_ended, print_opened, argued, print_ended, step, run}
use Rattle.small_parser.proofs.Known.{known_contains, known_lacks, other_text}
use Rattle.small_parser.proofs.Pieces.{fit_is, kinds_on}

-- among the names of a script and under so many parentheses
abbrev pub SumFits : Script → ℕ → Sum → Type 0
SumFits s n e = SumUses (declared_by s) (bound_by s) e × (sum_depth e + n ≤ most_open)

abbrev pub ProductFits : Script → ℕ → Product → Type 0
ProductFits s n m = ProductUses (declared_by s) (bound_by s) m × (product_depth m + n ≤ most_open)

abbrev pub FactorFits : Script → ℕ → Factor → Type 0
FactorFits s n f = FactorUses (declared_by s) (bound_by s) f × (factor_depth f + n ≤ most_open)

abbrev pub ListedFits : Script → ℕ → Listed → Type 0
ListedFits s n l = ListedUses (declared_by s) (bound_by s) l × (listed_depth l + n ≤ most_open)

abbrev pub PassedFits : Script → ℕ → Passed → Type 0
PassedFits s n a = PassedUse (declared_by s) (bound_by s) a × (passed_depth a + n ≤ most_open)

abbrev pub BeforeSumFits : Script → ℕ → BeforeSum → Type 0
BeforeSumFits s n no_sum = Unit {0}
BeforeSumFits s n (sum_before a o k) = SumFits s n a

abbrev pub BeforeProductFits : Script → ℕ → BeforeProduct → Type 0
BeforeProductFits s n no_product = Unit {0}
BeforeProductFits s n (product_before m k) = ProductFits s n m

abbrev pub BeforeListedFits : Script → ℕ → BeforeListed → Type 0
BeforeListedFits s n no_listed = Unit {0}
BeforeListedFits s n (listed_before l k) = ListedFits s n l

abbrev pub LevelFits : Script → ℕ → Level → Type 0
LevelFits s n (level a m) = BeforeSumFits s n a × BeforeProductFits s n m

abbrev pub IsNew : Script → List ℕ → Type 0
IsNew s w = (¬ Contains (declared_by s) w) × (¬ (w ≡ print_name))

abbrev pub OuterFine : Outer → Type 0
OuterFine (in_let s l w n q) = IsFine s × IsNew s w
OuterFine (in_print s p o a) = IsFine s × BeforeListedFits s 1 a
OuterFine (in_parens o l outer) = LevelFits (script_of outer) (open_in outer) l × (open_in outer < most_open) × OuterFine outer
OuterFine (in_call w k o a l outer) = Contains (bound_by (script_of outer)) w × BeforeListedFits (script_of outer) (open_in outer + 1) a × LevelFits (script_of outer) (open_in outer) l × (open_in outer < most_open) × OuterFine outer

-- the kinds of the tokens that were read of an instance, and of the ones that are left, through its file's name or the one before its export's
abbrev pub BeforeFile : List Sign → List Piece → Type 0
BeforeFile read left = map (λ t. t.kind) read ++ map kind_of left ≡ kinds_before_file

abbrev pub AfterFile : List ℕ → List Sign → List Piece → Type 0
AfterFile file read left = map (λ t. t.kind) read ++ map kind_of left ≡ kinds_before_file ++ kinds.Text file ∷ kinds_after_file

abbrev pub StateFine : State → Type 0
StateFine (items s) = IsFine s
StateFine (let_begun s l) = IsFine s
StateFine (let_named s l w n) = IsFine s × IsNew s w
StateFine (let_equals s l w n q) = IsFine s × IsNew s w
StateFine (before_file s l w n q read left) = IsFine s × IsNew s w × BeforeFile read left
StateFine (after_file s l w n q file read left) = IsFine s × IsNew s w × AfterFile file read left
StateFine (instanced s l w n q i) = IsFine s × IsNew s w × IsInstance i × (¬ (i.export ≡ print_name))
StateFine (print_begun s p) = IsFine s
StateFine (argument s p o) = IsFine s
StateFine (printed s p o a c) = IsFine s × ArgumentsUse (declared_by s) (bound_by s) a × (arguments_depth a + 1 ≤ most_open)
StateFine (want l outer) = LevelFits (script_of outer) (open_in outer) l × OuterFine outer
StateFine (called w k l outer) = Contains (bound_by (script_of outer)) w × LevelFits (script_of outer) (open_in outer) l × OuterFine outer
StateFine (passing w k o a l outer) = OuterFine (in_call w k o a l outer)
StateFine (have f l outer) = FactorFits (script_of outer) (open_in outer) f × LevelFits (script_of outer) (open_in outer) l × OuterFine outer

abbrev pub IfFine : Option State → Type 0
IfFine None = Unit {0}
IfFine (Some s) = StateFine s

-- closing a chain keeps it
product_fits : (s : Script) (n : ℕ) (m : BeforeProduct) (f : Factor) → BeforeProductFits s n m → FactorFits s n f → ProductFits s n (product_with m f)
product_fits s n no_product f h g = g
product_fits s n (product_before m k) f h g = ((h.0, g.0), omega arith)

sum_fits : (s : Script) (n : ℕ) (a : BeforeSum) (m : Product) → BeforeSumFits s n a → ProductFits s n m → SumFits s n (sum_with a m)
sum_fits s n no_sum m h g = g
sum_fits s n (sum_before a o k) m h g = ((h.0, g.0), omega arith)

level_fits : (s : Script) (n : ℕ) (l : Level) (f : Factor) → LevelFits s n l → FactorFits s n f → SumFits s n (sum_of l f)
level_fits s n (level a m) f h g = sum_fits s n a (product_with m f) h.0 (product_fits s n m f h.1 g)

listed_fits : (s : Script) (n : ℕ) (a : BeforeListed) (e : Sum) → BeforeListedFits s n a → SumFits s n e → ListedFits s n (listed_with a e)
listed_fits s n no_listed e h g = g
listed_fits s n (listed_before l k) e h g = ((h.0, g.0), omega arith)

-- something is open or nothing is, but never more than may be
at_most : (outer : Outer) → OuterFine outer → open_in outer ≤ most_open
at_most (in_let s l w n q) h = omega arith
at_most (in_print s p o a) h = omega arith
at_most (in_parens o l outer) h = omega arith
at_most (in_call w k o a l outer) h = omega arith

named_fine : (l : Level) (outer : Outer) (k : ℕ) (w : List ℕ) → StateFine (want l outer) → IfFine (named l outer k w)
named_fine l outer k w h = on (is_known (bound_by (script_of outer)) w) (is_known (declared_by (script_of outer)) w) refl refl
  where
    on : (b c : Bool) → is_known (bound_by (script_of outer)) w ≡ b → is_known (declared_by (script_of outer)) w ≡ c → IfFine (cond b (Some (called w k l outer)) (cond c (Some (have (name w k) l outer)) None))
    on true c e g = (known_contains (bound_by (script_of outer)) w e, h.0, h.1)
    on false true e g = (((known_contains (declared_by (script_of outer)) w g, known_lacks (bound_by (script_of outer)) w e), (let m : open_in outer ≤ most_open = at_most outer h.1 in omega arith)), h.0, h.1)
    on false false e g = tt

opened_fine : (l : Level) (outer : Outer) (k : ℕ) → StateFine (want l outer) → IfFine (opened l outer k)
opened_fine l outer k h = on (nat_lt (open_in outer) most_open) refl
  where
    on : (b : Bool) → nat_lt (open_in outer) most_open ≡ b → IfFine (cond b (Some (want fresh (in_parens k l outer))) None)
    on true e = ((tt, tt), (h.0, grind (arith, nat_tests), h.1))
    on false e = tt

wanted_fine : (l : Level) (outer : Outer) (k : ℕ) (t : TokenKind) → StateFine (want l outer) → IfFine (wanted l outer k t)
wanted_fine l outer k (kinds.Number n) h = ((tt, (let m : open_in outer ≤ most_open = at_most outer h.1 in omega arith)), h.0, h.1)
wanted_fine l outer k (kinds.Text s) h = ((tt, (let m : open_in outer ≤ most_open = at_most outer h.1 in omega arith)), h.0, h.1)
wanted_fine l outer k (kinds.Name w) h = named_fine l outer k w h
wanted_fine l outer k (kinds.Mark marks.Open) h = opened_fine l outer k h
wanted_fine l outer k _ h = tt

call_opened_fine : (w : List ℕ) (p : ℕ) (l : Level) (outer : Outer) (k : ℕ) (t : TokenKind) → StateFine (called w p l outer) → IfFine (call_opened w p l outer k t)
call_opened_fine w p l outer k (kinds.Mark marks.Open) h = on (nat_lt (open_in outer) most_open) refl
  where
    on : (b : Bool) → nat_lt (open_in outer) most_open ≡ b → IfFine (cond b (Some (passing w p k no_listed l outer)) None)
    on true e = (h.0, tt, h.1, (grind (arith, nat_tests)), h.2)
    on false e = tt
call_opened_fine w p l outer k _ h = tt

passed_fits : (s : Script) (n : ℕ) (a : BeforeListed) → n ≤ most_open → BeforeListedFits s n a → PassedFits s n (passed_with a)
passed_fits s n no_listed m h = (tt, omega arith)
passed_fits s n (listed_before l k) m h = h

call_fits : (outer : Outer) (w : List ℕ) (p o c : ℕ) (a : Passed) → Contains (bound_by (script_of outer)) w → PassedFits (script_of outer) (open_in outer + 1) a → FactorFits (script_of outer) (open_in outer) (call w p o a c)
call_fits outer w p o c a h g = ((h, g.0), omega arith)

pass_fine : (w : List ℕ) (p o : ℕ) (a : BeforeListed) (l : Level) (outer : Outer) (k : ℕ) (t : TokenKind) → StateFine (passing w p o a l outer) → IfFine (pass w p o a l outer k t)
pass_fine w p o a l outer k (kinds.Mark marks.Close) h = (call_fits outer w p o k (passed_with a) h.0 (passed_fits (script_of outer) (open_in outer + 1) a (omega arith) h.1), h.2, h.4)
pass_fine w p o a l outer k t h = wanted_fine fresh (in_call w p o a l outer) k t ((tt, tt), h)

closed_fine : (f : Factor) (l : Level) (outer : Outer) (k : ℕ) → StateFine (have f l outer) → IfFine (closed f l outer k)
closed_fine f l (in_parens o m outer) k h =
    let g : SumFits (script_of outer) (open_in outer + 1) (sum_of l f) = level_fits (script_of outer) (open_in outer + 1) l f h.1 h.0 in
    ((g.0, omega arith), h.2.0, h.2.2)
closed_fine f l (in_call w p o a m outer) k h =
    let g : SumFits (script_of outer) (open_in outer + 1) (sum_of l f) = level_fits (script_of outer) (open_in outer + 1) l f h.1 h.0 in
    (call_fits outer w p o k (passed (listed_with a (sum_of l f))) h.2.0 (listed_fits (script_of outer) (open_in outer + 1) a (sum_of l f) h.2.1 g), h.2.2, h.2.4)
closed_fine f l (in_print s p o a) k h = (h.2.0, (listed_fits s 1 a (sum_of l f) h.2.1 (level_fits s 1 l f h.1 h.0)).0, (listed_fits s 1 a (sum_of l f) h.2.1 (level_fits s 1 l f h.1 h.0)).1)
closed_fine f l (in_let s t w n q) k h = tt

parted_fine : (f : Factor) (l : Level) (outer : Outer) (k : ℕ) → StateFine (have f l outer) → IfFine (parted f l outer k)
parted_fine f l (in_print s p o a) k h = ((tt, tt), (h.2.0, listed_fits s 1 a (sum_of l f) h.2.1 (level_fits s 1 l f h.1 h.0)))
parted_fine f l (in_call w p o a m outer) k h =
    let g : SumFits (script_of outer) (open_in outer + 1) (sum_of l f) = level_fits (script_of outer) (open_in outer + 1) l f h.1 h.0 in
    (h.2.0, listed_fits (script_of outer) (open_in outer + 1) a (sum_of l f) h.2.1 g, h.2.2, h.2.3, h.2.4)
parted_fine f l _ k h = tt

ended_fine : (f : Factor) (l : Level) (outer : Outer) (k : ℕ) → StateFine (have f l outer) → IfFine (ended f l outer k)
ended_fine f l (in_let s t w n q) k h =
    let g : SumFits s 0 (sum_of l f) = level_fits s 0 l f h.1 h.0 in
    (h.2.0, h.2.1.0, h.2.1.1, g.0, omega arith)
ended_fine f l _ k h = tt

marked_fine : (f : Factor) (l : Level) (outer : Outer) (k : ℕ) (m : Mark) → StateFine (have f l outer) → IfFine (marked f l outer k m)
marked_fine f (level a m) outer k marks.Star h = ((h.1.0, product_fits (script_of outer) (open_in outer) m f h.1.1 h.0), h.2)
marked_fine f (level a m) outer k marks.Plus h = ((level_fits (script_of outer) (open_in outer) (level a m) f h.1 h.0, tt), h.2)
marked_fine f (level a m) outer k marks.Minus h = ((level_fits (script_of outer) (open_in outer) (level a m) f h.1 h.0, tt), h.2)
marked_fine f l outer k marks.Close h = closed_fine f l outer k h
marked_fine f l outer k marks.Comma h = parted_fine f l outer k h
marked_fine f l outer k marks.Semicolon h = ended_fine f l outer k h
marked_fine f l outer k _ h = tt

had_fine : (f : Factor) (l : Level) (outer : Outer) (k : ℕ) (t : TokenKind) → StateFine (have f l outer) → IfFine (had f l outer k t)
had_fine f l outer k (kinds.Mark m) h = marked_fine f l outer k m h
had_fine f l outer k _ h = tt

next_item_fine : (s : Script) (k : ℕ) (t : TokenKind) → IsFine s → IfFine (next_item s k t)
next_item_fine s k (kinds.Word words.Let) h = h
next_item_fine s k (kinds.Name w) h = on (bytes_eq w print_name)
  where
    on : (b : Bool) → IfFine (cond b (Some (print_begun s k)) None)
    on true = h
    on false = tt
next_item_fine s k _ h = tt

let_name_fine : (s : Script) (l k : ℕ) (t : TokenKind) → IsFine s → IfFine (let_name s l k t)
let_name_fine s l k (kinds.Name w) h = on (bytes_eq w print_name) (is_known (declared_by s) w) refl refl
  where
    on : (b c : Bool) → bytes_eq w print_name ≡ b → is_known (declared_by s) w ≡ c → IfFine (cond b None (cond c None (Some (let_named s l w k))))
    on true c e g = tt
    on false true e g = tt
    on false false e g = (h, (known_lacks (declared_by s) w g, other_text w print_name e))
let_name_fine s l k _ h = tt

let_value_fine : (s : Script) (l : ℕ) (w : List ℕ) (n k : ℕ) (t : TokenKind) → StateFine (let_named s l w n) → IfFine (let_value s l w n k t)
let_value_fine s l w n k (kinds.Mark marks.Equals) h = h
let_value_fine s l w n k _ h = tt

valued_fine : (s : Script) (l : ℕ) (w : List ℕ) (n q k : ℕ) (t : TokenKind) → StateFine (let_equals s l w n q) → IfFine (valued s l w n q k t)
valued_fine s l w n q k (kinds.Word words.New) h = (h.0, h.1, refl)
valued_fine s l w n q k t h = wanted_fine fresh (in_let s l w n q) k t ((tt, tt), h)

-- one more token of an instance
fits_more : (read : List Sign) (p : Piece) (left : List Piece) (k : ℕ) (t : TokenKind) (all : List TokenKind) → fits p t ≡ true → map (λ t. t.kind) read ++ map kind_of (p ∷ left) ≡ all
    → map (λ t. t.kind) (read ++ at t k ∷ []) ++ map kind_of left ≡ all
fits_more read p left k t all e h = kinds_on read (at t k) (map kind_of left) ∙ ap (λ z. map (λ t. t.kind) read ++ z ∷ map kind_of left) (fit_is p t e) ∙ h

-- and one that is in no list of pieces
ends_in : (read : List Sign) (t : Sign) (all more : List TokenKind) → map (λ t. t.kind) read ++ [] ≡ all → map (λ t. t.kind) (read ++ t ∷ []) ++ more ≡ all ++ t.kind ∷ more
ends_in read t all more h = kinds_on read t more ∙ ap (λ z. z ++ t.kind ∷ more) (sym (append-nil (map (λ t. t.kind) read)) ∙ h)

file_named_fine : (s : Script) (l : ℕ) (w : List ℕ) (n q : ℕ) (read : List Sign) (left : List Piece) (k : ℕ) (t : TokenKind) → StateFine (before_file s l w n q read left) → IfFine (file_named s l w n q read left k t)
file_named_fine s l w n q read (p ∷ left) k t h = on (fits p t) refl
  where
    on : (b : Bool) → fits p t ≡ b → IfFine (cond b (Some (before_file s l w n q (read ++ at t k ∷ []) left)) None)
    on true e = (h.0, h.1, fits_more read p left k t kinds_before_file e h.2)
    on false e = tt
file_named_fine s l w n q read [] k (kinds.Text file) h = (h.0, h.1, ends_in read (at (kinds.Text file) k) kinds_before_file kinds_after_file h.2)
file_named_fine s l w n q read [] k _ h = tt

export_named_fine : (s : Script) (l : ℕ) (w : List ℕ) (n q : ℕ) (file : List ℕ) (read : List Sign) (left : List Piece) (k : ℕ) (t : TokenKind) → StateFine (after_file s l w n q file read left)
    → IfFine (export_named s l w n q file read left k t)
export_named_fine s l w n q file read (p ∷ left) k t h = on (fits p t) refl
  where
    on : (b : Bool) → fits p t ≡ b → IfFine (cond b (Some (after_file s l w n q file (read ++ at t k ∷ []) left)) None)
    on true e = (h.0, h.1, fits_more read p left k t (kinds_before_file ++ kinds.Text file ∷ kinds_after_file) e h.2)
    on false e = tt
export_named_fine s l w n q file read [] k (kinds.Name e) h = on (bytes_eq e print_name) refl
  where
    on : (b : Bool) → bytes_eq e print_name ≡ b → IfFine (cond b None (Some (instanced s l w n q (record { file = file; export = e; tokens = read ++ at (kinds.Name e) k ∷ [] }))))
    on true f = tt
    on false f = (
      h.0,
      h.1,
      sym (append-nil (map (λ t. t.kind) (read ++ at (kinds.Name e) k ∷ []))) ∙ ends_in read (at (kinds.Name e) k) (kinds_before_file ++ kinds.Text file ∷ kinds_after_file) [] h.2,
      other_text e print_name f,
    )
export_named_fine s l w n q file read [] k _ h = tt

bind_ended_fine : (s : Script) (l : ℕ) (w : List ℕ) (n q : ℕ) (i : Instance) (k : ℕ) (t : TokenKind) → StateFine (instanced s l w n q i) → IfFine (bind_ended s l w n q i k t)
bind_ended_fine s l w n q i k (kinds.Mark marks.Semicolon) h = (h.0, h.1.0, h.1.1, h.2, h.3)
bind_ended_fine s l w n q i k _ h = tt

print_opened_fine : (s : Script) (p k : ℕ) (t : TokenKind) → IsFine s → IfFine (print_opened s p k t)
print_opened_fine s p k (kinds.Mark marks.Open) h = h
print_opened_fine s p k _ h = tt

argued_fine : (s : Script) (p o k : ℕ) (t : TokenKind) → IsFine s → IfFine (argued s p o k t)
argued_fine s p o k (kinds.Mark marks.Close) h = (h, tt, omega arith)
argued_fine s p o k t h = wanted_fine fresh (in_print s p o no_listed) k t ((tt, tt), (h, tt))

print_ended_fine : (s : Script) (p o : ℕ) (a : Arguments) (c k : ℕ) (t : TokenKind) → StateFine (printed s p o a c) → IfFine (print_ended s p o a c k t)
print_ended_fine s p o a c k (kinds.Mark marks.Semicolon) h = h
print_ended_fine s p o a c k _ h = tt

pub steps_fine : (s : State) (t : Sign) → StateFine s → IfFine (step s t)
steps_fine (items s) t h = next_item_fine s t.place t.kind h
steps_fine (let_begun s l) t h = let_name_fine s l t.place t.kind h
steps_fine (let_named s l w n) t h = let_value_fine s l w n t.place t.kind h
steps_fine (let_equals s l w n q) t h = valued_fine s l w n q t.place t.kind h
steps_fine (before_file s l w n q read left) t h = file_named_fine s l w n q read left t.place t.kind h
steps_fine (after_file s l w n q file read left) t h = export_named_fine s l w n q file read left t.place t.kind h
steps_fine (instanced s l w n q i) t h = bind_ended_fine s l w n q i t.place t.kind h
steps_fine (print_begun s p) t h = print_opened_fine s p t.place t.kind h
steps_fine (argument s p o) t h = argued_fine s p o t.place t.kind h
steps_fine (printed s p o a c) t h = print_ended_fine s p o a c t.place t.kind h
steps_fine (want l outer) t h = wanted_fine l outer t.place t.kind h
steps_fine (called w p l outer) t h = call_opened_fine w p l outer t.place t.kind h
steps_fine (passing w p o a l outer) t h = pass_fine w p o a l outer t.place t.kind h
steps_fine (have f l outer) t h = had_fine f l outer t.place t.kind h

goes_on : (ts : List Sign) (r : State) → ((q : State) → StateFine q → run q ts ≡ Some r → StateFine r) → (o : Option State) → IfFine o → (elim o [ None ↦ None | Some q ↦ run q ts ]) ≡ Some r → StateFine r
goes_on ts r ih None h e = cc
goes_on ts r ih (Some q) h e = ih q h e

pub run_fine : (ts : List Sign) (s r : State) → StateFine s → run s ts ≡ Some r → StateFine r
run_fine [] s r h e = let same : s ≡ r = cc in subst StateFine same h
run_fine (t ∷ ts) s r h e = goes_on ts r (λ q g f. run_fine ts q r g f) (step s t) (steps_fine s t h) e
