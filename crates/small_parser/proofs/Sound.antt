-- What the machine has read is what its state spells.
use Rattle.std.specs.Prelude.{◌≡◌, ℕ, List, [], ◌∷◌, ◌++◌, Option, Some, None, Bool, true, false, cond, nat_lt, refl}
use Rattle.std.specs.Str.{bytes_eq}
use Rattle.std.proofs.Common.{sym, ◌∙◌, ap, append_assoc}
use Rattle.std.proofs.lemmas.Slice.Eq.{bytes_eq-Decides}
use Rattle.small_lexer.specs.declared.token.Word.TheVariants as words
use Rattle.small_lexer.specs.declared.token.Mark.{Mark}
use Rattle.small_lexer.specs.declared.token.Mark.TheVariants as marks
use Rattle.small_lexer.specs.declared.token.TokenKind.{TokenKind}
use Rattle.small_lexer.specs.declared.token.TokenKind.TheVariants as kinds
use Rattle.small_parser.specs.declared.instance.Piece.{Piece}
use Rattle.small_parser.specs.Grammar.{Sum, Product, Factor, Script, Instance, Arguments, Sign, at, name, factor_then, sum_then, product_then, listed_then, passed_then, script_then, declared_by, bound_by, most_open, print_name}
use Rattle.small_parser.specs.Pieces.{fits}
use Rattle.small_parser.specs.Machine.{BeforeSum, no_sum, sum_before, BeforeProduct, no_product, product_before, BeforeListed, no_listed, listed_before, Level, level, fresh, Outer, in_let, in_print, in_parens, in_call, State, items, let_begun, let_named, let_equals, before_file, after_file, instanced, print_begun, argument, printed, want, called, passing, have, product_with, sum_with, listed_with, passed_with, sum_of, script_of, open_in, is_known, named, opened, wanted, call_opened, pass, closed, parted, ended, marked, had, next_item, let_name, let_value, valued, file_named, export_named, bind_ended, equals_then, print_opened, argued, print_ended, step, run, before_sum_then, before_product_then, before_listed_then, level_then, state_then}

product_with_then : (m : BeforeProduct) (f : Factor) (y : List Sign) → product_then (product_with m f) y ≡ before_product_then m (factor_then f y)
product_with_then no_product f y = refl
product_with_then (product_before m k) f y = refl

sum_with_then : (a : BeforeSum) (m : Product) (y : List Sign) → sum_then (sum_with a m) y ≡ before_sum_then a (product_then m y)
sum_with_then no_sum m y = refl
sum_with_then (sum_before a o k) m y = refl

listed_with_then : (a : BeforeListed) (e : Sum) (y : List Sign) → listed_then (listed_with a e) y ≡ before_listed_then a (sum_then e y)
listed_with_then no_listed e y = refl
listed_with_then (listed_before l k) e y = refl

passed_with_then : (a : BeforeListed) (y : List Sign) → passed_then (passed_with a) y ≡ before_listed_then a y
passed_with_then no_listed y = refl
passed_with_then (listed_before l k) y = refl

pub sum_of_then : (l : Level) (f : Factor) (y : List Sign) → sum_then (sum_of l f) y ≡ level_then l (factor_then f y)
sum_of_then (level a m) f y = sum_with_then a (product_with m f) y ∙ ap (before_sum_then a) (product_with_then m f y)

-- what a state spells that a function's text goes on with, where there is one
abbrev pub Spells : Option State → (List Sign → List Sign) → Sign → Type 0
Spells None f t = Unit {0}
Spells (Some r) f t = (y : List Sign) → state_then r y ≡ f (t ∷ y)

named_spells : (l : Level) (outer : Outer) (k : ℕ) (w : List ℕ) → Spells (named l outer k w) (state_then (want l outer)) (at (kinds.Name w) k)
named_spells l outer k w = on (is_known (bound_by (script_of outer)) w) (is_known (declared_by (script_of outer)) w)
  where
    on : (b c : Bool) → Spells (cond b (Some (called w k l outer)) (cond c (Some (have (name w k) l outer)) None)) (state_then (want l outer)) (at (kinds.Name w) k)
    on true c = λ y. refl
    on false true = λ y. refl
    on false false = tt

opened_spells : (l : Level) (outer : Outer) (k : ℕ) → Spells (opened l outer k) (state_then (want l outer)) (at (kinds.Mark marks.Open) k)
opened_spells l outer k = on (nat_lt (open_in outer) most_open)
  where
    on : (b : Bool) → Spells (cond b (Some (want fresh (in_parens k l outer))) None) (state_then (want l outer)) (at (kinds.Mark marks.Open) k)
    on true = λ y. refl
    on false = tt

wanted_spells : (l : Level) (outer : Outer) (k : ℕ) (t : TokenKind) → Spells (wanted l outer k t) (state_then (want l outer)) (at t k)
wanted_spells l outer k (kinds.Number n) = λ y. refl
wanted_spells l outer k (kinds.Text s) = λ y. refl
wanted_spells l outer k (kinds.Name w) = named_spells l outer k w
wanted_spells l outer k (kinds.Mark marks.Open) = opened_spells l outer k
wanted_spells l outer k _ = tt

call_opened_spells : (w : List ℕ) (p : ℕ) (l : Level) (outer : Outer) (k : ℕ) (t : TokenKind) → Spells (call_opened w p l outer k t) (state_then (called w p l outer)) (at t k)
call_opened_spells w p l outer k (kinds.Mark marks.Open) = on (nat_lt (open_in outer) most_open)
  where
    on : (b : Bool) → Spells (cond b (Some (passing w p k no_listed l outer)) None) (state_then (called w p l outer)) (at (kinds.Mark marks.Open) k)
    on true = λ y. refl
    on false = tt
call_opened_spells w p l outer k _ = tt

pass_spells : (w : List ℕ) (p o : ℕ) (a : BeforeListed) (l : Level) (outer : Outer) (k : ℕ) (t : TokenKind) → Spells (pass w p o a l outer k t) (state_then (passing w p o a l outer)) (at t k)
pass_spells w p o a l outer k (kinds.Mark marks.Close) = λ y. simp passed_with_then
pass_spells w p o a l outer k t = wanted_spells fresh (in_call w p o a l outer) k t

closed_spells : (f : Factor) (l : Level) (outer : Outer) (k : ℕ) → Spells (closed f l outer k) (state_then (have f l outer)) (at (kinds.Mark marks.Close) k)
closed_spells f l (in_parens o m outer) k = λ y. simp sum_of_then
closed_spells f l (in_call w p o a m outer) k = λ y. simp (listed_with_then, sum_of_then)
closed_spells f l (in_print s p o a) k = λ y. simp (listed_with_then, sum_of_then)
closed_spells f l (in_let s t w n q) k = tt

parted_spells : (f : Factor) (l : Level) (outer : Outer) (k : ℕ) → Spells (parted f l outer k) (state_then (have f l outer)) (at (kinds.Mark marks.Comma) k)
parted_spells f l (in_print s p o a) k = λ y. simp (listed_with_then, sum_of_then)
parted_spells f l (in_call w p o a m outer) k = λ y. simp (listed_with_then, sum_of_then)
parted_spells f l _ k = tt

ended_spells : (f : Factor) (l : Level) (outer : Outer) (k : ℕ) → Spells (ended f l outer k) (state_then (have f l outer)) (at (kinds.Mark marks.Semicolon) k)
ended_spells f l (in_let s t w n q) k = λ y. simp sum_of_then
ended_spells f l _ k = tt

marked_spells : (f : Factor) (l : Level) (outer : Outer) (k : ℕ) (m : Mark) → Spells (marked f l outer k m) (state_then (have f l outer)) (at (kinds.Mark m) k)
marked_spells f (level a m) outer k marks.Star = λ y. simp product_with_then
marked_spells f (level a m) outer k marks.Plus = λ y. simp (sum_with_then, product_with_then)
marked_spells f (level a m) outer k marks.Minus = λ y. simp (sum_with_then, product_with_then)
marked_spells f l outer k marks.Close = closed_spells f l outer k
marked_spells f l outer k marks.Comma = parted_spells f l outer k
marked_spells f l outer k marks.Semicolon = ended_spells f l outer k
marked_spells f l outer k _ = tt

had_spells : (f : Factor) (l : Level) (outer : Outer) (k : ℕ) (t : TokenKind) → Spells (had f l outer k t) (state_then (have f l outer)) (at t k)
had_spells f l outer k (kinds.Mark m) = marked_spells f l outer k m
had_spells f l outer k _ = tt

next_item_spells : (s : Script) (k : ℕ) (t : TokenKind) → Spells (next_item s k t) (state_then (items s)) (at t k)
next_item_spells s k (kinds.Word words.Let) = λ y. refl
next_item_spells s k (kinds.Name w) = on (bytes_eq w print_name) refl
  where
    on : (b : Bool) → bytes_eq w print_name ≡ b → Spells (cond b (Some (print_begun s k)) None) (state_then (items s)) (at (kinds.Name w) k)
    on true e = λ y. ap (λ v. script_then s (at (kinds.Name v) k ∷ y)) (sym ((bytes_eq-Decides w print_name).0 e))
    on false e = tt
next_item_spells s k _ = tt

let_name_spells : (s : Script) (l k : ℕ) (t : TokenKind) → Spells (let_name s l k t) (state_then (let_begun s l)) (at t k)
let_name_spells s l k (kinds.Name w) = on (bytes_eq w print_name) (is_known (declared_by s) w)
  where
    on : (b c : Bool) → Spells (cond b None (cond c None (Some (let_named s l w k)))) (state_then (let_begun s l)) (at (kinds.Name w) k)
    on true c = tt
    on false true = tt
    on false false = λ y. refl
let_name_spells s l k _ = tt

let_value_spells : (s : Script) (l : ℕ) (w : List ℕ) (n k : ℕ) (t : TokenKind) → Spells (let_value s l w n k t) (state_then (let_named s l w n)) (at t k)
let_value_spells s l w n k (kinds.Mark marks.Equals) = λ y. refl
let_value_spells s l w n k _ = tt

valued_spells : (s : Script) (l : ℕ) (w : List ℕ) (n q k : ℕ) (t : TokenKind) → Spells (valued s l w n q k t) (state_then (let_equals s l w n q)) (at t k)
valued_spells s l w n q k (kinds.Word words.New) = λ y. refl
valued_spells s l w n q k t = wanted_spells fresh (in_let s l w n q) k t

-- one more token of an instance
read_on : (s : Script) (l : ℕ) (w : List ℕ) (n q : ℕ) (read : List Sign) (t : Sign) (y : List Sign) → equals_then s l w n q ((read ++ t ∷ []) ++ y) ≡ equals_then s l w n q (read ++ t ∷ y)
read_on s l w n q read t y = ap (equals_then s l w n q) (append_assoc read (t ∷ []) y)

file_named_spells : (s : Script) (l : ℕ) (w : List ℕ) (n q : ℕ) (read : List Sign) (left : List Piece) (k : ℕ) (t : TokenKind) → Spells (file_named s l w n q read left k t) (state_then (before_file s l w n q read left)) (at t k)
file_named_spells s l w n q read (p ∷ left) k t = on (fits p t)
  where
    on : (b : Bool) → Spells (cond b (Some (before_file s l w n q (read ++ at t k ∷ []) left)) None) (state_then (before_file s l w n q read (p ∷ left))) (at t k)
    on true = λ y. read_on s l w n q read (at t k) y
    on false = tt
file_named_spells s l w n q read [] k (kinds.Text file) = λ y. read_on s l w n q read (at (kinds.Text file) k) y
file_named_spells s l w n q read [] k _ = tt

export_named_spells : (s : Script) (l : ℕ) (w : List ℕ) (n q : ℕ) (file : List ℕ) (read : List Sign) (left : List Piece) (k : ℕ) (t : TokenKind)
    → Spells (export_named s l w n q file read left k t) (state_then (after_file s l w n q file read left)) (at t k)
export_named_spells s l w n q file read (p ∷ left) k t = on (fits p t)
  where
    on : (b : Bool) → Spells (cond b (Some (after_file s l w n q file (read ++ at t k ∷ []) left)) None) (state_then (after_file s l w n q file read (p ∷ left))) (at t k)
    on true = λ y. read_on s l w n q read (at t k) y
    on false = tt
export_named_spells s l w n q file read [] k (kinds.Name e) = on (bytes_eq e print_name)
  where
    on : (b : Bool) → Spells (cond b None (Some (instanced s l w n q (record { file = file; export = e; tokens = read ++ at (kinds.Name e) k ∷ [] })))) (state_then (after_file s l w n q file read [])) (at (kinds.Name e) k)
    on true = tt
    on false = λ y. read_on s l w n q read (at (kinds.Name e) k) y
export_named_spells s l w n q file read [] k _ = tt

bind_ended_spells : (s : Script) (l : ℕ) (w : List ℕ) (n q : ℕ) (i : Instance) (k : ℕ) (t : TokenKind) → Spells (bind_ended s l w n q i k t) (state_then (instanced s l w n q i)) (at t k)
bind_ended_spells s l w n q i k (kinds.Mark marks.Semicolon) = λ y. refl
bind_ended_spells s l w n q i k _ = tt

print_opened_spells : (s : Script) (p k : ℕ) (t : TokenKind) → Spells (print_opened s p k t) (state_then (print_begun s p)) (at t k)
print_opened_spells s p k (kinds.Mark marks.Open) = λ y. refl
print_opened_spells s p k _ = tt

argued_spells : (s : Script) (p o k : ℕ) (t : TokenKind) → Spells (argued s p o k t) (state_then (argument s p o)) (at t k)
argued_spells s p o k (kinds.Mark marks.Close) = λ y. refl
argued_spells s p o k t = wanted_spells fresh (in_print s p o no_listed) k t

print_ended_spells : (s : Script) (p o : ℕ) (a : Arguments) (c k : ℕ) (t : TokenKind) → Spells (print_ended s p o a c k t) (state_then (printed s p o a c)) (at t k)
print_ended_spells s p o a c k (kinds.Mark marks.Semicolon) = λ y. refl
print_ended_spells s p o a c k _ = tt

pub steps_spell : (s : State) (t : Sign) → Spells (step s t) (state_then s) t
steps_spell (items s) t = next_item_spells s t.place t.kind
steps_spell (let_begun s l) t = let_name_spells s l t.place t.kind
steps_spell (let_named s l w n) t = let_value_spells s l w n t.place t.kind
steps_spell (let_equals s l w n q) t = valued_spells s l w n q t.place t.kind
steps_spell (before_file s l w n q read left) t = file_named_spells s l w n q read left t.place t.kind
steps_spell (after_file s l w n q file read left) t = export_named_spells s l w n q file read left t.place t.kind
steps_spell (instanced s l w n q i) t = bind_ended_spells s l w n q i t.place t.kind
steps_spell (print_begun s p) t = print_opened_spells s p t.place t.kind
steps_spell (argument s p o) t = argued_spells s p o t.place t.kind
steps_spell (printed s p o a c) t = print_ended_spells s p o a c t.place t.kind
steps_spell (want l outer) t = wanted_spells l outer t.place t.kind
steps_spell (called w p l outer) t = call_opened_spells w p l outer t.place t.kind
steps_spell (passing w p o a l outer) t = pass_spells w p o a l outer t.place t.kind
steps_spell (have f l outer) t = had_spells f l outer t.place t.kind

-- a run that ends in r spells what r spells
goes_on : (ts : List Sign) (s r : State) (t : Sign) (y : List Sign) → ((q : State) → run q ts ≡ Some r → state_then r y ≡ state_then q (ts ++ y))
    → (o : Option State) → Spells o (state_then s) t → (elim o [ None ↦ None | Some q ↦ run q ts ]) ≡ Some r → state_then r y ≡ state_then s (t ∷ (ts ++ y))
goes_on ts s r t y ih None h e = cc
goes_on ts s r t y ih (Some q) h e = ih q e ∙ h (ts ++ y)

pub run_spells : (ts : List Sign) (s r : State) (y : List Sign) → run s ts ≡ Some r → state_then r y ≡ state_then s (ts ++ y)
run_spells [] s r y e = let same : s ≡ r = cc in ap (λ x. state_then x y) (sym same)
run_spells (t ∷ ts) s r y e = goes_on ts s r t y (λ q f. run_spells ts q r y f) (step s t) (steps_spell s t) e
