-- Modules that are read one after the other.
use Rattle.std.proofs.Common.{◌≡◌, ℕ, suc, ◌+◌, ◌<◌, ◌≤◌, List, [], ◌∷◌, ◌++◌, Option, Some, None, Bool, true, false, not, ◌&&◌, ◌||◌, length, map, drop, get_or, refl, sym, ap, ◌∙◌, append_assoc, append-nil, length-append, arith, subst, cond, nat_le}
use Rattle.std.proofs.lemmas.List.{length-map}
use Rattle.std.proofs.lemmas.Bool.Decides.{nat_tests}
use Rattle.std.proofs.lemmas.List.{drop_more}
use Rattle.std.proofs.Math.Seq.{drop-length}
use Rattle.std.specs.Option.{option_map, option_and_then}
use Rattle.std.specs.List.{list_any}
use Rattle.std.specs.Str.{bytes_eq}
use Rattle.embed_cmd.specs.Words.{module_of, all_of, are_distinct, fitting, modules_of, most_modules}

abbrev pub Module : Type 0
Module = List ℕ × List ℕ

-- what the values that are left give after these modules
abbrev pub modules_after : List Module → List (List ℕ) → Option (List Module)
modules_after done values = option_and_then (λ more. fitting (done ++ more)) (all_of (map module_of values))

-- the modules so far, the values that are left, and what all of them give
pub record ModulesLeft (all rest : List (List ℕ)) (done : List Module) : Type 0 where
  pub gives : modules_of all ≡ modules_after done rest
  pub differ : are_distinct (map (λ m. m.0) done) ≡ true
  pub count : length done + length rest ≡ length all

abbrev pub has_name : List Module → List ℕ → Bool
has_name done name = list_any (λ d. bytes_eq d.0 name) done

abbrev has_text : List (List ℕ) → List ℕ → Bool
has_text names name = list_any (λ other. bytes_eq name other) names

or_left : (a b : Bool) → a ≡ true → (a || b) ≡ true
or_left a b h = ap (λ x. x || b) h

or_right : (a b : Bool) → b ≡ true → (a || b) ≡ true
or_right true b h = refl
or_right false b h = h

or_neither : (a b : Bool) → a ≡ false → b ≡ false → (a || b) ≡ false
or_neither a b h k = ap (λ x. x || b) h ∙ k

named_later : (name : List ℕ) (done : List Module) (m : Module) (more : List Module) → bytes_eq name m.0 ≡ true → has_text (map (λ d. d.0) (done ++ m ∷ more)) name ≡ true
named_later name [] m more is = or_left (bytes_eq name m.0) (has_text (map (λ d. d.0) more) name) is
named_later name (d ∷ done) m more is = or_right (bytes_eq name d.0) (has_text (map (λ d. d.0) (done ++ m ∷ more)) name) (named_later name done m more is)

twice_step : (a b t u : Bool) → (a || b) ≡ true → (a ≡ true → t ≡ true) → (b ≡ true → u ≡ false) → (not t && u) ≡ false
twice_step true b t u h f g = ap (λ x. not x && u) (f refl)
twice_step false b true u h f g = refl
twice_step false b false u h f g = g h

-- a name that stands twice
named_twice : (done : List Module) (m : Module) (more : List Module) → has_name done m.0 ≡ true → are_distinct (map (λ d. d.0) (done ++ m ∷ more)) ≡ false
named_twice [] m more is = cc
named_twice (d ∷ done) m more is =
    twice_step (bytes_eq d.0 m.0) (has_name done m.0) (has_text (map (λ e. e.0) (done ++ m ∷ more)) d.0) (are_distinct (map (λ e. e.0) (done ++ m ∷ more))) is (λ h. named_later d.0 done m more h) (λ h. named_twice done m more h)

rest_only : (a b c : Bool) → (a || b) ≡ false → (b ≡ false → c ≡ false) → (a || c) ≡ false
rest_only true b c h f = h
rest_only false b c h f = f h

not_later : (name : List ℕ) (done : List Module) (m : Module) → has_text (map (λ d. d.0) done) name ≡ false → bytes_eq name m.0 ≡ false → has_text (map (λ d. d.0) (done ++ m ∷ [])) name ≡ false
not_later name [] m none is = or_neither (bytes_eq name m.0) false is refl
not_later name (d ∷ done) m none is = rest_only (bytes_eq name d.0) (has_text (map (λ e. e.0) done) name) (has_text (map (λ e. e.0) (done ++ m ∷ [])) name) none (λ h. not_later name done m h is)

more_step : (t u a b v w : Bool) → (not t && u) ≡ true → (a || b) ≡ false → (t ≡ false → a ≡ false → v ≡ false) → (u ≡ true → b ≡ false → w ≡ true) → (not v && w) ≡ true
more_step true u a b v w h k f g = cc
more_step false u true b v w h k f g = cc
more_step false u false b v w h k f g = ap (λ x. not x && w) (f refl refl) ∙ g h k

differ_more : (done : List Module) (m : Module) → are_distinct (map (λ d. d.0) done) ≡ true → has_name done m.0 ≡ false → are_distinct (map (λ d. d.0) (done ++ m ∷ [])) ≡ true
differ_more [] m differ none = refl
differ_more (d ∷ done) m differ none =
    more_step (has_text (map (λ e. e.0) done) d.0) (are_distinct (map (λ e. e.0) done)) (bytes_eq d.0 m.0) (has_name done m.0) (has_text (map (λ e. e.0) (done ++ m ∷ [])) d.0) (are_distinct (map (λ e. e.0) (done ++ m ∷ [])))
    differ none (λ h k. not_later d.0 done m h k) (λ h k. differ_more done m h k)

after_one : (done : List Module) (m : Module) (more : Option (List Module)) → option_and_then (λ xs. fitting (done ++ xs)) (option_map (λ xs. m ∷ xs) more) ≡ option_and_then (λ xs. fitting ((done ++ m ∷ []) ++ xs)) more
after_one done m None = refl
after_one done m (Some xs) = ap fitting (sym (append_assoc done (m ∷ []) xs))

no_fit : (a b : Bool) (ms : List Module) → b ≡ false → cond (a && b) (Some ms) None ≡ None
no_fit true b ms h = ap (λ x. cond x (Some ms) None) h
no_fit false b ms h = refl

after_twice : (done : List Module) (m : Module) (more : Option (List Module)) → has_name done m.0 ≡ true → option_and_then (λ xs. fitting (done ++ xs)) (option_map (λ xs. m ∷ xs) more) ≡ None
after_twice done m None is = refl
after_twice done m (Some xs) is = no_fit (nat_le (length (done ++ m ∷ xs)) most_modules) (are_distinct (map (λ d. d.0) (done ++ m ∷ xs))) (done ++ m ∷ xs) (named_twice done m xs is)

at_first : (done : List Module) (value : List ℕ) (values : List (List ℕ)) (o : Option Module) → module_of value ≡ o
    → modules_after done (value ∷ values) ≡ option_and_then (λ more. fitting (done ++ more)) (option_and_then (λ x. option_map (λ xs. x ∷ xs) (all_of (map module_of values))) o)
at_first done value values o is = ap (λ m. option_and_then (λ more. fitting (done ++ more)) (option_and_then (λ x. option_map (λ xs. x ∷ xs) (all_of (map module_of values))) m)) is

front : (all : List (List ℕ)) (i : ℕ) (d : List ℕ) (done : List Module) → i < length all → ModulesLeft all (drop i all) done → ModulesLeft all (get_or all i d ∷ drop (i + 1) all) done
front all i d done within h = subst (λ xs. ModulesLeft all xs done) (drop_more all i d within) h

-- the next value is a module's with a new name
pub next_module : (all : List (List ℕ)) (i : ℕ) (d : List ℕ) (done : List Module) (m : Module) → i < length all → ModulesLeft all (drop i all) done → module_of (get_or all i d) ≡ Some m → has_name done m.0 ≡ false
    → ModulesLeft all (drop (i + 1) all) (done ++ m ∷ [])
next_module all i d done m within h is new =
    let f = front all i d done within h in
    record {
      gives = f.gives ∙ at_first done (get_or all i d) (drop (i + 1) all) (Some m) is ∙ after_one done m (all_of (map module_of (drop (i + 1) all)));
      differ = differ_more done m h.differ new;
      count = omega (arith, f.count, length-append done (m ∷ []));
    }

-- the next value is no module's
pub no_module : (all : List (List ℕ)) (i : ℕ) (d : List ℕ) (done : List Module) → i < length all → ModulesLeft all (drop i all) done → module_of (get_or all i d) ≡ None → None ≡ modules_of all
no_module all i d done within h is =
    let f = front all i d done within h in
    sym (f.gives ∙ at_first done (get_or all i d) (drop (i + 1) all) None is)

-- the next value is a module's with a name that stands before
pub module_twice : (all : List (List ℕ)) (i : ℕ) (d : List ℕ) (done : List Module) (m : Module) → i < length all → ModulesLeft all (drop i all) done → module_of (get_or all i d) ≡ Some m → has_name done m.0 ≡ true → None ≡ modules_of all
module_twice all i d done m within h is old =
    let f = front all i d done within h in
    sym (f.gives ∙ at_first done (get_or all i d) (drop (i + 1) all) (Some m) is ∙ after_twice done m (all_of (map module_of (drop (i + 1) all))) old)

both_fit : (a b : Bool) (ms : List Module) → a ≡ true → b ≡ true → cond (a && b) (Some ms) None ≡ Some ms
both_fit a b ms h k = ap (λ x. cond (x && b) (Some ms) None) h ∙ ap (λ x. cond x (Some ms) None) k

few : (n : ℕ) → n ≤ 64 → nat_le n most_modules ≡ true
few n h = grind (arith, nat_tests)

-- no value is left
pub all_modules : (all : List (List ℕ)) (i : ℕ) (done : List Module) → i ≡ length all → length all ≤ 64 → ModulesLeft all (drop i all) done → Some done ≡ modules_of all
all_modules all i done at_end some h =
    let none : drop i all ≡ [] = ap (λ j. drop j all) at_end ∙ drop-length all in
    let f = subst (λ xs. ModulesLeft all xs done) none h in
    let size : length done ≤ 64 = omega (arith, f.count) in
    sym (f.gives ∙ ap fitting (append-nil done) ∙ both_fit (nat_le (length done) most_modules) (are_distinct (map (λ m. m.0) done)) done (few (length done) size) h.differ)

tail_count : (m : Module) (o : Option (List Module)) (ms : List Module) (os : List (Option Module)) → option_map (λ xs. m ∷ xs) o ≡ Some ms → ((rest : List Module) → o ≡ Some rest → length rest ≡ length os) → length ms ≡ suc (length os)
tail_count m None ms os is f = cc
tail_count m (Some rest) ms os is f = let same : ms ≡ m ∷ rest = cc in ap length same ∙ ap suc (f rest refl)

all_count : (os : List (Option Module)) (ms : List Module) → all_of os ≡ Some ms → length ms ≡ length os
all_count [] ms is = let same : ms ≡ [] = cc in ap length same
all_count (None ∷ os) ms is = cc
all_count (Some m ∷ os) ms is = tail_count m (all_of os) ms os is (λ rest h. all_count os rest h)

many : (n : ℕ) → 64 < n → nat_le n most_modules ≡ false
many n h = grind (arith, nat_tests)

too_long : (o : Option (List Module)) (n : ℕ) → 64 < n → ((ms : List Module) → o ≡ Some ms → length ms ≡ n) → option_and_then fitting o ≡ None
too_long None n h f = refl
too_long (Some ms) n h f =
    let size : 64 < length ms = omega (arith, f ms refl) in
    ap (λ x. cond (x && are_distinct (map (λ m. m.0) ms)) (Some ms) None) (many (length ms) size)

-- more values than modules may be
pub too_many : (all : List (List ℕ)) → 64 < length all → None ≡ modules_of all
too_many all h = sym (too_long (all_of (map module_of all)) (length all) h (λ ms is. all_count (map module_of all) ms is ∙ simp length-map))
