-- The values of expressions, one after the other.
use Rattle.std.proofs.Common.{◌≡◌, ℕ, suc, List, [], ◌∷◌, ◌++◌, Ok, Err, length, refl, sym, ap, ◌∙◌, subst}
use Rattle.small_parser.specs.declared.script.NodeId.{NodeId}
use Rattle.small_parser.specs.declared.script.Node.{Node}
use Rattle.small_parser.specs.Grammar.{Sum, Listed, single, comma, Passed, unlisted, passed, passed_more, Arguments, none, listed}
use Rattle.small_parser.specs.Shows.{ListedShows, PassedShow, ArgumentsShow}
use Rattle.embed_script.specs.declared.state.State.{State}
use Rattle.embed_script.specs.declared.value.Value.{Value}
use Rattle.embed_script.specs.Ends.{and_then}
use Rattle.embed_script.specs.Evaluation.{Bindings, Answer, Answers, sum_value, listed_values, passed_values, arguments_values}
use Rattle.embed_script.specs.Tasks.{SumsShow, listed_expressions, passed_expressions, expressions_of, values_of}

-- a value before the values of others
abbrev pub before : Value → Answers → Answers
before v y = and_then y (λ ws. Ok (v ∷ ws.0, ws.1))

-- values, and one more after them
abbrev behind : Bindings → Sum → Answers → Answers
behind b e y = and_then y (λ vs. and_then (sum_value b e vs.1) (λ v. Ok (vs.0 ++ v.0 ∷ [], v.1)))

third : (z : Answer) (u : Value) (vs : List Value) → before u (and_then z (λ v. Ok (vs ++ v.0 ∷ [], v.1))) ≡ and_then z (λ v. Ok ((u ∷ vs) ++ v.0 ∷ [], v.1))
third (Ok v) u vs = refl
third (Err e) u vs = refl

second : (b : Bindings) (e : Sum) (y : Answers) (u : Value) → before u (behind b e y) ≡ behind b e (before u y)
second b e (Ok vs) u = third (sum_value b e vs.1) u vs.0
second b e (Err end) u = refl

first : (b : Bindings) (e : Sum) (x : Answer) (f g : State → Answers) → ((n : State) → f n ≡ behind b e (g n)) → and_then x (λ v. before v.0 (f v.1)) ≡ behind b e (and_then x (λ v. before v.0 (g v.1)))
first b e (Ok v) f g h = ap (before v.0) (h v.1) ∙ second b e (g v.1) v.0
first b e (Err end) f g h = refl

values_more : (b : Bindings) (es : List Sum) (e : Sum) (left : State) → values_of b (es ++ e ∷ []) left ≡ behind b e (values_of b es left)
values_more b [] e left = refl
values_more b (d ∷ es) e left = first b e (sum_value b d left) (values_of b (es ++ e ∷ [])) (values_of b es) (values_more b es e)

listed_are : (b : Bindings) (l : Listed) (left : State) → values_of b (listed_expressions l) left ≡ listed_values b l left
listed_are b (single e) left = refl
listed_are b (comma l k e) left = values_more b (listed_expressions l) e left ∙ ap (behind b e) (listed_are b l left)

-- the arguments of a call, and those of `print`
pub passed_are : (b : Bindings) (a : Passed) (left : State) → values_of b (passed_expressions a) left ≡ passed_values b a left
passed_are b unlisted left = refl
passed_are b (passed l) left = listed_are b l left
passed_are b (passed_more l k) left = listed_are b l left

pub arguments_are : (b : Bindings) (a : Arguments) (left : State) → values_of b (expressions_of a) left ≡ arguments_values b a left
arguments_are b none left = refl
arguments_are b (listed l) left = listed_are b l left

count_second : (y : Answers) (v : Value) (n : ℕ) (x : List Value × State) → ((ws : List Value × State) → y ≡ Ok ws → length ws.0 ≡ n) → before v y ≡ Ok x → length x.0 ≡ suc n
count_second (Ok ws) v n x h is = let same : (v ∷ ws.0, ws.1) ≡ x = cc in ap (λ p. length p.0) (sym same) ∙ ap suc (h ws refl)
count_second (Err e) v n x h is = cc

count_first : (a : Answer) (g : State → Answers) (n : ℕ) (x : List Value × State) → ((left : State) (ws : List Value × State) → g left ≡ Ok ws → length ws.0 ≡ n) → and_then a (λ v. before v.0 (g v.1)) ≡ Ok x → length x.0 ≡ suc n
count_first (Ok v) g n x h is = count_second (g v.1) v.0 n x (h v.1) is
count_first (Err e) g n x h is = cc

-- there are as many values as expressions
pub values_count : (b : Bindings) (es : List Sum) (left : State) (x : List Value × State) → values_of b es left ≡ Ok x → length x.0 ≡ length es
values_count b [] left x is = let same : ([], left) ≡ x = cc in ap (λ p. length p.0) (sym same)
values_count b (e ∷ es) left x is = count_first (sum_value b e left) (values_of b es) (length es) x (values_count b es) is

sums_append : (nodes : List Node) (es fs : List Sum) (ids js : List NodeId) → SumsShow nodes es ids → SumsShow nodes fs js → SumsShow nodes (es ++ fs) (ids ++ js)
sums_append nodes [] fs [] js h k = k
sums_append nodes (e ∷ es) fs (id ∷ ids) js h k = (h.0, sums_append nodes es fs ids js h.1 k)
sums_append nodes [] fs (id ∷ ids) js h k = absurd h
sums_append nodes (e ∷ es) fs [] js h k = absurd h

pub sums_count : (nodes : List Node) (es : List Sum) (ids : List NodeId) → SumsShow nodes es ids → length ids ≡ length es
sums_count nodes [] [] h = refl
sums_count nodes (e ∷ es) (id ∷ ids) h = ap suc (sums_count nodes es ids h.1)
sums_count nodes [] (id ∷ ids) h = absurd h
sums_count nodes (e ∷ es) [] h = absurd h

-- the nodes of a list show its expressions
pub listed_show : (l : Listed) (nodes : List Node) (ids : List NodeId) → ListedShows l nodes ids → SumsShow nodes (listed_expressions l) ids
listed_show (single e) nodes ids (x, is, shows) = subst (λ xs. SumsShow nodes (e ∷ []) xs) (sym is) (shows, tt)
listed_show (comma l k e) nodes ids (front, x, is, (more, shows)) =
    subst (λ xs. SumsShow nodes (listed_expressions l ++ e ∷ []) xs) (sym is) (sums_append nodes (listed_expressions l) (e ∷ []) front (x ∷ []) (listed_show l nodes front more) (shows, tt))

pub passed_show : (a : Passed) (nodes : List Node) (ids : List NodeId) → PassedShow a nodes ids → SumsShow nodes (passed_expressions a) ids
passed_show unlisted nodes ids is = subst (λ xs. SumsShow nodes [] xs) (sym is) tt
passed_show (passed l) nodes ids h = listed_show l nodes ids h
passed_show (passed_more l k) nodes ids h = listed_show l nodes ids h

pub arguments_show : (a : Arguments) (nodes : List Node) (ids : List NodeId) → ArgumentsShow a nodes ids → SumsShow nodes (expressions_of a) ids
arguments_show none nodes ids is = subst (λ xs. SumsShow nodes [] xs) (sym is) tt
arguments_show (listed l) nodes ids h = listed_show l nodes ids h
