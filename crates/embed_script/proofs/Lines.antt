-- Lists of expressions and their values, and the lines that they make.
use Rattle.std.proofs.Common.{◌≡◌, ℕ, ◌+◌, ◌<◌, List, [], ◌∷◌, ◌++◌, Option, Some, None, Ok, Err, IfSome, length, drop, take, get_or, map, refl, sym, ap, ◌∙◌, subst, append_assoc, arith, length-take, append-nil}
use Rattle.std.proofs.lemmas.List.{map-append, length-map, take_more, drop_more}
use Rattle.std.proofs.Math.Seq.{drop-length}
use Rattle.std.specs.List.{join_with_byte}
use Rattle.small_parser.specs.declared.script.NodeId.{NodeId}
use Rattle.small_parser.specs.declared.script.Node.{Node}
use Rattle.small_parser.specs.Grammar.{Sum}
use Rattle.small_parser.specs.Shows.{SumShows}
use Rattle.embed_script.specs.declared.state.State.{State}
use Rattle.embed_script.specs.declared.value.Value.{Value}
use Rattle.embed_script.specs.Values.{shown_of}
use Rattle.embed_script.specs.Ends.{End, and_then}
use Rattle.embed_script.specs.Evaluation.{Bindings, Answers, sum_value}
use Rattle.embed_script.specs.declared.stop.Stop.{Stop}
use Rattle.embed_script.specs.Stops.{end_of, Ends}
use Rattle.embed_script.specs.Outcome.{line_of}
use Rattle.embed_script.specs.Tasks.{SumsShow, values_of}

-- more values before those of an answer
abbrev pub after_values : List Value → Answers → Answers
after_values vs (Ok ws) = Ok (vs ++ ws.0, ws.1)
after_values vs (Err e) = Err e

-- the expressions that are left, and what all of them give
pub record ValuesLeft (nodes : List Node) (b : Bindings) (answer : Answers) (ids : List NodeId) (done : List Value) (left : State) : Type 0 where
  pub rest : List Sum
  pub shown : SumsShow nodes rest ids
  pub gives : answer ≡ after_values done (values_of b rest left)

-- words with a byte between each two, and one word more
join_more : (c : ℕ) (x : List ℕ) (xs : List (List ℕ)) (y : List ℕ) → join_with_byte c (x ∷ (xs ++ y ∷ [])) ≡ join_with_byte c (x ∷ xs) ++ (c ∷ y)
join_more c x [] y = refl
join_more c x (z ∷ zs) y = ap (λ w. x ++ (c ∷ w)) (join_more c z zs y) ∙ sym (append_assoc x (c ∷ join_with_byte c (z ∷ zs)) (c ∷ y))

join_snoc : (c : ℕ) (xs : List (List ℕ)) (y : List ℕ) → 0 < length xs → join_with_byte c (xs ++ y ∷ []) ≡ join_with_byte c xs ++ (c ∷ y)
join_snoc c [] y h = absurd (omega (arith, h))
join_snoc c (x ∷ xs) y h = join_more c x xs y

-- a line with one value more
pub line_next : (vs : List Value) (i : ℕ) (v : Value) → 0 < i → i < length vs → v ≡ get_or vs i v → line_of (take (i + 1) vs) ≡ line_of (take i vs) ++ (32 ∷ shown_of v)
line_next vs i v some within is =
    let taken : take (i + 1) vs ≡ take i vs ++ v ∷ [] = take_more vs i v within ∙ ap (λ w. take i vs ++ w ∷ []) (sym is) in
    let many : 0 < length (map shown_of (take i vs)) = rw length-map (omega (arith, length-take i vs)) in
    ap line_of taken ∙ ap (λ ws. join_with_byte 32 ws) (map-append shown_of (take i vs) (v ∷ [])) ∙ join_snoc 32 (map shown_of (take i vs)) (shown_of v) many

pub line_first : (vs : List Value) (i : ℕ) (v : Value) → i ≡ 0 → i < length vs → v ≡ get_or vs i v → line_of (take (i + 1) vs) ≡ line_of (take i vs) ++ shown_of v
line_first vs i v none within is =
    let taken : take (i + 1) vs ≡ take i vs ++ v ∷ [] = take_more vs i v within ∙ ap (λ w. take i vs ++ w ∷ []) (sym is) in
    let empty : take i vs ≡ [] = ap (λ j. take j vs) none in
    ap line_of (taken ∙ ap (λ ws. ws ++ v ∷ []) empty) ∙ sym (ap (λ ws. line_of ws ++ shown_of v) empty)

-- the first of the expressions that are left
pub record Front (nodes : List Node) (b : Bindings) (answer : Answers) (id : NodeId) (ids : List NodeId) (done : List Value) (left : State) : Type 0 where
  pub first : Sum
  pub rest : List Sum
  pub first_shown : SumShows first nodes id.0
  pub rest_shown : SumsShow nodes rest ids
  pub gives : answer ≡ after_values done (values_of b (first ∷ rest) left)

front_of : (nodes : List Node) (b : Bindings) (answer : Answers) (id : NodeId) (ids : List NodeId) (done : List Value) (left : State) (es : List Sum)
    → SumsShow nodes es (id ∷ ids) → answer ≡ after_values done (values_of b es left) → Front nodes b answer id ids done left
front_of nodes b answer id ids done left [] shown gives = absurd shown
front_of nodes b answer id ids done left (e ∷ es) shown gives = record { first = e; rest = es; first_shown = shown.0; rest_shown = shown.1; gives = gives }

pub front : (nodes : List Node) (b : Bindings) (answer : Answers) (ids : List NodeId) (i : ℕ) (d : NodeId) (done : List Value) (left : State) → i < length ids
    → ValuesLeft nodes b answer (drop i ids) done left → Front nodes b answer (get_or ids i d) (drop (i + 1) ids) done left
front nodes b answer ids i d done left within h =
    front_of nodes b answer (get_or ids i d) (drop (i + 1) ids) done left h.rest (subst (λ xs. SumsShow nodes h.rest xs) (drop_more ids i d within) h.shown) h.gives

one_more : (done : List Value) (v : Value) (r : Answers) → after_values done (and_then r (λ vs. Ok (v ∷ vs.0, vs.1))) ≡ after_values (done ++ v ∷ []) r
one_more done v (Ok ws) = ap (λ vs. Ok (vs, ws.1)) (sym (append_assoc done (v ∷ []) ws.0))
one_more done v (Err e) = refl

-- its value is one more of the values
pub value_done : (nodes : List Node) (b : Bindings) (answer : Answers) (id : NodeId) (ids : List NodeId) (v : Value) (done more : List Value) (left rest : State) (f : Front nodes b answer id ids done left)
    → sum_value b f.first left ≡ Ok (v, rest) → more ≡ done ++ v ∷ [] → ValuesLeft nodes b answer ids more rest
value_done nodes b answer id ids v done more left rest f is grown =
    subst (λ vs. ValuesLeft nodes b answer ids vs rest) (sym grown) (record {
      rest = f.rest;
      shown = f.rest_shown;
      gives = f.gives ∙ ap (λ r. after_values done (and_then r (λ w. and_then (values_of b f.rest w.1) (λ vs. Ok (w.0 ∷ vs.0, vs.1))))) is ∙ one_more done v (values_of b f.rest rest);
    })

ended_all : (b : Bindings) (o : Option End) (e : Sum) (es : List Sum) (left : State) (done : List Value) (answer : Answers) → answer ≡ after_values done (values_of b (e ∷ es) left)
    → IfSome o (λ end. sum_value b e left ≡ Err end) → IfSome o (λ end. answer ≡ Err end)
ended_all b None e es left done answer gives h = tt
ended_all b (Some end) e es left done answer gives h = gives ∙ ap (λ r. after_values done (and_then r (λ w. and_then (values_of b es w.1) (λ vs. Ok (w.0 ∷ vs.0, vs.1))))) h

-- its end is that of all
pub end_of_all : (nodes : List Node) (b : Bindings) (answer : Answers) (id : NodeId) (ids : List NodeId) (done : List Value) (left : State) (stop : Stop) (f : Front nodes b answer id ids done left)
    → Ends stop (sum_value b f.first left) → Ends stop answer
end_of_all nodes b answer id ids done left stop f h = ended_all b (end_of stop) f.first f.rest left done answer f.gives h

none_left : (nodes : List Node) (b : Bindings) (answer : Answers) (done : List Value) (left : State) (es : List Sum) → SumsShow nodes es [] → answer ≡ after_values done (values_of b es left) → answer ≡ Ok (done, left)
none_left nodes b answer done left [] shown gives = gives ∙ ap (λ vs. Ok (vs, left)) (append-nil done)
none_left nodes b answer done left (e ∷ es) shown gives = absurd shown

-- where no expression is left, the values are those of all
pub all_done : (nodes : List Node) (b : Bindings) (answer : Answers) (ids : List NodeId) (i : ℕ) (done : List Value) (left : State) → i ≡ length ids → ValuesLeft nodes b answer (drop i ids) done left → answer ≡ Ok (done, left)
all_done nodes b answer ids i done left at_end h =
    let none : drop i ids ≡ [] = ap (λ j. drop j ids) at_end ∙ drop-length ids in
    none_left nodes b answer done left h.rest (subst (λ xs. SumsShow nodes h.rest xs) none h.shown) h.gives
