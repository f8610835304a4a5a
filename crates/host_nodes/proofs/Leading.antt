-- The tokens of a script lead the builder to its tree.
use Rattle.std.specs.Prelude.{◌≡◌, ℕ, ◌+◌, ◌<◌, ◌≤◌, List, [], ◌∷◌, Option, Some, None, map, drop, length, get_or, refl}
use Rattle.std.proofs.Common.{sym, ◌∙◌, ap, subst}
use Rattle.std.proofs.lemmas.List.{drop_more, drop_all}
use Rattle.host_lexer.specs.declared.token.Token.{Token}
use Rattle.host_grammar.specs.Derivations.{Script}
use Rattle.host_grammar.specs.Conditions.{IsScript}
use Rattle.host_grammar.specs.Printing.{seen}
use Rattle.host_grammar.specs.Machine.{State, items, in_script, start, step, run, accept}
use Rattle.host_nodes.specs.declared.builder.Builder.{Builder}
use Rattle.host_nodes.specs.declared.builder.Built.{Built}
use Rattle.host_nodes.specs.Building as b
use Rattle.host_nodes.specs.Built.{IsBuilt}
use Rattle.host_nodes.specs.Images.{image}
use Rattle.host_nodes.proofs.Builds.{Sim, moves_sim, ended_builds, starts}

-- what was read, and what is left
pub record Builds (ts rest : List Token) (x : Builder) : Type 0 where
  pub state : State
  pub is : x ≡ image state
  pub left : run start (map seen ts) ≡ run state (map seen rest)

-- the tokens are a script's
pub record Accepts (ts : List Token) (x : Script) : Type 0 where
  pub last : State
  pub runs : run start (map seen ts) ≡ Some last
  pub accepts : accept last ≡ Some x

abbrev pub Complete : List Token → Type 0
Complete ts = (x : Script) → IsScript (map seen ts) x → (s : State) × (run start (map seen ts) ≡ Some s) × (accept s ≡ Some x)

pub accepted : (ts : List Token) → Complete ts → (x : Script) → IsScript (map seen ts) x → Accepts ts x
accepted ts h x k = let g : (s : State) × (run start (map seen ts) ≡ Some s) × (accept s ≡ Some x) = h x k in record { last = g.0; runs = g.1; accepts = g.2 }

pub at_first : (ts : List Token) (x : Builder) → x ≡ b.start → Builds ts ts x
at_first ts x e = record { state = start; is = e ∙ sym starts; left = refl }

stepped : (ts : List Token) (t : Token) (rest : List Token) (x y : Builder) (s e : State) (o : Option State) → step s (seen t) ≡ o → x ≡ image s → y ≡ b.moved x t.from t.kind
    → run start (map seen ts) ≡ Some e → run start (map seen ts) ≡ elim o [ None ↦ None | Some r ↦ run r (map seen rest) ] → Builds ts rest y
stepped ts t rest x y s e None h i m r l = absurd (let u : None ≡ Some e = sym l ∙ r in cc)
stepped ts t rest x y s e (Some q) h i m r l = record {
  state = q;
  is = m ∙ ap (λ z. b.moved z t.from t.kind) i ∙ subst (λ z. Sim z (b.moved (image s) t.from t.kind)) h (moves_sim s (seen t).spot t.kind);
  left = l;
}

one_more : (ts : List Token) (t : Token) (rest : List Token) (x y : Builder) (z : Script) → Accepts ts z → Builds ts (t ∷ rest) x → y ≡ b.moved x t.from t.kind → Builds ts rest y
one_more ts t rest x y z a k m = stepped ts t rest x y k.state a.last (step k.state (seen t)) refl k.is m a.runs k.left

pub at_next : (ts : List Token) (i : ℕ) (t : Token) (x y : Builder) (z : Script) → i < length ts → t ≡ get_or ts i t → Accepts ts z → Builds ts (drop i ts) x → y ≡ b.moved x t.from t.kind → Builds ts (drop (i + 1) ts) y
at_next ts i t x y z h e a k m = one_more ts t (drop (i + 1) ts) x y z a (subst (λ r. Builds ts r x) (drop_more ts i t h ∙ ap (λ d. d ∷ drop (i + 1) ts) (sym e)) k) m

abbrev state_or : State → Option State → State
state_or d None = d
state_or d (Some s) = s

ends_so : (ts : List Token) (x y : Builder) (z : Script) → Accepts ts z → Builds ts [] x → y ≡ b.ended x → y ≡ image (items (in_script z))
ends_so ts x y z a k m = m ∙ ap b.ended k.is ∙ ended_builds k.state z (ap accept same ∙ a.accepts)
  where
    same : k.state ≡ a.last
    same = ap (state_or k.state) (sym k.left ∙ a.runs)

pub at_last : (ts : List Token) (i : ℕ) (x y : Builder) (z : Script) → length ts ≤ i → Accepts ts z → Builds ts (drop i ts) x → y ≡ b.ended x → b.built y ≡ b.built (image (items (in_script z)))
at_last ts i x y z h a k m = ap b.built (ends_so ts x y z a (subst (λ r. Builds ts r x) (drop_all i ts h) k) m)

abbrev built_or : Built → Option Built → Built
built_or d None = d
built_or d (Some g) = g

pub is_built : (z : Script) (o : Option Built) (g : Built) → o ≡ b.built (image (items (in_script z))) → o ≡ Some g → IsBuilt z g
is_built z o g e f = let u : g ≡ built_or g (b.built (image (items (in_script z)))) = ap (built_or g) (sym f ∙ e) in record {
  functions = ap (λ r. r.functions) u;
  top = ap (λ r. r.top) u;
  declared = ap (λ r. r.declared) u;
  nodes = ap (λ r. r.nodes) u;
  mentions = ap (λ r. r.mentions) u;
}

pub never_none : (z : Script) (o : Option Built) → o ≡ b.built (image (items (in_script z))) → o ≡ None → ⊥
never_none z o e f = let u : None ≡ b.built (image (items (in_script z))) = sym f ∙ e in cc
