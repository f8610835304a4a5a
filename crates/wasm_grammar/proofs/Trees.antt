-- The blocks that tokens build are those of the code that they spell.
use Rattle.std.proofs.Common.{◌≡◌, Bool, List, [], ◌∷◌, ◌++◌, Option, Some, refl, sym, ap, subst, ◌∙◌, append_assoc, inl, inr, ◌⊎◌}
use Rattle.std.proofs.lemmas.List.{append-nil}
use Rattle.wasm_syntax.specs.declared.instructions.BlockType.{BlockType}
use Rattle.wasm_syntax.specs.declared.instructions.Instr.{Instr}
use Rattle.wasm_syntax.specs.declared.instructions.Instr.TheVariants as i
use Rattle.wasm_grammar.specs.declared.built.Built.{Built}
use Rattle.wasm_grammar.specs.declared.tokens.Token.{Token}
use Rattle.wasm_grammar.specs.declared.tokens.Token.TheVariants as t
use Rattle.wasm_grammar.specs.declared.blocks.Kind.{Kind}
use Rattle.wasm_grammar.specs.declared.blocks.Kind.TheVariants as k
use Rattle.wasm_grammar.specs.declared.blocks.Level.{Level}
use Rattle.wasm_grammar.specs.Reading.{◌>>=◌}
use Rattle.wasm_grammar.specs.Instructions.{BlockTree, make_block_type, TokenTree, make_token}
use Rattle.wasm_grammar.specs.Instructions as u
use Rattle.wasm_grammar.specs.Code.{Plain, instr, data_access, selection, leaf, plain_token, Code, done, plain, block, loop, choice, choice_one, tokens, make_block, with_token, if_of, make_code}
use Rattle.wasm_grammar.specs.Running.{State, opens, ends_as, closes, turns_as, turns, step, with_built}
use Rattle.wasm_grammar.proofs.Steps.{some_is}

-- tokens are taken up one after the other
abbrev pub goes : Bool → State → List TokenTree → Option State
goes e s [] = Some s
goes e s (u ∷ us) = let p = make_token e u s.built in step (with_built s p.1) p.0 >>= λ s'. goes e s' us

-- the instructions of the innermost open block, and what is built
abbrev pub Top : Type 0
Top = List Instr × Built

abbrev pub grown : Bool → Code → Top → Top
grown e c t = let x = make_code e c t.1 in (t.0 ++ x.0, x.1)

abbrev pub with_top : State → Top → State
with_top s t = record { instrs = t.0; levels = s.levels; built = t.1 }

-- ---- instructions that hold none

abbrev front_of : Token → List Instr
front_of (t.Plain i) = i ∷ []
front_of _ = []

with_token_is : (tok : Token) (x : Top) → with_token tok x ≡ (front_of tok ++ x.0, x.1)
with_token_is (t.Plain i) x = refl
with_token_is t.Foreign x = refl
with_token_is (t.Block b) x = refl
with_token_is (t.Loop b) x = refl
with_token_is (t.If b) x = refl
with_token_is t.Else x = refl
with_token_is t.End x = refl

abbrev after_plain : Bool → Plain → State → State
after_plain e x s = let p = make_token e (plain_token x) s.built in record { instrs = s.instrs ++ front_of p.0; levels = s.levels; built = p.1 }

abbrev step_plain : Bool → Plain → State → Option State
step_plain e x s = let p = make_token e (plain_token x) s.built in step (with_built s p.1) p.0

plain_step : (e : Bool) (x : Plain) (s : State) → step_plain e x s ≡ Some (after_plain e x s)
plain_step e (instr x) s = refl
plain_step e (data_access x) s = refl
plain_step e (selection types) s = refl
plain_step e (leaf l) s = ap (λ (w : List Instr). Some (record { instrs = w; levels = s.levels; built = (make_token e (u.leaf l) s.built).1 })) (sym (append-nil s.instrs))

plain_goes : (e : Bool) (x : Plain) (s : State) (us : List TokenTree) → goes e s (plain_token x ∷ us) ≡ goes e (after_plain e x s) us
plain_goes e x s us = ap (λ (r : Option State). r >>= λ s'. goes e s' us) (plain_step e x s)

plain_grown : (e : Bool) (x : Plain) (c : Code) (s : State) → grown e c ((after_plain e x s).instrs, (after_plain e x s).built) ≡ grown e (plain x c) (s.instrs, s.built)
plain_grown e x c s =
    let p = make_token e (plain_token x) s.built in
    let y = make_code e c p.1 in
    ap (λ (w : List Instr). (w, y.1)) (append_assoc s.instrs (front_of p.0) y.0) ∙ ap (λ (z : Top). (s.instrs ++ z.0, z.1)) (sym (with_token_is p.0 y))

-- ---- code goes as its tokens do

block_grown : (e : Bool) (c : Code) (before : List Instr) (x : Instr) (b : Built) → grown e c (before ++ x ∷ [], b) ≡ (before ++ x ∷ (make_code e c b).0, (make_code e c b).1)
block_grown e c before x b = ap (λ (w : List Instr). (w, (make_code e c b).1)) (append_assoc before (x ∷ []) (make_code e c b).0)

pub goes_again : (e : Bool) (c : Code) (s : State) (us : List TokenTree) → goes e s (tokens c us) ≡ goes e (with_top s (grown e c (s.instrs, s.built))) us
goes_again e done s us = ap (λ (w : List Instr). goes e (record { instrs = w; levels = s.levels; built = s.built }) us) (sym (append-nil s.instrs))
goes_again e (plain x c) s us =
    plain_goes e x s (tokens c us) ∙ goes_again e c (after_plain e x s) us ∙ ap (λ (z : Top). goes e (with_top s z) us) (plain_grown e x c s)
goes_again e (block tree body c) s us =
    let type = make_block_type tree s.built in
    let b = make_code e body type.1 in
    let n = make_block b.0 b.1 in
    goes_again e body (opens (k.Block type.0) (with_built s type.1)) (u.end_of ∷ tokens c us) ∙ goes_again e c _ us ∙ ap (λ (z : Top). goes e (with_top s z) us) (block_grown e c s.instrs (i.Block type.0 n.0) n.1)
goes_again e (loop tree body c) s us =
    let type = make_block_type tree s.built in
    let b = make_code e body type.1 in
    let n = make_block b.0 b.1 in
    goes_again e body (opens (k.Loop type.0) (with_built s type.1)) (u.end_of ∷ tokens c us) ∙ goes_again e c _ us ∙ ap (λ (z : Top). goes e (with_top s z) us) (block_grown e c s.instrs (i.Loop type.0 n.0) n.1)
goes_again e (choice tree one two c) s us =
    let type = make_block_type tree s.built in
    let a = make_code e one type.1 in
    let m = make_block a.0 a.1 in
    let b = make_code e two m.1 in
    let n = make_block b.0 b.1 in
    goes_again e one (opens (k.If type.0) (with_built s type.1)) (u.otherwise ∷ tokens two (u.end_of ∷ tokens c us)) ∙ goes_again e two _ (u.end_of ∷ tokens c us) ∙ goes_again e c _ us
    ∙ ap (λ (z : Top). goes e (with_top s z) us) (block_grown e c s.instrs (if_of type.0 m.0 n.0) n.1)
goes_again e (choice_one tree one c) s us =
    let type = make_block_type tree s.built in
    let a = make_code e one type.1 in
    let m = make_block a.0 a.1 in
    let n = make_block [] m.1 in
    goes_again e one (opens (k.If type.0) (with_built s type.1)) (u.end_of ∷ tokens c us) ∙ goes_again e c _ us ∙ ap (λ (z : Top). goes e (with_top s z) us) (block_grown e c s.instrs (if_of type.0 m.0 n.0) n.1)

-- ---- tokens that go to the end of all blocks are those of code: how the open blocks end, each with the code behind it

pub record EndsBy (e : Bool) (K : Top → List TokenTree → Type 0) (f : Level) (top : Top) (us : List TokenTree) : Type 0 where
  pub after : Code
  pub rest : List TokenTree
  pub is : us ≡ u.end_of ∷ tokens after rest
  pub more : K (grown e after (ends_as f.kind f.before top.0 top.1)) rest

pub record ElseBy (e : Bool) (K : Top → List TokenTree → Type 0) (f : Level) (top : Top) (us : List TokenTree) : Type 0 where
  pub type : BlockType
  pub is_if : f.kind ≡ k.If type
  pub second : Code
  pub rest : List TokenTree
  pub is : us ≡ u.otherwise ∷ tokens second rest
  pub more : EndsBy e K (record { kind = k.Else type (make_block top.0 top.1).0; before = f.before }) (grown e second ([], (make_block top.0 top.1).1)) rest

abbrev pub Closes : Bool → List Level → State → Top → List TokenTree → Type 0
Closes e [] goal top us = (us ≡ []) × (goal ≡ record { instrs = top.0; levels = []; built = top.1 })
Closes e (f ∷ fs) goal top us = EndsBy e (Closes e fs goal) f top us ⊎ ElseBy e (Closes e fs goal) f top us

pub record Completed (e : Bool) (goal s : State) (us : List TokenTree) : Type 0 where
  pub code : Code
  pub rest : List TokenTree
  pub is : us ≡ tokens code rest
  pub more : Closes e s.levels goal (grown e code (s.instrs, s.built)) rest

-- a block with one part
ends_only : (e : Bool) (goal : State) (kind : Kind) (before : List Instr) (fs : List Level) (top : Top) (us : List TokenTree) (no_if : (type : BlockType) → kind ≡ k.If type → ⊥)
    → Closes e (record { kind = kind; before = before } ∷ fs) goal top us → EndsBy e (Closes e fs goal) (record { kind = kind; before = before }) top us
ends_only e goal kind before fs top us no_if (inl h) = h
ends_only e goal kind before fs top us no_if (inr h) = absurd (no_if h.type h.is_if)

behind_block : (e : Bool) (fs : List Level) (goal : State) (c : Code) (before : List Instr) (x : Instr) (b : Built) (rest : List TokenTree)
    → Closes e fs goal (grown e c (before ++ x ∷ [], b)) rest → Closes e fs goal (before ++ x ∷ (make_code e c b).0, (make_code e c b).1) rest
behind_block e fs goal c before x b rest h = subst (λ (z : Top). Closes e fs goal z rest) (block_grown e c before x b) h

plain_found : (e : Bool) (goal s : State) (x : Plain) (us : List TokenTree) → Completed e goal (after_plain e x s) us → Completed e goal s (plain_token x ∷ us)
plain_found e goal s x us h = record {
  code = plain x h.code;
  rest = h.rest;
  is = ap (λ (w : List TokenTree). plain_token x ∷ w) h.is;
  more = subst (λ (z : Top). Closes e s.levels goal z h.rest) (plain_grown e x h.code s) h.more;
}

block_found : (e : Bool) (goal s : State) (tree : BlockTree) (us : List TokenTree) → Completed e goal (opens (k.Block (make_block_type tree s.built).0) (with_built s (make_block_type tree s.built).1)) us → Completed e goal s (u.block tree ∷ us)
block_found e goal s tree us h =
    let type = make_block_type tree s.built in
    let b = make_code e h.code type.1 in
    let n = make_block b.0 b.1 in
    let d = ends_only e goal (k.Block type.0) s.instrs s.levels b h.rest (λ type' e. cc) h.more in
    record { code = block tree h.code d.after; rest = d.rest; is = ap (λ (w : List TokenTree). u.block tree ∷ w) (h.is ∙ ap (tokens h.code) d.is); more = behind_block e s.levels goal d.after s.instrs (i.Block type.0 n.0) n.1 d.rest d.more }

loop_found : (e : Bool) (goal s : State) (tree : BlockTree) (us : List TokenTree) → Completed e goal (opens (k.Loop (make_block_type tree s.built).0) (with_built s (make_block_type tree s.built).1)) us → Completed e goal s (u.loop tree ∷ us)
loop_found e goal s tree us h =
    let type = make_block_type tree s.built in
    let b = make_code e h.code type.1 in
    let n = make_block b.0 b.1 in
    let d = ends_only e goal (k.Loop type.0) s.instrs s.levels b h.rest (λ type' e. cc) h.more in
    record { code = loop tree h.code d.after; rest = d.rest; is = ap (λ (w : List TokenTree). u.loop tree ∷ w) (h.is ∙ ap (tokens h.code) d.is); more = behind_block e s.levels goal d.after s.instrs (i.Loop type.0 n.0) n.1 d.rest d.more }

choice_found : (e : Bool) (goal s : State) (tree : BlockTree) (us : List TokenTree) → Completed e goal (opens (k.If (make_block_type tree s.built).0) (with_built s (make_block_type tree s.built).1)) us → Completed e goal s (u.choice tree ∷ us)
choice_found e goal s tree us h =
    let type = make_block_type tree s.built in
    let a = make_code e h.code type.1 in
    let m = make_block a.0 a.1 in
    elim h.more [
      | inl d ↦
          let n = make_block [] m.1 in
          record { code = choice_one tree h.code d.after; rest = d.rest; is = ap (λ (w : List TokenTree). u.choice tree ∷ w) (h.is ∙ ap (tokens h.code) d.is); more = behind_block e s.levels goal d.after s.instrs (if_of type.0 m.0 n.0) n.1 d.rest d.more }
      | inr o ↦
          let b = make_code e o.second m.1 in
          let n = make_block b.0 b.1 in
          let same : o.type ≡ type.0 = cc (sym o.is_if) in
          let d = subst (λ (w : BlockType). EndsBy e (Closes e s.levels goal) (record { kind = k.Else w m.0; before = s.instrs }) b o.rest) same o.more in
          record { code = choice tree h.code o.second d.after; rest = d.rest; is = ap (λ (w : List TokenTree). u.choice tree ∷ w) (h.is ∙ ap (tokens h.code) (o.is ∙ ap (λ (w : List TokenTree). u.otherwise ∷ tokens o.second w) d.is)); more = behind_block e s.levels goal d.after s.instrs (if_of type.0 m.0 n.0) n.1 d.rest d.more }
    ]

-- a token that ends a part of a block, behind no code
at_once : (e : Bool) (goal : State) (f : Level) (fs : List Level) (instrs : List Instr) (b : Built) (us : List TokenTree) → Closes e (f ∷ fs) goal (instrs, b) us → Completed e goal (record { instrs = instrs; levels = f ∷ fs; built = b }) us
at_once e goal f fs instrs b us h = record { code = done; rest = us; is = refl; more = subst (λ (w : List Instr). Closes e (f ∷ fs) goal (w, b) us) (sym (append-nil instrs)) h }

end_found : (e : Bool) (goal : State) (fs : List Level) (instrs : List Instr) (b : Built) (us : List TokenTree) → (closes fs instrs b >>= λ s'. goes e s' us) ≡ Some goal
    → ((s : State) → goes e s us ≡ Some goal → Completed e goal s us) → Completed e goal (record { instrs = instrs; levels = fs; built = b }) (u.end_of ∷ us)
end_found e goal [] instrs b us h ih = absurd cc
end_found e goal (f ∷ fs) instrs b us h ih =
    let x = ends_as f.kind f.before instrs b in
    let d = ih (record { instrs = x.0; levels = fs; built = x.1 }) h in
    at_once e goal f fs instrs b (u.end_of ∷ us) (inl (record { after = d.code; rest = d.rest; is = ap (λ (w : List TokenTree). u.end_of ∷ w) d.is; more = d.more }))

turn_as_found : (e : Bool) (goal : State) (kind : Kind) (before : List Instr) (fs : List Level) (instrs : List Instr) (b : Built) (us : List TokenTree) → (turns_as kind before fs instrs b >>= λ s'. goes e s' us) ≡ Some goal
    → ((s : State) → goes e s us ≡ Some goal → Completed e goal s us) → Completed e goal (record { instrs = instrs; levels = record { kind = kind; before = before } ∷ fs; built = b }) (u.otherwise ∷ us)
turn_as_found e goal (k.If type) before fs instrs b us h ih =
    let m = make_block instrs b in
    let d = ih (record { instrs = []; levels = record { kind = k.Else type m.0; before = before } ∷ fs; built = m.1 }) h in
    let y = ends_only e goal (k.Else type m.0) before fs (grown e d.code ([], m.1)) d.rest (λ type' e. cc) d.more in
    at_once e goal (record { kind = k.If type; before = before }) fs instrs b (u.otherwise ∷ us) (inr (record { type = type; is_if = refl; second = d.code; rest = d.rest; is = ap (λ (w : List TokenTree). u.otherwise ∷ w) d.is; more = y }))
turn_as_found e goal (k.Block type) before fs instrs b us h ih = absurd cc
turn_as_found e goal (k.Loop type) before fs instrs b us h ih = absurd cc
turn_as_found e goal (k.Else type n) before fs instrs b us h ih = absurd cc

turn_found : (e : Bool) (goal : State) (fs : List Level) (instrs : List Instr) (b : Built) (us : List TokenTree) → (turns fs instrs b >>= λ s'. goes e s' us) ≡ Some goal
    → ((s : State) → goes e s us ≡ Some goal → Completed e goal s us) → Completed e goal (record { instrs = instrs; levels = fs; built = b }) (u.otherwise ∷ us)
turn_found e goal [] instrs b us h ih = absurd cc
turn_found e goal (f ∷ fs) instrs b us h ih = turn_as_found e goal f.kind f.before fs instrs b us h ih

none_left : (e : Bool) (fs : List Level) (instrs : List Instr) (b : Built) (goal : State) → goal.levels ≡ [] → record { instrs = instrs; levels = fs; built = b } ≡ goal → Closes e fs goal (instrs ++ [], b) []
none_left e [] instrs b goal h is = (refl, sym is ∙ ap (λ (w : List Instr). record { instrs = w; levels = []; built = b }) (sym (append-nil instrs)))
none_left e (f ∷ fs) instrs b goal h is = absurd (cc (ap (λ (g : State). g.levels) is))

pub goes_found : (e : Bool) (us : List TokenTree) (s goal : State) → goal.levels ≡ [] → goes e s us ≡ Some goal → Completed e goal s us
goes_found e [] s goal cl h = record { code = done; rest = []; is = refl; more = none_left e s.levels s.instrs s.built goal cl (some_is _ _ h) }
goes_found e (u.plain x ∷ us) s goal cl h = plain_found e goal s (instr x) us (goes_found e us (after_plain e (instr x) s) goal cl (sym (plain_goes e (instr x) s us) ∙ h))
goes_found e (u.data_access x ∷ us) s goal cl h = plain_found e goal s (data_access x) us (goes_found e us (after_plain e (data_access x) s) goal cl (sym (plain_goes e (data_access x) s us) ∙ h))
goes_found e (u.selection ts ∷ us) s goal cl h = plain_found e goal s (selection ts) us (goes_found e us (after_plain e (selection ts) s) goal cl (sym (plain_goes e (selection ts) s us) ∙ h))
goes_found e (u.leaf l ∷ us) s goal cl h = plain_found e goal s (leaf l) us (goes_found e us (after_plain e (leaf l) s) goal cl (sym (plain_goes e (leaf l) s us) ∙ h))
goes_found e (u.block tree ∷ us) s goal cl h = block_found e goal s tree us (goes_found e us _ goal cl h)
goes_found e (u.loop tree ∷ us) s goal cl h = loop_found e goal s tree us (goes_found e us _ goal cl h)
goes_found e (u.choice tree ∷ us) s goal cl h = choice_found e goal s tree us (goes_found e us _ goal cl h)
goes_found e (u.otherwise ∷ us) s goal cl h = turn_found e goal s.levels s.instrs s.built us h (λ s'. goes_found e us s' goal cl)
goes_found e (u.end_of ∷ us) s goal cl h = end_found e goal s.levels s.instrs s.built us h (λ s'. goes_found e us s' goal cl)
