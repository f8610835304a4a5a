-- Sections to the end of the bytes, and whole modules: what is read is spelled so, and what is spelled so is read.
use Rattle.std.proofs.Common.{◌≡◌, ℕ, zero, suc, ◌<◌, ◌≤◌, true, cond, eqb, List, [], ◌∷◌, ◌++◌, length, Some, None, refl, sym, ap, ◌∙◌, length-append, arith}
use Rattle.std.proofs.lemmas.Bool.{eqb-true, eq-eqb}
use Rattle.wasm_grammar.specs.declared.built.Built.{Built}
use Rattle.wasm_grammar.specs.declared.held.Held.{Held}
use Rattle.wasm_grammar.specs.declared.held.Parts.{Parts}
use Rattle.wasm_grammar.specs.Forms.{Form, Items}
use Rattle.wasm_grammar.specs.Reading.{◌>>=◌}
use Rattle.wasm_grammar.specs.Threads.{Making, make_each, Reader}
use Rattle.wasm_grammar.specs.Sections.{Section, IsSection, make_section, place, may_follow, last_of, in_order, section_in, held_place, held_in_order, all_in}
use Rattle.wasm_grammar.specs.Sections as s
use Rattle.wasm_grammar.specs.Module.{ModuleTree, hold_all, no_parts, nothing_built, make_parts, preamble, agrees, Spells, sections_in, behind, module_in}
use Rattle.wasm_grammar.proofs.Steps.{bind_some, guard_is, some_is}
use Rattle.wasm_grammar.proofs.Threads.{Reads, TookAll}
use Rattle.wasm_grammar.proofs.Filling.{section_reads}

-- ---- items to the end of the bytes

module _ {S T B : Type 0} (P : Form T) (f : Making S T B) (read : Reader S B) (r : Reads P f read) (long : (after : ℕ) (bytes : List ℕ) (t : T) → P after bytes t → 0 < length bytes) where
  pub all_take : (n : ℕ) (s : S) (after : ℕ) (bytes : List ℕ) (x : List B × S) → all_in read n s after bytes ≡ Some x → TookAll (Items P) (make_each f) s after bytes x
  unfolding all_in
  all_take n s after [] x e = record { tree = []; is_form = refl; made = sym (some_is _ _ e) }
  all_take zero s after (b ∷ bs) x e = absurd cc
  all_take (suc n) s after (b ∷ bs) x e =
      let a = bind_some (read s after (b ∷ bs)) (λ x. all_in read n x.0.1 after x.1 >>= λ xs. Some (x.0.0 ∷ xs.0, xs.1)) x e in
      let c = bind_some (all_in read n a.0.0.1 after a.0.1) (λ xs. Some (a.0.0.0 ∷ xs.0, xs.1)) x a.2 in
      let t = r.takes s after (b ∷ bs) a.0 a.1 in
      let v = all_take n a.0.0.1 after a.0.1 c.0 c.1 in
      let second : c.0 ≡ make_each f v.tree (f t.tree s).1 = v.made ∙ ap (λ (z : B × S). make_each f v.tree z.1) t.made in
      let made : (a.0.0.0 ∷ c.0.0, c.0.1) ≡ make_each f (t.tree ∷ v.tree) s = ap (λ (z : B × S). (z.0 ∷ c.0.0, c.0.1)) t.made ∙ ap (λ (z : List B × S). ((f t.tree s).0 ∷ z.0, z.1)) second in
      record { tree = t.tree ∷ v.tree; is_form = (t.front, a.0.1, t.parts, t.is_form, v.is_form); made = sym (some_is _ _ c.2) ∙ made }

  pub all_again : (ts : List T) (n : ℕ) (s : S) (after : ℕ) (bytes : List ℕ) → length bytes ≤ n → Items P after bytes ts → all_in read n s after bytes ≡ Some (make_each f ts s)
  unfolding all_in
  all_again [] n s after bytes le p = rw p refl
  all_again (t ∷ ts) n s after [] le p = absurd (omega (arith, ap length p.2 ∙ length-append p.0 p.1, long _ p.0 t p.3))
  all_again (t ∷ ts) zero s after (b ∷ bs) le p = absurd (omega arith)
  all_again (t ∷ ts) (suc n) s after (b ∷ bs) le p =
      let one : read s after (b ∷ bs) ≡ Some (f t s, p.1) = ap (read s after) p.2 ∙ r.again s after p.0 p.1 t p.3 in
      let len : length p.1 ≤ n = omega (arith, ap length p.2 ∙ length-append p.0 p.1, long _ p.0 t p.3) in
      rw (one, all_again ts n (f t s).1 after p.1 len p.4) refl

section_long : (after : ℕ) (bytes : List ℕ) (c : Section) → IsSection after bytes c → 0 < length bytes
section_long after [] c p = absurd p
section_long after (b ∷ bs) c p = omega arith

-- ---- the order

place_is : (c : Section) (b : Built) → held_place (make_section c b).0 ≡ place c
place_is (s.custom x) b = refl
place_is (s.types ts) b = refl
place_is (s.imports ts) b = refl
place_is (s.funcs ts) b = refl
place_is (s.tables ts) b = refl
place_is (s.mems ts) b = refl
place_is (s.globals ts) b = refl
place_is (s.exports ts) b = refl
place_is (s.start n) b = refl
place_is (s.elems ts) b = refl
place_is (s.codes ts) b = refl
place_is (s.datas ts) b = refl
place_is (s.data_count n) b = refl

pub order_is : (cs : List Section) (last : ℕ) (b : Built) → held_in_order last (make_each make_section cs b).0 ≡ in_order last cs
order_is [] last b = refl
order_is (c ∷ cs) last b = rw (place_is c b, order_is cs (last_of last (place c)) (make_section c b).1) refl

-- ---- the preamble

behind_is : (front bytes rest : List ℕ) → behind front bytes ≡ Some rest → bytes ≡ front ++ rest
behind_is [] bytes rest e = some_is _ _ e
behind_is (f ∷ front) [] rest e = absurd cc
behind_is (f ∷ front) (b ∷ bytes) rest e =
    let g = guard_is (eqb b f) (behind front bytes) rest e in
    let head : b ≡ f = eqb-true b f g.0 in
    let tail = behind_is front bytes rest g.1 in
    ap (λ (k : ℕ). k ∷ bytes) head ∙ ap (λ (w : List ℕ). f ∷ w) tail

behind_again : (front rest : List ℕ) → behind front (front ++ rest) ≡ Some rest
behind_again [] rest = refl
behind_again (f ∷ front) rest = rw (eq-eqb f f refl) (behind_again front rest)

-- ---- modules

pub record TookModule (bytes : List ℕ) (x : Parts × Built) : Type 0 where
  pub tree : ModuleTree
  pub spelled : Spells bytes tree
  pub made : x ≡ make_parts tree

record TookSections (bytes : List ℕ) (x : Parts × Built) : Type 0 where
  pub tree : ModuleTree
  pub are_sections : Items IsSection 0 bytes tree
  pub ordered : in_order 0 tree ≡ true
  pub made : x ≡ make_parts tree

sections_take : (bytes : List ℕ) (x : Parts × Built) → sections_in bytes ≡ Some x → TookSections bytes x
unfolding sections_in
sections_take bytes x e =
    let a = bind_some (all_in section_in (length bytes) nothing_built 0 bytes) (λ x. cond (held_in_order 0 x.0) (Some (hold_all no_parts x.0, x.1)) None) x e in
    let g = guard_is (held_in_order 0 a.0.0) (Some (hold_all no_parts a.0.0, a.0.1)) x a.2 in
    let t = all_take IsSection make_section section_in section_reads section_long (length bytes) nothing_built 0 bytes a.0 a.1 in
    let ordered : in_order 0 t.tree ≡ true = sym (order_is t.tree 0 nothing_built) ∙ ap (λ (z : List Held × Built). held_in_order 0 z.0) (sym t.made) ∙ g.0 in
    record { tree = t.tree; are_sections = t.is_form; ordered = ordered; made = sym (some_is _ _ g.1) ∙ ap (λ (z : List Held × Built). (hold_all no_parts z.0, z.1)) t.made }

sections_again : (bytes : List ℕ) (tree : ModuleTree) → Items IsSection 0 bytes tree → in_order 0 tree ≡ true → sections_in bytes ≡ Some (make_parts tree)
unfolding sections_in
sections_again bytes tree p o =
    let one = all_again IsSection make_section section_in section_reads section_long tree (length bytes) nothing_built 0 bytes (omega arith) p in
    let two : held_in_order 0 (make_each make_section tree nothing_built).0 ≡ true = order_is tree 0 nothing_built ∙ o in
    rw (one, two) refl

pub module_takes : (bytes : List ℕ) (x : Parts × Built) → module_in bytes ≡ Some x → TookModule bytes x
unfolding module_in
module_takes bytes x e =
    let a = bind_some (behind preamble bytes) (λ rest. sections_in rest >>= λ x. cond (agrees x) (Some x) None) x e in
    let b = bind_some (sections_in a.0) (λ x. cond (agrees x) (Some x) None) x a.2 in
    let g = guard_is (agrees b.0) (Some b.0) x b.2 in
    let t = sections_take a.0 b.0 b.1 in
    let agreed : agrees (make_parts t.tree) ≡ true = ap agrees (sym t.made) ∙ g.0 in
    record { tree = t.tree; spelled = record { sections = a.0; parts = behind_is preamble bytes a.0 a.1; are_sections = t.are_sections; ordered = t.ordered; agreed = agreed }; made = sym (some_is _ _ g.1) ∙ t.made }

pub module_again : (bytes : List ℕ) (tree : ModuleTree) → Spells bytes tree → module_in bytes ≡ Some (make_parts tree)
unfolding module_in
module_again bytes tree p =
    let one : behind preamble bytes ≡ Some p.sections = ap (behind preamble) p.parts ∙ behind_again preamble p.sections in
    let two = sections_again p.sections tree p.are_sections p.ordered in
    rw (one, two, p.agreed) refl
