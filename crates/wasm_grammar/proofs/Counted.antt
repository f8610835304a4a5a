-- The blocks of a module that is spelled are numbered: production by production, and then the sections in their order.
use Rattle.std.proofs.Common.{◌≡◌, ℕ, suc, ◌<◌, ◌≤◌, Bool, true, false, eqb, ltb, List, [], ◌∷◌, ◌++◌, length, map, None, Result, Ok, Err, refl, sym, ap, subst, ◌∙◌, append_assoc, arith}
use Rattle.std.specs.Prelude.{flat_map, IfOk, IfSome}
use Rattle.std.proofs.lemmas.Bool.{eqb-true, ltb-true}
use Rattle.std.proofs.lemmas.List.{append-nil}
use Rattle.std.proofs.lemmas.List.Concat.{flat_map_single}
use Rattle.wasm_syntax.specs.declared.types.ValType.{ValType}
use Rattle.wasm_syntax.specs.declared.instructions.BlockId.{BlockId}
use Rattle.wasm_syntax.specs.declared.instructions.Instr.{Instr}
use Rattle.wasm_syntax.specs.declared.module.GlobalDef.{GlobalDef}
use Rattle.wasm_syntax.specs.declared.module.Elem.{Elem}
use Rattle.wasm_syntax.specs.declared.module.Data.{Data}
use Rattle.wasm_syntax.specs.declared.module.Func.{Func}
use Rattle.wasm_syntax.specs.declared.module.Module.{Module}
use Rattle.wasm_syntax.specs.Numbering.{ends_in, offset_of, outermost, counts_to, is_numbered}
use Rattle.wasm_grammar.specs.declared.built.Built.{Built}
use Rattle.wasm_grammar.specs.declared.functions.CodeEntry.{CodeEntry}
use Rattle.wasm_grammar.specs.declared.held.Held.{Held}
use Rattle.wasm_grammar.specs.declared.held.Held.TheVariants as h
use Rattle.wasm_grammar.specs.declared.held.Parts.{Parts}
use Rattle.wasm_grammar.specs.declared.decoder.DecodeError.{DecodeError}
use Rattle.wasm_grammar.specs.declared.decoder.DecodeError.TheVariants as errors
use Rattle.wasm_grammar.specs.Forms.{Form, Nothing, Both, Made, Items, ByFirst, When, Never}
use Rattle.wasm_grammar.specs.Leb128.{IsU32}
use Rattle.wasm_grammar.specs.Binary.{IsVector, IsSized, IsBytes, ByNumber}
use Rattle.wasm_grammar.specs.Threads.{Making, make_same, make_both, make_each}
use Rattle.wasm_grammar.specs.Types.{make_type, FuncTypeTree, make_func_type, GlobalTree, make_global_type, Tagged}
use Rattle.wasm_grammar.specs.Entries.{ImportTree, make_import}
use Rattle.wasm_grammar.specs.Entries as e
use Rattle.wasm_grammar.specs.Code.{Code, make_code, IsExpression, make_expression, whole, cut, IsBody, make_body}
use Rattle.wasm_grammar.specs.Functions.{IsGlobal, make_global, LocalTree, make_local, IsCodeEntry, make_entry}
use Rattle.wasm_grammar.specs.Segments.{ModeTree, active, passive, declared, make_mode, IsFirst, IsIndexed, RefsTree, funcs, exprs, func_exprs, make_func_ref, make_refs, IsFuncs, IsFuncExprs, IsExprs, IsElem, make_elem, IsData, make_data}
use Rattle.wasm_grammar.specs.Sections.{Section, IsSection, make_section, place, may_follow, last_of, in_order, held_place, held_in_order}
use Rattle.wasm_grammar.specs.Sections as s
use Rattle.wasm_grammar.specs.Module.{ModuleTree, hold, hold_all, no_parts, nothing_built, funcs_of, module_with, module_of, first_leaf, Spells}
use Rattle.wasm_grammar.specs.Decoding.{Decodes, told}
use Rattle.wasm_grammar.proofs.Flat.{code_flat}
use Rattle.wasm_grammar.proofs.Numbered.{both_true, Numbered, still, more_numbered, block_numbered, leaf_first, type_still, each_still, code_numbered}
use Rattle.wasm_grammar.proofs.Whole.{order_is}

-- ---- what a form spells adds its blocks

module _ {T B : Type 0} (roots : B → List BlockId) (f : Making Built T B) where
  abbrev pub Counts : Form T → Type 0
  Counts P = (after : ℕ) (bytes : List ℕ) (t : T) → P after bytes t → (s : Built) → Numbered (roots (f t s).0) s (f t s).1

  items_counts : (P : Form T) → Counts P → (after : ℕ) (bytes : List ℕ) (ts : List T) → Items P after bytes ts → (s : Built) → Numbered (flat_map roots (make_each f ts s).0) s (make_each f ts s).1
  items_counts P r after bytes [] p s = still s
  items_counts P r after bytes (t ∷ ts) p s = more_numbered (roots (f t s).0) _ s (f t s).1 _ (r _ p.0 t p.3 s) (items_counts P r after p.1 ts p.4 (f t s).1)

  sized_counts : (P : Form T) → Counts P → Counts (IsSized P)
  sized_counts P r after bytes t p s = r after p.back t p.body s

  made_counts : {A : Type 0} (g : A → T) (P : Form A) → ((after : ℕ) (bytes : List ℕ) (a : A) → P after bytes a → (s : Built) → Numbered (roots (f (g a) s).0) s (f (g a) s).1) → Counts (Made g P)
  made_counts g P r after bytes t p s = subst (λ (t : T). Numbered (roots (f t s).0) s (f t s).1) (sym p.is_made) (r after bytes p.of p.is_of s)

  nothing_counts : (a : T) → ((s : Built) → Numbered (roots (f a s).0) s (f a s).1) → Counts (Nothing a)
  nothing_counts a r after bytes t p s = subst (λ (t : T). Numbered (roots (f t s).0) s (f t s).1) (sym p.1) (r s)

  when_counts : (c : Bool) (P Q : Form T) → Counts P → Counts Q → Counts (When c P Q)
  when_counts true P Q r q = r
  when_counts false P Q r q = q

  never_counts : Counts Never
  never_counts after bytes t p s = absurd p

  first_counts : (K : ℕ → Form T) → ((b : ℕ) → Counts (K b)) → Counts (ByFirst K)
  first_counts K r after [] t p s = absurd p
  first_counts K r after (b ∷ bytes) t p s = r b after bytes t p s

  number_counts : (K : (left number : ℕ) → Form T) → ((left number : ℕ) → Counts (K left number)) → Counts (ByNumber K)
  number_counts K r after bytes t p s = r _ p.number after p.back t p.chosen s

vector_counts : {T B : Type 0} (roots : B → List BlockId) (f : Making Built T B) (P : Form T) → Counts roots f P → Counts (flat_map roots) (make_each f) (IsSized (IsVector P))
vector_counts roots f P r after bytes ts p s = items_counts roots f P r after p.body.back ts p.body.items s

both_counts : {T U B C : Type 0} (ra : B → List BlockId) (rb : C → List BlockId) (f : Making Built T B) (g : Making Built U C) (P : Form T) (Q : Form U) → Counts ra f P → Counts rb g Q → Counts (λ (x : B × C). ra x.0 ++ rb x.1) (make_both f g) (Both P Q)
both_counts ra rb f g P Q a b after bytes t p s = more_numbered (ra (f t.0 s).0) _ s (f t.0 s).1 _ (a _ p.front t.0 p.first s) (b _ p.back t.1 p.second (f t.0 s).1)

-- ---- expressions and bodies

abbrev single : BlockId → List BlockId
single id = id ∷ []

singles : (ids : List BlockId) → flat_map single ids ≡ ids
singles [] = refl
singles (x ∷ xs) = ap (λ (w : List BlockId). x ∷ w) (singles xs)

expression_counts : (e : Bool) → Counts single (make_expression e) (IsExpression e)
expression_counts e after bytes c p s = let x = make_code e c s in block_numbered x.0 s x.1 (code_numbered e c (code_flat e after bytes c p) s)

body_counts : Counts single make_body IsBody
body_counts after bytes (whole c) p s = expression_counts true after bytes c p s
body_counts after bytes (cut passed l) p s = λ h. absurd (leaf_first _ l h)

-- ---- globals and code entries

global_type_still : (tree : GlobalTree) (s : Built) → Numbered [] s (make_global_type tree s).1
global_type_still tree s = type_still tree.0 s

global_counts : Counts (λ (g : GlobalDef). g.init ∷ []) make_global IsGlobal
global_counts after bytes t p s =
    let x = make_global_type t.0 s in
    more_numbered [] _ s x.1 _ (global_type_still t.0 s) (expression_counts false _ p.back t.1 p.second x.1)

local_still : (tree : LocalTree) (s : Built) → Numbered [] s (make_local tree s).1
local_still tree s = type_still tree.1 s

entry_counts : Counts (λ (x : CodeEntry). x.body ∷ []) make_entry IsCodeEntry
entry_counts after bytes t p s =
    let x = make_each make_local t.0 s in
    more_numbered [] _ s x.1 _ (each_still make_local local_still t.0 s) (body_counts _ p.body.back t.1 p.body.second x.1)

-- ---- segments

first_mode_counts : Counts offset_of make_mode IsFirst
first_mode_counts = made_counts offset_of make_mode (active 0) _ (expression_counts false)

indexed_counts : Counts offset_of make_mode IsIndexed
indexed_counts = made_counts offset_of make_mode (λ x. active x.0 x.1) _ (λ after bytes a p s. expression_counts false _ p.back a.1 p.second s)

passive_counts : Counts offset_of make_mode (Nothing passive)
passive_counts = nothing_counts offset_of make_mode passive still

declared_counts : Counts offset_of make_mode (Nothing declared)
declared_counts = nothing_counts offset_of make_mode declared still

abbrev refs_roots : ValType × List BlockId → List BlockId
refs_roots x = x.1

func_ref_counts : Counts single make_func_ref IsU32
func_ref_counts after bytes n p s = block_numbered _ s s (still s)

funcs_counts : Counts refs_roots make_refs IsFuncs
funcs_counts = made_counts refs_roots make_refs funcs _ (λ after bytes ts p s.
    subst (λ (w : List BlockId). Numbered w s (make_each make_func_ref ts s).1) (singles _) (items_counts single make_func_ref IsU32 func_ref_counts after p.back ts p.items s))

exprs_of : (ts : List Code) (after : ℕ) (bytes : List ℕ) → Items (IsExpression false) after bytes ts → (s : Built) → Numbered (make_each (make_expression false) ts s).0 s (make_each (make_expression false) ts s).1
exprs_of ts after bytes p s = subst (λ (w : List BlockId). Numbered w s (make_each (make_expression false) ts s).1) (singles _) (items_counts single (make_expression false) (IsExpression false) (expression_counts false) after bytes ts p s)

func_exprs_counts : Counts refs_roots make_refs IsFuncExprs
func_exprs_counts = made_counts refs_roots make_refs func_exprs _ (λ after bytes ts p s. exprs_of ts after p.back p.items s)

exprs_counts : Counts refs_roots make_refs IsExprs
exprs_counts = made_counts refs_roots make_refs exprs _ (λ after bytes t p s. exprs_of t.1 _ p.second.back p.second.items s)

kind_counts : Counts refs_roots make_refs (Tagged 0 IsFuncs)
kind_counts = first_counts refs_roots make_refs _ (λ b. when_counts refs_roots make_refs (eqb b 0) _ _ funcs_counts (never_counts refs_roots make_refs))

abbrev elem_roots : Elem → List BlockId
elem_roots segment = offset_of segment.mode ++ segment.items

both_elem : (P : Form ModeTree) (Q : Form RefsTree) → Counts offset_of make_mode P → Counts refs_roots make_refs Q → Counts elem_roots make_elem (Both P Q)
both_elem P Q a b = both_counts offset_of refs_roots make_mode make_refs P Q a b

elem_counts : Counts elem_roots make_elem IsElem
elem_counts = number_counts elem_roots make_elem _ (λ left flag.
    when_counts elem_roots make_elem (eqb flag 0) _ _ (both_elem _ _ first_mode_counts funcs_counts) (
    when_counts elem_roots make_elem (eqb flag 1) _ _ (both_elem _ _ passive_counts kind_counts) (
    when_counts elem_roots make_elem (eqb flag 2) _ _ (both_elem _ _ indexed_counts kind_counts) (
    when_counts elem_roots make_elem (eqb flag 3) _ _ (both_elem _ _ declared_counts kind_counts) (
    when_counts elem_roots make_elem (eqb flag 4) _ _ (both_elem _ _ first_mode_counts func_exprs_counts) (
    when_counts elem_roots make_elem (eqb flag 5) _ _ (both_elem _ _ passive_counts exprs_counts) (
    when_counts elem_roots make_elem (eqb flag 6) _ _ (both_elem _ _ indexed_counts exprs_counts) (
    when_counts elem_roots make_elem (eqb flag 7) _ _ (both_elem _ _ declared_counts exprs_counts) (
    never_counts elem_roots make_elem)))))))))

abbrev data_roots : Data → List BlockId
data_roots segment = offset_of segment.mode

both_data : (P : Form ModeTree) → Counts offset_of make_mode P → Counts data_roots make_data (Both P IsBytes)
both_data P a after bytes t p s = a _ p.front t.0 p.first s

data_counts : Counts data_roots make_data IsData
data_counts = number_counts data_roots make_data _ (λ left flag.
    when_counts data_roots make_data (eqb flag 0) _ _ (both_data _ first_mode_counts) (
    when_counts data_roots make_data (eqb flag 1) _ _ (both_data _ passive_counts) (
    when_counts data_roots make_data (eqb flag 2) _ _ (both_data _ indexed_counts) (
    never_counts data_roots make_data))))

-- ---- sections

func_type_still : (tree : FuncTypeTree) (s : Built) → Numbered [] s (make_func_type tree s).1
func_type_still tree s = let t = (make_each make_type tree.0 s).1 in more_numbered [] [] s t _ (each_still make_type type_still tree.0 s) (each_still make_type type_still tree.1 t)

import_desc_still : (tree : ImportTree) (s : Built) → Numbered [] s (e.make_import_desc tree s).1
import_desc_still (e.func n) s = still s
import_desc_still (e.table t) s = still s
import_desc_still (e.mem l) s = still s
import_desc_still (e.global g) s = global_type_still g s

import_still : (tree : (List ℕ × List ℕ) × ImportTree) (s : Built) → Numbered [] s (make_import tree s).1
import_still tree s = import_desc_still tree.1 s

same_still : {T : Type 0} (t : T) (s : Built) → Numbered [] s (make_same t s).1
same_still t s = still s

abbrev held_roots : Held → List BlockId
held_roots (h.Globals xs) = flat_map (λ (g : GlobalDef). g.init ∷ []) xs
held_roots (h.Elems xs) = flat_map elem_roots xs
held_roots (h.Codes xs) = flat_map (λ (x : CodeEntry). x.body ∷ []) xs
held_roots (h.Datas xs) = flat_map data_roots xs
held_roots _ = []

section_counts : Counts held_roots make_section IsSection
section_counts = first_counts held_roots make_section _ (λ id.
    let when = when_counts held_roots make_section in
    when (eqb id 0) _ _ (made_counts held_roots make_section s.custom _ (λ after bytes t p s. still s)) (
    when (eqb id 1) _ _ (made_counts held_roots make_section s.types _ (λ after bytes ts p s. each_still make_func_type func_type_still ts s)) (
    when (eqb id 2) _ _ (made_counts held_roots make_section s.imports _ (λ after bytes ts p s. each_still make_import import_still ts s)) (
    when (eqb id 3) _ _ (made_counts held_roots make_section s.funcs _ (λ after bytes ts p s. each_still make_same same_still ts s)) (
    when (eqb id 4) _ _ (made_counts held_roots make_section s.tables _ (λ after bytes ts p s. each_still make_same same_still ts s)) (
    when (eqb id 5) _ _ (made_counts held_roots make_section s.mems _ (λ after bytes ts p s. each_still make_same same_still ts s)) (
    when (eqb id 6) _ _ (made_counts held_roots make_section s.globals _ (vector_counts (λ (g : GlobalDef). g.init ∷ []) make_global IsGlobal global_counts)) (
    when (eqb id 7) _ _ (made_counts held_roots make_section s.exports _ (λ after bytes ts p s. each_still make_same same_still ts s)) (
    when (eqb id 8) _ _ (made_counts held_roots make_section s.start _ (λ after bytes t p s. still s)) (
    when (eqb id 9) _ _ (made_counts held_roots make_section s.elems _ (vector_counts elem_roots make_elem IsElem elem_counts)) (
    when (eqb id 10) _ _ (made_counts held_roots make_section s.codes _ (vector_counts (λ (x : CodeEntry). x.body ∷ []) make_entry IsCodeEntry entry_counts)) (
    when (eqb id 11) _ _ (made_counts held_roots make_section s.datas _ (vector_counts data_roots make_data IsData data_counts)) (
    when (eqb id 12) _ _ (made_counts held_roots make_section s.data_count _ (λ after bytes t p s. still s)) (
    never_counts held_roots make_section))))))))))))))

-- ---- the sections' blocks in their order are the outermost ones of the module

abbrev four : (a b c d : List BlockId) → List BlockId
four a b c d = a ++ (b ++ (c ++ d))

abbrev entries_of : Parts → List BlockId
entries_of p = four (flat_map (λ (g : GlobalDef). g.init ∷ []) p.globals) (flat_map elem_roots p.elems) (flat_map (λ (x : CodeEntry). x.body ∷ []) p.codes) (flat_map data_roots p.datas)

-- behind sections up to a last one none of the later ones holds anything
record Clear (gs : List GlobalDef) (es : List Elem) (cs : List CodeEntry) (ds : List Data) (last : ℕ) : Type 0 where
  pub globals : last < 6 → gs ≡ []
  pub elems : last < 9 → es ≡ []
  pub codes : last < 11 → cs ≡ []
  pub datas : last < 12 → ds ≡ []

abbrev IsClear : Parts → ℕ → Type 0
IsClear p last = Clear p.globals p.elems p.codes p.datas last

later : (gs : List GlobalDef) (es : List Elem) (cs : List CodeEntry) (ds : List Data) (last k : ℕ) → Clear gs es cs ds last → last ≤ k → Clear gs es cs ds k
later gs es cs ds last k c le = record { globals = λ lt. c.globals (omega (arith, le, lt)); elems = λ lt. c.elems (omega (arith, le, lt)); codes = λ lt. c.codes (omega (arith, le, lt)); datas = λ lt. c.datas (omega (arith, le, lt)) }

second : (a x : List BlockId) → four a x [] [] ≡ four a [] [] [] ++ x
second a x = ap (λ (w : List BlockId). a ++ w) (append-nil x) ∙ ap (λ (w : List BlockId). w ++ x) (sym (append-nil a))

third : (a b x : List BlockId) → four a b x [] ≡ four a b [] [] ++ x
third a b x = ap (λ (w : List BlockId). a ++ (b ++ w)) (append-nil x) ∙ sym (append_assoc a b x) ∙ ap (λ (w : List BlockId). (a ++ w) ++ x) (sym (append-nil b))

fourth : (a b c x : List BlockId) → four a b c x ≡ four a b c [] ++ x
fourth a b c x = ap (λ (w : List BlockId). a ++ w) (sym (append_assoc b c x)) ∙ sym (append_assoc a (b ++ c) x) ∙ ap (λ (w : List BlockId). (a ++ (b ++ w)) ++ x) (sym (append-nil c))

record Held_on (p : Parts) (last : ℕ) (x : Held) : Type 0 where
  pub entries : entries_of (hold p x) ≡ entries_of p ++ held_roots x
  pub clear : IsClear (hold p x) (last_of last (held_place x))

below : (last k : ℕ) → ltb last k ≡ true → last < k
below last k e = ltb-true last k e

held_on : (p : Parts) (last : ℕ) (x : Held) → IsClear p last → may_follow last (held_place x) ≡ true → Held_on p last x
held_on p last h.Nothing c f = record { entries = sym (append-nil (entries_of p)); clear = c }
held_on p last (h.Types xs) c f = record { entries = sym (append-nil (entries_of p)); clear = later _ _ _ _ last 1 c (omega (arith, below last 1 f)) }
held_on p last (h.Imports xs) c f = record { entries = sym (append-nil (entries_of p)); clear = later _ _ _ _ last 2 c (omega (arith, below last 2 f)) }
held_on p last (h.Funcs xs) c f = record { entries = sym (append-nil (entries_of p)); clear = later _ _ _ _ last 3 c (omega (arith, below last 3 f)) }
held_on p last (h.Tables xs) c f = record { entries = sym (append-nil (entries_of p)); clear = later _ _ _ _ last 4 c (omega (arith, below last 4 f)) }
held_on p last (h.Mems xs) c f = record { entries = sym (append-nil (entries_of p)); clear = later _ _ _ _ last 5 c (omega (arith, below last 5 f)) }
held_on p last (h.Exports xs) c f = record { entries = sym (append-nil (entries_of p)); clear = later _ _ _ _ last 7 c (omega (arith, below last 7 f)) }
held_on p last (h.Start xs) c f = record { entries = sym (append-nil (entries_of p)); clear = later _ _ _ _ last 8 c (omega (arith, below last 8 f)) }
held_on p last (h.DataCount xs) c f = record { entries = sym (append-nil (entries_of p)); clear = later _ _ _ _ last 10 c (omega (arith, below last 10 f)) }
held_on p last (h.Globals xs) c f =
    let lt = below last 6 f in
    let gs = c.globals lt in
    let es = c.elems (omega (arith, lt)) in
    let cs = c.codes (omega (arith, lt)) in
    let ds = c.datas (omega (arith, lt)) in
    record { entries = rw (gs, es, cs, ds) (append-nil (flat_map (λ (g : GlobalDef). g.init ∷ []) xs)); clear = record { globals = λ no_more. absurd (omega (arith, no_more)); elems = λ lt. es; codes = λ lt. cs; datas = λ lt. ds } }
held_on p last (h.Elems xs) c f =
    let lt = below last 9 f in
    let es = c.elems lt in
    let cs = c.codes (omega (arith, lt)) in
    let ds = c.datas (omega (arith, lt)) in
    record { entries = rw (es, cs, ds) (second (flat_map (λ (g : GlobalDef). g.init ∷ []) p.globals) (flat_map elem_roots xs)); clear = record { globals = λ no_more. absurd (omega (arith, no_more)); elems = λ no_more. absurd (omega (arith, no_more)); codes = λ lt. cs; datas = λ lt. ds } }
held_on p last (h.Codes xs) c f =
    let lt = below last 11 f in
    let cs = c.codes lt in
    let ds = c.datas (omega (arith, lt)) in
    record { entries = rw (cs, ds) (third (flat_map (λ (g : GlobalDef). g.init ∷ []) p.globals) (flat_map elem_roots p.elems) (flat_map (λ (x : CodeEntry). x.body ∷ []) xs)); clear = record { globals = λ no_more. absurd (omega (arith, no_more)); elems = λ no_more. absurd (omega (arith, no_more)); codes = λ no_more. absurd (omega (arith, no_more)); datas = λ lt. ds } }
held_on p last (h.Datas xs) c f =
    let ds = c.datas (below last 12 f) in
    record { entries = rw ds (fourth (flat_map (λ (g : GlobalDef). g.init ∷ []) p.globals) (flat_map elem_roots p.elems) (flat_map (λ (x : CodeEntry). x.body ∷ []) p.codes) (flat_map data_roots xs)); clear = record { globals = λ no_more. absurd (omega (arith, no_more)); elems = λ no_more. absurd (omega (arith, no_more)); codes = λ no_more. absurd (omega (arith, no_more)); datas = λ no_more. absurd (omega (arith, no_more)) } }

all_held : (xs : List Held) (p : Parts) (last : ℕ) → IsClear p last → held_in_order last xs ≡ true → entries_of (hold_all p xs) ≡ entries_of p ++ flat_map held_roots xs
all_held [] p last c f = sym (append-nil (entries_of p))
all_held (x ∷ xs) p last c f =
    let a = both_true (may_follow last (held_place x)) (held_in_order (last_of last (held_place x)) xs) f in
    let o = held_on p last x c a.0 in
    all_held xs (hold p x) (last_of last (held_place x)) o.clear a.1 ∙ ap (λ (w : List BlockId). w ++ flat_map held_roots xs) o.entries ∙ append_assoc (entries_of p) (held_roots x) (flat_map held_roots xs)

bodies : (tys : List ℕ) (es : List CodeEntry) → length tys ≡ length es → map (λ (f : Func). f.body) (funcs_of tys es) ≡ flat_map (λ (x : CodeEntry). x.body ∷ []) es
bodies [] [] e = refl
bodies [] (x ∷ es) e = absurd (omega (arith, e))
bodies (t ∷ tys) [] e = absurd (omega (arith, e))
bodies (t ∷ tys) (x ∷ es) e = ap (λ (w : List BlockId). x.body ∷ w) (bodies tys es (omega (arith, e)))

outermost_is : (p : Parts) (blocks : List (List Instr)) → length p.funcs ≡ length p.codes → outermost (module_with p blocks) ≡ entries_of p
outermost_is p blocks e =
    let es = flat_map elem_roots p.elems in
    let ds = flat_map data_roots p.datas in
    let gs = map (λ (g : GlobalDef). g.init) p.globals in
    let fs = map (λ (f : Func). f.body) (funcs_of p.funcs p.codes) in
    append_assoc (gs ++ es) fs ds ∙ append_assoc gs es (fs ++ ds)
    ∙ ap (λ (w : List BlockId). gs ++ (es ++ (w ++ ds))) (bodies p.funcs p.codes e)
    ∙ ap (λ (w : List BlockId). four w es (flat_map (λ (x : CodeEntry). x.body ∷ []) p.codes) ds) (sym (flat_map_single (λ (g : GlobalDef). g.init) p.globals))

-- ---- modules

all_clear : IsClear no_parts 0
all_clear = record { globals = λ lt. refl; elems = λ lt. refl; codes = λ lt. refl; datas = λ lt. refl }

module_numbered : (bytes : List ℕ) (tree : ModuleTree) → Spells bytes tree → first_leaf tree ≡ None → is_numbered (module_of tree) ≡ true
module_numbered bytes tree is leaf =
    let x = make_each make_section tree nothing_built in
    let p = hold_all no_parts x.0 in
    let m = module_of tree in
    let g = (items_counts held_roots make_section IsSection section_counts 0 is.sections tree is.are_sections nothing_built leaf).1 in
    let same = both_true (eqb (length p.funcs) (length p.codes)) _ is.agreed in
    let ordered : held_in_order 0 x.0 ≡ true = order_is tree 0 nothing_built ∙ is.ordered in
    let roots : outermost m ≡ flat_map held_roots x.0 = outermost_is p x.1.blocks (eqb-true _ _ same.0) ∙ all_held x.0 no_parts 0 all_clear ordered in
    ap (λ (w : List BlockId). counts_to (length m.blocks) 0 (flat_map (ends_in m (suc (length m.blocks))) w)) roots
    ∙ g.counted m [] (suc (length m.blocks)) (sym (append-nil m.blocks)) (omega arith)

pub answer_numbered : (bytes : List ℕ) (r : Result Module DecodeError) → IfSome (told r) (Decodes bytes) → IfOk r (λ m. is_numbered m ≡ true)
answer_numbered bytes (Ok m) d = subst (λ (n : Module). is_numbered n ≡ true) (sym d.3) (module_numbered bytes d.0 d.1 d.2)
answer_numbered bytes (Err errors.Malformed) d = tt
answer_numbered bytes (Err (errors.Outside place what)) d = tt
answer_numbered bytes (Err errors.NoMemory) d = tt
