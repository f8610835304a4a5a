-- The laws of globals, code entries, segments and sections.
use Rattle.std.proofs.Common.{◌≡◌, ℕ, ◌+◌, ◌^◌, Bool, true, cond, eqb, ltb, List, [], ◌∷◌, ◌++◌, Some, None, refl, sym, ap, subst, ◌∙◌}
use Rattle.wasm_syntax.specs.declared.types.ValType.TheVariants as v
use Rattle.wasm_syntax.specs.declared.instructions.BlockId.{BlockId}
use Rattle.wasm_syntax.specs.declared.module.Mode.TheVariants as m
use Rattle.wasm_grammar.specs.declared.built.Built.{Built}
use Rattle.wasm_grammar.specs.declared.held.Held.{Held}
use Rattle.wasm_grammar.specs.declared.held.Held.TheVariants as h
use Rattle.wasm_grammar.specs.Forms.{Form}
use Rattle.wasm_grammar.specs.Leb128.{IsU32}
use Rattle.wasm_grammar.specs.Binary.{IsVector, IsSized, IsBytes, IsCustom}
use Rattle.wasm_grammar.specs.Choices.{Such, such_in}
use Rattle.wasm_grammar.specs.Reading.{u32_at, part_at, custom_at}
use Rattle.wasm_grammar.specs.Threads.{Making, make_same, make_each, Reader, same_in}
use Rattle.wasm_grammar.specs.Functions.{IsGlobal, global_of, make_global, global_in, LocalTree, IsLocal, make_local, local_in, local_count, few_locals, IsLocals, locals_in, IsCodeEntry, entry_of, make_entry, entry_in}
use Rattle.wasm_grammar.specs.Segments.{active, passive, declared, mode_at, make_mode, IsFirst, IsIndexed, first_in, indexed_in, funcs, exprs, make_func_ref, of_type, make_refs, IsFuncs, func_exprs, IsFuncExprs, IsExprs, func_ref_in, funcs_in, func_exprs_in, exprs_in, IsElem, elem_of, make_elem, elem_in, IsData, data_of, make_data, data_in}
use Rattle.wasm_grammar.specs.Sections.{Section, IsSection, make_section, custom_in, filling, number_in, section_in}
use Rattle.wasm_grammar.specs.Sections as s
use Rattle.wasm_grammar.proofs.Steps.{bind_some, guard_is, some_is}
use Rattle.wasm_grammar.proofs.Integers.{u32_reads}
use Rattle.wasm_grammar.proofs.Sizes.{bytes_read}
use Rattle.wasm_grammar.proofs.Customs.{custom_takes, custom_again}
use Rattle.wasm_grammar.proofs.Threads.{Took, Reads, same_reads, nothing_reads, never_reads, when_reads, by_first_reads, of_reads, made_reads, both_reads, by_number_reads, vector_reads, whole_reads, sized_reads, both_whole_reads, of_whole_reads}
use Rattle.wasm_grammar.proofs.Productions.{tagged_reads, val_type_reads, ref_type_reads, func_type_reads, limits_reads, table_type_reads, global_type_reads, import_reads, export_reads}
use Rattle.wasm_grammar.proofs.Runs.{expression_reads}
use Rattle.wasm_grammar.proofs.Cuts.{body_reads}

u32s : Reads {S = Built} IsU32 make_same (same_in u32_at)
u32s = same_reads IsU32 u32_at u32_reads

-- ---- a test of the tree and of what it makes, which agree

module _ {S T B : Type 0} (test : T → Bool) (check : B → Bool) (P : Form T) (f : Making S T B) (read : Reader S B) (agree : (t : T) (s : S) → check (f t s).0 ≡ test t) (r : Reads P f read) where
  pub such_reads : Reads (Such test P) f (such_in check read)
  such_reads = record {
    takes = λ s after bytes x e.
        let a = bind_some (read s after bytes) (λ x. cond (check x.0.0) (Some x) None) x e in
        let g = guard_is (check a.0.0.0) (Some a.0) x a.2 in
        let t = r.takes s after bytes a.0 a.1 in
        let holds : test t.tree ≡ true = sym (agree t.tree s) ∙ ap (λ (y : B × S). check y.0) (sym t.made) ∙ g.0 in
        subst (λ (y : (B × S) × List ℕ). Took (Such test P) f s after bytes y) (some_is _ _ g.1)
        (record { tree = t.tree; front = t.front; parts = t.parts; is_form = record { is_form = t.is_form; holds = holds }; made = t.made });
    again = λ s after front rest t p.
        let one = r.again s after front rest t p.is_form in
        let two : check (f t s).0 ≡ true = agree t s ∙ p.holds in
        rw (one, two) refl;
  }

-- ---- globals and code entries

pub global_reads : Reads IsGlobal make_global global_in
global_reads = of_reads global_of _ _ _ (both_reads _ _ _ _ _ _ global_type_reads expression_reads)

local_reads : Reads IsLocal make_local local_in
local_reads = both_reads _ _ _ _ _ _ u32s val_type_reads

same_count : (ts : List LocalTree) (s : Built) → local_count (make_each make_local ts s).0 ≡ local_count ts
same_count [] s = refl
same_count (t ∷ ts) s = ap (λ (n : ℕ). t.0 + n) (same_count ts (make_local t s).1)

locals_reads : Reads IsLocals (make_each make_local) locals_in
locals_reads = such_reads few_locals few_locals _ _ _ (λ ts s. ap (λ (n : ℕ). ltb n (2 ^ 32)) (same_count ts s)) (vector_reads _ _ _ local_reads)

pub entry_reads : Reads IsCodeEntry make_entry entry_in
entry_reads = sized_reads _ _ _ (of_whole_reads entry_of _ _ _ (both_whole_reads _ _ _ _ _ _ locals_reads body_reads))

-- ---- segments

first_reads : Reads IsFirst make_mode first_in
first_reads = made_reads (active 0) _ make_mode _ (of_reads (m.Active 0) _ _ _ expression_reads)

indexed_reads : Reads IsIndexed make_mode indexed_in
indexed_reads = made_reads (λ x. active x.0 x.1) _ make_mode _ (of_reads mode_at _ _ _ (both_reads _ _ _ _ _ _ u32s expression_reads))

func_ref_reads : Reads IsU32 make_func_ref func_ref_in
func_ref_reads = record {
  takes = λ s after bytes x e.
      let a = bind_some (u32_at bytes) (λ n. Some (make_func_ref n.0 s, n.1)) x e in
      let t = u32_reads.takes after bytes a.0 a.1 in
      subst (λ (y : (BlockId × Built) × List ℕ). Took IsU32 make_func_ref s after bytes y) (some_is _ _ a.2) (record { tree = a.0.0; front = t.front; parts = t.parts; is_form = t.is_form; made = refl });
  again = λ s after front rest n p. rw (u32_reads.again after front rest n p) refl;
}

funcs_reads : Reads IsFuncs make_refs funcs_in
funcs_reads = made_reads funcs _ make_refs _ (of_reads (of_type v.FuncRef) _ _ _ (vector_reads _ _ _ func_ref_reads))

func_exprs_reads : Reads IsFuncExprs make_refs func_exprs_in
func_exprs_reads = made_reads func_exprs _ make_refs _ (of_reads (of_type v.FuncRef) _ _ _ (vector_reads _ _ _ expression_reads))

exprs_reads : Reads IsExprs make_refs exprs_in
exprs_reads = made_reads exprs _ make_refs _ (both_reads _ _ _ _ _ _ ref_type_reads (vector_reads _ _ _ expression_reads))

pub elem_reads : Reads IsElem make_elem elem_in
elem_reads = of_reads elem_of _ _ _ (by_number_reads _ _ _ (λ left flag.
    when_reads (eqb flag 0) _ _ _ _ _ (both_reads _ _ _ _ _ _ first_reads funcs_reads) (
    when_reads (eqb flag 1) _ _ _ _ _ (both_reads _ _ _ _ _ _ (nothing_reads passive make_mode) (tagged_reads 0 _ _ _ funcs_reads)) (
    when_reads (eqb flag 2) _ _ _ _ _ (both_reads _ _ _ _ _ _ indexed_reads (tagged_reads 0 _ _ _ funcs_reads)) (
    when_reads (eqb flag 3) _ _ _ _ _ (both_reads _ _ _ _ _ _ (nothing_reads declared make_mode) (tagged_reads 0 _ _ _ funcs_reads)) (
    when_reads (eqb flag 4) _ _ _ _ _ (both_reads _ _ _ _ _ _ first_reads func_exprs_reads) (
    when_reads (eqb flag 5) _ _ _ _ _ (both_reads _ _ _ _ _ _ (nothing_reads passive make_mode) exprs_reads) (
    when_reads (eqb flag 6) _ _ _ _ _ (both_reads _ _ _ _ _ _ indexed_reads exprs_reads) (
    when_reads (eqb flag 7) _ _ _ _ _ (both_reads _ _ _ _ _ _ (nothing_reads declared make_mode) exprs_reads) (
    never_reads _))))))))))

bytes_reads : Reads {S = Built} IsBytes make_same (same_in part_at)
bytes_reads = same_reads IsBytes part_at bytes_read

pub data_reads : Reads IsData make_data data_in
data_reads = of_reads data_of _ _ _ (by_number_reads _ _ _ (λ left flag.
    when_reads (eqb flag 0) _ _ _ _ _ (both_reads _ _ _ _ _ _ first_reads bytes_reads) (
    when_reads (eqb flag 1) _ _ _ _ _ (both_reads _ _ _ _ _ _ (nothing_reads passive make_mode) bytes_reads) (
    when_reads (eqb flag 2) _ _ _ _ _ (both_reads _ _ _ _ _ _ indexed_reads bytes_reads) (
    never_reads _)))))

-- ---- sections

customs : Reads IsCustom (λ x b. (h.Nothing, b)) custom_in
customs = record {
  takes = λ b after bytes x e.
      let a = bind_some (custom_at bytes) (λ rest. Some ((h.Nothing, b), rest)) x e in
      let t = custom_takes after bytes a.0 a.1 in
      subst (λ (y : (Held × Built) × List ℕ). Took IsCustom (λ x b. (h.Nothing, b)) b after bytes y) (some_is _ _ a.2) (record { tree = t.0; front = t.1.front; parts = t.1.parts; is_form = t.1.is_form; made = refl });
  again = λ b after front rest x p. rw (custom_again after (front ++ rest) rest x (record { front = front; parts = refl; is_form = p })) refl;
}

filled : {T B : Type 0} (P : Form T) (f : Making Built T B) (read : Reader Built B) → Reads P f read → Reads (IsSized (IsVector P)) (make_each f) (filling read)
filled P f read r = sized_reads _ _ _ (whole_reads _ _ _ (vector_reads _ _ _ r))

numbers : Reads (IsSized IsU32) make_same number_in
numbers = sized_reads _ _ _ (whole_reads _ _ _ u32s)

pub section_reads : Reads IsSection make_section section_in
unfolding section_in
section_reads = by_first_reads _ _ _ (λ id.
    when_reads (eqb id 0) _ _ _ _ _ (made_reads s.custom _ make_section _ customs) (
    when_reads (eqb id 1) _ _ _ _ _ (made_reads s.types _ make_section _ (of_reads h.Types _ _ _ (filled _ _ _ func_type_reads))) (
    when_reads (eqb id 2) _ _ _ _ _ (made_reads s.imports _ make_section _ (of_reads h.Imports _ _ _ (filled _ _ _ import_reads))) (
    when_reads (eqb id 3) _ _ _ _ _ (made_reads s.funcs _ make_section _ (of_reads h.Funcs _ _ _ (filled _ _ _ u32s))) (
    when_reads (eqb id 4) _ _ _ _ _ (made_reads s.tables _ make_section _ (of_reads h.Tables _ _ _ (filled _ _ _ table_type_reads))) (
    when_reads (eqb id 5) _ _ _ _ _ (made_reads s.mems _ make_section _ (of_reads h.Mems _ _ _ (filled _ _ _ limits_reads))) (
    when_reads (eqb id 6) _ _ _ _ _ (made_reads s.globals _ make_section _ (of_reads h.Globals _ _ _ (filled _ _ _ global_reads))) (
    when_reads (eqb id 7) _ _ _ _ _ (made_reads s.exports _ make_section _ (of_reads h.Exports _ _ _ (filled _ _ _ export_reads))) (
    when_reads (eqb id 8) _ _ _ _ _ (made_reads s.start _ make_section _ (of_reads h.Start _ _ _ numbers)) (
    when_reads (eqb id 9) _ _ _ _ _ (made_reads s.elems _ make_section _ (of_reads h.Elems _ _ _ (filled _ _ _ elem_reads))) (
    when_reads (eqb id 10) _ _ _ _ _ (made_reads s.codes _ make_section _ (of_reads h.Codes _ _ _ (filled _ _ _ entry_reads))) (
    when_reads (eqb id 11) _ _ _ _ _ (made_reads s.datas _ make_section _ (of_reads h.Datas _ _ _ (filled _ _ _ data_reads))) (
    when_reads (eqb id 12) _ _ _ _ _ (made_reads s.data_count _ make_section _ (of_reads h.DataCount _ _ _ numbers)) (
    never_reads _))))))))))))))
