-- The laws of the productions: each is put together from those of its parts.
use Rattle.std.proofs.Common.{ℕ, ◌+◌, eqb, List, [], length, true, false, refl, subst}
use Rattle.wasm_syntax.specs.declared.types.ValType.TheVariants as v
use Rattle.wasm_syntax.specs.declared.module.ImportDesc.TheVariants as i
use Rattle.wasm_syntax.specs.declared.module.ExportDesc.TheVariants as x
use Rattle.wasm_grammar.specs.declared.built.Foreign.{Foreign}
use Rattle.wasm_grammar.specs.declared.built.Foreign.TheVariants as w
use Rattle.wasm_grammar.specs.declared.built.Leaf.{Leaf}
use Rattle.wasm_grammar.specs.declared.built.Built.{Built}
use Rattle.wasm_grammar.specs.Forms.{Form}
use Rattle.wasm_grammar.specs.Leb128.{IsU32}
use Rattle.wasm_grammar.specs.Binary.{IsName}
use Rattle.wasm_grammar.specs.Reading.{u32_at, name_at}
use Rattle.wasm_grammar.specs.Threads.{Making, make_same, Reader, same_in}
use Rattle.wasm_grammar.specs.Leaves.{IsLeaf, leaf_before, leaf_in}
use Rattle.wasm_grammar.specs.Types.{Tagged, tagged, known, strange, make_type, IsValType, val_in, IsRefType, ref_in, IsFuncType, func_type_of, make_func_type, func_type_in, limit_from, limit_between, IsLimits, limits_in, table_type_of, IsTableType, table_type_in, IsMutability, mutability_in, IsGlobalType, global_type_of, make_global_type, global_type_in}
use Rattle.wasm_grammar.specs.Entries.{func, table, mem, global, make_import_desc, IsImportDesc, import_desc_in, IsImport, import_of, make_import, import_in, IsExportDesc, export_desc_in, export_of, IsExport, export_in}
use Rattle.wasm_grammar.proofs.Steps.{some_is}
use Rattle.wasm_grammar.proofs.Integers.{u32_reads}
use Rattle.wasm_grammar.proofs.Sizes.{name_reads}
use Rattle.wasm_grammar.proofs.Threads.{Took, Reads, same_reads, nothing_reads, never_reads, when_reads, by_first_reads, of_reads, made_reads, both_reads, vector_reads}

leaf_reads : {S B : Type 0} (what : Foreign) (f : Leaf → S → B × S) → Reads (IsLeaf what) f (leaf_in what f)
leaf_reads {S} {B} what f = record {
  takes = λ s after bytes x e. subst (λ (y : (B × S) × List ℕ). Took (IsLeaf what) f s after bytes y) (some_is _ _ e) (record { tree = leaf_before (after + length bytes) what; front = []; parts = refl; is_form = (refl, refl); made = refl });
  again = λ s after front rest leaf p. rw (p.0, p.1) refl;
}

pub tagged_reads : {S T B : Type 0} (tag : ℕ) (P : Form T) (f : Making S T B) (read : Reader S B) → Reads P f read → Reads (Tagged tag P) f (tagged tag read)
tagged_reads tag P f read r = by_first_reads _ _ _ (λ b. when_reads (eqb b tag) _ _ _ _ _ r (never_reads _))

u32s : Reads {S = Built} IsU32 make_same (same_in u32_at)
u32s = same_reads IsU32 u32_at u32_reads

names : Reads {S = Built} IsName make_same (same_in name_at)
names = same_reads IsName name_at name_reads

-- ---- types

pub val_type_reads : Reads IsValType make_type val_in
val_type_reads = by_first_reads _ _ _ (λ b.
    when_reads (eqb b 127) _ _ _ _ _ (nothing_reads (known v.I32) make_type) (
    when_reads (eqb b 126) _ _ _ _ _ (nothing_reads (known v.I64) make_type) (
    when_reads (eqb b 125) _ _ _ _ _ (made_reads strange _ make_type _ (leaf_reads w.Float (λ leaf. make_type (strange leaf)))) (
    when_reads (eqb b 124) _ _ _ _ _ (made_reads strange _ make_type _ (leaf_reads w.Float (λ leaf. make_type (strange leaf)))) (
    when_reads (eqb b 123) _ _ _ _ _ (made_reads strange _ make_type _ (leaf_reads w.Simd (λ leaf. make_type (strange leaf)))) (
    when_reads (eqb b 112) _ _ _ _ _ (nothing_reads (known v.FuncRef) make_type) (
    when_reads (eqb b 111) _ _ _ _ _ (nothing_reads (known v.ExternRef) make_type) (
    never_reads _))))))))

pub ref_type_reads : Reads IsRefType make_same ref_in
ref_type_reads = by_first_reads _ _ _ (λ b. when_reads (eqb b 112) _ _ _ _ _ (nothing_reads v.FuncRef make_same) (when_reads (eqb b 111) _ _ _ _ _ (nothing_reads v.ExternRef make_same) (never_reads _)))

pub func_type_reads : Reads IsFuncType make_func_type func_type_in
func_type_reads = of_reads func_type_of _ _ _ (tagged_reads 96 _ _ _ (both_reads _ _ _ _ _ _ (vector_reads _ _ _ val_type_reads) (vector_reads _ _ _ val_type_reads)))

pub limits_reads : Reads IsLimits make_same limits_in
limits_reads = by_first_reads _ _ _ (λ b.
    when_reads (eqb b 0) _ _ _ _ _ (made_reads limit_from _ make_same _ (of_reads limit_from _ _ _ u32s)) (
    when_reads (eqb b 1) _ _ _ _ _ (made_reads limit_between _ make_same _ (of_reads limit_between _ _ _ (both_reads _ _ _ _ _ _ u32s u32s))) (
    never_reads _)))

pub table_type_reads : Reads IsTableType make_same table_type_in
table_type_reads = made_reads table_type_of _ make_same _ (of_reads table_type_of _ _ _ (both_reads _ _ _ _ _ _ ref_type_reads limits_reads))

mutability_reads : Reads IsMutability make_same mutability_in
mutability_reads = by_first_reads _ _ _ (λ b. when_reads (eqb b 0) _ _ _ _ _ (nothing_reads false make_same) (when_reads (eqb b 1) _ _ _ _ _ (nothing_reads true make_same) (never_reads _)))

pub global_type_reads : Reads IsGlobalType make_global_type global_type_in
global_type_reads = of_reads global_type_of _ _ _ (both_reads _ _ _ _ _ _ val_type_reads mutability_reads)

-- ---- imports and exports

import_desc_reads : Reads IsImportDesc make_import_desc import_desc_in
import_desc_reads = by_first_reads _ _ _ (λ b.
    when_reads (eqb b 0) _ _ _ _ _ (made_reads func _ make_import_desc _ (of_reads i.Func _ _ _ u32s)) (
    when_reads (eqb b 1) _ _ _ _ _ (made_reads table _ make_import_desc _ (of_reads i.Table _ _ _ table_type_reads)) (
    when_reads (eqb b 2) _ _ _ _ _ (made_reads mem _ make_import_desc _ (of_reads i.Mem _ _ _ limits_reads)) (
    when_reads (eqb b 3) _ _ _ _ _ (made_reads global _ make_import_desc _ (of_reads i.Global _ _ _ global_type_reads)) (
    never_reads _)))))

pub import_reads : Reads IsImport make_import import_in
import_reads = of_reads import_of _ _ _ (both_reads _ _ _ _ _ _ (both_reads _ _ _ _ _ _ names names) import_desc_reads)

export_desc_reads : Reads IsExportDesc make_same export_desc_in
export_desc_reads = by_first_reads _ _ _ (λ b.
    when_reads (eqb b 0) _ _ _ _ _ (made_reads x.Func _ make_same _ (of_reads x.Func _ _ _ u32s)) (
    when_reads (eqb b 1) _ _ _ _ _ (made_reads x.Table _ make_same _ (of_reads x.Table _ _ _ u32s)) (
    when_reads (eqb b 2) _ _ _ _ _ (made_reads x.Mem _ make_same _ (of_reads x.Mem _ _ _ u32s)) (
    when_reads (eqb b 3) _ _ _ _ _ (made_reads x.Global _ make_same _ (of_reads x.Global _ _ _ u32s)) (
    never_reads _)))))

pub export_reads : Reads IsExport make_same export_in
export_reads = made_reads export_of _ make_same _ (of_reads export_of _ _ _ (both_reads _ _ _ _ _ _ names export_desc_reads))
