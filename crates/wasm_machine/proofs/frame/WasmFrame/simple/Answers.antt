use Rattle.wasm_syntax.specs.declared.sorts.Simple.TheVariants as p
use Rattle.wasm_machine.proofs.Finding as find
use Rattle.wasm_machine.proofs.FindingMemories as memory
use Rattle.wasm_machine.proofs.frame.WasmFrame.simple.Goals as goal

pub constant-requires : goal.constant-requires
constant-requires c = find.const_room c.args.store.now c.args.self.now c.in-Const.number (find.as_is c.args.store.now c.args.instr (p.Const c.in-Const.number) c.args.self.now c.in-Const.is c.requires.can)

pub unary-requires-clause-tops : goal.unary-requires-clause-tops
unary-requires-clause-tops c = find.unary_tops c.args.store.now c.args.self.now c.in-Unary.ty c.in-Unary.op (find.as_is c.args.store.now c.args.instr (p.Unary c.in-Unary.ty c.in-Unary.op) c.args.self.now c.in-Unary.is c.requires.can)

pub unary-requires-clause-width : goal.unary-requires-clause-width
unary-requires-clause-width c = find.unary_width c.args.store.now c.args.self.now c.in-Unary.ty c.in-Unary.op (find.as_is c.args.store.now c.args.instr (p.Unary c.in-Unary.ty c.in-Unary.op) c.args.self.now c.in-Unary.is c.requires.can)

pub binary-requires-clause-tops : goal.binary-requires-clause-tops
binary-requires-clause-tops c = find.binary_tops c.args.store.now c.args.self.now c.in-Binary.ty c.in-Binary.op (find.as_is c.args.store.now c.args.instr (p.Binary c.in-Binary.ty c.in-Binary.op) c.args.self.now c.in-Binary.is c.requires.can)

pub test-requires-clause-tops : goal.test-requires-clause-tops
test-requires-clause-tops c = find.test_tops c.args.store.now c.args.self.now c.in-Test.ty (find.as_is c.args.store.now c.args.instr (p.Test c.in-Test.ty) c.args.self.now c.in-Test.is c.requires.can)

pub compare-requires-clause-tops : goal.compare-requires-clause-tops
compare-requires-clause-tops c = find.compare_tops c.args.store.now c.args.self.now c.in-Compare.ty c.in-Compare.op (find.as_is c.args.store.now c.args.instr (p.Compare c.in-Compare.ty c.in-Compare.op) c.args.self.now c.in-Compare.is c.requires.can)

pub convert-requires-clause-tops : goal.convert-requires-clause-tops
convert-requires-clause-tops c = find.convert_tops c.args.store.now c.args.self.now c.in-Convert.op (find.as_is c.args.store.now c.args.instr (p.Convert c.in-Convert.op) c.args.self.now c.in-Convert.is c.requires.can)

pub local_get-requires-clause-there : goal.local_get-requires-clause-there
local_get-requires-clause-there c = find.local_get_there c.args.store.now c.args.self.now c.in-LocalGet.x (find.as_is c.args.store.now c.args.instr (p.LocalGet c.in-LocalGet.x) c.args.self.now c.in-LocalGet.is c.requires.can)

pub local_get-requires-clause-room : goal.local_get-requires-clause-room
local_get-requires-clause-room c = find.local_get_room c.args.store.now c.args.self.now c.in-LocalGet.x (find.as_is c.args.store.now c.args.instr (p.LocalGet c.in-LocalGet.x) c.args.self.now c.in-LocalGet.is c.requires.can)

pub local_set-requires-clause-there : goal.local_set-requires-clause-there
local_set-requires-clause-there c = find.local_set_there c.args.store.now c.args.self.now c.in-LocalSet.x (find.as_is c.args.store.now c.args.instr (p.LocalSet c.in-LocalSet.x) c.args.self.now c.in-LocalSet.is c.requires.can)

pub local_set-requires-clause-some : goal.local_set-requires-clause-some
local_set-requires-clause-some c = find.local_set_some c.args.store.now c.args.self.now c.in-LocalSet.x (find.as_is c.args.store.now c.args.instr (p.LocalSet c.in-LocalSet.x) c.args.self.now c.in-LocalSet.is c.requires.can)

pub local_tee-requires-clause-there : goal.local_tee-requires-clause-there
local_tee-requires-clause-there c = find.local_tee_there c.args.store.now c.args.self.now c.in-LocalTee.x (find.as_is c.args.store.now c.args.instr (p.LocalTee c.in-LocalTee.x) c.args.self.now c.in-LocalTee.is c.requires.can)

pub local_tee-requires-clause-some : goal.local_tee-requires-clause-some
local_tee-requires-clause-some c = find.local_tee_some c.args.store.now c.args.self.now c.in-LocalTee.x (find.as_is c.args.store.now c.args.instr (p.LocalTee c.in-LocalTee.x) c.args.self.now c.in-LocalTee.is c.requires.can)

pub global_get-requires-clause-there : goal.global_get-requires-clause-there
global_get-requires-clause-there c = find.global_get_there c.args.store.now c.args.self.now c.in-GlobalGet.x (find.as_is c.args.store.now c.args.instr (p.GlobalGet c.in-GlobalGet.x) c.args.self.now c.in-GlobalGet.is c.requires.can)

pub global_get-requires-clause-room : goal.global_get-requires-clause-room
global_get-requires-clause-room c = find.global_get_room c.args.store.now c.args.self.now c.in-GlobalGet.x (find.as_is c.args.store.now c.args.instr (p.GlobalGet c.in-GlobalGet.x) c.args.self.now c.in-GlobalGet.is c.requires.can)

pub global_set-requires-clause-there : goal.global_set-requires-clause-there
global_set-requires-clause-there c = find.global_set_there c.args.store.now c.args.self.now c.in-GlobalSet.x (find.as_is c.args.store.now c.args.instr (p.GlobalSet c.in-GlobalSet.x) c.args.self.now c.in-GlobalSet.is c.requires.can)

pub global_set-requires-clause-some : goal.global_set-requires-clause-some
global_set-requires-clause-some c = find.global_set_some c.args.store.now c.args.self.now c.in-GlobalSet.x (find.as_is c.args.store.now c.args.instr (p.GlobalSet c.in-GlobalSet.x) c.args.self.now c.in-GlobalSet.is c.requires.can)

pub table_get-requires-clause-there : goal.table_get-requires-clause-there
table_get-requires-clause-there c = find.table_get_there c.args.store.now c.args.self.now c.in-TableGet.x (find.as_is c.args.store.now c.args.instr (p.TableGet c.in-TableGet.x) c.args.self.now c.in-TableGet.is c.requires.can)

pub table_get-requires-clause-tops : goal.table_get-requires-clause-tops
table_get-requires-clause-tops c = find.table_get_tops c.args.store.now c.args.self.now c.in-TableGet.x (find.as_is c.args.store.now c.args.instr (p.TableGet c.in-TableGet.x) c.args.self.now c.in-TableGet.is c.requires.can)

pub table_set-requires-clause-there : goal.table_set-requires-clause-there
table_set-requires-clause-there c = find.table_set_there c.args.store.now c.args.self.now c.in-TableSet.x (find.as_is c.args.store.now c.args.instr (p.TableSet c.in-TableSet.x) c.args.self.now c.in-TableSet.is c.requires.can)

pub table_set-requires-clause-tops : goal.table_set-requires-clause-tops
table_set-requires-clause-tops c = find.table_set_tops c.args.store.now c.args.self.now c.in-TableSet.x (find.as_is c.args.store.now c.args.instr (p.TableSet c.in-TableSet.x) c.args.self.now c.in-TableSet.is c.requires.can)

pub elem_drop-requires-clause-there : goal.elem_drop-requires-clause-there
elem_drop-requires-clause-there c = find.elem_drop_there c.args.store.now c.args.self.now c.in-ElemDrop.x (find.as_is c.args.store.now c.args.instr (p.ElemDrop c.in-ElemDrop.x) c.args.self.now c.in-ElemDrop.is c.requires.can)

pub table_grow-requires-clause-there : goal.table_grow-requires-clause-there
table_grow-requires-clause-there c = find.table_grow_there c.args.store.now c.args.self.now c.in-TableGrow.x (find.as_is c.args.store.now c.args.instr (p.TableGrow c.in-TableGrow.x) c.args.self.now c.in-TableGrow.is c.requires.can)

pub table_grow-requires-clause-tops : goal.table_grow-requires-clause-tops
table_grow-requires-clause-tops c = find.table_grow_tops c.args.store.now c.args.self.now c.in-TableGrow.x (find.as_is c.args.store.now c.args.instr (p.TableGrow c.in-TableGrow.x) c.args.self.now c.in-TableGrow.is c.requires.can)

pub table_size-requires-clause-there : goal.table_size-requires-clause-there
table_size-requires-clause-there c = find.table_size_there c.args.store.now c.args.self.now c.in-TableSize.x (find.as_is c.args.store.now c.args.instr (p.TableSize c.in-TableSize.x) c.args.self.now c.in-TableSize.is c.requires.can)

pub table_size-requires-clause-room : goal.table_size-requires-clause-room
table_size-requires-clause-room c = find.table_size_room c.args.store.now c.args.self.now c.in-TableSize.x (find.as_is c.args.store.now c.args.instr (p.TableSize c.in-TableSize.x) c.args.self.now c.in-TableSize.is c.requires.can)

pub table_fill-requires-clause-there : goal.table_fill-requires-clause-there
table_fill-requires-clause-there c = find.table_fill_there c.args.store.now c.args.self.now c.in-TableFill.x (find.as_is c.args.store.now c.args.instr (p.TableFill c.in-TableFill.x) c.args.self.now c.in-TableFill.is c.requires.can)

pub table_fill-requires-clause-tops : goal.table_fill-requires-clause-tops
table_fill-requires-clause-tops c = find.table_fill_tops c.args.store.now c.args.self.now c.in-TableFill.x (find.as_is c.args.store.now c.args.instr (p.TableFill c.in-TableFill.x) c.args.self.now c.in-TableFill.is c.requires.can)

pub ref_null-requires : goal.ref_null-requires
ref_null-requires c = find.null_room c.args.store.now c.args.self.now c.in-RefNull.ty (find.as_is c.args.store.now c.args.instr (p.RefNull c.in-RefNull.ty) c.args.self.now c.in-RefNull.is c.requires.can)

pub ref_func-requires-clause-there : goal.ref_func-requires-clause-there
ref_func-requires-clause-there c = find.ref_func_there c.args.store.now c.args.self.now c.in-RefFunc.x (find.as_is c.args.store.now c.args.instr (p.RefFunc c.in-RefFunc.x) c.args.self.now c.in-RefFunc.is c.requires.can)

pub ref_func-requires-clause-room : goal.ref_func-requires-clause-room
ref_func-requires-clause-room c = find.ref_func_room c.args.store.now c.args.self.now c.in-RefFunc.x (find.as_is c.args.store.now c.args.instr (p.RefFunc c.in-RefFunc.x) c.args.self.now c.in-RefFunc.is c.requires.can)

pub table_init-requires-clause-there : goal.table_init-requires-clause-there
table_init-requires-clause-there c = (find.table_init_finds c.args.store.now c.args.self.now c.in-TableInit.elem c.in-TableInit.table (find.as_is c.args.store.now c.args.instr (p.TableInit c.in-TableInit.elem c.in-TableInit.table) c.args.self.now c.in-TableInit.is c.requires.can)).there

pub table_init-requires-clause-there_segment : goal.table_init-requires-clause-there_segment
table_init-requires-clause-there_segment c = (find.table_init_finds c.args.store.now c.args.self.now c.in-TableInit.elem c.in-TableInit.table (find.as_is c.args.store.now c.args.instr (p.TableInit c.in-TableInit.elem c.in-TableInit.table) c.args.self.now c.in-TableInit.is c.requires.can)).there_segment

pub table_init-requires-clause-typed : goal.table_init-requires-clause-typed
table_init-requires-clause-typed c = (find.table_init_finds c.args.store.now c.args.self.now c.in-TableInit.elem c.in-TableInit.table (find.as_is c.args.store.now c.args.instr (p.TableInit c.in-TableInit.elem c.in-TableInit.table) c.args.self.now c.in-TableInit.is c.requires.can)).typed

pub table_init-requires-clause-tops : goal.table_init-requires-clause-tops
table_init-requires-clause-tops c = (find.table_init_finds c.args.store.now c.args.self.now c.in-TableInit.elem c.in-TableInit.table (find.as_is c.args.store.now c.args.instr (p.TableInit c.in-TableInit.elem c.in-TableInit.table) c.args.self.now c.in-TableInit.is c.requires.can)).tops

pub table_copy-requires-clause-there : goal.table_copy-requires-clause-there
table_copy-requires-clause-there c = (find.table_copy_finds c.args.store.now c.args.self.now c.in-TableCopy.to c.in-TableCopy.from (find.as_is c.args.store.now c.args.instr (p.TableCopy c.in-TableCopy.to c.in-TableCopy.from) c.args.self.now c.in-TableCopy.is c.requires.can)).there

pub table_copy-requires-clause-there_from : goal.table_copy-requires-clause-there_from
table_copy-requires-clause-there_from c = (find.table_copy_finds c.args.store.now c.args.self.now c.in-TableCopy.to c.in-TableCopy.from (find.as_is c.args.store.now c.args.instr (p.TableCopy c.in-TableCopy.to c.in-TableCopy.from) c.args.self.now c.in-TableCopy.is c.requires.can)).there_from

pub table_copy-requires-clause-same : goal.table_copy-requires-clause-same
table_copy-requires-clause-same c = (find.table_copy_finds c.args.store.now c.args.self.now c.in-TableCopy.to c.in-TableCopy.from (find.as_is c.args.store.now c.args.instr (p.TableCopy c.in-TableCopy.to c.in-TableCopy.from) c.args.self.now c.in-TableCopy.is c.requires.can)).same

pub table_copy-requires-clause-tops : goal.table_copy-requires-clause-tops
table_copy-requires-clause-tops c = (find.table_copy_finds c.args.store.now c.args.self.now c.in-TableCopy.to c.in-TableCopy.from (find.as_is c.args.store.now c.args.instr (p.TableCopy c.in-TableCopy.to c.in-TableCopy.from) c.args.self.now c.in-TableCopy.is c.requires.can)).tops

pub returns-in-Const-clause-ends : goal.returns-in-Const-clause-ends
returns-in-Const-clause-ends c = find.ends_goes c.args.store.now c.args.instr (p.Const c.in-Const.number) c.args.self.now c.constant.new.self c.in-Const.is c.constant.ensures

pub returns-in-Unary-clause-ends : goal.returns-in-Unary-clause-ends
returns-in-Unary-clause-ends c = find.ends_goes c.args.store.now c.args.instr (p.Unary c.in-Unary.ty c.in-Unary.op) c.args.self.now c.unary.new.self c.in-Unary.is c.unary.ensures

pub returns-in-Test-clause-ends : goal.returns-in-Test-clause-ends
returns-in-Test-clause-ends c = find.ends_goes c.args.store.now c.args.instr (p.Test c.in-Test.ty) c.args.self.now c.test.new.self c.in-Test.is c.test.ensures

pub returns-in-Compare-clause-ends : goal.returns-in-Compare-clause-ends
returns-in-Compare-clause-ends c = find.ends_goes c.args.store.now c.args.instr (p.Compare c.in-Compare.ty c.in-Compare.op) c.args.self.now c.compare.new.self c.in-Compare.is c.compare.ensures

pub returns-in-Convert-clause-ends : goal.returns-in-Convert-clause-ends
returns-in-Convert-clause-ends c = find.ends_goes c.args.store.now c.args.instr (p.Convert c.in-Convert.op) c.args.self.now c.convert.new.self c.in-Convert.is c.convert.ensures

pub returns-in-LocalGet-clause-ends : goal.returns-in-LocalGet-clause-ends
returns-in-LocalGet-clause-ends c = find.ends_goes c.args.store.now c.args.instr (p.LocalGet c.in-LocalGet.x) c.args.self.now c.local_get.new.self c.in-LocalGet.is c.local_get.ensures

pub returns-in-LocalSet-clause-ends : goal.returns-in-LocalSet-clause-ends
returns-in-LocalSet-clause-ends c = find.ends_goes c.args.store.now c.args.instr (p.LocalSet c.in-LocalSet.x) c.args.self.now c.local_set.new.self c.in-LocalSet.is c.local_set.ensures

pub returns-in-LocalTee-clause-ends : goal.returns-in-LocalTee-clause-ends
returns-in-LocalTee-clause-ends c = find.ends_goes c.args.store.now c.args.instr (p.LocalTee c.in-LocalTee.x) c.args.self.now c.local_tee.new.self c.in-LocalTee.is c.local_tee.ensures

pub returns-in-RefNull-clause-ends : goal.returns-in-RefNull-clause-ends
returns-in-RefNull-clause-ends c = find.ends_goes c.args.store.now c.args.instr (p.RefNull c.in-RefNull.ty) c.args.self.now c.ref_null.new.self c.in-RefNull.is c.ref_null.ensures

pub returns-in-Binary-clause-ends : goal.returns-in-Binary-clause-ends
returns-in-Binary-clause-ends c = find.ends_either c.args.store.now c.args.instr (p.Binary c.in-Binary.ty c.in-Binary.op) c.args.self.now c.binary.new.self c.binary.result c.in-Binary.is c.binary.ensures.ok c.binary.ensures.trap

pub memory_load-requires-clause-there : goal.memory_load-requires-clause-there
memory_load-requires-clause-there c = memory.load_there c.args.store.now c.args.self.now c.in-Load.ty c.in-Load.width c.in-Load.extension c.in-Load.at (find.as_is c.args.store.now c.args.instr (p.Load c.in-Load.ty c.in-Load.width c.in-Load.extension c.in-Load.at) c.args.self.now c.in-Load.is c.requires.can)

pub memory_load-requires-clause-within : goal.memory_load-requires-clause-within
memory_load-requires-clause-within c = memory.load_within c.args.store.now c.args.self.now c.in-Load.ty c.in-Load.width c.in-Load.extension c.in-Load.at (find.as_is c.args.store.now c.args.instr (p.Load c.in-Load.ty c.in-Load.width c.in-Load.extension c.in-Load.at) c.args.self.now c.in-Load.is c.requires.can)

pub memory_load-requires-clause-tops : goal.memory_load-requires-clause-tops
memory_load-requires-clause-tops c = memory.load_tops c.args.store.now c.args.self.now c.in-Load.ty c.in-Load.width c.in-Load.extension c.in-Load.at (find.as_is c.args.store.now c.args.instr (p.Load c.in-Load.ty c.in-Load.width c.in-Load.extension c.in-Load.at) c.args.self.now c.in-Load.is c.requires.can)

pub memory_store-requires-clause-there : goal.memory_store-requires-clause-there
memory_store-requires-clause-there c = memory.store_there c.args.store.now c.args.self.now c.in-Store.ty c.in-Store.width c.in-Store.at (find.as_is c.args.store.now c.args.instr (p.Store c.in-Store.ty c.in-Store.width c.in-Store.at) c.args.self.now c.in-Store.is c.requires.can)

pub memory_store-requires-clause-tops : goal.memory_store-requires-clause-tops
memory_store-requires-clause-tops c = memory.store_tops c.args.store.now c.args.self.now c.in-Store.ty c.in-Store.width c.in-Store.at (find.as_is c.args.store.now c.args.instr (p.Store c.in-Store.ty c.in-Store.width c.in-Store.at) c.args.self.now c.in-Store.is c.requires.can)

pub memory_size-requires-clause-there : goal.memory_size-requires-clause-there
memory_size-requires-clause-there c = memory.size_there c.args.store.now c.args.self.now (find.as_is c.args.store.now c.args.instr p.MemorySize c.args.self.now c.in-MemorySize.is c.requires.can)

pub memory_size-requires-clause-room : goal.memory_size-requires-clause-room
memory_size-requires-clause-room c = memory.size_room c.args.store.now c.args.self.now (find.as_is c.args.store.now c.args.instr p.MemorySize c.args.self.now c.in-MemorySize.is c.requires.can)

pub memory_fill-requires-clause-there : goal.memory_fill-requires-clause-there
memory_fill-requires-clause-there c = memory.fill_there c.args.store.now c.args.self.now (find.as_is c.args.store.now c.args.instr p.MemoryFill c.args.self.now c.in-MemoryFill.is c.requires.can)

pub memory_fill-requires-clause-tops : goal.memory_fill-requires-clause-tops
memory_fill-requires-clause-tops c = memory.fill_tops c.args.store.now c.args.self.now (find.as_is c.args.store.now c.args.instr p.MemoryFill c.args.self.now c.in-MemoryFill.is c.requires.can)

pub memory_copy-requires-clause-there : goal.memory_copy-requires-clause-there
memory_copy-requires-clause-there c = memory.copy_there c.args.store.now c.args.self.now (find.as_is c.args.store.now c.args.instr p.MemoryCopy c.args.self.now c.in-MemoryCopy.is c.requires.can)

pub memory_copy-requires-clause-tops : goal.memory_copy-requires-clause-tops
memory_copy-requires-clause-tops c = memory.copy_tops c.args.store.now c.args.self.now (find.as_is c.args.store.now c.args.instr p.MemoryCopy c.args.self.now c.in-MemoryCopy.is c.requires.can)

pub memory_init-requires-clause-there : goal.memory_init-requires-clause-there
memory_init-requires-clause-there c = memory.init_there c.args.store.now c.args.self.now c.in-MemoryInit.x (find.as_is c.args.store.now c.args.instr (p.MemoryInit c.in-MemoryInit.x) c.args.self.now c.in-MemoryInit.is c.requires.can)

pub memory_init-requires-clause-there_segment : goal.memory_init-requires-clause-there_segment
memory_init-requires-clause-there_segment c = memory.init_there_segment c.args.store.now c.args.self.now c.in-MemoryInit.x (find.as_is c.args.store.now c.args.instr (p.MemoryInit c.in-MemoryInit.x) c.args.self.now c.in-MemoryInit.is c.requires.can)

pub memory_init-requires-clause-tops : goal.memory_init-requires-clause-tops
memory_init-requires-clause-tops c = memory.init_tops c.args.store.now c.args.self.now c.in-MemoryInit.x (find.as_is c.args.store.now c.args.instr (p.MemoryInit c.in-MemoryInit.x) c.args.self.now c.in-MemoryInit.is c.requires.can)

pub data_drop-requires-clause-there : goal.data_drop-requires-clause-there
data_drop-requires-clause-there c = memory.data_drop_there c.args.store.now c.args.self.now c.in-DataDrop.x (find.as_is c.args.store.now c.args.instr (p.DataDrop c.in-DataDrop.x) c.args.self.now c.in-DataDrop.is c.requires.can)
