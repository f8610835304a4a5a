use Rattle.std.proofs.Common.{◌≡◌, ap, ◌∙◌}
use Rattle.wasm_store.specs.declared.instances.Instance.{Instance}
use Rattle.wasm_store.specs.Store.{Store, with_new_instance}
use Rattle.wasm_store.specs.Allocated.{instance_of, IsAllocated}
use Rattle.wasm_instance.proofs.Whole.{allocates, with_blank, with_own_functions, with_own_tables, with_own_memories, with_own_globals, with_own_elements, with_all, functions_there, tables_there, memories_there, globals_there, elements_there, datas_there, memories_ready, globals_ready, elements_ready, lists_there, allocated_there, funcs_there, tables_listed, mems_listed, globals_listed, elems_listed, datas_listed, listed_there}
use Rattle.wasm_instance.proofs.allocate.allocate.Goals as goal

pub add_memories-requires-clause-limits : goal.add_memories-requires-clause-limits
add_memories-requires-clause-limits c =
    let s : Store = c.args.store.now in
    let imports : Instance = c.args.imports.now in
    let made : IsAllocated s c.args.a imports = allocates c.modules_are_allocated.ensures s c.args.a imports c.whole.ensures c.requires.live c.requires.typed c.requires.limits c.requires.imports in
    let e1 : c.alloc_instance.new.self ≡ with_blank s c.args.a imports = c.in_ok-instance.ensures.added ∙ ap (λ (j : Instance). with_new_instance j s) c.blank.ensures in
    let e2 : c.add_functions.new.store ≡ with_own_functions s c.args.a imports = functions_there s c.args.a imports c.alloc_instance.new.self c.add_functions.new.store c.in_ok-instance.instance c.in_ok-instance.ensures.address e1 c.in_ok-add_functions.ensures.added in
    let e3 : c.add_tables.new.store ≡ with_own_tables s c.args.a imports = tables_there s c.args.a imports c.add_functions.new.store c.add_tables.new.store e2 c.in_ok-add_tables.ensures.added in
    memories_ready s c.args.a imports c.requires.limits c.add_tables.new.store e3

pub add_globals-requires-clause-typed : goal.add_globals-requires-clause-typed
add_globals-requires-clause-typed c =
    let s : Store = c.args.store.now in
    let imports : Instance = c.args.imports.now in
    let made : IsAllocated s c.args.a imports = allocates c.modules_are_allocated.ensures s c.args.a imports c.whole.ensures c.requires.live c.requires.typed c.requires.limits c.requires.imports in
    let e1 : c.alloc_instance.new.self ≡ with_blank s c.args.a imports = c.in_ok-instance.ensures.added ∙ ap (λ (j : Instance). with_new_instance j s) c.blank.ensures in
    let e2 : c.add_functions.new.store ≡ with_own_functions s c.args.a imports = functions_there s c.args.a imports c.alloc_instance.new.self c.add_functions.new.store c.in_ok-instance.instance c.in_ok-instance.ensures.address e1 c.in_ok-add_functions.ensures.added in
    let e3 : c.add_tables.new.store ≡ with_own_tables s c.args.a imports = tables_there s c.args.a imports c.add_functions.new.store c.add_tables.new.store e2 c.in_ok-add_tables.ensures.added in
    let e4 : c.add_memories.new.store ≡ with_own_memories s c.args.a imports = memories_there s c.args.a imports c.add_tables.new.store c.add_memories.new.store e3 c.in_ok-add_memories.ensures.added in
    let funcs : c.add_functions.new.funcs ≡ (instance_of c.args.a imports s).funcs = funcs_there s c.args.a imports c.alloc_instance.new.self c.in_ok-funcs.funcs c.add_functions.new.funcs (c.in_ok-funcs.ensures ∙ c.as_slice.ensures) e1 c.in_ok-add_functions.ensures.addresses in
    let funcs5 : c.as_slice-5.result.now ≡ (instance_of c.args.a imports s).funcs = c.as_slice-5.ensures ∙ funcs in
    globals_ready s c.args.a imports made c.add_memories.new.store c.as_slice-5.result.now c.args.values.now funcs5 c.requires.values e4

pub returns-in_err-add_globals-clause-later : goal.returns-in_err-add_globals-clause-later
returns-in_err-add_globals-clause-later c = (c.order.ensures.through c.args.store.now c.add_memories.new.store c.add_globals.new.store (c.order.ensures.through c.args.store.now c.add_tables.new.store c.add_memories.new.store (c.order.ensures.through c.args.store.now c.add_functions.new.store c.add_tables.new.store (c.order.ensures.through c.args.store.now c.alloc_instance.new.self c.add_functions.new.store c.in_ok-instance.ensures.later c.in_ok-add_functions.ensures.later) c.in_ok-add_tables.ensures.later) c.in_ok-add_memories.ensures.later) c.in_err-add_globals.ensures.later)

pub returns-in_err-add_memories-clause-later : goal.returns-in_err-add_memories-clause-later
returns-in_err-add_memories-clause-later c = (c.order.ensures.through c.args.store.now c.add_tables.new.store c.add_memories.new.store (c.order.ensures.through c.args.store.now c.add_functions.new.store c.add_tables.new.store (c.order.ensures.through c.args.store.now c.alloc_instance.new.self c.add_functions.new.store c.in_ok-instance.ensures.later c.in_ok-add_functions.ensures.later) c.in_ok-add_tables.ensures.later) c.in_err-add_memories.ensures.later)

pub add_elements-requires-clause-refs : goal.add_elements-requires-clause-refs
add_elements-requires-clause-refs c =
    let s : Store = c.args.store.now in
    let imports : Instance = c.args.imports.now in
    let made : IsAllocated s c.args.a imports = allocates c.modules_are_allocated.ensures s c.args.a imports c.whole.ensures c.requires.live c.requires.typed c.requires.limits c.requires.imports in
    let e1 : c.alloc_instance.new.self ≡ with_blank s c.args.a imports = c.in_ok-instance.ensures.added ∙ ap (λ (j : Instance). with_new_instance j s) c.blank.ensures in
    let e2 : c.add_functions.new.store ≡ with_own_functions s c.args.a imports = functions_there s c.args.a imports c.alloc_instance.new.self c.add_functions.new.store c.in_ok-instance.instance c.in_ok-instance.ensures.address e1 c.in_ok-add_functions.ensures.added in
    let e3 : c.add_tables.new.store ≡ with_own_tables s c.args.a imports = tables_there s c.args.a imports c.add_functions.new.store c.add_tables.new.store e2 c.in_ok-add_tables.ensures.added in
    let e4 : c.add_memories.new.store ≡ with_own_memories s c.args.a imports = memories_there s c.args.a imports c.add_tables.new.store c.add_memories.new.store e3 c.in_ok-add_memories.ensures.added in
    let funcs : c.add_functions.new.funcs ≡ (instance_of c.args.a imports s).funcs = funcs_there s c.args.a imports c.alloc_instance.new.self c.in_ok-funcs.funcs c.add_functions.new.funcs (c.in_ok-funcs.ensures ∙ c.as_slice.ensures) e1 c.in_ok-add_functions.ensures.addresses in
    let funcs5 : c.as_slice-5.result.now ≡ (instance_of c.args.a imports s).funcs = c.as_slice-5.ensures ∙ funcs in
    let e5 : c.add_globals.new.store ≡ with_own_globals s c.args.a imports = globals_there s c.args.a imports c.add_memories.new.store c.add_globals.new.store c.as_slice-5.result.now c.args.values.now funcs5 c.requires.values e4 c.in_ok-add_globals.ensures.added in
    let funcs6 : c.as_slice-6.result.now ≡ (instance_of c.args.a imports s).funcs = c.as_slice-6.ensures ∙ funcs in
    elements_ready s c.args.a imports made c.add_globals.new.store c.as_slice-6.result.now c.args.values.now funcs6 c.requires.values e5

pub returns-in_err-add_elements-clause-later : goal.returns-in_err-add_elements-clause-later
returns-in_err-add_elements-clause-later c = (c.order.ensures.through c.args.store.now c.add_globals.new.store c.add_elements.new.store (c.order.ensures.through c.args.store.now c.add_memories.new.store c.add_globals.new.store (c.order.ensures.through c.args.store.now c.add_tables.new.store c.add_memories.new.store (c.order.ensures.through c.args.store.now c.add_functions.new.store c.add_tables.new.store (c.order.ensures.through c.args.store.now c.alloc_instance.new.self c.add_functions.new.store c.in_ok-instance.ensures.later c.in_ok-add_functions.ensures.later) c.in_ok-add_tables.ensures.later) c.in_ok-add_memories.ensures.later) c.in_ok-add_globals.ensures.later) c.in_err-add_elements.ensures.later)

pub returns-in_err-add_datas-clause-later : goal.returns-in_err-add_datas-clause-later
returns-in_err-add_datas-clause-later c = (c.order.ensures.through c.args.store.now c.add_elements.new.store c.add_datas.new.store (c.order.ensures.through c.args.store.now c.add_globals.new.store c.add_elements.new.store (c.order.ensures.through c.args.store.now c.add_memories.new.store c.add_globals.new.store (c.order.ensures.through c.args.store.now c.add_tables.new.store c.add_memories.new.store (c.order.ensures.through c.args.store.now c.add_functions.new.store c.add_tables.new.store (c.order.ensures.through c.args.store.now c.alloc_instance.new.self c.add_functions.new.store c.in_ok-instance.ensures.later c.in_ok-add_functions.ensures.later) c.in_ok-add_tables.ensures.later) c.in_ok-add_memories.ensures.later) c.in_ok-add_globals.ensures.later) c.in_ok-add_elements.ensures.later) c.in_err-add_datas.ensures.later)

pub set_instance-requires-clause-lists : goal.set_instance-requires-clause-lists
set_instance-requires-clause-lists c =
    let s : Store = c.args.store.now in
    let imports : Instance = c.args.imports.now in
    let made : IsAllocated s c.args.a imports = allocates c.modules_are_allocated.ensures s c.args.a imports c.whole.ensures c.requires.live c.requires.typed c.requires.limits c.requires.imports in
    let e1 : c.alloc_instance.new.self ≡ with_blank s c.args.a imports = c.in_ok-instance.ensures.added ∙ ap (λ (j : Instance). with_new_instance j s) c.blank.ensures in
    let e2 : c.add_functions.new.store ≡ with_own_functions s c.args.a imports = functions_there s c.args.a imports c.alloc_instance.new.self c.add_functions.new.store c.in_ok-instance.instance c.in_ok-instance.ensures.address e1 c.in_ok-add_functions.ensures.added in
    let e3 : c.add_tables.new.store ≡ with_own_tables s c.args.a imports = tables_there s c.args.a imports c.add_functions.new.store c.add_tables.new.store e2 c.in_ok-add_tables.ensures.added in
    let e4 : c.add_memories.new.store ≡ with_own_memories s c.args.a imports = memories_there s c.args.a imports c.add_tables.new.store c.add_memories.new.store e3 c.in_ok-add_memories.ensures.added in
    let funcs : c.add_functions.new.funcs ≡ (instance_of c.args.a imports s).funcs = funcs_there s c.args.a imports c.alloc_instance.new.self c.in_ok-funcs.funcs c.add_functions.new.funcs (c.in_ok-funcs.ensures ∙ c.as_slice.ensures) e1 c.in_ok-add_functions.ensures.addresses in
    let funcs5 : c.as_slice-5.result.now ≡ (instance_of c.args.a imports s).funcs = c.as_slice-5.ensures ∙ funcs in
    let e5 : c.add_globals.new.store ≡ with_own_globals s c.args.a imports = globals_there s c.args.a imports c.add_memories.new.store c.add_globals.new.store c.as_slice-5.result.now c.args.values.now funcs5 c.requires.values e4 c.in_ok-add_globals.ensures.added in
    let funcs6 : c.as_slice-6.result.now ≡ (instance_of c.args.a imports s).funcs = c.as_slice-6.ensures ∙ funcs in
    let e6 : c.add_elements.new.store ≡ with_own_elements s c.args.a imports = elements_there s c.args.a imports c.add_globals.new.store c.add_elements.new.store c.as_slice-6.result.now c.args.values.now funcs6 c.requires.values e5 c.in_ok-add_elements.ensures.added in
    let all : c.add_datas.new.store ≡ with_all s c.args.a imports = datas_there s c.args.a imports c.add_elements.new.store c.add_datas.new.store e6 c.in_ok-add_datas.ensures.added in
    let tables : c.add_tables.new.tables ≡ (instance_of c.args.a imports s).tables = tables_listed s c.args.a imports c.add_functions.new.store c.in_ok-tables.tables c.add_tables.new.tables (c.in_ok-tables.ensures ∙ c.as_slice-2.ensures) e2 c.in_ok-add_tables.ensures.addresses in
    let mems : c.add_memories.new.mems ≡ (instance_of c.args.a imports s).mems = mems_listed s c.args.a imports c.add_tables.new.store c.in_ok-mems.mems c.add_memories.new.mems (c.in_ok-mems.ensures ∙ c.as_slice-3.ensures) e3 c.in_ok-add_memories.ensures.addresses in
    let globals : c.add_globals.new.globals ≡ (instance_of c.args.a imports s).globals = globals_listed s c.args.a imports c.add_memories.new.store c.in_ok-globals.globals c.add_globals.new.globals (c.in_ok-globals.ensures ∙ c.as_slice-4.ensures) e4 c.in_ok-add_globals.ensures.addresses in
    let elems : c.add_elements.new.elems ≡ (instance_of c.args.a imports s).elems = elems_listed s c.args.a imports c.add_globals.new.store c.new-elems.result c.add_elements.new.elems c.new-elems.ensures e5 c.in_ok-add_elements.ensures.addresses in
    let datas : c.add_datas.new.datas ≡ (instance_of c.args.a imports s).datas = datas_listed s c.args.a imports c.add_elements.new.store c.new-datas.result c.add_datas.new.datas c.new-datas.ensures e6 c.in_ok-add_datas.ensures.addresses in
    let lists : Instance = record { «module» = c.args.a; funcs = c.add_functions.new.funcs; tables = c.add_tables.new.tables; mems = c.add_memories.new.mems; globals = c.add_globals.new.globals; elems = c.add_elements.new.elems; datas = c.add_datas.new.datas } in
    let listed : lists ≡ instance_of c.args.a imports s = listed_there s c.args.a imports c.add_functions.new.funcs c.add_tables.new.tables c.add_memories.new.mems c.add_globals.new.globals c.add_elements.new.elems c.add_datas.new.datas funcs tables mems globals elems datas in
    lists_there s c.args.a imports made c.add_datas.new.store lists all listed

pub returns-clause-allocated : goal.returns-clause-allocated
returns-clause-allocated c =
    let s : Store = c.args.store.now in
    let imports : Instance = c.args.imports.now in
    let made : IsAllocated s c.args.a imports = allocates c.modules_are_allocated.ensures s c.args.a imports c.whole.ensures c.requires.live c.requires.typed c.requires.limits c.requires.imports in
    let e1 : c.alloc_instance.new.self ≡ with_blank s c.args.a imports = c.in_ok-instance.ensures.added ∙ ap (λ (j : Instance). with_new_instance j s) c.blank.ensures in
    let e2 : c.add_functions.new.store ≡ with_own_functions s c.args.a imports = functions_there s c.args.a imports c.alloc_instance.new.self c.add_functions.new.store c.in_ok-instance.instance c.in_ok-instance.ensures.address e1 c.in_ok-add_functions.ensures.added in
    let e3 : c.add_tables.new.store ≡ with_own_tables s c.args.a imports = tables_there s c.args.a imports c.add_functions.new.store c.add_tables.new.store e2 c.in_ok-add_tables.ensures.added in
    let e4 : c.add_memories.new.store ≡ with_own_memories s c.args.a imports = memories_there s c.args.a imports c.add_tables.new.store c.add_memories.new.store e3 c.in_ok-add_memories.ensures.added in
    let funcs : c.add_functions.new.funcs ≡ (instance_of c.args.a imports s).funcs = funcs_there s c.args.a imports c.alloc_instance.new.self c.in_ok-funcs.funcs c.add_functions.new.funcs (c.in_ok-funcs.ensures ∙ c.as_slice.ensures) e1 c.in_ok-add_functions.ensures.addresses in
    let funcs5 : c.as_slice-5.result.now ≡ (instance_of c.args.a imports s).funcs = c.as_slice-5.ensures ∙ funcs in
    let e5 : c.add_globals.new.store ≡ with_own_globals s c.args.a imports = globals_there s c.args.a imports c.add_memories.new.store c.add_globals.new.store c.as_slice-5.result.now c.args.values.now funcs5 c.requires.values e4 c.in_ok-add_globals.ensures.added in
    let funcs6 : c.as_slice-6.result.now ≡ (instance_of c.args.a imports s).funcs = c.as_slice-6.ensures ∙ funcs in
    let e6 : c.add_elements.new.store ≡ with_own_elements s c.args.a imports = elements_there s c.args.a imports c.add_globals.new.store c.add_elements.new.store c.as_slice-6.result.now c.args.values.now funcs6 c.requires.values e5 c.in_ok-add_elements.ensures.added in
    let all : c.add_datas.new.store ≡ with_all s c.args.a imports = datas_there s c.args.a imports c.add_elements.new.store c.add_datas.new.store e6 c.in_ok-add_datas.ensures.added in
    let tables : c.add_tables.new.tables ≡ (instance_of c.args.a imports s).tables = tables_listed s c.args.a imports c.add_functions.new.store c.in_ok-tables.tables c.add_tables.new.tables (c.in_ok-tables.ensures ∙ c.as_slice-2.ensures) e2 c.in_ok-add_tables.ensures.addresses in
    let mems : c.add_memories.new.mems ≡ (instance_of c.args.a imports s).mems = mems_listed s c.args.a imports c.add_tables.new.store c.in_ok-mems.mems c.add_memories.new.mems (c.in_ok-mems.ensures ∙ c.as_slice-3.ensures) e3 c.in_ok-add_memories.ensures.addresses in
    let globals : c.add_globals.new.globals ≡ (instance_of c.args.a imports s).globals = globals_listed s c.args.a imports c.add_memories.new.store c.in_ok-globals.globals c.add_globals.new.globals (c.in_ok-globals.ensures ∙ c.as_slice-4.ensures) e4 c.in_ok-add_globals.ensures.addresses in
    let elems : c.add_elements.new.elems ≡ (instance_of c.args.a imports s).elems = elems_listed s c.args.a imports c.add_globals.new.store c.new-elems.result c.add_elements.new.elems c.new-elems.ensures e5 c.in_ok-add_elements.ensures.addresses in
    let datas : c.add_datas.new.datas ≡ (instance_of c.args.a imports s).datas = datas_listed s c.args.a imports c.add_elements.new.store c.new-datas.result c.add_datas.new.datas c.new-datas.ensures e6 c.in_ok-add_datas.ensures.addresses in
    let lists : Instance = record { «module» = c.args.a; funcs = c.add_functions.new.funcs; tables = c.add_tables.new.tables; mems = c.add_memories.new.mems; globals = c.add_globals.new.globals; elems = c.add_elements.new.elems; datas = c.add_datas.new.datas } in
    let listed : lists ≡ instance_of c.args.a imports s = listed_there s c.args.a imports c.add_functions.new.funcs c.add_tables.new.tables c.add_memories.new.mems c.add_globals.new.globals c.add_elements.new.elems c.add_datas.new.datas funcs tables mems globals elems datas in
    allocated_there s c.args.a imports c.add_datas.new.store c.set_instance.new.self c.in_ok-instance.instance lists c.in_ok-instance.ensures.address listed all c.set_instance.ensures.set

pub returns-clause-later : goal.returns-clause-later
returns-clause-later c = c.order.ensures.through c.args.store.now c.add_datas.new.store c.set_instance.new.self (c.order.ensures.through c.args.store.now c.add_elements.new.store c.add_datas.new.store (c.order.ensures.through c.args.store.now c.add_globals.new.store c.add_elements.new.store (c.order.ensures.through c.args.store.now c.add_memories.new.store c.add_globals.new.store (c.order.ensures.through c.args.store.now c.add_tables.new.store c.add_memories.new.store (c.order.ensures.through c.args.store.now c.add_functions.new.store c.add_tables.new.store (c.order.ensures.through c.args.store.now c.alloc_instance.new.self c.add_functions.new.store c.in_ok-instance.ensures.later c.in_ok-add_functions.ensures.later) c.in_ok-add_tables.ensures.later) c.in_ok-add_memories.ensures.later) c.in_ok-add_globals.ensures.later) c.in_ok-add_elements.ensures.later) c.in_ok-add_datas.ensures.later) c.set_instance.ensures.later
