use Rattle.wasm_store.specs.Whole.{IsLater}
use Rattle.iface_objects.specs.Sound.{CanStart, IsSound}
use Rattle.iface_objects.proofs.Sounds.{module_after}
use Rattle.iface_objects.proofs.modules.construct_module.Goals as goal

pub returns-clause-sound : goal.returns-clause-sound
returns-clause-sound c =
    module_after c.order.ensures.same c.types_stay.ensures.functions c.types_stay.ensures.modules c.loads_once.ensures.total c.args.realm.now c.args.bytes.now c.requires.sound
    c.module_of_value.result c.module_of_value.new.realm c.module_of_value.ensures (λ a r. IsSound r) (λ x safe. safe.sound)

pub returns-clause-starts : goal.returns-clause-starts
returns-clause-starts c =
    module_after c.order.ensures.same c.types_stay.ensures.functions c.types_stay.ensures.modules c.loads_once.ensures.total c.args.realm.now c.args.bytes.now c.requires.sound
    c.module_of_value.result c.module_of_value.new.realm c.module_of_value.ensures (λ a r. CanStart r.store a) (λ x safe. safe.starts)

pub returns-clause-later : goal.returns-clause-later
returns-clause-later c =
    module_after c.order.ensures.same c.types_stay.ensures.functions c.types_stay.ensures.modules c.loads_once.ensures.total c.args.realm.now c.args.bytes.now c.requires.sound
    c.module_of_value.result c.module_of_value.new.realm c.module_of_value.ensures (λ a r. IsLater c.args.realm.now.store r.store) (λ x safe. safe.later)
