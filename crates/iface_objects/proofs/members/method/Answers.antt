use Rattle.iface_objects.specs.Modules.{buffer_named}
use Rattle.iface_objects.specs.Sound.{IsSound}
use Rattle.iface_objects.proofs.Sounds.{after, kept_named}
use Rattle.iface_objects.proofs.members.method.Goals as goal

pub returns-in_ok-name-in-Builtin-Readbuffer-clause-sound :
    goal.returns-in_ok-name-in-Builtin-Readbuffer-clause-sound
returns-in_ok-name-in-Builtin-Readbuffer-clause-sound c =
    after c.readbuffer.result (buffer_named c.args.realm.now c.in_ok-name-in-Builtin-Readbuffer.name) c.readbuffer.new.realm (λ a r. IsSound r) c.readbuffer.ensures
    (kept_named c.args.realm.now c.in_ok-name-in-Builtin-Readbuffer.name c.requires.sound).sound
