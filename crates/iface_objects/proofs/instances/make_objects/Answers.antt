use Rattle.std.proofs.Common.{sym, ap, subst, ◌∙◌}
use Rattle.host_values.specs.Heaps.{HasDistinctKeys}
use Rattle.wasm_syntax.specs.declared.module.Module.{Module}
use Rattle.wasm_valid.specs.ModuleRules.{names_differ}
use Rattle.iface_objects.proofs.Exporting.{distinct, names_typed}
use Rattle.iface_objects.proofs.instances.make_objects.Goals as goal

pub add_exports-requires : goal.add_exports-requires
add_exports-requires c =
    record {
      distinct = subst HasDistinctKeys (sym c.in_ok-pairs.ensures.pairs)
          (distinct c.same_keys.ensures c.args.instance.now c.as_slice-exports.result.now c.args.heap.now c.args.caches.now
          (ap names_differ (c.as_slice-exports.ensures ∙ ap (λ (m : Module). m.exports) c.module.ensures.value) ∙ names_typed c.args.module.now c.module.ensures.typed));
    }
