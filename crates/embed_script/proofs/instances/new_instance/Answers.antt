use Rattle.std.proofs.Common.{◌<◌, sym, subst, length}
use Rattle.std.proofs.lemmas.Result.{err_from_is_err_and}
use Rattle.embed_script.proofs.Serving.{callable_later, code_with, code_same}
use Rattle.embed_script.proofs.Made.{no_import, live_new, made, ready, ready_stops, ready_callable, trapped_is}
use Rattle.embed_script.proofs.instances.new_instance.Goals as goal

pub begin-requires-clause-code : goal.begin-requires-clause-code
begin-requires-clause-code c = c.in_ok-instance.ensures.code (code_with c.args.owner c.args.state.now.store c.add_module.new.self c.in_ok-address.ensures.added c.requires.code)

pub returns-in_err-begin-in-Ready-clause-meets : goal.returns-in_err-begin-in-Ready-clause-meets
returns-in_err-begin-in-Ready-clause-meets c =
    let p = err_from_is_err_and c.from_residual-in_err-begin-in-Ready.result c.from_residual-in_err-begin-in-Ready.ensures.1 in
    let m = made c.args.owner c.args.state.now c.in_ok-address.address c.add_module.new.self c.blank-imports.result c.in_ok-address.ensures.address c.in_ok-address.ensures.added c.blank-imports.ensures in
    rw (p.1, p.2) (ready_stops c.args.owner c.args.state.now c.in_ok-address.address c.add_module.new.self c.blank-imports.result c.args.index c.instantiate.new.store c.in-Ready.instance c.in-Ready.start c.in_ok-instance.field-0 c.in_err-begin-in-Ready.field-0.0
    m c.in_ok-instance.ensures.ends c.in-Ready.is c.in_err-begin-in-Ready.ensures.meets)

pub returns-in-Ready-clause-meets : goal.returns-in-Ready-clause-meets
returns-in-Ready-clause-meets c =
    let m = made c.args.owner c.args.state.now c.in_ok-address.address c.add_module.new.self c.blank-imports.result c.in_ok-address.ensures.address c.in_ok-address.ensures.added c.blank-imports.ensures in
    ready c.args.owner c.args.state.now c.in_ok-address.address c.add_module.new.self c.blank-imports.result c.args.index c.instantiate.new.store c.in-Ready.instance c.in-Ready.start c.in_ok-instance.field-0 c.begin.new.state c.function_of-func.result
    m c.in_ok-instance.ensures.ends c.in_ok-instance.ensures.there c.in-Ready.is c.in_ok-begin-in-Ready.ensures.meets c.function_of-func.ensures

pub returns-in-Ready-clause-callable : goal.returns-in-Ready-clause-callable
returns-in-Ready-clause-callable c =
    let m = made c.args.owner c.args.state.now c.in_ok-address.address c.add_module.new.self c.blank-imports.result c.in_ok-address.ensures.address c.in_ok-address.ensures.added c.blank-imports.ensures in
    let live : c.in_ok-address.address.0 < length c.add_module.new.self.modules =
    subst (λ u. c.in_ok-address.address.0 < length u.modules) (sym c.in_ok-address.ensures.added) (live_new c.args.owner c.args.state.now.store c.in_ok-address.address c.in_ok-address.ensures.address) in
    let there = ready_callable c.types_stay.ensures.modules c.indices.ensures.functions c.args.owner c.args.state.now c.in_ok-address.address c.add_module.new.self c.blank-imports.result c.args.index c.instantiate.new.store c.in-Ready.instance c.in-Ready.start c.in_ok-instance.field-0 c.function_of-func.result
    m live c.in_ok-instance.ensures.later (no_import c.args.owner c.requires.self_contained) c.requires.word c.in_ok-instance.ensures.there c.in-Ready.is c.function_of-func.ensures in
    let code = c.in_ok-instance.ensures.code (code_with c.args.owner c.args.state.now.store c.add_module.new.self c.in_ok-address.ensures.added c.requires.code) in (
      callable_later c.types_stay.ensures.functions c.instantiate.new.store c.begin.new.state.store c.function_of-func.result c.in_ok-begin-in-Ready.ensures.later there,
      code_same c.instantiate.new.store c.begin.new.state.store c.in_ok-begin-in-Ready.ensures.same_code code,
    )

pub returns-in-Trapped-clause-meets : goal.returns-in-Trapped-clause-meets
returns-in-Trapped-clause-meets c =
    let m = made c.args.owner c.args.state.now c.in_ok-address.address c.add_module.new.self c.blank-imports.result c.in_ok-address.ensures.address c.in_ok-address.ensures.added c.blank-imports.ensures in
    trapped_is c.args.owner c.args.state.now c.in_ok-address.address c.add_module.new.self c.blank-imports.result c.args.index c.instantiate.new.store c.in-Trapped.field-0 c.in_ok-instance.field-0 m c.in_ok-instance.ensures.ends c.in-Trapped.is
