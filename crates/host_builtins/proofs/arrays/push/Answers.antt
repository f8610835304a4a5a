use Rattle.std.proofs.Common.{◌≡◌, IfOk, OnOk, length, ap, subst, ◌∙◌}
use Rattle.host_builtins.proofs.Arguments.{pushed_one}
use Rattle.host_builtins.proofs.arrays.push.Goals as goal

pub returns-in-len1-clause-reply : goal.returns-in-len1-clause-reply
returns-in-len1-clause-reply c =
    let len = c.len-len.ensures.len ∙ ap length c.properties.ensures in
    subst (λ a. IfOk c.push_at.result (λ r. r ≡ a.reply))
    (pushed_one c.args.heap.now c.args.array c.args.args.now c.value-item.result c.len-len.result c.in-len1.len_at_least c.in-len1.len_below c.value-item.is len)
    c.push_at.ensures.reply

pub returns-in-len1-clause-ok : goal.returns-in-len1-clause-ok
returns-in-len1-clause-ok c =
    let len = c.len-len.ensures.len ∙ ap length c.properties.ensures in
    subst (λ a. OnOk c.push_at.result (c.push_at.new.heap ≡ a.heap))
    (pushed_one c.args.heap.now c.args.array c.args.args.now c.value-item.result c.len-len.result c.in-len1.len_at_least c.in-len1.len_below c.value-item.is len)
    c.push_at.ensures.ok
