use Rattle.std.proofs.Common.{◌≡◌, ◌+◌, ◌≤◌, take, length}
use Rattle.wasm_valid.specs.Typing.{count_locals}
use Rattle.wasm_valid.specs.Views.{ends_from}
use Rattle.wasm_valid.proofs.locals.Locals.new.Given as goal

-- the runs so far are counted, and they aren't too many
abbrev pub invariant-loop-run : goal.invariant-loop-run
invariant-loop-run l = record {
  ends : l.ends.items ≡ ends_from (length l.params) (take l.run-index l.runs);
  count : l.end ≡ length l.params + count_locals (take l.run-index l.runs);
  few : l.end ≤ 50000;
}
