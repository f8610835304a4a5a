-- Numbers and printed names of statuses and named refusals.
use Rattle.std.specs.Prelude.{ℕ, List, codes}
use Rattle.embed_base.specs.declared.status.Status.{Status}
use Rattle.embed_base.specs.declared.status.Status.TheVariants as statuses
use Rattle.embed_base.specs.declared.outside.OutsideKind.{OutsideKind}
use Rattle.embed_base.specs.declared.outside.OutsideKind.TheVariants as kinds

-- the status with which the program ends
abbrev pub number_of : Status → ℕ
number_of statuses.Done = 0
number_of statuses.Uncaught = 1
number_of statuses.Usage = 2
number_of statuses.ScriptRefused = 3
number_of statuses.Budget = 4
number_of statuses.Outside = 5
number_of statuses.ReadFault = 6
number_of statuses.WriteFault = 7
number_of statuses.NoMemory = 8
number_of statuses.TooLong = 9

-- the printed name of a named refusal
abbrev pub name_of : OutsideKind → List ℕ
name_of kinds.Float = codes "float"
name_of kinds.Simd = codes "simd"
name_of kinds.Number = codes "number"
name_of kinds.BigInt = codes "bigint"
name_of kinds.TextNumber = codes "text-number"
name_of kinds.TextOrder = codes "text-order"
name_of kinds.TextSize = codes "text-size"
name_of kinds.ToPrimitive = codes "to-primitive"
name_of kinds.Key = codes "key"
name_of kinds.Inherited = codes "inherited"
name_of kinds.PrimitiveMember = codes "primitive-member"
name_of kinds.ArrayMember = codes "array-member"
name_of kinds.ArrayHole = codes "array-hole"
name_of kinds.ArraySize = codes "array-size"
name_of kinds.FunctionMember = codes "function-member"
name_of kinds.ObjectMember = codes "object-member"
name_of kinds.ObjectWrite = codes "object-write"
name_of kinds.BuiltinMember = codes "builtin-member"
name_of kinds.BuiltinValue = codes "builtin-value"
name_of kinds.BuiltinWrite = codes "builtin-write"
name_of kinds.Construct = codes "construct"
name_of kinds.Argument = codes "argument"
name_of kinds.ModuleSize = codes "module-size"
name_of kinds.ProtoKey = codes "proto-key"
name_of kinds.NotYet = codes "not-yet"
