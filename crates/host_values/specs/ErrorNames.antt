-- The names of the classes of errors (ECMA-262, section 20.5; WebAssembly JavaScript Interface, section 5.10; JS Promise Integration).
use Rattle.std.specs.Prelude.{ℕ, List, codes}
use Rattle.host_values.specs.declared.values.ErrorClass.{ErrorClass}
use Rattle.host_values.specs.declared.values.ErrorClass.TheVariants as classes

-- the name of a class of errors
abbrev pub class_name : ErrorClass → List ℕ
class_name classes.Error = codes "Error"
class_name classes.TypeError = codes "TypeError"
class_name classes.RangeError = codes "RangeError"
class_name classes.ReferenceError = codes "ReferenceError"
class_name classes.SyntaxError = codes "SyntaxError"
class_name classes.CompileError = codes "CompileError"
class_name classes.LinkError = codes "LinkError"
class_name classes.RuntimeError = codes "RuntimeError"
class_name classes.SuspendError = codes "SuspendError"
