-- What calls of predefined objects come to where the arguments alone decide it (ECMA-262, sections 20.5.1.1, 21.1.1.1, 21.2.1.1 and
-- 22.1.1.1, in the profile).
use Rattle.std.specs.Prelude.{ℕ, ℤ, pos, List, [], ◌∷◌, Option, None, Some}
use Rattle.embed_base.specs.declared.outside.OutsideKind.TheVariants as outside
use Rattle.host_values.specs.declared.classes.Class.{Class}
use Rattle.host_values.specs.declared.classes.Class.TheVariants as classes
use Rattle.host_values.specs.declared.values.ErrorClass.{ErrorClass}
use Rattle.host_values.specs.declared.values.ErrorClass.TheVariants as errors
use Rattle.host_values.specs.declared.values.HostValue.{HostValue}
use Rattle.host_values.specs.declared.values.HostValue.TheVariants as values
use Rattle.host_convert.specs.Conversions.{number_of_bool, to_number, to_string}
use Rattle.host_convert.specs.Operators.{number_of}
use Rattle.host_convert.specs.declared.conv.Conv.{Conv}
use Rattle.host_convert.specs.declared.conv.Conv.TheVariants as conv
use Rattle.host_builtins.specs.declared.replies.Reply.{Reply}
use Rattle.host_builtins.specs.declared.replies.Reply.TheVariants as replies

-- the first argument, undefined where there is none
abbrev pub first_argument : List HostValue → HostValue
first_argument [] = values.Undefined
first_argument (v ∷ rest) = v

-- a value that was converted
abbrev pub reply_of : Conv HostValue → Reply
reply_of (conv.Value v) = replies.Value v
reply_of (conv.Throw class) = replies.Throw class
reply_of (conv.Outside kind) = replies.Outside kind

-- a value as a BigInt (ToBigInt, 7.1.13, and NumberToBigInt, 21.2.1.1.1)
abbrev pub big_int_of_value : HostValue → Reply
big_int_of_value values.Undefined = replies.Throw errors.TypeError
big_int_of_value values.Null = replies.Throw errors.TypeError
big_int_of_value (values.Bool b) = replies.Value (values.BigInt (pos (number_of_bool b)))
big_int_of_value (values.Number z) = replies.Value (values.BigInt z)
big_int_of_value (values.BigInt z) = replies.Value (values.BigInt z)
big_int_of_value (values.Text s) = replies.Outside outside.TextNumber
big_int_of_value (values.Object o) = replies.Outside outside.ToPrimitive

-- `BigInt(v)` (21.2.1.1)
abbrev pub big_int_call : List HostValue → Reply
big_int_call args = big_int_of_value (first_argument args)

-- what ToNumber gave as a Number, which is never NaN
abbrev pub number_reply : Conv (Option ℤ) → Reply
number_reply (conv.Value None) = replies.Outside outside.Number
number_reply (conv.Value (Some z)) = replies.Value (values.Number z)
number_reply (conv.Throw class) = replies.Throw class
number_reply (conv.Outside kind) = replies.Outside kind

-- a value as a Number; a BigInt gives its number, up to 2^53 - 1
abbrev pub number_of_value : HostValue → Reply
number_of_value (values.BigInt z) = reply_of (number_of z)
number_of_value v = number_reply (to_number v)

-- `Number(v)` (21.1.1.1)
abbrev pub number_call : List HostValue → Reply
number_call [] = replies.Value (values.Number (pos 0))
number_call (v ∷ rest) = number_of_value v

-- what ToString gave as a value
abbrev pub text_reply : Conv (List ℕ) → Reply
text_reply (conv.Value s) = replies.Value (values.Text s)
text_reply (conv.Throw class) = replies.Throw class
text_reply (conv.Outside kind) = replies.Outside kind

-- `String(v)` (22.1.1.1)
abbrev pub string_call : List HostValue → Reply
string_call [] = replies.Value (values.Text [])
string_call (v ∷ rest) = text_reply (to_string v)

-- the class of the errors that a predefined object makes
abbrev pub error_class : Class → Option ErrorClass
error_class classes.Error = Some errors.Error
error_class classes.TypeError = Some errors.TypeError
error_class classes.RangeError = Some errors.RangeError
error_class classes.ReferenceError = Some errors.ReferenceError
error_class classes.SyntaxError = Some errors.SyntaxError
error_class classes.CompileError = Some errors.CompileError
error_class classes.LinkError = Some errors.LinkError
error_class classes.RuntimeError = Some errors.RuntimeError
error_class classes.SuspendError = Some errors.SuspendError
error_class _ = None

-- a value as the message of an error: none, the empty text, where it is undefined
abbrev pub message_of_value : HostValue → Conv (List ℕ)
message_of_value values.Undefined = conv.Value []
message_of_value v = to_string v

-- the message of `Error(message)` (20.5.1.1)
abbrev pub message_of : List HostValue → Conv (List ℕ)
message_of args = message_of_value (first_argument args)

-- a call without `new` of a predefined object that makes no errors: a class is no function
abbrev pub plain_call : Class → List HostValue → Reply
plain_call classes.BigInt args = big_int_call args
plain_call classes.Number args = number_call args
plain_call classes.String args = string_call args
plain_call classes.Print args = replies.Interface
plain_call classes.Readbuffer args = replies.Interface
plain_call classes.Utf8Text args = replies.Interface
plain_call _ args = replies.Throw errors.TypeError

-- a call with `new` of one
abbrev pub plain_construct : Class → Reply
plain_construct classes.Promise = replies.Interface
plain_construct classes.Uint8Array = replies.Interface
plain_construct classes.Module = replies.Interface
plain_construct classes.Instance = replies.Interface
plain_construct classes.Memory = replies.Interface
plain_construct classes.Table = replies.Interface
plain_construct classes.Global = replies.Interface
plain_construct classes.Suspending = replies.Interface
plain_construct classes.WebAssembly = replies.Throw errors.TypeError
plain_construct _ = replies.Outside outside.Construct
