-- Private: what the operands before an operator show.
use Rattle.std.specs.Prelude.{◌≡◌, List, [], ◌++◌, length}
use Rattle.small_parser.specs.declared.script.NodeId.{NodeId}
use Rattle.small_parser.specs.declared.script.Operand.{Operand}
use Rattle.small_parser.specs.declared.script.Node.{Node}
use Rattle.small_parser.specs.declared.chain.Level as code
use Rattle.small_parser.specs.Shows.{SumLeft, ProductLeft, ListedShows}
use Rattle.small_parser.specs.Machine.{BeforeSum, no_sum, sum_before, BeforeProduct, no_product, product_before, BeforeListed, no_listed, listed_before, Level, level}

abbrev pub BeforeSumShows : BeforeSum → List Node → List Operand → Type 0
BeforeSumShows no_sum nodes left = left ≡ []
BeforeSumShows (sum_before a o k) nodes left = SumLeft a o k nodes left (length nodes)

abbrev pub BeforeProductShows : BeforeProduct → List Node → List Operand → Type 0
BeforeProductShows no_product nodes left = left ≡ []
BeforeProductShows (product_before m k) nodes left = ProductLeft m k nodes left (length nodes)

abbrev pub BeforeListedShows : BeforeListed → List Node → List NodeId → Type 0
BeforeListedShows no_listed nodes ids = ids ≡ []
BeforeListedShows (listed_before l k) nodes ids = ListedShows l nodes ids

abbrev pub LevelShows : Level → List Node → code.Level → Type 0
LevelShows (level a m) nodes v = BeforeSumShows a nodes v.sum × BeforeProductShows m nodes v.product

-- a table that went on
abbrev pub Grows : List Node → List Node → Type 0
Grows old new = (more : List Node) × (new ≡ old ++ more)
