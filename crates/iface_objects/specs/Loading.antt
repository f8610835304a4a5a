-- What bytes are as modules: loading tells it of all bytes, and in one way.
use Rattle.std.specs.Prelude.{ℕ, List}
use Rattle.wasm_load.specs.Loading.{Loaded, Loads}

abbrev pub Loading : Type 0
Loading = List ℕ → Loaded

abbrev pub IsLoading : Loading → Type 0
IsLoading load = (bytes : List ℕ) → Loads bytes (load bytes)
