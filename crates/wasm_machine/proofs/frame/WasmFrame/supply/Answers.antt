use Rattle.wasm_machine.proofs.Supplied.{has_room, fits_again}
use Rattle.wasm_machine.proofs.frame.WasmFrame.supply.Goals as goal

pub push_all-requires : goal.push_all-requires
push_all-requires c = has_room c.requires.0 c.requires.1 c.requires.2 c.args.self.now c.args.results.now c.requires.3 c.requires.4

pub returns-clause-fits : goal.returns-clause-fits
returns-clause-fits c = λ s R types f h. fits_again s R types c.args.self.now c.push_all.new.self c.args.results.now f h c.push_all.ensures
