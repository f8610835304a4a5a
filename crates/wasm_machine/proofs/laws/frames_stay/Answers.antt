use Rattle.wasm_machine.proofs.Kept.{fits_later, code_stays, fits_there, waits_there}
use Rattle.wasm_machine.proofs.laws.frames_stay.Goals as goal

pub returns-clause-typed : goal.returns-clause-typed
returns-clause-typed c = fits_later c.types_stay.ensures.values c.types_stay.ensures.modules c.instances_stay.ensures.instances c.instances_stay.ensures.lists

pub returns-clause-code : goal.returns-clause-code
returns-clause-code c = code_stays c.types_stay.ensures.modules

pub returns-clause-fits : goal.returns-clause-fits
returns-clause-fits c s t R v l h =
    fits_there (fits_later c.types_stay.ensures.values c.types_stay.ensures.modules c.instances_stay.ensures.instances c.instances_stay.ensures.lists) (code_stays c.types_stay.ensures.modules) s t v l h

pub returns-clause-waits : goal.returns-clause-waits
returns-clause-waits c s t R results v l h =
    waits_there (fits_later c.types_stay.ensures.values c.types_stay.ensures.modules c.instances_stay.ensures.instances c.instances_stay.ensures.lists) (code_stays c.types_stay.ensures.modules) s t results v l h
