-- The charge of a frame's term is that of its innermost list.
use Rattle.std.proofs.Common.{◌≡◌, ℕ, List, [], ◌∷◌, refl, sym, ap, ◌∙◌}
use Rattle.wasm_syntax.specs.declared.instructions.Instr.{Instr}
use Rattle.wasm_syntax.specs.declared.module.Module.{Module}
use Rattle.wasm_syntax.specs.declared.value.Value.{Value}
use Rattle.wasm_machine.specs.Terms.{Level, Term, here, inside}
use Rattle.wasm_machine.specs.Charges.{charge_next, charge_in, charge_of, charge_of_instr}
use Rattle.wasm_machine.specs.View.{View, Open, close, level_of, term_round, rest_of}

charge_close : (m : Module) (os : List Open) (l : Level) (t : Term) (vs : List Value) (is : List Instr) → charge_in vs is (close m os (inside l t)) ≡ charge_in l.values l.rest t
charge_close m [] l t vs is = refl
charge_close m (o ∷ os) l t vs is = charge_close m os (level_of m o) (inside l t) vs is

pub charge_is : (m : Module) (v : View) → charge_of (term_round m v here) ≡ charge_next v.top.values (rest_of m v)
charge_is m v = charge_close m v.outer (level_of m v.top) here [] []

pub charge_ended : (m : Module) (v : View) → rest_of m v ≡ [] → 0 ≡ charge_of (term_round m v here)
charge_ended m v e = ap (charge_next v.top.values) (sym e) ∙ sym (charge_is m v)

pub charge_begun : (m : Module) (v : View) (i : Instr) (is : List Instr) (n : ℕ) → rest_of m v ≡ i ∷ is → n ≡ charge_of_instr i v.top.values → n ≡ charge_of (term_round m v here)
charge_begun m v i is n e f = f ∙ ap (charge_next v.top.values) (sym e) ∙ sym (charge_is m v)
