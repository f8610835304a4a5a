use Rattle.std.proofs.Common.{◌≡◌, map, take, drop}
use Rattle.std.specs.List.{list_all}
use Rattle.wasm_valid.specs.Typing.{is_typed_body, body_height}
use Rattle.wasm_valid.specs.ModuleRules.{first_untyped}
use Rattle.wasm_valid.proofs.valid.check_bodies.Given as goal

-- the bodies so far are typed, and their heights are noted
abbrev pub invariant-loop-index : goal.invariant-loop-index
invariant-loop-index l = record {
  first : first_untyped l.«module» 0 l.funcs ≡ first_untyped l.«module» l.index (drop l.index l.funcs);
  all : list_all (is_typed_body l.«module») l.funcs ≡ list_all (is_typed_body l.«module») (drop l.index l.funcs);
  heights : l.heights.items ≡ map (body_height l.«module») (take l.index l.funcs);
}
