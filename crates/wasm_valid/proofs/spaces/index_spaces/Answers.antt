use Rattle.std.proofs.Common.{◌∙◌, ap, ◌≡◌, length}
use Rattle.wasm_valid.specs.Spaces.{funcs_of}
use Rattle.wasm_valid.proofs.spaces.index_spaces.Goals as goal

pub returns : goal.returns
returns c =
    let funcs : c.add_funcs.new.list.items ≡ funcs_of c.args.«module».now =
    cc (c.in_ok-add_funcs.ensures, c.in_ok-funcs.ensures, c.as_slice.ensures, c.as_slice-imports.ensures) in
    let count : c.len.result ≡ length (funcs_of c.args.«module».now) = c.len.ensures ∙ c.add_funcs.new.list.ok.0 ∙ ap length funcs in
    record {
      funcs = funcs;
      tables = cc (c.in_ok-extend_from_slice.ensures.items, c.in_ok-tables.ensures, c.as_slice-2.ensures, c.as_slice-imports.ensures);
      imported_globals = cc (c.in_ok-imported.ensures, c.as_slice-imports.ensures);
      globals = cc (c.in_ok-add_globals.ensures, c.in_ok-globals.ensures, c.as_slice-3.ensures, c.as_slice-imports.ensures);
      mems = cc (c.in_ok-extend_from_slice-2.ensures.items, c.in_ok-mems.ensures, c.as_slice-4.ensures, c.as_slice-imports.ensures);
      declared_count = c.in_ok-declared.ensures.length ∙ count;
      declared = λ x h. c.in_ok-declared.ensures.each x (rw count h);
    }
