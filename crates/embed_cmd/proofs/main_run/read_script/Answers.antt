use Rattle.std.proofs.Common.{◌≡◌, ◌∙◌, sym, subst}
use Rattle.small_lexer.specs.declared.token.LexError.TheVariants as lexing
use Rattle.small_lexer.specs.Tokens.{HasTokens}
use Rattle.small_parser.specs.declared.script.ParseError.TheVariants as parsing
use Rattle.small_parser.specs.Grammar.{IsScript}
use Rattle.embed_cmd.proofs.main_run.read_script.Goals as goal

pub returns-in-Err-NotYet : goal.returns-in-Err-NotYet
returns-in-Err-NotYet c = λ d h.
    let split = subst (λ x. HasTokens x h.tokens) (sym c.in-Ok.ensures.cases.0) h.split in
    let same : lexing.NotYet ≡ lexing.NoMemory = sym c.in-Err-NotYet.field-0-is ∙ c.in-Err-NotYet.ensures.only h.tokens split in
    cc

pub returns-in-Ok-parse : goal.returns-in-Ok-parse
returns-in-Ok-parse c =
    let found = c.in-Ok-parse.ensures.found in
    record {
      script = found.0;
      text = record {
        utf8 = c.in-Ok.ensures.cases.1;
        tokens = c.in-Ok-tokens.tokens.items;
        split = subst (λ x. HasTokens x c.in-Ok-tokens.tokens.items) c.in-Ok.ensures.cases.0 c.in-Ok-tokens.ensures.found;
        parse = subst (λ ts. IsScript ts found.0) c.as_slice.ensures.value found.1;
      };
      shown = found.2;
      all = λ other h.
          let split = subst (λ x. HasTokens x h.tokens) (sym c.in-Ok.ensures.cases.0) h.split in
          c.in-Ok-parse.ensures.only other (subst (λ ts. IsScript ts other) (sym (c.as_slice.ensures.value ∙ c.in-Ok-tokens.ensures.only h.tokens split)) h.parse);
    }

pub returns-in-Err-NotYet-parse : goal.returns-in-Err-NotYet-parse
returns-in-Err-NotYet-parse c = λ d h.
    let split = subst (λ x. HasTokens x h.tokens) (sym c.in-Ok.ensures.cases.0) h.split in
    let parsed = subst (λ ts. IsScript ts d) (sym (c.as_slice.ensures.value ∙ c.in-Ok-tokens.ensures.only h.tokens split)) h.parse in
    let same : parsing.NotYet ≡ parsing.NoMemory = sym c.in-Err-NotYet-parse.field-0-is ∙ c.in-Err-NotYet-parse.ensures.only d parsed in
    cc
