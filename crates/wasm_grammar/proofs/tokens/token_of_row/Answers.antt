use Rattle.wasm_grammar.proofs.tokens.token_of_row.Goals as goal

pub returns-in-Index-clause-gives : goal.returns-in-Index-clause-gives
returns-in-Index-clause-gives c = rw c.in-Index.is (c.index_of.ensures.gives c.args.in_code _ c.args.after)

pub returns-in-Access-clause-gives : goal.returns-in-Access-clause-gives
returns-in-Access-clause-gives c = rw c.in-Access.is (c.access_of.ensures.gives c.args.in_code _ c.args.after)

pub returns-in-SelectTyped-clause-gives : goal.returns-in-SelectTyped-clause-gives
returns-in-SelectTyped-clause-gives c = rw c.in-SelectTyped.is (c.select_of.ensures.gives c.args.in_code)

pub returns-in-I32Const-clause-gives : goal.returns-in-I32Const-clause-gives
returns-in-I32Const-clause-gives c = rw c.in-I32Const.is (c.i32_const_of.ensures.gives c.args.in_code _ c.args.after)

pub returns-in-I64Const-clause-gives : goal.returns-in-I64Const-clause-gives
returns-in-I64Const-clause-gives c = rw c.in-I64Const.is (c.i64_const_of.ensures.gives c.args.in_code _ c.args.after)

pub returns-in-DataDrop-clause-gives : goal.returns-in-DataDrop-clause-gives
returns-in-DataDrop-clause-gives c = rw c.in-DataDrop.is (c.data_drop_of.ensures.gives c.args.after)
