-- What is parsed is bound, as the law says.
use Rattle.std.proofs.Common.{◌∙◌, sym, ap}
use Rattle.std.specs.Prelude.{encode_utf8_all}
use Rattle.sql_grammar.specs.Texts.{statement_in}
use Rattle.sql_tree.specs.Bound.{bound_of}
use Rattle.sql_tree.specs.Statements.{Statement, statement_of}
use Rattle.resolve.specs.Bind.{bind}
use Rattle.statement_analysis.proofs.Passing.{goes_on}
use Rattle.statement_analysis.proofs.Typings.{named_so}
use Rattle.statement_analysis.proofs.meaning.named.Goals as goal

pub returns-clause-exact : goal.returns-clause-exact
returns-clause-exact c =
    goes_on statement_of bound_of (statement_in (encode_utf8_all c.args.text.now)) (λ (statement : Statement). bind c.args.catalog.now statement c.args.declarations.now) c.in_ok-statement.statement
    c.bind-bound.result (ap statement_in (sym c.as_str.ensures.bytes) ∙ c.in_ok-statement.ensures.exact) c.bind-bound.ensures.exact

pub returns-clause-bound : goal.returns-clause-bound
returns-clause-bound c =
    named_so c.bound_statements_are.ensures c.args.catalog.now (statement_of c.in_ok-statement.statement) c.args.declarations.now c.bind-bound.result c.bind-bound.ensures.exact
