-- What is named and typed is understood.
use Rattle.statement_analysis.proofs.Typings.{understood_so}
use Rattle.statement_analysis.proofs.meaning.understood.Goals as goal

pub returns-clause-meant : goal.returns-clause-meant
returns-clause-meant c =
    understood_so c.args.catalog.now c.args.declarations.now c.in_ok-bound.bound c.typed.result c.in_ok-bound.ensures.bound c.typed.ensures.bound
