-- What is held stays frames of requests to execute.
use Rattle.std.proofs.Common.{sym, subst}
use Rattle.journal_command.specs.Durable.{DurableState}
use Rattle.journal_command.specs.Keeping.{IsHolding}
use Rattle.journal_command.proofs.Serving.{stay_holds}
use Rattle.journal_command.proofs.durable.Durable.serve_read.Goals as goal

pub returns-clause-holds : goal.returns-clause-holds
returns-clause-holds c =
    let holds : IsHolding c.self.inside.keeper = subst (λ (d : DurableState). IsHolding d.held) (sym c.self.view_is) c.requires.holds in
    stay_holds c.args.session c.goes_on-stays.result c.self.inside.keeper c.stay.new.self holds c.stay.ensures
