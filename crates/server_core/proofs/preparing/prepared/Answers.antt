-- Each parameter has an encryption, and the values are of their types and encryptions.
use Rattle.std.proofs.Common.{◌∙◌, List, length, sym, ap}
use Rattle.ae_base.specs.declared.types.Enc.{Enc}
use Rattle.statement_analysis.specs.Describing.{meant_of}
use Rattle.statement_analysis.specs.Params.{suited}
use Rattle.server_core.proofs.Readiness.{sent_count, is_ready}
use Rattle.server_core.proofs.preparing.prepared.Goals as goal

pub suited-requires : goal.suited-requires
suited-requires c =
    ap length c.encs.ensures ∙ sent_count c.args.catalog.now c.args.params.now (meant_of c.in_ok-typed.typed) c.typings_are_of_columns.ensures c.in_ok-typed.ensures.meant

pub returns-in-Ok-clause-ready : goal.returns-in-Ok-clause-ready
returns-in-Ok-clause-ready c =
    is_ready c.args.catalog.now c.args.params.now (meant_of c.in_ok-typed.typed) c.in-Ok.atoms c.typings_are_of_columns.ensures c.in_ok-typed.ensures.meant
    (ap (λ (es : List Enc). suited es c.args.params.now) (sym c.encs.ensures) ∙ c.in-Ok.ensures.exact) c.in-Ok.ensures.short
