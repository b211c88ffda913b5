-- Batches that may be sent.
use Rattle.std.specs.Prelude.{ℕ, List, length, encode_utf8_all, Option, Some, None, Result, Ok, Err, Bool, true, false, nat_lt}
use Rattle.ae_base.specs.Batches.{first_unfit}
use Rattle.ae_base.specs.declared.batches.Batch.{Batch}
use Rattle.conversation.specs.declared.faults.DriverFault.{DriverFault}
use Rattle.conversation.specs.declared.faults.DriverFault.TheVariants.{DoesNotFit, TooLong}
use Rattle.ae_base.specs.Limits.{most_statement_bytes}

abbrev pub unfit_by : Option (List ℕ) → Bool → Option DriverFault
unfit_by (Some name) long = Some (DoesNotFit name)
unfit_by None true = Some TooLong
unfit_by None false = None

-- why a batch may not be sent: the first value, in declaration order, that doesn't fit its type; or a text of more than 65,536 bytes
abbrev pub why_unfit : Batch → Option DriverFault
why_unfit batch = unfit_by (first_unfit batch.params) (nat_lt most_statement_bytes (length (encode_utf8_all batch.text)))

abbrev pub unless : Option DriverFault → Batch → Result Batch DriverFault
unless (Some f) batch = Err f
unless None batch = Ok batch

-- the batch, where it may be sent
abbrev pub fit_batch : Batch → Result Batch DriverFault
fit_batch batch = unless (why_unfit batch) batch
