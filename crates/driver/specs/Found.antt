-- What a description says of a batch.
use Rattle.std.specs.Prelude.{◌≡◌, Some, None, Result, Ok, Err}
use Rattle.ae_base.specs.declared.batches.Batch.{Batch}
use Rattle.wire_messages.specs.Messages.{Description}
use Rattle.conversation.specs.declared.faults.Halt.{Halt}
use Rattle.conversation.specs.declared.faults.Halt.TheVariants as halt
use Rattle.conversation.specs.Pending.{Pending, IsPending, uses_in}
use Rattle.conversation.specs.Sessions.{encs_of, described_params}
use Rattle.driver.specs.declared.starting.Found.{Found}

abbrev pub pending_of : Batch → Found → Pending
pending_of batch found = record { batch = batch; version = found.version; keys = found.keys; encs = found.encs }

-- its parameters are declared ones in the order of declaration, and it is told so; BadReply exactly where they aren't
abbrev pub FindsAs : Result Found Halt → Batch → Description → Type 0
FindsAs (Ok found) batch d =
    (encs_of batch.params d.params ≡ Some found.encs) × (found.version ≡ d.version) × (found.keys ≡ d.keys)
    × (found.params ≡ described_params d.keys (uses_in batch.params found.encs)) × IsPending (pending_of batch found)
FindsAs (Err halt.BadReply) batch d = encs_of batch.params d.params ≡ None
FindsAs (Err halt.OutOfMemory) batch d = Unit {0}
FindsAs (Err halt.EntropyFault) batch d = ⊥
FindsAs (Err halt.VaultFault) batch d = ⊥
