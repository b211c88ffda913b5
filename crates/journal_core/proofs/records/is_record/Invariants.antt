-- Some frames were read, and the rest is left.
use Rattle.std.proofs.Common.{◌<◌, length}
use Rattle.journal_core.proofs.Frames.{HasRead}
use Rattle.journal_core.proofs.records.is_record.Given as goal

abbrev pub invariant-frames : goal.invariant-frames
invariant-frames l = record {
  read : HasRead l.bytes l.rest;
  some : 0 < length l.bytes;
}

abbrev pub decreases-frames : goal.decreases-frames
decreases-frames l = length l.rest
