-- How the command ends, by how answering the requests of its input does.
use Rattle.serve_command.specs.declared.inputs.Ending.{Ending}
use Rattle.serve_command.specs.declared.inputs.Ending.TheVariants as ending
use Rattle.journal_command.specs.declared.endings.Ended.{Ended}
use Rattle.journal_command.specs.declared.endings.Ended.TheVariants as ended
use Rattle.journal_command.specs.declared.endings.Stop.{Stop}
use Rattle.journal_command.specs.declared.endings.Stop.TheVariants as stop

abbrev pub ended_by : Ending Stop → Ended
ended_by ending.Done = ended.Done
ended_by ending.ReadFault = ended.ReadFault
ended_by ending.TooLong = ended.TooLong
ended_by (ending.BadFrame place) = ended.BadFrame place
ended_by ending.OutOfMemory = ended.OutOfMemory
ended_by (ending.Stopped stop.WriteFault) = ended.WriteFault
ended_by (ending.Stopped stop.DiskFault) = ended.DiskFault
ended_by (ending.Stopped stop.JournalFull) = ended.JournalFull
ended_by (ending.Stopped stop.OutOfMemory) = ended.OutOfMemory
