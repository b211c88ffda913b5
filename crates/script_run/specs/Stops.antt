-- Why a run stops where a write wasn't whole.
use Rattle.ae_edge.specs.declared.streams.WriteError.{WriteError}
use Rattle.ae_edge.specs.declared.streams.WriteError.TheVariants as write
use Rattle.script_run.specs.declared.stops.Stop.{Stop}
use Rattle.script_run.specs.declared.stops.Stop.TheVariants as stop

abbrev pub stop_of_write : WriteError → Stop
stop_of_write write.Failed = stop.WriteFault
stop_of_write write.OutOfMemory = stop.OutOfMemory
