-- How the command `gen` ends, and what it puts.
use Rattle.std.specs.Prelude.{ℕ, List}
use Rattle.ae_edge.specs.Devices.{Adds, AddsPrefix, Calls, Device, Rose, Stays}
use Rattle.gen_command.specs.Script.{script}
use Rattle.gen_command.specs.declared.commands.Generated.{Generated}
use Rattle.gen_command.specs.declared.commands.Generated.TheVariants as ended

-- the script of a size was put to the output, or a front of it; the count of faults stays, but where a call failed
abbrev pub PutsScript : Generated → ℕ → Device (List ℕ) → Device (List ℕ) → Type 0
PutsScript ended.Done size = Calls (Adds (script size)) Stays
PutsScript ended.WriteFault size = Calls (AddsPrefix (script size)) Rose
PutsScript ended.OutOfMemory size = Calls (AddsPrefix (script size)) Stays
