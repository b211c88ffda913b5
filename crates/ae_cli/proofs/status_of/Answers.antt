-- Without memory for the vault nothing was read; else the peer serves from the empty state.
use Rattle.std.proofs.Common.{Some, None, ap, refl}
use Rattle.std.specs.Prelude.{false}
use Rattle.server_core.specs.Serve.{empty_state}
use Rattle.ae_cli.proofs.Doing.{no_memory}
use Rattle.ae_edge.specs.Devices.{Device, silent}
use Rattle.ae_cli.specs.Seen.{Seen}
use Rattle.ae_cli.proofs.status_of.Goals as goal

abbrev untold : {A : Type 0} → Device A
untold = silent 0

abbrev untouched : Seen
untouched = record {
  script = untold;
  vault = untold;
  entropy = untold;
  replies = untold;
  out = untold;
  tap = untold;
  tap_closed = false;
  peer = record { log = None; state = Some empty_state };
  disk = untold;
}

pub returns-in_default : goal.returns-in_default
returns-in_default c = (untouched, untouched, refl, no_memory _ _)

pub returns : goal.returns
returns c = (_, _, ap Some c.new-peer.ensures, c.ae_main.ensures.does)
