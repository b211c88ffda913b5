-- Some records stand before the gate, and the disk stands as it stood.
use Rattle.std.proofs.Common.{◌≡◌, ◌≤◌, ◌-◌}
use Rattle.ae_edge.specs.Devices.{WhereExposed}
use Rattle.journal_core.proofs.Scans.{HasScanned}
use Rattle.journal_core.proofs.scanning.scan.Given as goal

abbrev pub invariant-gates : goal.invariant-gates
invariant-gates g l = record {
  scanned : WhereExposed (HasScanned l.last l.gate) (g.D.Disk.seen l.fn.disk).content (g.D.Disk.seen l.disk).content;
  inside : l.gate ≤ l.last;
  counts : (g.D.Disk.seen l.disk).faults ≡ (g.D.Disk.seen l.fn.disk).faults;
  same : (g.D.Disk.seen l.disk).names ≡ (g.D.Disk.seen l.fn.disk).names;
}

abbrev pub decreases-gates : goal.decreases-gates
decreases-gates g l = l.last - l.gate
