-- One record more, or the end.
use Rattle.std.proofs.Common.{◌∙◌, refl, rules}
use Rattle.journal_core.proofs.Scans.{scan_first, scan_kept, scan_more, scan_closed, scan_broken, scan_failed, scan_unheld}
use Rattle.journal_core.proofs.scanning.scan.Goals as goal

pub gates-init : goal.gates-init
gates-init g c = record { scanned = scan_first c.args.last _ c.requires.kept; inside = search rules; counts = refl; same = refl }

pub stood_at-requires-clause-kept : goal.stood_at-requires-clause-kept
stood_at-requires-clause-kept g c = scan_kept c.args.last c.gates.gate _ _ c.gates.invariant.scanned

pub gates-preserved : goal.gates-preserved
gates-preserved g c = record {
  scanned = search (rules, scan_more c.args.last c.gates.gate c.in-Open.entry _ _ _ c.gates.invariant.scanned c.in-Open.ensures.call.content);
  inside = search rules;
  counts = c.in-Open.ensures.call.counts ∙ c.gates.invariant.counts;
  same = c.stood_at.ensures.call.same ∙ c.gates.invariant.same;
}

pub returns-in-Closed : goal.returns-in-Closed
returns-in-Closed g c =
    record {
      content = scan_closed c.args.last c.gates.gate _ _ _ c.gates.invariant.scanned c.in-Closed.ensures.call.content;
      count = search rules;
      counts = search rules;
      same = search rules;
    }

pub returns-in-Broken : goal.returns-in-Broken
returns-in-Broken g c =
    record {
      content = scan_broken c.args.last c.gates.gate c.requires.long _ _ _ c.gates.invariant.scanned c.in-Broken.ensures.call.content;
      count = search rules;
      counts = search rules;
      same = search rules;
    }

pub returns-in-Failed : goal.returns-in-Failed
returns-in-Failed g c =
    record {
      content = scan_failed c.args.last c.gates.gate _ _ _ c.gates.invariant.scanned c.in-Failed.ensures.call.content;
      count = search rules;
      counts = search rules;
      same = search rules;
    }

pub returns-in-OutOfMemory : goal.returns-in-OutOfMemory
returns-in-OutOfMemory g c =
    record {
      content = scan_unheld c.args.last c.gates.gate _ _ _ c.gates.invariant.scanned c.in-OutOfMemory.ensures.call.content;
      count = search rules;
      counts = search rules;
      same = search rules;
    }
