-- The steps that are left are to come.
use Rattle.ae_edge.specs.Devices.{lent}
use Rattle.driver.specs.Clients.{IsOfVault}
use Rattle.script_run.specs.Ways.{Proceeds}
use Rattle.script_talk.specs.Steps.{talk}
use Rattle.script_run.proofs.runs.run_lent.Given as goal

abbrev pub invariant-loop-one : goal.invariant-loop-one
invariant-loop-one g l = record {
  of_vault : IsOfVault (g.V.Vault.seen l.env.vault.now).content l.driver;
  goes : Proceeds (talk l.fn.steps l.fn.driver.trusted l.fn.driver.sessions)
      (talk l.one-iterator.rest.items l.driver.trusted l.driver.sessions)
      (record {
        client = record {
          out = lent (g.W.Sink.seen l.fn.env.out.now) l.fn.env.out.ghost_name;
          entropy = lent (g.E.Entropy.seen l.fn.env.entropy.now) l.fn.env.entropy.ghost_name;
          vault = lent (g.V.Vault.seen l.fn.env.vault.now) l.fn.env.vault.ghost_name;
          tally = l.fn.env.tally;
        };
        wire = g.L.Connection.wire l.fn.env.connection;
      })
      (record {
        client = record {
          out = lent (g.W.Sink.seen l.env.out.now) l.env.out.ghost_name;
          entropy = lent (g.E.Entropy.seen l.env.entropy.now) l.env.entropy.ghost_name;
          vault = lent (g.V.Vault.seen l.env.vault.now) l.env.vault.ghost_name;
          tally = l.env.tally;
        };
        wire = g.L.Connection.wire l.env.connection;
      });
}
