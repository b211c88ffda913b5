use Rattle.std.proofs.Common.{◌∙◌}
use Rattle.ae_edge.specs.Devices.{Stays}
use Rattle.ae_edge.proofs.Interface.{calls_then}
use Rattle.key_store.specs.Opening.{CountsOpen}
use Rattle.key_store.proofs.Opened.{first-opens}
use Rattle.key_store.proofs.stores.KeyStore.column_key.Goals as goal

pub returns-in-Opened-clause-opens : goal.returns-in-Opened-clause-opens
returns-in-Opened-clause-opens g c =
    let tries = rw c.in-Opened.is at c.in_ok-keys.ensures.tries in
    first-opens (g.V.Vault.seen c.args.vault.now).content c.args.meta.now c.in-Opened.keys tries

-- the second value is tried after the first was, by a vault that didn't fail
pub returns-in-Shut-clause-asked : goal.returns-in-Shut-clause-asked
returns-in-Shut-clause-asked g c =
    calls_then Stays Stays Stays (CountsOpen c.second_key.result) (g.V.Vault.seen c.args.vault.now) (g.V.Vault.seen c.tried.new.vault) (g.V.Vault.seen c.second_key.new.vault)
    (λ e f. f ∙ e) c.in_ok-keys.ensures.asked c.second_key.ensures.asked
