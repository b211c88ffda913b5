use Rattle.std.proofs.Common.{refl}
use Rattle.key_store.proofs.Opened.{one-shut, second-opens, two-shut}
use Rattle.key_store.proofs.stores.KeyStore.second_key.Goals as goal
use Rattle.key_store.proofs.stores.KeyStore.second_key.Goals.{then-is_there, else-is_there}

pub returns-in_default-clause-opens : goal.returns-in_default-clause-opens
returns-in_default-clause-opens g c =
    one-shut (g.V.Vault.seen c.args.vault.now).content c.args.meta.now c.args.is_there _ c.in_default.is c.requires.first c.in_ok-why_shut.ensures

pub returns-in-Opened-clause-opens : goal.returns-in-Opened-clause-opens
returns-in-Opened-clause-opens g c =
    let tries = rw c.in-Opened.is at c.in_ok-keys.ensures.tries in
    second-opens (g.V.Vault.seen c.args.vault.now).content c.args.meta.now c.in-Some.value c.args.is_there c.in-Opened.keys c.in-Some.is c.requires.first tries

pub returns-in_ok-why_shut-in-Shut-clause-opens : goal.returns-in_ok-why_shut-in-Shut-clause-opens
returns-in_ok-why_shut-in-Shut-clause-opens g c =
    let tries = rw c.in-Shut.is at c.in_ok-keys.ensures.tries in
    two-shut (g.V.Vault.seen c.args.vault.now).content c.args.meta.now c.in-Some.value c.args.is_there c.in-Shut.too c.if-is_there.why_shut _ c.in-Some.is c.requires.first tries
    (elim c.if-is_there.branch [ then-is_there w ↦ rw (w.why_shut-is, w.if-is_there.true) refl | else-is_there w ↦ rw (w.why_shut-is, w.if-is_there.false) refl ])
    c.in_ok-why_shut-in-Shut.ensures
