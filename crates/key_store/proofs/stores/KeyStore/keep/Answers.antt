use Rattle.std.proofs.Common.{ap, subst}
use Rattle.key_store.specs.Stores.{AreKeptWith}
use Rattle.key_store.proofs.Keeping.{put-kept}
use Rattle.key_store.proofs.stores.KeyStore.keep.Goals as goal

pub returns-clause-kept : goal.returns-clause-kept
returns-clause-kept c = subst (λ old. AreKeptWith c.args.value c.args.key old c.put.new.self.entries) c.self.view_is
    (put-kept c.args.value c.args.key c.self.inside.kept c.put.new.self.entries (ap (λ cache. cache.entries) c.in_ok-put.ensures.entries))
