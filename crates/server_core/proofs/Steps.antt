-- What a session's call is served as.
use Rattle.std.proofs.Common.{◌≡◌, Ok, Err, ap}
use Rattle.ae_base.specs.declared.faults.SqlFault.{SqlFault}
use Rattle.catalog.specs.Catalogs.{Catalog}
use Rattle.engine.specs.Step.{Answer}
use Rattle.transactions.specs.Stores.{Transacted}
use Rattle.server_core.specs.Serve.{State, answered, refused, replies_of}

pub answered_fault : (catalog : Catalog) (new : State) (o : Transacted) (f : SqlFault) → o ≡ record { answer = Err f; after = new } → answered catalog o.answer o.after ≡ refused new f
answered_fault catalog new o f e = ap (λ (o : Transacted). answered catalog o.answer o.after) e

pub answered_so : (catalog : Catalog) (new : State) (o : Transacted) (answer : Answer) → o ≡ record {
  answer = Ok answer;
  after = new;
} → answered catalog o.answer o.after ≡ record { replies = replies_of catalog answer; after = new }
answered_so catalog new o answer e = ap (λ (o : Transacted). answered catalog o.answer o.after) e
