-- The encryptions are those of declared parameters.
use Rattle.std.proofs.Common.{◌≡◌, ◌≤◌, length, map, ap, ◌∙◌, subst}
use Rattle.std.specs.Prelude.{IsTrue}
use Rattle.ae_base.specs.Names.{all_differ}
use Rattle.ae_base.specs.declared.batches.Batch.{Batch}
use Rattle.driver.proofs.Listing.{are_uses}
use Rattle.driver.proofs.Found.{found_encs, uses_listed, found_as}
use Rattle.driver.proofs.starting.find.Goals as goal

pub described_params-requires-clause-each : goal.described_params-requires-clause-each
described_params-requires-clause-each c =
    let p : c.as_slice-params.result.now ≡ c.args.batch.now.params = c.as_slice-params.ensures.items ∙ ap (λ (b : Batch). b.params) c.as_batch.ensures.batch in
    let u : c.as_slice.result.now ≡ c.args.description.now.params = c.as_slice.ensures.items ∙ c.params.ensures.params in
    let e = found_encs c.args.batch.now.params _ c.args.description.now.params _ _ _ p u c.in_ok-encs.ensures c.in-Some.is in
    let l = are_uses c.args.batch.now.params c.args.description.now.params _ e in
    let n = l.long in
    let a = c.as_slice-3.ensures in
    rw (a, p) n

pub described_params-requires-clause-listed : goal.described_params-requires-clause-listed
described_params-requires-clause-listed c =
    let p : c.as_slice-params.result.now ≡ c.args.batch.now.params = c.as_slice-params.ensures.items ∙ ap (λ (b : Batch). b.params) c.as_batch.ensures.batch in
    let u : c.as_slice.result.now ≡ c.args.description.now.params = c.as_slice.ensures.items ∙ c.params.ensures.params in
    let e = found_encs c.args.batch.now.params _ c.args.description.now.params _ _ _ p u c.in_ok-encs.ensures c.in-Some.is in
    let h = uses_listed c.args.batch.now.params c.args.description.now.params _ c.args.description.now.keys e c.params.ensures.description in
    let a = c.as_slice-3.ensures in
    let b = c.as_slice-2.ensures ∙ c.in_ok-keys.ensures ∙ c.keys.ensures.keys in
    rw (a, b, p) h

pub returns : goal.returns
returns c =
    let p : c.as_slice-params.result.now ≡ c.args.batch.now.params = c.as_slice-params.ensures.items ∙ ap (λ (b : Batch). b.params) c.as_batch.ensures.batch in
    let u : c.as_slice.result.now ≡ c.args.description.now.params = c.as_slice.ensures.items ∙ c.params.ensures.params in
    let e = found_encs c.args.batch.now.params _ c.args.description.now.params _ _ _ p u c.in_ok-encs.ensures c.in-Some.is in
    let a = c.as_slice-3.ensures in
    let k = c.in_ok-keys.ensures ∙ c.keys.ensures.keys in
    let b = c.as_slice-2.ensures ∙ k in
    let d = c.in_ok-params.ensures in
    let few : length c.args.description.now.params ≤ 128 = subst (λ xs. length xs ≤ 128) c.params.ensures.params c.as_slice.ensures.few in
    let differ : IsTrue (all_differ (map (λ u. u.name) c.args.description.now.params)) = subst (λ xs. IsTrue (all_differ (map (λ u. u.name) xs))) c.params.ensures.params c.as_slice.ensures.differ in (
      e,
      c.version.ensures,
      k,
      rw (a, b, p) at d,
      rw k
          (found_as c.args.batch.now c.version.result c.args.description.now.keys c.args.description.now.params _ c.as_batch.ensures.fit e c.params.ensures.description few differ),
    )
