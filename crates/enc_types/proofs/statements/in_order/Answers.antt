-- The sort of std is stable, and by the places of the rules.
use Rattle.std.proofs.Common.{◌∙◌, ap, rules}
use Rattle.std.proofs.lemmas.List.Sorted.{IsNonDecreasingBy-from_sort, answers_always}
use Rattle.enc_types.specs.Rules.{at_of, in_order}
use Rattle.enc_types.proofs.Sorting.{stable_sort}
use Rattle.enc_types.proofs.statements.in_order.Goals as goal

pub returns : goal.returns
returns c =
    c.from_vec.ensures
    ∙ stable_sort _ _ (IsNonDecreasingBy-from_sort at_of _ (c.in_ok-sort_by_key.ensures.sorted at_of (answers_always _ _ _ (λ f a r g h. search rules))))
    (c.in_ok-sort_by_key.ensures.stable at_of (answers_always _ _ _ (λ f a r g h. search rules)))
    ∙ ap in_order c.into_vec-rules.ensures
