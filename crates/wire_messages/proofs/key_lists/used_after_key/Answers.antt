-- The key was used before, or is the next, or is no key of the list.
use Rattle.std.proofs.Common.{◌∙◌, sym, ap, arith}
use Rattle.std.proofs.lemmas.Bool.{eqb-true}
use Rattle.wire_messages.proofs.KeyOrder.{used_again, used_next, used_other, used_none, other_id}
use Rattle.wire_messages.proofs.key_lists.used_after_key.Goals as goal
use Rattle.wire_messages.proofs.key_lists.used_after_key.Goals.{else-used-keys-via-then-used-keys+else-eq, else-used-keys-via-else-used-keys}

pub returns-then-has_key : goal.returns-then-has_key
returns-then-has_key c = (c.requires, used_again c.args.keys.now c.args.used c.args.key (sym c.has_key.ensures ∙ c.if-has_key.true))

pub returns-then-eq : goal.returns-then-eq
returns-then-eq c = (
  omega (arith, c.if-used-keys.true),
  used_next c.args.keys.now c.args.used c.args.key c.index-keys-used.result c.if-used-keys.true (sym c.has_key.ensures ∙ c.if-has_key.false)
      (sym (c.id.ensures ∙ ap (λ k. k.id) c.index-keys-used.is) ∙ eqb-true c.id.result c.args.key (sym c.eq.ensures ∙ c.if-eq.true)),
)

pub returns-else-used-keys : goal.returns-else-used-keys
returns-else-used-keys c = elim c.else-used-keys.branch [
  | else-used-keys-via-then-used-keys+else-eq w ↦ used_other c.args.keys.now c.args.used c.args.key w.index-keys-used.result w.if-used-keys.true (sym c.has_key.ensures ∙ c.if-has_key.false)
      (other_id w.id.result c.args.key _ (sym w.eq.ensures ∙ w.if-eq.false) (w.id.ensures ∙ ap (λ k. k.id) w.index-keys-used.is))
  | else-used-keys-via-else-used-keys w ↦ used_none c.args.keys.now c.args.used c.args.key w.if-used-keys.false (sym c.has_key.ensures ∙ c.if-has_key.false)
]
