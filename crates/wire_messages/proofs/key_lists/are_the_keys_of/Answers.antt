-- One encryption after another.
use Rattle.std.proofs.Common.{◌≡◌, ◌∙◌, ◌∷◌, ◌+◌, sym, ap, map, length, drop, arith}
use Rattle.std.proofs.lemmas.List.{drop_all, length-map}
use Rattle.wire_messages.specs.KeyLists.{lists_from, ids_of}
use Rattle.wire_messages.proofs.KeyOrder.{tells, lists_end, left_encs}
use Rattle.wire_messages.proofs.key_lists.are_the_keys_of.Goals as goal

pub returns-in-None : goal.returns-in-None
returns-in-None g c =
    let encs = map g.T.Encrypted.enc_of c.args.items.now in
    let l = left_encs g.T.Encrypted.enc_of c.args.items.now c.loop-item.item-index c.item-item.result c.loop-item-test.true in
    let e = c.enc.ensures ∙ ap g.T.Encrypted.enc_of c.item-item.is in
    tells _ encs c.args.keys.now
    (c.loop-item.invariant.left ∙ ap (lists_from (ids_of c.args.keys.now) c.loop-item.used) (l ∙ ap (λ x. x ∷ drop (c.loop-item.item-index + 1) encs) (sym e))
    ∙ c.in-None.ensures (drop (c.loop-item.item-index + 1) encs))
    (c.are_few.ensures.0 c.if-not-are_few.false)

pub loop-item-preserved : goal.loop-item-preserved
loop-item-preserved g c =
    let encs = map g.T.Encrypted.enc_of c.args.items.now in
    let l = left_encs g.T.Encrypted.enc_of c.args.items.now c.loop-item.item-index c.item-item.result c.loop-item-test.true in
    let e = c.enc.ensures ∙ ap g.T.Encrypted.enc_of c.item-item.is in
    record {
      within = c.in-Some.ensures.0;
      left = c.loop-item.invariant.left ∙ ap (lists_from (ids_of c.args.keys.now) c.loop-item.used) (l ∙ ap (λ x. x ∷ drop (c.loop-item.item-index + 1) encs) (sym e))
          ∙ c.in-Some.ensures.1 (drop (c.loop-item.item-index + 1) encs);
    }

pub returns : goal.returns
returns g c =
    let encs = map g.T.Encrypted.enc_of c.args.items.now in
    let n : length encs ≡ length c.args.items.now = length-map c.args.items.now g.T.Encrypted.enc_of in
    let d = drop_all c.loop-item.item-index encs (omega (arith, c.loop-item-test.false)) in
    tells _ encs c.args.keys.now
    (c.loop-item.invariant.left ∙ ap (lists_from (ids_of c.args.keys.now) c.loop-item.used) d ∙ lists_end c.args.keys.now c.loop-item.used c.loop-item.invariant.within)
    (c.are_few.ensures.0 c.if-not-are_few.false)
