-- What was used before stands at the front.
use Rattle.std.proofs.Common.{◌≡◌, [], ◌∷◌, length, take, ap, ◌∙◌}
use Rattle.transactions.proofs.Noting.{noted_front, front_trans}
use Rattle.transactions.proofs.uses.note_some.Goals as goal

pub returns-in_ok-note-in-Select-clause-front : goal.returns-in_ok-note-in-Select-clause-front
returns-in_ok-note-in-Select-clause-front g c =
    let old = c.args.used.now.items in
    let one = c.note-in-Select.new.used.items in
    let first : take (length old) one ≡ old = ap (take (length old)) c.in_ok-note-in-Select.ensures.ok ∙ noted_front c.args.own.now (c.in-Select.query.from.table ∷ []) old in
    front_trans old one c.note_joins.new.used.items first c.note_joins.ensures.front
