-- The rows are lent to the indexes, with the numbers that they will have.
use Rattle.std.proofs.Common.{◌≡◌, ◌++◌, ℕ, List, [], length, map, arith, ap, subst, sym, ◌∙◌}
use Rattle.std.proofs.lemmas.List.{length-map}
use Rattle.ae_base.specs.Atoms.{Atom}
use Rattle.row_store.specs.Numbers.{counted}
use Rattle.row_store.proofs.Interface.{counted_long}
use Rattle.unique_keys.specs.Indexes.{AreExchanged}
use Rattle.indexed_tables.proofs.Exchanging.{none_goes, put_in}
use Rattle.indexed_tables.proofs.exchanges.put_in.Goals as goal

pub exchange-requires-clause-rising : goal.exchange-requires-clause-rising
exchange-requires-clause-rising g c = (0, rw (c.as_slice.ensures, c.new-none.ensures) (omega arith))

pub exchange-requires-clause-each : goal.exchange-requires-clause-each
exchange-requires-clause-each g c =
    let same : map (λ row. row.now) c.as_slice-4.result.now ≡ c.args.rows.now =
    ap (map (λ row. row.now)) c.as_slice-4.ensures ∙ c.in_ok-lend_each.ensures ∙ ap (λ l. map (λ row. row.now) l ++ c.args.rows.now) c.new-lent.ensures in
    ap length (c.as_slice-3.ensures.value ∙ c.in_ok-numbers.ensures.numbers) ∙ counted_long c.args.stored.now.next (length c.args.rows.now)
    ∙ sym (sym (length-map c.as_slice-4.result.now (λ row. row.now)) ∙ ap length same)

pub returns : goal.returns
returns g c =
    let t = c.args.stored.now in
    let rows = c.args.rows.now in
    let before = c.args.indexes.now.items in
    let after = c.exchange.new.indexes.items in
    let their : c.as_slice-3.result.now ≡ counted t.next (length rows) = c.as_slice-3.ensures.value ∙ c.in_ok-numbers.ensures.numbers in
    let same : map (λ row. row.now) c.as_slice-4.result.now ≡ rows =
    ap (map (λ row. row.now)) c.as_slice-4.ensures ∙ c.in_ok-lend_each.ensures ∙ ap (λ l. map (λ row. row.now) l ++ rows) c.new-lent.ensures in
    let e = c.exchange.ensures t.numbers t.rows [] t.next c.in_ok-numbers.ensures.each c.in_ok-numbers.ensures.rising c.requires.indexed c.requires.distinct
    (c.as_slice.ensures ∙ c.new-none.ensures ∙ none_goes t.numbers) (none_goes t.rows) in
    let p = put_in t.numbers t.rows (counted t.next (length rows)) rows c.exchange.result before after
    (subst (λ (ns : List ℕ). AreExchanged t.numbers t.rows [] ns rows c.exchange.result before after) their
    (subst (λ (rs : List (List Atom)). AreExchanged t.numbers t.rows [] c.as_slice-3.result.now rs c.exchange.result before after) same e)) in
    record { keys = p.keys; answer = p.answer; indexed = p.indexed }
