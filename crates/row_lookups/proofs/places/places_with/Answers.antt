-- The places that the table has for the key, unless it has a NULL.
use Rattle.std.proofs.Common.{◌≡◌, ◌++◌, List, ℕ, map, ap, sym, subst, ◌∙◌}
use Rattle.std.specs.Prelude.{OnOk}
use Rattle.std.proofs.lemmas.List.{append-nil}
use Rattle.ae_base.specs.Atoms.{Atom}
use Rattle.operators.specs.Alike.{key_of}
use Rattle.indexed_tables.specs.Tables.{places_from}
use Rattle.hash_joins.specs.Keyed.{no_nulls}
use Rattle.row_lookups.proofs.Finding.{has_none, has_null, index_places, null_places}
use Rattle.row_lookups.proofs.places.places_with.Goals as goal

pub returns-then-has_null : goal.returns-then-has_null
returns-then-has_null g c =
    let before = c.args.places.now.items in
    let none = null_places c.args.columns.now c.args.key.now c.args.table.now.rows (has_null c.has_null.result (no_nulls c.args.key.now) c.has_null.ensures c.if-has_null.true) in
    sym (append-nil before) ∙ ap (λ l. before ++ l) none

pub returns : goal.returns
returns g c =
    let before = c.args.places.now.items in
    let rows = c.args.table.now.rows in
    let same =
    ap (λ (key : List Atom). places_from 0 key (map (key_of c.args.columns.now) rows)) c.in_ok-key.ensures
    ∙ index_places c.args.columns.now c.args.key.now rows (has_none c.has_null.result (no_nulls c.args.key.now) c.has_null.ensures c.if-has_null.false) in
    subst (λ (l : List ℕ). OnOk c.places_with.result (c.places_with.new.places.items ≡ before ++ l)) same c.places_with.ensures
