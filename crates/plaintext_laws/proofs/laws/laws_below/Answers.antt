use Rattle.plaintext_laws.proofs.laws.laws_below.Goals as goal

pub returns : goal.returns
returns c = record {
  bound = c.bound_statements_are.ensures;
  prepared = c.prepared_alone.ensures;
  typings = c.typings_are_of_columns.ensures;
  admitted = c.typed_statements_are_admitted.ensures;
  keeps_stores = c.transactions_keep_stores.ensures;
  simulates = c.transactions_simulate.ensures;
  catalogs = c.definitions_keep_catalogs.ensures;
  texts = c.texts_are_proper.ensures;
  proper = c.proper_values_stay.ensures;
  seals = record {
    opened = c.opened_are_keys.ensures.derived;
    whole = c.opened_are_keys.ensures.whole;
    back = c.sealing_is_read_back.ensures.randomized;
    cell = c.sealing_makes_cells.ensures.cell;
    shape = c.sealing_makes_cells.ensures.shape;
    derived = c.derived_keys_are_keys.ensures.keys;
    vector = c.derived_keys_are_keys.ensures.iv;
    bounded = c.norm_is_bounded.ensures;
    the_one = c.value_of_is_the_one.ensures;
  };
}
