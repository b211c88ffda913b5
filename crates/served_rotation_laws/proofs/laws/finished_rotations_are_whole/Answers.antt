use Rattle.served_rotation_laws.proofs.Whole.{whole}
use Rattle.served_rotation_laws.proofs.laws.finished_rotations_are_whole.Goals as goal

pub returns : goal.returns
returns c =
    whole c.proper_tables_stay.ensures c.texts_parse.ensures c.begins_commits_and_rolls_back.ensures
    c.reading_is_whole.ensures c.putting_is_an_insert.ensures c.replacing_is_replacement.ensures c.rotation_texts_mean.ensures
    c.requests_may_be_asked.ensures c.rotations_are_whole.ensures (record { stays = c.proper_values_stay.ensures; texts = c.texts_are_proper.ensures })
    (record {
      opened = c.opened_are_keys.ensures.derived;
      whole = c.opened_are_keys.ensures.whole;
      back = c.sealing_is_read_back.ensures.randomized;
      keys = c.derived_keys_are_keys.ensures.keys;
      vector = c.derived_keys_are_keys.ensures.iv;
      bounded = c.norm_is_bounded.ensures;
    })
    c.value_of_is_the_one.ensures
