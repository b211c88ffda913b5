use Rattle.std.proofs.Common.{◌≡◌, ◌∙◌, [], arith, refl, rules, inl, inr}
use Rattle.std.proofs.lemmas.Bool.{cases_lt}
use Rattle.std.proofs.lemmas.List.{get_or-set_same, get_or-set_other}
use Rattle.aes_block.proofs.round_keys.round_keys.Goals as goal

pub loop-round-init : goal.loop-round-init
loop-round-init c = record {
  long = refl;
  so_far = λ k j none low. absurd (omega arith);
}

pub loop-round-preserved : goal.loop-round-preserved
loop-round-preserved c = record {
  long = search rules;
  so_far = λ k j in_range low. elim (cases_lt k c.loop-round.round) [
    | inl below ↦
        rw (get_or-set_other c.loop-round.keys c.loop-round.round k c.key_planes.result [] (omega arith))
        (c.loop-round.invariant.so_far k j below low)
    | inr from ↦
        let same : k ≡ c.loop-round.round = omega arith in
        rw (same, get_or-set_same c.loop-round.keys c.loop-round.round c.key_planes.result [] (omega (arith, c.loop-round.invariant.long)))
        (c.key_planes.ensures j low
        ∙ c.masked_key.ensures)
  ];
}

pub returns : goal.returns
returns c round j in_keys low = c.loop-round.invariant.so_far round j (omega arith) low
