use Rattle.std.proofs.Common.{◌≡◌, arith, length, refl, rules}
use Rattle.aes_block.specs.InvSbox.{multipliers}
use Rattle.aes_block.specs.Planes.{bits}
use Rattle.aes_block.proofs.Items.{item}
use Rattle.aes_block.proofs.inv_sbox.multipliers.Goals as goal

pub returns : goal.returns
unfolding bits multipliers
returns c r c' j =
    let long_inverse : length c.args.inverse ≡ 4 = search rules in
    rw (
      c.bitxor-m45.ensures r c' j,
      c.bitxor-m44.ensures r c' j,
      c.bitxor-m43.ensures r c' j,
      c.bitxor-m42.ensures r c' j,
      c.bitxor-m41.ensures r c' j,
      item c.args.inverse 0 4 c.index-inverse-0.result long_inverse (omega arith),
      item c.args.inverse 1 4 c.index-inverse-1.result long_inverse (omega arith),
      item c.args.inverse 2 4 c.index-inverse-2.result long_inverse (omega arith),
      item c.args.inverse 3 4 c.index-inverse-3.result long_inverse (omega arith),
    )
    refl
