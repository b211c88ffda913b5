use Rattle.std.proofs.Common.{◌≡◌, arith, length, refl, rules}
use Rattle.aes_block.specs.InvSbox.{left_factors}
use Rattle.aes_block.specs.Planes.{bits}
use Rattle.aes_block.proofs.Items.{item}
use Rattle.aes_block.proofs.inv_sbox.left_factors.Goals as goal

pub returns : goal.returns
unfolding bits left_factors
returns c r c' j =
    let long_planes : length c.args.planes ≡ 8 = search rules in
    rw (
      c.bitxor-t4.ensures r c' j,
      c.bitxor-t20.ensures r c' j,
      c.bitxor-r13.ensures r c' j,
      c.bitxor-t3.ensures r c' j,
      c.bitxor-t13.ensures r c' j,
      c.bitxor-t19.ensures r c' j,
      c.bitxor-t8.ensures r c' j,
      c.bitxor-r5.ensures r c' j,
      c.bitxor-t24.ensures r c' j,
      c.bitxor-t1.ensures r c' j,
      c.bitxor-t2.ensures r c' j,
      c.bitxor-t22.ensures r c' j,
      c.bitxor-t23.ensures r c' j,
      item c.args.planes 0 8 c.index-planes-0.result long_planes (omega arith),
      item c.args.planes 1 8 c.index-planes-1.result long_planes (omega arith),
      item c.args.planes 3 8 c.index-planes-3.result long_planes (omega arith),
      item c.args.planes 4 8 c.index-planes-4.result long_planes (omega arith),
      item c.args.planes 6 8 c.index-planes-6.result long_planes (omega arith),
      item c.args.planes 7 8 c.index-planes-7.result long_planes (omega arith),
    )
    refl
