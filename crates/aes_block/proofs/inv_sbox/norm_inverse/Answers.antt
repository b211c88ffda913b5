use Rattle.std.proofs.Common.{◌≡◌, arith, length, refl, rules}
use Rattle.aes_block.specs.InvSbox.{norm_inverse}
use Rattle.aes_block.specs.Planes.{bits}
use Rattle.aes_block.proofs.Items.{item}
use Rattle.aes_block.proofs.inv_sbox.norm_inverse.Goals as goal

pub returns : goal.returns
unfolding bits norm_inverse
returns c r c' j =
    let long_norm : length c.args.norm ≡ 4 = search rules in
    rw (
      c.bitxor-m40.ensures r c' j,
      c.bitxor-m39.ensures r c' j,
      c.bitxor-m38.ensures r c' j,
      c.bitxor-m37.ensures r c' j,
      c.bitxor-m36.ensures r c' j,
      c.bitand-m35.ensures r c' j,
      c.bitand-m34.ensures r c' j,
      c.bitxor-m33.ensures r c' j,
      c.bitand-m32.ensures r c' j,
      c.bitand-m31.ensures r c' j,
      c.bitand-m30.ensures r c' j,
      c.bitand-m29.ensures r c' j,
      c.bitxor-m28.ensures r c' j,
      c.bitxor-m27.ensures r c' j,
      c.bitxor-m26.ensures r c' j,
      c.bitand-m25.ensures r c' j,
      c.bitxor-m24.ensures r c' j,
      item c.args.norm 0 4 c.index-norm-0.result long_norm (omega arith),
      item c.args.norm 1 4 c.index-norm-1.result long_norm (omega arith),
      item c.args.norm 2 4 c.index-norm-2.result long_norm (omega arith),
      item c.args.norm 3 4 c.index-norm-3.result long_norm (omega arith),
    )
    refl
