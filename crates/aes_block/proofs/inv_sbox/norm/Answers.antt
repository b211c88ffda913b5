use Rattle.std.proofs.Common.{◌≡◌, arith, length, refl, rules}
use Rattle.aes_block.specs.InvSbox.{norm}
use Rattle.aes_block.specs.Planes.{bits}
use Rattle.aes_block.proofs.Items.{item}
use Rattle.aes_block.proofs.inv_sbox.norm.Goals as goal

pub returns : goal.returns
unfolding bits norm
returns c r c' j =
    let long_products : length c.args.products ≡ 9 = search rules in
    let long_addends : length c.args.addends ≡ 4 = search rules in
    rw (
      c.bitxor-m23.ensures r c' j,
      c.bitxor-m22.ensures r c' j,
      c.bitxor-m21.ensures r c' j,
      c.bitxor-m20.ensures r c' j,
      c.bitxor-m19.ensures r c' j,
      c.bitxor-m18.ensures r c' j,
      c.bitxor-m17.ensures r c' j,
      c.bitxor-m16.ensures r c' j,
      c.bitxor-m15.ensures r c' j,
      c.bitxor-m13.ensures r c' j,
      c.bitxor-m10.ensures r c' j,
      c.bitxor-m8.ensures r c' j,
      c.bitxor-m5.ensures r c' j,
      c.bitxor-m3.ensures r c' j,
      item c.args.products 0 9 c.index-products-0.result long_products (omega arith),
      item c.args.products 1 9 c.index-products-1.result long_products (omega arith),
      item c.args.products 2 9 c.index-products-2.result long_products (omega arith),
      item c.args.products 3 9 c.index-products-3.result long_products (omega arith),
      item c.args.products 4 9 c.index-products-4.result long_products (omega arith),
      item c.args.products 5 9 c.index-products-5.result long_products (omega arith),
      item c.args.products 6 9 c.index-products-6.result long_products (omega arith),
      item c.args.products 7 9 c.index-products-7.result long_products (omega arith),
      item c.args.products 8 9 c.index-products-8.result long_products (omega arith),
      item c.args.addends 0 4 c.index-addends-0.result long_addends (omega arith),
      item c.args.addends 1 4 c.index-addends-1.result long_addends (omega arith),
      item c.args.addends 2 4 c.index-addends-2.result long_addends (omega arith),
      item c.args.addends 3 4 c.index-addends-3.result long_addends (omega arith),
    )
    refl
