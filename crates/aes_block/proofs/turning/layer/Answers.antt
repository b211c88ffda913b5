use Rattle.std.proofs.Common.{◌≡◌, ℕ, ◌+◌, ◌-◌, ◌*◌, ◌/◌, ◌%◌, ◌<◌, List, [], ◌∷◌, length, arith}
use Rattle.std.proofs.lemmas.List.{get_or_default}
use Rattle.aes_block.specs.Planes.{bit, plane}
use Rattle.aes_block.proofs.Exchanged.{of_layer-high, of_layer-low}
use Rattle.aes_block.proofs.Positions.{at_eight}
use Rattle.aes_block.proofs.turning.layer.Goals as goal

pub returns : goal.returns
returns c r column i m low_i low_m =
    let planes = c.args.planes in
    let n = c.args.n in
    let long : length c.args.planes ≡ 8 = omega arith in
    let item = λ (s : ℕ) (d : List ℕ) (h : s < 8). get_or_default c.args.planes s d [] (omega (arith, long, h)) in
    let a = item 0 c.index-planes-0.result (omega arith) in
    let b = item 1 c.index-planes-1.result (omega arith) in
    let d = item 2 c.index-planes-2.result (omega arith) in
    let e = item 3 c.index-planes-3.result (omega arith) in
    let f = item 4 c.index-planes-4.result (omega arith) in
    let g = item 5 c.index-planes-5.result (omega arith) in
    let h = item 6 c.index-planes-6.result (omega arith) in
    let k = item 7 c.index-planes-7.result (omega arith) in
    at_eight (λ m. bit (plane (c.exchanged-a.result.0 ∷ c.exchanged-a.result.1 ∷ c.exchanged-b.result.0 ∷ c.exchanged-b.result.1
    ∷ c.exchanged-c.result.0 ∷ c.exchanged-c.result.1 ∷ c.exchanged-d.result.0 ∷ c.exchanged-d.result.1 ∷ []) m) r column i
    ≡ bit (plane c.args.planes (m / 2 + 4 * (i / c.args.n % 2))) r column (i - i / c.args.n % 2 * c.args.n + m % 2 * c.args.n))
    (of_layer-low planes 0 n r column i _ _ c.exchanged-a.result.0 a f (c.exchanged-a.ensures.low r column i low_i))
    (of_layer-high planes 0 n r column i _ _ c.exchanged-a.result.1 a f (c.exchanged-a.ensures.high r column i low_i))
    (of_layer-low planes 1 n r column i _ _ c.exchanged-b.result.0 b g (c.exchanged-b.ensures.low r column i low_i))
    (of_layer-high planes 1 n r column i _ _ c.exchanged-b.result.1 b g (c.exchanged-b.ensures.high r column i low_i))
    (of_layer-low planes 2 n r column i _ _ c.exchanged-c.result.0 d h (c.exchanged-c.ensures.low r column i low_i))
    (of_layer-high planes 2 n r column i _ _ c.exchanged-c.result.1 d h (c.exchanged-c.ensures.high r column i low_i))
    (of_layer-low planes 3 n r column i _ _ c.exchanged-d.result.0 e k (c.exchanged-d.ensures.low r column i low_i))
    (of_layer-high planes 3 n r column i _ _ c.exchanged-d.result.1 e k (c.exchanged-d.ensures.high r column i low_i))
    m low_m
