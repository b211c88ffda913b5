-- The circuit of Boyar and Peralta for the inverse S-box ("A depth-16 circuit for the AES S-box", 2012), on bits, a list of
-- them from bit 0 up. The names are its authors': u0 is bit 7 of the byte, and w0 bit 7 of the result.
use Rattle.std.specs.Prelude.{ℕ, ◌+◌, ◌%◌, List, [], ◌∷◌, map, min, slice_index}
use Rattle.std.specs.List.{range_with_len}

-- what `^` makes of two bits
abbrev sum : ℕ → ℕ → ℕ
sum x y = (x + y) % 2

-- the left factors of the nine products: sums of bits of the byte
unfoldable pub left_factors : List ℕ → List ℕ
left_factors (u7 ∷ u6 ∷ _ ∷ u4 ∷ u3 ∷ _ ∷ u1 ∷ u0 ∷ []) =
    let t23 : ℕ = sum u0 u3 in
    let t22 : ℕ = sum u1 u3 in
    let t2 : ℕ = sum u0 u1 in
    let t1 : ℕ = sum u3 u4 in
    let t24 : ℕ = sum u4 u7 in
    let r5 : ℕ = sum u6 u7 in
    let t8 : ℕ = sum u1 t23 in
    let t19 : ℕ = sum t22 r5 in
    let t13 : ℕ = sum t2 r5 in
    let t3 : ℕ = sum t1 r5 in
    let r13 : ℕ = sum u1 u6 in
    let t20 : ℕ = sum t24 r13 in
    let t4 : ℕ = sum u4 t8 in
    t13 ∷ t23 ∷ t19 ∷ t3 ∷ t22 ∷ t20 ∷ t1 ∷ t4 ∷ t2 ∷ []
left_factors _ = []

-- the right factors
unfoldable pub right_factors : List ℕ → List ℕ → List ℕ
right_factors (u7 ∷ u6 ∷ u5 ∷ u4 ∷ _ ∷ u2 ∷ u1 ∷ u0 ∷ []) (_ ∷ t23 ∷ t19 ∷ _ ∷ t22 ∷ _ ∷ t1 ∷ _ ∷ t2 ∷ []) =
    let t24 : ℕ = sum u4 u7 in
    let t8 : ℕ = sum u1 t23 in
    let t9 : ℕ = sum u7 t1 in
    let t10 : ℕ = sum t2 t24 in
    let r13 : ℕ = sum u1 u6 in
    let t17 : ℕ = sum u2 t19 in
    let r17 : ℕ = sum u2 u5 in
    let r18 : ℕ = sum u5 u6 in
    let r19 : ℕ = sum u2 u4 in
    let y5 : ℕ = sum u0 r17 in
    let t6 : ℕ = sum t22 r17 in
    let t16 : ℕ = sum r13 r19 in
    let t27 : ℕ = sum t1 r18 in
    let t15 : ℕ = sum t10 t27 in
    t6 ∷ t8 ∷ y5 ∷ t16 ∷ t9 ∷ t17 ∷ t15 ∷ t27 ∷ t10 ∷ []
right_factors _ _ = []

-- what the norm adds to the nine products
unfoldable pub addends : List ℕ → List ℕ → List ℕ → List ℕ
addends (u7 ∷ u6 ∷ u5 ∷ u4 ∷ _ ∷ u2 ∷ _ ∷ _ ∷ []) (_ ∷ _ ∷ _ ∷ t3 ∷ _ ∷ _ ∷ t1 ∷ _ ∷ _ ∷ []) (_ ∷ _ ∷ _ ∷ t16 ∷ _ ∷ _ ∷ _ ∷ _ ∷ t10 ∷ []) =
    let t24 : ℕ = sum u4 u7 in
    let t25 : ℕ = sum u2 t1 in
    let r18 : ℕ = sum u5 u6 in
    let t14 : ℕ = sum t10 r18 in
    let t26 : ℕ = sum t3 t16 in
    t14 ∷ t24 ∷ t26 ∷ t25 ∷ []
addends _ _ _ = []

-- nine products
unfoldable pub products : List ℕ → List ℕ → List ℕ
products left right = map (λ i. min (slice_index left i) (slice_index right i)) (range_with_len 0 9)

-- the norm of the byte in the field of 16 elements, by the nine products of its factors
unfoldable pub norm : List ℕ → List ℕ → List ℕ
norm (m1 ∷ m2 ∷ m4 ∷ m6 ∷ m7 ∷ m9 ∷ m11 ∷ m12 ∷ m14 ∷ []) (t14 ∷ t24 ∷ t26 ∷ t25 ∷ []) =
    let m3 : ℕ = sum t14 m1 in
    let m5 : ℕ = sum m4 m1 in
    let m8 : ℕ = sum t26 m6 in
    let m10 : ℕ = sum m9 m6 in
    let m13 : ℕ = sum m12 m11 in
    let m15 : ℕ = sum m14 m11 in
    let m16 : ℕ = sum m3 m2 in
    let m17 : ℕ = sum m5 t24 in
    let m18 : ℕ = sum m8 m7 in
    let m19 : ℕ = sum m10 m15 in
    let m20 : ℕ = sum m16 m13 in
    let m21 : ℕ = sum m17 m15 in
    let m22 : ℕ = sum m18 m13 in
    let m23 : ℕ = sum m19 t25 in
    m20 ∷ m21 ∷ m22 ∷ m23 ∷ []
norm _ _ = []

-- the inverse in that field, and 0 of 0
unfoldable pub norm_inverse : List ℕ → List ℕ
norm_inverse (m20 ∷ m21 ∷ m22 ∷ m23 ∷ []) =
    let m24 : ℕ = sum m22 m23 in
    let m25 : ℕ = min m22 m20 in
    let m26 : ℕ = sum m21 m25 in
    let m27 : ℕ = sum m20 m21 in
    let m28 : ℕ = sum m23 m25 in
    let m29 : ℕ = min m28 m27 in
    let m30 : ℕ = min m26 m24 in
    let m31 : ℕ = min m20 m23 in
    let m32 : ℕ = min m27 m31 in
    let m33 : ℕ = sum m27 m25 in
    let m34 : ℕ = min m21 m22 in
    let m35 : ℕ = min m24 m34 in
    let m36 : ℕ = sum m24 m25 in
    let m37 : ℕ = sum m21 m29 in
    let m38 : ℕ = sum m32 m33 in
    let m39 : ℕ = sum m23 m30 in
    let m40 : ℕ = sum m35 m36 in
    m37 ∷ m38 ∷ m39 ∷ m40 ∷ []
norm_inverse _ = []

-- what the factors are multiplied by at last
unfoldable pub multipliers : List ℕ → List ℕ
multipliers (m37 ∷ m38 ∷ m39 ∷ m40 ∷ []) =
    let m41 : ℕ = sum m38 m40 in
    let m42 : ℕ = sum m37 m39 in
    let m43 : ℕ = sum m37 m38 in
    let m44 : ℕ = sum m39 m40 in
    let m45 : ℕ = sum m42 m41 in
    m44 ∷ m40 ∷ m39 ∷ m43 ∷ m38 ∷ m37 ∷ m42 ∷ m45 ∷ m41 ∷ []
multipliers _ = []

-- sums of the last products that several planes of the result share
unfoldable pub shared_sums : List ℕ → List ℕ → List ℕ
shared_sums (m46 ∷ m47 ∷ m48 ∷ m49 ∷ m50 ∷ m51 ∷ m52 ∷ _ ∷ m54 ∷ []) (_ ∷ m56 ∷ m57 ∷ m58 ∷ m59 ∷ m60 ∷ m61 ∷ m62 ∷ _ ∷ []) =
    let p0 : ℕ = sum m52 m61 in
    let p1 : ℕ = sum m58 m59 in
    let p2 : ℕ = sum m54 m62 in
    let p3 : ℕ = sum m47 m50 in
    let p4 : ℕ = sum m48 m56 in
    let p5 : ℕ = sum m46 m51 in
    let p6 : ℕ = sum m49 m60 in
    let p7 : ℕ = sum p0 p1 in
    let p10 : ℕ = sum m57 p4 in
    let p11 : ℕ = sum p0 p3 in
    p0 ∷ p2 ∷ p3 ∷ p4 ∷ p5 ∷ p6 ∷ p7 ∷ p10 ∷ p11 ∷ []
shared_sums _ _ = []

-- planes 1, 2, 4 and 7 of the result
unfoldable pub four_planes : List ℕ → List ℕ → List ℕ → List ℕ
four_planes (m46 ∷ _ ∷ m48 ∷ m49 ∷ m50 ∷ m51 ∷ _ ∷ m53 ∷ _ ∷ []) (_ ∷ _ ∷ _ ∷ _ ∷ _ ∷ _ ∷ _ ∷ m62 ∷ _ ∷ []) (_ ∷ p2 ∷ p3 ∷ _ ∷ p5 ∷ _ ∷ p7 ∷ _ ∷ _ ∷ []) =
    let p8 : ℕ = sum m50 m53 in
    let p12 : ℕ = sum m46 m48 in
    let p13 : ℕ = sum m49 m51 in
    let p14 : ℕ = sum m49 m62 in
    let p19 : ℕ = sum p2 p3 in
    let p22 : ℕ = sum p2 p7 in
    let p23 : ℕ = sum p7 p8 in
    let p24 : ℕ = sum p5 p7 in
    let w0 : ℕ = sum p13 p22 in
    let w3 : ℕ = sum p12 p22 in
    let w5 : ℕ = sum p19 p24 in
    let w6 : ℕ = sum p14 p23 in
    w6 ∷ w5 ∷ w3 ∷ w0 ∷ []
four_planes _ _ _ = []

-- all planes of the result, of which four are those
unfoldable pub all_planes : List ℕ → List ℕ → List ℕ → List ℕ → List ℕ
all_planes (_ ∷ _ ∷ _ ∷ _ ∷ m50 ∷ _ ∷ _ ∷ m53 ∷ m54 ∷ []) (m55 ∷ _ ∷ m57 ∷ m58 ∷ m59 ∷ _ ∷ m61 ∷ _ ∷ m63 ∷ []) (_ ∷ p2 ∷ _ ∷ p4 ∷ p5 ∷ p6 ∷ p7 ∷ p10 ∷ p11 ∷ []) (w6 ∷ w5 ∷ w3 ∷ w0 ∷ []) =
    let p8 : ℕ = sum m50 m53 in
    let p9 : ℕ = sum m55 m63 in
    let p15 : ℕ = sum m54 m59 in
    let p16 : ℕ = sum m57 m61 in
    let p17 : ℕ = sum m58 p2 in
    let p18 : ℕ = sum m63 p5 in
    let p20 : ℕ = sum p4 p6 in
    let p23 : ℕ = sum p7 p8 in
    let p25 : ℕ = sum p6 p10 in
    let p26 : ℕ = sum p9 p11 in
    let p27 : ℕ = sum p10 p18 in
    let p28 : ℕ = sum p11 p25 in
    let p29 : ℕ = sum p15 p20 in
    let w1 : ℕ = sum p26 p29 in
    let w2 : ℕ = sum p17 p28 in
    let w4 : ℕ = sum p23 p27 in
    let w7 : ℕ = sum p9 p16 in
    w7 ∷ w6 ∷ w5 ∷ w4 ∷ w3 ∷ w2 ∷ w1 ∷ w0 ∷ []
all_planes _ _ _ _ = []

-- the circuit
unfoldable pub circuit : List ℕ → List ℕ
circuit byte =
    let left : List ℕ = left_factors byte in
    let right : List ℕ = right_factors byte left in
    let factors : List ℕ = multipliers (norm_inverse (norm (products left right) (addends byte left right))) in
    let right_products : List ℕ = products factors right in
    let left_products : List ℕ = products factors left in
    let shared : List ℕ = shared_sums right_products left_products in
    all_planes right_products left_products shared (four_planes right_products left_products shared)
