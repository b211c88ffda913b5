-- Values of column keys that are the same: of one path and the same wrapped bytes.
use Rattle.std.specs.Prelude.{◌≡◌, Bool, true, false, ◌&&◌, refl}
use Rattle.std.specs.Cmp.{IsEquivalence}
use Rattle.std.specs.Cmp.Lexicographic.{nat_list_eq_equiv}
use Rattle.std.specs.Str.{bytes_eq}
use Rattle.std.proofs.Common.{ap, ◌∙◌}
use Rattle.ae_base.specs.declared.key_values.KeyValue.{KeyValue}

abbrev pub same_value : KeyValue → KeyValue → Bool
same_value a b = bytes_eq a.path b.path && bytes_eq a.wrapped b.wrapped

both : (a b : Bool) → a ≡ true → b ≡ true → (a && b) ≡ true
both a b s t = cc

pub parts : (a b : Bool) → (a && b) ≡ true → (a ≡ true) × (b ≡ true)
parts true b t = (refl, t)
parts false b t = cc

pub same_value-is_equivalence : IsEquivalence same_value
same_value-is_equivalence = record {
  refl = λ x. both (bytes_eq x.path x.path) (bytes_eq x.wrapped x.wrapped) (nat_list_eq_equiv.refl x.path) (nat_list_eq_equiv.refl x.wrapped);
  symm = λ x y. ap (λ b. b && bytes_eq x.wrapped y.wrapped) (nat_list_eq_equiv.symm x.path y.path) ∙ ap (λ b. bytes_eq y.path x.path && b) (nat_list_eq_equiv.symm x.wrapped y.wrapped);
  congr = λ x y z t.
      let p = parts (bytes_eq x.path y.path) (bytes_eq x.wrapped y.wrapped) t in
      ap (λ b. b && bytes_eq x.wrapped z.wrapped) (nat_list_eq_equiv.congr x.path y.path z.path p.0)
      ∙ ap (λ b. bytes_eq y.path z.path && b) (nat_list_eq_equiv.congr x.wrapped y.wrapped z.wrapped p.1);
}
