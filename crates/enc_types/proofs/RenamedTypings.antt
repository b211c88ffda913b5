-- The typings of renamed rules are those of the rules, renamed.
use Rattle.std.proofs.Common.{◌≡◌, ℕ, List, [], ◌∷◌, ◌++◌, map, refl, ap, sym, ◌∙◌, Some, Bool, true, false, cond, ◌&&◌, ◌||◌, unwrap_or}
use Rattle.std.specs.List.{list_all, slice_get}
use Rattle.std.proofs.lemmas.List.{map-append}
use Rattle.std.proofs.lemmas.Bool.Decides.{same_from_decides}
use Rattle.ae_base.specs.declared.types.Ty.{Ty}
use Rattle.ae_base.specs.declared.types.Enc.TheVariants.{Plain}
use Rattle.sql_tree.specs.declared.bound.ColumnSite.{ColumnSite}
use Rattle.enc_types.specs.SiteLaws.{site_eq, site_eq-Decides}
use Rattle.enc_types.specs.Rules.{at_of}
use Rattle.enc_types.specs.Typing.{fixed, type_of, are_alike, enc_eq, is_plain, isnt_rnd, Typing, holds}
use Rattle.enc_types.specs.Least.{is_open, Classes, moved, joined, classes_from, least, has_typing, clash_behind}
use Rattle.enc_types.specs.Renamed.{renamed_site, renamed_rule}
use Rattle.enc_types.specs.declared.sites.Site.{Site}
use Rattle.enc_types.specs.declared.sites.Site.TheVariants.{Column, Param, Null, Fixed}
use Rattle.enc_types.specs.declared.rules.Rule.{Rule}
use Rattle.enc_types.specs.declared.rules.Rule.TheVariants.{Same, NotRnd, PlainOnly}
use Rattle.enc_types.proofs.Renaming.{at_renamed}

-- the parameters of some places alone stand in these
abbrev pub KnownSite : (ℕ → Type 0) → Site → Type 0
KnownSite K (Column i) = Unit {0}
KnownSite K (Param p) = K p
KnownSite K (Null at) = Unit {0}
KnownSite K Fixed = Unit {0}

abbrev pub KnownRule : (ℕ → Type 0) → Rule → Type 0
KnownRule K (Same x y at) = KnownSite K x × KnownSite K y
KnownRule K (NotRnd x at) = KnownSite K x
KnownRule K (PlainOnly x at) = KnownSite K x

abbrev pub AllKnown : (ℕ → Type 0) → List Rule → Type 0
AllKnown K [] = Unit {0}
AllKnown K (rule ∷ rules) = KnownRule K rule × AllKnown K rules

pub known_both : (K : ℕ → Type 0) (xs ys : List Rule) → AllKnown K xs → AllKnown K ys → AllKnown K (xs ++ ys)
known_both K [] ys h k = k
known_both K (x ∷ xs) ys h k = (h.0, known_both K xs ys h.1 k)

module _ (f g : ℕ → ℕ) (params others : List Ty) (columns : List ColumnSite) (K : ℕ → Type 0)
    (back : (p : ℕ) → K p → g (f p) ≡ p) (types : (p : ℕ) → K p → slice_get others (f p) ≡ slice_get params p) where
  there_and_back : (s : Site) → KnownSite K s → renamed_site g (renamed_site f s) ≡ s
  there_and_back (Column i) k = refl
  there_and_back (Param p) k = ap Param (back p k)
  there_and_back (Null at) k = refl
  there_and_back Fixed k = refl

  eq_renamed : (s a : Site) → KnownSite K s → KnownSite K a → site_eq (renamed_site f s) (renamed_site f a) ≡ site_eq s a
  eq_renamed s a k l =
      same_from_decides {P = s ≡ a} _ _ (
        (λ e. sym (there_and_back s k) ∙ ap (renamed_site g) ((site_eq-Decides (renamed_site f s) (renamed_site f a)).0 e) ∙ there_and_back a l),
        (λ e. (site_eq-Decides (renamed_site f s) (renamed_site f a)).1 (ap (renamed_site f) e)),
      )
      (site_eq-Decides s a)

  open_renamed : (s : Site) → is_open (renamed_site f s) ≡ is_open s
  open_renamed (Column i) = refl
  open_renamed (Param p) = refl
  open_renamed (Null at) = refl
  open_renamed Fixed = refl

  fixed_renamed : (s : Site) → fixed columns (renamed_site f s) ≡ fixed columns s
  fixed_renamed (Column i) = refl
  fixed_renamed (Param p) = refl
  fixed_renamed (Null at) = refl
  fixed_renamed Fixed = refl

  type_renamed : (s : Site) → KnownSite K s → type_of others columns (renamed_site f s) ≡ type_of params columns s
  type_renamed (Column i) k = refl
  type_renamed (Param p) k = types p k
  type_renamed (Null at) k = refl
  type_renamed Fixed k = refl

  moved_renamed : (from to s : Site) → KnownSite K from → KnownSite K s → moved (renamed_site f from) (renamed_site f to) (renamed_site f s) ≡ renamed_site f (moved from to s)
  moved_renamed from to s k l = ap (λ b. cond b (renamed_site f to) (renamed_site f s)) (eq_renamed s from l k) ∙ go (site_eq s from)
    where
      go : (b : Bool) → cond b (renamed_site f to) (renamed_site f s) ≡ renamed_site f (cond b to s)
      go true = refl
      go false = refl

  joined_renamed : (a b s : Site) → KnownSite K a → KnownSite K b → KnownSite K s → joined (renamed_site f a) (renamed_site f b) (renamed_site f s) ≡ renamed_site f (joined a b s)
  joined_renamed a b s k l m =
      ap (λ z. cond z (moved (renamed_site f a) (renamed_site f b) (renamed_site f s))
      (cond (is_open (renamed_site f b)) (moved (renamed_site f b) (renamed_site f a) (renamed_site f s)) (renamed_site f s))) (open_renamed a)
      ∙ ap (λ z. cond (is_open a) (moved (renamed_site f a) (renamed_site f b) (renamed_site f s))
      (cond z (moved (renamed_site f b) (renamed_site f a) (renamed_site f s)) (renamed_site f s))) (open_renamed b)
      ∙ go (is_open a) (is_open b)
    where
      go : (p q : Bool) → cond p (moved (renamed_site f a) (renamed_site f b) (renamed_site f s)) (cond q (moved (renamed_site f b) (renamed_site f a) (renamed_site f s)) (renamed_site f s))
          ≡ renamed_site f (cond p (moved a b s) (cond q (moved b a s) s))
      go true q = moved_renamed a b s k m
      go false true = moved_renamed b a s l m
      go false false = refl

  joined_known : (a b s : Site) → KnownSite K a → KnownSite K b → KnownSite K s → KnownSite K (joined a b s)
  joined_known a b s k l m = go (is_open a) (is_open b) (site_eq s a) (site_eq s b)
    where
      go : (p q u v : Bool) → KnownSite K (cond p (cond u b s) (cond q (cond v a s) s))
      go true q true v = l
      go true q false v = m
      go false true u true = k
      go false true u false = m
      go false false u v = m

  abbrev Related : Classes → Classes → Type 0
  Related classes next = (s : Site) → KnownSite K s → (next (renamed_site f s) ≡ renamed_site f (classes s)) × KnownSite K (classes s)

  classes_renamed : (rules : List Rule) → AllKnown K rules → (classes next : Classes) → Related classes next → Related (classes_from classes rules) (classes_from next (map (renamed_rule f) rules))
  classes_renamed [] k classes next r = r
  classes_renamed (Same x y at ∷ rules) k classes next r =
      classes_renamed rules k.1 _ _ (λ s l.
      let a = r x k.0.0 in
      let b = r y k.0.1 in
      let c = r s l in (
        ap (λ z. joined z (next (renamed_site f y)) (next (renamed_site f s))) a.0
            ∙ ap (λ z. joined (renamed_site f (classes x)) z (next (renamed_site f s))) b.0
            ∙ ap (λ z. joined (renamed_site f (classes x)) (renamed_site f (classes y)) z) c.0
            ∙ joined_renamed (classes x) (classes y) (classes s) a.1 b.1 c.1,
        joined_known (classes x) (classes y) (classes s) a.1 b.1 c.1,
      ))
  classes_renamed (NotRnd x at ∷ rules) k classes next r = classes_renamed rules k.1 classes next r
  classes_renamed (PlainOnly x at ∷ rules) k classes next r = classes_renamed rules k.1 classes next r

  pub least_renamed : (rules : List Rule) → AllKnown K rules → (s : Site) → KnownSite K s → least columns (map (renamed_rule f) rules) (renamed_site f s) ≡ least columns rules s
  unfolding least
  least_renamed rules k s l =
      let r = classes_renamed rules k (λ z. z) (λ z. z) (λ z m. (refl, m)) s l in
      ap (λ z. unwrap_or (fixed columns z) Plain) r.0 ∙ ap (λ z. unwrap_or z Plain) (fixed_renamed (classes_from (λ z. z) rules s))

  module _ (typing next : Typing) (same : (s : Site) → KnownSite K s → next (renamed_site f s) ≡ typing s) where
    holds_renamed : (rule : Rule) → KnownRule K rule → holds others columns next (renamed_rule f rule) ≡ holds params columns typing rule
    holds_renamed (Same x y at) k =
        ap (λ z. enc_eq z (next (renamed_site f y)) && (is_plain z || are_alike (type_of others columns (renamed_site f x)) (type_of others columns (renamed_site f y)))) (same x k.0)
        ∙ ap (λ z. enc_eq (typing x) z && (is_plain (typing x) || are_alike (type_of others columns (renamed_site f x)) (type_of others columns (renamed_site f y)))) (same y k.1)
        ∙ ap (λ z. enc_eq (typing x) (typing y) && (is_plain (typing x) || are_alike z (type_of others columns (renamed_site f y)))) (type_renamed x k.0)
        ∙ ap (λ z. enc_eq (typing x) (typing y) && (is_plain (typing x) || are_alike (type_of params columns x) z)) (type_renamed y k.1)
    holds_renamed (NotRnd x at) k = ap isnt_rnd (same x k)
    holds_renamed (PlainOnly x at) k = ap is_plain (same x k)

    all_renamed : (rules : List Rule) → AllKnown K rules → list_all (holds others columns next) (map (renamed_rule f) rules) ≡ list_all (holds params columns typing) rules
    all_renamed [] k = refl
    all_renamed (rule ∷ rules) k =
        ap (λ z. z && list_all (holds others columns next) (map (renamed_rule f) rules)) (holds_renamed rule k.0) ∙ ap (λ z. holds params columns typing rule && z) (all_renamed rules k.1)

  typed_renamed : (rules : List Rule) → AllKnown K rules → has_typing others columns (map (renamed_rule f) rules) ≡ has_typing params columns rules
  unfolding has_typing
  typed_renamed rules k = all_renamed (least columns rules) (least columns (map (renamed_rule f) rules)) (least_renamed rules k) rules k

  pub clash_renamed : (before rules : List Rule) → AllKnown K before → AllKnown K rules
      → clash_behind others columns (map (renamed_rule f) before) (map (renamed_rule f) rules) ≡ clash_behind params columns before rules
  unfolding clash_behind
  clash_renamed before [] k l = refl
  clash_renamed before (rule ∷ rules) k l =
      let e : map (renamed_rule f) (before ++ rule ∷ []) ≡ map (renamed_rule f) before ++ renamed_rule f rule ∷ [] = map-append (renamed_rule f) before (rule ∷ []) in
      let more = known_both K before (rule ∷ []) k (l.0, tt) in
      ap (λ z. cond (has_typing others columns z) (clash_behind others columns z (map (renamed_rule f) rules)) (Some (at_of (renamed_rule f rule)))) (sym e)
      ∙ ap (λ z. cond z (clash_behind others columns (map (renamed_rule f) (before ++ rule ∷ [])) (map (renamed_rule f) rules)) (Some (at_of (renamed_rule f rule))))
      (typed_renamed (before ++ rule ∷ []) more)
      ∙ ap (λ z. cond (has_typing params columns (before ++ rule ∷ [])) z (Some (at_of (renamed_rule f rule)))) (clash_renamed (before ++ rule ∷ []) rules more l.1)
      ∙ ap (λ z. cond (has_typing params columns (before ++ rule ∷ [])) (clash_behind params columns (before ++ rule ∷ []) rules) (Some z)) (at_renamed f rule)
