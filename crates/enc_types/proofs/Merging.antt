-- The least typing is one wherever there is any, and every typing encrypts as it does.
use Rattle.std.proofs.Common.{◌≡◌, List, [], ◌∷◌, refl, ap, sym, ◌∙◌, Some, None, Bool, true, false, cond, ◌&&◌, ◌||◌, unwrap_or, ◌⊎◌, inl, inr}
use Rattle.std.specs.Bool.{Decides}
use Rattle.std.specs.List.{list_all}
use Rattle.std.proofs.lemmas.Bool.Decides.{Decides-eqb}
use Rattle.std.proofs.lemmas.Bool.{and_from}
use Rattle.ae_base.specs.declared.types.Ty.{Ty}
use Rattle.ae_base.specs.declared.types.Enc.{Enc}
use Rattle.ae_base.specs.declared.types.Enc.TheVariants.{Plain, Det, Rnd}
use Rattle.sql_tree.specs.declared.bound.ColumnSite.{ColumnSite}
use Rattle.enc_types.specs.SiteLaws.{site_eq, site_eq-Decides}
use Rattle.enc_types.specs.Typing.{fixed, enc_eq, is_plain, isnt_rnd, Typing, holds, Agrees, IsTyping, HasTyping, IsLeastTyping}
use Rattle.enc_types.specs.Least.{is_open, Classes, moved, joined, classes_from, least, has_typing}
use Rattle.enc_types.specs.declared.sites.Site.{Site}
use Rattle.enc_types.specs.declared.sites.Site.TheVariants.{Column, Param, Null, Fixed}
use Rattle.enc_types.specs.declared.rules.Rule.{Rule}
use Rattle.enc_types.specs.declared.rules.Rule.TheVariants.{Same, NotRnd, PlainOnly}

pub plain_is : (e : Enc) → is_plain e ≡ true → e ≡ Plain
plain_is Plain p = refl
plain_is (Det k) p = absurd cc
plain_is (Rnd k) p = absurd cc

pub not_plain : (e : Enc) → is_plain e ≡ false → ¬ (e ≡ Plain)
not_plain e p q = let f : true ≡ false = sym (ap is_plain q) ∙ p in absurd cc

-- ---- the tests decide

pub enc_eq-Decides : (a b : Enc) → Decides (enc_eq a b) (a ≡ b)
enc_eq-Decides Plain Plain = (λ e. refl, λ e. refl)
enc_eq-Decides Plain (Det k) = (λ e. cc, λ e. cc)
enc_eq-Decides Plain (Rnd k) = (λ e. cc, λ e. cc)
enc_eq-Decides (Det j) Plain = (λ e. cc, λ e. cc)
enc_eq-Decides (Det j) (Det k) = (λ e. ap Det ((Decides-eqb j k).0 e), λ e. (Decides-eqb j k).1 cc)
enc_eq-Decides (Det j) (Rnd k) = (λ e. cc, λ e. cc)
enc_eq-Decides (Rnd j) Plain = (λ e. cc, λ e. cc)
enc_eq-Decides (Rnd j) (Det k) = (λ e. cc, λ e. cc)
enc_eq-Decides (Rnd j) (Rnd k) = (λ e. ap Rnd ((Decides-eqb j k).0 e), λ e. (Decides-eqb j k).1 cc)

pub and_left : (a b : Bool) → a && b ≡ true → a ≡ true
and_left true b e = refl
and_left false b e = e

pub and_right : (a b : Bool) → a && b ≡ true → b ≡ true
and_right true b e = e
and_right false b e = absurd cc

-- ---- classes

module _ (columns : List ColumnSite) where
  -- whether a site is open is what isn't fixed of it
  pub fixed_or_open : (x : Site) → ((e : Enc) × (fixed columns x ≡ Some e) × (is_open x ≡ false)) ⊎ ((fixed columns x ≡ None) × (is_open x ≡ true))
  fixed_or_open (Column i) = inl (_, refl, refl)
  fixed_or_open (Param i) = inr (refl, refl)
  fixed_or_open (Null i) = inr (refl, refl)
  fixed_or_open Fixed = inl (_, refl, refl)

  -- a typing gives one encryption to a site and to that which stands for it
  abbrev Stand : Typing → Classes → Type 0
  Stand typing classes = (s : Site) → typing (classes s) ≡ typing s

  moved_alike : (typing : Typing) (from to s : Site) → typing from ≡ typing to → typing (moved from to s) ≡ typing s
  moved_alike typing from to s e = go (site_eq s from) refl
    where
      go : (b : Bool) → site_eq s from ≡ b → typing (cond b to s) ≡ typing s
      go true h = sym e ∙ ap typing (sym ((site_eq-Decides s from).0 h))
      go false h = refl

  joined_alike : (typing : Typing) (a b s : Site) → typing a ≡ typing b → typing (joined a b s) ≡ typing s
  joined_alike typing a b s e = go (is_open a) (is_open b)
    where
      go : (p q : Bool) → typing (cond p (moved a b s) (cond q (moved b a s) s)) ≡ typing s
      go true q = moved_alike typing a b s e
      go false true = moved_alike typing b a s (sym e)
      go false false = refl

  pub stand : (params : List Ty) (typing : Typing) (rules : List Rule) → list_all (holds params columns typing) rules ≡ true
      → (classes : Classes) → Stand typing classes → Stand typing (classes_from classes rules)
  stand params typing [] h classes k = k
  stand params typing (Same x y at ∷ rules) h classes k =
      let same : typing x ≡ typing y = (enc_eq-Decides (typing x) (typing y)).0 (and_left _ _ (and_left _ _ h)) in
      stand params typing rules (and_right _ _ h) _ (λ s. joined_alike typing (classes x) (classes y) (classes s) (k x ∙ same ∙ sym (k y)) ∙ k s)
  stand params typing (NotRnd x at ∷ rules) h classes k = stand params typing rules (and_right _ _ h) classes k
  stand params typing (PlainOnly x at ∷ rules) h classes k = stand params typing rules (and_right _ _ h) classes k

-- a fixed site stands for itself
abbrev KeepsFixed : Classes → Type 0
KeepsFixed classes = (s : Site) → is_open s ≡ false → classes s ≡ s

moved_fixed : (from to s : Site) → is_open from ≡ true → is_open s ≡ false → moved from to s ≡ s
moved_fixed from to s o f = go (site_eq s from) refl
  where
    go : (b : Bool) → site_eq s from ≡ b → cond b to s ≡ s
    go true h = let e : s ≡ from = (site_eq-Decides s from).0 h in absurd (let g : true ≡ false = sym o ∙ ap is_open (sym e) ∙ f in cc)
    go false h = refl

pub joined_fixed : (a b s : Site) → is_open s ≡ false → joined a b s ≡ s
joined_fixed a b s f = go (is_open a) (is_open b) refl refl
  where
    go : (p q : Bool) → is_open a ≡ p → is_open b ≡ q → cond p (moved a b s) (cond q (moved b a s) s) ≡ s
    go true q o n = moved_fixed a b s o f
    go false true o n = moved_fixed b a s n f
    go false false o n = refl

pub keeps_fixed : (rules : List Rule) (classes : Classes) → KeepsFixed classes → KeepsFixed (classes_from classes rules)
keeps_fixed [] classes k = k
keeps_fixed (Same x y at ∷ rules) classes k =
    keeps_fixed rules _ (λ s f. ap (joined (classes x) (classes y)) (k s f) ∙ joined_fixed (classes x) (classes y) s f)
keeps_fixed (NotRnd x at ∷ rules) classes k = keeps_fixed rules classes k
keeps_fixed (PlainOnly x at ∷ rules) classes k = keeps_fixed rules classes k

-- the sites of a rule Same are in one class, or fixed sites stand for both
abbrev Joined : Classes → Site → Site → Type 0
Joined classes x y = (classes x ≡ classes y) ⊎ ((is_open (classes x) ≡ false) × (is_open (classes y) ≡ false))

moved_here : (from to : Site) → moved from to from ≡ to
moved_here from to = ap (λ b. cond b to from) ((site_eq-Decides from from).1 refl)

moved_there : (from to : Site) → moved from to to ≡ to
moved_there from to = go (site_eq to from)
  where
    go : (b : Bool) → cond b to to ≡ to
    go true = refl
    go false = refl

join_joins : (a b : Site) → (joined a b a ≡ joined a b b) ⊎ ((is_open (joined a b a) ≡ false) × (is_open (joined a b b) ≡ false))
join_joins a b = go (is_open a) (is_open b) refl refl
  where
    go : (p q : Bool) → is_open a ≡ p → is_open b ≡ q
        → (cond p (moved a b a) (cond q (moved b a a) a) ≡ cond p (moved a b b) (cond q (moved b a b) b))
        ⊎ ((is_open (cond p (moved a b a) (cond q (moved b a a) a)) ≡ false) × (is_open (cond p (moved a b b) (cond q (moved b a b) b)) ≡ false))
    go true q o n = inl (moved_here a b ∙ sym (moved_there a b))
    go false true o n = inl (moved_there b a ∙ sym (moved_here b a))
    go false false o n = inr (o, n)

join_keeps : (a b : Site) (classes : Classes) (x y : Site) → Joined classes x y → Joined (λ s. joined a b (classes s)) x y
join_keeps a b classes x y (inl e) = inl (ap (joined a b) e)
join_keeps a b classes x y (inr h) =
    inr (ap is_open (joined_fixed a b (classes x) h.0) ∙ h.0, ap is_open (joined_fixed a b (classes y) h.1) ∙ h.1)

all_keep : (rules : List Rule) (classes : Classes) (x y : Site) → Joined classes x y → Joined (classes_from classes rules) x y
all_keep [] classes x y j = j
all_keep (Same u v at ∷ rules) classes x y j = all_keep rules _ x y (join_keeps (classes u) (classes v) classes x y j)
all_keep (NotRnd u at ∷ rules) classes x y j = all_keep rules classes x y j
all_keep (PlainOnly u at ∷ rules) classes x y j = all_keep rules classes x y j

abbrev AllJoined : Classes → List Rule → Type 0
AllJoined classes [] = Unit {0}
AllJoined classes (Same x y at ∷ rules) = Joined classes x y × AllJoined classes rules
AllJoined classes (NotRnd x at ∷ rules) = AllJoined classes rules
AllJoined classes (PlainOnly x at ∷ rules) = AllJoined classes rules

all_joined : (rules : List Rule) (classes : Classes) → AllJoined (classes_from classes rules) rules
all_joined [] classes = tt
all_joined (Same x y at ∷ rules) classes =
    (all_keep rules _ x y (join_joins (classes x) (classes y)), all_joined rules _)
all_joined (NotRnd x at ∷ rules) classes = all_joined rules classes
all_joined (PlainOnly x at ∷ rules) classes = all_joined rules classes

-- ---- the least typing

module _ (params : List Ty) (columns : List ColumnSite) where
  abbrev enc_of : Site → Enc
  enc_of s = unwrap_or (fixed columns s) Plain

  -- what stands for a site is fixed, and every typing gives it that, or it is open and the least typing is plain
  known : (typing : Typing) (classes : Classes) (s : Site) → Agrees columns typing → typing (classes s) ≡ typing s
      → (enc_of (classes s) ≡ typing s) ⊎ ((enc_of (classes s) ≡ Plain) × (is_open (classes s) ≡ true))
  known typing classes s agrees h = go (fixed_or_open columns (classes s))
    where
      go : ((e : Enc) × (fixed columns (classes s) ≡ Some e) × (is_open (classes s) ≡ false)) ⊎ ((fixed columns (classes s) ≡ None) × (is_open (classes s) ≡ true))
          → (enc_of (classes s) ≡ typing s) ⊎ ((enc_of (classes s) ≡ Plain) × (is_open (classes s) ≡ true))
      go (inl (e, f, o)) = inl (ap (λ z. unwrap_or z Plain) f ∙ sym (agrees (classes s) e f) ∙ h)
      go (inr (f, o)) = inr (ap (λ z. unwrap_or z Plain) f, o)

  pub least_agrees : (rules : List Rule) → Agrees columns (least columns rules)
  unfolding least
  least_agrees rules x e f =
      ap (λ z. unwrap_or (fixed columns z) Plain) (keeps_fixed rules (λ s. s) (λ s o. refl) x (closed (fixed_or_open columns x))) ∙ ap (λ z. unwrap_or z Plain) f
    where
      closed : ((d : Enc) × (fixed columns x ≡ Some d) × (is_open x ≡ false)) ⊎ ((fixed columns x ≡ None) × (is_open x ≡ true)) → is_open x ≡ false
      closed (inl (d, g, o)) = o
      closed (inr (g, o)) = let k : None ≡ Some e = sym g ∙ f in absurd cc

  -- a typing is as the least one where that encrypts
  pub least_is_least : (rules : List Rule) (other : Typing) → IsTyping params columns rules other → (x : Site) → ¬ (least columns rules x ≡ Plain) → other x ≡ least columns rules x
  unfolding least
  least_is_least rules other h x n =
      go (known other (classes_from (λ s. s) rules) x h.agrees (stand columns params other rules h.holding (λ s. s) (λ s. refl) x))
    where
      go : (unwrap_or (fixed columns (classes_from (λ s. s) rules x)) Plain ≡ other x) ⊎
          ((unwrap_or (fixed columns (classes_from (λ s. s) rules x)) Plain ≡ Plain) × (is_open (classes_from (λ s. s) rules x) ≡ true))
          → other x ≡ unwrap_or (fixed columns (classes_from (λ s. s) rules x)) Plain
      go (inl e) = sym e
      go (inr (e, o)) = absurd (n e)

  plain_or : (a t : Enc) (alike : Bool) → (a ≡ t) ⊎ (a ≡ Plain) → is_plain t || alike ≡ true → is_plain a || alike ≡ true
  plain_or a t alike (inl e) h = ap (λ z. is_plain z || alike) e ∙ h
  plain_or a t alike (inr e) h = ap (λ z. is_plain z || alike) e

  weaker : (a t : Enc) (o : Bool) → (a ≡ t) ⊎ ((a ≡ Plain) × (o ≡ true)) → (a ≡ t) ⊎ (a ≡ Plain)
  weaker a t o (inl e) = inl e
  weaker a t o (inr e) = inr e.0

  closed : (a t : Enc) (o : Bool) → (a ≡ t) ⊎ ((a ≡ Plain) × (o ≡ true)) → o ≡ false → a ≡ t
  closed a t o (inl e) f = e
  closed a t o (inr e) f = let g : true ≡ false = sym e.1 ∙ f in absurd cc

  module _ (typing : Typing) (classes : Classes) (agrees : Agrees columns typing) (stands : (s : Site) → typing (classes s) ≡ typing s) where
    equal : (x y : Site) → typing x ≡ typing y → Joined classes x y → enc_of (classes x) ≡ enc_of (classes y)
    equal x y same (inl e) = ap enc_of e
    equal x y same (inr e) =
        closed _ _ _ (known typing classes x agrees (stands x)) e.0 ∙ same ∙ sym (closed _ _ _ (known typing classes y agrees (stands y)) e.1)

    each_holds : (rules : List Rule) → AllJoined classes rules → list_all (holds params columns typing) rules ≡ true
        → list_all (holds params columns (λ s. enc_of (classes s))) rules ≡ true
    each_holds [] j h = refl
    each_holds (Same x y at ∷ rules) j h =
        let one = and_left _ _ h in
        let same : typing x ≡ typing y = (enc_eq-Decides (typing x) (typing y)).0 (and_left _ _ one) in
        and_from _ _
        (and_from _ _ ((enc_eq-Decides _ _).1 (equal x y same j.0))
        (plain_or (enc_of (classes x)) (typing x) _ (weaker _ _ _ (known typing classes x agrees (stands x))) (and_right _ _ one)))
        (each_holds rules j.1 (and_right _ _ h))
    each_holds (NotRnd x at ∷ rules) j h =
        and_from _ _ (go (weaker _ _ _ (known typing classes x agrees (stands x)))) (each_holds rules j (and_right _ _ h))
      where
        go : (enc_of (classes x) ≡ typing x) ⊎ (enc_of (classes x) ≡ Plain) → isnt_rnd (enc_of (classes x)) ≡ true
        go (inl e) = ap isnt_rnd e ∙ and_left _ _ h
        go (inr e) = ap isnt_rnd e
    each_holds (PlainOnly x at ∷ rules) j h =
        and_from _ _ (go (weaker _ _ _ (known typing classes x agrees (stands x)))) (each_holds rules j (and_right _ _ h))
      where
        go : (enc_of (classes x) ≡ typing x) ⊎ (enc_of (classes x) ≡ Plain) → is_plain (enc_of (classes x)) ≡ true
        go (inl e) = ap is_plain e ∙ and_left _ _ h
        go (inr e) = ap is_plain e

  -- where there is a typing, the least one is one
  pub least_holds : (rules : List Rule) (typing : Typing) → IsTyping params columns rules typing → list_all (holds params columns (least columns rules)) rules ≡ true
  unfolding least
  least_holds rules typing h =
      each_holds typing (classes_from (λ s. s) rules) h.agrees (stand columns params typing rules h.holding (λ s. s) (λ s. refl)) rules (all_joined rules (λ s. s)) h.holding

  pub least_is_typing : (rules : List Rule) → HasTyping params columns rules → IsTyping params columns rules (least columns rules)
  least_is_typing rules h = record { agrees = least_agrees rules; holding = least_holds rules h.0 h.1 }

  pub least_of : (rules : List Rule) → HasTyping params columns rules → IsLeastTyping params columns rules (least columns rules)
  least_of rules h = record { typed = least_is_typing rules h; least = least_is_least rules }

  pub has_typing-Decides : (rules : List Rule) → Decides (has_typing params columns rules) (HasTyping params columns rules)
  unfolding has_typing
  has_typing-Decides rules = (λ e. (least columns rules, record { agrees = least_agrees rules; holding = e }), λ h. least_holds rules h.0 h.1)

  -- two least typings are one
  pub one_least : (rules : List Rule) (typing : Typing) → IsLeastTyping params columns rules typing → (x : Site) → typing x ≡ least columns rules x
  one_least rules typing h x = go (is_plain (typing x)) (is_plain (least columns rules x)) refl refl
    where
      go : (a b : Bool) → is_plain (typing x) ≡ a → is_plain (least columns rules x) ≡ b → typing x ≡ least columns rules x
      go true true p q = plain_is _ p ∙ sym (plain_is _ q)
      go true false p q = least_is_least rules typing h.typed x (not_plain _ q)
      go false b p q = sym (h.least (least columns rules) (least_is_typing rules (typing, h.typed)) x (not_plain _ p))
