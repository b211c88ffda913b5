-- What the steps of a trace find is forced, and where nothing is left to be found and every rule holds it is the least typing.
use Rattle.std.proofs.Common.{◌≡◌, ℕ, ◌+◌, ◌<◌, ◌≤◌, List, [], ◌∷◌, refl, ap, sym, ◌∙◌, arith, Some, None, Bool, true, false, not, cond, ◌&&◌, ◌||◌, unwrap_or, ◌⊎◌, inl, inr}
use Rattle.std.specs.List.{list_all}
use Rattle.std.proofs.lemmas.Bool.{or_right, or_from, not-true}
use Rattle.ae_base.specs.declared.types.Ty.{Ty}
use Rattle.ae_base.specs.declared.types.Enc.{Enc}
use Rattle.ae_base.specs.declared.types.Enc.TheVariants.{Plain}
use Rattle.sql_tree.specs.declared.bound.ColumnSite.{ColumnSite}
use Rattle.enc_types.specs.Typing.{fixed, type_of, are_alike, is_plain, Typing, holds, Agrees, IsTyping, IsLeastTyping}
use Rattle.enc_types.specs.SiteLaws.{site_eq, site_eq-Decides}
use Rattle.enc_types.specs.Least.{is_open}
use Rattle.enc_types.specs.Clash.{IsAmong, Carries}
use Rattle.enc_types.specs.declared.sites.Site.{Site}
use Rattle.enc_types.specs.declared.rules.Rule.{Rule}
use Rattle.enc_types.specs.declared.rules.Rule.TheVariants.{Same, NotRnd, PlainOnly}
use Rattle.enc_types.proofs.Interface.{enc_eq-Decides, fixed_or_open, and_left, and_right, plain_is, not_plain}
use Rattle.inference.specs.Steps.{goes, is_loose, loose, traced, IsTrace}
use Rattle.inference.specs.declared.steps.Step.{Step}
use Rattle.inference.proofs.Alike.{isnt_plain, true_false, among_holds, fixed_closed}

module _ (params : List Ty) (columns : List ColumnSite) where
  abbrev alike : Site → Site → Bool
  alike x y = are_alike (type_of params columns x) (type_of params columns y)

  -- ---- what it takes for an encryption to go on

  pub goes_from : (typing : Typing) (from to : Site) → goes params columns typing from to ≡ true → ¬ (typing from ≡ Plain)
  goes_from typing from to g = not_plain _ (not-true _ (and_left _ _ g))

  pub goes_open : (typing : Typing) (from to : Site) → goes params columns typing from to ≡ true → is_open to ≡ true
  goes_open typing from to g = and_left _ _ (and_right _ _ g)

  pub goes_plain : (typing : Typing) (from to : Site) → goes params columns typing from to ≡ true → typing to ≡ Plain
  goes_plain typing from to g = plain_is _ (and_left _ _ (and_right _ _ (and_right _ _ g)))

  pub goes_alike : (typing : Typing) (from to : Site) → goes params columns typing from to ≡ true → alike from to ≡ true
  goes_alike typing from to g =
      and_right (is_plain (typing to)) (alike from to)
      (and_right (is_open to) (is_plain (typing to) && alike from to) (and_right (not (is_plain (typing from))) (is_open to && (is_plain (typing to) && alike from to)) g))

  pub goes_same : (typing other : Typing) (from to : Site) → typing from ≡ other from → typing to ≡ other to → goes params columns typing from to ≡ goes params columns other from to
  goes_same typing other from to e f =
      ap (λ z. not (is_plain z) && (is_open to && (is_plain (typing to) && alike from to))) e
      ∙ ap (λ z. not (is_plain (other from)) && (is_open to && (is_plain z && alike from to))) f

  -- ---- traces

  pub traced_fixed : (rules : List Rule) (steps : List Step) → IsTrace params columns rules steps → Agrees columns (traced columns steps)
  traced_fixed rules [] t s e f = ap (λ z. unwrap_or z Plain) f
  traced_fixed rules (step ∷ steps) t s e f = go (site_eq step.to s) refl (traced_fixed rules steps t.3 s e f)
    where
      go : (b : Bool) → site_eq step.to s ≡ b → traced columns steps s ≡ e → cond b (traced columns steps step.from) (traced columns steps s) ≡ e
      go true h k = true_false (is_open s) (ap is_open (sym ((site_eq-Decides step.to s).0 h)) ∙ goes_open (traced columns steps) step.from step.to t.2) (fixed_closed columns s e f)
      go false h k = k

  -- what was found stays
  pub traced_kept : (rules : List Rule) (step : Step) (steps : List Step) → IsTrace params columns rules (step ∷ steps) → (s : Site)
      → ¬ (traced columns steps s ≡ Plain) → traced columns (step ∷ steps) s ≡ traced columns steps s
  traced_kept rules step steps t s n = go (site_eq step.to s) refl
    where
      go : (b : Bool) → site_eq step.to s ≡ b → cond b (traced columns steps step.from) (traced columns steps s) ≡ traced columns steps s
      go true h = absurd (n (ap (traced columns steps) (sym ((site_eq-Decides step.to s).0 h)) ∙ goes_plain (traced columns steps) step.from step.to t.2))
      go false h = refl

  -- a rule that carries holds only where both sites have one encryption
  pub carried_same : (typing : Typing) (rule : Rule) (from to : Site) → Carries rule from to → holds params columns typing rule ≡ true → typing from ≡ typing to
  carried_same typing (Same x y at) from to (inl c) h =
      ap typing c.0 ∙ (enc_eq-Decides (typing x) (typing y)).0 (and_left _ _ h) ∙ ap typing (sym c.1)
  carried_same typing (Same x y at) from to (inr c) h =
      ap typing c.0 ∙ sym ((enc_eq-Decides (typing x) (typing y)).0 (and_left _ _ h)) ∙ ap typing (sym c.1)
  carried_same typing (NotRnd x at) from to c h = absurd c
  carried_same typing (PlainOnly x at) from to c h = absurd c

  -- every typing gives what was found
  pub forced : (rules : List Rule) (steps : List Step) → IsTrace params columns rules steps → (other : Typing) → IsTyping params columns rules other
      → (s : Site) → ¬ (traced columns steps s ≡ Plain) → other s ≡ traced columns steps s
  forced rules [] t other h s n = go (fixed_or_open columns s)
    where
      go : ((e : Enc) × (fixed columns s ≡ Some e) × (is_open s ≡ false)) ⊎ ((fixed columns s ≡ None) × (is_open s ≡ true)) → other s ≡ traced columns [] s
      go (inl (e, f, o)) = h.agrees s e f ∙ sym (ap (λ z. unwrap_or z Plain) f)
      go (inr (f, o)) = absurd (n (ap (λ z. unwrap_or z Plain) f))
  forced rules (step ∷ steps) t other h s n = go (site_eq step.to s) refl (forced rules steps t.3 other h)
    where
      go : (b : Bool) → site_eq step.to s ≡ b → ((z : Site) → ¬ (traced columns steps z ≡ Plain) → other z ≡ traced columns steps z)
          → other s ≡ cond b (traced columns steps step.from) (traced columns steps s)
      go true k more =
          ap other (sym ((site_eq-Decides step.to s).0 k))
          ∙ sym (carried_same other step.rule step.from step.to t.1 (among_holds _ rules step.rule h.holding t.0))
          ∙ more step.from (goes_from (traced columns steps) step.from step.to t.2)
      go false k more = more s (λ e. n (ap (λ b. cond b (traced columns steps step.from) (traced columns steps s)) k ∙ e))

  -- so where every rule holds it is the least typing
  pub traced_least : (rules : List Rule) (steps : List Step) → IsTrace params columns rules steps → list_all (holds params columns (traced columns steps)) rules ≡ true
      → IsLeastTyping params columns rules (traced columns steps)
  traced_least rules steps t h =
      record { typed = record { agrees = traced_fixed rules steps t; holding = h }; least = λ other o s n. forced rules steps t other o s n }

  -- ---- each step leaves fewer rules that may carry something

  module _ (typing next : Typing) (from to : Site) (g : goes params columns typing from to ≡ true)
      (after : (s : Site) → next s ≡ cond (site_eq to s) (typing from) (typing s)) where
    next_plain : (s : Site) → is_plain (next s) ≡ true → is_plain (typing s) ≡ true
    next_plain s p = go (site_eq to s) refl
      where
        go : (b : Bool) → site_eq to s ≡ b → is_plain (typing s) ≡ true
        go true e =
            true_false (is_plain (typing from)) (ap is_plain (sym (after s ∙ ap (λ b. cond b (typing from) (typing s)) e)) ∙ p) (isnt_plain _ (goes_from typing from to g))
        go false e = ap is_plain (sym (after s ∙ ap (λ b. cond b (typing from) (typing s)) e)) ∙ p

    next_there : next to ≡ typing from
    next_there = after to ∙ ap (λ b. cond b (typing from) (typing to)) ((site_eq-Decides to to).1 refl)

    next_here : next from ≡ typing from
    next_here = after from ∙ go (site_eq to from)
      where
        go : (b : Bool) → cond b (typing from) (typing from) ≡ typing from
        go true = refl
        go false = refl

    or_less : (a b c d : Bool) → (a ≡ true → c ≡ true) → (b ≡ true → d ≡ true) → a || b ≡ true → c || d ≡ true
    or_less true b c d f h e = ap (λ z. z || d) (f refl)
    or_less false true true d f h e = refl
    or_less false true false d f h e = h refl
    or_less false false c d f h e = absurd cc

    looser : (rule : Rule) → is_loose next rule ≡ true → is_loose typing rule ≡ true
    looser (Same x y at) e = or_less _ _ _ _ (next_plain x) (next_plain y) e
    looser (NotRnd x at) e = absurd cc
    looser (PlainOnly x at) e = absurd cc

    was_loose : (rule : Rule) → Carries rule from to → is_loose typing rule ≡ true
    was_loose (Same x y at) (inl c) =
        let p : is_plain (typing y) ≡ true = ap (λ z. is_plain (typing z)) (sym c.1) ∙ ap is_plain (goes_plain typing from to g) in or_right (is_plain (typing x)) (is_plain (typing y)) p
    was_loose (Same x y at) (inr c) =
        ap (λ z. z || is_plain (typing y)) (ap (λ z. is_plain (typing z)) (sym c.1) ∙ ap is_plain (goes_plain typing from to g))
    was_loose (NotRnd x at) c = absurd c
    was_loose (PlainOnly x at) c = absurd c

    is_tight : (rule : Rule) → Carries rule from to → is_loose next rule ≡ false
    is_tight (Same x y at) (inl c) =
        or_from _ _ (ap is_plain (ap next (sym c.0) ∙ next_here) ∙ isnt_plain _ (goes_from typing from to g)) (ap is_plain (ap next (sym c.1) ∙ next_there) ∙ isnt_plain _ (goes_from typing from to g))
    is_tight (Same x y at) (inr c) =
        or_from _ _ (ap is_plain (ap next (sym c.1) ∙ next_there) ∙ isnt_plain _ (goes_from typing from to g)) (ap is_plain (ap next (sym c.0) ∙ next_here) ∙ isnt_plain _ (goes_from typing from to g))
    is_tight (NotRnd x at) c = absurd c
    is_tight (PlainOnly x at) c = absurd c

    one_less : (a b : Bool) → (a ≡ true → b ≡ true) → cond a 1 0 ≤ cond b 1 0
    one_less true true f = omega arith
    one_less true false f = let e : false ≡ true = f refl in absurd cc
    one_less false true f = omega arith
    one_less false false f = omega arith

    zero_below_one : (a b m n : ℕ) → a ≡ 0 → b ≡ 1 → m ≤ n → a + m < b + n
    zero_below_one a b m n e f h = omega arith

    below_below : (a b m n : ℕ) → a ≤ b → m < n → a + m < b + n
    below_below a b m n e h = omega arith

    pub fewer_or_same : (rules : List Rule) → loose next rules ≤ loose typing rules
    fewer_or_same [] = omega arith
    fewer_or_same (rule ∷ rules) =
        let a : cond (is_loose next rule) 1 0 ≤ cond (is_loose typing rule) 1 0 = one_less _ _ (looser rule) in
        let b : loose next rules ≤ loose typing rules = fewer_or_same rules in
        omega arith

    pub fewer_loose : (rules : List Rule) (rule : Rule) → IsAmong rules rule → Carries rule from to → loose next rules < loose typing rules
    fewer_loose [] rule a c = absurd a
    fewer_loose (first ∷ rules) rule (inl e) c =
        zero_below_one _ _ _ _ (ap (λ b. cond b 1 0) (ap (is_loose next) (sym e) ∙ is_tight rule c)) (ap (λ b. cond b 1 0) (ap (is_loose typing) (sym e) ∙ was_loose rule c)) (fewer_or_same rules)
    fewer_loose (first ∷ rules) rule (inr a) c =
        below_below _ _ _ _ (one_less _ _ (looser first)) (fewer_loose rules rule a c)
