-- What a step, and a pass over the rules, finds.
use Rattle.std.proofs.Common.{
  ◌≡◌,
  ℕ,
  zero,
  suc,
  ◌+◌,
  ◌<◌,
  ◌≤◌,
  List,
  [],
  ◌∷◌,
  ◌++◌,
  length,
  drop,
  get_or,
  reverse,
  refl,
  ap,
  sym,
  subst,
  ◌∙◌,
  arith,
  Option,
  Some,
  None,
  Bool,
  true,
  false,
  cond,
  ◌&&◌,
  ◌||◌,
  unwrap_or,
  ◌⊎◌,
  inl,
  inr,
}
use Rattle.std.specs.List.{list_all}
use Rattle.std.proofs.lemmas.List.{get_or_default, reverse-append, at_drop_more, at_drop_all}
use Rattle.ae_base.specs.declared.types.Ty.{Ty}
use Rattle.ae_base.specs.declared.types.Enc.{Enc}
use Rattle.ae_base.specs.declared.types.Enc.TheVariants.{Plain}
use Rattle.sql_tree.specs.declared.bound.ColumnSite.{ColumnSite}
use Rattle.enc_types.specs.SiteLaws.{site_eq}
use Rattle.enc_types.specs.Typing.{fixed}
use Rattle.enc_types.specs.Least.{is_open}
use Rattle.enc_types.specs.Clash.{IsAmong, Carries}
use Rattle.enc_types.specs.declared.sites.Site.{Site}
use Rattle.enc_types.specs.declared.rules.Rule.{Rule}
use Rattle.enc_types.proofs.Interface.{fixed_or_open}
use Rattle.inference.specs.Found.{enc_in}
use Rattle.inference.specs.Steps.{goes, is_settled, loose, traced, IsTrace}
use Rattle.inference.specs.Reached.{or_found, typing_of, IsReached, AreSettled}
use Rattle.inference.specs.declared.steps.Step.{Step}
use Rattle.inference.specs.declared.reach.Reach.{Reach}
use Rattle.inference.proofs.Alike.{true_false}
use Rattle.inference.proofs.Traces.{goes_same, traced_fixed, fewer_loose}

pub among_at : (rules : List Rule) (i : ℕ) (rule : Rule) → i < length rules → rule ≡ get_or rules i rule → IsAmong rules rule
among_at [] i rule lt e = absurd (omega arith)
among_at (first ∷ rules) zero rule lt e = inl e
among_at (first ∷ rules) (suc i) rule lt e = inr (among_at rules i rule (omega arith) e)

-- tests of all, by those that are left
pub all_more : (p : Rule → Bool) (rules : List Rule) (i : ℕ) (rule : Rule) → i < length rules → rule ≡ get_or rules i rule
    → list_all p (drop i rules) ≡ list_all p rules → p rule ≡ true → list_all p (drop (i + 1) rules) ≡ list_all p rules
all_more p rules i rule lt e h t =
    ap (λ b. b && list_all p (drop (i + 1) rules)) (sym t)
    ∙ ap (λ r. p r && list_all p (drop (i + 1) rules)) e
    ∙ sym (at_drop_more (list_all p) rules i rule lt)
    ∙ h

pub all_there : (p : Rule → Bool) (rules : List Rule) (i : ℕ) → length rules ≤ i → list_all p (drop i rules) ≡ list_all p rules → list_all p rules ≡ true
all_there p rules i le h = sym h ∙ at_drop_all (list_all p) rules i le

pub start_found : (o : Option Enc) (e : Enc) → e ≡ Plain → or_found o e ≡ unwrap_or o Plain
start_found None e h = h
start_found (Some d) e h = refl

module _ (params : List Ty) (columns : List ColumnSite) (rules : List Rule) where
  pub start : (reach : Reach) → reach.steps.items ≡ [] → ((s : Site) → enc_in reach.encs.found s ≡ Plain) → IsReached params columns rules reach
  start reach e h =
      let P : List Step → Type 0 = λ z. IsTrace params columns rules (reverse z) in
      record {
        trace = subst P (sym e) tt;
        found = λ s. start_found (fixed columns s) (enc_in reach.encs.found s) (h s) ∙ ap (λ z. traced columns (reverse z) s) (sym e);
      }

  module _ (old next : Reach) (step : Step) (reached : IsReached params columns rules old)
      (steps : next.steps.items ≡ old.steps.items ++ step ∷ [])
      (found : (s : Site) → enc_in next.encs.found s ≡ cond (site_eq step.to s) (typing_of columns old step.from) (enc_in old.encs.found s))
      (among : IsAmong rules step.rule) (carries : Carries step.rule step.from step.to)
      (go : goes params columns (typing_of columns old) step.from step.to ≡ true) where
    back : List Step
    back = reverse old.steps.items

    turned : reverse next.steps.items ≡ step ∷ reverse old.steps.items
    turned = ap reverse steps ∙ reverse-append old.steps.items (step ∷ [])

    trace : IsTrace params columns rules (step ∷ reverse old.steps.items)
    trace = (
      among,
      carries,
      sym
          (goes_same params columns (typing_of columns old) (traced columns (reverse old.steps.items)) step.from step.to (reached.found step.from) (reached.found step.to)) ∙ go,
      reached.trace,
    )

    now_found : (s : Site) → typing_of columns next s ≡ traced columns (step ∷ reverse old.steps.items) s
    now_found s = either (fixed_or_open columns s)
      where
        at_fixed : (e : Enc) → fixed columns s ≡ Some e → typing_of columns next s ≡ traced columns (step ∷ reverse old.steps.items) s
        at_fixed e f = ap (λ o. or_found o (enc_in next.encs.found s)) f ∙ sym (traced_fixed params columns rules (step ∷ reverse old.steps.items) trace s e f)

        at_open : fixed columns s ≡ None → typing_of columns next s ≡ traced columns (step ∷ reverse old.steps.items) s
        at_open f =
            ap (λ o. or_found o (enc_in next.encs.found s)) f
            ∙ found s
            ∙ ap (λ e. cond (site_eq step.to s) e (enc_in old.encs.found s)) (reached.found step.from)
            ∙ ap (λ e. cond (site_eq step.to s) (traced columns (reverse old.steps.items) step.from) e) (sym (ap (λ o. or_found o (enc_in old.encs.found s)) f) ∙ reached.found s)

        either : ((e : Enc) × (fixed columns s ≡ Some e) × (is_open s ≡ false)) ⊎ ((fixed columns s ≡ None) × (is_open s ≡ true))
            → typing_of columns next s ≡ traced columns (step ∷ reverse old.steps.items) s
        either (inl (e, f, o)) = at_fixed e f
        either (inr (f, o)) = at_open f

    pub step_reached : IsReached params columns rules next
    step_reached =
        let P : List Step → Type 0 = IsTrace params columns rules in
        record { trace = subst P (sym turned) trace; found = λ s. now_found s ∙ ap (λ z. traced columns z s) (sym turned) }

    after : (s : Site) → typing_of columns next s ≡ cond (site_eq step.to s) (typing_of columns old step.from) (typing_of columns old s)
    after s =
        now_found s
        ∙ ap (λ e. cond (site_eq step.to s) e (traced columns (reverse old.steps.items) s)) (sym (reached.found step.from))
        ∙ ap (λ e. cond (site_eq step.to s) (typing_of columns old step.from) e) (sym (reached.found s))

    pub step_fewer : loose (typing_of columns next) rules < loose (typing_of columns old) rules
    step_fewer = fewer_loose params columns (typing_of columns old) (typing_of columns next) step.from step.to go after rules step.rule among carries

-- a pass so far: something is found, or nothing could be
pub record IsPassing (params : List Ty) (columns : List ColumnSite) (rules : List Rule) (initial reach : Reach) (changed : Bool) (i : ℕ) : Type 0 where
  pub reached : IsReached params columns rules reach
  pub less : loose (typing_of columns reach) rules ≤ loose (typing_of columns initial) rules
  pub fewer : changed ≡ true → loose (typing_of columns reach) rules < loose (typing_of columns initial) rules
  pub settled : changed ≡ false → list_all (is_settled params columns (typing_of columns reach)) (drop i rules) ≡ list_all (is_settled params columns (typing_of columns reach)) rules

pub passing_begins : (params : List Ty) (columns : List ColumnSite) (rules : List Rule) (reach : Reach) → IsReached params columns rules reach → IsPassing params columns rules reach reach false 0
passing_begins params columns rules reach h = record { reached = h; less = omega arith; fewer = λ e. absurd cc; settled = λ e. refl }

pub passing_more : (params : List Ty) (columns : List ColumnSite) (rules : List Rule) (initial reach next : Reach) (changed more : Bool) (i : ℕ) (rule : Rule)
    → i < length rules → rule ≡ get_or rules i rule
    → IsPassing params columns rules initial reach changed i
    → ((all : List Rule) → IsAmong all rule → IsReached params columns all reach → IsReached params columns all next)
    → (more ≡ true → (all : List Rule) → IsAmong all rule → IsReached params columns all reach → loose (typing_of columns next) all < loose (typing_of columns reach) all)
    → (more ≡ false → next ≡ reach) → (more ≡ false → is_settled params columns (typing_of columns reach) rule ≡ true)
    → IsPassing params columns rules initial next (changed || more) (i + 1)
passing_more params columns rules initial reach next changed true i rule lt e h r f s t =
    let a : loose (typing_of columns next) rules < loose (typing_of columns reach) rules = f refl rules (among_at rules i rule lt e) h.reached in
    record {
      reached = r rules (among_at rules i rule lt e) h.reached;
      less = omega (arith, h.less);
      fewer = λ k. omega (arith, h.less);
      settled = λ k. true_false (changed || true) (or_true changed) k;
    }
  where
    or_true : (b : Bool) → b || true ≡ true
    or_true true = refl
    or_true false = refl
passing_more params columns rules initial reach next changed false i rule lt e h r f s t =
    let P : Reach → Type 0 = λ z. IsPassing params columns rules initial z (changed || false) (i + 1) in
    subst P (sym (s refl))
    (record { reached = h.reached; less = h.less; fewer = λ k. h.fewer (or_false changed k); settled = λ k. all_more _ rules i rule lt e (h.settled (was_false changed k)) (t refl) })
  where
    or_false : (b : Bool) → b || false ≡ true → b ≡ true
    or_false true k = refl
    or_false false k = k

    was_false : (b : Bool) → b || false ≡ false → b ≡ false
    was_false true k = k
    was_false false k = refl

pub passed_settled : (params : List Ty) (columns : List ColumnSite) (rules : List Rule) (initial reach : Reach) (changed : Bool) (i : ℕ)
    → length rules ≤ i → IsPassing params columns rules initial reach changed i
    → changed ≡ false → AreSettled params columns rules reach
passed_settled params columns rules initial reach changed i le h e = all_there _ rules i le (h.settled e)

pub among_there : (rules : List Rule) (i : ℕ) (default : Rule) → i < length rules → IsAmong rules (get_or rules i default)
among_there [] i default lt = absurd (omega arith)
among_there (first ∷ rules) zero default lt = inl refl
among_there (first ∷ rules) (suc i) default lt = inr (among_there rules i default (omega arith))

pub passing_there : (params : List Ty) (columns : List ColumnSite) (rules : List Rule) (initial reach next : Reach) (changed more : Bool) (i : ℕ) (default : Rule) → i < length rules
    → IsPassing params columns rules initial reach changed i
    → ((all : List Rule) → IsAmong all (get_or rules i default) → IsReached params columns all reach → IsReached params columns all next)
    → (more ≡ true → (all : List Rule) → IsAmong all (get_or rules i default) → IsReached params columns all reach → loose (typing_of columns next) all < loose (typing_of columns reach) all)
    → (more ≡ false → next ≡ reach) → (more ≡ false → is_settled params columns (typing_of columns reach) (get_or rules i default) ≡ true)
    → IsPassing params columns rules initial next (changed || more) (i + 1)
passing_there params columns rules initial reach next changed more i default lt h r f s t =
    passing_more params columns rules initial reach next changed more i (get_or rules i default) lt (get_or_default rules i default (get_or rules i default) lt) h r f s t
