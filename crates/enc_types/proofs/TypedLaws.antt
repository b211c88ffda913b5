-- Under what is inferred of a statement its rules hold.
use Rattle.std.proofs.Common.{◌≡◌, ℕ, List, [], ◌∷◌, ◌++◌, refl, ap, sym, ◌∙◌, Option, Some, None, Bool, true, false, Result, Ok, Err}
use Rattle.std.proofs.lemmas.List.{append-nil}
use Rattle.ae_base.specs.declared.types.Ty.{Ty}
use Rattle.ae_base.specs.declared.types.Enc.{Enc}
use Rattle.sql_tree.specs.declared.bound.ColumnSite.{ColumnSite}
use Rattle.sql_tree.specs.Bound.{Bound}
use Rattle.enc_types.specs.Rules.{at_of, rules}
use Rattle.enc_types.specs.Least.{least, has_typing, clash_behind, clash, encs_from, encs_or_clash, inferred_encs}
use Rattle.enc_types.specs.Laws.{IsTypedAs}
use Rattle.enc_types.specs.declared.rules.Rule.{Rule}
use Rattle.enc_types.proofs.Merging.{has_typing-Decides, least_is_typing}
use Rattle.enc_types.proofs.Clashes.{none_typed, step_typed, step_untyped, push_append}

module _ (params : List Ty) (columns : List ColumnSite) where
  typed_to_end : (before rules : List Rule) → has_typing params columns before ≡ true → clash_behind params columns before rules ≡ None → has_typing params columns (before ++ rules) ≡ true
  typed_to_end before [] h e = ap (has_typing params columns) (append-nil before) ∙ h
  typed_to_end before (rule ∷ rules) h e = go (has_typing params columns (before ++ rule ∷ [])) refl (typed_to_end (before ++ rule ∷ []) rules)
    where
      go : (b : Bool) → has_typing params columns (before ++ rule ∷ []) ≡ b
          → (has_typing params columns (before ++ rule ∷ []) ≡ true → clash_behind params columns (before ++ rule ∷ []) rules ≡ None
          → has_typing params columns ((before ++ rule ∷ []) ++ rules) ≡ true)
          → has_typing params columns (before ++ rule ∷ rules) ≡ true
      go true t more = ap (has_typing params columns) (sym (push_append params columns before rule rules)) ∙ more t (sym (step_typed params columns before rule rules t) ∙ e)
      go false t more = let k : Some (at_of rule) ≡ None = sym (step_untyped params columns before rule rules t) ∙ e in absurd cc

pub none_of : (encs given : List Enc) (found : Option ℕ) → encs_or_clash encs found ≡ Ok given → found ≡ None
none_of encs given None e = refl
none_of encs given (Some at) e = absurd cc

abbrev ok_of : List Enc → Result (List Enc) ℕ → List Enc
ok_of default (Ok encs) = encs
ok_of default (Err at) = default

pub typed_as : (b : Bound) (encs : List Enc) → inferred_encs b ≡ Ok encs → IsTypedAs b encs
unfolding inferred_encs
typed_as b encs e =
    let found = none_of (encs_from (least b.columns (rules b)) 0 b.params) encs (clash b.params b.columns (rules b)) e in
    let typed : has_typing b.params b.columns (rules b) ≡ true = typed_to_end b.params b.columns [] (rules b) (none_typed b.params b.columns) found in
    record {
      typing = least_is_typing b.params b.columns (rules b) ((has_typing-Decides b.params b.columns (rules b)).0 typed);
      given = sym (ap (ok_of encs) (ap (encs_or_clash (encs_from (least b.columns (rules b)) 0 b.params)) (sym found) ∙ e));
    }
