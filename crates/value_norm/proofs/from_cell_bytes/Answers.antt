-- The bytes have one value of the type's kind at most.
use Rattle.std.proofs.Common.{Err, refl, sym, ap, ◌∙◌}
use Rattle.std.proofs.lemmas.Bool.{false≢true}
use Rattle.std.proofs.lemmas.Result.{err_from_is_err_and}
use Rattle.value_norm.proofs.Inverse.{value_of-complete, value_of-none}
use Rattle.value_norm.proofs.Norms.{cell_bytes_once, out_of_bound}
use Rattle.value_norm.proofs.from_cell_bytes.Goals as goal

pub returns-in_err-datum-clause-computed : goal.returns-in_err-datum-clause-computed
returns-in_err-datum-clause-computed c =
    let p = err_from_is_err_and c.from_residual.result c.from_residual.ensures.1 in
    rw p.1 (λ e. value_of-none _ _ (c.in_err-datum.ensures.not_normal (ap Err (sym p.2 ∙ e))))

pub returns-then-fits-clause-the_one : goal.returns-then-fits-clause-the_one
returns-then-fits-clause-the_one c = λ datum has. cell_bytes_once _ datum _ _ c.in_ok-datum.ensures.value has

pub returns-then-fits-clause-computed : goal.returns-then-fits-clause-computed
returns-then-fits-clause-computed c =
    value_of-complete _ _ _ (record { fits = c.if-fits.ensures.fits.0 refl; spelled = c.in_ok-datum.ensures.value.spelled })

pub returns-else-fits-clause-not_normal : goal.returns-else-fits-clause-not_normal
returns-else-fits-clause-not_normal c =
    λ _ datum has. out_of_bound _ datum _ _ c.in_ok-datum.ensures.value (λ fits. false≢true (c.if-fits.ensures.fits.1 fits)) has

pub returns-else-fits-clause-computed : goal.returns-else-fits-clause-computed
returns-else-fits-clause-computed c =
    λ _. value_of-none _ _ (λ datum has. out_of_bound _ datum _ _ c.in_ok-datum.ensures.value (λ fits. false≢true (c.if-fits.ensures.fits.1 fits)) has)
