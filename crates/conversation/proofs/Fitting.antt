-- What may be sent is short.
use Rattle.std.proofs.Common.{◌≡◌, ℕ, ◌≤◌, List, length, Option, Some, None, Bool, true, false, nat_lt, refl, arith}
use Rattle.std.specs.Prelude.{encode_utf8_all}
use Rattle.ae_base.specs.Batches.{first_unfit}
use Rattle.ae_base.specs.declared.batches.Batch.{Batch}
use Rattle.conversation.specs.Batches.{unfit_by, why_unfit}

short_by : (unfit : Option (List ℕ)) (n : ℕ) (long : Bool) → nat_lt 65536 n ≡ long → unfit_by unfit long ≡ None → n ≤ 65536
short_by (Some name) n true e h = cc
short_by (Some name) n false e h = cc
short_by None n true e h = cc
short_by None n false e h = grind (arith, e)

-- the text of a batch that may be sent has at most 65,536 bytes
pub fit_is_short : (batch : Batch) → why_unfit batch ≡ None → length (encode_utf8_all batch.text) ≤ 65536
fit_is_short batch h = short_by (first_unfit batch.params) (length (encode_utf8_all batch.text)) (nat_lt 65536 (length (encode_utf8_all batch.text))) refl h

fits_by : (unfit : Option (List ℕ)) (long : Bool) → unfit_by unfit long ≡ None → unfit ≡ None
fits_by (Some name) long h = cc
fits_by None long h = refl

-- and its values fit their types
pub fit_fits : (batch : Batch) → why_unfit batch ≡ None → first_unfit batch.params ≡ None
fit_fits batch h = fits_by (first_unfit batch.params) (nat_lt 65536 (length (encode_utf8_all batch.text))) h
