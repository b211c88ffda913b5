-- What a cell holds, fault by fault.
use Rattle.std.proofs.Common.{◌≡◌, ℕ, List, Bool, true, false, not, eqb, length, Result, Err, if◌then◌else◌, ap, ◌∙◌}
use Rattle.std.specs.Prelude.{slice_index}
use Rattle.std.proofs.lemmas.Bool.{false_from_ne_true}
use Rattle.std.proofs.lemmas.Bool.Decides.{Decides-eqb}
use Rattle.cbc_mode.specs.Cbc.{decrypted_cbc}
use Rattle.cbc_mode.specs.declared.CbcFault.{CbcFault}
use Rattle.hmac_kdf.specs.Keys.{Keys}
use Rattle.cell_codec.specs.Cells.{version, iv_in, ciphertext_in, is_cell_length, is_authentic, opened, content_of}
use Rattle.cell_codec.specs.declared.faults.CellFault.{CellFault}
use Rattle.cell_codec.specs.declared.faults.CellFault.TheVariants as fault

module _ (keys : Keys) (cell : List ℕ) where
  -- the tests in order, and what comes of them
  chosen : Bool → Bool → Bool → Result (List ℕ) CellFault
  chosen versioned long authentic =
      if not versioned then Err fault.BadVersion
      else if not long then Err fault.BadLength
      else if not authentic then Err fault.BadTag
      else opened (decrypted_cbc keys.enc_key (iv_in cell) (ciphertext_in cell))

  pub unsealed-version : ¬ (slice_index cell 0 ≡ version) → content_of keys cell ≡ Err fault.BadVersion
  unfolding content_of chosen
  unsealed-version other =
      let versioned : eqb (slice_index cell 0) version ≡ false =
      false_from_ne_true (eqb (slice_index cell 0) version) (λ e. other ((Decides-eqb (slice_index cell 0) version).0 e)) in
      ap (λ v. chosen v (is_cell_length (length cell)) (is_authentic keys cell)) versioned

  pub unsealed-length : slice_index cell 0 ≡ version → is_cell_length (length cell) ≡ false → content_of keys cell ≡ Err fault.BadLength
  unfolding content_of chosen
  unsealed-length first long =
      ap (λ v. chosen v (is_cell_length (length cell)) (is_authentic keys cell)) ((Decides-eqb (slice_index cell 0) version).1 first)
      ∙ ap (λ l. chosen true l (is_authentic keys cell)) long

  pub unsealed-tag : slice_index cell 0 ≡ version → is_cell_length (length cell) ≡ true
      → is_authentic keys cell ≡ false → content_of keys cell ≡ Err fault.BadTag
  unfolding content_of chosen
  unsealed-tag first long authentic =
      ap (λ v. chosen v (is_cell_length (length cell)) (is_authentic keys cell)) ((Decides-eqb (slice_index cell 0) version).1 first)
      ∙ ap (λ l. chosen true l (is_authentic keys cell)) long
      ∙ ap (chosen true true) authentic

  pub unsealed-opened : slice_index cell 0 ≡ version → is_cell_length (length cell) ≡ true → is_authentic keys cell ≡ true
      → (answer : Result (List ℕ) CbcFault)
      → decrypted_cbc keys.enc_key (iv_in cell) (ciphertext_in cell) ≡ answer → content_of keys cell ≡ opened answer
  unfolding content_of chosen
  unsealed-opened first long authentic answer is =
      ap (λ v. chosen v (is_cell_length (length cell)) (is_authentic keys cell)) ((Decides-eqb (slice_index cell 0) version).1 first)
      ∙ ap (λ l. chosen true l (is_authentic keys cell)) long
      ∙ ap (chosen true true) authentic
      ∙ ap opened is
