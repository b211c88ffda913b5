-- What a description says of a batch.
use Rattle.std.proofs.Common.{◌≡◌, ℕ, ◌≤◌, List, Some, length, map, sym, ap, ◌∙◌, subst}
use Rattle.std.specs.Prelude.{Option, None, IsTrue}
use Rattle.ae_base.specs.Names.{all_differ}
use Rattle.ae_base.specs.declared.batches.Batch.{Batch}
use Rattle.ae_base.specs.declared.keys.KeyMeta.{KeyMeta}
use Rattle.ae_base.specs.declared.batches.Param.{Param}
use Rattle.ae_base.specs.declared.types.Enc.{Enc}
use Rattle.wire_messages.specs.declared.params.UsedParam.{UsedParam}
use Rattle.wire_messages.specs.KeyLists.{AreTheKeysOf}
use Rattle.conversation.specs.Batches.{why_unfit}
use Rattle.std.proofs.lemmas.List.{length-map}
use Rattle.std.proofs.Common.{arith}
use Rattle.conversation.specs.Pending.{IsPending, Use, uses_in}
use Rattle.conversation.specs.Sessions.{encs_of}
use Rattle.driver.specs.Listed.{AreListed}
use Rattle.driver.proofs.Listing.{are_uses, keys_listed, encs_in}

pub uses_listed : (params : List Param) (used : List UsedParam) (encs : List (Option Enc)) (keys : List KeyMeta) → encs_of params used ≡ Some encs → AreTheKeysOf (map (λ u. u.enc) used) keys
    → AreListed keys (encs_in (uses_in params encs))
uses_listed params used encs keys e h =
    let u = are_uses params used encs e in
    keys_listed (encs_in (uses_in params encs)) keys (subst (λ es. AreTheKeysOf es keys) (sym u.sorts) h)

pub found_as : (batch : Batch) (version : ℕ) (keys : List KeyMeta) (used : List UsedParam) (encs : List (Option Enc))
    → why_unfit batch ≡ None → encs_of batch.params used ≡ Some encs → AreTheKeysOf (map (λ u. u.enc) used) keys
    → length used ≤ 128 → IsTrue (all_differ (map (λ u. u.name) used))
    → IsPending (record { batch = batch; version = version; keys = keys; encs = encs })
found_as batch version keys used encs fit e h few differ =
    let u = are_uses batch.params used encs e in
    record {
      fit = fit;
      each = u.long;
      keyed = subst (λ es. AreTheKeysOf es keys) (sym u.sorts) h;
      few = let n = ap length u.names in let a = length-map (uses_in batch.params encs) (λ (u : Use). u.param.declaration.name) in let b = length-map used (λ (u : UsedParam). u.name) in omega arith;
      differ = subst (λ names. IsTrue (all_differ names)) (sym u.names) differ;
    }

pub found_encs : (params ps : List Param) (used us : List UsedParam) (x : Option (List (Option Enc))) (encs : List (Option Enc))
    → ps ≡ params → us ≡ used → x ≡ encs_of ps us → x ≡ Some encs → encs_of params used ≡ Some encs
found_encs params ps used us x encs p u e is = ap (λ zs. encs_of zs used) (sym p) ∙ ap (encs_of ps) (sym u) ∙ sym e ∙ is
