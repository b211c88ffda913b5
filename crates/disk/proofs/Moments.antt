-- One call after another: what a crash leaves at each moment.
use Rattle.std.proofs.Common.{ℕ, zero, suc, List, [], ◌∷◌, ◌++◌, sym, ap, ◌∙◌, subst, append_assoc, append-nil, arith}
use Rattle.std.specs.List.{All}
use Rattle.std.proofs.lemmas.List.Elements.{All-nil, All-cons, All-append, All-weaker}
use Rattle.disk.specs.Crashes.{Stand}
use Rattle.disk.specs.Moments.{Moments, Passes, LeavesNow, Leaves, StaysOrSyncs, OnlySyncs, NoCall, OneMore}

-- no call
pub leaves_none : (P : List ℕ → Type 0) (disk : Moments) → LeavesNow P disk.now → Leaves P disk disk
leaves_none P disk now = record {
  since = [];
  grew = sym (append-nil disk.past);
  each = All-cons (LeavesNow P) disk.now [] now (All-nil (LeavesNow P));
}

-- one stretch of calls, and another
pub leaves_then : (P : List ℕ → Type 0) (a b c : Moments) → Leaves P a b → Leaves P b c → Leaves P a c
leaves_then P a b c p q = record {
  since = p.since ++ q.since;
  grew = q.grew ∙ ap (λ (w : List Stand). w ++ q.since) p.grew ∙ append_assoc a.past p.since q.since;
  each = subst (All (LeavesNow P)) (sym (append_assoc p.since q.since (c.now ∷ [])))
      (All-append (LeavesNow P) p.since (q.since ++ c.now ∷ []) (before (LeavesNow P) p.since (b.now ∷ []) p.each) q.each);
}
  where
    before : (Q : Stand → Type 0) (xs ys : List Stand) → All Q (xs ++ ys) → All Q xs
    before Q [] ys all = All-nil Q
    before Q (x ∷ xs) ys all = All-cons Q x xs (all zero x (omega arith)) (before Q xs ys (λ k d less. all (suc k) d (omega arith)))

-- one call more
pub leaves_pass : (P : List ℕ → Type 0) (Q : Stand → Stand → Type 0) (a b c : Moments) → Leaves P a b → Passes Q b c → LeavesNow P c.now → Leaves P a c
leaves_pass P Q a b c p q now = record {
  since = p.since ++ b.now ∷ [];
  grew = q.past ∙ ap (λ (w : List Stand). w ++ b.now ∷ []) p.grew ∙ append_assoc a.past p.since (b.now ∷ []);
  each = All-append (LeavesNow P) (p.since ++ b.now ∷ []) (c.now ∷ []) p.each (All-cons (LeavesNow P) c.now [] now (All-nil (LeavesNow P)));
}

pub leaves_weaker : (P Q : List ℕ → Type 0) (a b : Moments) → ((image : List ℕ) → P image → Q image) → Leaves P a b → Leaves Q a b
leaves_weaker P Q a b f p = record {
  since = p.since;
  grew = p.grew;
  each = All-weaker (LeavesNow P) (LeavesNow Q) (λ stand leaves image is. f image (leaves image is)) (p.since ++ b.now ∷ []) p.each;
}

-- at the last moment too
pub leaves_last : (P : List ℕ → Type 0) (a b : Moments) → Leaves P a b → LeavesNow P b.now
leaves_last P a b p = last p.since b.now p.each
  where
    last : (xs : List Stand) (x : Stand) → All (LeavesNow P) (xs ++ x ∷ []) → LeavesNow P x
    last [] x all = all zero x (omega arith)
    last (y ∷ xs) x all = last xs x (λ k d less. all (suc k) d (omega arith))

-- ---- a file that is left as it is

-- a call that is known to be a read or a sync
pub syncs_pass : (Q : Stand → Stand → Type 0) (a b c : Moments) → OnlySyncs a b → Passes Q b c → StaysOrSyncs b.now c.now → OnlySyncs a c
syncs_pass Q a b c p q here = OneMore b c p (record { past = q.past; here = here; was_image = q.was_image; is_image = q.is_image })

-- one stretch of such calls, and another
pub syncs_then : (a b c : Moments) → OnlySyncs a b → OnlySyncs b c → OnlySyncs a c
syncs_then a b _ p NoCall = p
syncs_then a b _ p (OneMore between c q last) = OneMore between c (syncs_then a b between p q) last
