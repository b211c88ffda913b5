-- An item that leaves a list for the end of another.
use Rattle.std.proofs.Common.{◌≡◌, List, [], ◌∷◌, ◌++◌, map, sym, ap, ◌∙◌, append_assoc}

pub moved : {A : Type 0} (front whole : List A) (x : A) (before after : List A) → front ++ before ≡ whole → before ≡ x ∷ after → (front ++ x ∷ []) ++ after ≡ whole
moved front whole x before after w e = append_assoc front (x ∷ []) after ∙ ap (λ rest. front ++ rest) (sym e) ∙ w

pub moved_as : {A B : Type 0} (f : A → B) (front whole : List B) (x : A) (before after : List A) → front ++ map f before ≡ whole → before ≡ x ∷ after → (front ++ f x ∷ []) ++ map f after ≡ whole
moved_as f front whole x before after w e = append_assoc front (f x ∷ []) (map f after) ∙ ap (λ rest. front ++ map f rest) (sym e) ∙ w
