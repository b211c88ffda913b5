-- Settings, each once in any order.
use Rattle.std.proofs.Common.{◌≡◌, ℕ, List, [], ◌∷◌, ◌++◌, length, Option, None, refl, sym, ◌∙◌, ap, arith, length-append}
use Rattle.sql_grammar.specs.declared.settings.MasterSetting.{MasterSetting}
use Rattle.sql_grammar.specs.declared.settings.MasterSetting.TheVariants as master
use Rattle.sql_grammar.specs.declared.settings.KeySetting.{KeySetting}
use Rattle.sql_grammar.specs.declared.settings.KeySetting.TheVariants as setting
use Rattle.sql_grammar.specs.Making.{key_in, path_in}

-- the items that are taken from the end, where no more are left
pub two_items : {A : Type 0} (all a b : List A) (x y : A) → length all ≡ 2 → all ≡ a ++ y ∷ [] → a ≡ b ++ x ∷ [] → all ≡ x ∷ y ∷ []
two_items all a [] x y h e f = e ∙ ap (λ zs. zs ++ y ∷ []) f
two_items all a (w ∷ b) x y h e f = absurd (omega (arith, ap length e, ap length f, length-append a (y ∷ []), length-append (w ∷ b) (x ∷ [])))

pub three_items : {A : Type 0} (all a b d : List A) (x y z : A) → length all ≡ 3 → all ≡ a ++ z ∷ [] → a ≡ b ++ y ∷ [] → b ≡ d ++ x ∷ [] → all ≡ x ∷ y ∷ z ∷ []
three_items all a b [] x y z h e f g = e ∙ ap (λ us. us ++ z ∷ []) (f ∙ ap (λ us. us ++ y ∷ []) g)
three_items all a b (w ∷ d) x y z h e f g = absurd (omega (arith, ap length e, ap length f, ap length g, length-append a (z ∷ []), length-append b (y ∷ []), length-append (w ∷ d) (x ∷ [])))

pub no_path : (settings : List MasterSetting) → (length settings ≡ 2 → ⊥) → path_in settings ≡ None
no_path (master.Provider ∷ master.Path path ∷ []) h = absurd (h refl)
no_path (master.Path path ∷ master.Provider ∷ []) h = absurd (h refl)
no_path other h = refl

pub no_key : {V : Type 0} (settings : List (KeySetting V)) → (length settings ≡ 3 → ⊥) → key_in settings ≡ None
no_key (setting.Key name ∷ setting.Algorithm ∷ setting.Value v ∷ []) h = absurd (h refl)
no_key (setting.Key name ∷ setting.Value v ∷ setting.Algorithm ∷ []) h = absurd (h refl)
no_key (setting.Algorithm ∷ setting.Key name ∷ setting.Value v ∷ []) h = absurd (h refl)
no_key (setting.Algorithm ∷ setting.Value v ∷ setting.Key name ∷ []) h = absurd (h refl)
no_key (setting.Value v ∷ setting.Key name ∷ setting.Algorithm ∷ []) h = absurd (h refl)
no_key (setting.Value v ∷ setting.Algorithm ∷ setting.Key name ∷ []) h = absurd (h refl)
no_key other h = refl

pub path_in_two : (all a b : List MasterSetting) (x y : MasterSetting) (path : Option (List ℕ)) → length all ≡ 2
    → all ≡ a ++ y ∷ [] → a ≡ b ++ x ∷ [] → path ≡ path_in (x ∷ y ∷ []) → path ≡ path_in all
path_in_two all a b x y path h e f p = p ∙ sym (ap path_in (two_items all a b x y h e f))

pub key_in_three : {V : Type 0} (all a b d : List (KeySetting V)) (x y z : KeySetting V) (key : Option (List ℕ × V)) → length all ≡ 3 → all ≡ a ++ z ∷ [] → a ≡ b ++ y ∷ [] → b ≡ d ++ x ∷ []
    → key ≡ key_in (x ∷ y ∷ z ∷ []) → key ≡ key_in all
key_in_three all a b d x y z key h e f g p = p ∙ sym (ap key_in (three_items all a b d x y z h e f g))
