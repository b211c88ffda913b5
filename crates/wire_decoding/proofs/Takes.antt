-- What is read is spelled so, and what is spelled so is read, whatever follows: the two laws of a part, and how they go
-- together from part to part.
use Rattle.std.proofs.Common.{
  ◌≡◌,
  ◌⊎◌,
  ℕ,
  zero,
  suc,
  ◌+◌,
  ◌<◌,
  Bool,
  true,
  false,
  cond,
  eqb,
  List,
  [],
  ◌∷◌,
  ◌++◌,
  length,
  get_or,
  take,
  drop,
  Option,
  Some,
  None,
  refl,
  sym,
  ap,
  subst,
  ◌∙◌,
  append_assoc,
  arith,
  inl,
  inr,
}
use Rattle.std.specs.List.{All, flat_map}
use Rattle.std.proofs.lemmas.Bool.{cases_lt, eqb-true}
use Rattle.std.proofs.lemmas.List.{append-nil, nil_from_length, get_or-drop, get_or-take, get_or_past, length-take, take_at}
use Rattle.std.proofs.lemmas.List.Elements.{All-nil, All-cons, All-head, All-tail}
use Rattle.ae_base.specs.Options.{◌>>=◌}
use Rattle.wire_decoding.specs.Reading.{Reader, only, ◌and◌, mapped, tried, when, kept, pick, choice, parts_at, listed, whole, ends}

-- ---- bytes

abbrev pub AreBytes : List ℕ → Type 0
AreBytes bytes = (i : ℕ) → get_or bytes i 0 < 256

pub AreBytes-drop : (n : ℕ) (bytes : List ℕ) → AreBytes bytes → AreBytes (drop n bytes)
AreBytes-drop n bytes h i = rw get_or-drop (h (n + i))

pub AreBytes-take : (n : ℕ) (bytes : List ℕ) → AreBytes bytes → AreBytes (take n bytes)
AreBytes-take n bytes h i =
    elim (cases_lt i n) [
      | inl lt ↦ rw (get_or-take n bytes i 0 lt) (h i)
      | inr le ↦ rw (get_or_past (take n bytes) i 0 (omega (arith, length-take n bytes))) (omega arith)
    ]

pub AreBytes-rest : (b : ℕ) (bytes : List ℕ) → AreBytes (b ∷ bytes) → AreBytes bytes
AreBytes-rest b bytes h i = h (suc i)

-- ---- options

pub bind_some : {A B : Type 0} (r : Option A) (f : A → Option B) (y : B) → (r >>= f) ≡ Some y → (x : A) × (r ≡ Some x) × (f x ≡ Some y)
bind_some (Some x) f y e = (x, refl, e)
bind_some None f y e = absurd cc

pub cond_some : {A : Type 0} (b : Bool) (x y : A) → cond b (Some x) None ≡ Some y → (b ≡ true) × (x ≡ y)
cond_some true x y e = (refl, cc)
cond_some false x y e = absurd cc

pub guard_some : {A : Type 0} (b : Bool) (x y : A) → cond b None (Some x) ≡ Some y → (b ≡ false) × (x ≡ y)
guard_some true x y e = absurd cc
guard_some false x y e = (refl, cc)

abbrev pub some : {A : Type 0} → A → Option A
some x = Some x

pub some_is : {A : Type 0} (x y : A) → some x ≡ some y → x ≡ y
some_is x y e = cc

pub when_is : {A : Type 0} (test : A → Bool) (x : A) → test x ≡ true → when test x ≡ Some x
when_is test x h = rw h refl

-- which way a test went
pub chosen : {A : Type 0} (b : Bool) (x y z : A) → cond b x y ≡ z → ((b ≡ true) × (x ≡ z)) ⊎ ((b ≡ false) × (y ≡ z))
chosen true x y z e = inl (refl, e)
chosen false x y z e = inr (refl, e)

-- ---- the two laws of a part

-- some bytes are a text, and bytes after it
pub record Takes (bytes text rest : List ℕ) : Type 0 where
  pub parts : bytes ≡ text ++ rest
  pub rest_fits : AreBytes rest

pub Takes-then : (a x b y c : List ℕ) → Takes a x b → Takes b y c → Takes a (x ++ y) c
Takes-then a x b y c p q = record { parts = p.parts ∙ ap (λ t. x ++ t) q.parts ∙ sym (append_assoc x y c); rest_fits = q.rest_fits }

pub record Reads {A : Type 0} (spell : A → List ℕ) (Good : A → Type 0) (read : Reader A) : Type 0 where
  pub takes : (bytes : List ℕ) (x : A × List ℕ) → AreBytes bytes → read bytes ≡ Some x → Takes bytes (spell x.0) x.1 × Good x.0
  pub again : (a : A) (rest : List ℕ) → Good a → read (spell a ++ rest) ≡ Some (a, rest)

-- what was read has bytes
pub Reads-bytes : {A : Type 0} (spell : A → List ℕ) (P Q : A → Type 0) (read : Reader A)
    → ((a : A) → P a → AreBytes (spell a) → Q a) → ((a : A) → Q a → P a) → Reads spell P read → Reads spell Q read
Reads-bytes spell P Q read there back r = record {
  takes = λ bytes x fits e.
      let t = r.takes bytes x fits e in
      let prefix : take (length (spell x.0)) bytes ≡ spell x.0 = ap (take (length (spell x.0))) t.0.parts ∙ take_at (spell x.0) x.1 (length (spell x.0)) refl in
      (t.0, there x.0 t.1 (subst AreBytes prefix (AreBytes-take (length (spell x.0)) bytes fits)));
  again = λ a rest good. r.again a rest (back a good);
}

-- ---- one after another

pub Reads-and : {A B : Type 0} (sa : A → List ℕ) (Ga : A → Type 0) (ra : Reader A) (sb : B → List ℕ) (Gb : B → Type 0) (rb : Reader B)
    → Reads sa Ga ra → Reads sb Gb rb → Reads (λ (p : A × B). sa p.0 ++ sb p.1) (λ p. Ga p.0 × Gb p.1) (ra and rb)
Reads-and {A} {B} sa Ga ra sb Gb rb a b = record {
  takes = λ bytes z fits e.
      let p = bind_some (ra bytes) (λ x. rb x.1 >>= λ y. Some ((x.0, y.0), y.1)) z e in
      let q = bind_some (rb p.0.1) (λ y. Some ((p.0.0, y.0), y.1)) z p.2 in
      let s = a.takes bytes p.0 fits p.1 in
      let t = b.takes p.0.1 q.0 s.0.rest_fits q.1 in
      let both : (A × B) × List ℕ = ((p.0.0, q.0.0), q.0.1) in
      subst (λ (w : (A × B) × List ℕ). Takes bytes (sa w.0.0 ++ sb w.0.1) w.1 × (Ga w.0.0 × Gb w.0.1)) (some_is both z q.2)
      (Takes-then bytes (sa p.0.0) p.0.1 (sb q.0.0) q.0.1 s.0 t.0, (s.1, t.1));
  again = λ c rest good.
      rw (append_assoc (sa c.0) (sb c.1) rest, a.again c.0 (sb c.1 ++ rest) good.0, b.again c.1 rest good.1) refl;
}

-- ---- what is made of what was read

pub Reads-tried : {A B : Type 0} (sa : A → List ℕ) (Ga : A → Type 0) (ra : Reader A) (f : A → Option B) (sb : B → List ℕ) (Gb : B → Type 0)
    → ((x : A) (y : B) → Ga x → f x ≡ Some y → (sb y ≡ sa x) × Gb y)
    → ((y : B) → Gb y → (x : A) × Ga x × (f x ≡ Some y) × (sb y ≡ sa x))
    → Reads sa Ga ra → Reads sb Gb (tried f ra)
Reads-tried {A} {B} sa Ga ra f sb Gb there back r = record {
  takes = λ bytes z fits e.
      let p = bind_some (ra bytes) (λ x. f x.0 >>= λ y. Some (y, x.1)) z e in
      let q = bind_some (f p.0.0) (λ y. Some (y, p.0.1)) z p.2 in
      let s = r.takes bytes p.0 fits p.1 in
      let t = there p.0.0 q.0 s.1 q.1 in
      let made : B × List ℕ = (q.0, p.0.1) in
      subst (λ (w : B × List ℕ). Takes bytes (sb w.0) w.1 × Gb w.0) (some_is made z q.2) (rw t.0 s.0, t.1);
  again = λ y rest good. let b = back y good in rw (b.3, r.again b.0 rest b.1, b.2) refl;
}

pub Reads-kept : {A : Type 0} (spell : A → List ℕ) (P Q : A → Type 0) (read : Reader A) (test : A → Bool)
    → ((a : A) → P a → test a ≡ true → Q a) → ((a : A) → Q a → P a × (test a ≡ true)) → Reads spell P read → Reads spell Q (kept test read)
Reads-kept spell P Q read test there back r =
    Reads-tried spell P read (when test) spell Q
    (λ x y g e. let c = cond_some (test x) x y e in subst (λ z. (spell z ≡ spell x) × Q z) c.1 (refl, there x g c.0))
    (λ y g. let b = back y g in (y, b.0, when_is test y b.1, refl))
    r

pub Reads-mapped : {A B : Type 0} (sa : A → List ℕ) (Ga : A → Type 0) (ra : Reader A) (f : A → B) (g : B → A) (sb : B → List ℕ) (Gb : B → Type 0)
    → ((x : A) → sb (f x) ≡ sa x) → ((y : B) → f (g y) ≡ y) → ((x : A) → Ga x → Gb (f x)) → ((y : B) → Gb y → Ga (g y))
    → Reads sa Ga ra → Reads sb Gb (mapped f ra)
Reads-mapped {A} {B} sa Ga ra f g sb Gb same whole there back r =
    Reads-tried sa Ga ra (λ x. Some (f x)) sb Gb
    (λ x y h e. subst (λ z. (sb z ≡ sa x) × Gb z) (some_is (f x) y e) (same x, there x h))
    (λ y h. (g y, back y h, ap some (whole y), ap sb (sym (whole y)) ∙ same (g y)))
    r

pub mapped_again : {A B : Type 0} (sa : A → List ℕ) (Ga : A → Type 0) (ra : Reader A) → Reads sa Ga ra → (f : A → B) (x : A) (rest : List ℕ) → Ga x
    → mapped f ra (sa x ++ rest) ≡ Some (f x, rest)
mapped_again sa Ga ra r f x rest good = rw (r.again x rest good) refl

pub tried_again : {A B : Type 0} (sa : A → List ℕ) (Ga : A → Type 0) (ra : Reader A) → Reads sa Ga ra → (f : A → Option B) (x : A) (y : B) (rest : List ℕ) → Ga x → f x ≡ Some y
    → tried f ra (sa x ++ rest) ≡ Some (y, rest)
tried_again sa Ga ra r f x y rest good e = rw (r.again x rest good, e) refl

-- ---- by a first byte

-- what a reader reads after a byte is spelled with it
pub record TakesBehind {A : Type 0} (spell : A → List ℕ) (Good : A → Type 0) (tag : ℕ) (read : Reader A) : Type 0 where
  pub takes : (bytes : List ℕ) (x : A × List ℕ) → AreBytes bytes → read bytes ≡ Some x → Takes (tag ∷ bytes) (spell x.0) x.1 × Good x.0

abbrev pub AllTake : {A : Type 0} → (A → List ℕ) → (A → Type 0) → List (ℕ × Reader A) → Type 0
AllTake spell Good [] = Unit {0}
AllTake spell Good (entry ∷ entries) = TakesBehind spell Good entry.0 entry.1 × AllTake spell Good entries

infixr 20 ◌also◌
abbrev pub ◌also◌ : {A B : Type 0} → A → B → A × B
a also b = (a, b)

pub behind_tried : {A B : Type 0} (sa : A → List ℕ) (Ga : A → Type 0) (ra : Reader A) → Reads sa Ga ra → (f : A → Option B) (spell : B → List ℕ) (Good : B → Type 0) (tag : ℕ)
    → ((x : A) (y : B) → Ga x → f x ≡ Some y → (spell y ≡ tag ∷ sa x) × Good y) → TakesBehind spell Good tag (tried f ra)
behind_tried {A} {B} sa Ga ra r f spell Good tag there = record {
  takes = λ bytes z fits e.
      let p = bind_some (ra bytes) (λ x. f x.0 >>= λ y. Some (y, x.1)) z e in
      let q = bind_some (f p.0.0) (λ y. Some (y, p.0.1)) z p.2 in
      let s = r.takes bytes p.0 fits p.1 in
      let t = there p.0.0 q.0 s.1 q.1 in
      let made : B × List ℕ = (q.0, p.0.1) in
      subst (λ (w : B × List ℕ). Takes (tag ∷ bytes) (spell w.0) w.1 × Good w.0) (some_is made z q.2)
      (rw t.0 (record { parts = ap (λ t. tag ∷ t) s.0.parts; rest_fits = s.0.rest_fits }), t.1);
}

pub behind : {A B : Type 0} (sa : A → List ℕ) (Ga : A → Type 0) (ra : Reader A) → Reads sa Ga ra → (f : A → B) (spell : B → List ℕ) (Good : B → Type 0) (tag : ℕ)
    → ((x : A) → Ga x → spell (f x) ≡ tag ∷ sa x) → ((x : A) → Ga x → Good (f x)) → TakesBehind spell Good tag (mapped f ra)
behind sa Ga ra r f spell Good tag same there =
    behind_tried sa Ga ra r (λ x. Some (f x)) spell Good tag (λ x y h e. subst (λ z. (spell z ≡ tag ∷ sa x) × Good z) (some_is (f x) y e) (same x h, there x h))

pub alone : {A : Type 0} (spell : A → List ℕ) (Good : A → Type 0) (tag : ℕ) (a : A) → spell a ≡ tag ∷ [] → Good a → TakesBehind spell Good tag (only a)
alone {A} spell Good tag a same good = record {
  takes = λ bytes z fits e.
      let made : A × List ℕ = (a, bytes) in
      subst (λ (w : A × List ℕ). Takes (tag ∷ bytes) (spell w.0) w.1 × Good w.0) (some_is made z e)
      (rw same (record { parts = refl; rest_fits = fits }), good);
}

pub pick_takes : {A : Type 0} (spell : A → List ℕ) (Good : A → Type 0) (entries : List (ℕ × Reader A)) → AllTake spell Good entries → (tag : ℕ) (bytes : List ℕ) (x : A × List ℕ)
    → AreBytes bytes → pick entries tag bytes ≡ Some x → Takes (tag ∷ bytes) (spell x.0) x.1 × Good x.0
pick_takes spell Good [] all tag bytes x fits e = absurd cc
pick_takes spell Good (entry ∷ entries) all tag bytes x fits e =
    elim (chosen (eqb tag entry.0) (entry.1 bytes) (pick entries tag bytes) (Some x) e) [
      | inl c ↦ let t = all.0.takes bytes x fits c.1 in (subst (λ k. Takes (k ∷ bytes) (spell x.0) x.1) (sym (eqb-true tag entry.0 c.0)) t.0, t.1)
      | inr c ↦ pick_takes spell Good entries all.1 tag bytes x fits c.1
    ]

choice_takes : {A : Type 0} (spell : A → List ℕ) (Good : A → Type 0) (entries : List (ℕ × Reader A)) → AllTake spell Good entries → (bytes : List ℕ) (x : A × List ℕ)
    → AreBytes bytes → choice entries bytes ≡ Some x → Takes bytes (spell x.0) x.1 × Good x.0
choice_takes spell Good entries all [] x fits e = absurd cc
choice_takes spell Good entries all (tag ∷ bytes) x fits e = pick_takes spell Good entries all tag bytes x (AreBytes-rest tag bytes fits) e

pub Reads-choice : {A : Type 0} (spell : A → List ℕ) (Good : A → Type 0) (entries : List (ℕ × Reader A)) → AllTake spell Good entries
    → ((a : A) (rest : List ℕ) → Good a → choice entries (spell a ++ rest) ≡ Some (a, rest)) → Reads spell Good (choice entries)
Reads-choice spell Good entries all again = record { takes = choice_takes spell Good entries all; again = again }

-- ---- bodies, which end with what is read

pub whole_takes : {A : Type 0} (spell : A → List ℕ) (Good : A → Type 0) (read : Reader A) → Reads spell Good read → (bytes : List ℕ) (a : A) → AreBytes bytes → whole read bytes ≡ Some a
    → (bytes ≡ spell a) × Good a
whole_takes spell Good read r bytes a fits e =
    let p = bind_some (read bytes) (λ x. cond (eqb (length x.1) 0) (Some x.0) None) a e in
    let c = cond_some (eqb (length p.0.1) 0) p.0.0 a p.2 in
    let t = r.takes bytes p.0 fits p.1 in
    let none : p.0.1 ≡ [] = nil_from_length p.0.1 (eqb-true (length p.0.1) 0 c.0) in
    subst (λ b. (bytes ≡ spell b) × Good b) c.1 (t.0.parts ∙ ap (λ x. spell p.0.0 ++ x) none ∙ append-nil (spell p.0.0), t.1)

pub whole_again : {A : Type 0} (spell : A → List ℕ) (Good : A → Type 0) (read : Reader A) → Reads spell Good read → (a : A) → Good a → whole read (spell a) ≡ Some a
whole_again spell Good read r a good = ap (whole read) (sym (append-nil (spell a))) ∙ rw (r.again a [] good) refl

pub ends_again : {A B : Type 0} (spell : A → List ℕ) (Good : A → Type 0) (read : Reader A) → Reads spell Good read → (f : A → B) (a : A) → Good a → ends f read (spell a) ≡ Some (f a)
ends_again spell Good read r f a good = rw (whole_again spell Good read r a good) refl

-- what a body's reader reads after a byte is spelled with it
pub record TakesBody {A : Type 0} (tag_of : A → ℕ) (spell : A → List ℕ) (Good : A → Type 0) (tag : ℕ) (read : List ℕ → Option A) : Type 0 where
  pub takes : (bytes : List ℕ) (a : A) → AreBytes bytes → read bytes ≡ Some a → (tag ≡ tag_of a) × (bytes ≡ spell a) × Good a

abbrev pub AllTakeBodies : {A : Type 0} → (A → ℕ) → (A → List ℕ) → (A → Type 0) → List (ℕ × (List ℕ → Option A)) → Type 0
AllTakeBodies tag_of spell Good [] = Unit {0}
AllTakeBodies tag_of spell Good (entry ∷ entries) = TakesBody tag_of spell Good entry.0 entry.1 × AllTakeBodies tag_of spell Good entries

pub ended_body : {A B : Type 0} (sa : A → List ℕ) (Ga : A → Type 0) (ra : Reader A) → Reads sa Ga ra → (f : A → B) (tag_of : B → ℕ) (spell : B → List ℕ) (Good : B → Type 0) (tag : ℕ)
    → ((x : A) → tag ≡ tag_of (f x)) → ((x : A) → sa x ≡ spell (f x)) → ((x : A) → Ga x → Good (f x)) → TakesBody tag_of spell Good tag (ends f ra)
ended_body sa Ga ra r f tag_of spell Good tag tagged same there = record {
  takes = λ bytes z fits e.
      let p = bind_some (whole ra bytes) (λ x. Some (f x)) z e in
      let t = whole_takes sa Ga ra r bytes p.0 fits p.1 in
      subst (λ b. (tag ≡ tag_of b) × (bytes ≡ spell b) × Good b) (some_is (f p.0) z p.2) (tagged p.0, t.0 ∙ same p.0, there p.0 t.1);
}

pub pick_body : {A : Type 0} (tag_of : A → ℕ) (spell : A → List ℕ) (Good : A → Type 0) (entries : List (ℕ × (List ℕ → Option A))) → AllTakeBodies tag_of spell Good entries
    → (tag : ℕ) (bytes : List ℕ) (a : A) → AreBytes bytes → pick entries tag bytes ≡ Some a → (tag ≡ tag_of a) × (bytes ≡ spell a) × Good a
pick_body tag_of spell Good [] all tag bytes a fits e = absurd cc
pick_body tag_of spell Good (entry ∷ entries) all tag bytes a fits e =
    elim (chosen (eqb tag entry.0) (entry.1 bytes) (pick entries tag bytes) (Some a) e) [
      | inl c ↦ let t = all.0.takes bytes a fits c.1 in (eqb-true tag entry.0 c.0 ∙ t.0, t.1, t.2)
      | inr c ↦ pick_body tag_of spell Good entries all.1 tag bytes a fits c.1
    ]

-- ---- so many parts

pub parts_take : {A : Type 0} (spell : A → List ℕ) (Good : A → Type 0) (part : Reader A) → Reads spell Good part → (n : ℕ) (bytes : List ℕ) (x : List A × List ℕ)
    → AreBytes bytes → parts_at part n bytes ≡ Some x → Takes bytes (flat_map spell x.0) x.1 × (length x.0 ≡ n) × All Good x.0
unfolding parts_at
parts_take {A} spell Good part r zero bytes x fits e =
    subst (λ (y : List A × List ℕ). Takes bytes (flat_map spell y.0) y.1 × (length y.0 ≡ 0) × All Good y.0) (some_is ([], bytes) x e) (record { parts = refl; rest_fits = fits }, refl, All-nil Good)
parts_take {A} spell Good part r (suc n) bytes x fits e =
    let p = bind_some (part bytes) (λ first. parts_at part n first.1 >>= λ others. Some (first.0 ∷ others.0, others.1)) x e in
    let q = bind_some (parts_at part n p.0.1) (λ others. Some (p.0.0 ∷ others.0, others.1)) x p.2 in
    let s = r.takes bytes p.0 fits p.1 in
    let t = parts_take spell Good part r n p.0.1 q.0 s.0.rest_fits q.1 in
    let both = Takes-then bytes (spell p.0.0) p.0.1 (flat_map spell q.0.0) q.0.1 s.0 t.0 in
    let made : List A × List ℕ = (p.0.0 ∷ q.0.0, q.0.1) in
    subst (λ (y : List A × List ℕ). Takes bytes (flat_map spell y.0) y.1 × (length y.0 ≡ suc n) × All Good y.0) (some_is made x q.2)
    (both, ap suc t.1, All-cons Good p.0.0 q.0.0 s.1 t.2)

pub parts_again : {A : Type 0} (spell : A → List ℕ) (Good : A → Type 0) (part : Reader A) → Reads spell Good part → (xs : List A) (rest : List ℕ)
    → All Good xs → parts_at part (length xs) (flat_map spell xs ++ rest) ≡ Some (xs, rest)
unfolding parts_at
parts_again spell Good part r [] rest good = refl
parts_again spell Good part r (x ∷ xs) rest good =
    rw (append_assoc (spell x) (flat_map spell xs) rest, r.again x (flat_map spell xs ++ rest) (All-head Good x xs good), parts_again spell Good part r xs rest (All-tail Good x xs good)) refl

-- as many as are counted before them
pub Reads-listed : {A : Type 0} (count_spell : ℕ → List ℕ) (limit : ℕ) (count : Reader ℕ) (spell : A → List ℕ) (Good : A → Type 0) (part : Reader A)
    → Reads count_spell (λ n. n < limit) count → Reads spell Good part
    → Reads (λ xs. count_spell (length xs) ++ flat_map spell xs) (λ xs. (length xs < limit) × All Good xs) (listed count part)
Reads-listed {A} count_spell limit count spell Good part c r = record {
  takes = λ bytes x fits e.
      let p = bind_some (count bytes) (λ n. parts_at part n.0 n.1) x e in
      let s = c.takes bytes p.0 fits p.1 in
      let t = parts_take spell Good part r p.0.0 p.0.1 x s.0.rest_fits p.2 in
      let both = Takes-then bytes (count_spell p.0.0) p.0.1 (flat_map spell x.0) x.1 s.0 t.0 in
      (subst (λ (k : ℕ). Takes bytes (count_spell k ++ flat_map spell x.0) x.1) (sym t.1) both, (rw t.1 s.1, t.2));
  again = λ xs rest good.
      ap (listed count part) (append_assoc (count_spell (length xs)) (flat_map spell xs) rest)
      ∙ rw (c.again (length xs) (flat_map spell xs ++ rest) good.0, parts_again spell Good part r xs rest good.1) refl;
}
