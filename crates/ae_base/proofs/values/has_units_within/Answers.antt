-- The units of the next character stand before those of the rest.
use Rattle.std.proofs.Common.{◌≡◌, ℕ, ◌+◌, ◌<◌, ◌≤◌, List, length, get_or, drop, sym, ap, ◌∙◌, arith, refl}
use Rattle.std.proofs.lemmas.Iterator.{YieldsList-from_chars}
use Rattle.std.proofs.lemmas.List.{at_drop_more, at_drop_all, length_push}
use Rattle.std.proofs.lemmas.Iterator.Consumers.{YieldsList-turn, YieldsList-end}
use Rattle.std.specs.Str.{chars}
use Rattle.std.proofs.lemmas.Bool.Decides.{nat_tests}
use Rattle.ae_base.specs.Values.{units, units_of}
use Rattle.ae_base.proofs.values.has_units_within.Goals as goal

units-drop : (cs : List ℕ) (n c : ℕ) → (n < length cs) × (c ≡ get_or cs n c) → units (drop n cs) ≡ units_of c + units (drop (n + 1) cs)
units-drop cs n c h = at_drop_more units cs n c h.0 ∙ ap (λ x. units_of x + units (drop (n + 1) cs)) (sym h.1)

-- a character has one unit below 65536, and two from there
count_is : (c count : ℕ) → (c < 65536 → count ≡ 1) → (65536 ≤ c → count ≡ 2) → units_of c ≡ count
count_is c count one two = grind (arith, nat_tests)

pub returns-then-count-left : goal.returns-then-count-left
returns-then-count-left c =
    let t = YieldsList-turn (YieldsList-from_chars c.args.text.now c.utf8.text cc) c.loop-c.yielded _ c.loop-c.yielded_by _ _ c.in-Some.c c.in-Some.is c.next.ensures.steps in
    let e = units-drop _ _ _ t in
    let n = count_is c.in-Some.c c.len_utf16-count.result c.len_utf16-count.ensures.bmp c.len_utf16-count.ensures.surrogate_pair in
    (λ w. cc, λ w. absurd (omega arith))

pub loop-c-preserved : goal.loop-c-preserved
loop-c-preserved c =
    let t = YieldsList-turn (YieldsList-from_chars c.args.text.now c.utf8.text cc) c.loop-c.yielded _ c.loop-c.yielded_by _ _ c.in-Some.c c.in-Some.is c.next.ensures.steps in
    let e = units-drop _ _ _ t in
    let n = count_is c.in-Some.c c.len_utf16-count.result c.len_utf16-count.ensures.bmp c.len_utf16-count.ensures.surrogate_pair in
    let l = length_push c.loop-c.yielded c.in-Some.c in
    rw l (omega arith)

pub returns : goal.returns
returns c =
    let t = YieldsList-end (YieldsList-from_chars c.args.text.now c.utf8.text cc) c.loop-c.yielded _ c.loop-c.yielded_by _ _ c.in-None.is c.next.ensures.steps in
    let e = at_drop_all units (chars c.args.text.now) (length c.loop-c.yielded) (omega (arith, t.1)) in
    (λ w. omega arith, λ w. refl)
