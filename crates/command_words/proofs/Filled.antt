-- Where a simple command takes the words, each of its matches has a value.
use Rattle.std.proofs.Common.{
  ◌≡◌,
  ◌++◌,
  ◌&&◌,
  ◌||◌,
  ℕ,
  Bool,
  true,
  false,
  not,
  zero,
  suc,
  refl,
  arith,
  fold,
  List,
  [],
  ◌∷◌,
  length,
  drop,
  Option,
  Some,
  None,
  is_some,
  if◌then◌else◌,
  find,
  nat_lt,
  nat_le,
  option_and_then,
  option_map,
}
use Rattle.std.specs.Prelude.{encode_utf8, slice_get}
use Rattle.std.specs.List.{list_all}
use Rattle.std.specs.Option.{option_map_or}
use Rattle.std.specs.Str.{bytes_eq, chars}
use Rattle.std.proofs.lemmas.Bool.Decides.{nat_tests}
use Rattle.clap.specs.Facts.{explicit_source, unwrap_or_range}
use Rattle.clap.specs.Lexer.{long_of, short_of}
use Rattle.clap.specs.Values.{is_request}
use Rattle.clap.specs.Walk.{
  Held,
  Names,
  Outcome,
  Row,
  Rule,
  Step,
  Text,
  Waiting,
  Walk,
  action_of,
  after_flag,
  after_step,
  arg_by_id,
  arg_by_index,
  arg_by_long,
  arg_by_short,
  at_row,
  attached_value,
  bundle,
  bundle_met,
  bundle_step,
  default_rows,
  done,
  finished,
  first_of,
  flag_met,
  has_row,
  long_met,
  long_or_other,
  more_values,
  nothing_held,
  one_of,
  option_met,
  option_word,
  plain,
  plain_word,
  reacted,
  reading_by,
  row_text,
  settled,
  settled_rows,
  short_met,
  short_or_plain,
  subcommand_met,
  subcommand_or_other,
  takes_values,
  to_positional,
  trailing,
  used,
  used_as,
  used_by_id,
  values_or_missing,
  walk,
  walk_from,
  walked,
  walked_from,
  with_default,
  with_values,
  without,
  word_met,
}
use Rattle.clap.specs.Walk as walking
use Rattle.clap.specs.Simple.{Shape}
use Rattle.clap.specs.Takes.{
  bundle_passes,
  bundle_step_passes,
  flag_word_passes,
  flags_pass,
  is_given,
  level_passes,
  long_passes,
  option_passes,
  other_passes,
  positional_passes,
  react_passes,
  settle_passes,
  short_passes,
  step_passes,
  turn_passes,
  use_passes,
  walk_passes,
  word_passes,
}
use Rattle.clap.specs.declared.builder.action.ArgAction.{ArgAction}
use Rattle.clap.specs.declared.builder.action.ArgAction.TheVariants as action
use Rattle.clap.specs.declared.builder.value_parser.Reading.{Reading}
use Rattle.clap.specs.declared.parser.matches.ValueSource.{ValueSource}
use Rattle.clap.specs.declared.parser.matches.ValueSource.TheVariants.{DefaultValue, CommandLine}
use Rattle.command_words.proofs.Faultless.{apart, both, found_good}

-- ---- rows

abbrev has_first : {X : Type 0} → List X → Bool
has_first [] = false
has_first (x ∷ xs) = true

has_first-more : {X : Type 0} (xs ys : List X) → has_first ys ≡ true → has_first (xs ++ ys) ≡ true
has_first-more [] ys e = e
has_first-more (x ∷ xs) ys e = refl

abbrev has_value : Row → Bool
has_value r = has_first r.values

-- each row has a value
abbrev pub are_filled : List Row → Bool
are_filled = list_all has_value

filled_if : (b : Bool) (xs ys : List Row) → are_filled xs ≡ true → are_filled ys ≡ true → are_filled (if b then xs else ys) ≡ true
filled_if true xs ys e f = e
filled_if false xs ys e f = f

filled_join : (xs ys : List Row) → are_filled xs ≡ true → are_filled ys ≡ true → are_filled (xs ++ ys) ≡ true
filled_join [] ys e f = f
filled_join (x ∷ xs) ys e f = let q = apart (has_value x) _ e in both (has_value x) _ q.0 (filled_join xs ys q.1 f)

module _ (id : Text) (change : Row → List Row) (missing : List Row) (changed : (r : Row) → are_filled (change r) ≡ true) (there : are_filled missing ≡ true) where
  at_row-filled : (rows : List Row) → are_filled rows ≡ true → are_filled (at_row id change missing rows) ≡ true
  at_row-filled [] e = there
  at_row-filled (r ∷ rs) e =
      let q = apart (has_value r) _ e in
      filled_if (bytes_eq r.id id) (change r ++ rs) (r ∷ at_row id change missing rs) (filled_join (change r) rs (changed r) q.1) (both (has_value r) _ q.0 (at_row-filled rs q.1))

without-filled : (id : Text) (rows : List Row) → are_filled rows ≡ true → are_filled (without id rows) ≡ true
without-filled id rows e = at_row-filled id (λ _. []) [] (λ r. refl) refl rows e

with_values-filled : (id : Text) (how : Reading) (s : ValueSource) (vs : List Text) (rows : List Row) → has_first vs ≡ true → are_filled rows ≡ true → are_filled (with_values id how s vs rows) ≡ true
with_values-filled id how s vs rows e f = at_row-filled id (more_values s vs) _ (λ r. both (has_first (r.values ++ vs)) _ (has_first-more r.values vs e) refl) (both (has_first vs) _ e refl) rows f

-- ---- one use of an argument

used_as-filled : (x : ArgAction) (id : Text) (how : Reading) (vs : List Text) (rows : List Row)
    → (is_request x || has_first vs) ≡ true → are_filled rows ≡ true → are_filled (used_as x id how vs rows) ≡ true
used_as-filled action.Set id how vs rows e f = with_values-filled id how CommandLine vs (without id rows) e (without-filled id rows f)
used_as-filled action.SetTrue id how vs rows e f = with_values-filled id how CommandLine vs (without id rows) e (without-filled id rows f)
used_as-filled action.SetFalse id how vs rows e f = with_values-filled id how CommandLine vs (without id rows) e (without-filled id rows f)
used_as-filled action.Append id how vs rows e f = with_values-filled id how CommandLine vs rows e f
used_as-filled action.Count id how [] rows e f = cc
used_as-filled action.Count id how (v ∷ vs) rows e f = with_values-filled id how CommandLine (v ∷ vs) (without id rows) refl (without-filled id rows f)
used_as-filled action.Help id how vs rows e f = f
used_as-filled action.HelpShort id how vs rows e f = f
used_as-filled action.HelpLong id how vs rows e f = f
used_as-filled action.Version id how vs rows e f = f

-- a use of the argument gives it a value, or is a request
abbrev pub gives_value : Rule → Bool
gives_value a = is_request (action_of a) || (has_first a.missing || nat_lt 0 (unwrap_or_range a.range).start_inclusive)

none_needed : (missing : Bool) (start : ℕ) → (missing || nat_lt 0 start) ≡ true → nat_le start 0 ≡ true → missing ≡ true
none_needed true start e f = refl
none_needed false start e f = absurd (let bad : nat_le start 0 ≡ false = grind (arith, nat_tests) in cc)

by_values : (request : Bool) (a : Rule) (vs : List Text) → (request || (has_first a.missing || nat_lt 0 (unwrap_or_range a.range).start_inclusive)) ≡ true
    → nat_le (unwrap_or_range a.range).start_inclusive (length vs) ≡ true → (request || has_first (values_or_missing a vs)) ≡ true
by_values true a vs g e = refl
by_values false a [] g e = none_needed (has_first a.missing) (unwrap_or_range a.range).start_inclusive g e
by_values false a (v ∷ vs) g e = refl

module _ (c : List Rule) (again : Bool) (give : list_all gives_value c ≡ true) where
  use_filled : (a : Rule) (vs : List Text) (rows : List Row) → gives_value a ≡ true → use_passes again a vs rows ≡ true → are_filled rows ≡ true → are_filled (used a vs rows) ≡ true
  use_filled a vs rows g u f =
      used_as-filled (action_of a) a.id (reading_by a) (values_or_missing a vs) rows
      (by_values (is_request (action_of a)) a vs g (apart (nat_le (unwrap_or_range a.range).start_inclusive (length vs)) _ u).0) f

  by_id_filled : (o : Option Rule) (vs : List Text) (rows : List Row) → option_map_or gives_value o true ≡ true → option_map_or (λ a. use_passes again a vs rows) o true ≡ true → are_filled rows ≡ true
      → are_filled (used_by_id o vs rows) ≡ true
  by_id_filled None vs rows g u f = f
  by_id_filled (Some a) vs rows g u f = use_filled a vs rows g u f

  pending_filled : (p : Option (Text × List Text)) (rows : List Row)
      → option_map_or (λ p. option_map_or (λ a. use_passes again a p.1 rows) (arg_by_id c p.0) true) p true ≡ true → are_filled rows ≡ true
      → are_filled (settled_rows c p rows) ≡ true
  pending_filled None rows u f = f
  pending_filled (Some p) rows u f = by_id_filled (arg_by_id c p.0) p.1 rows (found_good gives_value (λ a. bytes_eq a.id p.0) c give) u f

  settle_filled : (h : Held) → settle_passes c again h ≡ true → are_filled h.rows ≡ true → are_filled (settled c h).rows ≡ true
  settle_filled h u f = pending_filled h.pending h.rows u f

  react_filled : (a : Rule) (vs : List Text) (h : Held) → gives_value a ≡ true → react_passes c again a vs h ≡ true → are_filled h.rows ≡ true → are_filled (reacted c a vs h).rows ≡ true
  react_filled a vs h g u f =
      let q = apart (settle_passes c again h) _ u in
      use_filled a vs (settled c h).rows g q.1 (settle_filled h q.0 f)

  option_filled : (a : Rule) (v : Option Text) (h : Held) → gives_value a ≡ true → option_passes c again a v h ≡ true → are_filled h.rows ≡ true → are_filled (option_met c a v h).0.rows ≡ true
  option_filled a (Some v) h g u f = react_filled a (v ∷ []) h g u f
  option_filled a None h g u f = settle_filled h u f

  long_by : (b : Bool) (a : Rule) (v : Option Text) (h : Held) → gives_value a ≡ true
      → (if b then option_passes c again a v h else (not (is_some v) && react_passes c again a [] h)) ≡ true → are_filled h.rows ≡ true
      → are_filled (if b then option_met c a v h else flag_met c a v h).0.rows ≡ true
  long_by true a v h g u f = option_filled a v h g u f
  long_by false a (Some v) h g u f = cc
  long_by false a None h g u f = react_filled a [] h g u f

  long_filled : (o : Option Rule) (v : Option Text) (h : Held) → option_map_or gives_value o true ≡ true
      → long_passes c again o v h ≡ true → are_filled h.rows ≡ true → are_filled (long_met c o v h).0.rows ≡ true
  long_filled None v h g u f = f
  long_filled (Some a) v h g u f = long_by (takes_values a) a v h g u f

  module _ (next : Held → Held × Outcome) (passes : Held → Bool) (so : (h : Held) → passes h ≡ true → are_filled h.rows ≡ true → are_filled (next h).0.rows ≡ true) where
    short_by : (b : Bool) (a : Rule) (rest : Text) (h : Held) → gives_value a ≡ true
        → (if b then option_passes c again a (attached_value rest) h else (react_passes c again a [] h && passes (reacted c a [] h))) ≡ true
        → are_filled h.rows ≡ true → are_filled (if b then option_met c a (attached_value rest) h else next (reacted c a [] h)).0.rows ≡ true
    short_by true a rest h g u f = option_filled a (attached_value rest) h g u f
    short_by false a rest h g u f =
        let q = apart (react_passes c again a [] h) _ u in
        so (reacted c a [] h) q.1 (react_filled a [] h g q.0 f)

    short_filled : (o : Option Rule) (rest : Text) (h : Held) → option_map_or gives_value o true ≡ true
        → short_passes c again o rest h passes ≡ true → are_filled h.rows ≡ true → are_filled (short_met c o rest h next).0.rows ≡ true
    short_filled None rest h g u f = f
    short_filled (Some a) rest h g u f = short_by (takes_values a) a rest h g u f

  module _ (next : Text → ℕ → Outcome → Held → Held × Outcome) (passes : Text → ℕ → Held → Bool)
      (so : (t : Text) (n : ℕ) (o : Outcome) (h : Held) → passes t n h ≡ true → are_filled h.rows ≡ true → are_filled (next t n o h).0.rows ≡ true) where
    bundle_step_filled : (x : Option ℕ) (flags : Text) (skip : ℕ) (so_far : Outcome) (h : Held) → bundle_step_passes c again x flags skip h passes ≡ true → are_filled h.rows ≡ true
        → are_filled (bundle_step c x flags skip so_far h next).0.rows ≡ true
    bundle_step_filled None flags skip so_far h u f = f
    bundle_step_filled (Some x) flags zero so_far h u f =
        let rest = drop (length (encode_utf8 x)) flags in
        short_filled (next rest 0 done) (passes rest 0) (so rest 0 done) (arg_by_short c x) rest h (found_good gives_value _ c give) u f
    bundle_step_filled (Some x) flags (suc skip) so_far h u f = so _ skip so_far h u f

  bundle_filled : (k : ℕ) (flags : Text) (skip : ℕ) (so_far : Outcome) (h : Held) → flags_pass c again k flags skip h ≡ true
      → are_filled h.rows ≡ true → are_filled (bundle_met c k flags skip so_far h).0.rows ≡ true
  unfolding flags_pass bundle_met
  bundle_filled zero flags skip so_far h u f = f
  bundle_filled (suc k) flags skip so_far h u f = bundle_step_filled (bundle_met c k) (flags_pass c again k) (bundle_filled k) (slice_get (chars flags) 0) flags skip so_far h u f

  option_word_filled : (o : Option Rule) (id word : Text) (h : Held) → are_filled h.rows ≡ true → are_filled (option_word o id word h).0.rows ≡ true
  option_word_filled None id word h f = f
  option_word_filled (Some a) id word h f = f

  plain_filled : (waiting : Waiting) (word : Text) (h : Held) → are_filled h.rows ≡ true → are_filled (plain_word c waiting word h).0.rows ≡ true
  plain_filled walking.idle word h f = f
  plain_filled (walking.option id) word h f = option_word_filled (arg_by_id c id) id word h f
  plain_filled walking.positional word h f = f

  after_filled : (waiting : Waiting) (word : Text) (h : Held) (o : Outcome) → are_filled h.rows ≡ true → are_filled (after_flag c waiting word h o).0.rows ≡ true
  after_filled waiting word h walking.done f = f
  after_filled waiting word h (walking.waits id) f = f
  after_filled waiting word h walking.plain f = plain_filled waiting word h f
  after_filled waiting word h walking.refused f = plain_filled waiting word h f

  short_or_plain_filled : (o : Option Text) (waiting : Waiting) (word : Text) (h : Held) → option_map_or (λ flags. bundle_passes c again flags h) o true ≡ true → are_filled h.rows ≡ true
      → are_filled (short_or_plain c waiting word o h).0.rows ≡ true
  short_or_plain_filled (Some flags) waiting word h u f =
      after_filled waiting word (bundle c flags h).0 (bundle c flags h).1 (bundle_filled (length flags) flags h.skip plain (record h { skip = 0 }) u f)
  short_or_plain_filled None waiting word h u f = plain_filled waiting word h f

  other_filled : (o : Option (Text × Option Text)) (waiting : Waiting) (word : Text) (h : Held) → flag_word_passes c again o word h ≡ true → are_filled h.rows ≡ true
      → are_filled (long_or_other c waiting word o h).0.rows ≡ true
  other_filled (Some p) waiting word h u f =
      after_filled waiting word (long_met c (arg_by_long c p.0) p.1 h).0 (long_met c (arg_by_long c p.0) p.1 h).1 (long_filled (arg_by_long c p.0) p.1 h (found_good gives_value _ c give) u f)
  other_filled None waiting word h u f = short_or_plain_filled (short_of word) waiting word h u f

  positional_by : (b : Bool) (h : Held) → (b || settle_passes c again h) ≡ true → are_filled h.rows ≡ true → are_filled (if b then h else settled c h).rows ≡ true
  positional_by true h u f = f
  positional_by false h u f = settle_filled h u f

  to_positional_filled : (o : Option Rule) (word : Text) (w : Walk) (h : Held) → option_map_or (λ a. positional_passes c again a h) o false ≡ true → are_filled h.rows ≡ true
      → are_filled (to_positional c o word w h).held.rows ≡ true
  to_positional_filled None word w h u f = f
  to_positional_filled (Some a) word w h u f = positional_by _ h u f

-- ---- a walk

module _ (s : Shape) (names : Names) (give : list_all gives_value s.rules ≡ true) where
  dashes_filled : (b : Bool) (position : ℕ) (waiting : Waiting) (word : Text) (h : Held) → (b || flag_word_passes s.rules s.args_override_self (long_of word) word h) ≡ true → are_filled h.rows ≡ true
      → are_filled (if b then (h, trailing position) else long_or_other s.rules waiting word (long_of word) h).0.rows ≡ true
  dashes_filled true position waiting word h u f = f
  dashes_filled false position waiting word h u f = other_filled s.rules s.args_override_self give (long_of word) waiting word h u f

  met_filled : (o : Option Text) (waiting : Waiting) (position : ℕ) (word : Text) (h : Held) → other_passes s o word h ≡ true → are_filled h.rows ≡ true
      → are_filled (subcommand_or_other s.rules o waiting position word h).0.rows ≡ true
  met_filled (Some name) waiting position word h u f = f
  met_filled None waiting position word h u f = dashes_filled (bytes_eq word (45 ∷ 45 ∷ [])) position waiting word h u f

  word_filled : (is_trailing : Bool) (waiting : Waiting) (position : ℕ) (word : Text) (h : Held) → word_passes s names is_trailing waiting word h ≡ true → are_filled h.rows ≡ true
      → are_filled (word_met s.rules names is_trailing waiting position word h).0.rows ≡ true
  word_filled true waiting position word h u f = f
  word_filled false waiting position word h u f = met_filled (subcommand_met names waiting word) waiting position word h u f

  step_filled : (w : Walk) (word : Text) (h : Held) (step : Step) → step_passes s w.position h step ≡ true → are_filled h.rows ≡ true → are_filled (after_step s.rules word w h step).held.rows ≡ true
  step_filled w word h walking.value u f = to_positional_filled s.rules s.args_override_self give (arg_by_index s.rules w.position) word w h u f
  step_filled w word h (walking.next waiting) u f = f
  step_filled w word h (walking.trailing n) u f = f
  step_filled w word h (walking.subcommand name) u f = f

  turn_filled : (stop : Option (Text × List Text)) (w : Walk) (word : Text)
      → (is_some stop ||
      (word_passes s names w.is_trailing w.waiting word w.held && step_passes s w.position
      (word_met s.rules names w.is_trailing w.waiting w.position word w.held).0 (word_met s.rules names w.is_trailing w.waiting w.position word w.held).1)) ≡ true
      → are_filled w.held.rows ≡ true → are_filled (walked_from s.rules names stop w word).held.rows ≡ true
  turn_filled (Some p) w word u f = f
  turn_filled None w word u f =
      let met = word_met s.rules names w.is_trailing w.waiting w.position word w.held in
      let q = apart (word_passes s names w.is_trailing w.waiting word w.held) _ u in
      step_filled w word met.0 met.1 q.1 (word_filled w.is_trailing w.waiting w.position word w.held q.0 f)

  walk_filled : (w : Walk) (words : List Text) → walk_passes s names w words ≡ true → are_filled w.held.rows ≡ true → are_filled (fold (walked s.rules names) w words).held.rows ≡ true
  unfolding walk_passes walked
  walk_filled w [] u f = f
  walk_filled w (word ∷ rest) u f =
      let q = apart (turn_passes s names w word) _ u in
      walk_filled (walked s.rules names w word) rest q.1 (turn_filled w.stopped w word q.0 f)

-- ---- the rows at its end

default_by : (b : Bool) (id : Text) (how : Reading) (vs : List Text) (rows : List Row) → are_filled rows ≡ true → are_filled (if b then rows else default_rows id how vs rows) ≡ true
default_by true id how vs rows f = f
default_by false id how [] rows f = f
default_by false id how (v ∷ vs) rows f = with_values-filled id how DefaultValue (v ∷ vs) rows refl f

defaults_filled : (rules : List Rule) (rows : List Row) → are_filled rows ≡ true → are_filled (fold with_default rows rules) ≡ true
defaults_filled [] rows f = f
defaults_filled (a ∷ rest) rows f = defaults_filled rest (with_default rows a) (default_by (has_row a.id rows) a.id (reading_by a) a.defaults rows f)

-- where the words pass, each row has a value, and what is required was given
pub level_filled : (s : Shape) (names : Names) (words : List Text) (has : Bool) → list_all gives_value s.rules ≡ true → level_passes s names nothing_held words has ≡ true
    → are_filled (finished s.rules (walk s.rules names nothing_held words).held) ≡ true
level_filled s names words has give u =
    let end = (walk s.rules names nothing_held words).held in
    let q = apart (walk_passes s names (walk_from nothing_held) words) _ u in
    let p = apart (settle_passes s.rules s.args_override_self end) _ q.1 in
    defaults_filled s.rules (settled s.rules end).rows (settle_filled s.rules s.args_override_self give end p.0 (walk_filled s names give (walk_from nothing_held) words q.0 refl))

-- ---- what was given has a first value

first_there : {X : Type 0} (xs : List X) → has_first xs ≡ true → is_some (slice_get xs 0) ≡ true
first_there [] e = cc
first_there (x ∷ xs) e = refl

pub some_mapped : {X Y : Type 0} (f : X → Y) (o : Option X) → is_some o ≡ true → is_some (option_map f o) ≡ true
some_mapped f None e = cc
some_mapped f (Some x) e = refl

first_by : (o : Option Row) → option_map_or has_value o true ≡ true → option_map_or (λ r. explicit_source r.source) o false ≡ true → is_some (option_and_then (λ r. slice_get r.values 0) o) ≡ true
first_by None f g = cc
first_by (Some r) f g = first_there r.values f

one_by : (o : Option Row) → option_map_or has_value o true ≡ true → option_map_or (λ r. explicit_source r.source) o false ≡ true → is_some (option_and_then row_text o) ≡ true
one_by None f g = cc
one_by (Some r) f g = some_mapped _ (slice_get r.values 0) (first_there r.values f)

pub first_given : (id : Text) (rows : List Row) → are_filled rows ≡ true → is_given id rows ≡ true → is_some (first_of id rows) ≡ true
first_given id rows f g = first_by (find (λ r. bytes_eq r.id id) rows) (found_good has_value (λ r. bytes_eq r.id id) rows f) g

pub one_given : (id : Text) (rows : List Row) → are_filled rows ≡ true → is_given id rows ≡ true → is_some (one_of id rows) ≡ true
one_given id rows f g = one_by (find (λ r. bytes_eq r.id id) rows) (found_good has_value (λ r. bytes_eq r.id id) rows f) g
