-- What one without a key can count: the places of frames, and how often what is seen there came, class by class.
use Rattle.std.specs.Prelude.{◌≡◌, ℕ, List, [], ◌∷◌, ◌++◌, Bool, true, false, drop, get_or, slice_set, if◌then◌else◌}
use Rattle.std.specs.List.{list_any, position_or_len}
use Rattle.ae_base.specs.Atoms.{Atom}
use Rattle.ae_base.specs.declared.atoms.AtomOf.TheVariants.{Null, Plain, Sealed}
use Rattle.cell_counts.specs.Counts.{Counted, no_counts, noted}
use Rattle.cell_counts.specs.declared.counts.Shown.{Shown}
use Rattle.cell_counts.specs.declared.counts.Shown.TheVariants as shown
use Rattle.first_seen.specs.Parts.{Spot, number_in, seen_past}
use Rattle.scalar.specs.Classes.{Class, class_of}
use Rattle.wire_messages.specs.declared.params.SentParam.{SentParam}
use Rattle.wire_messages.specs.declared.replies.Reply.{Reply}
use Rattle.wire_messages.specs.declared.replies.Reply.TheVariants as reply
use Rattle.wire_messages.specs.declared.requests.Request.{Request}
use Rattle.wire_messages.specs.declared.requests.Request.TheVariants.{Describe, Execute}
use Rattle.wire_payloads.specs.declared.payloads.Payload.{Payload}
use Rattle.wire_payloads.specs.declared.payloads.Payload.TheVariants.{One, Rows}
use Rattle.tap_listing.specs.Classes.{class_eq, classing, is_deterministic}
use Rattle.tap_listing.specs.Frames.{atom_spots}
use Rattle.tap_listing.specs.Tables.{Tables, Tells}
use Rattle.tap_listing.specs.declared.frames.Frame.{Frame}
use Rattle.tap_listing.specs.declared.frames.Frame.TheVariants.{Asked, Told}
use Rattle.tap_text.specs.Text.{first_class}

-- ---- places: the atoms of a frame, each at its class

pub record Place : Type 0 where
  pub class : Class
  pub atom : Atom

abbrev pub place_at : Class → Atom → Place
place_at c a = record { class = c; atom = a }

abbrev pub row_places : List Class → List Atom → List Place
row_places classes [] = []
row_places classes (a ∷ row) = place_at (first_class classes) a ∷ row_places (drop 1 classes) row

abbrev pub rows_places : List Class → List (List Atom) → List Place
rows_places classes [] = []
rows_places classes (row ∷ rows) = row_places classes row ++ rows_places classes rows

abbrev pub params_places : List SentParam → List Place
params_places [] = []
params_places (p ∷ ps) = place_at (class_of p.ty p.enc) p.atom ∷ params_places ps

abbrev pub request_places : Request → List Place
request_places (Describe session characters declarations) = []
request_places (Execute session version characters params) = params_places params

abbrev pub reply_places : List Class → Reply → List Place
reply_places classes (reply.Described d) = []
reply_places classes (reply.Columns h) = []
reply_places classes (reply.Row row) = row_places classes row
reply_places classes (reply.Ended d) = []
reply_places classes (reply.Refused fault) = []

abbrev pub payload_places : List Class → Payload → List Place
payload_places classes (One reply) = reply_places classes reply
payload_places classes (Rows rows) = rows_places classes rows

abbrev pub frame_places : List Class → Frame → List Place
frame_places classes (Asked asked) = request_places asked.message
frame_places classes (Told told) = payload_places classes told.message

-- the protected cells among them
abbrev pub spots_of : List Place → List (Spot Class)
spots_of [] = []
spots_of (p ∷ places) = atom_spots p.class p.atom ++ spots_of places

-- ---- what is seen at a place, behind the cells seen

abbrev pub cell_shown : Bool → ℕ → Shown
cell_shown true n = shown.Numbered n
cell_shown false n = shown.Cell

abbrev pub shown_of : Class → Atom → List (Spot Class) → Shown
shown_of c Null seen = shown.Null
shown_of c (Plain datum) seen = shown.Value
shown_of c (Sealed x) seen = cell_shown (is_deterministic c) (number_in classing seen c x)

-- ---- counts by class, in the order in which the classes were seen

pub record Tallied : Type 0 where
  pub classes : List Class
  pub counts : List Counted

abbrev pub no_tally : Tallied
no_tally = record { classes = []; counts = [] }

-- one more at a class's place
abbrev pub one_more_at : List Counted → ℕ → Shown → List Counted
one_more_at counts at shown = slice_set counts at (noted (get_or counts at no_counts) shown)

abbrev pub tallied : Tallied → Class → Shown → Tallied
tallied t c shown = record {
  classes = if list_any (class_eq c) t.classes then t.classes else (t.classes ++ c ∷ []);
  counts = one_more_at (if list_any (class_eq c) t.classes then t.counts else (t.counts ++ no_counts ∷ [])) (position_or_len (class_eq c) t.classes) shown;
}

-- places one after another
abbrev pub tallied_from : Tallied → List Place → List (Spot Class) → Tallied
tallied_from t [] seen = t
tallied_from t (p ∷ places) seen = tallied_from (tallied t p.class (shown_of p.class p.atom seen)) places (seen_past classing seen (atom_spots p.class p.atom))

-- whatever cells were seen before: these places were counted, and their cells are seen now
abbrev pub Counts : List Place → Tables → Tables → Tallied → Tallied → Type 0
Counts places old new before after = (seen : List (Spot Class)) → Tells old seen → (after ≡ tallied_from before places seen) × Tells new (seen_past classing seen (spots_of places))
