-- What a feed gives next.
use Rattle.std.specs.Prelude.{◌≡◌, ◌≤◌, length, take, false}
use Rattle.wire_frames.specs.Decoding.{has_head}
use Rattle.wire_frames.specs.Frames.{IsNotYet, IsRefused}
use Rattle.frame_feed.specs.Feeding.{Feeding, SpellsMessage, behind, refused}
use Rattle.frame_feed.specs.declared.feeds.Next.{Next}
use Rattle.frame_feed.specs.declared.feeds.Next.TheVariants as next

-- The frame of a message stood at the front and is let go; or less than a frame stands there; or what is refused, from
-- now on; or memory ran out. After a fault nothing is given but that fault.
abbrev pub Steps : Next → Feeding → Feeding → Type 0
Steps (next.One place used message) old new =
    (old.failed ≡ false) × (place ≡ old.at) × (6 ≤ used) × (used ≤ length old.held) × SpellsMessage old.way message (take used old.held) × (new ≡ behind old used)
Steps next.NotYet old new = (old.failed ≡ false) × (new ≡ old) × IsNotYet (has_head old.way) old.held
Steps (next.Bad place) old new = (place ≡ old.at) × IsRefused (has_head old.way) (SpellsMessage old.way) old.held × (new ≡ refused old)
Steps next.OutOfMemory old new = (old.failed ≡ false) × (new ≡ old)

-- the feed after an answer
abbrev pub after : Next → Feeding → Feeding
after (next.One place used message) old = behind old used
after next.NotYet old = old
after (next.Bad place) old = refused old
after next.OutOfMemory old = old
