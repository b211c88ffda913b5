-- The message that is given stands whole.
use Rattle.std.proofs.Common.{rules}
use Rattle.frame_feed.proofs.feeds.FrameFeed.next.Goals as goal

pub advance-requires : goal.advance-requires
advance-requires c =
    let frame = c.in-One.ensures in
    record { waits = search rules; whole = record { message = c.in-One.message; held = search rules; spelled = search rules } }
