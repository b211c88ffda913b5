-- The one reply is awaited, and the driver says what it says.
use Rattle.check_command.proofs.Executing.{heard_as}
use Rattle.check_command.proofs.defining.told.Goals as goal

pub outcome_in-requires : goal.outcome_in-requires
outcome_in-requires c =
    let a = c.requires.answers in
    (a.0, heard_as _ _ _ _ c.requires.sent _ _ c.args.replies.now c.reply-item.result c.reply-item.is c.answered.ensures.answered a.0 a.1)

pub returns : goal.returns
returns c = λ comes a. c.outcome_in.ensures comes
    (heard_as _ _ _ _ c.requires.sent _ _ c.args.replies.now c.reply-item.result c.reply-item.is c.answered.ensures.answered comes a)
