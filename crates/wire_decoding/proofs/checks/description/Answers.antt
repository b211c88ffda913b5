-- The keys are those of the parameters.
use Rattle.std.proofs.Common.{map}
use Rattle.wire_messages.specs.Messages.{Description, IsDescription}
use Rattle.wire_decoding.specs.Reading.{is_description}
use Rattle.wire_decoding.proofs.MessageLaws.{are_keys_from, are_keys_to}
use Rattle.wire_decoding.proofs.Tested.{tested}
use Rattle.wire_decoding.proofs.checks.description.Goals as goal

pub returns : goal.returns
returns c =
    let d : Description = record { version = c.args.version; keys = c.args.keys; params = c.args.params } in
    tested c.new.result is_description IsDescription d c.new.ensures.description c.new.ensures.exactly
    (are_keys_from (map (λ p. p.enc) d.params) d.keys) (are_keys_to (map (λ p. p.enc) d.params) d.keys)
