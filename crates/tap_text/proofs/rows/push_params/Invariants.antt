-- The parameters so far are written.
use Rattle.std.proofs.Common.{string_bytes, take}
use Rattle.tap_listing.specs.Frames.{params_spots}
use Rattle.tap_text.specs.Text.{params_text}
use Rattle.tap_text.specs.Writing.{Writes}
use Rattle.tap_text.proofs.rows.push_params.Given as goal

abbrev pub invariant-loop-param : goal.invariant-loop-param
invariant-loop-param l = Writes (params_text l.page (take l.param-index l.params)) (params_spots (take l.param-index l.params)) l.fn.numbers l.numbers (string_bytes l.fn.text) (string_bytes l.text)
