-- One more is written, and at the end all are.
use Rattle.std.proofs.Common.{◌+◌, string_bytes, take}
use Rattle.std.proofs.lemmas.List.{take_all}
use Rattle.tap_listing.specs.Frames.{params_spots}
use Rattle.tap_text.specs.Text.{params_text}
use Rattle.tap_text.proofs.Rowwise.{param_behind, all_written, one_more}
use Rattle.tap_text.proofs.rows.push_params.Goals as goal

pub loop-param-preserved : goal.loop-param-preserved
loop-param-preserved c =
    let i = c.loop-param.param-index in
    let all = c.args.params.now in
    param_behind c.args.page c.args.numbers.now c.loop-param.numbers c.push_param.new.numbers (string_bytes c.args.text.now) (string_bytes c.loop-param.text) (string_bytes c.push_param.new.text)
    (take i all) (take (i + 1) all) c.param-item.result (one_more all i c.param-item.result c.loop-param-test.true c.param-item.is) c.loop-param.invariant c.in_ok-push_param.ensures

pub returns : goal.returns
returns c =
    all_written c.args.numbers.now c.loop-param.numbers (string_bytes c.args.text.now) (string_bytes c.loop-param.text)
    (params_text c.args.page) params_spots _ _ (take_all c.loop-param.param-index c.args.params.now c.loop-param-test.false) c.loop-param.invariant
