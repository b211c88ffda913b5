use Rattle.std.proofs.Common.{[], ◌≡◌, ◌∙◌, ap, arith, length, rules}
use Rattle.aes_block.proofs.KeyBytes.{length-key_words}
use Rattle.aes_block.proofs.States.{words_of-all}
use Rattle.aes_block.proofs.key.key_columns.Goals as goal

pub returns : goal.returns
returns c =
    let long : length c.expanded_key.result ≡ 60 = ap length c.expanded_key.ensures ∙ length-key_words c.args.key.now 52 in
    words_of-all c.map.result c.expanded_key.result (omega (arith, long, c.map.ensures.items.long))
    (λ k low. let called = c.map.ensures.items.at k [] 0 (omega (arith, low, c.map.ensures.items.long)) in search rules)
    ∙ c.expanded_key.ensures
