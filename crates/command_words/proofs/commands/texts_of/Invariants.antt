use Rattle.std.specs.Prelude.{◌≡◌, encode_utf8_all, map, take}
use Rattle.command_words.proofs.commands.texts_of.Given as goal

abbrev pub invariant-loop-word : goal.invariant-loop-word
invariant-loop-word l = map (λ text. text.now) l.texts.items ≡ map encode_utf8_all (take l.word-index l.words)
