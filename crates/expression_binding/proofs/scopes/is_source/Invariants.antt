-- None of the tables so far is visible under the name.
use Rattle.std.proofs.Common.{◌≡◌, drop, map}
use Rattle.std.specs.List.{list_any}
use Rattle.std.specs.Str.{bytes_eq}
use Rattle.expression_binding.proofs.scopes.is_source.Given as goal

abbrev pub invariant-loop-source : goal.invariant-loop-source
invariant-loop-source l =
    list_any (bytes_eq l.name) (map (λ source. source.now) l.sources) ≡ list_any (bytes_eq l.name) (map (λ source. source.now) (drop l.source-index l.sources))
