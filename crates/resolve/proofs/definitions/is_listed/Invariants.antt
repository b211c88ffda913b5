-- None so far is one.
use Rattle.std.proofs.Common.{◌≡◌, drop, map}
use Rattle.std.specs.List.{list_any}
use Rattle.std.specs.Str.{bytes_eq}
use Rattle.resolve.specs.Definitions.{listed_name}
use Rattle.resolve.proofs.definitions.is_listed.Given as goal

abbrev pub invariant-loop-listed : goal.invariant-loop-listed
invariant-loop-listed l =
    list_any (bytes_eq l.name) (map listed_name l.names) ≡ list_any (bytes_eq l.name) (map listed_name (drop l.listed-index l.names))
