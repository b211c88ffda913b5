-- What readers that take memory answer.
use Rattle.std.specs.Prelude.{◌≡◌, List, ℕ, Option, Some, None}
use Rattle.wire_bodies.specs.declared.found.Body.{Body}
use Rattle.wire_bodies.specs.declared.found.Body.TheVariants as body
use Rattle.wire_bodies.specs.declared.found.Found.{Found}
use Rattle.wire_bodies.specs.declared.found.Found.TheVariants as found

-- What stands at the start is what reading gives, unless memory ran out.
abbrev pub GivesFound : {X : Type 0} → Found X → Option (X × List ℕ) → Type 0
GivesFound (found.One x rest) read = read ≡ Some (x, rest.now)
GivesFound found.Bad read = read ≡ None
GivesFound found.OutOfMemory read = Unit {0}

-- What the whole of some bytes is, is what reading gives, unless memory ran out.
abbrev pub GivesBody : {M : Type 0} → Body M → Option M → Type 0
GivesBody (body.One message) read = read ≡ Some message
GivesBody body.Bad read = read ≡ None
GivesBody body.OutOfMemory read = Unit {0}
