-- A rotation over a server, between whose requests other sessions ask theirs.
use Rattle.std.specs.Prelude.{ℕ, List, [], ◌∷◌, ◌++◌}
use Rattle.ae_edge.specs.Vaults.{KeyMap}
use Rattle.wire_messages.specs.declared.requests.Request.{Request}
use Rattle.conversation.specs.Drive.{Passed, over}
use Rattle.conversation.specs.Talk.{Talk, Ends, Prints}
use Rattle.conversation.specs.declared.sessions.Session.TheVariants.{Idle}
use Rattle.column_rotate.specs.Rotating.{rotating}
use Rattle.server_core.specs.Beside.{Beside, first_of, rest_of, serve_beside}
pub use Rattle.server_core.specs.Serve.{session_of}

-- all requests in the order in which they were served
abbrev pub all_asked : List (List Request) → List Request → List Request
all_asked between [] = []
all_asked between (request ∷ requests) = first_of between ++ request ∷ all_asked (rest_of between) requests

-- those of the others alone
abbrev pub others_asked : List (List Request) → List Request → List Request
others_asked between [] = []
others_asked between (request ∷ requests) = first_of between ++ others_asked (rest_of between) requests

-- a rotation in a session that has no batch, and its one outcome
abbrev pub rotation : List (List ℕ) → ℕ → (old new : List ℕ) → Talk
rotation trusted number old new = rotating trusted number old new Idle (λ comes after. Prints comes (Ends (after ∷ [])))

abbrev pub rotated_beside : KeyMap → List (List ℕ) → ℕ → (old new : List ℕ) → List ℕ → Beside → Passed Beside
rotated_beside keys trusted number old new entropy start = over serve_beside keys (rotation trusted number old new) 0 entropy start []
