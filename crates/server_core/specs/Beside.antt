-- A server, and what others ask of it before each request of one client.
use Rattle.std.specs.Prelude.{List, [], ◌∷◌}
use Rattle.wire_messages.specs.Exchanges.{Served}
use Rattle.wire_messages.specs.declared.requests.Request.{Request}
use Rattle.server_core.specs.Serve.{State, serve, serve_all}

-- a server's state, and what others ask before each request that is still to come
pub record Beside : Type 0 where
  pub state : State
  pub between : List (List Request)

-- nobody else asks anything
abbrev pub alone : State → Beside
alone state = record { state = state; between = [] }

abbrev pub first_of : List (List Request) → List Request
first_of [] = []
first_of (requests ∷ more) = requests

abbrev pub rest_of : List (List Request) → List (List Request)
rest_of [] = []
rest_of (requests ∷ more) = more

-- the others' requests come first, and nobody here hears their replies
abbrev pub serve_beside : Beside → Request → Served Beside
serve_beside b request =
    let s = serve (serve_all b.state (first_of b.between)).1 request in
    record { replies = s.replies; after = record { state = s.after; between = rest_of b.between } }
