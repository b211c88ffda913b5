-- Sessions.
use Rattle.std.specs.Prelude.{ℕ, ◌≤◌}

-- sessions are numbered from 1 to 64
abbrev pub IsSession : ℕ → Type 0
IsSession session = (1 ≤ session) × (session ≤ 64)
