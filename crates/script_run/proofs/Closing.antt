-- The tap is closed behind the end, and nothing is put on it there.
use Rattle.std.proofs.Common.{◌≡◌, ℕ, List, [], ◌∷◌, ◌++◌, Option, Some, None, Result, Ok, Err, refl, ◌∙◌, ap, subst, append-nil, inl, inr}
use Rattle.ae_edge.specs.Devices.{Adds, AddsPrefix, IsPrefix}
use Rattle.conversation.specs.Talk.{Talk, Ends}
use Rattle.conversation.specs.declared.sessions.Session.{Session}
use Rattle.script_run.specs.Closing.{ClosesBehind, closed_as, wire_as}
use Rattle.script_run.specs.Shares.{ClientSide, Outside, Wire}
use Rattle.script_run.specs.Ways.{Advances, Proceeds, StopsBy}
use Rattle.script_run.specs.declared.stops.Stop.{Stop}
use Rattle.script_run.proofs.Going.{leads_then}
use Rattle.script_run.specs.declared.connection.EndFault.{EndFault}
use Rattle.script_run.specs.declared.connection.EndFault.TheVariants as ending
use Rattle.script_run.specs.declared.connection.ReplyFault.TheVariants as fault
use Rattle.script_run.specs.Connections.{Finishes, in_version}
use Rattle.script_run.proofs.Lent.{AreSame, fails_same, leads_in, leads_same}

-- ---- nothing is put

still : (a b : Option (List ℕ)) → Adds [] a b → b ≡ a
still (Some x) (Some y) e = ap (λ (w : List ℕ). Some w) (e ∙ append-nil x)
still None None e = refl
still (Some x) None e = absurd e
still None (Some y) e = absurd e

front_of_none : (front : List ℕ) → IsPrefix front [] → front ≡ []
front_of_none [] f = refl
front_of_none (x ∷ front) f = let e = f.is in cc

front_still : (a b : Option (List ℕ)) → AddsPrefix [] a b → b ≡ a
front_still (Some x) (Some y) g = ap (λ (w : List ℕ). Some w) (g.grew ∙ ap (λ w. x ++ w) (front_of_none g.front g.of_it) ∙ append-nil x)
front_still None None g = refl
front_still (Some x) None g = absurd g
front_still None (Some y) g = absurd g

pub finished_tap : (result : Result (Unit {0}) EndFault) (old new : Wire) → Finishes result old new → new.tap.content ≡ old.tap.content
finished_tap (Ok o) old new f = still old.tap.content new.tap.content f.0.0.tap.content
finished_tap (Err ending.WriteFault) old new f = still old.tap.content new.tap.content f.0.tap.content
finished_tap (Err (ending.Replies fault.BadReply)) old new f = still old.tap.content new.tap.content f.0.0.tap.content
finished_tap (Err (ending.Replies fault.ReadFault)) old new f = still old.tap.content new.tap.content f.0.0.tap.content
finished_tap (Err (ending.Replies fault.TooLong)) old new f = still old.tap.content new.tap.content f.0.tap.content
finished_tap (Err (ending.Replies fault.OutOfMemory)) old new f = front_still old.tap.content new.tap.content f.0.tap.content

-- ---- to the end, or no further

ends_then : (result : Result (Unit {0}) Stop) (t : Talk) (sessions : List Session) (a b c : Outside) → Proceeds t (Ends sessions) a b
    → Advances result (Ends sessions) (λ o. Ends sessions) b (closed_as b.wire.closed c) → Advances result t (λ o. Ends sessions) a (closed_as a.wire.closed c)
ends_then result t sessions a b c p l =
    leads_then result t (Ends sessions) (λ o. Ends sessions) a b (closed_as a.wire.closed c) p
    (subst (λ w. Advances result (Ends sessions) (λ o. Ends sessions) b (closed_as w c)) p.put.wire.closed l)

-- the same is lent after the end
pub same_at_end : (result : Result (Unit {0}) Stop) (t : Talk) (sessions : List Session) (a b : Outside) (client : ClientSide) (wire : Wire) → Proceeds t (Ends sessions) a b
    → Advances result (Ends sessions) (λ o. Ends sessions) b (closed_as b.wire.closed (record { client = client; wire = wire }))
    → AreSame a (closed_as a.wire.closed (record { client = client; wire = wire }))
same_at_end result t sessions a b client wire p l =
    leads_same result t (λ o. Ends sessions) a (closed_as a.wire.closed (record { client = client; wire = wire }))
    (ends_then result t sessions a b (record { client = client; wire = wire }) p l)

pub lent_at_end : (result : Result (Unit {0}) Stop) (t : Talk) (sessions : List Session) (a b : Outside) (client : ClientSide) (wire : Wire) → Proceeds t (Ends sessions) a b
    → Advances result (Ends sessions) (λ o. Ends sessions) b (closed_as b.wire.closed (record { client = client; wire = wire }))
    → Advances result t (λ o. Ends sessions) a (record { client = client; wire = in_version a.wire.version (wire_as a.wire.closed wire) })
lent_at_end result t sessions a b client wire p l =
    leads_in result t (λ o. Ends sessions) a client (wire_as a.wire.closed wire) a.wire.version (same_at_end result t sessions a b client wire p l).version
    (ends_then result t sessions a b (record { client = client; wire = wire }) p l)

stops_so : (s : Stop) (t : Talk) (a b : Outside) → StopsBy s t a b → StopsBy s t a (closed_as a.wire.closed b)
stops_so s t a b h = let e = (fails_same s t a b h).closed in subst (λ w. StopsBy s t a (closed_as w b)) e h

pub lent_where_stopped : (s : Stop) (t : Talk) (a : Outside) (client : ClientSide) (wire : Wire) → StopsBy s t a (record { client = client; wire = wire })
    → StopsBy s t a (record { client = client; wire = in_version a.wire.version (wire_as a.wire.closed wire) })
lent_where_stopped s t a client wire h =
    leads_in {A = Unit {0}} (Err s) t (λ o. t) a client (wire_as a.wire.closed wire) a.wire.version (fails_same s t a (record { client = client; wire = wire }) h).version
    (stops_so s t a (record { client = client; wire = wire }) h)

pub behind_end : (t : Talk) (sessions : List Session) (a b : Outside) (wire : Wire) → Proceeds t (Ends sessions) a b → wire.tap.content ≡ b.wire.tap.content → ClosesBehind t a wire
behind_end t sessions a b wire p e = inr (record { sessions = sessions; end = b; goes = p; tap = e })

pub as_before : (s : Stop) (t : Talk) (a b : Outside) → StopsBy s t a b → ClosesBehind t a b.wire
as_before s t a b h = inl (fails_same s t a b h).closed
