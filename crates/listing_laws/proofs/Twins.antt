-- Twin scripts have one listing, since what passes for them is renamed.
use Rattle.std.proofs.Common.{List, [], ◌∷◌}
use Rattle.std.specs.List.{AllZip}
use Rattle.ae_base.specs.declared.frames.FrameVersion.{FrameVersion}
use Rattle.scalar.specs.Classes.{Pairing, Listing}
use Rattle.server_core.specs.Correspond.{ExchangesCorrespond}
use Rattle.listing_laws.specs.Laws.{ExchangesListedAlike}
use Rattle.listing_laws.specs.Recorded.{ExchangesCarriedAlike}
use Rattle.twin_laws.specs.Laws.{TwinsAlike, AreCarriedAlike, passed_over}
use Rattle.twin_laws.specs.Pairs.{pairs_in}
use Rattle.listing_laws.specs.Laws.{TwinsAreListedAlike}
use Rattle.wire_messages.specs.Exchanges.{Exchange}

-- requests that correspond, and replies that are carried alike
carried : (R : Pairing) (version : FrameVersion) (es fs : List Exchange) → ExchangesCorrespond R es fs → AllZip (AreCarriedAlike R version) es fs → AllZip (ExchangesCarriedAlike R version) es fs
carried R version [] [] h k = tt
carried R version [] (f ∷ fs) h k = absurd h
carried R version (e ∷ es) [] h k = absurd h
carried R version (e ∷ es) (f ∷ fs) h k = ((h.0.0, k.0), carried R version es fs h.1 k.1)

pub are_listed_alike : TwinsAlike → ExchangesListedAlike → TwinsAreListedAlike
are_listed_alike alike listed keys literals fit steps others within proper same are entropy more bytes rest left right version =
    let p = passed_over keys steps entropy in
    let q = passed_over keys others more in
    let a = alike keys literals fit steps others within proper same are entropy more bytes rest left right in
    let entries = pairs_in p.exchanges q.exchanges in
    listed entries a.renaming version p.exchanges q.exchanges (carried (Listing entries) version p.exchanges q.exchanges a.exchanges (a.carried version))
