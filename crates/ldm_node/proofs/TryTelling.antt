-- What is told of tries.
use Rattle.std.proofs.Common.{◌≡◌, Bool, true, false, Option, Some, None, List, [], ◌∷◌, ◌++◌, inl, inr, refl, sym, subst, ap, ◌∙◌, append_assoc, ℕ}
use Rattle.std.specs.Option.{option_map}
use Rattle.ldm_outside.specs.declared.gate.Go.{Go}
use Rattle.ldm_outside.specs.declared.gate.Go.TheVariants.{On, Stop}
use Rattle.ldm_outside.specs.Dial.{Asked, DialRecord}
use Rattle.ldm_outside.specs.Io.{SinkRecord, Takes}
use Rattle.ldm_outside.specs.Told.{TellsMore}
use Rattle.ldm_outside.proofs.CallerLemmas.{Takes-nothing, Takes-then}
use Rattle.ldm_conf.specs.Confs.{RequestView}
use Rattle.ldm_node.specs.declared.stop.NodeStop.{NodeStop}
use Rattle.ldm_node.specs.declared.stop.NodeStop.TheVariants.{Done, NetFault, LogFault, Worn, OutOfMemory}
use Rattle.ldm_node.specs.SessionEnds.{end_of_receiving}
use Rattle.ldm_node.specs.Lines.{session_line}
use Rattle.ldm_node.specs.RequestMoments.{RequestMoment}
use Rattle.ldm_node.specs.Tries.{Try, Unreached, Session, TriesOnce, peer_of}
use Rattle.ldm_node.specs.RequestWorks.{AreTries, EndsBy, TriesAndAsks, Works}
use Rattle.ldm_node.specs.TriesTold.{Follow, all_tries, asked_by, line_of, lines_of, lines_of_each, log_of, own_lines}

-- the last try, and the moment at which its line was written; behind it the dial was not asked
record LastTry (request : RequestView) (try : Try) (old new : RequestMoment) : Type 0 where
  pub whole : Bool
  pub between : RequestMoment
  pub tries : TriesOnce whole request try old between
  pub dial : new.station.dial ≡ between.station.dial

last-try : (stop : NodeStop) (request : RequestView) (try : Try) (old new : RequestMoment) → EndsBy stop request try old new → LastTry request try old new
last-try Done request try old new ends =
    record { whole = true; between = ends.between; tries = ends.tries; dial = ap (λ (m : RequestMoment). m.station.dial) ends.asks.same }
last-try LogFault request try old new ends = record { whole = false; between = new; tries = ends; dial = refl }
last-try Worn request try old new ends = record { whole = true; between = new; tries = ends.0; dial = refl }
last-try NetFault request try old new ends = absurd ends
last-try OutOfMemory request try old new ends = absurd ends

-- ---- whom the dial was asked for

abbrev AsksMore : List Asked → Option (List Asked) → Option (List Asked) → Type 0
AsksMore more old new = TellsMore (λ (before : List Asked). before ++ more) old new

after-more : (first second : List Asked) (told : Option (List Asked))
    → option_map (λ (before : List Asked). before ++ second) (option_map (λ (before : List Asked). before ++ first) told) ≡ option_map (λ (before : List Asked). before ++ (first ++ second)) told
after-more first second None = refl
after-more first second (Some before) = ap (λ (t : List Asked). Some t) (append_assoc before first second)

asks-then : (first second : List Asked) (old mid new : Option (List Asked)) → AsksMore first old mid → AsksMore second mid new → AsksMore (first ++ second) old new
asks-then first second old mid new one (inr silent) = inr silent
asks-then first second old mid new (inl told) (inl more) =
    inl (more ∙ ap (option_map (λ (before : List Asked). before ++ second)) told ∙ after-more first second old)
asks-then first second old mid new (inr silent) (inl more) = inr (more ∙ ap (option_map (λ (before : List Asked). before ++ second)) silent)

asks-once : (whole : Bool) (request : RequestView) (try : Try) (old new : RequestMoment) → TriesOnce whole request try old new
    → AsksMore (peer_of request ∷ []) old.station.dial.asked new.station.dial.asked
asks-once whole request Unreached old new tries = tries.dialled.1
asks-once whole request (Session end before behind) old new tries =
    inl (ap (λ (d : DialRecord). d.asked) tries.0.holds.given_back.1 ∙ ap (λ (d : DialRecord). d.asked) tries.0.dialled.1)

same-dial : (request : RequestView) (old mid new : RequestMoment) → new.station.dial ≡ mid.station.dial → AsksMore (peer_of request ∷ []) old.station.dial.asked mid.station.dial.asked
    → AsksMore (peer_of request ∷ []) old.station.dial.asked new.station.dial.asked
same-dial request old mid new same asks =
    let P : DialRecord → Type 0 = λ d. AsksMore (peer_of request ∷ []) old.station.dial.asked d.asked in
    subst P (sym same) asks

tries-ask : (request : RequestView) (tries : List Try) (last : Try) (old mid new : RequestMoment) → AreTries request tries old mid
    → AsksMore (peer_of request ∷ []) mid.station.dial.asked new.station.dial.asked → AsksMore (asked_by request (tries ++ last ∷ [])) old.station.dial.asked new.station.dial.asked
tries-ask request [] last old mid new each asks =
    let P : RequestMoment → Type 0 = λ m. AsksMore (peer_of request ∷ []) m.station.dial.asked new.station.dial.asked in
    subst P each asks
tries-ask request (try ∷ tries) last old mid new each asks =
    let between = each.1.between in
    asks-then (peer_of request ∷ []) (asked_by request (tries ++ last ∷ [])) old.station.dial.asked each.0.station.dial.asked new.station.dial.asked
    (same-dial request old between each.0 (ap (λ (m : RequestMoment). m.station.dial) each.1.asks.same) (asks-once true request try old between each.1.tries))
    (tries-ask request tries last each.0 mid new each.2 asks)

pub works-ask : (stop : NodeStop) (request : RequestView) (old new : RequestMoment) (works : Works stop request old new)
    → AsksMore (asked_by request (all_tries works)) old.station.dial.asked new.station.dial.asked
works-ask stop request old new works =
    let last = last-try stop request works.last works.before_last new works.ends in
    tries-ask request works.tries works.last old works.before_last new works.each
    (same-dial request works.before_last last.between new last.dial (asks-once last.whole request works.last works.before_last last.between last.tries))

-- ---- what the log took

logs-once : (request : RequestView) (try : Try) (old new : RequestMoment) (tries : TriesOnce true request try old new)
    → Takes old.station.log (lines_of request try old new tries ++ line_of request try) new.station.log
logs-once request Unreached old new tries = tries.logged
logs-once request (Session end before behind) old new tries =
    let holds = tries.0.holds in
    let receives = holds.receives.receives in
    Takes-then old.station.log holds.log new.station.log receives.lines (session_line request.host (end_of_receiving end)) receives.passed.logged holds.logged

logs-asked : (go : Go) (request : RequestView) (try : Try) (old new : RequestMoment) (tries : TriesAndAsks go request try old new)
    → Takes old.station.log (lines_of request try old tries.between tries.tries ++ line_of request try) new.station.log
logs-asked go request try old new tries =
    let same : new.station.log ≡ tries.between.station.log = ap (λ (m : RequestMoment). m.station.log) tries.asks.same in
    let Q : SinkRecord → Type 0 = λ log. Takes old.station.log (lines_of request try old tries.between tries.tries ++ line_of request try) log in
    subst Q (sym same) (logs-once request try old tries.between tries.tries)

tries-log : (request : RequestView) (tries : List Try) (last : Try) (old mid new : RequestMoment) (each : AreTries request tries old mid)
    (ends : TriesAndAsks Stop request last mid new)
    → Takes old.station.log
    (log_of request (tries ++ last ∷ []) (lines_of_each request tries old mid each ++ lines_of request last mid ends.between ends.tries ∷ []))
    new.station.log
tries-log request [] last old mid new each ends =
    let lines = lines_of request last mid ends.between ends.tries in
    let P : RequestMoment → Type 0 = λ m. Takes m.station.log ((lines ++ line_of request last) ++ []) new.station.log in
    subst P each (Takes-then mid.station.log new.station.log new.station.log (lines ++ line_of request last) [] (logs-asked Stop request last mid new ends)
    (Takes-nothing new.station.log new.station.log refl))
tries-log request (try ∷ tries) last old mid new each ends =
    Takes-then old.station.log each.0.station.log new.station.log (lines_of request try old each.1.between each.1.tries ++ line_of request try)
    (log_of request (tries ++ last ∷ []) (lines_of_each request tries each.0 mid each.2 ++ lines_of request last mid ends.between ends.tries ∷ []))
    (logs-asked On request try old each.0 each.1) (tries-log request tries last each.0 mid new each.2 ends)

pub works-log : (request : RequestView) (old new : RequestMoment) (works : Works Done request old new)
    → Takes old.station.log (log_of request (all_tries works) (own_lines works)) new.station.log
works-log request old new works = tries-log request works.tries works.last old works.before_last new works.each works.ends

-- ---- how sessions follow one another

follows-once : (whole : Bool) (request : RequestView) (try : Try) (old new : RequestMoment) → TriesOnce whole request try old new → Follow old.last (try ∷ [])
follows-once whole request Unreached old new tries = tt
follows-once whole request (Session end before behind) old new tries = (tries.1, tt)

follows-then : (request : RequestView) (try : Try) (tries : List Try) (old new : RequestMoment) → TriesAndAsks On request try old new → Follow new.last tries → Follow old.last (try ∷ tries)
follows-then request Unreached tries old new one rest =
    let P : Option (List ℕ) → Type 0 = λ last. Follow last tries in
    subst P (ap (λ (m : RequestMoment). m.last) one.asks.same ∙ ap (λ (m : RequestMoment). m.last) one.tries.same) rest
follows-then request (Session end before behind) tries old new one rest =
    let P : Option (List ℕ) → Type 0 = λ last. Follow last tries in
    (one.tries.1, subst P (ap (λ (m : RequestMoment). m.last) one.asks.same ∙ sym one.tries.2) rest)

tries-follow : (request : RequestView) (tries : List Try) (last : Try) (old mid : RequestMoment) → AreTries request tries old mid → Follow mid.last (last ∷ []) → Follow old.last (tries ++ last ∷ [])
tries-follow request [] last old mid each follows =
    let P : RequestMoment → Type 0 = λ m. Follow m.last (last ∷ []) in
    subst P each follows
tries-follow request (try ∷ tries) last old mid each follows =
    follows-then request try (tries ++ last ∷ []) old each.0 each.1 (tries-follow request tries last each.0 mid each.2 follows)

pub works-follow : (stop : NodeStop) (request : RequestView) (old new : RequestMoment) (works : Works stop request old new) → Follow old.last (all_tries works)
works-follow stop request old new works =
    let last = last-try stop request works.last works.before_last new works.ends in
    tries-follow request works.tries works.last old works.before_last works.each
    (follows-once last.whole request works.last works.before_last last.between last.tries)
