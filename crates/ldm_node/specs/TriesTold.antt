-- What is told of the tries of a worker: by its dial, by its log, and by the tries themselves.
use Rattle.std.specs.Prelude.{◌≡◌, ℕ, true, List, [], ◌∷◌, ◌++◌, map, Option}
use Rattle.ldm_outside.specs.Dial.{Asked}
use Rattle.ldm_conf.specs.Confs.{RequestView}
use Rattle.ldm_node.specs.declared.stop.NodeStop.{NodeStop}
use Rattle.ldm_node.specs.declared.stop.NodeStop.TheVariants.{Done}
use Rattle.ldm_node.specs.SessionEnds.{end_of_receiving}
use Rattle.ldm_node.specs.Lines.{session_line, unreached_line}
use Rattle.ldm_node.specs.RequestMoments.{RequestMoment}
use Rattle.ldm_node.specs.Tries.{Try, TriesOnce, Unreached, Session, peer_of}
use Rattle.ldm_node.specs.RequestWorks.{AreTries, Works}

-- all tries of a worker, in order
abbrev pub all_tries : {stop : NodeStop} {request : RequestView} {old new : RequestMoment} → Works stop request old new → List Try
all_tries works = works.tries ++ works.last ∷ []

-- whom a dial was asked for by tries: the host and the port of the request, each time
abbrev pub asked_by : RequestView → List Try → List Asked
asked_by request tries = map (λ (try : Try). peer_of request) tries

abbrev pub line_of : RequestView → Try → List ℕ
line_of request Unreached = unreached_line request.host
line_of request (Session end before behind) = session_line request.host (end_of_receiving end)

-- The lines that a try wrote itself: none where the host was not reached; else those that its receiving names, all of them at an end that
-- is a whole one and else a front.
abbrev pub lines_of : (request : RequestView) (try : Try) (old new : RequestMoment) → TriesOnce true request try old new → List ℕ
lines_of request Unreached old new tries = []
lines_of request (Session end before behind) old new tries = tries.0.holds.receives.receives.lines

-- the same for each try, in order
abbrev pub lines_of_each : (request : RequestView) (tries : List Try) (old new : RequestMoment) → AreTries request tries old new → List (List ℕ)
lines_of_each request [] old new each = []
lines_of_each request (try ∷ tries) old new each =
    lines_of request try old each.1.between each.1.tries ∷ lines_of_each request tries each.0 new each.2

-- for all tries of a worker that the gate stopped
abbrev pub own_lines : {request : RequestView} {old new : RequestMoment} → Works Done request old new → List (List ℕ)
own_lines {request} {old} {new} works =
    lines_of_each request works.tries old works.before_last works.each
    ++ lines_of request works.last works.before_last works.ends.between works.ends.tries ∷ []

-- one line of each try, behind the lines of its own
abbrev pub log_of : RequestView → List Try → (own : List (List ℕ)) → List ℕ
log_of request (try ∷ tries) (lines ∷ own) = lines ++ line_of request try ++ log_of request tries own
log_of request _ _ = []

-- Each session begins with the last product of the one before, the first one with that which is given.
abbrev pub Follow : Option (List ℕ) → List Try → Type 0
Follow last [] = Unit {0}
Follow last (Unreached ∷ tries) = Follow last tries
Follow last (Session end before behind ∷ tries) = (before ≡ last) × Follow behind tries
