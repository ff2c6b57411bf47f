-- A stream that is accepted is watched to its end.
use Rattle.std.proofs.Common.{◌≡◌, ℕ, ◌+◌, ◌-◌, ◌≤◌, ◌<◌, leb, Bool, true, false, List, [], ◌++◌, length, take, Option, Some, None, IfSome, inl, inr, refl, ap, sym, subst, ◌∙◌, arith}
use Rattle.std.specs.Option.{option_map}
use Rattle.std.proofs.lemmas.Bool.Decides.{nat_tests}
use Rattle.std.proofs.lemmas.List.{append-nil, length-take, take-append-le, take_all}
use Rattle.std.proofs.Math.Seq.{take-append-add}
use borrow.Author.Tests.{leb-true}
use Rattle.ldm_outside.specs.Count.{Rose}
use Rattle.ldm_rpc.specs.declared.fault.RpcFault.{RpcFault}
use Rattle.ldm_rpc.specs.declared.stage.Stage.{Stage}
use Rattle.ldm_rpc.specs.declared.stage.Stage.TheVariants.{Header, Fragment, Whole, Faulty}
use Rattle.ldm_rpc.specs.Reading.{is_faulty, is_faulty_at, is_open_at, is_whole_at}
use Rattle.ldm_rpc.specs.Streams.{Position, Placed, records_in, in_hand}
use Rattle.ldm_rpc.proofs.CallerLemmas.{reads_none, reads_fault}
use Rattle.ldm_rpc.proofs.Joined.{records-append, in_hand-append}
use Rattle.ldm_rpc.proofs.Pushed.{after_end}
use Rattle.ldm_watch.specs.declared.end.WatchEnd.{WatchEnd}
use Rattle.ldm_watch.specs.declared.end.WatchEnd.TheVariants.{Ended, Counted, Truncated, BadFrame, Refused, LinkFault, SinkFault, StreamLimit, OutOfMemory}
use Rattle.ldm_session.specs.declared.limits.TheConstants.{LONGEST_STREAM}
use Rattle.ldm_watch.specs.Complete.{Accepts, Completes, IsComplete}
use Rattle.ldm_watch.specs.Outside.{WatchRecord}
use Rattle.ldm_watch.specs.Sought.{Sought}
use Rattle.ldm_watch.specs.Told.{at_stream_end, beginning, end_behind, end_by_bytes, hand, is_edge, told, within}
use Rattle.ldm_watch.specs.Watched.{Watched, opening, watched}
use Rattle.ldm_watch.specs.Watches.{Watches}
use Rattle.ldm_watch.proofs.Fed.{came-behind, taken_of}
use Rattle.ldm_watch.proofs.Taken.{watched-append, watched-ended, watched-none}

-- ---- what ended it ends it still, whatever comes

fault_at : (stage : Stage) → is_faulty_at stage ≡ true → (fault : RpcFault) × (stage ≡ Faulty fault)
fault_at (Header came number) faulty = absurd cc
fault_at (Fragment left last) faulty = absurd cc
fault_at Whole faulty = absurd cc
fault_at (Faulty fault) faulty = (fault, refl)

-- more bytes complete no record, and the end is the same
record IsOver (p : Position) (bytes : List ℕ) : Type 0 where
  none : records_in p bytes ≡ []
  same : end_by_bytes (in_hand p bytes) ≡ end_by_bytes p

faulty-over : (p : Position) (bytes : List ℕ) (fault : RpcFault) → p.reading.stage ≡ Faulty fault → IsOver p bytes
faulty-over p bytes fault stage =
    let r = after_end p.reading bytes (ap is_open_at stage) in
    let read = reads_fault p bytes [] p bytes [] p.reading fault (reads_none p bytes [] (ap is_whole_at stage)) (sym r) stage in
    let before : is_faulty p.reading ≡ true = ap is_faulty_at stage in
    let behind : is_faulty (in_hand p bytes).reading ≡ true = ap is_faulty read.1 ∙ before in
    record { none = sym read.0; same = rw (behind, before, read.2) refl }

nothing-over : (p : Position) → IsOver p []
unfolding records_in in_hand
nothing-over p = record { none = refl; same = refl }

-- the bytes that are taken of a longer stream
longer-by : (given rest : List ℕ) (few : Bool) → leb (length given) LONGEST_STREAM ≡ few
    → within beginning (given ++ rest) ≡ within beginning given ++ take (LONGEST_STREAM - length given) rest
longer-by given rest true is =
    let n = LONGEST_STREAM - length given in
    let most : length given ≤ LONGEST_STREAM = grind (arith, nat_tests) in
    let room : LONGEST_STREAM ≡ length given + n = omega (arith, most) in
    ap (λ (k : ℕ). take k (given ++ rest)) room ∙ take-append-add given rest n
    ∙ ap (λ (bytes : List ℕ). bytes ++ take n rest) (sym (take_all LONGEST_STREAM given most))
longer-by given rest false is =
    let more : LONGEST_STREAM < length given = grind (arith, nat_tests) in
    let none : LONGEST_STREAM - length given ≡ 0 = omega (arith, more) in
    take-append-le LONGEST_STREAM given rest (omega (arith, more)) ∙ sym (append-nil (within beginning given))
    ∙ ap (λ (k : ℕ). within beginning given ++ take k rest) (sym none)

over-by : (given rest : List ℕ) (end : WatchEnd) (faulty full : Bool) → is_faulty (hand given).reading ≡ faulty → leb LONGEST_STREAM (hand given).came ≡ full
    → end_by_bytes (hand given) ≡ Some end → IsOver (hand given) (take (LONGEST_STREAM - length given) rest)
over-by given rest end true full faulty_is full_is ended =
    let fault = fault_at (hand given).reading.stage faulty_is in
    faulty-over (hand given) (take (LONGEST_STREAM - length given) rest) fault.0 fault.1
over-by given rest end false true faulty_is full_is ended =
    let most : LONGEST_STREAM ≤ (hand given).came = leb-true LONGEST_STREAM (hand given).came full_is in
    let came = came-behind beginning (within beginning given) in
    let len = length-take LONGEST_STREAM given in
    let none : LONGEST_STREAM - length given ≡ 0 = omega (arith, most, came, len) in
    subst (λ (k : ℕ). IsOver (hand given) (take k rest)) (sym none) (nothing-over (hand given))
over-by given rest end false false faulty_is full_is ended =
    let none : end_by_bytes (hand given) ≡ None = rw (faulty_is, full_is) refl in
    absurd (let same : None ≡ Some end = sym none ∙ ended in cc same)

module _ (sought : Sought) (given rest : List ℕ) where
  abbrev so_far : Watched
  so_far = taken_of sought given

  abbrev more : List ℕ
  more = take (LONGEST_STREAM - length given) rest

  hand-longer : hand (given ++ rest) ≡ in_hand (hand given) more
  hand-longer = ap (in_hand beginning) (longer-by given rest (leb (length given) LONGEST_STREAM) refl) ∙ in_hand-append beginning (within beginning given) more

  taken-longer : taken_of sought (given ++ rest) ≡ watched so_far (records_in (hand given) more)
  taken-longer =
      ap (λ (bytes : List ℕ). watched (opening sought) (records_in beginning bytes)) (longer-by given rest (leb (length given) LONGEST_STREAM) refl)
      ∙ ap (watched (opening sought)) (records-append beginning (within beginning given) more)
      ∙ watched-append (opening sought) (records_in beginning (within beginning given)) (records_in (hand given) more)

  told-by : (end : WatchEnd) (by : Option WatchEnd) → so_far.end ≡ by → end_behind (hand given) by ≡ Some end → (told sought (given ++ rest)).end ≡ Some end
  told-by end (Some other) by_is ended =
      let still : taken_of sought (given ++ rest) ≡ so_far = taken-longer ∙ watched-ended so_far other by_is (records_in (hand given) more) in
      ap (λ (t : Watched). end_behind (hand (given ++ rest)) t.end) still ∙ ap (end_behind (hand (given ++ rest))) by_is ∙ ended
  told-by end None by_is ended =
      let is = over-by given rest end (is_faulty (hand given).reading) (leb LONGEST_STREAM (hand given).came) refl refl ended in
      let still : taken_of sought (given ++ rest) ≡ so_far = taken-longer ∙ ap (watched so_far) is.none ∙ watched-none so_far in
      ap (λ (t : Watched). end_behind (hand (given ++ rest)) t.end) still ∙ ap (end_behind (hand (given ++ rest))) by_is
      ∙ ap end_by_bytes hand-longer ∙ is.same ∙ ended

  -- what they ended so is ended so by a longer stream
  pub told-longer : (end : WatchEnd) → (told sought given).end ≡ Some end → (told sought (given ++ rest)).end ≡ Some end
  told-longer end ended = told-by end so_far.end refl ended

-- ---- completeness

-- what the link gave is a front of its stream
record HasRest (given stream : List ℕ) (left : Option (List ℕ)) : Type 0 where
  rest : List ℕ
  left_is : left ≡ Some rest
  all : given ++ rest ≡ stream

rest_of : (given stream : List ℕ) (left : Option (List ℕ)) → Some stream ≡ option_map (λ (rest : List ℕ). given ++ rest) left → HasRest given stream left
rest_of given stream None is = absurd (cc is)
rest_of given stream (Some rest) is = record { rest = rest; left_is = refl; all = let same : given ++ rest ≡ stream = cc is in same }

not_by : (sought : Sought) (stream : List ℕ) (end : WatchEnd) → (told sought stream).end ≡ Some end → (Some end ≡ Some Counted → ⊥) → Accepts sought stream → ⊥
not_by sought stream end ended other (inl fine) = let same : Some end ≡ None = sym ended ∙ fine.0 in cc same
not_by sought stream end ended other (inr fine) = other (sym ended ∙ fine)

module _ (sought : Sought) (before after : WatchRecord) (stream : List ℕ) (left : before.link.left ≡ Some stream) (accepts : Accepts sought stream) where
  not_ended : (end : WatchEnd) (given : List ℕ) → (told sought given).end ≡ Some end → (Some end ≡ Some Counted → ⊥)
      → before.link.left ≡ option_map (λ (rest : List ℕ). given ++ rest) after.link.left → ⊥
  not_ended end given ended other gave =
      let front = rest_of given stream after.link.left (sym left ∙ gave) in
      let longer : (told sought stream).end ≡ Some end =
      subst (λ (bytes : List ℕ). (told sought bytes).end ≡ Some end) front.all (told-longer sought given front.rest end ended) in
      not_by sought stream end longer other accepts

  not_truncated : (at : ℕ) (given : List ℕ) → (told sought given).end ≡ None → Truncated at ≡ at_stream_end (hand given) (told sought given).watching.phase
      → before.link.left ≡ option_map (λ (rest : List ℕ). given ++ rest) after.link.left → IfSome after.link.left (λ rest. rest ≡ []) → ⊥
  not_truncated at given goes is gave ended =
      let front = rest_of given stream after.link.left (sym left ∙ gave) in
      let none : front.rest ≡ [] = subst (λ (o : Option (List ℕ)). IfSome o (λ (rest : List ℕ). rest ≡ [])) front.left_is ended in
      let all : given ≡ stream = sym (append-nil given) ∙ ap (λ (xs : List ℕ). given ++ xs) (sym none) ∙ front.all in
      let fine = subst (λ (bytes : List ℕ). Accepts sought bytes) (sym all) accepts in
      elim fine [
        | inl edge ↦ (let same : Truncated at ≡ Ended = is ∙ rw edge.1 refl in cc same)
        | inr counted ↦ (let same : None ≡ Some Counted = sym goes ∙ counted in cc same)
      ]

  completes_by : (end : WatchEnd) → Watches end sought before after → ¬ Rose before.link.faults after.link.faults → ¬ Rose before.sink.faults after.sink.faults → IsComplete end
  completes_by Ended watches link sink = tt
  completes_by Counted watches link sink = tt
  completes_by OutOfMemory watches link sink = tt
  completes_by (Truncated at) watches link sink =
      not_truncated at watches.given watches.cause.0.0 watches.cause.0.1 watches.exchanged.left watches.cause.1.1
  completes_by (BadFrame at) watches link sink = not_ended (BadFrame at) watches.given watches.cause (λ same. cc same) watches.exchanged.left
  completes_by (Refused answer) watches link sink = not_ended (Refused answer) watches.given watches.cause (λ same. cc same) watches.exchanged.left
  completes_by StreamLimit watches link sink = not_ended StreamLimit watches.given watches.cause (λ same. cc same) watches.exchanged.left
  completes_by LinkFault watches link sink = link watches.cause
  completes_by SinkFault watches link sink = sink watches.cause

pub completes : (end : WatchEnd) (sought : Sought) (before after : WatchRecord) → Watches end sought before after → Completes end sought before after
completes end sought before after watches stream left accepts link sink = completes_by sought before after stream left accepts end watches link sink
