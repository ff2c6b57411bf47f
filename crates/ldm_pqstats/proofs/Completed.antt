-- Where nothing fails and the replies that are owed come, sending ends as the lines and the answers say.
use Rattle.std.proofs.Common.{◌≡◌, ◌∙◌, ℕ, ◌<◌, ◌≤◌, Bool, true, false, ◌||◌, cond, List, [], ◌∷◌, ◌++◌, length, inl, inr, refl, sym, ap, arith}
use Rattle.std.specs.Prelude.{Result, Ok, Err}
use Rattle.std.proofs.lemmas.Bool.Decides.{nat_tests}
use Rattle.std.proofs.lemmas.List.{append-nil, length-append}
use Rattle.ldm_outside.specs.Count.{Rose}
use Rattle.ldm_outside.specs.Link.{LinkRecord}
use Rattle.ldm_outside.proofs.CallerLemmas.{Rose-later}
use Rattle.ldm_relay.specs.declared.message.PutAnswer.{PutAnswer}
use Rattle.ldm_stats.specs.Report.{hours_of}
use Rattle.ldm_stats.specs.Table.{Table}
use Rattle.ldm_tools.specs.declared.no_reply.NoReply.{NoReply}
use Rattle.ldm_tools.specs.declared.put_fault.PutFault.TheVariants as put_fault
use Rattle.ldm_tools.specs.Owing.{answers_refuse, are_denied}
use Rattle.ldm_tools.specs.Telling.{AreTold, Product}
use Rattle.ldm_tools.proofs.Followed.{breaks_from, followed, from_start, nothing_heard, told_all, told_denied, told_no_answer}
use Rattle.ldm_pqstats.specs.declared.end.SendFault.{SendFault}
use Rattle.ldm_pqstats.specs.declared.end.SendFault.TheVariants.{Unreached, OutOfMemory, TooLong, Put}
use Rattle.ldm_pqstats.specs.declared.limits.TheConstants.{LARGEST_BODY}
use Rattle.ldm_pqstats.specs.Owing.{Completes, are_long, ending_owed, is_long, sent_of}
use Rattle.ldm_pqstats.specs.Sending.{AreSent, ReportMoment, Outside, Sends, SendsAll, StopsAt, body_of, moment_of, next_number, number_behind, product_of}

-- ---- the hours that are sent

is_short : (stats : Table) (hour : ℕ) → length (body_of stats hour) ≤ LARGEST_BODY → is_long stats hour ≡ false
is_short stats hour short = grind (arith, nat_tests, short)

is_too_long : (stats : Table) (hour : ℕ) → LARGEST_BODY < length (body_of stats hour) → is_long stats hour ≡ true
is_too_long stats hour long = grind (arith, nat_tests, long)

-- none of these is long
abbrev AreShort : Table → List ℕ → Type 0
AreShort stats [] = Unit {0}
AreShort stats (hour ∷ hours) = (is_long stats hour ≡ false) × AreShort stats hours

sent_short : (stats : Table) (hours behind : List ℕ) → AreShort stats hours → sent_of stats (hours ++ behind) ≡ hours ++ sent_of stats behind
sent_short stats [] behind short = refl
sent_short stats (hour ∷ hours) behind short =
    ap (λ (b : Bool). cond b [] (hour ∷ sent_of stats (hours ++ behind))) short.0 ∙ ap (λ (h : List ℕ). hour ∷ h) (sent_short stats hours behind short.1)

long_short : (stats : Table) (hours behind : List ℕ) → AreShort stats hours → are_long stats (hours ++ behind) ≡ are_long stats behind
long_short stats [] behind short = refl
long_short stats (hour ∷ hours) behind short = ap (λ (b : Bool). b || are_long stats (hours ++ behind)) short.0 ∙ long_short stats hours behind short.1

-- nothing is sent of an hour that is too long, nor of those behind it
pub none_sent : (stats : Table) (hour : ℕ) (behind : List ℕ) → LARGEST_BODY < length (body_of stats hour) → sent_of stats (hour ∷ behind) ≡ []
none_sent stats hour behind long = ap (λ (b : Bool). cond b [] (hour ∷ sent_of stats behind)) (is_too_long stats hour long)

pub long_ends : (stats : Table) (hour : ℕ) (behind : List ℕ) → LARGEST_BODY < length (body_of stats hour) → ending_owed stats (hour ∷ behind) [] ≡ Err TooLong
long_ends stats hour behind long =
    let too_long : Result Bool SendFault = Err TooLong in
    let all : Result Bool SendFault = Ok false in
    ap (λ (b : Bool). cond (b || are_long stats behind) too_long all) (is_too_long stats hour long)

-- ---- what was sent, as products that were put

-- These hours were sent: their products were put, one for each, and none is long.
record Projected (stats : Table) (hours : List ℕ) (answers : List PutAnswer) (old new : ReportMoment) : Type 0 where
  pub products : List Product
  pub told : AreTold products answers old.wire new.wire
  pub count : length products ≡ length hours
  pub short : AreShort stats hours

projected : (stats : Table) (number : ℕ) (hours : List ℕ) (answers : List PutAnswer) (old new : ReportMoment) → AreSent stats number hours answers old new
    → Projected stats hours answers old new
projected stats number [] [] old new sent = record { products = []; told = ap (λ (m : ReportMoment). m.wire) sent; count = refl; short = tt }
projected stats number [] (answer ∷ answers) old new sent = absurd sent
projected stats number (hour ∷ hours) [] old new sent = absurd sent
projected stats number (hour ∷ hours) (answer ∷ answers) old new sent =
    let one = sent.1 in
    let rest = projected stats (next_number number) hours answers sent.0 new sent.2 in
    record {
      products = product_of stats (record { hour = hour; number = number }) one.arrival ∷ rest.products;
      told = (sent.0.wire, one.told, rest.told);
      count = (let n = rest.count in omega arith);
      short = (is_short stats hour one.short, rest.short);
    }

-- ---- how sending ended

module _ (stats : Table) (came left : LinkRecord) (old new : Outside) (given : List ℕ) (answers : List PutAnswer) where
  abbrev hours : List ℕ
  hours = hours_of stats.entries

  abbrev first : ReportMoment
  first = moment_of came old [] []

  abbrev last : ReportMoment
  last = moment_of left new given answers

  -- an hour that is sent or is too long, behind others
  joined : (before behind : List ℕ) (hour : ℕ) → hours ≡ before ++ hour ∷ behind → AreShort stats before → sent_of stats hours ≡ before ++ sent_of stats (hour ∷ behind)
  joined before behind hour are short = ap (sent_of stats) are ∙ sent_short stats before (hour ∷ behind) short

  -- an hour that is sent stands behind fewer
  fewer : (before behind : List ℕ) (hour : ℕ) → hours ≡ before ++ hour ∷ behind → AreShort stats before → length (body_of stats hour) ≤ LARGEST_BODY
      → length before < length (sent_of stats hours)
  fewer before behind hour are short fits =
      let this : sent_of stats (hour ∷ behind) ≡ hour ∷ sent_of stats behind = ap (λ (b : Bool). cond b [] (hour ∷ sent_of stats behind)) (is_short stats hour fits) in
      omega (arith, ap length (joined before behind hour are short), ap length this, length-append before (sent_of stats (hour ∷ behind)))

  -- how it ends where the answers do not deny, by whether an hour is too long
  quiet_ending : (owed : List PutAnswer) → are_denied owed ≡ false → (long : Bool) → are_long stats hours ≡ long
      → cond long (Err TooLong) (Ok (answers_refuse owed)) ≡ ending_owed stats hours owed
  quiet_ending owed quiet long is =
      let Ending : Type 0 = Result Bool SendFault in
      let denial : Ending = Err (Put put_fault.Denied) in
      let too_long : Ending = Err TooLong in
      let all : Ending = Ok (answers_refuse owed) in
      ap (λ (b : Bool). cond b too_long all) (sym is) ∙ ap (λ (b : Bool). cond b denial (cond (are_long stats hours) too_long all)) (sym quiet)

  -- all were sent
  sent_all : (refused : Bool) → SendsAll refused stats hours first last → Completes (Ok refused) stats came old new
  sent_all refused sends = λ stream owed served none.
      let p = projected stats 0 hours sends.answers first last sends.sent in
      let all : sent_of stats hours ≡ hours = ap (sent_of stats) (sym (append-nil hours)) ∙ sent_short stats hours [] p.short ∙ append-nil hours in
      let none_long : are_long stats hours ≡ false = ap (are_long stats) (sym (append-nil hours)) ∙ long_short stats hours [] p.short in
      let count : length (sent_of stats hours) ≡ length p.products = ap length all ∙ sym p.count in
      let heard = told_all (sent_of stats hours) stream owed p.products sends.answers first.wire last.wire (refl, refl) served.link served.says served.owed count p.told in
      let f = followed stream p.products sends.answers first.wire last.wire p.told (from_start stream came served.link) nothing_heard in
      let quiet : are_denied owed ≡ false = ap are_denied heard ∙ f.none in
      let is : Ok refused ≡ Ok (answers_refuse owed) = ap (λ (b : Bool). let r : Result Bool SendFault = Ok b in r) (sends.refused_is ∙ ap answers_refuse (sym heard)) in
      inl (is ∙ quiet_ending owed quiet false none_long)

  -- an hour was too long
  met_long : StopsAt TooLong stats hours first last → Completes (Err TooLong) stats came old new
  met_long stops = λ stream owed served none.
      let p = projected stats 0 stops.before stops.answers first stops.mid stops.sent in
      let long : is_long stats stops.hour ≡ true = is_too_long stats stops.hour stops.breaks.0 in
      let this : sent_of stats (stops.hour ∷ stops.behind) ≡ [] = none_sent stats stops.hour stops.behind stops.breaks.0 in
      let all : sent_of stats hours ≡ stops.before =
      joined stops.before stops.behind stops.hour stops.hours_are p.short ∙ ap (λ (h : List ℕ). stops.before ++ h) this ∙ append-nil stops.before in
      let are : are_long stats hours ≡ true =
      ap (are_long stats) stops.hours_are ∙ long_short stats stops.before (stops.hour ∷ stops.behind) p.short ∙ ap (λ (b : Bool). b || are_long stats stops.behind) long in
      let count : length (sent_of stats hours) ≡ length p.products = ap length all ∙ sym p.count in
      let heard = told_all (sent_of stats hours) stream owed p.products stops.answers first.wire stops.mid.wire (refl, refl) served.link served.says served.owed count p.told in
      let f = followed stream p.products stops.answers first.wire stops.mid.wire p.told (from_start stream came served.link) nothing_heard in
      inl (quiet_ending owed (ap are_denied heard ∙ f.none) true are)

  -- the peer denied an hour
  met_denial : StopsAt (Put put_fault.Denied) stats hours first last → Completes (Err (Put put_fault.Denied)) stats came old new
  met_denial stops = λ stream owed served none.
      let p = projected stats 0 stops.before stops.answers first stops.mid stops.sent in
      let breaks = stops.breaks in
      let few = fewer stops.before stops.behind stops.hour stops.hours_are p.short breaks.0 in
      let is = told_denied (sent_of stats hours) stream owed p.products stops.answers (product_of stats (record { hour = stops.hour; number = number_behind stops.before 0 }) breaks.1)
      first.wire stops.mid.wire last.wire (refl, refl) served.link served.says served.owed (omega (arith, p.count, few)) p.told breaks.3 in
      let denial : Result Bool SendFault = Err (Put put_fault.Denied) in
      let other : Result Bool SendFault = cond (are_long stats hours) (Err TooLong) (Ok (answers_refuse owed)) in
      inl (ap (λ (b : Bool). cond b denial other) (sym is))

  -- no answer came to an hour
  met_no_answer : (why : NoReply) → StopsAt (Put (put_fault.NoAnswer why)) stats hours first last → (Rose came.faults left.faults → Rose old.net.links.failed new.net.links.failed)
      → Completes (Err (Put (put_fault.NoAnswer why))) stats came old new
  met_no_answer why stops failed = λ stream owed served none.
      let p = projected stats 0 stops.before stops.answers first stops.mid stops.sent in
      let breaks = stops.breaks in
      let few = fewer stops.before stops.behind stops.hour stops.hours_are p.short breaks.0 in
      let product = product_of stats (record { hour = stops.hour; number = number_behind stops.before 0 }) breaks.1 in
      let from = breaks_from (put_fault.NoAnswer why) product came stops.mid.wire.link stops.mid.wire last.wire stops.kept.ends stops.kept.faults breaks.3 in
      let is = told_no_answer why (sent_of stats hours) stream owed p.products stops.answers product first.wire stops.mid.wire last.wire (refl, refl) served.link served.says served.owed
      (omega (arith, p.count, few)) p.told from served.short (λ rose. none.failed (failed rose)) in
      inr (inr (ap (λ (w : NoReply). let r : Result Bool SendFault = Err (Put (put_fault.NoAnswer w)) in r) is))

  -- the sink failed at the line of an answer
  met_sink : StopsAt (Put put_fault.SinkFault) stats hours first last → Completes (Err (Put put_fault.SinkFault)) stats came old new
  met_sink stops = λ stream owed served none. absurd (none.sink (Rose-later old.sink.faults stops.mid.wire.sink.faults new.sink.faults stops.kept.sink stops.breaks.3.rose))

  pub completes : (result : Result Bool SendFault) → Sends result stats hours first last → (Rose came.faults left.faults → Rose old.net.links.failed new.net.links.failed)
      → Completes result stats came old new
  completes (Ok refused) sends failed = sent_all refused sends
  completes (Err OutOfMemory) sends failed = λ stream owed served none. inr (inl refl)
  completes (Err TooLong) sends failed = met_long sends
  completes (Err (Put put_fault.Denied)) sends failed = met_denial sends
  completes (Err (Put (put_fault.NoAnswer why))) sends failed = met_no_answer why sends failed
  completes (Err (Put put_fault.SinkFault)) sends failed = met_sink sends
  completes (Err Unreached) sends failed = absurd sends
