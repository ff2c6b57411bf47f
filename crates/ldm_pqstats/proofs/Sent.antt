-- Hours that are sent, one after another.
use Rattle.std.proofs.Common.{◌≡◌, ◌∙◌, ℕ, ◌+◌, ◌<◌, ◌≤◌, ◌==◌, Bool, true, false, ◌||◌, List, [], ◌∷◌, ◌++◌, length, take, drop, get_or, inl, inr, refl, sym, ap, subst, suc, arith, drop-cons}
use Rattle.std.specs.Prelude.{Result, Ok, Err}
use Rattle.std.proofs.lemmas.List.{take-append-drop}
use Rattle.ldm_types.specs.Info.{Metadata}
use Rattle.ldm_outside.specs.Clock.{Answers}
use Rattle.ldm_outside.specs.declared.dial.Dialled.TheVariants.{Linked}
use Rattle.ldm_outside.specs.Dial.{Asked, ConnectGives, DialRecord}
use Rattle.ldm_outside.specs.Link.{LinkRecord}
use Rattle.ldm_relay.specs.declared.message.PutAnswer.{PutAnswer}
use Rattle.ldm_stats.specs.Report.{hours_of}
use Rattle.ldm_stats.specs.Table.{Table}
use Rattle.ldm_tools.specs.declared.puts.Puts.{Puts}
use Rattle.ldm_tools.specs.Lines.{is_refused}
use Rattle.ldm_tools.specs.Owing.{answers_refuse}
use Rattle.ldm_tools.specs.declared.put_fault.PutFault.{PutFault}
use Rattle.ldm_tools.specs.Puts.{HasPut}
use Rattle.ldm_tools.specs.Telling.{Breaks, IsTold, Product, Putting, PutsProduct, wire_of}
use Rattle.ldm_tools.proofs.Linked.{linked}
use Rattle.ldm_pqstats.specs.declared.end.SendFault.{SendFault}
use Rattle.ldm_pqstats.specs.declared.end.SendFault.TheVariants.{Unreached, OutOfMemory, TooLong, Put}
use Rattle.ldm_pqstats.specs.declared.limits.TheConstants.{LARGEST_BODY}
use Rattle.ldm_pqstats.specs.Hours.{Ends, Hand, KeepsEnds, RunsOver, SendsHour, moment_in}
use Rattle.ldm_pqstats.specs.Linking.{HasHours, SendsHours, SendsOver}
use Rattle.ldm_pqstats.specs.Outsides.{HoldsHours}
use Rattle.ldm_pqstats.specs.Sending.{AreSent, HourAt, ReportMoment, Outside, Sends, SendsOne, StopsAt, body_of, hour_at, metadata_of, next_number, number_behind, product_of}
use Rattle.ldm_pqstats.proofs.Completed.{completes}

-- ---- one more

sent_more : (stats : Table) (number : ℕ) (hours : List ℕ) (answers : List PutAnswer) (hour : ℕ) (answer : PutAnswer) (a b c : ReportMoment) → AreSent stats number hours answers a b
    → SendsOne stats (hour_at hour (number_behind hours number)) answer b c → AreSent stats number (hours ++ hour ∷ []) (answers ++ answer ∷ []) a c
sent_more stats number [] [] hour answer a b c sent one = (c, subst (λ (m : ReportMoment). SendsOne stats (hour_at hour number) answer m c) sent one, refl)
sent_more stats number [] (x ∷ answers) hour answer a b c sent one = absurd sent
sent_more stats number (h ∷ hours) [] hour answer a b c sent one = absurd sent
sent_more stats number (h ∷ hours) (x ∷ answers) hour answer a b c sent one =
    (sent.0, sent.1, sent_more stats (next_number number) hours answers hour answer sent.0 b c sent.2 one)

or_none : (b : Bool) → (b || false) ≡ b
or_none true = refl
or_none false = refl

or_first : (a b c : Bool) → (a || (b || c)) ≡ ((a || b) || c)
or_first true b c = refl
or_first false b c = refl

refused_more : (answers : List PutAnswer) (answer : PutAnswer) → answers_refuse (answers ++ answer ∷ []) ≡ (answers_refuse answers || is_refused answer)
refused_more [] answer = or_none (is_refused answer)
refused_more (x ∷ answers) answer =
    ap (λ (b : Bool). is_refused x || b) (refused_more answers answer) ∙ or_first (is_refused x) (answers_refuse answers) (is_refused answer)

pub number_more : (hours : List ℕ) (hour number : ℕ) → number_behind (hours ++ hour ∷ []) number ≡ next_number (number_behind hours number)
number_more [] hour number = refl
number_more (h ∷ hours) hour number = number_more hours hour (next_number number)

-- ---- the loop

-- These hours were sent since the beginning, and it goes on.
pub record Goes (stats : Table) (done : List ℕ) (refused : Bool) (puts : Puts) (start now : Ends) : Type 0 where
  pub given : List ℕ
  pub answers : List PutAnswer
  pub sent : AreSent stats 0 done answers (moment_in start [] []) (moment_in now given answers)
  pub has : HasPut given answers puts
  pub refused_is : refused ≡ answers_refuse answers

abbrev pub hand_in : Puts → Ends → Hand
hand_in puts ends = record { puts = puts; link = ends.link; sink = ends.sink; clock = ends.clock }

pub goes_none : (stats : Table) (puts : Puts) (now : Ends) → HasPut [] [] puts → Goes stats [] false puts now now
goes_none stats puts now has = record { given = []; answers = []; sent = refl; has = has; refused_is = refl }

pub goes_on : (stats : Table) (done : List ℕ) (hour : ℕ) (refused this : Bool) (puts puts' : Puts) (start mid now : Ends) → Goes stats done refused puts start mid
    → SendsHour (Ok this) stats (hour_at hour (number_behind done 0)) (hand_in puts mid) (hand_in puts' now) → Goes stats (done ++ hour ∷ []) (refused || this) puts' start now
goes_on stats done hour refused this puts puts' start mid now goes sends =
    let s = sends goes.given goes.answers goes.has in
    record {
      given = s.1;
      answers = goes.answers ++ s.0 ∷ [];
      sent = sent_more stats 0 done goes.answers hour s.0 (moment_in start [] []) (moment_in mid goes.given goes.answers) (moment_in now s.1 (goes.answers ++ s.0 ∷ [])) goes.sent s.2;
      has = s.3;
      refused_is =
          ap (λ (b : Bool). b || this) goes.refused_is ∙ (ap (λ (b : Bool). answers_refuse goes.answers || b) s.4 ∙ sym (refused_more goes.answers s.0));
    }

ends_by : (why : SendFault) (stats : Table) (hours : List ℕ) (old new : ReportMoment) → StopsAt why stats hours old new → Sends (Err why) stats hours old new
ends_by Unreached stats hours old new stops = absurd stops.breaks
ends_by OutOfMemory stats hours old new stops = inr stops
ends_by TooLong stats hours old new stops = stops
ends_by (Put why) stats hours old new stops = stops

pub stops_at : (stats : Table) (hours before : List ℕ) (hour : ℕ) (behind : List ℕ) (refused : Bool) (why : SendFault) (puts puts' : Puts) (start mid now : Ends)
    → hours ≡ before ++ hour ∷ behind → Goes stats before refused puts start mid → KeepsEnds start mid
    → SendsHour (Err why) stats (hour_at hour (number_behind before 0)) (hand_in puts mid) (hand_in puts' now) → RunsOver (Err why) stats hours start now
stops_at stats hours before hour behind refused why puts puts' start mid now are goes kept sends =
    let s = sends goes.given goes.answers goes.has in
    record {
      given = s.0;
      answers = s.1;
      sends = ends_by why stats hours (moment_in start [] []) (moment_in now s.0 s.1) (record {
        before = before;
        hour = hour;
        behind = behind;
        hours_are = are;
        answers = goes.answers;
        mid = moment_in mid goes.given goes.answers;
        sent = goes.sent;
        kept = record { ends = kept.ends; faults = kept.faults; sink = kept.sink };
        breaks = s.2;
      });
    }

pub goes_whole : (stats : Table) (hours : List ℕ) (refused : Bool) (puts : Puts) (start now : Ends) → Goes stats hours refused puts start now → RunsOver (Ok refused) stats hours start now
goes_whole stats hours refused puts start now goes =
    record { given = goes.given; answers = goes.answers; sends = record { answers = goes.answers; sent = goes.sent; refused_is = goes.refused_is } }

pub no_room : (stats : Table) (hours : List ℕ) (now : Ends) → RunsOver (Err OutOfMemory) stats hours now now
no_room stats hours now = record { given = []; answers = []; sends = inl refl }

pub split : (hours : List ℕ) (i d : ℕ) → i < length hours → hours ≡ take i hours ++ get_or hours i d ∷ drop (i + 1) hours
split hours i d within =
    let next : i + 1 ≡ suc i = omega arith in
    sym (take-append-drop i hours) ∙ ap (λ (x : List ℕ). take i hours ++ x) (drop-cons hours i d within ∙ ap (λ (n : ℕ). get_or hours i d ∷ drop n hours) (sym next))

-- ---- one hour

abbrev pub putting_in : Hand → Putting
putting_in hand = record { puts = hand.puts; link = hand.link; sink = hand.sink }

product_is : (stats : Table) (at : HourAt) (arrival : ℕ) (info : Metadata) (body : List ℕ) → info ≡ metadata_of at arrival body → body ≡ body_of stats at.hour
    → ◌≡◌ {A = Product} (record { info = info; body = body }) (product_of stats at arrival)
product_is stats at arrival info body info_is body_is =
    ap (λ (i : Metadata). record { info = i; body = body }) info_is ∙ ap (λ (b : List ℕ). record { info = metadata_of at arrival b; body = b }) body_is

pub put_sent : (stats : Table) (at : HourAt) (arrival : ℕ) (info : Metadata) (body : List ℕ) (refused : Bool) (old new : Hand) → body ≡ body_of stats at.hour
    → length body ≤ LARGEST_BODY → Answers arrival old.clock new.clock → info ≡ metadata_of at arrival body
    → PutsProduct (Ok refused) (record { info = info; body = body }) (putting_in old) (putting_in new) → SendsHour (Ok refused) stats at old new
put_sent stats at arrival info body refused old new body_is short asked info_is puts given answers has =
    let s = puts given answers has in
    let told = subst (λ (p : Product). IsTold p s.0 (wire_of (putting_in old) given answers) (wire_of (putting_in new) s.1 (answers ++ s.0 ∷ [])))
    (product_is stats at arrival info body info_is body_is) s.2 in
    (s.0, s.1, record { short = subst (λ (b : List ℕ). length b ≤ LARGEST_BODY) body_is short; arrival = arrival; asked = asked; told = told }, s.3, s.4)

pub put_broken : (stats : Table) (at : HourAt) (arrival : ℕ) (info : Metadata) (body : List ℕ) (why : PutFault) (old new : Hand) → body ≡ body_of stats at.hour
    → length body ≤ LARGEST_BODY → Answers arrival old.clock new.clock → info ≡ metadata_of at arrival body
    → PutsProduct (Err why) (record { info = info; body = body }) (putting_in old) (putting_in new) → SendsHour (Err (Put why)) stats at old new
put_broken stats at arrival info body why old new body_is short asked info_is puts given answers has =
    let s = puts given answers has in
    let breaks = subst (λ (p : Product). Breaks why p old.link (wire_of (putting_in old) given answers) (wire_of (putting_in new) s.0 s.1))
    (product_is stats at arrival info body info_is body_is) s.2 in
    (s.0, s.1, (subst (λ (b : List ℕ). length b ≤ LARGEST_BODY) body_is short, arrival, asked, breaks))

-- ---- a link that came, and was given back

pub has_hours : (stats : Table) (hours : List ℕ) (count : ℕ) → hours ≡ hours_of stats.entries → count ≡ length hours → (count == 0) ≡ false → HasHours stats
has_hours stats hours count are is some = λ none.
    let both : true ≡ false = sym (ap (λ (h : List ℕ). length h == 0) (are ∙ none)) ∙ ap (λ (n : ℕ). n == 0) (sym is) ∙ some in
    absurd cc

sent_over : (result : Result Bool SendFault) (peer : Asked) (stats : Table) (came : LinkRecord) (lent : DialRecord) (old new : Outside) → HasHours stats
    → ConnectGives (λ (link : LinkRecord). link) (Linked came) peer old.net lent → HoldsHours result stats came (record old { net = lent }) new → SendsOver result peer stats old new
sent_over result peer stats came lent old new some dialled holds =
    let is = linked peer came holds.left old.net lent new.net dialled holds.not_closed holds.given_back in
    record {
      some = some;
      came = came;
      left = holds.left;
      linked = is;
      given = holds.runs.given;
      answers = holds.runs.answers;
      sends = holds.runs.sends;
      completes = completes stats came holds.left old new holds.runs.given holds.runs.answers result holds.runs.sends is.failed;
    }

pub sends_hours : (result : Result Bool SendFault) (peer : Asked) (stats : Table) (came : LinkRecord) (lent : DialRecord) (old new : Outside) → HasHours stats
    → ConnectGives (λ (link : LinkRecord). link) (Linked came) peer old.net lent → HoldsHours result stats came (record old { net = lent }) new → SendsHours result peer stats old new
sends_hours (Ok refused) peer stats came lent old new some dialled holds = inr (sent_over (Ok refused) peer stats came lent old new some dialled holds)
sends_hours (Err OutOfMemory) peer stats came lent old new some dialled holds = inr (sent_over (Err OutOfMemory) peer stats came lent old new some dialled holds)
sends_hours (Err TooLong) peer stats came lent old new some dialled holds = sent_over (Err TooLong) peer stats came lent old new some dialled holds
sends_hours (Err (Put why)) peer stats came lent old new some dialled holds = sent_over (Err (Put why)) peer stats came lent old new some dialled holds
sends_hours (Err Unreached) peer stats came lent old new some dialled holds = absurd holds.runs.sends
