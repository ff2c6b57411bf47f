-- Parts of a sending that also ask the gate and write the log, one after another.
use Rattle.std.proofs.Common.{◌≡◌, ◌∙◌, ℕ, List, [], ◌++◌, Bool, true, false, refl, sym, ap, subst, arith, append_assoc}
use Rattle.std.proofs.Common.{append-nil}
use Rattle.ldm_model.specs.declared.event.Entry.{Entry}
use Rattle.ldm_outside.specs.declared.gate.Go.{Go}
use Rattle.ldm_outside.specs.Gate.{GateRecord}
use Rattle.ldm_outside.specs.Io.{SinkRecord, Takes, WritesFront}
use Rattle.ldm_outside.proofs.CallerLemmas.{Takes-then, Takes-nothing, WritesFront-behind}
use Rattle.ldm_shared.proofs.Made.{calls_trans}
use Rattle.ldm_session.specs.Gaps.{gap_log}
use Rattle.ldm_session.proofs.CallerLemmas.{AnsweredAll-then, Exchanged-then, IdledAll-then, gap_log-append}
use Rattle.ldm_sender.specs.declared.end.SendEnd.{SendEnd}
use Rattle.ldm_sender.specs.declared.end.SendEnd.TheVariants as end
use Rattle.ldm_sender.specs.Calls.{MayBeUnmade}
use Rattle.ldm_sender.specs.Deeds.{Deed}
use Rattle.ldm_sender.specs.Does.{SendingMoment, Does, Breaks, Each}
use Rattle.ldm_session.specs.Part.{IsPart}
use Rattle.ldm_sender.specs.Acts.{Situation, situation_of, Act, then_act, ungated, KeepsBeside, Acts, IsStop, Logged}
use Rattle.ldm_sender.specs.Acts.{BreaksAct, EndsAct}
use Rattle.ldm_sender.proofs.Doing.{does_then, keeps_link_then}
use Rattle.ldm_sender.proofs.Fronts.{all_such, all_but_behind, all_but_more}

-- ---- deeds and acts that are the same

pub deed_is : (entries entries' : List Entry) (bytes bytes' instants instants' : List ℕ) → entries ≡ entries'
    → bytes ≡ bytes' → instants ≡ instants'
    → let first : Deed = record { entries = entries; bytes = bytes; instants = instants } in
    let second : Deed = record { entries = entries'; bytes = bytes'; instants = instants' } in first ≡ second
deed_is entries entries' bytes bytes' instants instants' one two three =
    let by_entries : List Entry → Deed = λ x. record { entries = x; bytes = bytes; instants = instants } in
    let by_bytes : List ℕ → Deed = λ x. record { entries = entries'; bytes = x; instants = instants } in
    let by_instants : List ℕ → Deed = λ x. record { entries = entries'; bytes = bytes'; instants = x } in
    ap by_entries one ∙ ap by_bytes two ∙ ap by_instants three

pub act_is : (deed deed' : Deed) (goes goes' : List Go) → deed ≡ deed' → goes ≡ goes'
    → let first : Act = record { deed = deed; goes = goes } in let second : Act = record { deed = deed'; goes = goes' }
    in first ≡ second
act_is deed deed' goes goes' one two =
    let by_deed : Deed → Act = λ x. record { deed = x; goes = goes } in
    let by_goes : List Go → Act = λ x. record { deed = deed'; goes = x } in
    ap by_deed one ∙ ap by_goes two

pub acts_same : (host came : List ℕ) (old new : Situation) (act act' : Act) → act ≡ act' → Acts host came old new act
    → Acts host came old new act'
acts_same host came old new act act' same acts = subst (λ (x : Act). Acts host came old new x) same acts

pub breaks_same : (why : SendEnd) (host came : List ℕ) (old new : Situation) (act act' : Act) → act ≡ act'
    → BreaksAct why host came old new act
    → BreaksAct why host came old new act'
breaks_same why host came old new act act' same breaks =
    subst (λ (x : Act). BreaksAct why host came old new x) same breaks

pub ends_same : (whole : Bool) (why : SendEnd) (host came : List ℕ) (old new : Situation) (act act' : Act) → act ≡ act'
    → EndsAct whole why host came old new act
    → EndsAct whole why host came old new act'
ends_same whole why host came old new act act' same ends =
    subst (λ (x : Act). EndsAct whole why host came old new x) same ends

-- ---- one after another

pub beside_same : (now : Situation) → KeepsBeside now now
beside_same now = record { log = omega arith; stops = omega arith }

pub beside_then : (a b c : Situation) → KeepsBeside a b → KeepsBeside b c → KeepsBeside a c
beside_then a b c one two =
    record { log = omega (arith, one.log, two.log); stops = omega (arith, one.stops, two.stops) }

-- log and gate were not asked
pub acts_of : (host came : List ℕ) (old new : SendingMoment) (log : SinkRecord) (gate : GateRecord) (deed : Deed)
    → gap_log host deed.entries ≡ [] → Does came old new deed
    → Acts host came (situation_of old log gate) (situation_of new log gate) (ungated deed)
acts_of host came old new log gate deed silent does = record {
  does = does;
  logged = subst (λ (x : List ℕ). Takes log x log) (sym silent) (Takes-nothing log log refl);
  idled = refl;
  beside = record { log = omega arith; stops = omega arith };
}

pub logged_takes : (why : SendEnd) (old new : SinkRecord) (lines : List ℕ) → Takes old lines new
    → Logged why old lines new
logged_takes end.LogFault old new lines takes = (lines, [], append-nil lines, takes)
logged_takes end.Worn old new lines takes = (lines, [], append-nil lines, takes)
logged_takes end.Stopped old new lines takes = takes
logged_takes end.Reclassed old new lines takes = takes
logged_takes (end.Denied rule) old new lines takes = takes
logged_takes (end.PeerEnd at) old new lines takes = takes
logged_takes end.LinkFault old new lines takes = takes
logged_takes (end.BadReply at) old new lines takes = takes
logged_takes end.AllBusy old new lines takes = takes
logged_takes end.OutOfMemory old new lines takes = takes

front_then : (old mid new : SinkRecord) (first second : List ℕ) → Takes old first mid → WritesFront mid second new
    → WritesFront old (first ++ second) new
front_then old mid new first second one two =
    subst (λ (x : List ℕ). WritesFront old x new) (append-nil (first ++ second))
    (WritesFront-behind old mid new first second [] one two)

pub logged_then : (why : SendEnd) (old mid new : SinkRecord) (first second : List ℕ) → Takes old first mid
    → Logged why mid second new → Logged why old (first ++ second) new
logged_then end.LogFault old mid new first second one two = front_then old mid new first second one two
logged_then end.Worn old mid new first second one two = front_then old mid new first second one two
logged_then end.Stopped old mid new first second one two = Takes-then old mid new first second one two
logged_then end.Reclassed old mid new first second one two = Takes-then old mid new first second one two
logged_then (end.Denied rule) old mid new first second one two = Takes-then old mid new first second one two
logged_then (end.PeerEnd at) old mid new first second one two = Takes-then old mid new first second one two
logged_then end.LinkFault old mid new first second one two = Takes-then old mid new first second one two
logged_then (end.BadReply at) old mid new first second one two = Takes-then old mid new first second one two
logged_then end.AllBusy old mid new first second one two = Takes-then old mid new first second one two
logged_then end.OutOfMemory old mid new first second one two = Takes-then old mid new first second one two

-- log and gate were not asked, and it broke off in calls that may be left out
pub breaks_act_of : (why : SendEnd) (host came : List ℕ) (old new : SendingMoment) (log : SinkRecord) (gate : GateRecord)
    (deed : Deed) (breaks : Breaks came old new deed)
    → gap_log host breaks.called ≡ [] → Each MayBeUnmade deed.entries
    → BreaksAct why host came (situation_of old log gate) (situation_of new log gate) (ungated deed)
breaks_act_of why host came old new log gate deed breaks silent minor = record {
  breaks = breaks;
  unmade = all_such MayBeUnmade breaks.called deed.entries breaks.called_part minor;
  logged = subst (λ (x : List ℕ). Logged why log x log) (sym silent)
      (logged_takes why log log [] (Takes-nothing log log refl));
  goes = [];
  idled = refl;
  goes_part = ([], refl, tt);
  beside = record { log = omega arith; stops = omega arith };
}

-- one act, and then another
pub acts_then : (host came more : List ℕ) (a b c : Situation) (first second : Act) → Acts host came a b first
    → Acts host more b c second
    → Acts host (came ++ more) a c (then_act first second)
acts_then host came more a b c first second one two = record {
  does = does_then came more a.moment b.moment c.moment first.deed second.deed one.does two.does;
  logged =
      subst (λ (x : List ℕ). Takes a.log x c.log) (sym (gap_log-append host first.deed.entries second.deed.entries))
      (Takes-then a.log b.log c.log (gap_log host first.deed.entries)
      (gap_log host second.deed.entries) one.logged two.logged);
  idled = IdledAll-then first.goes second.goes a.gate b.gate c.gate one.idled two.idled;
  beside = beside_then a b c one.beside two.beside;
}

part_behind : {A : Type 0} → (before part all : List A) → IsPart false part all
    → IsPart false (before ++ part) (before ++ all)
part_behind before part all is = (is.0, append_assoc before part is.0 ∙ ap (λ xs. before ++ xs) is.1)

-- one act, and then it breaks off in another
pub acts_break : (why : SendEnd) (host came more : List ℕ) (a b c : Situation) (first second : Act)
    → Acts host came a b first → BreaksAct why host more b c second
    → BreaksAct why host (came ++ more) a c (then_act first second)
acts_break why host came more a b c first second one two =
    let inner = two.breaks in
    record {
      breaks = record {
        called = first.deed.entries ++ inner.called;
        calls = calls_trans a.moment.pass b.moment.pass c.moment.pass first.deed.entries inner.called one.does.calls
            inner.calls;
        called_part = part_behind first.deed.entries inner.called second.deed.entries inner.called_part;
        sent = one.does.sent ++ inner.sent;
        exchanged =
            Exchanged-then a.moment.link b.moment.link c.moment.link one.does.sent came inner.sent more
            one.does.exchanged inner.exchanged;
        sent_part = (
          inner.sent_part.0,
          append_assoc one.does.sent inner.sent inner.sent_part.0
              ∙ ap (λ (x : List ℕ). one.does.sent ++ x) inner.sent_part.1
              ∙ sym (append_assoc one.does.sent b.moment.out second.deed.bytes)
              ∙ ap (λ (x : List ℕ). x ++ second.deed.bytes) (sym one.does.gathered)
              ∙ append_assoc a.moment.out first.deed.bytes second.deed.bytes,
        );
        instants = first.deed.instants ++ inner.instants;
        answered = AnsweredAll-then first.deed.instants inner.instants a.moment.clock b.moment.clock c.moment.clock
            one.does.answered inner.answered;
        instants_part = part_behind first.deed.instants inner.instants second.deed.instants inner.instants_part;
        link = keeps_link_then a.moment.link b.moment.link c.moment.link one.does.link inner.link;
      };
      unmade = all_but_behind MayBeUnmade false first.deed.entries inner.called second.deed.entries two.unmade;
      logged =
          subst (λ (x : List ℕ). Logged why a.log x c.log) (sym (gap_log-append host first.deed.entries inner.called))
          (logged_then why a.log b.log c.log (gap_log host first.deed.entries)
          (gap_log host inner.called) one.logged two.logged);
      goes = first.goes ++ two.goes;
      idled = IdledAll-then first.goes two.goes a.gate b.gate c.gate one.idled two.idled;
      goes_part = all_but_behind IsStop false first.goes two.goes second.goes two.goes_part;
      beside = beside_then a b c one.beside two.beside;
    }

pub acts_end : (whole : Bool) (why : SendEnd) (host came more : List ℕ) (a b c : Situation) (first second : Act)
    → Acts host came a b first
    → EndsAct whole why host more b c second → EndsAct whole why host (came ++ more) a c (then_act first second)
acts_end true why host came more a b c first second one two = acts_then host came more a b c first second one two
acts_end false why host came more a b c first second one two = acts_break why host came more a b c first second one two

-- it breaks off in a first act, behind which another one was to come that may be left out
more_behind : {A : Type 0} → (part whole behind : List A) → IsPart false part whole
    → IsPart false part (whole ++ behind)
more_behind part whole behind is = (is.0 ++ behind, sym (append_assoc part is.0 behind) ∙ ap (λ xs. xs ++ behind) is.1)

pub breaks_act_before : (why : SendEnd) (host came : List ℕ) (old new : Situation) (first second : Act)
    → BreaksAct why host came old new first
    → Each MayBeUnmade second.deed.entries → Each IsStop second.goes
    → BreaksAct why host came old new (then_act first second)
breaks_act_before why host came old new first second breaks minor stops =
    let inner = breaks.breaks in
    record {
      breaks = record {
        called = inner.called;
        calls = inner.calls;
        called_part = more_behind inner.called first.deed.entries second.deed.entries inner.called_part;
        sent = inner.sent;
        exchanged = inner.exchanged;
        sent_part =
            let longer = more_behind inner.sent (old.moment.out ++ first.deed.bytes) second.deed.bytes inner.sent_part
            in
            (longer.0, longer.1 ∙ append_assoc old.moment.out first.deed.bytes second.deed.bytes);
        instants = inner.instants;
        answered = inner.answered;
        instants_part = more_behind inner.instants first.deed.instants second.deed.instants inner.instants_part;
        link = inner.link;
      };
      unmade = all_but_more MayBeUnmade inner.called first.deed.entries second.deed.entries breaks.unmade minor;
      logged = breaks.logged;
      goes = breaks.goes;
      idled = breaks.idled;
      goes_part = all_but_more IsStop breaks.goes first.goes second.goes breaks.goes_part stops;
      beside = breaks.beside;
    }
