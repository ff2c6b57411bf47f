-- Parts of a sending, one after another: what was done, what is left of a deed, and where it breaks off.
use Rattle.std.proofs.Common.{◌≡◌, ◌∙◌, ℕ, ◌≤◌, List, [], ◌++◌, false, refl, sym, ap, subst, arith, append_assoc}
use Rattle.std.proofs.Common.{append-nil}
use Rattle.ldm_model.specs.declared.event.Entry.{Entry}
use Rattle.ldm_outside.specs.Clock.{ClockRecord}
use Rattle.ldm_outside.specs.Link.{LinkRecord, IsNotClosed, Sent, Failing, after_sent}
use Rattle.ldm_shared.specs.Passes.{PassView, Calls}
use Rattle.ldm_shared.proofs.Made.{calls_none, calls_trans}
use Rattle.ldm_session.specs.Exchange.{Exchanged, AnsweredAll}
use Rattle.ldm_session.specs.Gathering as gathering
use Rattle.ldm_session.proofs.CallerLemmas.{Exchanged-then, Exchanged-nothing, Exchanged-sent, Exchanged-front}
use Rattle.ldm_session.proofs.CallerLemmas.{AnsweredAll-nothing, AnsweredAll-then}
use Rattle.ldm_sender.specs.Deeds.{Deed, and_then, no_deed}
use Rattle.ldm_sender.specs.Does.{SendingMoment, moment_of, KeepsLink, Does, Breaks}
use Rattle.ldm_session.specs.Part.{IsPart}

-- ---- the link

-- nothing passed
pub exchanged_nothing : (link : LinkRecord) → Exchanged link [] [] link
exchanged_nothing link = Exchanged-nothing link link refl refl

pub keeps_link : (link : LinkRecord) → IsNotClosed link → KeepsLink link link
keeps_link link unclosed = record { faults = omega arith; ends = omega arith; still_open = unclosed }

pub keeps_link_then : (a b c : LinkRecord) → KeepsLink a b → KeepsLink b c → KeepsLink a c
keeps_link_then a b c one two = record {
  faults = omega (arith, one.faults, two.faults);
  ends = omega (arith, one.ends, two.ends);
  still_open = two.still_open;
}

pub keeps_link_sent : (old new : LinkRecord) (piece : List ℕ) → IsNotClosed old → Sent old piece new → KeepsLink old new
keeps_link_sent old new piece unclosed sent = record {
  faults = omega (arith, ap (λ (link : LinkRecord). link.faults) sent);
  ends = omega (arith, ap (λ (link : LinkRecord). link.ends) sent);
  still_open = ap (λ (link : LinkRecord). link.closed) sent ∙ unclosed;
}

-- it failed after bytes were sent
pub keeps_link_failing : (old new : LinkRecord) (piece : List ℕ) → IsNotClosed old → old.faults ≤ new.faults
    → Failing (after_sent piece old) new → KeepsLink old new
keeps_link_failing old new piece unclosed faults failing = record {
  faults = faults;
  ends = omega (arith, ap (λ (link : LinkRecord). link.ends) failing.1);
  still_open = ap (λ (link : LinkRecord). link.closed) failing.1 ∙ unclosed;
}

-- ---- what is left of a deed

-- Of a deed all is done but what is left.
pub record Toward (given : List ℕ) (old now : SendingMoment) (left all : Deed) : Type 0 where
  pub made : List Entry
  pub calls : Calls old.pass now.pass made
  pub entries : made ++ left.entries ≡ all.entries
  pub sent : List ℕ
  pub exchanged : Exchanged old.link sent given now.link
  pub bytes : sent ++ (now.out ++ left.bytes) ≡ old.out ++ all.bytes
  pub asked : List ℕ
  pub answered : AnsweredAll asked old.clock now.clock
  pub instants : asked ++ left.instants ≡ all.instants
  pub link : KeepsLink old.link now.link

-- nothing is done yet
pub all_left : (now : SendingMoment) (all : Deed) → IsNotClosed now.link → Toward [] now now all all
all_left now all unclosed = record {
  made = [];
  calls = calls_none now.pass;
  entries = refl;
  sent = [];
  exchanged = exchanged_nothing now.link;
  bytes = refl;
  asked = [];
  answered = AnsweredAll-nothing now.clock;
  instants = refl;
  link = keeps_link now.link unclosed;
}

parts_then : {A : Type 0} → (made more rest left all : List A) → made ++ left ≡ all → more ++ rest ≡ left
    → (made ++ more) ++ rest ≡ all
parts_then made more rest left all one two = append_assoc made more rest ∙ ap (λ xs. made ++ xs) two ∙ one

-- it goes on
pub toward_then : (given more : List ℕ) (old mid new : SendingMoment) (rest left all : Deed) → Toward given old mid left all
    → Toward more mid new rest left
    → Toward (given ++ more) old new rest all
toward_then given more old mid new rest left all one two = record {
  made = one.made ++ two.made;
  calls = calls_trans old.pass mid.pass new.pass one.made two.made one.calls two.calls;
  entries = parts_then one.made two.made rest.entries left.entries all.entries one.entries two.entries;
  sent = one.sent ++ two.sent;
  exchanged = Exchanged-then old.link mid.link new.link one.sent given two.sent more one.exchanged two.exchanged;
  bytes = parts_then one.sent two.sent (new.out ++ rest.bytes) (mid.out ++ left.bytes)
      (old.out ++ all.bytes) one.bytes two.bytes;
  asked = one.asked ++ two.asked;
  answered = AnsweredAll-then one.asked two.asked old.clock mid.clock new.clock one.answered two.answered;
  instants = parts_then one.asked two.asked rest.instants left.instants all.instants one.instants two.instants;
  link = keeps_link_then old.link mid.link new.link one.link two.link;
}

-- what is left is the same deed in other words
pub toward_same : (given : List ℕ) (old now : SendingMoment) (left left' all : Deed) → left ≡ left'
    → Toward given old now left all → Toward given old now left' all
toward_same given old now left left' all same toward =
    subst (λ (deed : Deed). Toward given old now deed all) same toward

-- nothing is left
pub all_done : (given : List ℕ) (old new : SendingMoment) (all : Deed) → Toward given old new no_deed all
    → Does given old new all
all_done given old new all toward = record {
  calls = subst (λ (es : List Entry). Calls old.pass new.pass es)
      (sym (append-nil toward.made) ∙ toward.entries) toward.calls;
  sent = toward.sent;
  gathered = sym (ap (λ (x : List ℕ). toward.sent ++ x) (sym (append-nil new.out)) ∙ toward.bytes);
  exchanged = toward.exchanged;
  answered = subst (λ (x : List ℕ). AnsweredAll x old.clock new.clock)
      (sym (append-nil toward.asked) ∙ toward.instants) toward.answered;
  link = toward.link;
}

-- a deed is done, and one is left
pub one_done : (given : List ℕ) (old new : SendingMoment) (first second : Deed) → Does given old new first
    → Toward given old new second (and_then first second)
one_done given old new first second does = record {
  made = first.entries;
  calls = does.calls;
  entries = refl;
  sent = does.sent;
  exchanged = does.exchanged;
  bytes =
      sym (append_assoc does.sent new.out second.bytes) ∙ ap (λ (x : List ℕ). x ++ second.bytes)
      (sym does.gathered) ∙ append_assoc old.out first.bytes second.bytes;
  asked = first.instants;
  answered = does.answered;
  instants = refl;
  link = does.link;
}

-- one deed, and then another
pub does_then : (given more : List ℕ) (old mid new : SendingMoment) (first second : Deed) → Does given old mid first
    → Does more mid new second
    → Does (given ++ more) old new (and_then first second)
does_then given more old mid new first second one two = record {
  calls = calls_trans old.pass mid.pass new.pass first.entries second.entries one.calls two.calls;
  sent = one.sent ++ two.sent;
  gathered =
      sym (append_assoc old.out first.bytes second.bytes) ∙ ap (λ (x : List ℕ). x ++ second.bytes) one.gathered
      ∙ append_assoc one.sent mid.out second.bytes
      ∙ ap (λ (x : List ℕ). one.sent ++ x) two.gathered ∙ sym (append_assoc one.sent two.sent new.out);
  exchanged = Exchanged-then old.link mid.link new.link one.sent given two.sent more one.exchanged two.exchanged;
  answered = AnsweredAll-then first.instants second.instants old.clock mid.clock new.clock one.answered two.answered;
  link = keeps_link_then old.link mid.link new.link one.link two.link;
}

-- ---- where it breaks off

-- it breaks off where that is left
pub stops_here : (given : List ℕ) (old new : SendingMoment) (left all : Deed) → Toward given old new left all
    → Breaks given old new all
stops_here given old new left all toward = record {
  called = toward.made;
  calls = toward.calls;
  called_part = (left.entries, toward.entries);
  sent = toward.sent;
  exchanged = toward.exchanged;
  sent_part = (new.out ++ left.bytes, toward.bytes);
  instants = toward.asked;
  answered = toward.answered;
  instants_part = (left.instants, toward.instants);
  link = toward.link;
}

part_then : {A : Type 0} → (made more left all : List A) → made ++ left ≡ all → IsPart false more left
    → IsPart false (made ++ more) all
part_then made more left all one part = (part.0, parts_then made more part.0 left all one part.1)

-- it breaks off in what is left
pub breaks_then : (given more : List ℕ) (old mid new : SendingMoment) (left all : Deed) → Toward given old mid left all
    → Breaks more mid new left
    → Breaks (given ++ more) old new all
breaks_then given more old mid new left all one two = record {
  called = one.made ++ two.called;
  calls = calls_trans old.pass mid.pass new.pass one.made two.called one.calls two.calls;
  called_part = part_then one.made two.called left.entries all.entries one.entries two.called_part;
  sent = one.sent ++ two.sent;
  exchanged = Exchanged-then old.link mid.link new.link one.sent given two.sent more one.exchanged two.exchanged;
  sent_part = part_then one.sent two.sent (mid.out ++ left.bytes) (old.out ++ all.bytes) one.bytes two.sent_part;
  instants = one.asked ++ two.instants;
  answered = AnsweredAll-then one.asked two.instants old.clock mid.clock new.clock one.answered two.answered;
  instants_part = part_then one.asked two.instants left.instants all.instants one.instants two.instants_part;
  link = keeps_link_then old.link mid.link new.link one.link two.link;
}

more_behind : {A : Type 0} → (part whole behind : List A) → IsPart false part whole
    → IsPart false part (whole ++ behind)
more_behind part whole behind is = (is.0 ++ behind, sym (append_assoc part is.0 behind) ∙ ap (λ xs. xs ++ behind) is.1)

-- it breaks off in a first deed, behind which another one was to come
pub breaks_before : (given : List ℕ) (old new : SendingMoment) (first second : Deed) → Breaks given old new first
    → Breaks given old new (and_then first second)
breaks_before given old new first second breaks = record {
  called = breaks.called;
  calls = breaks.calls;
  called_part = more_behind breaks.called first.entries second.entries breaks.called_part;
  sent = breaks.sent;
  exchanged = breaks.exchanged;
  sent_part =
      let longer = more_behind breaks.sent (old.out ++ first.bytes) second.bytes breaks.sent_part in
      (longer.0, longer.1 ∙ append_assoc old.out first.bytes second.bytes);
  instants = breaks.instants;
  answered = breaks.answered;
  instants_part = more_behind breaks.instants first.instants second.instants breaks.instants_part;
  link = breaks.link;
}

-- nothing of what is left was done
pub nothing_done : (now new : SendingMoment) (left : Deed) → IsNotClosed now.link → Calls now.pass new.pass []
    → new.link ≡ now.link → new.clock ≡ now.clock → Breaks [] now new left
nothing_done now new left unclosed calls link clock = record {
  called = [];
  calls = calls;
  called_part = (left.entries, refl);
  sent = [];
  exchanged = subst (λ (l : LinkRecord). Exchanged now.link [] [] l) (sym link) (exchanged_nothing now.link);
  sent_part = (now.out ++ left.bytes, refl);
  instants = [];
  answered = subst (λ (c : ClockRecord). AnsweredAll [] now.clock c) (sym clock) (AnsweredAll-nothing now.clock);
  instants_part = (left.instants, refl);
  link = subst (λ (l : LinkRecord). KeepsLink now.link l) (sym link) (keeps_link now.link unclosed);
}

-- ---- sending what is gathered

-- some of it was sent
pub some_sent : (pass : PassView) (clock : ClockRecord) (gathered left : List ℕ) (old new : LinkRecord) (all : Deed)
    → IsNotClosed old → gathering.MovesOn gathered old left new
    → Toward [] (moment_of pass old clock gathered) (moment_of pass new clock left) all all
some_sent pass clock gathered left old new all unclosed moves = record {
  made = [];
  calls = calls_none pass;
  entries = refl;
  sent = moves.sent;
  exchanged = Exchanged-sent old new moves.sent moves.is_sent;
  bytes = sym (append_assoc moves.sent left all.bytes) ∙ ap (λ (x : List ℕ). x ++ all.bytes) (sym moves.all);
  asked = [];
  answered = AnsweredAll-nothing clock;
  instants = refl;
  link = keeps_link_sent old new moves.sent unclosed moves.is_sent;
}

-- the link failed
pub send_failed : (pass : PassView) (clock : ClockRecord) (gathered out : List ℕ) (old new : LinkRecord) (left : Deed)
    → IsNotClosed old → old.faults ≤ new.faults → gathering.Breaks gathered old new
    → Breaks [] (moment_of pass old clock gathered) (moment_of pass new clock out) left
send_failed pass clock gathered out old new left unclosed faults breaks = record {
  called = [];
  calls = calls_none pass;
  called_part = (left.entries, refl);
  sent = breaks.sent;
  exchanged = (Exchanged-front old new breaks.sent breaks.failing).0;
  sent_part = (
    breaks.left ++ left.bytes,
    sym (append_assoc breaks.sent breaks.left left.bytes)
        ∙ ap (λ (x : List ℕ). x ++ left.bytes) (sym breaks.all),
  );
  instants = [];
  answered = AnsweredAll-nothing clock;
  instants_part = (left.instants, refl);
  link = keeps_link_failing old new breaks.sent unclosed faults breaks.failing;
}
