-- Turns one after another, and what is heard of the peer meanwhile.
use Rattle.std.proofs.Common.{◌≡◌, ◌∙◌, ℕ, ◌+◌, List, [], ◌∷◌, ◌++◌, length, refl, sym, ap, subst, append_assoc, append-nil}
use Rattle.ldm_model.specs.declared.event.Entry.{Entry}
use Rattle.ldm_shared.specs.Passes.{PassView, Calls}
use Rattle.ldm_session.specs.declared.replies.Replies.{Replies}
use Rattle.ldm_session.specs.Gaps.{gap_log}
use Rattle.ldm_session.specs.Hearing.{Heard}
use Rattle.ldm_session.specs.Owed.{Code}
use Rattle.ldm_sender.specs.declared.end.SendEnd.{SendEnd}
use Rattle.ldm_sender.specs.declared.standing.Standing.{Standing}
use Rattle.ldm_sender.specs.Asked.{Asked}
use Rattle.ldm_sender.specs.Calls.{MayBeUnmade}
use Rattle.ldm_sender.specs.Does.{Each}
use Rattle.ldm_sender.specs.Acts.{Situation}
use Rattle.ldm_sender.specs.Course.{IsRowIn}
use Rattle.ldm_sender.proofs.Steps.{RowsStay, HasRowIn-stays}
use Rattle.ldm_sender.proofs.Turning.{IsLawful, after_turns-append, behind}
use Rattle.ldm_sender.proofs.Turning as sender
use Rattle.ldm_upstream.specs.Blocks.{blocks, reads}
use Rattle.ldm_upstream.specs.Turn.{Given, Handling, Passed, Whole, Declined, InBlocks, Turn, Lost, Gave, Quiet, Alive}
use Rattle.ldm_upstream.specs.Turn.{handling_entries, turn_codes, after_turn, feeding_kind}
use Rattle.ldm_upstream.specs.Turns.{after_turns, codes_of_turns, given_in_turns}
use Rattle.ldm_upstream.specs.Heard.{HearsOn, SaysLast, HearsLast}
use Rattle.ldm_upstream.specs.Course.{MakesTurns, EndsTurns}

-- ---- a feeding is a kind of sending

silent_reads : (host : List ℕ) (actor k offset : ℕ) (parts : List (List ℕ))
    → gap_log host (reads actor k offset parts) ≡ []
silent_reads host actor k offset [] = refl
silent_reads host actor k offset (part ∷ parts) = silent_reads host actor k (offset + length part) parts

silent_handling : (host : List ℕ) (actor k : ℕ) (given : Given) (handling : Handling)
    → gap_log host (handling_entries actor k given handling) ≡ []
silent_handling host actor k given Passed = refl
silent_handling host actor k given (Whole at) = silent_reads host actor k 0 (blocks given.product.body)
silent_handling host actor k given (Declined at) = refl
silent_handling host actor k given (InBlocks at blocks_at) = silent_reads host actor k 0 (blocks given.product.body)

unmade_reads : (actor k offset : ℕ) (parts : List (List ℕ)) → Each MayBeUnmade (reads actor k offset parts)
unmade_reads actor k offset [] = tt
unmade_reads actor k offset (part ∷ parts) = (tt, unmade_reads actor k (offset + length part) parts)

unmade_handling : (actor k : ℕ) (given : Given) (handling : Handling)
    → Each MayBeUnmade (handling_entries actor k given handling)
unmade_handling actor k given Passed = tt
unmade_handling actor k given (Whole at) = unmade_reads actor k 0 (blocks given.product.body)
unmade_handling actor k given (Declined at) = tt
unmade_handling actor k given (InBlocks at blocks_at) = unmade_reads actor k 0 (blocks given.product.body)

row_stays : RowsStay → (old new : PassView) (made : List Entry) (given : Given) → Calls old new made
    → IsRowIn feeding_kind old given → IsRowIn feeding_kind new given
row_stays law old new made given calls row =
    HasRowIn-stays law old new made given.n given.product given.time calls row

pub feeding_lawful : IsLawful feeding_kind
feeding_lawful = record {
  answers = λ xid answer. refl;
  stays = row_stays;
  silent = silent_handling;
  unmade = unmade_handling;
}

-- ---- replies, one after another

codes-append : (standing : Standing) (first second : List Turn)
    → codes_of_turns standing (first ++ second) ≡ codes_of_turns standing first ++ codes_of_turns
    (after_turns standing first) second
codes-append standing [] second = refl
codes-append standing (turn ∷ first) second =
    ap (λ (x : List Code). turn_codes standing.next turn ++ x) (codes-append (after_turn standing turn) first second)
    ∙ sym (append_assoc (turn_codes standing.next turn) (codes_of_turns (after_turn standing turn) first)
    (codes_of_turns (after_turns (after_turn standing turn) first) second))

-- where no product was given none came
pub no_codes : (standing : Standing) (turns : List Turn) → given_in_turns turns ≡ [] → codes_of_turns standing turns ≡ []
no_codes standing [] none = refl
no_codes standing (Lost count first last ∷ turns) none = no_codes standing turns none
no_codes standing (Gave given handling ∷ turns) none = absurd (cc none)
no_codes standing (Quiet end now ∷ turns) none = no_codes standing turns none
no_codes standing (Alive end now at ∷ turns) none = no_codes (after_turn standing (Alive end now at)) turns none

hears_then : (came more : List ℕ) (first second : List Code) (a b c : Replies) → HearsOn came first a b
    → HearsOn more second b c → HearsOn (came ++ more) (first ++ second) a c
hears_then came more first second a b c one two = λ given earlier heard.
    subst (λ (x : List ℕ). Heard x (earlier ++ (first ++ second)) c) (append_assoc given came more)
    (subst (λ (x : List Code). Heard ((given ++ came) ++ more) x c) (append_assoc earlier first second)
    (two (given ++ came) (earlier ++ first) (one given earlier heard)))

hears_end : (why : SendEnd) (next : ℕ) (came more : List ℕ) (first second : List Code) (a b : Replies)
    → HearsOn came first a b → HearsLast why next more second b
    → HearsLast why next (came ++ more) (first ++ second) a
hears_end why next came more first second a b one two = λ given earlier heard.
    subst (λ (x : List ℕ). SaysLast why next x (earlier ++ (first ++ second))) (append_assoc given came more)
    (subst (λ (x : List Code). SaysLast why next ((given ++ came) ++ more) x) (append_assoc earlier first second)
    (two (given ++ came) (earlier ++ first) (one given earlier heard)))

pub hears_nothing : (now : Replies) → HearsOn [] [] now now
hears_nothing now = λ given earlier heard.
    subst (λ (x : List ℕ). Heard x (earlier ++ []) now) (sym (append-nil given))
    (subst (λ (x : List Code). Heard given x now) (sym (append-nil earlier)) heard)

-- ---- turns, one after another

pub turns_then : (law : RowsStay) (asked : Asked) (k : ℕ) (s t u : Standing) (a b c : Situation) (p q r : Replies)
    → MakesTurns asked k s t a b p q
    → MakesTurns asked k t u b c q r → MakesTurns asked k s u a c p r
turns_then law asked k s t u a b c p q r one two =
    let heard = subst (λ (x : Standing). HearsOn two.came (codes_of_turns x two.turns) q r) one.makes.stands two.heard
    in
    record {
      turns = one.turns ++ two.turns;
      came = one.came ++ two.came;
      makes = sender.turns_then feeding_kind feeding_lawful law asked k s t u one.turns two.turns one.came two.came a b c
          one.makes two.makes;
      heard =
          subst (λ (x : List Code). HearsOn (one.came ++ two.came) x p r) (sym (codes-append s one.turns two.turns))
          (hears_then one.came two.came (codes_of_turns s one.turns)
          (codes_of_turns (after_turns s one.turns) two.turns) p q r one.heard heard);
    }

pub turns_end : (law : RowsStay) (why : SendEnd) (asked : Asked) (k : ℕ) (s t : Standing) (a b c : Situation)
    (p q : Replies) → MakesTurns asked k s t a b p q
    → EndsTurns why asked k t b c q → EndsTurns why asked k s a c p
turns_end law why asked k s t a b c p q one two =
    let here = after_turns s one.turns in
    let others = two.course.turns in
    let came = one.came ++ two.came in
    let heard =
    subst (λ (x : Standing). HearsLast why (after_turns x others).next two.came (codes_of_turns x others) q)
    one.makes.stands two.heard in
    record {
      course = behind one.turns two.course;
      came = came;
      ends = sender.turns_end feeding_kind feeding_lawful law why asked k s t one.turns two.course one.came two.came a b c
          one.makes two.ends;
      heard =
          subst (λ (x : Standing). HearsLast why x.next came (codes_of_turns s (one.turns ++ others)) p)
          (sym (after_turns-append feeding_kind s one.turns others))
          (subst (λ (x : List Code). HearsLast why (after_turns here others).next came x p)
          (sym (codes-append s one.turns others))
          (hears_end why (after_turns here others).next one.came two.came (codes_of_turns s one.turns)
          (codes_of_turns here others) p q one.heard heard));
    }
