-- What becomes of a receiving is the same whatever was owed and logged before.
use Rattle.std.proofs.Common.{◌≡◌, List, ℕ, ◌++◌, Option, Some, None, refl, ap, ◌∙◌}
use Rattle.ldm_intake.specs.declared.end.RecvEnd.{RecvEnd}
use Rattle.ldm_intake.specs.Course.{Course}
use Rattle.ldm_intake.specs.Notes.{note_lines}
use Rattle.ldm_relay.specs.Spelling.{records_of}
use Rattle.ldm_intake.specs.Taken.{Arrival, Taken, taken, taken_none}
use Rattle.ldm_intake.specs.TakesRecord.{Standing}
use Rattle.ldm_rpc.specs.Streams.{Position}
use Rattle.ldm_downstream.specs.Pieces.{Piece, arrivals}
use Rattle.ldm_downstream.specs.Received.{received}
use Rattle.ldm_downstream.specs.Taking.{Takes, BreaksOff, GivesUp}
use Rattle.ldm_downstream.specs.Pushing.{Continues, EndsWhole, EndsEarly, EndsWorn}

module _ (out notes : List ℕ) where
  -- the same, where this was owed and logged before
  abbrev pub framed : Standing → Standing
  framed x = record x { out = out; notes = notes }

  -- the same, where that was owed and logged before, and then more
  abbrev pub behind : List ℕ → List ℕ → Standing → Standing
  behind more lines c = record c { out = out ++ more; notes = notes ++ lines }

  -- More is owed and logged, and what happened happens from the other standing too.
  pub record Moves (R : Standing → Standing → Type 0) (x c : Standing) : Type 0 where
    pub more : List ℕ
    pub lines : List ℕ
    pub owed : c.out ≡ x.out ++ more
    pub moved : R (framed x) (behind more lines c)

  takes-moves : (course : Course Taken) (end : Option RecvEnd) (x c : Standing) → Takes course end x c → Moves (Takes course end) x c
  takes-moves course end x c takes = record {
    more = records_of takes.to.replies;
    lines = note_lines takes.to.notes;
    owed = takes.sends;
    moved = record {
      made = takes.made;
      to = takes.to;
      leads = takes.leads;
      end_is = takes.end_is;
      calls = takes.calls;
      receiving = takes.receiving;
      sends = refl;
      logs = refl;
    };
  }

  breaks-moves : (xs : List Arrival) (x c : Standing) → BreaksOff xs x c → Moves (BreaksOff xs) x c
  breaks-moves xs x c breaks =
      let m = takes-moves (taken (taken_none x.receiving) breaks.front) None x breaks.between breaks.takes in
      record {
        more = m.more;
        lines = m.lines;
        owed = ap (λ (s : Standing). s.out) breaks.same ∙ m.owed;
        moved = record {
          front = breaks.front;
          behind = breaks.behind;
          all = breaks.all;
          between = behind m.more m.lines breaks.between;
          takes = m.moved;
          made = breaks.made;
          begins = breaks.begins;
          calls = breaks.calls;
          same = ap (behind m.more m.lines) breaks.same;
        };
      }

  gives-moves : (more lines : List ℕ) (between c : Standing) → GivesUp between c → GivesUp (behind more lines between) (behind more lines c)
  gives-moves more lines between c gives = record { closes = gives.closes; sends = refl; logs = refl }

  pub continues-moves : (pieces : List Piece) (p q : Position) (x c : Standing) → Continues pieces p q x c → Moves (Continues pieces p q) x c
  continues-moves pieces p q x c continues =
      let m = takes-moves (received x.receiving p pieces) None x c continues.takes in
      record { more = m.more; lines = m.lines; owed = m.owed; moved = record { takes = m.moved; hand_is = continues.hand_is } }

  pub whole-moves : (end : RecvEnd) (pieces : List Piece) (p : Position) (x c : Standing) → EndsWhole end pieces p x c → Moves (EndsWhole end pieces p) x c
  whole-moves end pieces p x c whole =
      let m = takes-moves (received x.receiving p pieces) (Some end) x whole.between whole.takes in
      record {
        more = m.more;
        lines = m.lines;
        owed = whole.gives_up.sends ∙ m.owed;
        moved = record {
          between = behind m.more m.lines whole.between;
          takes = m.moved;
          gives_up = gives-moves m.more m.lines whole.between c whole.gives_up;
        };
      }

  pub early-moves : (pieces : List Piece) (p : Position) (x c : Standing) → EndsEarly pieces p x c → Moves (EndsEarly pieces p) x c
  early-moves pieces p x c early =
      let m = breaks-moves (arrivals p pieces) x early.between early.breaks in
      record {
        more = m.more;
        lines = m.lines;
        owed = early.gives_up.sends ∙ m.owed;
        moved = record {
          between = behind m.more m.lines early.between;
          breaks = m.moved;
          gives_up = gives-moves m.more m.lines early.between c early.gives_up;
        };
      }

  pub worn-moves : (pieces : List Piece) (p : Position) (x c : Standing) → EndsWorn pieces p x c → Moves (EndsWorn pieces p) x c
  worn-moves pieces p x c worn =
      let m = breaks-moves (arrivals p pieces) x c worn.breaks in
      record { more = m.more; lines = m.lines; owed = m.owed; moved = record { breaks = m.moved; worn = worn.worn } }
