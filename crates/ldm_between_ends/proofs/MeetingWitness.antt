-- Two calls that a connection joins, whose links failed at once.
use Rattle.std.proofs.Common.{◌≡◌, ◌∙◌, ℕ, false, List, [], ◌∷◌, ◌++◌, None, inl, inr, refl, sym, arith, append-nil}
use Rattle.ldm_types.specs.declared.limits.TheConstants.{LARGEST_ARENA}
use Rattle.ldm_model.specs.declared.event.Event.TheVariants.{Close}
use Rattle.ldm_model.specs.declared.event.Reply.TheVariants.{Closed}
use Rattle.ldm_model.specs.declared.event.Entry.{Entry}
use Rattle.ldm_model.specs.History.{IsLegal}
use Rattle.ldm_model.specs.Open.{open_cursor}
use Rattle.ldm_model.specs.Release.{close}
use Rattle.ldm_outside.specs.Session.{SessionRecord, no_gate}
use Rattle.ldm_shared.specs.Passes.{PassView}
use Rattle.ldm_shared.proofs.Made.{calls_none}
use Rattle.ldm_intake.specs.declared.end.RecvEnd.TheVariants as received
use Rattle.ldm_intake.specs.Opening.{request_of, requesting}
use Rattle.ldm_intake.specs.Receiving.{Receiving}
use Rattle.ldm_relay.specs.Spelling.{records_of}
use Rattle.ldm_intake.specs.Taken.{taken, taken_none}
use Rattle.ldm_intake.specs.TakesRecord.{Standing}
use Rattle.ldm_session.specs.Owed.{records_given}
use Rattle.ldm_sender.specs.declared.end.SendEnd.TheVariants as fed
use Rattle.ldm_sender.specs.Opening.{Opened, opening_entries}
use Rattle.ldm_upstream.specs.Examples.{feeding_of, sample_asked}
use Rattle.ldm_upstream.specs.Feeding.{GoesOn}
use Rattle.ldm_downstream.specs.Answering.{place_of, settled_at}
use Rattle.ldm_downstream.specs.Pieces.{arrivals, beginning}
use Rattle.ldm_downstream.specs.Receives.{at_first}
use Rattle.ldm_between_ends.specs.Meeting.{FeedingCall, ReceivingCall, Connects, WasGranted}

-- what the outside tells before and after the fault
abbrev before_fault : SessionRecord
before_fault = record {
  link = record { passed = None; left = None; ends = 0; faults = 0; closed = false };
  log = record { written = None; faults = 0 };
  clock = record { answers = None };
  gate = no_gate;
}

abbrev after_fault : SessionRecord
after_fault = record before_fault { link = record before_fault.link { faults = 1 } }

-- ---- the feeder

-- the only pass of a queue, which opened its first cursor
abbrev first_pass : PassView
first_pass = record { queue = None; arena = 4096; slots = 10; passes = 1; actor = 0; seen = [] }

abbrev opening_calls_made : List Entry
opening_calls_made = opening_entries 0 sample_asked (Opened false 0)

abbrev closing_call : Entry
closing_call = record { actor = 0; event = Close 0; reply = Closed }

abbrev calls_made : List Entry
calls_made = opening_calls_made ++ closing_call ∷ []

are-legal : IsLegal 4096 10 calls_made
unfolding open_cursor close
are-legal = (
  record { actor = omega arith; possible = (omega arith, tt); reply = refl },
  (record { actor = omega arith; possible = omega arith; reply = refl }, tt),
)

pub cut-feeding : FeedingCall
cut-feeding = record {
  asked = sample_asked;
  ahead = [];
  end = fed.LinkFault;
  old = first_pass;
  new = record first_pass { seen = calls_made };
  before = before_fault;
  after = after_fault;
  feeds = record {
    given = [];
    sends = record {
      sending = record (feeding_of [] GoesOn) { answered = Opened false 0 };
      is_sending = record { answered = (refl, tt); turns = tt; last = tt; opened = tt };
      called = opening_calls_made;
      called_part = ([], refl, tt);
      made = record {
        same = refl;
        adds = record { begins = (calls_made, refl); own = refl };
        has_seen = inr (record { legal = are-legal; below = (omega arith, (omega arith, tt)); few = omega arith });
      };
      rows = λ k d within. absurd (omega arith);
      sent = [];
      sent_part = (_, refl);
      exchanged = record { passed = tt; left = refl };
      left = refl;
      instants = [];
      instants_part = (_, refl);
      answered = inr refl;
      goes = [];
      goes_part = ([], refl, tt);
      idled = refl;
      logged = refl;
      last = tt;
      cause = inl (omega arith);
    };
    unheard = tt;
    says = record { behind = records_given []; said = record { replies = []; records_are = refl; each = tt }; is_behind = tt };
  };
}

-- ---- the receiver

abbrev asking : Receiving
asking = requesting sample_asked.class None sample_asked.max_hereis

abbrev stood : Standing
stood = at_first asking first_pass

-- the same, where the request was sent
abbrev asked : Standing
asked = settled_at (place_of beginning stood)

pub cut-receiving : ReceivingCall
unfolding arrivals taken
cut-receiving = record {
  class = sample_asked.class;
  behind = None;
  max_hereis = sample_asked.max_hereis;
  end = received.LinkFault;
  last = None;
  old = first_pass;
  new = first_pass;
  before = before_fault;
  after = after_fault;
  receives = record {
    at_end = stood;
    receives = record {
      pieces = [];
      comes = record {
        between = stood;
        breaks = record {
          front = [];
          behind = [];
          all = refl;
          between = stood;
          takes = record {
            made = [];
            to = taken_none asking;
            leads = refl;
            end_is = refl;
            calls = calls_none first_pass;
            receiving = refl;
            sends = sym (append-nil stood.out);
            logs = refl;
          };
          made = [];
          begins = refl;
          calls = calls_none first_pass;
          same = refl;
        };
        gives_up = record { closes = record { made = []; leads = refl; calls = calls_none first_pass }; sends = refl; logs = refl };
      };
      sent = records_of (request_of asking);
      lines = [];
      passed = record {
        given = [];
        all = refl;
        exchanged = record { passed = tt; left = refl };
        moments = inr refl;
        logged = refl;
        first = records_of (request_of asking);
        rounds = [];
        pieces_are = refl;
        sent_is = sym (append-nil (records_of (request_of asking)));
        in_rounds = refl;
      };
      sent_is = ([], append-nil (records_of (request_of asking)));
      lines_are = ([], refl);
      cause = inl (omega arith);
      first_is = ([], append-nil (records_of (request_of asking)));
      in_turn = record {
        front = [];
        last = [];
        all = refl;
        between = place_of beginning stood;
        takes = refl;
        at_end = asked;
        ends = record {
          between = asked;
          breaks = record {
            front = [];
            behind = [];
            all = refl;
            between = asked;
            takes = record { made = []; to = taken_none asking; leads = refl; end_is = refl; calls = calls_none first_pass; receiving = refl; sends = refl; logs = refl };
            made = [];
            begins = refl;
            calls = calls_none first_pass;
            same = refl;
          };
          gives_up = record { closes = record { made = []; leads = refl; calls = calls_none first_pass }; sends = refl; logs = refl };
        };
        receiving = refl;
        pass = refl;
      };
    };
    pass_is = refl;
    last_is = refl;
  };
}

pub they-connect : Connects cut-feeding cut-receiving
unfolding cut-feeding cut-receiving
they-connect = record {
  asks = refl;
  down = ([], refl);
  up = ([], append-nil (records_of (request_of asking) ++ []) ∙ append-nil (records_of (request_of asking)));
  few = omega arith;
  arena = omega arith;
}

pub is-granted : WasGranted cut-feeding
unfolding cut-feeding
is-granted = (false, 0, refl)

pub feeds-to : cut-feeding.end ≡ fed.LinkFault
unfolding cut-feeding
feeds-to = refl

pub receives-to : cut-receiving.end ≡ received.LinkFault
unfolding cut-receiving
receives-to = refl
