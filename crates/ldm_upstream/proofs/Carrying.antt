-- A message that carries a body: its head is gathered, then the body, then the zeros behind it, and then it goes out.
use Rattle.std.proofs.Common.{◌≡◌, ◌∙◌, ℕ, ◌+◌, ◌≤◌, List, [], ◌++◌, length, ap, sym, append-nil}
use Rattle.ldm_model.specs.declared.event.Entry.{Entry}
use Rattle.ldm_outside.specs.Clock.{ClockRecord, Answers}
use Rattle.ldm_outside.specs.Link.{LinkRecord, IsNotClosed}
use Rattle.ldm_relay.specs.Sent as sent
use Rattle.ldm_relay.specs.Spelling.{written, record_of}
use Rattle.ldm_shared.specs.Passes.{PassView}
use Rattle.ldm_session.specs.Gathering as gathering
use Rattle.ldm_sender.specs.declared.end.SendEnd.{SendEnd}
use Rattle.ldm_sender.specs.declared.end.SendEnd.TheVariants as end
use Rattle.ldm_sender.specs.Deeds.{Deed, and_then, no_deed}
use Rattle.ldm_sender.specs.Does.{SendingMoment, moment_of, Does}
use Rattle.ldm_sender.proofs.Doing.{Toward, all_left}
use Rattle.ldm_upstream.specs.Turn.{Given}
use Rattle.ldm_upstream.specs.Giving.{HoldsGiven, BreaksOff, GoesOn, FailsToRead}
use Rattle.ldm_upstream.specs.ProductDeeds.{part_of}
use Rattle.ldm_upstream.proofs.Blocks.{length_part}
use Rattle.ldm_upstream.proofs.Reading.{reading_fails, sending_fails}
use Rattle.ldm_upstream.proofs.Sending.{body_deed, body_gathered, breaks_off_then, head_gathered, message_deed}
use Rattle.ldm_upstream.proofs.Sending.{message_given, no_memory, whole_gathered}

module _ (pass : PassView) (link : LinkRecord) (clock : ClockRecord) (out : List ℕ) (k : ℕ) (given : Given)
    (unclosed : IsNotClosed link) where
  abbrev before : SendingMoment
  before = moment_of pass link clock out

  -- there was no memory for the head
  pub no_head : (out' : List ℕ) (all : Deed) → HoldsGiven pass k given
      → BreaksOff end.OutOfMemory k before (moment_of pass link clock out') all
  no_head out' all holds = no_memory before pass link clock out out' k given all all unclosed holds
      (all_left before all unclosed)

  module _ (entries : List Entry) (body zeros whole head : List ℕ) (stands : head ++ (body ++ zeros) ≡ out ++ whole) where
    abbrev headed : SendingMoment
    headed = moment_of pass link clock head

    begun : (at : ℕ) → Toward [] before headed (and_then (body_deed entries body) (message_deed [] zeros at))
        (message_deed entries whole at)
    begun at = head_gathered pass link clock out head body zeros whole entries at unclosed stands

    -- the body could not be read
    pub no_body : (why : SendEnd) (at : ℕ) (pass' : PassView) (out' : List ℕ) → HoldsGiven pass k given
        → FailsToRead why pass pass'
        → BreaksOff why k before (moment_of pass' link clock out') (message_deed entries whole at)
    no_body why at pass' out' holds fails =
        reading_fails why before pass pass' link clock head out' k given _ (message_deed entries whole at) unclosed holds
        fails (begun at)

    -- nor all of it
    pub part_of_body : (why : SendEnd) (at : ℕ) (new : SendingMoment) → BreaksOff why k headed new (body_deed entries body)
        → BreaksOff why k before new (message_deed entries whole at)
    part_of_body why at new breaks =
        breaks_off_then why k before headed new (body_deed entries body) (message_deed [] zeros at)
        (message_deed entries whole at) (begun at) breaks

    module _ (pass' : PassView) (link' : LinkRecord) (filled : List ℕ) (open' : IsNotClosed link')
        (does : Does [] headed (moment_of pass' link' clock filled) (body_deed entries body))
        (holds : HoldsGiven pass' k given) where
      carried : (at : ℕ) → Toward [] before (moment_of pass' link' clock filled) (message_deed [] zeros at)
          (message_deed entries whole at)
      carried at = body_gathered before headed (moment_of pass' link' clock filled) entries body zeros whole at (begun at)
          does

      -- there was no memory for the zeros
      pub no_zeros : (at : ℕ) (out' : List ℕ)
          → BreaksOff end.OutOfMemory k before (moment_of pass' link' clock out') (message_deed entries whole at)
      no_zeros at out' = no_memory before pass' link' clock filled out' k given (message_deed [] zeros at)
          (message_deed entries whole at) open' holds (carried at)

      module _ (at : ℕ) (clock' : ClockRecord) (padded : List ℕ) (appended : padded ≡ filled ++ zeros)
          (answered : Answers at clock clock') where
        done : Toward [] before (moment_of pass' link' clock' padded) no_deed (message_deed entries whole at)
        done = whole_gathered before pass' link' clock clock' filled padded zeros at (message_deed entries whole at) open'
            appended answered (carried at)

        -- the link failed
        pub not_sent : (link'' : LinkRecord) (out' : List ℕ) → link'.faults ≤ link''.faults
            → gathering.Breaks padded link' link''
            → BreaksOff end.LinkFault k before (moment_of pass' link'' clock' out') (message_deed entries whole at)
        not_sent link'' out' faults failed = sending_fails before pass' link' link'' clock' padded out' k given no_deed
            (message_deed entries whole at) open' faults holds failed done

        -- it goes out with what is gathered
        pub all_of_it : (link'' : LinkRecord) (out' : List ℕ) → gathering.MovesOn padded link' out' link''
            → GoesOn k given before (moment_of pass' link'' clock' out') (message_deed entries whole at)
        all_of_it link'' out' moves = message_given before pass' link' link'' clock' padded out' k given
            (message_deed entries whole at) open' holds moves done

-- the head of a block is gathered, and the part of the body stands behind it
pub block_stands : (out head body zeros : List ℕ) (next : ℕ) (signature signature' : List ℕ) (number offset len : ℕ)
    → signature ≡ signature' → offset + len ≤ length body
    → ((part : List ℕ) → length part ≡ len
    → head ++ (part ++ zeros) ≡ out ++ record_of (written (sent.Blkdata next signature number part)))
    → head ++ (part_of offset len body ++ zeros)
    ≡ out ++ record_of (written (sent.Blkdata next signature' number (part_of offset len body)))
block_stands out head body zeros next signature signature' number offset len same within headed =
    headed (part_of offset len body) (length_part body offset len within)
    ∙ ap (λ (s : List ℕ). out ++ record_of (written (sent.Blkdata next s number (part_of offset len body)))) same

-- the head of a message of a whole body is, and the body stands behind it
pub whole_stands : (out head body zeros spelled : List ℕ) → head ++ (body ++ zeros) ≡ out ++ spelled
    → head ++ (body ++ zeros) ≡ out ++ (spelled ++ [])
whole_stands out head body zeros spelled is = is ∙ ap (λ (x : List ℕ). out ++ x) (sym (append-nil spelled))
