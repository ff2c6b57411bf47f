-- Behind a frame that is none nothing is found; and a scanner of a line never comes there.
use Rattle.std.proofs.Common.{◌≡◌, ◌∙◌, ℕ, ◌+◌, ◌==◌, ◌||◌, true, false, List, [], ◌∷◌, ◌++◌, length, None, inl, inr, refl, sym, ap}
use Rattle.std.proofs.lemmas.Bool.{cases_Bool, eqb-true}
use Rattle.std.proofs.lemmas.List.{append-nil}
use Rattle.ldm_outside.specs.Io.{SourceRecord}
use Rattle.ldm_status.specs.Streams.{AtEnd}
use Rattle.ldm_wmo.specs.declared.framing.Framing.{Framing}
use Rattle.ldm_wmo.specs.declared.framing.Framing.TheVariants.{Line, Socket}
use Rattle.ldm_wmo.specs.declared.stage.FrameStage.TheVariants.{Between, Head, Body, Whole, Unread, Lost}
use Rattle.ldm_wmo.specs.declared.stage.Stage.{Stage}
use Rattle.ldm_wmo.specs.declared.stage.Stage.TheVariants.{Outside, Within, Complete, Framed}
use Rattle.ldm_wmo.specs.declared.stage.TheConstants.{LARGEST_BULLETIN}
use Rattle.ldm_wmo.specs.Items.{Found}
use Rattle.ldm_wmo.specs.Runs.{IsOver}
use Rattle.ldm_wmo.specs.Scanning.{Scanning, after_byte, begun, cut_of, is_complete, is_line, is_line_in, is_lost, is_lost_in, place}
use Rattle.ldm_wmo.specs.Streams.{cut_at_end, in_hand, items_in, items_of, passed}
use Rattle.ldm_wmo.proofs.Holding.{next_passed}
use Rattle.ldm_wmo.proofs.Joined.{in_hand-append, items-append}
use Rattle.ldm_wmo.proofs.Runs.{at_stage}

pub begun_open : (framing : Framing) → is_complete (begun framing) ≡ false
begun_open Line = refl
begun_open Socket = refl

-- ---- a frame that is none

abbrev NothingIn : Scanning → List ℕ → Type 0
NothingIn s rest = (items_in s rest ≡ []) × (cut_of (in_hand s rest) ≡ None)

pub lost_run : (p : ℕ) (c rest : List ℕ) → NothingIn (at_stage p c (Framed Lost)) rest
unfolding items_in in_hand after_byte
lost_run p c [] = (refl, refl)
lost_run p c (byte ∷ rest) = lost_run (place (p + 1)) c rest

lost_in : (stage : Stage) (p : ℕ) (c rest : List ℕ) → is_lost_in stage ≡ true → NothingIn (at_stage p c stage) rest
lost_in Outside p c rest lost = absurd cc
lost_in (Within at) p c rest lost = absurd cc
lost_in (Complete at) p c rest lost = absurd cc
lost_in (Framed Between) p c rest lost = absurd cc
lost_in (Framed (Head at)) p c rest lost = absurd cc
lost_in (Framed (Body at left kind)) p c rest lost = absurd cc
lost_in (Framed (Whole at kind)) p c rest lost = absurd cc
lost_in (Framed (Unread at)) p c rest lost = absurd cc
lost_in (Framed Lost) p c rest lost = lost_run p c rest

pub lost_rest : (s : Scanning) (rest : List ℕ) → is_lost s ≡ true → NothingIn s rest
lost_rest s rest lost = lost_in s.stage s.place s.candidate rest lost

pub lost_cut : (s : Scanning) → is_lost s ≡ true → cut_of s ≡ None
unfolding in_hand
lost_cut s lost = (lost_rest s [] lost).1

-- what is found in a stream, where the scanner is lost behind its front
pub record SameFound (framing : Framing) (bytes seen : List ℕ) : Type 0 where
  pub items : items_of framing bytes ≡ items_of framing seen
  pub cut : cut_at_end framing bytes ≡ cut_at_end framing seen

pub lost_found : (framing : Framing) (seen rest : List ℕ) → is_lost (in_hand (begun framing) seen) ≡ true → SameFound framing (seen ++ rest) seen
lost_found framing seen rest lost =
    let none = lost_rest (in_hand (begun framing) seen) rest lost in
    record {
      items = items-append (begun framing) seen rest ∙ ap (λ (x : List Found). items_of framing seen ++ x) none.0 ∙ append-nil (items_of framing seen);
      cut = ap cut_of (in_hand-append (begun framing) seen rest) ∙ none.1 ∙ sym (lost_cut (in_hand (begun framing) seen) lost);
    }

-- ---- a line

line_step : (stage : Stage) (p : ℕ) (c : List ℕ) (byte : ℕ) → is_line_in stage ≡ true → is_line (passed (at_stage p c stage) byte) ≡ true
unfolding after_byte
line_step Outside p c byte line = elim (cases_Bool (byte == 1)) [ inl is ↦ rw is refl | inr other ↦ rw other refl ]
line_step (Within at) p c byte line = elim (cases_Bool (byte == 1)) [
  | inl is ↦ ap is_line (next_passed p c at byte (eqb-true byte 1 is))
  | inr other ↦ elim (cases_Bool (byte == 3 || length c + 1 == LARGEST_BULLETIN)) [ inl last ↦ rw (other, last) refl | inr more ↦ rw (other, more) refl ]
]
line_step (Complete at) p c byte line = elim (cases_Bool (byte == 1)) [ inl is ↦ rw is refl | inr other ↦ rw other refl ]
line_step (Framed stage) p c byte line = absurd cc

line_stays : (s : Scanning) (bytes : List ℕ) → is_line s ≡ true → is_line (in_hand s bytes) ≡ true
unfolding in_hand
line_stays s [] line = line
line_stays s (byte ∷ bytes) line = line_stays (passed s byte) bytes (line_step s.stage s.place s.candidate byte line)

not_lost : (stage : Stage) → is_line_in stage ≡ true → is_lost_in stage ≡ true → ⊥
not_lost Outside line lost = cc
not_lost (Within at) line lost = cc
not_lost (Complete at) line lost = cc
not_lost (Framed stage) line lost = cc

-- ---- the end of a stream

pub over_end : (framing : Framing) (seen : List ℕ) (old new : SourceRecord) → AtEnd old new → IsOver framing seen old new
over_end Line seen old new at_end = at_end
over_end Socket seen old new at_end = inl at_end

pub over_lost : (framing : Framing) (seen : List ℕ) (source : SourceRecord) → is_lost (in_hand (begun framing) seen) ≡ true → IsOver framing seen source source
over_lost Line seen source lost = absurd (not_lost (in_hand (begun Line) seen).stage (line_stays (begun Line) seen refl) lost)
over_lost Socket seen source lost = inr (lost, refl)
