-- The records in some bytes, taken one after another.
use Rattle.std.proofs.Common.{◌≡◌, ℕ, ◌+◌, ◌-◌, true, false, List, [], ◌++◌, length, take, drop, Option, Some, None, inl, inr, refl, ap, sym, ◌∙◌, arith}
use Rattle.std.specs.Prelude.{is_some}
use Rattle.std.proofs.lemmas.Bool.{false≢true}
use Rattle.std.proofs.lemmas.List.{append-nil, length-drop, take_all}
use Rattle.ldm_rpc.specs.declared.fault.RpcFault.{RpcFault}
use Rattle.ldm_rpc.specs.declared.stage.Stage.{Stage}
use Rattle.ldm_rpc.specs.declared.stage.Stage.TheVariants.{Header, Fragment, Whole, Faulty}
use Rattle.ldm_rpc.specs.Reading.{Reading, after, bytes_taken, is_faulty, is_faulty_at, is_whole, is_whole_at, next_of}
use Rattle.ldm_rpc.specs.Streams.{Position, Placed, forgets, given, records_in, in_hand}
use Rattle.ldm_rpc.proofs.Joined.{forgets_none, given_none, pushed}
use Rattle.ldm_rpc.proofs.CallerLemmas.{IsReading, reads_none, reads_more, reads_all, reads_fault}
use Rattle.ldm_intake.specs.declared.end.RecvEnd.{RecvEnd}
use Rattle.ldm_intake.specs.declared.end.RecvEnd.TheVariants.{Ended, Truncated, BadFrame, Refused, LinkFault, LogFault, StreamLimit, Worn, OutOfMemory}
use Rattle.ldm_intake.specs.Taken.{Arrival, taken_none, taken}
use Rattle.ldm_intake.specs.TakesRecord.{Standing}
use Rattle.ldm_downstream.specs.Pieces.{arrived}
use Rattle.ldm_downstream.specs.Taking.{Takes, BreaksOff}
use Rattle.ldm_downstream.specs.Turns.{TakesAll, StopsBy, TooLong, Cuts, first_of, behind, TakesFirst, TakesBytes, Turns, Runs, turned}
use Rattle.ldm_downstream.proofs.Arrivals.{arrived-append}
use Rattle.ldm_downstream.proofs.Followed.{takes-then, takes-same, takes-none, takes-ended, breaks-more, breaks-then, breaks-same}
use Rattle.ldm_downstream.proofs.Found.{next-ready, next-sound}

-- a reader that takes no more after `next` met a fault
stage_of_fault : (s : Reading) (stage : Stage) → s.stage ≡ stage → is_faulty (next_of s) ≡ true → (fault : RpcFault) × (s.stage ≡ Faulty fault)
stage_of_fault s (Header came number) is faulty = absurd (false≢true (sym (next-sound s (ap is_faulty_at is)) ∙ faulty))
stage_of_fault s (Fragment left last) is faulty = absurd (false≢true (sym (next-sound s (ap is_faulty_at is)) ∙ faulty))
stage_of_fault s Whole is faulty = absurd (false≢true (sym (next-sound s (ap is_faulty_at is)) ∙ faulty))
stage_of_fault s (Faulty fault) is faulty = (fault, is)

-- How far a loop over bytes has come: it is at q, with a rest of them, and took what came out so far.
pub record IsRunning (now : ℕ) (p : Position) (bytes : List ℕ) (old : Standing) (q : Position) (rest : List ℕ) (cur : Standing) : Type 0 where
  pub out : List Placed
  pub reading : IsReading p bytes [] q rest out
  pub takes : TakesAll (arrived now out) old cur
  pub sound : is_faulty q.reading ≡ false
  pub room : q.came + length rest ≡ p.came + length bytes

pub runs-none : (now : ℕ) (p : Position) (bytes : List ℕ) (old : Standing) → is_whole p.reading ≡ false → is_faulty p.reading ≡ false → IsRunning now p bytes old p bytes old
runs-none now p bytes old ready sound = record { out = []; reading = reads_none p bytes [] ready; takes = takes-none old; sound = sound; room = refl }

module _ (now : ℕ) (p : Position) (bytes : List ℕ) (old : Standing) (q : Position) (rest : List ℕ) (cur : Standing) (so_far : IsRunning now p bytes old q rest cur) where
  r : Reading
  r = after q.reading rest

  -- one record more, or the front of one
  pub runs-more : (n : ℕ) (t : Position) (new : Standing) → TakesFirst now rest n q t cur new → (left : List ℕ) → left ≡ take (length rest - n) (drop n rest)
      → IsRunning now p bytes old t left new
  unfolding r
  runs-more n t new first left left_is =
      let len : length (drop n rest) ≡ length rest - n = length-drop n rest in
      let behind_is : left ≡ drop n rest = left_is ∙ take_all (length rest - n) (drop n rest) (omega (arith, len)) in
      let came : t.came ≡ q.came + n = ap (λ (v : Position). v.came) first.reads.hand_is ∙ ap (λ (k : ℕ). q.came + k) (sym first.reads.count) in
      let room : t.came + length left ≡ q.came + length rest = ap (λ (x : List ℕ). t.came + length x) behind_is ∙ omega (arith, came, len, first.reads.most) in
      let hand_is : t ≡ forgets q.begins (q.came + n) r = first.reads.hand_is ∙ ap (λ (k : ℕ). forgets q.begins (q.came + k) r) (sym first.reads.count) in
      record {
        out = so_far.out ++ given q.begins r;
        reading = reads_more p bytes [] q rest so_far.out n r t left (so_far.out ++ given q.begins r) so_far.reading refl first.reads.count refl hand_is
            (ap (λ (v : Position). is_whole v.reading) hand_is ∙ next-ready r) behind_is;
        takes = takes-same old.receiving (arrived now so_far.out ++ first_of now q rest) (arrived now (so_far.out ++ given q.begins r)) None old new
            (sym (arrived-append now so_far.out (given q.begins r))) (takes-then (arrived now so_far.out) (first_of now q rest) None old cur new so_far.takes first.takes);
        sound = first.reads.sound;
        room = room ∙ so_far.room;
      }

  -- no bytes are left
  pub runs-all : rest ≡ [] → TakesBytes now bytes p q old cur
  runs-all none =
      let all = reads_all p bytes [] q rest so_far.out none so_far.reading in
      record {
        takes = takes-same old.receiving (arrived now so_far.out) (arrived now (records_in p bytes)) None old cur (ap (arrived now) all.0) so_far.takes;
        hand_is = all.1;
        sound = so_far.sound;
      }

  -- all records: those so far, the first of the rest, and the others
  others : List Arrival
  others = arrived now (records_in (behind q rest) (drop (bytes_taken q.reading rest) rest))

  all_are : arrived now so_far.out ++ (first_of now q rest ++ others) ≡ arrived now (records_in p bytes)
  unfolding others
  all_are =
      let those = records_in (behind q rest) (drop (bytes_taken q.reading rest) rest) in
      ap (λ (xs : List Arrival). arrived now so_far.out ++ xs) (sym (arrived-append now (given q.begins (after q.reading rest)) those))
      ∙ sym (arrived-append now so_far.out (given q.begins (after q.reading rest) ++ those))
      ∙ ap (λ (xs : List Placed). arrived now (so_far.out ++ xs)) (sym (pushed q rest so_far.reading.ready).records)
      ∙ ap (arrived now) so_far.reading.records_are

  ended-all : (end : RecvEnd) (new : Standing) → Takes (taken (taken_none cur.receiving) (first_of now q rest)) (Some end) cur new
      → Takes (taken (taken_none old.receiving) (arrived now (records_in p bytes))) (Some end) old new
  ended-all end new takes =
      takes-same old.receiving (arrived now so_far.out ++ (first_of now q rest ++ others)) (arrived now (records_in p bytes)) (Some end) old new all_are
      (takes-then (arrived now so_far.out) (first_of now q rest ++ others) (Some end) old cur new so_far.takes
      (takes-ended (first_of now q rest) others end cur new takes))

  breaks-all : (new : Standing) → BreaksOff (first_of now q rest) cur new → BreaksOff (arrived now (records_in p bytes)) old new
  breaks-all new breaks =
      breaks-same (arrived now so_far.out ++ (first_of now q rest ++ others)) (arrived now (records_in p bytes)) old new all_are
      (breaks-then (arrived now so_far.out) (first_of now q rest ++ others) old cur new so_far.takes (breaks-more (first_of now q rest) others cur new breaks))

  stops-all : (end : RecvEnd) (new : Standing) → StopsBy end (first_of now q rest) cur new → StopsBy end (arrived now (records_in p bytes)) old new
  stops-all (BadFrame at) new stops = ended-all (BadFrame at) new stops
  stops-all (Refused answer) new stops = ended-all (Refused answer) new stops
  stops-all Worn new stops = (breaks-all new stops.0, stops.1)
  stops-all OutOfMemory new stops = breaks-all new stops
  stops-all StreamLimit new stops = absurd stops
  stops-all Ended new stops = absurd stops
  stops-all (Truncated at) new stops = absurd stops
  stops-all LinkFault new stops = absurd stops
  stops-all LogFault new stops = absurd stops

  -- a record that is too long
  cut-too_long : (fault : RpcFault) (end : RecvEnd) (new : Standing) → r.stage ≡ Faulty fault → TooLong end (first_of now q rest) (behind q rest) cur new
      → TooLong end (arrived now (records_in p bytes)) (in_hand p bytes) old new
  unfolding r
  cut-too_long fault end new stage cut =
      let read = reads_fault p bytes [] q rest so_far.out r fault so_far.reading refl stage in
      let not : is_whole r ≡ false = ap is_whole_at stage in
      let none : first_of now q rest ≡ [] = ap (arrived now) (given_none q.begins r not) in
      let same : arrived now so_far.out ++ first_of now q rest ≡ arrived now (records_in p bytes) =
      ap (λ (xs : List Arrival). arrived now so_far.out ++ xs) none ∙ append-nil (arrived now so_far.out) ∙ ap (arrived now) read.0 in
      let begins : (behind q rest).begins ≡ q.begins = ap (λ (v : Position). v.begins) (forgets_none q.begins (q.came + bytes_taken q.reading rest) r not) in
      record {
        takes = takes-same old.receiving (arrived now so_far.out ++ first_of now q rest) (arrived now (records_in p bytes)) None old new same
            (takes-then (arrived now so_far.out) (first_of now q rest) None old cur new so_far.takes cut.takes);
        faulty = ap is_faulty read.1 ∙ ap is_faulty_at stage;
        end_is = cut.end_is ∙ ap BadFrame (begins ∙ sym read.2);
      }

  pub cuts-all : (end : RecvEnd) (new : Standing) → Cuts end (first_of now q rest) (behind q rest) cur new → Cuts end (arrived now (records_in p bytes)) (in_hand p bytes) old new
  unfolding r
  cuts-all end new cuts = elim cuts [
    | inl cut ↦ (let faulty = stage_of_fault r r.stage refl cut.faulty in inl (cut-too_long faulty.0 end new faulty.1 cut))
    | inr stops ↦ inr (stops-all end new stops)
  ]

  -- the first record of the rest ended it
  pub ends-all : (n : ℕ) (t : Position) (new : Standing) (end : Option RecvEnd) (last : Position) → is_some end ≡ true → Turns (turned n end) now rest q t cur new
      → Runs end now bytes p last old new
  ends-all n t new None last some turns = absurd (false≢true some)
  ends-all n t new (Some end) last some turns = cuts-all end new turns

-- no end was written
pub none_written : (end : Option RecvEnd) → is_some end ≡ false → end ≡ None
none_written None none = refl
none_written (Some end) none = absurd (false≢true (sym none))
