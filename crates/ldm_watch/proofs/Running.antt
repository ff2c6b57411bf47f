-- The records in some bytes, taken one after another.
use Rattle.std.proofs.Common.{◌≡◌, ℕ, ◌+◌, ◌-◌, true, false, List, [], ◌++◌, length, take, drop, Some, None, inl, inr, refl, ap, sym, ◌∙◌, arith}
use Rattle.std.proofs.lemmas.Bool.{false≢true}
use Rattle.std.proofs.lemmas.List.{append-nil, length-drop, take_all}
use Rattle.ldm_rpc.specs.declared.fault.RpcFault.{RpcFault}
use Rattle.ldm_rpc.specs.declared.stage.Stage.{Stage}
use Rattle.ldm_rpc.specs.declared.stage.Stage.TheVariants.{Header, Fragment, Whole, Faulty}
use Rattle.ldm_rpc.specs.Reading.{Reading, after, bytes_taken, is_faulty, is_faulty_at, is_whole, is_whole_at, next_of}
use Rattle.ldm_rpc.specs.Streams.{Position, Placed, forgets, given, records_in, in_hand}
use Rattle.ldm_rpc.proofs.Joined.{forgets_none, given_none, pushed}
use Rattle.ldm_rpc.proofs.CallerLemmas.{IsReading, reads_none, reads_more, reads_all, reads_fault}
use Rattle.ldm_watch.specs.declared.end.WatchEnd.TheVariants.{BadFrame}
use Rattle.ldm_watch.specs.declared.stop.Stop.{Stop}
use Rattle.ldm_watch.specs.declared.stop.Stop.TheVariants.{Over}
use Rattle.ldm_watch.specs.Taking.{Standing, StopsBy, TakesAll}
use Rattle.ldm_watch.specs.Turns.{TooLong, Cuts, first_of, behind, TakesFirst, TakesBytes}
use Rattle.ldm_watch.proofs.Followed.{takes-then, takes-same, takes-none, stops-then, stops-more, stops-same}
use Rattle.ldm_watch.proofs.Found.{next-ready, next-sound}

-- a reader that takes no more after `next` met a fault
stage_of_fault : (s : Reading) (stage : Stage) → s.stage ≡ stage → is_faulty (next_of s) ≡ true → (fault : RpcFault) × (s.stage ≡ Faulty fault)
stage_of_fault s (Header came number) is faulty = absurd (false≢true (sym (next-sound s (ap is_faulty_at is)) ∙ faulty))
stage_of_fault s (Fragment left last) is faulty = absurd (false≢true (sym (next-sound s (ap is_faulty_at is)) ∙ faulty))
stage_of_fault s Whole is faulty = absurd (false≢true (sym (next-sound s (ap is_faulty_at is)) ∙ faulty))
stage_of_fault s (Faulty fault) is faulty = (fault, is)

-- How far a loop over bytes has come: it is at q, with a rest of them, and took what came out so far.
pub record IsRunning (p : Position) (bytes : List ℕ) (old : Standing) (q : Position) (rest : List ℕ) (cur : Standing) : Type 0 where
  pub out : List Placed
  pub reading : IsReading p bytes [] q rest out
  pub takes : TakesAll out old cur
  pub sound : is_faulty q.reading ≡ false
  pub room : q.came + length rest ≡ p.came + length bytes

pub runs-none : (p : Position) (bytes : List ℕ) (old : Standing) → is_whole p.reading ≡ false → is_faulty p.reading ≡ false → IsRunning p bytes old p bytes old
runs-none p bytes old ready sound = record { out = []; reading = reads_none p bytes [] ready; takes = takes-none old; sound = sound; room = refl }

module _ (p : Position) (bytes : List ℕ) (old : Standing) (q : Position) (rest : List ℕ) (cur : Standing) (so_far : IsRunning p bytes old q rest cur) where
  r : Reading
  r = after q.reading rest

  -- one record more, or the front of one
  pub runs-more : (n : ℕ) (t : Position) (new : Standing) → TakesFirst rest n q t cur new → (left : List ℕ) → left ≡ take (length rest - n) (drop n rest)
      → IsRunning p bytes old t left new
  unfolding r
  runs-more n t new first left left_is =
      let len : length (drop n rest) ≡ length rest - n = length-drop n rest in
      let behind_is : left ≡ drop n rest = left_is ∙ take_all (length rest - n) (drop n rest) (omega (arith, len)) in
      let came : t.came ≡ q.came + n = ap (λ (v : Position). v.came) first.reads.hand_is ∙ ap (λ (k : ℕ). q.came + k) (sym first.reads.count) in
      let room : t.came + length left ≡ q.came + length rest = ap (λ (x : List ℕ). t.came + length x) behind_is ∙ omega (arith, came, len, first.reads.most) in
      let hand_is : t ≡ forgets q.begins (q.came + n) r = first.reads.hand_is ∙ ap (λ (k : ℕ). forgets q.begins (q.came + k) r) (sym first.reads.count) in
      record {
        out = so_far.out ++ given q.begins r;
        reading = reads_more p bytes [] q rest so_far.out n r t left (so_far.out ++ given q.begins r) so_far.reading refl first.reads.count refl hand_is
            (ap (λ (v : Position). is_whole v.reading) hand_is ∙ next-ready r) behind_is;
        takes = takes-then so_far.out (first_of q rest) None old cur new so_far.takes first.takes;
        sound = first.reads.sound;
        room = room ∙ so_far.room;
      }

  -- no bytes are left
  pub runs-all : rest ≡ [] → TakesBytes bytes p q old cur
  runs-all none =
      let all = reads_all p bytes [] q rest so_far.out none so_far.reading in
      record {
        takes = takes-same so_far.out (records_in p bytes) None old cur all.0 so_far.takes;
        hand_is = all.1;
        sound = so_far.sound;
      }

  -- all records: those so far, the first of the rest, and the others
  others : List Placed
  others = records_in (behind q rest) (drop (bytes_taken q.reading rest) rest)

  all_are : so_far.out ++ (first_of q rest ++ others) ≡ records_in p bytes
  unfolding others
  all_are = ap (λ (xs : List Placed). so_far.out ++ xs) (sym (pushed q rest so_far.reading.ready).records) ∙ so_far.reading.records_are

  stops-all : (stop : Stop) (new : Standing) → StopsBy stop (first_of q rest) cur new → StopsBy stop (records_in p bytes) old new
  stops-all stop new stops =
      stops-same stop (so_far.out ++ (first_of q rest ++ others)) (records_in p bytes) old new all_are
      (stops-then stop so_far.out (first_of q rest ++ others) old cur new so_far.takes (stops-more stop (first_of q rest) others cur new stops))

  -- a record that is too long
  cut-too_long : (fault : RpcFault) (stop : Stop) (new : Standing) → r.stage ≡ Faulty fault → TooLong stop (first_of q rest) (behind q rest) cur new
      → TooLong stop (records_in p bytes) (in_hand p bytes) old new
  unfolding r
  cut-too_long fault stop new stage cut =
      let read = reads_fault p bytes [] q rest so_far.out r fault so_far.reading refl stage in
      let not : is_whole r ≡ false = ap is_whole_at stage in
      let none : first_of q rest ≡ [] = given_none q.begins r not in
      let same : so_far.out ++ first_of q rest ≡ records_in p bytes = ap (λ (xs : List Placed). so_far.out ++ xs) none ∙ append-nil so_far.out ∙ read.0 in
      let begins : (behind q rest).begins ≡ q.begins = ap (λ (v : Position). v.begins) (forgets_none q.begins (q.came + bytes_taken q.reading rest) r not) in
      record {
        takes = takes-same (so_far.out ++ first_of q rest) (records_in p bytes) None old new same
            (takes-then so_far.out (first_of q rest) None old cur new so_far.takes cut.takes);
        faulty = ap is_faulty read.1 ∙ ap is_faulty_at stage;
        stop_is = cut.stop_is ∙ ap (λ (at : ℕ). Over (BadFrame at)) (begins ∙ sym read.2);
      }

  pub cuts-all : (stop : Stop) (new : Standing) → Cuts stop (first_of q rest) (behind q rest) cur new → Cuts stop (records_in p bytes) (in_hand p bytes) old new
  unfolding r
  cuts-all stop new cuts = elim cuts [
    | inl cut ↦ (let faulty = stage_of_fault r r.stage refl cut.faulty in inl (cut-too_long faulty.0 stop new faulty.1 cut))
    | inr stops ↦ inr (stops-all stop new stops)
  ]
