-- The records in some bytes, answered one after another.
use Rattle.std.proofs.Common.{◌≡◌, ℕ, suc, ◌+◌, ◌-◌, ◌≤◌, Bool, true, false, List, [], ◌∷◌, ◌++◌, length, take, drop, refl, ap, sym, subst, ◌∙◌, arith, inl, inr, append_assoc, append-nil, length-append}
use Rattle.std.proofs.lemmas.Bool.{cases_Bool, false≢true}
use Rattle.std.proofs.lemmas.List.{drop-drop, drop_all, length-drop, length-take-le, take-append-drop, take_all}
use Rattle.ldm_rpc.specs.declared.fault.RpcFault.{RpcFault}
use Rattle.ldm_rpc.specs.declared.stage.Stage.{Stage}
use Rattle.ldm_rpc.specs.declared.stage.Stage.TheVariants.{Header, Fragment, Whole, Faulty}
use Rattle.ldm_rpc.specs.Reading.{Reading, after, after_byte, bytes_taken, is_faulty, is_faulty_at, is_open, is_pending, is_whole, next_of}
use Rattle.ldm_rpc.specs.Streams.{Position, Placed, forgets, given, records_in, in_hand}
use Rattle.ldm_rpc.proofs.Joined.{after-taken, given_none, in_hand-append, pushed, records-append}
use Rattle.ldm_rpc.proofs.Pushed.{taken_at_end}
use Rattle.ldm_rpc.proofs.Steps.{taken_open}
use Rattle.ldm_rpc.proofs.CallerLemmas.{IsReading, reads_none, reads_more, reads_all, reads_fault}
use Rattle.ldm_shared.specs.Passes.{PassView}
use Rattle.ldm_serve.specs.declared.responded.Responded.{Responded}
use Rattle.ldm_serve.specs.Responds.{Standing}
use Rattle.ldm_serve.specs.declared.serving.Answered.{Answered}
use Rattle.ldm_serve.specs.declared.serving.Answered.TheVariants as answered
use Rattle.ldm_serve.specs.Served.{BreaksOff, GoesOn, IsOver, IsTooLong, IsWorn, Serves}
use Rattle.ldm_serve.specs.Client.{Client}
use Rattle.ldm_serve.specs.Turns.{AnswersAll, Reads, RunsOutAt, Stops, TakesFirst, TurnsOver, behind, first_of}
use Rattle.ldm_serve.proofs.Doing.{answers-none, answers-then}
use Rattle.ldm_serve.proofs.First.{next-ready, next-sound}

-- a reader that takes no more after `next` met a fault
stage_of_fault : (s : Reading) (stage : Stage) → s.stage ≡ stage → is_faulty (next_of s) ≡ true → (fault : RpcFault) × (s.stage ≡ Faulty fault)
stage_of_fault s (Header came number) is faulty = absurd (false≢true (sym (next-sound s (ap is_faulty_at is)) ∙ faulty))
stage_of_fault s (Fragment left last) is faulty = absurd (false≢true (sym (next-sound s (ap is_faulty_at is)) ∙ faulty))
stage_of_fault s Whole is faulty = absurd (false≢true (sym (next-sound s (ap is_faulty_at is)) ∙ faulty))
stage_of_fault s (Faulty fault) is faulty = (fault, is)

-- ---- the bytes that a push takes

first-taken : (s : Reading) (byte : ℕ) (bytes : List ℕ) (k : ℕ) → is_open s ≡ true → k ≡ bytes_taken (after_byte s byte) bytes → bytes_taken (after_byte s byte) (take k bytes) ≡ k
    → bytes_taken s (take (bytes_taken s (byte ∷ bytes)) (byte ∷ bytes)) ≡ bytes_taken s (byte ∷ bytes)
first-taken s byte bytes k unended k_is more =
    let count : bytes_taken s (byte ∷ bytes) ≡ suc k = taken_open s byte bytes unended ∙ omega (arith, k_is) in
    let again : bytes_taken s (byte ∷ take k bytes) ≡ suc k = taken_open s byte (take k bytes) unended ∙ omega (arith, more) in
    ap (λ (n : ℕ). bytes_taken s (take n (byte ∷ bytes))) count ∙ again ∙ sym count

taken-taken : (s : Reading) (bytes : List ℕ) → bytes_taken s (take (bytes_taken s bytes) bytes) ≡ bytes_taken s bytes
unfolding bytes_taken
taken-taken s [] = refl
taken-taken s (byte ∷ bytes) =
    elim (cases_Bool (is_open s)) [
      | inl unended ↦ first-taken s byte bytes (bytes_taken (after_byte s byte) bytes) unended refl (taken-taken (after_byte s byte) bytes)
      | inr ended ↦ ap (λ (n : ℕ). bytes_taken s (take n (byte ∷ bytes))) (taken_at_end s (byte ∷ bytes) ended) ∙ sym (taken_at_end s (byte ∷ bytes) ended)
    ]

-- they complete just the record that the push completes, and the reader is behind them
reads-done : (p : Position) (bytes : List ℕ) (n : ℕ) (t : Position) → is_whole p.reading ≡ false → Reads p bytes n t
    → (records_in p (take n bytes) ≡ given p.begins (after p.reading bytes)) × (t ≡ in_hand p (take n bytes))
unfolding records_in in_hand
reads-done p bytes n t ready reads =
    let front = take n bytes in
    let r = after p.reading bytes in
    let front_is : after p.reading front ≡ r = ap (λ (k : ℕ). after p.reading (take k bytes)) reads.count ∙ after-taken p.reading bytes in
    let taken : bytes_taken p.reading front ≡ n = ap (λ (k : ℕ). bytes_taken p.reading (take k bytes)) reads.count ∙ taken-taken p.reading bytes ∙ sym reads.count in
    let none : drop (bytes_taken p.reading front) front ≡ [] = ap (λ (k : ℕ). drop k front) taken ∙ drop_all n front (omega (arith, length-take-le n bytes reads.most)) in
    let is = pushed p front ready in
    let there : t ≡ forgets p.begins (p.came + n) r = reads.hand_is ∙ ap (λ (k : ℕ). forgets p.begins (p.came + k) r) (sym reads.count) in (
      is.records ∙ rw (none, front_is) (append-nil (given p.begins r)),
      there ∙ sym (is.in_hand ∙ rw (none, front_is, taken) refl),
    )

-- a record that comes out is complete, and none is begun behind it
whole-given : (begins : ℕ) (r : Reading) (placed : Placed) (b : Bool) → is_whole r ≡ b → given begins r ≡ placed ∷ [] → b ≡ true
whole-given begins r placed true is given_is = refl
whole-given begins r placed false is given_is = let none : [] ≡ placed ∷ [] = sym (given_none begins r is) ∙ given_is in absurd (cc none)

edge-whole : (r : Reading) → is_whole r ≡ true → is_pending (next_of r) ≡ false
edge-whole r whole = rw whole refl

-- How far a loop over bytes has come: it is at q, with a rest of them, and answered what came out so far.
pub record IsRunning (client : Client) (p : Position) (bytes : List ℕ) (old : Standing) (q : Position) (rest : List ℕ) (cur : Standing) : Type 0 where
  pub out : List Placed
  pub reading : IsReading p bytes [] q rest out
  pub answers : AnswersAll client out old cur
  pub sound : is_faulty q.reading ≡ false
  pub room : q.came + length rest ≡ p.came + length bytes
  pub began : p.came ≤ q.came
  pub rest_is : rest ≡ drop (q.came - p.came) bytes
  pub done : List ℕ
  pub all : done ++ rest ≡ bytes
  pub out_is : out ≡ records_in p done
  pub hand_is : q ≡ in_hand p done

pub runs-none : (client : Client) (p : Position) (bytes : List ℕ) (old : Standing) → old.pass.actor ≡ client.actor → is_whole p.reading ≡ false → is_faulty p.reading ≡ false
    → IsRunning client p bytes old p bytes old
unfolding records_in in_hand
runs-none client p bytes old by ready sound = record {
  out = [];
  reading = reads_none p bytes [] ready;
  answers = answers-none client old by;
  sound = sound;
  room = refl;
  began = omega arith;
  rest_is = let none : p.came - p.came ≡ 0 = omega arith in ap (λ (n : ℕ). drop n bytes) (sym none);
  done = [];
  all = refl;
  out_is = refl;
  hand_is = refl;
}

-- the actor calls for the client all along
pub same-client : (client : Client) (records : List Placed) (old cur : Standing) → old.pass.actor ≡ client.actor → AnswersAll client records old cur → cur.pass.actor ≡ client.actor
same-client client records old cur by answers = ap (λ (pass : PassView). pass.actor) answers.does.calls.same ∙ by

module _ (client : Client) (p : Position) (bytes : List ℕ) (old : Standing) (q : Position) (rest : List ℕ) (cur : Standing) (so_far : IsRunning client p bytes old q rest cur) where
  r : Reading
  r = after q.reading rest

  -- where a reader is that took so many bytes of the rest
  record IsBehind (n : ℕ) (t : Position) (left : List ℕ) : Type 0 where
    hand_is : t ≡ forgets q.begins (q.came + n) r
    came : t.came ≡ q.came + n
    rest_is : left ≡ drop (t.came - p.came) bytes
    room : t.came + length left ≡ q.came + length rest
    all : (so_far.done ++ take n rest) ++ left ≡ bytes
    records : so_far.out ++ given q.begins r ≡ records_in p (so_far.done ++ take n rest)
    behind_is : t ≡ in_hand p (so_far.done ++ take n rest)

  goes-behind : (n : ℕ) (t : Position) (left : List ℕ) → Reads q rest n t → left ≡ drop n rest → IsBehind n t left
  unfolding r
  goes-behind n t left reads left_is =
      let hand_is : t ≡ forgets q.begins (q.came + n) r = reads.hand_is ∙ ap (λ (k : ℕ). forgets q.begins (q.came + k) r) (sym reads.count) in
      let came : t.came ≡ q.came + n = ap (λ (v : Position). v.came) hand_is in
      let count : (q.came - p.came) + n ≡ t.came - p.came = omega (arith, came, so_far.began) in
      let read = reads-done q rest n t so_far.reading.ready reads in
      record {
        hand_is = hand_is;
        came = came;
        rest_is = left_is ∙ ap (drop n) so_far.rest_is ∙ drop-drop n (q.came - p.came) bytes ∙ ap (λ (k : ℕ). drop k bytes) count;
        room = ap (λ (xs : List ℕ). t.came + length xs) left_is ∙ omega (arith, came, length-drop n rest, reads.most);
        all = append_assoc so_far.done (take n rest) left
            ∙ ap (λ (xs : List ℕ). so_far.done ++ xs) (ap (λ (xs : List ℕ). take n rest ++ xs) left_is ∙ take-append-drop n rest) ∙ so_far.all;
        records = ap (λ (xs : List Placed). xs ++ given q.begins r) so_far.out_is
            ∙ ap (λ (xs : List Placed). records_in p so_far.done ++ xs) (sym read.0 ∙ ap (λ (v : Position). records_in v (take n rest)) so_far.hand_is)
            ∙ sym (records-append p so_far.done (take n rest));
        behind_is = read.1 ∙ ap (λ (v : Position). in_hand v (take n rest)) so_far.hand_is ∙ sym (in_hand-append p so_far.done (take n rest));
      }

  -- one record more, or the front of one
  pub runs-more : (n : ℕ) (t : Position) (new : Standing) → TakesFirst client q rest n t cur new → (left : List ℕ) → left ≡ take (length rest - n) (drop n rest)
      → IsRunning client p bytes old t left new
  unfolding r
  runs-more n t new first left left_is =
      let len : length (drop n rest) ≡ length rest - n = length-drop n rest in
      let behind_is : left ≡ drop n rest = left_is ∙ take_all (length rest - n) (drop n rest) (omega (arith, len)) in
      let there = goes-behind n t left first.reads behind_is in
      record {
        out = so_far.out ++ given q.begins r;
        reading = reads_more p bytes [] q rest so_far.out n r t left (so_far.out ++ given q.begins r) so_far.reading refl first.reads.count refl there.hand_is
            (ap (λ (v : Position). is_whole v.reading) there.hand_is ∙ next-ready r) behind_is;
        answers = answers-then client so_far.out (given q.begins r) old cur new so_far.answers first.answers;
        sound = first.reads.sound;
        room = there.room ∙ so_far.room;
        began = let came = there.came in omega (arith, came, so_far.began);
        rest_is = there.rest_is;
        done = so_far.done ++ take n rest;
        all = there.all;
        out_is = there.records;
        hand_is = there.behind_is;
      }

  -- no bytes are left
  pub runs-all : rest ≡ [] → GoesOn client p bytes q old cur
  runs-all none =
      let all = reads_all p bytes [] q rest so_far.out none so_far.reading in
      record {
        answers = subst (λ (records : List Placed). AnswersAll client records old cur) all.0 so_far.answers;
        hand_is = all.1;
        sound = so_far.sound;
      }

  -- the records of the rest: the first, and those behind it
  others : List Placed
  others = records_in (behind q rest) (drop (bytes_taken q.reading rest) rest)

  all_are : so_far.out ++ (first_of q rest ++ others) ≡ records_in p bytes
  unfolding others
  all_are = ap (λ (xs : List Placed). so_far.out ++ xs) (sym (pushed q rest so_far.reading.ready).records) ∙ so_far.reading.records_are

  -- the session does not outlive the first record of the rest
  pub over-all : (next : Responded) (at n : ℕ) (t : Position) (new : Standing) → TurnsOver client next at q rest n t cur new → IsOver client next at p bytes t old new
  unfolding r
  over-all next at n t new over =
      let left = drop n rest in
      let there = goes-behind n t left over.reads refl in
      let first : given q.begins r ≡ over.placed ∷ [] = over.first in
      let whole : is_whole r ≡ true = whole-given q.begins r over.placed (is_whole r) refl first in
      record {
        front = so_far.out;
        last = over.placed;
        taken = so_far.done ++ take n rest;
        rest = left;
        between = cur;
        answers = so_far.answers;
        ends = over.ends;
        at_is = over.at_is;
        all = there.all;
        some = omega (arith, length-append so_far.done (take n rest), length-take-le n rest over.reads.most, over.reads.some);
        records = ap (λ (xs : List Placed). so_far.out ++ xs) (sym first) ∙ there.records;
        hand_is = there.behind_is;
        rest_is = there.rest_is;
        edge = ap (λ (v : Position). is_pending v.reading) there.hand_is ∙ edge-whole r whole;
        sound = over.reads.sound;
      }

  -- the next record is too long
  too_long-all : (at : ℕ) (new : Standing) (fault : RpcFault) → r.stage ≡ Faulty fault → at ≡ q.begins → new ≡ cur → IsTooLong client at p bytes old new
  unfolding r
  too_long-all at new fault stage at_is same =
      let read = reads_fault p bytes [] q rest so_far.out r fault so_far.reading refl stage in
      record {
        answers = subst (λ (records : List Placed). AnswersAll client records old new) read.0 (subst (λ (s : Standing). AnswersAll client so_far.out old s) (sym same) so_far.answers);
        faulty = ap is_faulty read.1 ∙ ap is_faulty_at stage;
        at_is = at_is ∙ sym read.2;
      }

  worn-all : (new : Standing) → RunsOutAt client (first_of q rest) cur new → IsWorn client p bytes old new
  worn-all new runs_out = record {
    front = so_far.out;
    others = first_of q rest ++ others;
    between = cur;
    answers = so_far.answers;
    records = all_are;
    runs_out = runs-out-more (first_of q rest) runs_out;
  }
    where
      runs-out-more : (first : List Placed) → RunsOutAt client first cur new → RunsOutAt client (first ++ others) cur new
      runs-out-more [] runs = absurd runs
      runs-out-more (placed ∷ first) runs = runs

  memory-all : (new : Standing) → new ≡ cur → BreaksOff client p bytes old new
  memory-all new same = record {
    front = so_far.out;
    others = first_of q rest ++ others;
    answers = subst (λ (s : Standing). AnswersAll client so_far.out old s) (sym same) so_far.answers;
    records = all_are;
  }

  pub stops-all : (stop : Answered) (next : Responded) (t : Position) (new : Standing) → Stops stop next client q rest t cur new → Serves stop next client p bytes t old new
  unfolding r
  stops-all answered.On next t new stops = absurd stops
  stops-all (answered.Over at) next t new stops = over-all next at stops.0 t new stops.1
  stops-all (answered.TooLong at) next t new stops = let faulty = stage_of_fault r r.stage refl stops.0 in too_long-all at new faulty.0 faulty.1 stops.1 stops.2
  stops-all answered.Worn next t new stops = worn-all new stops
  stops-all answered.OutOfMemory next t new stops = memory-all new stops
