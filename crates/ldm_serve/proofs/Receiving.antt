-- What a connection comes to where bytes come straight into the record in hand, or none.
use Rattle.std.proofs.Common.{◌≡◌, ◌∙◌, ℕ, ◌+◌, ◌-◌, ◌<◌, ◌≤◌, true, false, List, [], length, take, drop, refl, sym, ap, subst, arith}
use Rattle.std.proofs.lemmas.List.{drop_all, take_all}
use Rattle.ldm_outside.specs.declared.io.Got.TheVariants.{Bytes, End, Failed}
use Rattle.ldm_outside.specs.Link.{Gave, IsNotClosed, LinkRecord, RecvGives}
use Rattle.ldm_rpc.specs.Filling.{IsFilled, filled}
use Rattle.ldm_rpc.specs.Reading.{Reading, after, bytes_taken, is_faulty, is_whole, next_of}
use Rattle.ldm_rpc.specs.Streams.{Placed, Position, forgets}
use Rattle.ldm_rpc.proofs.Joined.{given_none}
use Rattle.ldm_session.proofs.CallerLemmas.{Exchanged-nothing}
use Rattle.ldm_downstream.specs.declared.limits.TheConstants.{LONGEST_PIECE}
use Rattle.ldm_serve.specs.declared.end.ServeEnd.TheVariants as end
use Rattle.ldm_serve.specs.Client.{Client}
use Rattle.ldm_serve.specs.Connection.{ServingMoment}
use Rattle.ldm_serve.specs.Filling.{Fills}
use Rattle.ldm_serve.specs.Responds.{Standing, stands}
use Rattle.ldm_serve.specs.Rounds.{IsServed, ReadsOn, end_at}
use Rattle.ldm_serve.specs.Served.{GoesOn}
use Rattle.ldm_serve.specs.Turns.{AnswersAll, Reads, behind, first_of}
use Rattle.ldm_serve.proofs.Coming.{came-reads, ended-served, failed-served, linked}
use Rattle.ldm_serve.proofs.Doing.{answers-none}
use Rattle.ldm_serve.proofs.Reaching.{PutsOut}
use Rattle.ldm_serve.proofs.Running.{runs-all, runs-more, runs-none}
use Rattle.ldm_serve.proofs.Turning.{on-reads}

-- where a reader stands behind bytes that complete no record
abbrev pub stands-behind : Position → List ℕ → Position
stands-behind p bytes = record { reading = after p.reading bytes; begins = p.begins; came = p.came + length bytes }

-- it goes on from there, where a filler put some bytes
pub fills : (p : Position) (r : Reading) (q : Position) (most room n : ℕ) → IsFilled p.reading r most n → most ≤ room
    → q ≡ record { reading = r; begins = p.begins; came = p.came + n }
    → (q ≡ stands-behind p (filled p.reading r)) × (length (filled p.reading r) ≤ room) × (length (filled p.reading r) ≡ bytes_taken p.reading (filled p.reading r))
    × (is_whole q.reading ≡ false) × (is_faulty q.reading ≡ false)
fills p r q most room n is few at =
    let bytes = filled p.reading r in
    let count : n ≡ length bytes = is.count in (
      at ∙ ap (λ (s : Reading). record { reading = s; begins = p.begins; came = p.came + n }) is.after
          ∙ ap (λ (k : ℕ). record { reading = after p.reading bytes; begins = p.begins; came = p.came + k }) count,
      omega (arith, count, is.within, few),
      sym count ∙ is.taken,
      ap (λ (v : Position). is_whole v.reading) at ∙ is.unended,
      ap (λ (v : Position). is_faulty v.reading) at ∙ is.sound,
    )

forgets-none : (begins came : ℕ) (r : Reading) → is_whole r ≡ false → forgets begins came r ≡ record { reading = r; begins = begins; came = came }
forgets-none begins came r not = rw not refl

still : (p q : Position) (bytes : List ℕ) → q ≡ stands-behind p bytes → bytes ≡ [] → q ≡ p
unfolding after
still p q bytes is none =
    let none_came : p.came + 0 ≡ p.came = omega arith in
    is ∙ ap (stands-behind p) none ∙ ap (λ (n : ℕ). record { reading = p.reading; begins = p.begins; came = n }) none_came

module _ (client : Client) (room : ℕ) (p q : Position) (now : ServingMoment) (link : LinkRecord) where
  -- some bytes came, and no record is complete behind them
  module _ (n : ℕ) (by : now.pass.actor ≡ client.actor) (sound : is_faulty p.reading ≡ false) (came : Fills (Bytes n) room p q now.outside.link link) where
    not-whole : is_whole (after p.reading came.bytes) ≡ false
    not-whole = sym (ap (λ (v : Position). is_whole v.reading) came.hand_is) ∙ came.unended

    reads : Reads p came.bytes (length came.bytes) q
    reads =
        let some = came.receives.came.1 in
        let count = came.receives.came.0 in
        record {
          count = came.taken;
          some = omega (arith, some, count);
          most = omega arith;
          hand_is = came.hand_is ∙ ap (λ (k : ℕ). record { reading = after p.reading came.bytes; begins = p.begins; came = p.came + k }) came.taken
              ∙ sym (forgets-none p.begins (p.came + bytes_taken p.reading came.bytes) (after p.reading came.bytes) not-whole);
          sound = came.sound;
        }

    goes-on : (here : Standing) → here.pass.actor ≡ client.actor → GoesOn client p came.bytes q here here
    goes-on here calls =
        let bytes = came.bytes in
        let all : length bytes - length bytes ≡ 0 = omega arith in
        let answers : AnswersAll client (first_of p bytes) here here =
        subst (λ (records : List Placed). AnswersAll client records here here) (sym (given_none p.begins (after p.reading bytes) not-whole)) (answers-none client here calls) in
        runs-all client p bytes here q [] here
        (runs-more client p bytes here p bytes here (runs-none client p bytes here calls came.ready sound) (length bytes) q here (record { reads = reads; answers = answers })
        [] (sym (ap (λ (k : ℕ). take k (drop (length bytes) bytes)) all)))
        refl

    pub filled-reads : (begins : ServingMoment) → ReadsOn client begins p [] now → ReadsOn client begins q [] (linked now link)
    filled-reads begins here =
        let bytes = came.bytes in
        let given = came.receives.came in
        let whole : take n bytes ≡ bytes = take_all n bytes (omega (arith, given.0)) in
        let gives : RecvGives (Bytes n) bytes now.outside.link link =
        (given.1, omega (arith, given.0), subst (λ (xs : List ℕ). Gave now.outside.link xs link) (sym whole) given.2) in
        let small : length (take n bytes) ≤ LONGEST_PIECE = subst (λ (xs : List ℕ). length xs ≤ LONGEST_PIECE) (sym whole) came.small in
        let ahead : ReadsOn client begins p bytes (linked now link) =
        subst (λ (xs : List ℕ). ReadsOn client begins p xs (linked now link)) whole
        (came-reads client begins p now here bytes link came.receives.faults came.receives.ends n gives small) in
        let none : PutsOut true [] link link =
        record { sent = []; part = refl; exchanged = Exchanged-nothing link link refl refl; faults = omega arith; ends = omega arith } in
        subst (λ (rest : List ℕ). ReadsOn client begins q rest (linked now link)) (drop_all (length bytes) bytes (omega arith))
        (on-reads client begins p bytes (linked now link) ahead true [] (linked now link) none refl refl refl q (goes-on (stands now.pass now.outside.clock []) by))

  -- the stream ended
  pub filled-ended : Fills End room p q now.outside.link link → (begins : ServingMoment) → ReadsOn client begins p [] now → IsServed (end_at q) client begins (linked now link)
  filled-ended came begins here =
      let none = came.receives.came in
      subst (λ (v : Position). IsServed (end_at v) client begins (linked now link)) (sym (still p q came.bytes came.hand_is none.0))
      (ended-served client begins p now here [] link came.receives.faults came.receives.ends none.1 came.receives.unclosed)

  -- the link failed
  pub filled-failed : Fills Failed room p q now.outside.link link → (begins : ServingMoment) → ReadsOn client begins p [] now → IsServed end.LinkFault client begins (linked now link)
  filled-failed came begins here =
      let none = came.receives.came in
      failed-served client begins p now here [] link came.receives.faults came.receives.ends none.1 came.receives.unclosed
