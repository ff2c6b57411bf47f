-- For a caller that reads a stream by a loop: it pushes what is left of a piece, adds a record that is complete with its
-- place, calls `next`, and goes on behind the bytes that were taken. It counts the bytes that came, and keeps where the
-- record in hand begins.
use Rattle.std.proofs.Common.{◌≡◌, ℕ, ◌+◌, false, List, [], ◌∷◌, ◌++◌, drop, refl, sym, ap, ◌∙◌, append_assoc, inl, inr}
use Rattle.std.proofs.lemmas.Bool.{cases_Bool}
use Rattle.std.proofs.lemmas.List.{append-nil}
use Rattle.ldm_rpc.specs.declared.fault.RpcFault.{RpcFault}
use Rattle.ldm_rpc.specs.declared.stage.Stage.TheVariants.{Faulty}
use Rattle.ldm_rpc.specs.Reading.{Reading, after, after_byte, bytes_taken, is_open, is_open_at, is_whole, is_whole_at, next_of}
use Rattle.ldm_rpc.specs.Streams.{Position, Placed, forgets, given, in_hand, records_in}
use Rattle.ldm_rpc.proofs.Joined.{forgets_none, given_none, position, pushed, pushed_to}
use Rattle.ldm_rpc.proofs.Pushed.{after_end}
use Rattle.ldm_rpc.proofs.Split.{limit_kept}

-- What came out so far, and what will come out of the rest, is what comes out of the piece. The reader was at p and is at
-- t, and first had come out before the piece.
pub record IsReading (p : Position) (piece : List ℕ) (first : List Placed) (t : Position) (rest : List ℕ) (out : List Placed) : Type 0 where
  pub records_are : out ++ records_in t rest ≡ first ++ records_in p piece
  pub in_hand_is : in_hand t rest ≡ in_hand p piece
  pub ready : is_whole t.reading ≡ false

-- before the first push
pub reads_none : (p : Position) (piece : List ℕ) (first : List Placed) → is_whole p.reading ≡ false → IsReading p piece first p piece first
reads_none p piece first ready = record { records_are = refl; in_hand_is = refl; ready = ready }

-- A push of what is left takes n bytes and leaves the reader as r. Then comes the record that is complete, and `next`.
pub reads_more : (p : Position) (piece : List ℕ) (first : List Placed) (t : Position) (rest : List ℕ) (out : List Placed) (n : ℕ) (r : Reading) (u : Position)
    (behind : List ℕ) (more : List Placed) → IsReading p piece first t rest out → r ≡ after t.reading rest → n ≡ bytes_taken t.reading rest
    → more ≡ out ++ given t.begins r → u ≡ forgets t.begins (t.came + n) r → is_whole u.reading ≡ false → behind ≡ drop n rest
    → IsReading p piece first u behind more
reads_more p piece first t rest out n r u behind more so_far r_is n_is more_is u_is ready behind_is =
    let pushed_is = pushed t rest so_far.ready in
    let left : behind ≡ drop (bytes_taken t.reading rest) rest = behind_is ∙ ap (λ k. drop k rest) n_is in
    let there : u ≡ pushed_to t rest = u_is ∙ ap (λ k. forgets t.begins (t.came + k) r) n_is ∙ ap (λ (s : Reading). forgets t.begins (t.came + bytes_taken t.reading rest) s) r_is in
    let all : records_in t rest ≡ given t.begins r ++ records_in u behind = pushed_is.records ∙ rw (there, left, r_is) refl in
    record {
      records_are = ap (λ (x : List Placed). x ++ records_in u behind) more_is ∙ append_assoc out (given t.begins r) (records_in u behind)
          ∙ ap (λ (x : List Placed). out ++ x) (sym all) ∙ so_far.records_are;
      in_hand_is = rw (there, left) (sym pushed_is.in_hand ∙ so_far.in_hand_is);
      ready = ready;
    }

-- no rest is left
pub reads_all : (p : Position) (piece : List ℕ) (first : List Placed) (t : Position) (rest : List ℕ) (out : List Placed) → rest ≡ []
    → IsReading p piece first t rest out
    → (out ≡ first ++ records_in p piece) × (t ≡ in_hand p piece)
unfolding records_in in_hand
reads_all p piece first t rest out none so_far =
    (sym (append-nil out) ∙ sym (ap (λ (x : List ℕ). out ++ records_in t x) none) ∙ so_far.records_are, sym (ap (in_hand t) none) ∙ so_far.in_hand_is)

-- ---- a stream that is read no further

-- where a reader stays, whatever comes
record StaysAt (place : ℕ) (s : Reading) (bytes : List ℕ) (p : Position) : Type 0 where
  none : records_in p bytes ≡ []
  reading : (in_hand p bytes).reading ≡ s
  begins : (in_hand p bytes).begins ≡ place

stays : (begins came : ℕ) (s : Reading) (bytes : List ℕ) → is_open s ≡ false → is_whole s ≡ false → StaysAt begins s bytes (position begins came s)
unfolding records_in in_hand after after_byte
stays begins came s [] ended not = record { none = refl; reading = refl; begins = refl }
stays begins came s (byte ∷ bytes) ended not =
    let same : after_byte s byte ≡ s = after_end s (byte ∷ []) ended in
    let more = stays begins (came + 1) s bytes ended not in
    let step : in_hand (position begins came s) (byte ∷ bytes) ≡ in_hand (position begins (came + 1) s) bytes = rw (same, forgets_none begins (came + 1) s not) refl in
    record {
      none = rw (same, given_none begins s not, forgets_none begins (came + 1) s not) more.none;
      reading = ap (λ (q : Position). q.reading) step ∙ more.reading;
      begins = ap (λ (q : Position). q.begins) step ∙ more.begins;
    }

-- A push of what is left makes a fault of it: no more comes out, and the record in hand is the one that is refused.
pub reads_fault : (p : Position) (piece : List ℕ) (first : List Placed) (t : Position) (rest : List ℕ) (out : List Placed) (r : Reading) (fault : RpcFault)
    → IsReading p piece first t rest out → r ≡ after t.reading rest → r.stage ≡ Faulty fault
    → (out ≡ first ++ records_in p piece) × ((in_hand p piece).reading ≡ r) × ((in_hand p piece).begins ≡ t.begins)
reads_fault p piece first t rest out r fault so_far r_is faulty =
    let pushed_is = pushed t rest so_far.ready in
    let n = bytes_taken t.reading rest in
    let ended : is_open r ≡ false = ap is_open_at faulty in
    let not : is_whole r ≡ false = ap is_whole_at faulty in
    let there : pushed_to t rest ≡ position t.begins (t.came + n) r =
    ap (λ (s : Reading). forgets t.begins (t.came + n) s) (sym r_is) ∙ forgets_none t.begins (t.came + n) r not in
    let stays_is = stays t.begins (t.came + n) r (drop n rest) ended not in
    let none : records_in t rest ≡ [] = pushed_is.records ∙ rw (there, ← r_is, given_none t.begins r not) stays_is.none in
    let behind : in_hand t rest ≡ in_hand (position t.begins (t.came + n) r) (drop n rest) = pushed_is.in_hand ∙ ap (λ (q : Position). in_hand q (drop n rest)) there in (
      sym (append-nil out) ∙ ap (λ (x : List Placed). out ++ x) (sym none) ∙ so_far.records_are,
      ap (λ (q : Position). q.reading) (sym so_far.in_hand_is ∙ behind) ∙ stays_is.reading,
      ap (λ (q : Position). q.begins) (sym so_far.in_hand_is ∙ behind) ∙ stays_is.begins,
    )

-- ---- a reader keeps its limit

pub limit-after : (s : Reading) (bytes : List ℕ) → (after s bytes).limit ≡ s.limit
unfolding after
limit-after s [] = refl
limit-after s (byte ∷ bytes) = limit-after (after_byte s byte) bytes ∙ limit_kept s byte

pub limit-next : (s : Reading) → (next_of s).limit ≡ s.limit
limit-next s = elim (cases_Bool (is_whole s)) [ inl whole ↦ rw whole refl | inr not ↦ rw not refl ]
