-- What a reader makes of the first bytes of records: the records that are whole, and no fault.
use Rattle.std.proofs.Common.{◌≡◌, ℕ, ◌+◌, ◌<◌, ◌≤◌, Bool, true, false, cond, List, [], ◌∷◌, ◌++◌, length, drop, refl, ap, sym, subst, ◌∙◌, arith}
use Rattle.std.specs.Prelude.{All}
use Rattle.std.proofs.lemmas.List.{append-nil, length-append}
use Rattle.std.proofs.lemmas.List.Elements.{All-head}
use Rattle.std.proofs.Math.ListN.{drop_of_length-le}
use Rattle.ldm_rpc.specs.declared.stage.Stage.{Stage}
use Rattle.ldm_rpc.specs.declared.stage.Stage.TheVariants.{Header, Fragment, Whole, Faulty}
use Rattle.ldm_rpc.specs.Reading.{Reading, after, after_byte, begun, bytes_taken, is_faulty, is_faulty_at, is_open, is_open_at, is_whole, is_whole_at}
use Rattle.ldm_rpc.specs.Spelling.{Record, Fits, spelling}
use Rattle.ldm_rpc.specs.Streams.{Position, Placed, before_record, forgets, given, in_hand, records_in}
use Rattle.ldm_between_ends.specs.StreamLaws.{StreamLaws}
use Rattle.ldm_between_ends.proofs.Splitting.{IsPart, IsPartOf}

few-taken : (s : Reading) (bytes : List ℕ) → bytes_taken s bytes ≤ length bytes
unfolding bytes_taken
few-taken s [] = omega arith
few-taken s (byte ∷ bytes) = by (is_open s) (few-taken (after_byte s byte) bytes) where
  by : (b : Bool) → bytes_taken (after_byte s byte) bytes ≤ length bytes → cond b (1 + bytes_taken (after_byte s byte) bytes) 0 ≤ length (byte ∷ bytes)
  by true less = omega arith
  by false less = omega arith

-- who takes bytes is within a record
open-where_taken : (s : Reading) (bytes : List ℕ) → 0 < bytes_taken s bytes → is_open s ≡ true
unfolding bytes_taken
open-where_taken s [] some = absurd (omega (arith, some))
open-where_taken s (byte ∷ bytes) some = by (is_open s) refl some where
  by : (b : Bool) → is_open s ≡ b → 0 < cond b (1 + bytes_taken (after_byte s byte) bytes) 0 → is_open s ≡ true
  by true is more = is
  by false is more = absurd (omega (arith, more))

open-not_whole : (stage : Stage) → is_open_at stage ≡ true → is_whole_at stage ≡ false
open-not_whole (Header came number) is = refl
open-not_whole (Fragment left last) is = refl
open-not_whole Whole is = absurd (cc is)
open-not_whole (Faulty fault) is = refl

open-not_faulty : (stage : Stage) → is_open_at stage ≡ true → is_faulty_at stage ≡ false
open-not_faulty (Header came number) is = refl
open-not_faulty (Fragment left last) is = refl
open-not_faulty Whole is = refl
open-not_faulty (Faulty fault) is = absurd (cc is)

-- What comes out of some bytes, and that there is no fault behind them.
pub record ReadsSound (p : Position) (bytes : List ℕ) (out : List Placed) : Type 0 where
  pub out_is : records_in p bytes ≡ out
  pub sound : is_faulty (in_hand p bytes).reading ≡ false

module _ (laws : StreamLaws) (limit at : ℕ) where
  -- a part of a record
  part-reads : (r : Record) (part : List ℕ) → Fits limit r → IsPartOf (spelling r) part → ReadsSound (before_record limit at) part []
  unfolding records_in in_hand
  part-reads r part fits is =
      let p = before_record limit at in
      let s = begun limit in
      let n = bytes_taken s part in
      let all : bytes_taken s (part ++ is.more) ≡ length (spelling r) = ap (bytes_taken s) (is.all ∙ sym (append-nil (spelling r))) ∙ laws.taken limit r [] fits in
      let both = laws.joins s part is.more in
      let long : length part + length is.more ≡ length (spelling r) = sym (length-append part is.more) ∙ ap length is.all in
      let whole : n ≡ length part = omega (arith, all, both, long, few-taken s part, few-taken (after s part) is.more) in
      let more : 0 < bytes_taken (after s part) is.more = omega (arith, all, both, long, is.some, few-taken s part, few-taken (after s part) is.more) in
      let open_ : is_open (after s part) ≡ true = open-where_taken (after s part) is.more more in
      let not_whole : is_whole (after s part) ≡ false = open-not_whole (after s part).stage open_ in
      let none : drop n part ≡ [] = drop_of_length-le part (omega (arith, whole)) in
      let behind = forgets at (at + n) (after s part) in
      record {
        out_is = laws.pushed p part refl ∙ ap (λ (x : List Placed). x ++ records_in behind (drop n part)) (given-none at (after s part) not_whole) ∙ ap (records_in behind) none;
        sound = ap (λ (q : Position). is_faulty q.reading) (laws.pushed_hand p part refl ∙ ap (in_hand behind) none) ∙ kept (after s part) not_whole
            ∙ open-not_faulty (after s part).stage open_;
      }
    where
      given-none : (begins : ℕ) (s : Reading) → is_whole s ≡ false → given begins s ≡ []
      given-none begins s not = rw not refl

      kept : (s : Reading) → is_whole s ≡ false → is_faulty (forgets at (at + 0) s).reading ≡ is_faulty s
      kept s not = rw not refl

  nothing-reads : ReadsSound (before_record limit at) [] []
  unfolding records_in in_hand
  nothing-reads = record { out_is = refl; sound = refl }

  pub rest-reads : (behind : List Record) (part : List ℕ) → All (Fits limit) behind → IsPart spelling behind part → ReadsSound (before_record limit at) part []
  rest-reads [] part fits is = subst (λ (x : List ℕ). ReadsSound (before_record limit at) x []) (sym is) nothing-reads
  rest-reads (r ∷ behind) part fits is = part-reads r part (All-head (Fits limit) r behind fits) is
