-- Connections that meet the premises of the law that none gives up.
use Rattle.std.proofs.Common.{◌≡◌, ◌∙◌, ℕ, ◌+◌, ◌<◌, ◌≤◌, Bool, true, false, List, [], ◌∷◌, ◌++◌, length, Option, Some, None, Ok, refl, ap, sym, subst, arith, inl, inr, append-nil}
use Rattle.std.specs.Prelude.{All, map, if◌then◌else◌}
use Rattle.std.specs.List.{flat_map, AllByRecursion}
use Rattle.std.proofs.lemmas.List.Elements.{All-nil, All-cons, recursion_from_All}
use Rattle.ldm_outside.specs.Count.{Rose}
use Rattle.ldm_outside.specs.Link.{LinkRecord}
use Rattle.ldm_rpc.specs.Reading.{is_pending}
use Rattle.ldm_rpc.specs.Spelling.{Record, Fits as RecordFits, IsShort, spelling}
use Rattle.ldm_rpc.specs.Streams.{Placed, Position, before_record, in_hand, placed, records_in}
use Rattle.ldm_relay.specs.declared.front.TheConstants.{LONGEST_CALL}
use Rattle.ldm_relay.specs.declared.message.TheConstants.{LARGEST_RECORD}
use Rattle.ldm_relay.specs.Fits.{Fits}
use Rattle.ldm_relay.specs.Reading.{Kind, Call, call_of, kind_of, read_as}
use Rattle.ldm_relay.specs.Sent.{Sent}
use Rattle.ldm_relay.specs.Spelling.{in_one, written, records_of}
use Rattle.ldm_session.specs.declared.limits.TheConstants.{LONGEST_STREAM}
use Rattle.ldm_serve.specs.declared.end.ServeEnd.TheVariants as end
use Rattle.ldm_serve.specs.Client.{Client}
use Rattle.ldm_serve.specs.Complete.{IsCall, IsLawful, IsLawfulBy, IsTaken, Meets, is_outlived_by, last_response}
use Rattle.ldm_serve.specs.Connection.{ServingMoment}
use Rattle.ldm_serve.specs.Respond.{respond, to_call, to_short}
use Rattle.ldm_serve.specs.Response.{Response}
use Rattle.ldm_serve.specs.ServingView.{beginning}
use Rattle.ldm_serve.proofs.Coming.{begins-reads, ended-served, linked}
use Rattle.ldm_serve.proofs.Fronts.{is_short}

-- ---- calls as they are spelled

abbrev one_record : Sent → Record
one_record m = in_one (written m)

calls-bytes : (calls : List Sent) → records_of calls ≡ flat_map spelling (map one_record calls)
calls-bytes [] = refl
calls-bytes (m ∷ calls) = ap (λ (x : List ℕ). spelling (one_record m) ++ x) (calls-bytes calls)

calls-fit : (client : Client) (calls : List Sent) → AllByRecursion (IsCall client) calls → All (RecordFits LARGEST_RECORD) (map one_record calls)
calls-fit client [] are = All-nil (RecordFits LARGEST_RECORD)
calls-fit client (call ∷ calls) are =
    let len = are.0.short in
    All-cons (RecordFits LARGEST_RECORD) (one_record call) (map one_record calls)
    (record { before = All-nil IsShort; last = omega (arith, len); within = omega (arith, len) }) (calls-fit client calls are.1)

-- what decides is a record that is not refused, or none is begun
lawful-first : (client : Client) (response : Response) (others : List Placed) (p : Position) (outlived : Bool) → is_outlived_by client response ≡ outlived
    → IsTaken response → IsLawfulBy (last_response client others) p
    → IsLawfulBy (if is_outlived_by client response then last_response client others else Some response) p
lawful-first client response others p true is taken lawful =
    subst (λ (b : Bool). IsLawfulBy (if b then last_response client others else Some response) p) (sym is) lawful
lawful-first client response others p false is taken lawful =
    subst (λ (b : Bool). IsLawfulBy (if b then last_response client others else Some response) p) (sym is) taken

module _ (client : Client) (again : (m : Sent) → Fits m → read_as (kind_of m) (written m) ≡ Ok m) where
  response-is : (call : Sent) → IsCall client call → respond client (written call) ≡ to_call client.rules client.host call
  response-is call is =
      let read : call_of (written call) ≡ Ok call = subst (λ (kind : Kind). read_as kind (written call) ≡ Ok call) is.is_call (again call is.fits) in
      is_short client (written call) is.short ∙ ap (to_short client (written call)) read

  calls-lawful : (calls : List Sent) (at : ℕ) (p : Position) → AllByRecursion (IsCall client) calls → is_pending p.reading ≡ false
      → IsLawfulBy (last_response client (placed at (map one_record calls))) p
  unfolding placed
  calls-lawful [] at p are none = none
  calls-lawful (call ∷ calls) at p are none =
      let response = respond client (written call) in
      lawful-first client response (placed (at + length (spelling (one_record call))) (map one_record calls)) p (is_outlived_by client response) refl
      (subst (λ (r : Response). IsTaken r) (sym (response-is call are.0)) are.0.taken)
      (calls-lawful calls (at + length (spelling (one_record call))) p are.1 none)

  module _ (read : (limit at : ℕ) (records : List Record) (rest : List ℕ) → All (RecordFits limit) records
      → records_in (before_record limit at) (flat_map spelling records ++ rest)
      ≡ placed at records ++ records_in (before_record limit (at + length (flat_map spelling records))) rest)
      (hand : (limit at : ℕ) (records : List Record) (rest : List ℕ) → All (RecordFits limit) records
      → in_hand (before_record limit at) (flat_map spelling records ++ rest) ≡ in_hand (before_record limit (at + length (flat_map spelling records))) rest) where
    pub spelled : (calls : List Sent) → All (IsCall client) calls → length (records_of calls) < LONGEST_STREAM → IsLawful client (records_of calls)
    unfolding records_in in_hand
    spelled calls all few =
        let are = recursion_from_All (IsCall client) calls all in
        let records = map one_record calls in
        let fit = calls-fit client calls are in
        let bytes : records_of calls ≡ flat_map spelling records ++ [] = calls-bytes calls ∙ sym (append-nil (flat_map spelling records)) in
        let out : records_in beginning (records_of calls) ≡ placed 0 records =
        ap (records_in beginning) bytes ∙ read LARGEST_RECORD 0 records [] fit ∙ append-nil (placed 0 records) in
        let behind : in_hand beginning (records_of calls) ≡ before_record LARGEST_RECORD (0 + length (flat_map spelling records)) =
        ap (in_hand beginning) bytes ∙ hand LARGEST_RECORD 0 records [] fit in
        let none : is_pending (in_hand beginning (records_of calls)).reading ≡ false = ap (λ (q : Position). is_pending q.reading) behind in
        record {
          few = few;
          by = subst (λ (placed : List Placed). IsLawfulBy (last_response client placed) (in_hand beginning (records_of calls))) (sym out)
              (calls-lawful calls 0 (in_hand beginning (records_of calls)) are none);
        }

-- ---- a connection whose peer sends nothing

abbrev at_first : Client → ServingMoment
at_first client = record {
  pass = record { queue = None; arena = client.arena; slots = 0; passes = 0; actor = client.actor; seen = [] };
  outside = record {
    link = record { passed = Some []; left = Some []; ends = 0; faults = 0; closed = false };
    log = record { written = Some []; faults = 0 };
    clock = record { answers = Some [] };
    gate = record { stops = 0; idles = None; calls = None };
  };
}

abbrev ended_link : LinkRecord
ended_link = record { passed = Some []; left = Some []; ends = 1; faults = 0; closed = false }

not-risen : Rose 0 0 → ⊥
not-risen (inl less) = omega (arith, less)
not-risen (inr last) = let at = last.0 in omega (arith, at)

pub met : (client : Client) → Meets end.Ended client []
unfolding records_in in_hand
met client =
    let old = at_first client in
    let here = begins-reads client old refl in
    let served = ended-served client old beginning old here [] ended_link (omega arith) (omega arith) (inl (omega arith), refl, refl) refl in
    record {
      old = old;
      new = linked old ended_link;
      serves = served.serves;
      had = refl;
      lawful = record { few = omega arith; by = refl };
      none = record { link = not-risen; log = not-risen; few = omega arith };
    }
