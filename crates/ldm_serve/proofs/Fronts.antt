-- What is responded, by what is kept of a record.
use Rattle.std.proofs.Common.{◌≡◌, ℕ, ◌<◌, ◌≤◌, nat_le, List, [], length, take, take_all, take-take, Option, Result, Ok, Err, refl, sym, ap, ◌∙◌, arith, inl, inr}
use Rattle.std.specs.Prelude.{nat_lt}
use Rattle.std.proofs.lemmas.Bool.{cond-true, cond-false, le-leb, le-ltb, lt-leb, lt-ltb}
use Rattle.ldm_types.specs.Info.{Metadata}
use Rattle.ldm_relay.specs.Fronts.{front_of}
use Rattle.ldm_relay.specs.Reading.{call_of}
use Rattle.ldm_relay.specs.Sent.{Sent}
use Rattle.ldm_relay.specs.declared.fault.RelayFault.{RelayFault}
use Rattle.ldm_relay.specs.declared.fault.RelayFault.TheVariants.{BadMessage, NotRpc}
use Rattle.ldm_relay.specs.declared.front.CallFront.{CallFront}
use Rattle.ldm_relay.specs.declared.front.CallFront.TheVariants as front
use Rattle.ldm_relay.specs.declared.front.TheConstants.{LONGEST_CALL}
use Rattle.ldm_serve.specs.declared.keeping.TheConstants.{LONGEST_CARRIED}
use Rattle.ldm_relay.specs.declared.message.PutAnswer.{PutAnswer}
use Rattle.ldm_rpc.specs.declared.front_records.Front.{Front}
use Rattle.ldm_serve.specs.AskedView.{IsUnread, to_asked}
use Rattle.ldm_serve.specs.Client.{Client}
use Rattle.ldm_rpc.specs.Keeping.{IsFrontOf}
use Rattle.ldm_serve.specs.declared.reading.Asked.{Asked}
use Rattle.ldm_serve.specs.declared.reading.Asked.TheVariants as asked
use Rattle.ldm_serve.specs.Respond.{answered_by, front_answer, longest_put, respond, to_carried, to_cut, to_fault, to_large, to_long, to_reading, to_short, to_unread}
use Rattle.ldm_serve.specs.Response.{Refuses}

-- ---- what is read

-- a fault, and what was asked for it
fault_is : (call : Sent) (one : Asked) (fault : RelayFault) → IsUnread (Ok call) one → one ≡ asked.Unread fault → ⊥
fault_is call (asked.Unread other) fault is same = is
fault_is call (asked.Feedme m) fault is same = absurd (cc same)
fault_is call (asked.Notifyme m) fault is same = absurd (cc same)
fault_is call (asked.Hiya m) fault is same = absurd (cc same)
fault_is call (asked.Put m) fault is same = absurd (cc same)
fault_is call (asked.Qstat xid) fault is same = absurd (cc same)
fault_is call asked.Isalive fault is same = absurd (cc same)
fault_is call asked.OutOfPlace fault is same = absurd (cc same)

same_fault : (one : Asked) (fault other : RelayFault) → one ≡ asked.Unread fault → one ≡ asked.Unread other → fault ≡ other
same_fault one fault other is same = let both : asked.Unread fault ≡ asked.Unread other = sym is ∙ same in cc

pub cut_unread : (reading : Result Sent RelayFault) (one : Asked) (fault : RelayFault) → IsUnread reading one → one ≡ asked.Unread fault → to_cut reading ≡ to_fault fault
cut_unread (Ok call) one fault is same = absurd (fault_is call one fault is same)
cut_unread (Err other) one fault is same = ap to_fault (same_fault one other fault is same)

pub cut_read : (reading : Result Sent RelayFault) (one : Asked) → IsUnread reading one → ((fault : RelayFault) → one ≡ asked.Unread fault → ⊥) → to_cut reading ≡ Refuses []
cut_read (Ok call) one is not = refl
cut_read (Err fault) one is not = absurd (not fault is)

module _ (client : Client) where
  pub short_unread : (content : List ℕ) (reading : Result Sent RelayFault) (one : Asked) (fault : RelayFault) → IsUnread reading one → one ≡ asked.Unread fault
      → to_short client content reading ≡ to_unread client fault (front_of content)
  short_unread content (Ok call) one fault is same = absurd (fault_is call one fault is same)
  short_unread content (Err other) one fault is same = ap (λ (f : RelayFault). to_unread client f (front_of content)) (same_fault one other fault is same)

  pub short_read : (content : List ℕ) (reading : Result Sent RelayFault) (one : Asked) → IsUnread reading one → ((fault : RelayFault) → one ≡ asked.Unread fault → ⊥)
      → to_reading client.rules client.host reading ≡ to_asked client.rules client.host one → to_short client content reading ≡ to_asked client.rules client.host one
  short_read content (Ok call) one is not asks = asks
  short_read content (Err fault) one is not asks = absurd (not fault is)

  -- ---- what a record begins with

  pub unread_put : (fault : RelayFault) (begins : CallFront) (xid : ℕ) (info : Metadata) (answer : Option PutAnswer) → begins ≡ front.Put xid info
      → answer ≡ front_answer client info → to_unread client fault begins ≡ answered_by xid answer (to_fault fault)
  unread_put fault begins xid info answer is says = ap (to_unread client fault) is ∙ ap (λ (a : Option PutAnswer). answered_by xid a (to_fault fault)) (sym says)

  pub long_put : (content : List ℕ) (begins : CallFront) (xid : ℕ) (info : Metadata) (answer : Option PutAnswer) → begins ≡ front.Put xid info
      → answer ≡ front_answer client info → to_long client content begins ≡ answered_by xid answer (to_large client xid info content)
  long_put content begins xid info answer is says = ap (to_long client content) is ∙ ap (λ (a : Option PutAnswer). answered_by xid a (to_large client xid info content)) (sym says)

  pub is_short : (content : List ℕ) → length content ≤ LONGEST_CALL → respond client content ≡ to_short client content (call_of content)
  unfolding respond
  is_short content less =
      cond-true (nat_le (length content) LONGEST_CALL) (to_short client content (call_of content)) (to_long client content (front_of (take LONGEST_CALL content)))
      (le-leb (length content) LONGEST_CALL less)

  pub is_long : (content : List ℕ) → LONGEST_CALL < length content → respond client content ≡ to_long client content (front_of (take LONGEST_CALL content))
  unfolding respond
  is_long content more =
      cond-false (nat_le (length content) LONGEST_CALL) (to_short client content (call_of content)) (to_long client content (front_of (take LONGEST_CALL content)))
      (lt-leb (length content) LONGEST_CALL more)

  pub surplus : (xid : ℕ) (info : Metadata) (content : List ℕ) → longest_put info.size < length content → to_large client xid info content ≡ to_fault (BadMessage xid LONGEST_CALL)
  surplus xid info content more =
      cond-true (nat_lt (longest_put info.size) (length content)) (to_fault (BadMessage xid LONGEST_CALL)) (to_reading client.rules client.host (call_of content))
      (lt-ltb (longest_put info.size) (length content) more)

  pub no_surplus : (xid : ℕ) (info : Metadata) (content : List ℕ) → length content ≤ longest_put info.size
      → to_large client xid info content ≡ to_reading client.rules client.host (call_of content)
  no_surplus xid info content less =
      cond-false (nat_lt (longest_put info.size) (length content)) (to_fault (BadMessage xid LONGEST_CALL)) (to_reading client.rules client.host (call_of content))
      (le-ltb (longest_put info.size) (length content) less)

  pub very_long : (content : List ℕ) → LONGEST_CARRIED < length content → to_carried client content ≡ to_fault (NotRpc LONGEST_CARRIED)
  very_long content more =
      cond-true (nat_lt LONGEST_CARRIED (length content)) (to_fault (NotRpc LONGEST_CARRIED)) (to_reading client.rules client.host (call_of content))
      (lt-ltb LONGEST_CARRIED (length content) more)

  pub not_very_long : (content : List ℕ) → length content ≤ LONGEST_CARRIED → to_carried client content ≡ to_reading client.rules client.host (call_of content)
  not_very_long content less =
      cond-false (nat_lt LONGEST_CARRIED (length content)) (to_fault (NotRpc LONGEST_CARRIED)) (to_reading client.rules client.host (call_of content))
      (le-ltb LONGEST_CARRIED (length content) less)

-- ---- what is kept

module _ (held : Front) (content : List ℕ) (of : IsFrontOf held content) where
  -- as many bytes are kept as there are
  pub all_kept : length content ≤ length held.bytes.now → held.bytes.now ≡ content
  all_kept most = of.front ∙ take_all (length held.bytes.now) content most

  pub short_kept : length content ≤ LONGEST_CALL → held.bytes.now ≡ content
  short_kept less = elim of.enough [
    | inl all ↦ all
    | inr enough ↦ all_kept (omega (arith, less, enough))
  ]

  pub front_kept : take LONGEST_CALL held.bytes.now ≡ take LONGEST_CALL content
  front_kept = elim of.enough [
    | inl all ↦ ap (take LONGEST_CALL) all
    | inr enough ↦ ap (take LONGEST_CALL) of.front ∙ take-take LONGEST_CALL (length held.bytes.now) content enough
  ]
