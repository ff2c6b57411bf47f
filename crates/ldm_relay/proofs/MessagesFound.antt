-- Messages that are read under the header that a writer writes are spelled so.
use Rattle.std.proofs.Common.{◌≡◌, ℕ, ◌^◌, ◌<◌, true, eqb, List, [], ◌∷◌, ◌++◌, length, Option, Some, None, Result, Ok, Err, refl, sym, ap, subst, ◌∙◌, inl, inr, lit<}
use Rattle.std.specs.Int.{w32, w64}
use Rattle.std.proofs.lemmas.List.{append-nil}
use Rattle.ldm_types.specs.Info.{Metadata}
use Rattle.ldm_xdr.specs.Spelling.{spelling, unsigned, hyper, padded, opaque}
use Rattle.ldm_relay.specs.declared.fault.RelayFault.{RelayFault}
use Rattle.ldm_relay.specs.declared.fault.RelayFault.TheVariants.{BadMessage}
use Rattle.ldm_relay.specs.declared.message.Refusal.{Refusal}
use Rattle.ldm_relay.specs.declared.message.Refusal.TheVariants as refusal
use Rattle.ldm_relay.specs.declared.message.PutAnswer.{PutAnswer}
use Rattle.ldm_relay.specs.declared.message.PutAnswer.TheVariants as put_answer
use Rattle.ldm_relay.specs.declared.message.SoonAnswer.{SoonAnswer}
use Rattle.ldm_model.specs.declared.stat.Stat.{Stat}
use Rattle.ldm_relay.specs.declared.message.SoonAnswer.TheVariants as soon_answer
use Rattle.ldm_relay.specs.declared.message.TheConstants.{LARGEST_BLOCK}
use Rattle.ldm_relay.specs.declared.procedure.Answered.{Answered}
use Rattle.ldm_relay.specs.declared.procedure.Answered.TheVariants as with_reply
use Rattle.ldm_relay.specs.declared.procedure.Procedure.{Procedure}
use Rattle.ldm_relay.specs.declared.procedure.Procedure.TheVariants as procedure
use Rattle.ldm_relay.specs.Sent.{Sent}
use Rattle.ldm_relay.specs.Sent as sent
use Rattle.ldm_xdr.specs.Fields.{number_in, up_to_in, fixed_in, opaque_in, no_more}
use Rattle.ldm_relay.specs.Classes.{class_in, class_answer_in}
use Rattle.ldm_xdr.specs.Reading.{info_in}
use Rattle.ldm_relay.specs.Calls.{call_in, feedme_in, hiya_in, product_in, hereis_in, put_in, comingsoon_in, blkdata_in, notifyme_in, notification_in}
use Rattle.ldm_relay.specs.Replies.{result_in, accepted_in, feedme_reply_in, hiya_reply_in, comingsoon_reply_in, figures_in, told_in, stat_in, qstat_reply_in}
use Rattle.ldm_relay.specs.Replies.{admitted_in, too_big_in, duplicate_in, locked_in, coded_put_answer, put_answer_in, put_reply_in, notifyme_reply_in}
use Rattle.ldm_relay.specs.Refusals.{versions_in, coded_refusal, refusal_in, refused_in}
use Rattle.ldm_relay.specs.Reading.{whole, or_at, call_of, reply_of, refusal_of}
use Rattle.ldm_relay.specs.Procedure.{answered}
use Rattle.ldm_relay.specs.Spelling.{class_bytes, class_answer_bytes, soon_answer_bytes, figures_bytes, stat_bytes, put_answer_bytes, refusal_bytes, call_header, accepted_header, reply_header, written}
use Rattle.ldm_xdr.proofs.FieldsAgain.{exactly_again}
use Rattle.ldm_relay.proofs.Refusals.{accepted_header_is}
use Rattle.ldm_relay.proofs.MessagesAgain.{numbered_again, call_header_again, reply_header_again}
use Rattle.ldm_xdr.proofs.FieldsFound.{IsBytes, bind_ok, ok_is, Takes, both_taken, taken_as, unsigned_found, hyper_found, padded_found, opaque_found, signature_found}
use Rattle.ldm_xdr.proofs.Whole.{info_found}
use Rattle.ldm_relay.proofs.ClassesFound.{class_found, class_answer_found, chosen, err_is_no_ok, code_taken, code_with}

-- what was read stands there as its spelling says, under that header
record IsSaid (header bytes : List ℕ) (x : Sent × List ℕ) : Type 0 where
  body : List ℕ
  takes : Takes bytes body x.1
  spelled : written x.0 ≡ header ++ body

-- ---- calls

feedme_found : (xid : ℕ) (bytes : List ℕ) (x : Sent × List ℕ) → IsBytes bytes → feedme_in xid bytes ≡ Ok x → IsSaid (call_header xid procedure.Feedme) bytes x
unfolding feedme_in written
feedme_found xid bytes x fits e =
    let a = bind_ok (class_in bytes) _ x e in
    let b = bind_ok (number_in w32 a.0.1) _ x a.2 in
    let class = class_found bytes a.0 fits a.1 in
    let most = unsigned_found a.0.1 b.0 class.rest_fits b.1 in
    let made : Sent × List ℕ = (sent.Feedme xid a.0.0 b.0.0, b.0.1) in
    subst (IsSaid (call_header xid procedure.Feedme) bytes) (ok_is made x b.2)
    (record { body = class_bytes a.0.0 ++ unsigned b.0.0; takes = both_taken bytes (class_bytes a.0.0) a.0.1 (unsigned b.0.0) b.0.1 class most.0; spelled = refl })

hiya_found : (xid : ℕ) (bytes : List ℕ) (x : Sent × List ℕ) → IsBytes bytes → hiya_in xid bytes ≡ Ok x → IsSaid (call_header xid procedure.Hiya) bytes x
unfolding hiya_in written
hiya_found xid bytes x fits e =
    let a = bind_ok (class_in bytes) _ x e in
    let made : Sent × List ℕ = (sent.Hiya xid a.0.0, a.0.1) in
    subst (IsSaid (call_header xid procedure.Hiya) bytes) (ok_is made x a.2) (record { body = class_bytes a.0.0; takes = class_found bytes a.0 fits a.1; spelled = refl })

product_found : (bytes : List ℕ) (x : (Metadata × List ℕ) × List ℕ) → IsBytes bytes → product_in bytes ≡ Ok x → Takes bytes (spelling x.0.0 ++ padded x.0.1) x.1
unfolding product_in
product_found bytes x fits e =
    let a = bind_ok (info_in bytes) _ x e in
    let b = bind_ok (fixed_in a.0.0.size a.0.1) _ x a.2 in
    let info = (info_found bytes a.0 fits a.1).takes in
    let body = padded_found (length a.0.1) a.0.0.size a.0.1 b.0 info.rest_fits b.1 in
    let made : (Metadata × List ℕ) × List ℕ = ((a.0.0, b.0.0), b.0.1) in
    subst (λ (y : (Metadata × List ℕ) × List ℕ). Takes bytes (spelling y.0.0 ++ padded y.0.1) y.1) (ok_is made x b.2)
    (both_taken bytes (spelling a.0.0) a.0.1 (padded b.0.0) b.0.1 info body.0)

hereis_found : (xid : ℕ) (bytes : List ℕ) (x : Sent × List ℕ) → IsBytes bytes → hereis_in xid bytes ≡ Ok x → IsSaid (call_header xid procedure.Hereis) bytes x
unfolding hereis_in written
hereis_found xid bytes x fits e =
    let a = bind_ok (product_in bytes) _ x e in
    let made : Sent × List ℕ = (sent.Hereis xid a.0.0.0 a.0.0.1, a.0.1) in
    subst (IsSaid (call_header xid procedure.Hereis) bytes) (ok_is made x a.2)
    (record { body = spelling a.0.0.0 ++ padded a.0.0.1; takes = product_found bytes a.0 fits a.1; spelled = refl })

put_found : (xid : ℕ) (bytes : List ℕ) (x : Sent × List ℕ) → IsBytes bytes → put_in xid bytes ≡ Ok x → IsSaid (call_header xid procedure.Put) bytes x
unfolding put_in written
put_found xid bytes x fits e =
    let a = bind_ok (product_in bytes) _ x e in
    let made : Sent × List ℕ = (sent.Put xid a.0.0.0 a.0.0.1, a.0.1) in
    subst (IsSaid (call_header xid procedure.Put) bytes) (ok_is made x a.2)
    (record { body = spelling a.0.0.0 ++ padded a.0.0.1; takes = product_found bytes a.0 fits a.1; spelled = refl })

comingsoon_found : (xid : ℕ) (bytes : List ℕ) (x : Sent × List ℕ) → IsBytes bytes → comingsoon_in xid bytes ≡ Ok x → IsSaid (call_header xid procedure.Comingsoon) bytes x
unfolding comingsoon_in written
comingsoon_found xid bytes x fits e =
    let a = bind_ok (info_in bytes) _ x e in
    let b = bind_ok (number_in w32 a.0.1) _ x a.2 in
    let info = (info_found bytes a.0 fits a.1).takes in
    let size = unsigned_found a.0.1 b.0 info.rest_fits b.1 in
    let made : Sent × List ℕ = (sent.Comingsoon xid a.0.0 b.0.0, b.0.1) in
    subst (IsSaid (call_header xid procedure.Comingsoon) bytes) (ok_is made x b.2)
    (record { body = spelling a.0.0 ++ unsigned b.0.0; takes = both_taken bytes (spelling a.0.0) a.0.1 (unsigned b.0.0) b.0.1 info size.0; spelled = refl })

blkdata_found : (xid : ℕ) (bytes : List ℕ) (x : Sent × List ℕ) → IsBytes bytes → blkdata_in xid bytes ≡ Ok x → IsSaid (call_header xid procedure.Blkdata) bytes x
unfolding blkdata_in written
blkdata_found xid bytes x fits e =
    let a = bind_ok (fixed_in 16 bytes) _ x e in
    let b = bind_ok (number_in w32 a.0.1) _ x a.2 in
    let c = bind_ok (opaque_in LARGEST_BLOCK b.0.1) _ x b.2 in
    let signature = signature_found bytes a.0 fits a.1 in
    let number = unsigned_found a.0.1 b.0 signature.0.rest_fits b.1 in
    let block = opaque_found LARGEST_BLOCK b.0.1 c.0 number.0.rest_fits c.1 in
    let two = both_taken bytes a.0.0 a.0.1 (unsigned b.0.0) b.0.1 signature.0 number.0 in
    let made : Sent × List ℕ = (sent.Blkdata xid a.0.0 b.0.0 c.0.0, c.0.1) in
    subst (IsSaid (call_header xid procedure.Blkdata) bytes) (ok_is made x c.2) (record {
      body = a.0.0 ++ unsigned b.0.0 ++ opaque c.0.0;
      takes = both_taken bytes (a.0.0 ++ unsigned b.0.0) b.0.1 (opaque c.0.0) c.0.1 two block.0;
      spelled = refl;
    })

notifyme_found : (xid : ℕ) (bytes : List ℕ) (x : Sent × List ℕ) → IsBytes bytes → notifyme_in xid bytes ≡ Ok x → IsSaid (call_header xid procedure.Notifyme) bytes x
unfolding notifyme_in written
notifyme_found xid bytes x fits e =
    let a = bind_ok (class_in bytes) _ x e in
    let made : Sent × List ℕ = (sent.Notifyme xid a.0.0, a.0.1) in
    subst (IsSaid (call_header xid procedure.Notifyme) bytes) (ok_is made x a.2) (record { body = class_bytes a.0.0; takes = class_found bytes a.0 fits a.1; spelled = refl })

notification_found : (xid : ℕ) (bytes : List ℕ) (x : Sent × List ℕ) → IsBytes bytes → notification_in xid bytes ≡ Ok x → IsSaid (call_header xid procedure.Notification) bytes x
unfolding notification_in written
notification_found xid bytes x fits e =
    let a = bind_ok (info_in bytes) _ x e in
    let made : Sent × List ℕ = (sent.Notification xid a.0.0, a.0.1) in
    subst (IsSaid (call_header xid procedure.Notification) bytes) (ok_is made x a.2) (record { body = spelling a.0.0; takes = (info_found bytes a.0 fits a.1).takes; spelled = refl })

-- a call without a body
empty_found : (xid : ℕ) (p : Procedure) (bytes : List ℕ) (m : Sent) (x : Sent × List ℕ) → IsBytes bytes → written m ≡ call_header xid p → (m, bytes) ≡ x
    → IsSaid (call_header xid p) bytes x
empty_found xid p bytes m x fits spelled is =
    subst (IsSaid (call_header xid p) bytes) is
    (record { body = []; takes = record { parts = refl; rest_fits = fits }; spelled = spelled ∙ sym (append-nil (call_header xid p)) })

call_found : (p : Procedure) (xid : ℕ) (bytes : List ℕ) (x : Sent × List ℕ) → IsBytes bytes → call_in p xid bytes ≡ Ok x → IsSaid (call_header xid p) bytes x
unfolding written
call_found procedure.Hereis xid bytes x fits e = hereis_found xid bytes x fits e
call_found procedure.Feedme xid bytes x fits e = feedme_found xid bytes x fits e
call_found procedure.Hiya xid bytes x fits e = hiya_found xid bytes x fits e
call_found procedure.Comingsoon xid bytes x fits e = comingsoon_found xid bytes x fits e
call_found procedure.Blkdata xid bytes x fits e = blkdata_found xid bytes x fits e
call_found procedure.Isalive xid bytes x fits e = empty_found xid procedure.Isalive bytes (sent.Isalive xid) x fits refl (ok_is _ x e)
call_found procedure.Qstat xid bytes x fits e = empty_found xid procedure.Qstat bytes (sent.Qstat xid) x fits refl (ok_is _ x e)
call_found procedure.Put xid bytes x fits e = put_found xid bytes x fits e
call_found procedure.Notification xid bytes x fits e = notification_found xid bytes x fits e
call_found procedure.Notifyme xid bytes x fits e = notifyme_found xid bytes x fits e

-- ---- replies

feedme_reply_found : (xid : ℕ) (bytes : List ℕ) (x : Sent × List ℕ) → IsBytes bytes → feedme_reply_in xid bytes ≡ Ok x → IsSaid (reply_header xid) bytes x
unfolding feedme_reply_in written
feedme_reply_found xid bytes x fits e =
    let a = bind_ok (class_answer_in bytes) _ x e in
    let made : Sent × List ℕ = (sent.FeedmeReply xid a.0.0, a.0.1) in
    subst (IsSaid (reply_header xid) bytes) (ok_is made x a.2) (record { body = class_answer_bytes a.0.0; takes = class_answer_found bytes a.0 fits a.1; spelled = refl })

hiya_reply_found : (xid : ℕ) (bytes : List ℕ) (x : Sent × List ℕ) → IsBytes bytes → hiya_reply_in xid bytes ≡ Ok x → IsSaid (reply_header xid) bytes x
unfolding hiya_reply_in written
hiya_reply_found xid bytes x fits e =
    let a = bind_ok (number_in w32 bytes) _ x e in
    let b = bind_ok (class_answer_in a.0.1) _ x a.2 in
    let most = unsigned_found bytes a.0 fits a.1 in
    let answer = class_answer_found a.0.1 b.0 most.0.rest_fits b.1 in
    let made : Sent × List ℕ = (sent.HiyaReply xid a.0.0 b.0.0, b.0.1) in
    subst (IsSaid (reply_header xid) bytes) (ok_is made x b.2)
    (record { body = unsigned a.0.0 ++ class_answer_bytes b.0.0; takes = both_taken bytes (unsigned a.0.0) a.0.1 (class_answer_bytes b.0.0) b.0.1 most.0 answer; spelled = refl })

-- a code in front of what follows it
coded : (bytes : List ℕ) (code : ℕ × List ℕ) (text rest : List ℕ) → Takes bytes (unsigned code.0) code.1 → Takes (unsigned code.0 ++ code.1) text rest → Takes bytes text rest
coded bytes code text rest first found = record { parts = first.parts ∙ found.parts; rest_fits = found.rest_fits }

comingsoon_reply_found : (xid : ℕ) (bytes : List ℕ) (x : Sent × List ℕ) → IsBytes bytes → comingsoon_reply_in xid bytes ≡ Ok x → IsSaid (reply_header xid) bytes x
unfolding comingsoon_reply_in written
comingsoon_reply_found xid bytes x fits e =
    let a = bind_ok (number_in w32 bytes) _ x e in
    let code = unsigned_found bytes a.0 fits a.1 in
    let said : (answer : SoonAnswer) (n : ℕ) → soon_answer_bytes answer ≡ unsigned n → eqb a.0.0 n ≡ true → IsSaid (reply_header xid) bytes (sent.ComingsoonReply xid answer, a.0.1) =
    λ answer n spelled is. record {
      body = soon_answer_bytes answer;
      takes = taken_as bytes (unsigned n) (soon_answer_bytes answer) a.0.1 (sym spelled) (coded bytes a.0 (unsigned n) a.0.1 code.0 (code_taken a.0.0 n a.0.1 code.0.rest_fits is));
      spelled = refl;
    } in
    elim (chosen (eqb a.0.0 0) _ _ _ a.2) [
      | inl h ↦ subst (IsSaid (reply_header xid) bytes) (ok_is _ x h.1) (said soon_answer.Ok 0 refl h.0)
      | inr h ↦
          elim (chosen (eqb a.0.0 1) _ _ _ h.1) [
            | inl k ↦ subst (IsSaid (reply_header xid) bytes) (ok_is _ x k.1) (said soon_answer.DontSend 1 refl k.0)
            | inr k ↦ absurd (err_is_no_ok (length bytes) x k.1)
          ]
    ]

figures_found : (bytes : List ℕ) (x : Stat × List ℕ) → IsBytes bytes → figures_in bytes ≡ Ok x → Takes bytes (figures_bytes x.0) x.1
unfolding figures_in
figures_found bytes x fits e =
    let a = bind_ok (number_in w64 bytes) _ x e in
    let b = bind_ok (number_in w64 a.0.1) _ x a.2 in
    let c = bind_ok (number_in w64 b.0.1) _ x b.2 in
    let d = bind_ok (number_in w64 c.0.1) _ x c.2 in
    let f = bind_ok (number_in w64 d.0.1) _ x d.2 in
    let ta = (hyper_found bytes a.0 fits a.1).0 in
    let tb = (hyper_found a.0.1 b.0 ta.rest_fits b.1).0 in
    let tc = (hyper_found b.0.1 c.0 tb.rest_fits c.1).0 in
    let td = (hyper_found c.0.1 d.0 tc.rest_fits d.1).0 in
    let tf = (hyper_found d.0.1 f.0 td.rest_fits f.1).0 in
    let two = both_taken bytes (hyper a.0.0) a.0.1 (hyper b.0.0) b.0.1 ta tb in
    let three = both_taken bytes (hyper a.0.0 ++ hyper b.0.0) b.0.1 (hyper c.0.0) c.0.1 two tc in
    let four = both_taken bytes (hyper a.0.0 ++ hyper b.0.0 ++ hyper c.0.0) c.0.1 (hyper d.0.0) d.0.1 three td in
    let five = both_taken bytes (hyper a.0.0 ++ hyper b.0.0 ++ hyper c.0.0 ++ hyper d.0.0) d.0.1 (hyper f.0.0) f.0.1 four tf in
    let made : Stat × List ℕ = (record { admitted = a.0.0; queued = b.0.0; held = c.0.0; used = d.0.0; largest_free = f.0.0 }, f.0.1) in
    subst (λ (y : Stat × List ℕ). Takes bytes (figures_bytes y.0) y.1) (ok_is made x f.2) five

stat_found : (bytes : List ℕ) (x : Option Stat × List ℕ) → IsBytes bytes → stat_in bytes ≡ Ok x → Takes bytes (stat_bytes x.0) x.1
unfolding stat_in told_in
stat_found bytes x fits e =
    let a = bind_ok (number_in w32 bytes) _ x e in
    let code = unsigned_found bytes a.0 fits a.1 in
    elim (chosen (eqb a.0.0 0) _ _ _ a.2) [
      | inl h ↦
          let b = bind_ok (figures_in a.0.1) _ x h.1 in
          let made : Option Stat × List ℕ = (Some b.0.0, b.0.1) in
          subst (λ (y : Option Stat × List ℕ). Takes bytes (stat_bytes y.0) y.1) (ok_is made x b.2)
          (coded bytes a.0 _ b.0.1 code.0 (code_with a.0.0 0 a.0.1 (figures_bytes b.0.0) b.0.1 code.0.rest_fits h.0 (figures_found a.0.1 b.0 code.0.rest_fits b.1)))
      | inr h ↦
          elim (chosen (eqb a.0.0 2) _ _ _ h.1) [
            | inl k ↦
                let made : Option Stat × List ℕ = (None, a.0.1) in
                subst (λ (y : Option Stat × List ℕ). Takes bytes (stat_bytes y.0) y.1) (ok_is made x k.1)
                (coded bytes a.0 _ a.0.1 code.0 (code_taken a.0.0 2 a.0.1 code.0.rest_fits k.0))
            | inr k ↦ absurd (err_is_no_ok (length bytes) x k.1)
          ]
    ]

qstat_reply_found : (xid : ℕ) (bytes : List ℕ) (x : Sent × List ℕ) → IsBytes bytes → qstat_reply_in xid bytes ≡ Ok x → IsSaid (reply_header xid) bytes x
unfolding qstat_reply_in written
qstat_reply_found xid bytes x fits e =
    let a = bind_ok (stat_in bytes) _ x e in
    let made : Sent × List ℕ = (sent.QstatReply xid a.0.0, a.0.1) in
    subst (IsSaid (reply_header xid) bytes) (ok_is made x a.2) (record { body = stat_bytes a.0.0; takes = stat_found bytes a.0 fits a.1; spelled = refl })

-- what a put answer with numbers begins with
abbrev Coded : ℕ → List ℕ → PutAnswer × List ℕ → Type 0
Coded code left x = Takes (unsigned code ++ left) (put_answer_bytes x.0) x.1

admitted_found : (code : ℕ) (left : List ℕ) (x : PutAnswer × List ℕ) → IsBytes left → eqb code 0 ≡ true → admitted_in left ≡ Ok x → Coded code left x
unfolding admitted_in
admitted_found code left x fits is e =
    let a = bind_ok (number_in w64 left) _ x e in
    let b = bind_ok (number_in w64 a.0.1) _ x a.2 in
    let c = bind_ok (number_in w64 b.0.1) _ x b.2 in
    let ta = (hyper_found left a.0 fits a.1).0 in
    let tb = (hyper_found a.0.1 b.0 ta.rest_fits b.1).0 in
    let tc = (hyper_found b.0.1 c.0 tb.rest_fits c.1).0 in
    let one = code_with code 0 left (hyper a.0.0) a.0.1 fits is ta in
    let two = both_taken (unsigned code ++ left) (unsigned 0 ++ hyper a.0.0) a.0.1 (hyper b.0.0) b.0.1 one tb in
    let three = both_taken (unsigned code ++ left) (unsigned 0 ++ hyper a.0.0 ++ hyper b.0.0) b.0.1 (hyper c.0.0) c.0.1 two tc in
    let made : PutAnswer × List ℕ = (put_answer.Admitted a.0.0 b.0.0 c.0.0, c.0.1) in
    subst (Coded code left) (ok_is made x c.2) three

too_big_found : (code : ℕ) (left : List ℕ) (x : PutAnswer × List ℕ) → IsBytes left → eqb code 1 ≡ true → too_big_in left ≡ Ok x → Coded code left x
unfolding too_big_in
too_big_found code left x fits is e =
    let a = bind_ok (number_in w64 left) _ x e in
    let b = bind_ok (number_in w64 a.0.1) _ x a.2 in
    let ta = (hyper_found left a.0 fits a.1).0 in
    let tb = (hyper_found a.0.1 b.0 ta.rest_fits b.1).0 in
    let one = code_with code 1 left (hyper a.0.0) a.0.1 fits is ta in
    let made : PutAnswer × List ℕ = (put_answer.TooBig a.0.0 b.0.0, b.0.1) in
    subst (Coded code left) (ok_is made x b.2) (both_taken (unsigned code ++ left) (unsigned 1 ++ hyper a.0.0) a.0.1 (hyper b.0.0) b.0.1 one tb)

duplicate_found : (code : ℕ) (left : List ℕ) (x : PutAnswer × List ℕ) → IsBytes left → eqb code 2 ≡ true → duplicate_in left ≡ Ok x → Coded code left x
unfolding duplicate_in
duplicate_found code left x fits is e =
    let a = bind_ok (number_in w64 left) _ x e in
    let made : PutAnswer × List ℕ = (put_answer.Duplicate a.0.0, a.0.1) in
    subst (Coded code left) (ok_is made x a.2) (code_with code 2 left (hyper a.0.0) a.0.1 fits is (hyper_found left a.0 fits a.1).0)

locked_found : (code : ℕ) (left : List ℕ) (x : PutAnswer × List ℕ) → IsBytes left → eqb code 4 ≡ true → locked_in left ≡ Ok x → Coded code left x
unfolding locked_in
locked_found code left x fits is e =
    let a = bind_ok (number_in w64 left) _ x e in
    let made : PutAnswer × List ℕ = (put_answer.Locked a.0.0, a.0.1) in
    subst (Coded code left) (ok_is made x a.2) (code_with code 4 left (hyper a.0.0) a.0.1 fits is (hyper_found left a.0 fits a.1).0)

bare_put : (code n : ℕ) (left : List ℕ) (answer : PutAnswer) (x : PutAnswer × List ℕ) → IsBytes left → eqb code n ≡ true → put_answer_bytes answer ≡ unsigned n
    → (answer, left) ≡ x → Coded code left x
bare_put code n left answer x fits is spelled e =
    subst (Coded code left) e (taken_as (unsigned code ++ left) (unsigned n) (put_answer_bytes answer) left (sym spelled) (code_taken code n left fits is))

coded_put_found : (field code : ℕ) (left : List ℕ) (x : PutAnswer × List ℕ) → IsBytes left → coded_put_answer field code left ≡ Ok x → Coded code left x
coded_put_found field code left x fits e =
    elim (chosen (eqb code 0) _ _ _ e) [
      | inl h ↦ admitted_found code left x fits h.0 h.1
      | inr h ↦
          elim (chosen (eqb code 1) _ _ _ h.1) [
            | inl k ↦ too_big_found code left x fits k.0 k.1
            | inr k ↦
                elim (chosen (eqb code 2) _ _ _ k.1) [
                  | inl l ↦ duplicate_found code left x fits l.0 l.1
                  | inr l ↦
                      elim (chosen (eqb code 3) _ _ _ l.1) [
                        | inl m ↦ bare_put code 3 left put_answer.TimeEnd x fits m.0 refl (ok_is _ x m.1)
                        | inr m ↦
                            elim (chosen (eqb code 4) _ _ _ m.1) [
                              | inl n ↦ locked_found code left x fits n.0 n.1
                              | inr n ↦
                                  elim (chosen (eqb code 5) _ _ _ n.1) [
                                    | inl o ↦ bare_put code 5 left put_answer.Denied x fits o.0 refl (ok_is _ x o.1)
                                    | inr o ↦ absurd (err_is_no_ok field x o.1)
                                  ]
                            ]
                      ]
                ]
          ]
    ]

put_reply_found : (xid : ℕ) (bytes : List ℕ) (x : Sent × List ℕ) → IsBytes bytes → put_reply_in xid bytes ≡ Ok x → IsSaid (reply_header xid) bytes x
unfolding put_reply_in put_answer_in written
put_reply_found xid bytes x fits e =
    let a = bind_ok (put_answer_in bytes) _ x e in
    let b = bind_ok (number_in w32 bytes) _ a.0 a.1 in
    let code = unsigned_found bytes b.0 fits b.1 in
    let answer = coded_put_found (length bytes) b.0.0 b.0.1 a.0 code.0.rest_fits b.2 in
    let made : Sent × List ℕ = (sent.PutReply xid a.0.0, a.0.1) in
    subst (IsSaid (reply_header xid) bytes) (ok_is made x a.2)
    (record { body = put_answer_bytes a.0.0; takes = coded bytes b.0 (put_answer_bytes a.0.0) a.0.1 code.0 answer; spelled = refl })

notifyme_reply_found : (xid : ℕ) (bytes : List ℕ) (x : Sent × List ℕ) → IsBytes bytes → notifyme_reply_in xid bytes ≡ Ok x → IsSaid (reply_header xid) bytes x
unfolding notifyme_reply_in written
notifyme_reply_found xid bytes x fits e =
    let a = bind_ok (class_answer_in bytes) _ x e in
    let made : Sent × List ℕ = (sent.NotifymeReply xid a.0.0, a.0.1) in
    subst (IsSaid (reply_header xid) bytes) (ok_is made x a.2) (record { body = class_answer_bytes a.0.0; takes = class_answer_found bytes a.0 fits a.1; spelled = refl })

result_found : (p : Answered) (xid : ℕ) (bytes : List ℕ) (x : Sent × List ℕ) → IsBytes bytes → result_in p xid bytes ≡ Ok x → IsSaid (reply_header xid) bytes x
result_found with_reply.Feedme xid bytes x fits e = feedme_reply_found xid bytes x fits e
result_found with_reply.Hiya xid bytes x fits e = hiya_reply_found xid bytes x fits e
result_found with_reply.Comingsoon xid bytes x fits e = comingsoon_reply_found xid bytes x fits e
result_found with_reply.Qstat xid bytes x fits e = qstat_reply_found xid bytes x fits e
result_found with_reply.Put xid bytes x fits e = put_reply_found xid bytes x fits e
result_found with_reply.Notifyme xid bytes x fits e = notifyme_reply_found xid bytes x fits e

-- ---- refusals

-- what stands from an accept status on
abbrev CodedRefusal : ℕ → List ℕ → Refusal × List ℕ → Type 0
CodedRefusal status left x = Takes (unsigned status ++ left) (refusal_bytes x.0) x.1

versions_found : (status : ℕ) (left : List ℕ) (x : Refusal × List ℕ) → IsBytes left → eqb status 2 ≡ true → versions_in left ≡ Ok x → CodedRefusal status left x
unfolding versions_in
versions_found status left x fits is e =
    let a = bind_ok (number_in w32 left) _ x e in
    let b = bind_ok (number_in w32 a.0.1) _ x a.2 in
    let ta = (unsigned_found left a.0 fits a.1).0 in
    let tb = (unsigned_found a.0.1 b.0 ta.rest_fits b.1).0 in
    let one = code_with status 2 left (unsigned a.0.0) a.0.1 fits is ta in
    let made : Refusal × List ℕ = (refusal.ProgramMismatch a.0.0 b.0.0, b.0.1) in
    subst (CodedRefusal status left) (ok_is made x b.2) (both_taken (unsigned status ++ left) (unsigned 2 ++ unsigned a.0.0) a.0.1 (unsigned b.0.0) b.0.1 one tb)

bare_refusal : (status n : ℕ) (left : List ℕ) (why : Refusal) (x : Refusal × List ℕ) → IsBytes left → eqb status n ≡ true → refusal_bytes why ≡ unsigned n
    → (why, left) ≡ x → CodedRefusal status left x
bare_refusal status n left why x fits is spelled e =
    subst (CodedRefusal status left) e (taken_as (unsigned status ++ left) (unsigned n) (refusal_bytes why) left (sym spelled) (code_taken status n left fits is))

coded_refusal_found : (field status : ℕ) (left : List ℕ) (x : Refusal × List ℕ) → IsBytes left → coded_refusal field status left ≡ Ok x → CodedRefusal status left x
coded_refusal_found field status left x fits e =
    elim (chosen (eqb status 1) _ _ _ e) [
      | inl h ↦ bare_refusal status 1 left refusal.ProgramUnavailable x fits h.0 refl (ok_is _ x h.1)
      | inr h ↦
          elim (chosen (eqb status 2) _ _ _ h.1) [
            | inl k ↦ versions_found status left x fits k.0 k.1
            | inr k ↦
                elim (chosen (eqb status 3) _ _ _ k.1) [
                  | inl l ↦ bare_refusal status 3 left refusal.ProcedureUnavailable x fits l.0 refl (ok_is _ x l.1)
                  | inr l ↦
                      elim (chosen (eqb status 4) _ _ _ l.1) [
                        | inl m ↦ bare_refusal status 4 left refusal.GarbageArguments x fits m.0 refl (ok_is _ x m.1)
                        | inr m ↦
                            elim (chosen (eqb status 5) _ _ _ m.1) [
                              | inl n ↦ bare_refusal status 5 left refusal.SystemError x fits n.0 refl (ok_is _ x n.1)
                              | inr n ↦ absurd (err_is_no_ok field x n.1)
                            ]
                      ]
                ]
          ]
    ]

refused_found : (xid : ℕ) (bytes : List ℕ) (x : Sent × List ℕ) → IsBytes bytes → refused_in xid bytes ≡ Ok x → IsSaid (accepted_header xid) bytes x
unfolding refused_in refusal_in written
refused_found xid bytes x fits e =
    let a = bind_ok (refusal_in bytes) _ x e in
    let b = bind_ok (number_in w32 bytes) _ a.0 a.1 in
    let status = unsigned_found bytes b.0 fits b.1 in
    let why = coded_refusal_found (length bytes) b.0.0 b.0.1 a.0 status.0.rest_fits b.2 in
    let made : Sent × List ℕ = (sent.Refused xid a.0.0, a.0.1) in
    subst (IsSaid (accepted_header xid) bytes) (ok_is made x a.2)
    (record { body = refusal_bytes a.0.0; takes = coded bytes b.0 (refusal_bytes a.0.0) a.0.1 status.0 why; spelled = refl })

-- ---- the whole content

pub or_at_ok : {A : Type 0} (fault : ℕ → RelayFault) (bytes : List ℕ) (r : Result A ℕ) (y : A) → or_at fault bytes r ≡ Ok y → r ≡ Ok y
or_at_ok fault bytes (Ok x) y e = cc
or_at_ok fault bytes (Err left) y e = absurd cc

no_more_ok : (rest : List ℕ) (u : Unit {0}) → no_more rest ≡ Ok u → rest ≡ []
no_more_ok [] u e = refl
no_more_ok (byte ∷ rest) u e = absurd cc

all_found : (header bytes : List ℕ) (reading : Result (Sent × List ℕ) ℕ) (m : Sent) → ((x : Sent × List ℕ) → reading ≡ Ok x → IsSaid header bytes x)
    → whole reading ≡ Ok m → written m ≡ header ++ bytes
unfolding whole
all_found header bytes reading m said e =
    let a = bind_ok reading _ m e in
    let b = bind_ok (no_more a.0.1) _ m a.2 in
    let s = said a.0 a.1 in
    let nothing : a.0.1 ≡ [] = no_more_ok a.0.1 b.0 b.1 in
    let body : bytes ≡ s.body = s.takes.parts ∙ ap (λ (r : List ℕ). s.body ++ r) nothing ∙ append-nil s.body in
    ap written (sym (ok_is a.0.0 m b.2)) ∙ s.spelled ∙ ap (λ (b : List ℕ). header ++ b) (sym body)

pub call_spelled : (xid : ℕ) (p : Procedure) (body : List ℕ) (m : Sent) → xid < 2 ^ 32 → IsBytes body → call_of (call_header xid p ++ body) ≡ Ok m
    → written m ≡ call_header xid p ++ body
unfolding call_of
call_spelled xid p body m lt fits e =
    let under = rw (call_header_again xid p body lt, numbered_again p) at e in
    all_found (call_header xid p) body (call_in p xid body) m (λ x is. call_found p xid body x fits is) (or_at_ok (λ (at : ℕ). BadMessage xid at) (call_header xid p ++ body) (whole (call_in p xid body)) m under)

answered_spelled : (xid : ℕ) (number : ℕ) (p : Option Answered) (body : List ℕ) (m : Sent) → xid < 2 ^ 32 → IsBytes body → answered number ≡ p
    → reply_of number (reply_header xid ++ body) ≡ Ok m → written m ≡ reply_header xid ++ body
unfolding reply_of accepted_in
answered_spelled xid number (Some p) body m lt fits is e =
    let under = rw (reply_header_again xid body lt, is, exactly_again 0 body (lit< tt)) at e in
    all_found (reply_header xid) body (result_in p xid body) m (λ x found. result_found p xid body x fits found)
    (or_at_ok (λ (at : ℕ). BadMessage xid at) (reply_header xid ++ body) (whole (result_in p xid body)) m under)
answered_spelled xid number None body m lt fits is e =
    let under = rw (reply_header_again xid body lt, is) at e in
    absurd cc

pub reply_spelled : (xid number : ℕ) (body : List ℕ) (m : Sent) → xid < 2 ^ 32 → IsBytes body → reply_of number (reply_header xid ++ body) ≡ Ok m
    → written m ≡ reply_header xid ++ body
reply_spelled xid number body m lt fits e = answered_spelled xid number (answered number) body m lt fits refl e

status_spelled : (xid : ℕ) (body : List ℕ) (status : Result (ℕ × List ℕ) ℕ) (m : Sent) → xid < 2 ^ 32 → IsBytes body → up_to_in 5 body ≡ status
    → refusal_of (accepted_header xid ++ body) ≡ Ok m → written m ≡ accepted_header xid ++ body
unfolding refusal_of
status_spelled xid body (Ok status) m lt fits is e =
    let under = rw (accepted_header_is xid body lt, is) at e in
    all_found (accepted_header xid) body (refused_in xid body) m (λ x found. refused_found xid body x fits found)
    (or_at_ok (λ (at : ℕ). BadMessage xid at) (accepted_header xid ++ body) (whole (refused_in xid body)) m under)
status_spelled xid body (Err left) m lt fits is e =
    let under = rw (accepted_header_is xid body lt, is) at e in
    absurd cc

pub refusal_spelled : (xid : ℕ) (body : List ℕ) (m : Sent) → xid < 2 ^ 32 → IsBytes body → refusal_of (accepted_header xid ++ body) ≡ Ok m
    → written m ≡ accepted_header xid ++ body
refusal_spelled xid body m lt fits e = status_spelled xid body (up_to_in 5 body) m lt fits refl e
