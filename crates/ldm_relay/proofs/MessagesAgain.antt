-- Messages that were written are read again.
use Rattle.std.proofs.Common.{◌≡◌, ℕ, ◌^◌, ◌<◌, ◌≤◌, List, [], ◌++◌, length, Option, Some, None, Ok, refl, sym, ap, ◌∙◌, append_assoc, lit<, lit≤}
use Rattle.std.proofs.lemmas.List.{append-nil}
use Rattle.ldm_types.specs.Info.{Metadata}
use Rattle.ldm_xdr.specs.Spelling.{Fits as InfoFits, spelling, unsigned, hyper, padded, opaque}
use Rattle.ldm_relay.specs.declared.header.CallHeader.{CallHeader}
use Rattle.ldm_types.specs.declared.class.ClassSpec.{ClassSpec}
use Rattle.ldm_relay.specs.declared.message.ClassAnswer.{ClassAnswer}
use Rattle.ldm_relay.specs.declared.message.PutAnswer.{PutAnswer}
use Rattle.ldm_relay.specs.declared.message.PutAnswer.TheVariants as put_answer
use Rattle.ldm_relay.specs.declared.message.SoonAnswer.{SoonAnswer}
use Rattle.ldm_model.specs.declared.stat.Stat.{Stat}
use Rattle.ldm_relay.specs.declared.message.SoonAnswer.TheVariants as soon_answer
use Rattle.ldm_relay.specs.declared.message.TheConstants.{LARGEST_BLOCK}
use Rattle.ldm_relay.specs.declared.procedure.Answered.{Answered}
use Rattle.ldm_relay.specs.declared.procedure.Answered.TheVariants as with_reply
use Rattle.ldm_relay.specs.declared.procedure.Procedure.{Procedure}
use Rattle.ldm_relay.specs.declared.procedure.Procedure.TheVariants as procedure
use Rattle.ldm_relay.specs.declared.procedure.TheConstants.{PROGRAM, VERSION}
use Rattle.ldm_relay.specs.Procedure.{number_of, numbered, procedure_of, answered}
use Rattle.ldm_relay.specs.Sent.{Sent}
use Rattle.ldm_relay.specs.Sent as sent
use Rattle.ldm_relay.specs.Headers.{call_header_in, reply_header_in}
use Rattle.ldm_relay.specs.Calls.{call_in, feedme_in, hiya_in, product_in, hereis_in, put_in, comingsoon_in, blkdata_in, notifyme_in, notification_in}
use Rattle.ldm_relay.specs.Replies.{result_in, accepted_in, feedme_reply_in, hiya_reply_in, comingsoon_reply_in, figures_in, told_in, stat_in, qstat_reply_in}
use Rattle.ldm_relay.specs.Replies.{admitted_in, too_big_in, duplicate_in, locked_in, put_answer_in, put_reply_in, notifyme_reply_in}
use Rattle.ldm_relay.specs.Reading.{whole, call_of, reply_of, kind_of, read_as}
use Rattle.ldm_relay.specs.Fits.{Is32, ClassFits, ClassAnswerFits, StatFits, PutAnswerFits, Fits}
use Rattle.ldm_relay.specs.Spelling.{class_bytes, class_answer_bytes, soon_answer_bytes, figures_bytes, stat_bytes, put_answer_bytes, no_authentication, call_header, accepted_header, reply_header, written}
use Rattle.ldm_xdr.proofs.FieldsAgain.{unsigned_again, hyper_again, up_to_again, exactly_again, padded_again, opaque_again, signature_again}
use Rattle.ldm_xdr.proofs.Whole.{info_again}
use Rattle.ldm_relay.proofs.Authentication.{authentication_again}
use Rattle.ldm_relay.proofs.ClassesAgain.{class_again, class_answer_again}
use Rattle.ldm_relay.proofs.Refusals.{accepted_header_is, refusal_read}

-- ---- headers

pub number_small : (p : Procedure) → number_of p < 2 ^ 32
number_small procedure.Hereis = lit< tt
number_small procedure.Feedme = lit< tt
number_small procedure.Hiya = lit< tt
number_small procedure.Comingsoon = lit< tt
number_small procedure.Blkdata = lit< tt
number_small procedure.Isalive = lit< tt
number_small procedure.Qstat = lit< tt
number_small procedure.Put = lit< tt
number_small procedure.Notification = lit< tt
number_small procedure.Notifyme = lit< tt

pub numbered_again : (p : Procedure) → numbered (number_of p) ≡ Some p
unfolding numbered
numbered_again procedure.Hereis = refl
numbered_again procedure.Feedme = refl
numbered_again procedure.Hiya = refl
numbered_again procedure.Comingsoon = refl
numbered_again procedure.Blkdata = refl
numbered_again procedure.Isalive = refl
numbered_again procedure.Qstat = refl
numbered_again procedure.Put = refl
numbered_again procedure.Notification = refl
numbered_again procedure.Notifyme = refl

pub answered_again : (a : Answered) → answered (number_of (procedure_of a)) ≡ Some a
unfolding answered
answered_again with_reply.Feedme = refl
answered_again with_reply.Hiya = refl
answered_again with_reply.Comingsoon = refl
answered_again with_reply.Qstat = refl
answered_again with_reply.Put = refl
answered_again with_reply.Notifyme = refl

abbrev pub header_of : ℕ → Procedure → CallHeader
header_of xid p = record { xid = xid; program = PROGRAM; version = VERSION; procedure = number_of p }

pub call_header_again : (xid : ℕ) (p : Procedure) (rest : List ℕ) → Is32 xid → call_header_in (call_header xid p ++ rest) ≡ Ok (header_of xid p, rest)
unfolding call_header_in call_header
call_header_again xid p rest lt =
    let none = no_authentication in
    let r6 : List ℕ = none ++ (none ++ rest) in
    let r5 : List ℕ = unsigned (number_of p) ++ r6 in
    let r4 : List ℕ = unsigned VERSION ++ r5 in
    let r3 : List ℕ = unsigned PROGRAM ++ r4 in
    let r2 : List ℕ = unsigned 2 ++ r3 in
    let r1 : List ℕ = unsigned 0 ++ r2 in
    let regrouped : call_header xid p ++ rest ≡ unsigned xid ++ r1 = simp append_assoc in
    ap call_header_in regrouped
    ∙ rw (
      unsigned_again xid r1 lt,
      exactly_again 0 r2 (lit< tt),
      exactly_again 2 r3 (lit< tt),
      unsigned_again PROGRAM r4 (lit< tt),
      unsigned_again VERSION r5 (lit< tt),
      unsigned_again (number_of p) r6 (number_small p),
      authentication_again (none ++ rest),
      authentication_again rest,
    ) refl

pub reply_header_again : (xid : ℕ) (rest : List ℕ) → Is32 xid → reply_header_in (reply_header xid ++ rest) ≡ Ok (xid, unsigned 0 ++ rest)
unfolding reply_header
reply_header_again xid rest lt =
    ap reply_header_in (append_assoc (accepted_header xid) (unsigned 0) rest)
    ∙ accepted_header_is xid (unsigned 0 ++ rest) lt
    ∙ rw (up_to_again 5 0 rest (lit< tt) (lit≤ tt)) refl

call_read : (xid : ℕ) (p : Procedure) (body : List ℕ) (m : Sent) → Is32 xid → call_in p xid (body ++ []) ≡ Ok (m, []) → call_of (call_header xid p ++ body) ≡ Ok m
unfolding call_of whole
call_read xid p body m lt read =
    ap (λ (b : List ℕ). call_of (call_header xid p ++ b)) (sym (append-nil body))
    ∙ rw (call_header_again xid p (body ++ []) lt, numbered_again p, read) refl

reply_read : (xid : ℕ) (a : Answered) (body : List ℕ) (m : Sent) → Is32 xid → result_in a xid (body ++ []) ≡ Ok (m, []) → reply_of (number_of (procedure_of a)) (reply_header xid ++ body) ≡ Ok m
unfolding reply_of whole accepted_in
reply_read xid a body m lt read =
    ap (λ (b : List ℕ). reply_of (number_of (procedure_of a)) (reply_header xid ++ b)) (sym (append-nil body))
    ∙ rw (reply_header_again xid (body ++ []) lt, answered_again a, exactly_again 0 (body ++ []) (lit< tt), read) refl

-- ---- bodies

product_again : (info : Metadata) (body rest : List ℕ) → InfoFits info → length body ≡ info.size → product_in ((spelling info ++ padded body) ++ rest) ≡ Ok ((info, body), rest)
unfolding product_in
product_again info body rest fits size =
    ap product_in (append_assoc (spelling info) (padded body) rest)
    ∙ rw (info_again info (padded body ++ rest) fits, padded_again (length (padded body ++ rest)) info.size body rest size) refl

comingsoon_again : (xid : ℕ) (info : Metadata) (block_size : ℕ) (rest : List ℕ) → InfoFits info → Is32 block_size
    → comingsoon_in xid ((spelling info ++ unsigned block_size) ++ rest) ≡ Ok (sent.Comingsoon xid info block_size, rest)
unfolding comingsoon_in
comingsoon_again xid info block_size rest fits lt =
    ap (comingsoon_in xid) (append_assoc (spelling info) (unsigned block_size) rest)
    ∙ rw (info_again info (unsigned block_size ++ rest) fits, unsigned_again block_size rest lt) refl

blkdata_again : (xid : ℕ) (signature : List ℕ) (number : ℕ) (block rest : List ℕ) → length signature ≡ 16 → Is32 number → length block ≤ LARGEST_BLOCK
    → blkdata_in xid ((signature ++ unsigned number ++ opaque block) ++ rest) ≡ Ok (sent.Blkdata xid signature number block, rest)
unfolding blkdata_in
blkdata_again xid signature number block rest len lt le =
    let regrouped : (signature ++ unsigned number ++ opaque block) ++ rest ≡ signature ++ (unsigned number ++ (opaque block ++ rest)) = simp append_assoc in
    ap (blkdata_in xid) regrouped
    ∙ rw (
      signature_again signature (unsigned number ++ (opaque block ++ rest)) len,
      unsigned_again number (opaque block ++ rest) lt,
      opaque_again LARGEST_BLOCK block rest le (lit< tt),
    ) refl

feedme_again : (xid : ℕ) (class : ClassSpec) (max_hereis : ℕ) (rest : List ℕ) → ClassFits class → Is32 max_hereis
    → feedme_in xid ((class_bytes class ++ unsigned max_hereis) ++ rest) ≡ Ok (sent.Feedme xid class max_hereis, rest)
unfolding feedme_in
feedme_again xid class max_hereis rest fits lt =
    ap (feedme_in xid) (append_assoc (class_bytes class) (unsigned max_hereis) rest)
    ∙ rw (class_again class (unsigned max_hereis ++ rest) fits, unsigned_again max_hereis rest lt) refl

hiya_reply_again : (xid max_hereis : ℕ) (answer : ClassAnswer) (rest : List ℕ) → Is32 max_hereis → ClassAnswerFits answer
    → hiya_reply_in xid ((unsigned max_hereis ++ class_answer_bytes answer) ++ rest) ≡ Ok (sent.HiyaReply xid max_hereis answer, rest)
unfolding hiya_reply_in
hiya_reply_again xid max_hereis answer rest lt fits =
    ap (hiya_reply_in xid) (append_assoc (unsigned max_hereis) (class_answer_bytes answer) rest)
    ∙ rw (unsigned_again max_hereis (class_answer_bytes answer ++ rest) lt, class_answer_again answer rest fits) refl

figures_again : (stat : Stat) (rest : List ℕ) → StatFits (Some stat) → figures_in (figures_bytes stat ++ rest) ≡ Ok (stat, rest)
unfolding figures_in
figures_again stat rest fits =
    let r4 : List ℕ = hyper stat.largest_free ++ rest in
    let r3 : List ℕ = hyper stat.used ++ r4 in
    let r2 : List ℕ = hyper stat.held ++ r3 in
    let r1 : List ℕ = hyper stat.queued ++ r2 in
    let regrouped : figures_bytes stat ++ rest ≡ hyper stat.admitted ++ r1 = simp append_assoc in
    ap figures_in regrouped
    ∙ rw (
      hyper_again stat.admitted r1 fits.0,
      hyper_again stat.queued r2 fits.1,
      hyper_again stat.held r3 fits.2,
      hyper_again stat.used r4 fits.3,
      hyper_again stat.largest_free rest fits.4,
    ) refl

stat_again : (stat : Option Stat) (rest : List ℕ) → StatFits stat → stat_in (stat_bytes stat ++ rest) ≡ Ok (stat, rest)
unfolding stat_in told_in
stat_again (Some stat) rest fits =
    ap stat_in (append_assoc (unsigned 0) (figures_bytes stat) rest)
    ∙ rw (unsigned_again 0 (figures_bytes stat ++ rest) (lit< tt), figures_again stat rest fits) refl
stat_again None rest fits = rw (unsigned_again 2 rest (lit< tt)) refl

soon_again : (xid : ℕ) (answer : SoonAnswer) (rest : List ℕ) → comingsoon_reply_in xid (soon_answer_bytes answer ++ rest) ≡ Ok (sent.ComingsoonReply xid answer, rest)
unfolding comingsoon_reply_in
soon_again xid soon_answer.Ok rest = rw (unsigned_again 0 rest (lit< tt)) refl
soon_again xid soon_answer.DontSend rest = rw (unsigned_again 1 rest (lit< tt)) refl

put_answer_again : (answer : PutAnswer) (rest : List ℕ) → PutAnswerFits answer → put_answer_in (put_answer_bytes answer ++ rest) ≡ Ok (answer, rest)
unfolding put_answer_in admitted_in too_big_in duplicate_in locked_in
put_answer_again (put_answer.Admitted n time evicted) rest fits =
    let r3 : List ℕ = hyper evicted ++ rest in
    let r2 : List ℕ = hyper time ++ r3 in
    let r1 : List ℕ = hyper n ++ r2 in
    let regrouped : (unsigned 0 ++ hyper n ++ hyper time ++ hyper evicted) ++ rest ≡ unsigned 0 ++ r1 = simp append_assoc in
    ap put_answer_in regrouped
    ∙ rw (unsigned_again 0 r1 (lit< tt), hyper_again n r2 fits.0, hyper_again time r3 fits.1, hyper_again evicted rest fits.2) refl
put_answer_again (put_answer.TooBig need arena) rest fits =
    let r2 : List ℕ = hyper arena ++ rest in
    let r1 : List ℕ = hyper need ++ r2 in
    let regrouped : (unsigned 1 ++ hyper need ++ hyper arena) ++ rest ≡ unsigned 1 ++ r1 = simp append_assoc in
    ap put_answer_in regrouped ∙ rw (unsigned_again 1 r1 (lit< tt), hyper_again need r2 fits.0, hyper_again arena rest fits.1) refl
put_answer_again (put_answer.Duplicate n) rest fits =
    ap put_answer_in (append_assoc (unsigned 2) (hyper n) rest) ∙ rw (unsigned_again 2 (hyper n ++ rest) (lit< tt), hyper_again n rest fits) refl
put_answer_again put_answer.TimeEnd rest fits = rw (unsigned_again 3 rest (lit< tt)) refl
put_answer_again (put_answer.Locked held) rest fits =
    ap put_answer_in (append_assoc (unsigned 4) (hyper held) rest) ∙ rw (unsigned_again 4 (hyper held ++ rest) (lit< tt), hyper_again held rest fits) refl
put_answer_again put_answer.Denied rest fits = rw (unsigned_again 5 rest (lit< tt)) refl

-- ---- messages

pub message_again : (m : Sent) → Fits m → read_as (kind_of m) (written m) ≡ Ok m
unfolding written hiya_in hereis_in put_in notifyme_in notification_in feedme_reply_in qstat_reply_in put_reply_in notifyme_reply_in
message_again (sent.Feedme xid class max_hereis) fits =
    call_read xid procedure.Feedme (class_bytes class ++ unsigned max_hereis) _ fits.0 (feedme_again xid class max_hereis [] fits.1 fits.2)
message_again (sent.FeedmeReply xid answer) fits =
    reply_read xid with_reply.Feedme (class_answer_bytes answer) _ fits.0 (rw (class_answer_again answer [] fits.1) refl)
message_again (sent.Hiya xid class) fits = call_read xid procedure.Hiya (class_bytes class) _ fits.0 (rw (class_again class [] fits.1) refl)
message_again (sent.HiyaReply xid max_hereis answer) fits =
    reply_read xid with_reply.Hiya (unsigned max_hereis ++ class_answer_bytes answer) _ fits.0 (hiya_reply_again xid max_hereis answer [] fits.1 fits.2)
message_again (sent.Hereis xid info body) fits =
    call_read xid procedure.Hereis (spelling info ++ padded body) _ fits.0 (rw (product_again info body [] fits.1 fits.2) refl)
message_again (sent.Comingsoon xid info block_size) fits =
    call_read xid procedure.Comingsoon (spelling info ++ unsigned block_size) _ fits.0 (comingsoon_again xid info block_size [] fits.1 fits.2)
message_again (sent.ComingsoonReply xid answer) fits =
    reply_read xid with_reply.Comingsoon (soon_answer_bytes answer) _ fits (soon_again xid answer [])
message_again (sent.Blkdata xid signature number block) fits =
    call_read xid procedure.Blkdata (signature ++ unsigned number ++ opaque block) _ fits.0 (blkdata_again xid signature number block [] fits.1 fits.2 fits.3)
message_again (sent.Isalive xid) fits =
    ap call_of (sym (append-nil (call_header xid procedure.Isalive))) ∙ call_read xid procedure.Isalive [] _ fits refl
message_again (sent.Qstat xid) fits =
    ap call_of (sym (append-nil (call_header xid procedure.Qstat))) ∙ call_read xid procedure.Qstat [] _ fits refl
message_again (sent.QstatReply xid stat) fits = reply_read xid with_reply.Qstat (stat_bytes stat) _ fits.0 (rw (stat_again stat [] fits.1) refl)
message_again (sent.Put xid info body) fits =
    call_read xid procedure.Put (spelling info ++ padded body) _ fits.0 (rw (product_again info body [] fits.1 fits.2) refl)
message_again (sent.PutReply xid answer) fits =
    reply_read xid with_reply.Put (put_answer_bytes answer) _ fits.0 (rw (put_answer_again answer [] fits.1) refl)
message_again (sent.Notifyme xid class) fits = call_read xid procedure.Notifyme (class_bytes class) _ fits.0 (rw (class_again class [] fits.1) refl)
message_again (sent.NotifymeReply xid answer) fits =
    reply_read xid with_reply.Notifyme (class_answer_bytes answer) _ fits.0 (rw (class_answer_again answer [] fits.1) refl)
message_again (sent.Notification xid info) fits = call_read xid procedure.Notification (spelling info) _ fits.0 (rw (info_again info [] fits.1) refl)
message_again (sent.Refused xid why) fits = refusal_read xid why fits.0 fits.1
