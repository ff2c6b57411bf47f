-- How many bytes a reading takes at most.
use Rattle.std.proofs.Common.{◌≡◌, ℕ, zero, suc, ◌+◌, ◌*◌, ◌<◌, ◌≤◌, Bool, true, false, cond, eqb, ltb, List, [], ◌∷◌, length, drop, Option, Some, None, Result, Ok, Err, refl, arith}
use Rattle.std.specs.Prelude.{position}
use Rattle.std.specs.Int.{Width, w32, w64, byte_len, from_be_bytes}
use Rattle.std.proofs.lemmas.Bool.{ltb-false}
use Rattle.std.proofs.lemmas.List.{length-drop}
use Rattle.ldm_types.specs.declared.limits.TheConstants.{LONGEST_IDENT, LONGEST_ORIGIN, LONGEST_PATTERN, MOST_SPECS}
use Rattle.ldm_types.specs.Info.{Metadata, pad4}
use Rattle.ldm_xdr.specs.declared.fault.XdrFault.{XdrFault}
use Rattle.ldm_xdr.specs.Fields.{◌>>=◌, number_in, unsigned_in, up_to_in, exactly_in, unless_found, padded_in, fixed_in, opaque_in}
use Rattle.ldm_xdr.specs.Reading.{cut_short, micros_in, badly_padded, unless_nul, counted_text, text_in, metadata_in, told_by_left, info_in}
use Rattle.ldm_relay.specs.declared.header.TheConstants.{SUCCESS}
use Rattle.ldm_relay.specs.declared.message.ClassAnswer.TheVariants as class_answer
use Rattle.ldm_relay.specs.declared.message.TheConstants.{LARGEST_BLOCK}
use Rattle.ldm_relay.specs.declared.procedure.Answered.{Answered}
use Rattle.ldm_relay.specs.declared.procedure.Answered.TheVariants as answered
use Rattle.ldm_relay.specs.Calls.{comingsoon_in, blkdata_in}
use Rattle.ldm_relay.specs.Classes.{instant_in, spec_in, specs_in, class_in, reclass_in, class_answer_in}
use Rattle.ldm_relay.specs.Refusals.{versions_in, refusal_in, refused_in}
use Rattle.ldm_relay.specs.Replies.{feedme_reply_in, hiya_reply_in, comingsoon_reply_in, figures_in, told_in, stat_in, qstat_reply_in}
use Rattle.ldm_relay.specs.Replies.{admitted_in, too_big_in, duplicate_in, locked_in, put_answer_in, put_reply_in, notifyme_reply_in, result_in, accepted_in}

-- of so many bytes no more than these were taken
abbrev pub Short : {A E : Type 0} → ℕ → ℕ → Result (A × List ℕ) E → Type 0
Short most len (Ok x) = len ≤ most + length x.1
Short most len (Err bad) = Unit {0}

wider : {A E : Type 0} (a b most len middle : ℕ) (r : Result (A × List ℕ) E) → a + b ≤ most → len ≤ a + middle → Short b middle r → Short most len r
wider a b most len middle (Ok x) le first second = omega arith
wider a b most len middle (Err bad) le first second = tt

weaker : {A E : Type 0} (a most len : ℕ) (r : Result (A × List ℕ) E) → a ≤ most → Short a len r → Short most len r
weaker a most len (Ok x) le short = omega arith
weaker a most len (Err bad) le short = tt

-- one reading behind another
after : {A B E : Type 0} (a b most len : ℕ) (r : Result (A × List ℕ) E) (f : A × List ℕ → Result (B × List ℕ) E) → a + b ≤ most → Short a len r
    → ((x : A × List ℕ) → Short b (length x.1) (f x)) → Short most len (r >>= f)
after a b most len (Ok x) f le first each = wider a b most len (length x.1) (f x) le first (each x)
after a b most len (Err bad) f le first each = tt

-- a value made of what was read
made : {A B E : Type 0} (most len : ℕ) (r : Result (A × List ℕ) E) (f : A × List ℕ → B) → Short most len r → Short most len (r >>= (λ x. Ok (f x, x.1)))
made most len (Ok x) f short = short
made most len (Err bad) f short = tt

either : {A E : Type 0} (most len : ℕ) (b : Bool) (x y : Result (A × List ℕ) E) → Short most len x → Short most len y → Short most len (cond b x y)
either most len true x y first second = first
either most len false x y first second = second

guarded : {A E : Type 0} (most len : ℕ) (b : Bool) (bad : E) (x : Result (A × List ℕ) E) → (b ≡ false → Short most len x) → Short most len (cond b (Err bad) x)
guarded most len true bad x each = tt
guarded most len false bad x each = each refl

-- ---- fields

number_short : (w : Width) (left : List ℕ) → Short (byte_len w) (length left) (number_in w left)
unfolding number_in
number_short w left =
    guarded (byte_len w) (length left) (ltb (length left) (byte_len w)) (length left) _
    (λ is. omega (arith, length-drop (byte_len w) left))

if_within : {B : Type 0} (limit b most len field : ℕ) (above : Bool) (x : ℕ × List ℕ) (f : ℕ × List ℕ → Result (B × List ℕ) ℕ) → 4 + b ≤ most → len ≤ 4 + length x.1
    → (above ≡ false → Short b (length x.1) (f x)) → Short most len (cond above (Err field) (Ok x) >>= f)
if_within limit b most len field true x f le first each = tt
if_within limit b most len field false x f le first each = wider 4 b most len (length x.1) (f x) le first (each refl)

up_to_then : {B : Type 0} (limit b most len field : ℕ) (r : Result (ℕ × List ℕ) ℕ) (f : ℕ × List ℕ → Result (B × List ℕ) ℕ) → 4 + b ≤ most → Short 4 len r
    → ((x : ℕ × List ℕ) → x.0 ≤ limit → Short b (length x.1) (f x)) → Short most len ((r >>= (λ number. cond (ltb limit number.0) (Err field) (Ok number))) >>= f)
up_to_then limit b most len field (Ok x) f le first each = if_within limit b most len field (ltb limit x.0) x f le first (λ is. each x (ltb-false limit x.0 is))
up_to_then limit b most len field (Err bad) f le first each = tt

-- a number of at most so much, and what is read behind it
after_up_to : {B : Type 0} (limit b most : ℕ) (left : List ℕ) (f : ℕ × List ℕ → Result (B × List ℕ) ℕ) → 4 + b ≤ most
    → ((x : ℕ × List ℕ) → x.0 ≤ limit → Short b (length x.1) (f x)) → Short most (length left) (up_to_in limit left >>= f)
unfolding up_to_in
after_up_to limit b most left f le each = up_to_then limit b most (length left) (length left) (number_in w32 left) f le (number_short w32 left) each

unless_short : (most len : ℕ) (found : Option ℕ) (padding : ℕ) (bytes left : List ℕ) → len ≤ most + length left → Short most len (unless_found found padding bytes left)
unless_short most len None padding bytes left le = le
unless_short most len (Some place) padding bytes left le = tt

padded_short : (field count : ℕ) (left : List ℕ) → Short (pad4 count) (length left) (padded_in field count left)
unfolding padded_in
padded_short field count left =
    guarded (pad4 count) (length left) (ltb (length left) (pad4 count)) field _ (λ is.
    unless_short (pad4 count) (length left) _ _ _ (drop (pad4 count) left) (omega (arith, length-drop (pad4 count) left)))

opaque_short : (limit most : ℕ) (left : List ℕ) → 7 + limit ≤ most → Short most (length left) (opaque_in limit left)
unfolding opaque_in
opaque_short limit most left le =
    after_up_to limit (3 + limit) most left _ (omega arith) (λ count within. weaker (pad4 count.0) (3 + limit) (length count.1) _ (omega arith) (padded_short (length left) count.0 count.1))

-- ---- metadata

cut_as : {A : Type 0} (most len whole : ℕ) (r : Result (A × List ℕ) ℕ) → Short most len r → Short most len (cut_short whole r)
cut_as most len whole (Ok x) short = short
cut_as most len whole (Err left) short = tt

micros_short : (whole : ℕ) (left : List ℕ) → Short 4 (length left) (micros_in whole left)
unfolding micros_in
micros_short whole left =
    after 4 0 4 (length left) (cut_short whole (number_in w32 left)) _ (omega arith) (cut_as 4 (length left) whole (number_in w32 left) (number_short w32 left))
    (λ micros. either 0 (length micros.1) (ltb micros.0 1000000) (Ok micros) _ (omega arith) tt)

badly_as : {A : Type 0} (most len whole : ℕ) (r : Result (A × List ℕ) ℕ) → Short most len r → Short most len (badly_padded whole r)
badly_as most len whole (Ok x) short = short
badly_as most len whole (Err left) short = tt

nul_as : {A : Type 0} (most len whole left : ℕ) (found : Option ℕ) (r : Result (A × List ℕ) XdrFault) → Short most len r → Short most len (unless_nul whole left found r)
nul_as most len whole left None r short = short
nul_as most len whole left (Some place) r short = tt

counted_short : (whole limit field count : ℕ) (left : List ℕ) → Short (3 + limit) (length left) (counted_text whole limit field count left)
counted_short whole limit field count left =
    guarded (3 + limit) (length left) (ltb limit count) _ _ (λ is.
    let within : count ≤ limit = ltb-false limit count is in
    guarded (3 + limit) (length left) (ltb (length left) (pad4 count)) _ _ (λ there.
    nul_as (3 + limit) (length left) whole (length left) _ _ (badly_as (3 + limit) (length left) whole (padded_in field count left)
    (weaker (pad4 count) (3 + limit) (length left) (padded_in field count left) (omega arith) (padded_short field count left)))))

text_short : (whole limit most : ℕ) (left : List ℕ) → 7 + limit ≤ most → Short most (length left) (text_in whole limit left)
unfolding text_in
text_short whole limit most left le =
    after 4 (3 + limit) most (length left) (cut_short whole (number_in w32 left)) _ (omega arith) (cut_as 4 (length left) whole (number_in w32 left) (number_short w32 left))
    (λ count. counted_short whole limit (length left) count.0 count.1)

metadata_short : (whole : ℕ) (left : List ℕ) → Short 400 (length left) (metadata_in whole left)
unfolding metadata_in
metadata_short whole left =
    after 4 396 400 (length left) (cut_short whole (number_in w32 left)) _ (omega arith) (cut_as 4 (length left) whole (number_in w32 left) (number_short w32 left)) (λ seconds.
    after 4 392 396 (length seconds.1) (micros_in whole seconds.1) _ (omega arith) (micros_short whole seconds.1) (λ micros.
    after 16 376 392 (length micros.1) (cut_short whole (fixed_in 16 micros.1)) _ (omega arith) (cut_as 16 (length micros.1) whole (fixed_in 16 micros.1) (padded_short (length micros.1) 16 micros.1)) (λ signature.
    after 72 304 376 (length signature.1) (text_in whole LONGEST_ORIGIN signature.1) _ (omega arith) (text_short whole LONGEST_ORIGIN 72 signature.1 (omega arith)) (λ origin.
    after 4 300 304 (length origin.1) (cut_short whole (number_in w32 origin.1)) _ (omega arith) (cut_as 4 (length origin.1) whole (number_in w32 origin.1) (number_short w32 origin.1)) (λ feed.
    after 4 296 300 (length feed.1) (cut_short whole (number_in w32 feed.1)) _ (omega arith) (cut_as 4 (length feed.1) whole (number_in w32 feed.1) (number_short w32 feed.1)) (λ seqno.
    after 264 4 296 (length seqno.1) (text_in whole LONGEST_IDENT seqno.1) _ (omega arith) (text_short whole LONGEST_IDENT 264 seqno.1 (omega arith)) (λ ident.
    made 4 (length ident.1) (cut_short whole (number_in w32 ident.1)) _ (cut_as 4 (length ident.1) whole (number_in w32 ident.1) (number_short w32 ident.1)))))))))

told_as : (most len : ℕ) (r : Result (Metadata × List ℕ) XdrFault) → Short most len r → Short most len (told_by_left len r)
told_as most len (Ok x) short = short
told_as most len (Err fault) short = tt

pub info_short : (left : List ℕ) → Short 400 (length left) (info_in left)
unfolding info_in
info_short left = told_as 400 (length left) (metadata_in (length left) left) (metadata_short (length left) left)

-- ---- bodies of calls

pub comingsoon_short : (xid : ℕ) (left : List ℕ) → Short 404 (length left) (comingsoon_in xid left)
unfolding comingsoon_in
comingsoon_short xid left =
    after 400 4 404 (length left) (info_in left) _ (omega arith) (info_short left) (λ info. made 4 (length info.1) (number_in w32 info.1) _ (number_short w32 info.1))

pub blkdata_short : (xid : ℕ) (left : List ℕ) → Short 16415 (length left) (blkdata_in xid left)
unfolding blkdata_in
blkdata_short xid left =
    after 16 16399 16415 (length left) (fixed_in 16 left) _ (omega arith) (padded_short (length left) 16 left) (λ signature.
    after 4 16395 16399 (length signature.1) (number_in w32 signature.1) _ (omega arith) (number_short w32 signature.1) (λ number.
    made 16395 (length number.1) (opaque_in LARGEST_BLOCK number.1) _ (opaque_short LARGEST_BLOCK 16395 number.1 (omega arith))))

-- ---- classes

instant_short : (left : List ℕ) → Short 8 (length left) (instant_in left)
unfolding instant_in
instant_short left =
    after 4 4 8 (length left) (number_in w32 left) _ (omega arith) (number_short w32 left) (λ seconds.
    after_up_to 999999 0 4 seconds.1 _ (omega arith) (λ micros within. omega arith))

spec_short : (left : List ℕ) → Short 266 (length left) (spec_in left)
unfolding spec_in
spec_short left =
    after 4 262 266 (length left) (number_in w32 left) _ (omega arith) (number_short w32 left) (λ feed.
    made 262 (length feed.1) (opaque_in LONGEST_PATTERN feed.1) _ (opaque_short LONGEST_PATTERN 262 feed.1 (omega arith)))

specs_short : (count : ℕ) (left : List ℕ) → Short (266 * count) (length left) (specs_in count left)
unfolding specs_in
specs_short zero left = omega arith
specs_short (suc count) left =
    after 266 (266 * count) (266 * suc count) (length left) (spec_in left) _ (omega arith) (spec_short left) (λ first.
    made (266 * count) (length first.1) (specs_in count first.1) _ (specs_short count first.1))

class_short : (left : List ℕ) → Short 8600 (length left) (class_in left)
unfolding class_in
class_short left =
    after 8 8592 8600 (length left) (instant_in left) _ (omega arith) (instant_short left) (λ from.
    after 8 8584 8592 (length from.1) (instant_in from.1) _ (omega arith) (instant_short from.1) (λ to.
    after_up_to MOST_SPECS 8580 8584 to.1 _ (omega arith) (λ count within.
    made 8580 (length count.1) (specs_in count.0 count.1) _
    (weaker (266 * count.0) 8580 (length count.1) (specs_in count.0 count.1) (omega arith) (specs_short count.0 count.1)))))

reclass_short : (left : List ℕ) → Short 8600 (length left) (reclass_in left)
unfolding reclass_in
reclass_short left = made 8600 (length left) (class_in left) _ (class_short left)

class_answer_short : (left : List ℕ) → Short 8604 (length left) (class_answer_in left)
unfolding class_answer_in
class_answer_short left =
    after 4 8600 8604 (length left) (number_in w32 left) _ (omega arith) (number_short w32 left) (λ code.
    either 8600 (length code.1) (eqb code.0 0) _ _ (omega arith)
    (either 8600 (length code.1) (eqb code.0 1) _ _ (reclass_short code.1)
    (either 8600 (length code.1) (eqb code.0 2) _ _ (omega arith)
    (either 8600 (length code.1) (eqb code.0 3) _ _ (omega arith)
    (either 8600 (length code.1) (eqb code.0 4) _ _ (omega arith) tt)))))

-- ---- replies

hyper_then : {B : Type 0} (b most : ℕ) (left : List ℕ) (f : ℕ × List ℕ → Result (B × List ℕ) ℕ) → 8 + b ≤ most
    → ((x : ℕ × List ℕ) → Short b (length x.1) (f x)) → Short most (length left) (number_in w64 left >>= f)
hyper_then b most left f le each = after 8 b most (length left) (number_in w64 left) f le (number_short w64 left) each

figures_short : (left : List ℕ) → Short 40 (length left) (figures_in left)
unfolding figures_in
figures_short left =
    hyper_then 32 40 left _ (omega arith) (λ admitted. hyper_then 24 32 admitted.1 _ (omega arith) (λ queued.
    hyper_then 16 24 queued.1 _ (omega arith) (λ held. hyper_then 8 16 held.1 _ (omega arith) (λ used.
    made 8 (length used.1) (number_in w64 used.1) _ (number_short w64 used.1)))))

told_short : (left : List ℕ) → Short 40 (length left) (told_in left)
unfolding told_in
told_short left = made 40 (length left) (figures_in left) _ (figures_short left)

stat_short : (left : List ℕ) → Short 44 (length left) (stat_in left)
unfolding stat_in
stat_short left =
    after 4 40 44 (length left) (number_in w32 left) _ (omega arith) (number_short w32 left) (λ code.
    either 40 (length code.1) (eqb code.0 0) _ _ (told_short code.1) (either 40 (length code.1) (eqb code.0 2) _ _ (omega arith) tt))

admitted_short : (left : List ℕ) → Short 24 (length left) (admitted_in left)
unfolding admitted_in
admitted_short left =
    hyper_then 16 24 left _ (omega arith) (λ n. hyper_then 8 16 n.1 _ (omega arith) (λ time. made 8 (length time.1) (number_in w64 time.1) _ (number_short w64 time.1)))

too_big_short : (left : List ℕ) → Short 24 (length left) (too_big_in left)
unfolding too_big_in
too_big_short left = hyper_then 8 24 left _ (omega arith) (λ need. made 8 (length need.1) (number_in w64 need.1) _ (number_short w64 need.1))

duplicate_short : (left : List ℕ) → Short 24 (length left) (duplicate_in left)
unfolding duplicate_in
duplicate_short left = hyper_then 0 24 left _ (omega arith) (λ n. omega arith)

locked_short : (left : List ℕ) → Short 24 (length left) (locked_in left)
unfolding locked_in
locked_short left = hyper_then 0 24 left _ (omega arith) (λ held. omega arith)

put_answer_short : (left : List ℕ) → Short 28 (length left) (put_answer_in left)
unfolding put_answer_in
put_answer_short left =
    after 4 24 28 (length left) (number_in w32 left) _ (omega arith) (number_short w32 left) (λ code.
    either 24 (length code.1) (eqb code.0 0) _ _ (admitted_short code.1)
    (either 24 (length code.1) (eqb code.0 1) _ _ (too_big_short code.1)
    (either 24 (length code.1) (eqb code.0 2) _ _ (duplicate_short code.1)
    (either 24 (length code.1) (eqb code.0 3) _ _ (omega arith)
    (either 24 (length code.1) (eqb code.0 4) _ _ (locked_short code.1)
    (either 24 (length code.1) (eqb code.0 5) _ _ (omega arith) tt))))))

result_short : (p : Answered) (xid : ℕ) (left : List ℕ) → Short 8608 (length left) (result_in p xid left)
unfolding feedme_reply_in hiya_reply_in comingsoon_reply_in qstat_reply_in put_reply_in notifyme_reply_in
result_short answered.Feedme xid left =
    after 8604 0 8608 (length left) (class_answer_in left) _ (omega arith) (class_answer_short left) (λ answer. omega arith)
result_short answered.Hiya xid left =
    after 4 8604 8608 (length left) (number_in w32 left) _ (omega arith) (number_short w32 left) (λ most.
    made 8604 (length most.1) (class_answer_in most.1) _ (class_answer_short most.1))
result_short answered.Comingsoon xid left =
    after 4 0 8608 (length left) (number_in w32 left) _ (omega arith) (number_short w32 left) (λ code.
    either 0 (length code.1) (eqb code.0 0) _ _ (omega arith) (either 0 (length code.1) (eqb code.0 1) _ _ (omega arith) tt))
result_short answered.Qstat xid left = after 44 0 8608 (length left) (stat_in left) _ (omega arith) (stat_short left) (λ stat. omega arith)
result_short answered.Put xid left = after 28 0 8608 (length left) (put_answer_in left) _ (omega arith) (put_answer_short left) (λ answer. omega arith)
result_short answered.Notifyme xid left =
    after 8604 0 8608 (length left) (class_answer_in left) _ (omega arith) (class_answer_short left) (λ answer. omega arith)

exactly_short : (given : ℕ) (left : List ℕ) → Short 4 (length left) (exactly_in given left)
unfolding exactly_in
exactly_short given left =
    after 4 0 4 (length left) (number_in w32 left) _ (omega arith) (number_short w32 left) (λ number. either 0 (length number.1) (eqb number.0 given) _ _ (omega arith) tt)

pub accepted_short : (p : Answered) (xid : ℕ) (left : List ℕ) → Short 8612 (length left) (accepted_in p xid left)
unfolding accepted_in
accepted_short p xid left =
    after 4 8608 8612 (length left) (exactly_in SUCCESS left) _ (omega arith) (exactly_short SUCCESS left) (λ success. result_short p xid success.1)

versions_short : (left : List ℕ) → Short 8 (length left) (versions_in left)
unfolding versions_in
versions_short left =
    after 4 4 8 (length left) (number_in w32 left) _ (omega arith) (number_short w32 left) (λ lowest. made 4 (length lowest.1) (number_in w32 lowest.1) _ (number_short w32 lowest.1))

refusal_short : (left : List ℕ) → Short 12 (length left) (refusal_in left)
unfolding refusal_in
refusal_short left =
    after 4 8 12 (length left) (number_in w32 left) _ (omega arith) (number_short w32 left) (λ status.
    either 8 (length status.1) (eqb status.0 1) _ _ (omega arith)
    (either 8 (length status.1) (eqb status.0 2) _ _ (versions_short status.1)
    (either 8 (length status.1) (eqb status.0 3) _ _ (omega arith)
    (either 8 (length status.1) (eqb status.0 4) _ _ (omega arith)
    (either 8 (length status.1) (eqb status.0 5) _ _ (omega arith) tt)))))

pub refused_short : (xid : ℕ) (left : List ℕ) → Short 12 (length left) (refused_in xid left)
unfolding refused_in
refused_short xid left = after 12 0 12 (length left) (refusal_in left) _ (omega arith) (refusal_short left) (λ why. omega arith)
