use Rattle.std.proofs.Common.{◌≡◌, ◌+◌, ◌-◌, ◌++◌, ℕ, List, length, drop, ap, sym, ◌∙◌, arith}
use Rattle.ldm_types.specs.Info.{Metadata, metadata_len}
use Rattle.ldm_xdr.specs.Spelling.{spelling}
use Rattle.ldm_journal.specs.Records.{eight}
use Rattle.ldm_journal.proofs.JudgeLemmas.{has_parts, are_counted, lawful_entry, ok_info}
use Rattle.ldm_journal.proofs.record.entry_in.Goals as goal

pub returns-then-bytes-lt24 : goal.returns-then-bytes-lt24
returns-then-bytes-lt24 c = λ k lawful is. let p = has_parts k c.args.bytes.now lawful is in omega (arith, p.long, c.if-bytes-lt24.true)

pub returns-in_default : goal.returns-in_default
returns-in_default c = λ k lawful is.
    let p = has_parts k c.args.bytes.now lawful is in
    c.in_default.ensures (omega (arith, c.number_in.ensures.value, p.time, lawful.time))

pub returns-in_default-read_info : goal.returns-in_default-read_info
returns-in_default-read_info c = λ k lawful is.
    let p = has_parts k c.args.bytes.now lawful is in
    let found = c.read_info.ensures.only k.info k.body lawful.info (c.split_at.ensures.back ∙ p.rest) in
    cc (found, c.in_default-read_info.is)

pub returns-then-whole-bytes : goal.returns-then-whole-bytes
returns-then-whole-bytes c = λ k lawful is.
    let p = has_parts k c.args.bytes.now lawful is in
    let found = c.in-Ok.ensures.only k.info k.body lawful.info (c.split_at.ensures.back ∙ p.rest) in
    let same : c.in-Ok.info ≡ k.info = ok_info c.in-Ok.info k.info c.in-Ok.len (metadata_len k.info) found in
    c.if-whole-bytes.true (omega (arith, c.in-Ok.ensures.len.0, ap (λ (i : Metadata). metadata_len i) same, ap (λ (i : Metadata). i.size) same, c.size.ensures, p.long))

pub returns-then-count-bytes : goal.returns-then-count-bytes
returns-then-count-bytes c = λ k lawful is.
    let p = has_parts k c.args.bytes.now lawful is in
    let count = p.count c.requires in
    c.if-count-bytes.true (omega (arith, c.number_in-count.ensures.value, count, p.long))

pub returns-then-number : goal.returns-then-number
returns-then-number c = λ k lawful is.
    let p = has_parts k c.args.bytes.now lawful is in
    omega (arith, c.number_in-number.ensures.value, p.number, lawful.number, c.if-number.true)

pub returns : goal.returns
returns c =
    let bytes = c.args.bytes.now in
    let info = c.in-Ok.info in
    let len = c.in-Ok.len in
    let whole : 24 + len + c.size.result ≡ length bytes = omega arith in
    let count : c.number_in-count.result ≡ length bytes - 8 = omega arith in
    let rest = c.split_at.ensures.back in
    let found = c.in-Ok.ensures.found in (
      lawful_entry c.number_in-number.result c.in-Some.time len info bytes (omega (arith, c.number_in-number.type_inv, c.if-number.false)) (omega (arith, c.in-Some.ensures.0, c.in-Some.ensures.1)) c.in-Ok.ensures.fits.0
          (omega (arith, whole, c.size.ensures)),
      are_counted c.number_in-count.result c.number_in-number.result c.in-Some.time len c.size.result info bytes c.number_in-count.ensures.spelled
          c.number_in-number.ensures.spelled (ap (λ (n : ℕ). eight n) c.in-Some.ensures.1 ∙ c.number_in.ensures.spelled)
          (sym rest ∙ found ∙ ap (λ (l : List ℕ). spelling info ++ drop len l) rest) c.in-Ok.ensures.len.0 c.size.ensures whole count,
      omega (arith, whole, c.size.ensures),
    )
