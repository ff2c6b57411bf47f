-- The lines of notices.
use Rattle.std.specs.Prelude.{ℕ, List, [], ◌∷◌, ◌++◌, codes, decimal}
use Rattle.std.specs.List.{flat_map}
use Rattle.hex.specs.Hex.{encode_lower}
use Rattle.ldm_types.specs.Info.{Metadata}
use Rattle.ldm_feedtype.specs.Text.{feed_digits}
use Rattle.ldm_answers.specs.Answer.{blank_field, blank_number}
use Rattle.ldm_answers.specs.Texts.{spelled}
use Rattle.ldm_watch.specs.declared.form.NoticeForm.{NoticeForm}
use Rattle.ldm_watch.specs.declared.form.NoticeForm.TheVariants.{Numbers, Names}
use Rattle.ldm_watch.specs.FeedNames.{feeds_text}
use Rattle.ldm_watch.specs.Instants.{instant_text}

-- ARRIVAL
abbrev pub arrival_field : NoticeForm → ℕ → List ℕ
arrival_field Numbers arrival = decimal arrival
arrival_field Names arrival = instant_text arrival

-- FEED
abbrev pub feed_field : NoticeForm → ℕ → List ℕ
feed_field Numbers feed = feed_digits feed
feed_field Names feed = feeds_text feed

-- `SIG FEED SEQNO ORIGIN IDENT`, a blank before each
abbrev pub product_fields : NoticeForm → Metadata → List ℕ
product_fields form info =
    blank_field (encode_lower info.signature) ++ blank_field (feed_field form info.feed) ++ blank_number info.seqno
    ++ blank_field (spelled info.origin) ++ blank_field (spelled info.ident)

-- `ARRIVAL SIG FEED SEQNO ORIGIN IDENT SIZE`, a blank before each
abbrev pub notice_fields : NoticeForm → Metadata → List ℕ
notice_fields form info = blank_field (arrival_field form info.arrival) ++ product_fields form info ++ blank_number info.size

-- `notice ARRIVAL SIG FEED SEQNO ORIGIN IDENT SIZE` and a newline. As numbers, the fields are spelled as in an answer of a queue.
unfoldable pub notice_line : NoticeForm → Metadata → List ℕ
notice_line form info = codes "notice" ++ notice_fields form info ++ 10 ∷ []

-- the lines of notices, in order
abbrev pub notice_lines : NoticeForm → List Metadata → List ℕ
notice_lines form notices = flat_map (notice_line form) notices
