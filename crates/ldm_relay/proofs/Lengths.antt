-- The lengths of spellings.
use Rattle.std.proofs.Common.{◌≡◌, ℕ, ◌+◌, ◌-◌, ◌*◌, ◌<◌, List, [], ◌∷◌, ◌++◌, length, get_or, take, refl, sym, ap, ◌∙◌, arith}
use Rattle.std.specs.List.{flat_map}
use Rattle.std.proofs.lemmas.List.{append-nil, length-append, length-replicate, take_more, take_all}
use Rattle.std.proofs.lemmas.List.Concat.{flat_map-append}
use Rattle.ldm_types.specs.Info.{Metadata, pad4, metadata_len}
use Rattle.ldm_xdr.specs.Spelling.{spelling, unsigned, opaque}
use Rattle.ldm_xdr.proofs.Lengths.{length_unsigned, length_hyper, length_padded, length_opaque}
use Rattle.ldm_xdr.proofs.Whole.{length-spelling}
use Rattle.ldm_types.specs.declared.class.ClassSpec.{ClassSpec}
use Rattle.ldm_types.specs.declared.class.Spec.{Spec}
use Rattle.ldm_relay.specs.declared.procedure.Procedure.{Procedure}
use Rattle.ldm_relay.specs.Spelling.{instant_bytes, spec_bytes, class_bytes, no_authentication, call_header, accepted_header, reply_header}

pub length_instant : (micros : ℕ) → length (instant_bytes micros) ≡ 8
unfolding instant_bytes
length_instant micros = simp (length-append, length_unsigned)

pub length_spec : (spec : Spec) → length (spec_bytes spec) ≡ 8 + pad4 (length spec.pattern.items)
unfolding spec_bytes
length_spec spec = length-append (unsigned spec.feed.0) (opaque spec.pattern.items) ∙ omega (arith, length_unsigned spec.feed.0, length_opaque spec.pattern.items)

pub length_class : (class : ClassSpec) → length (class_bytes class) ≡ 20 + length (flat_map spec_bytes class.specs.items)
unfolding class_bytes
length_class class = simp (length-append, length_unsigned, length_instant)

length_no_authentication : length no_authentication ≡ 8
unfolding no_authentication
length_no_authentication = simp (length-append, length_unsigned)

pub length_call_header : (xid : ℕ) (p : Procedure) → length (call_header xid p) ≡ 40
unfolding call_header
length_call_header xid p = simp (length-append, length_unsigned, length_no_authentication)

pub length_accepted_header : (xid : ℕ) → length (accepted_header xid) ≡ 20
unfolding accepted_header
length_accepted_header xid = simp (length-append, length_unsigned, length_no_authentication)

pub length_reply_header : (xid : ℕ) → length (reply_header xid) ≡ 24
unfolding reply_header
length_reply_header xid = simp (length-append, length_unsigned, length_accepted_header)

pub spelling_of_16 : (info : Metadata) → length info.signature ≡ 16 → length (spelling info) ≡ metadata_len info
spelling_of_16 info len = length-spelling info len

-- one more of several, and all of them
pub one_more_spec : (specs : List Spec) (i : ℕ) (spec : Spec) → i < length specs → length (flat_map spec_bytes (take (i + 1) specs))
    ≡ length (flat_map spec_bytes (take i specs)) + (8 + pad4 (length (get_or specs i spec).pattern.items))
one_more_spec specs i spec lt =
    ap (λ (xs : List Spec). length (flat_map spec_bytes xs)) (take_more specs i spec lt)
    ∙ ap (λ (xs : List ℕ). length xs) (flat_map-append spec_bytes (take i specs) (get_or specs i spec ∷ []))
    ∙ length-append (flat_map spec_bytes (take i specs)) (spec_bytes (get_or specs i spec) ++ [])
    ∙ ap (λ n. length (flat_map spec_bytes (take i specs)) + n) (ap (λ (xs : List ℕ). length xs) (append-nil (spec_bytes (get_or specs i spec))) ∙ length_spec (get_or specs i spec))

-- ---- sums

pub length_two : (x y : List ℕ) (m n : ℕ) → length x ≡ m → length y ≡ n → length (x ++ y) ≡ m + n
length_two x y m n x_is y_is = length-append x y ∙ omega arith

pub ruleset lengths = (length_unsigned, length_hyper, length_padded, length_opaque, length_class, length_call_header, length_accepted_header, length_reply_header, length-append)
