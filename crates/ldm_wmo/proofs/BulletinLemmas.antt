-- A bulletin is read line by line.
use Rattle.std.proofs.Common.{◌≡◌, ℕ, true, false, List, Some, None, refl, sym, ap, ◌∙◌}
use Rattle.ldm_wmo.specs.declared.kind.Kind.{Kind}
use Rattle.ldm_wmo.specs.Lines.{behind, heading_in, line_of, number_in, rest_of}
use Rattle.ldm_wmo.specs.Bulletins.{begun_bulletin, bulletin_of, is_closed_text, starting, with_number}

pub not_begun : (kind : Kind) (bytes : List ℕ) → behind starting bytes ≡ None → bulletin_of kind bytes ≡ None
unfolding bulletin_of
not_begun kind bytes is = rw is refl

pub begun : (kind : Kind) (bytes rest : List ℕ) → behind starting bytes ≡ Some rest → bulletin_of kind bytes ≡ begun_bulletin kind rest
unfolding bulletin_of
begun kind bytes rest is = rw is refl

pub no_first_line : (kind : Kind) (rest : List ℕ) → rest_of rest ≡ None → begun_bulletin kind rest ≡ None
no_first_line kind rest is = rw is refl

pub no_number_there : (kind : Kind) (rest line more : List ℕ) → rest_of rest ≡ Some more → line ≡ line_of rest → None ≡ number_in line → begun_bulletin kind rest ≡ None
no_number_there kind rest line more rest_is line_is is =
    let at : number_in (line_of rest) ≡ None = ap number_in (sym line_is) ∙ sym is in
    rw (rest_is, at) refl

pub numbered : (kind : Kind) (rest line more : List ℕ) (seqno : ℕ) → rest_of rest ≡ Some more → line ≡ line_of rest → Some seqno ≡ number_in line → begun_bulletin kind rest ≡ with_number kind more seqno
numbered kind rest line more seqno rest_is line_is is =
    let at : number_in (line_of rest) ≡ Some seqno = ap number_in (sym line_is) ∙ sym is in
    rw (rest_is, at) refl

pub no_second_line : (kind : Kind) (more : List ℕ) (seqno : ℕ) → rest_of more ≡ None → with_number kind more seqno ≡ None
no_second_line kind more seqno is = rw is refl

pub no_heading_there : (kind : Kind) (more line body : List ℕ) (seqno : ℕ) → rest_of more ≡ Some body → line ≡ line_of more → heading_in line ≡ None → with_number kind more seqno ≡ None
no_heading_there kind more line body seqno rest_is line_is is =
    let at : heading_in (line_of more) ≡ None = ap heading_in (sym line_is) ∙ is in
    rw (rest_is, at) refl

pub not_closed : (kind : Kind) (more line body heading : List ℕ) (seqno : ℕ) → rest_of more ≡ Some body → line ≡ line_of more → heading_in line ≡ Some heading
    → is_closed_text kind body ≡ false → with_number kind more seqno ≡ None
not_closed kind more line body heading seqno rest_is line_is is other =
    let at : heading_in (line_of more) ≡ Some heading = ap heading_in (sym line_is) ∙ is in
    rw (rest_is, at, other) refl

pub closed : (kind : Kind) (more line body heading : List ℕ) (seqno : ℕ) → rest_of more ≡ Some body → line ≡ line_of more → heading_in line ≡ Some heading
    → is_closed_text kind body ≡ true → with_number kind more seqno ≡ Some (record { seqno = seqno; heading = heading })
closed kind more line body heading seqno rest_is line_is is ends =
    let at : heading_in (line_of more) ≡ Some heading = ap heading_in (sym line_is) ∙ is in
    rw (rest_is, at, ends) refl
