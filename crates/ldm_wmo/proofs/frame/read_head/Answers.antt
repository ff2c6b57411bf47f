use Rattle.std.proofs.Common.{◌∙◌, ap, sym}
use Rattle.ldm_wmo.specs.Frames.{is_size, kind_of}
use Rattle.ldm_wmo.specs.Lines.{number_of}
use Rattle.ldm_wmo.proofs.Frames.{a_head, no_kind, no_size}
use Rattle.ldm_wmo.proofs.frame.read_head.Goals as goal

pub returns-in_err-size-clause-read : goal.returns-in_err-size-clause-read
returns-in_err-size-clause-read c =
    rw c.from_residual.ensures (no_size c.args.bytes.now (ap is_size (sym c.split_at.ensures.front) ∙ c.in_err-size.ensures.read))

pub returns-in_err-kind-clause-read : goal.returns-in_err-kind-clause-read
returns-in_err-kind-clause-read c =
    rw c.from_residual-in_err-kind.ensures
    (no_kind c.args.bytes.now (ap is_size (sym c.split_at.ensures.front) ∙ c.in_ok-size.ensures.read) (c.in_err-kind.ensures ∙ ap kind_of c.split_at.ensures.back))

pub returns-clause-read : goal.returns-clause-read
returns-clause-read c =
    a_head c.args.bytes.now c.in_ok-size.size c.in_ok-kind.kind (ap is_size (sym c.split_at.ensures.front) ∙ c.in_ok-size.ensures.read)
    (c.in_ok-size.ensures.size ∙ ap number_of c.split_at.ensures.front) (c.in_ok-kind.ensures ∙ ap kind_of c.split_at.ensures.back)
