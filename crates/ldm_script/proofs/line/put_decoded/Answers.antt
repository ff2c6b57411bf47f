use Rattle.ldm_script.proofs.line.put_decoded.Goals as goal

pub unreachable-requires : goal.unreachable-requires
unreachable-requires c =
    cc (c.as_slice.ensures.value, c.as_slice-2.ensures.value, c.decoded-origin.ensures, c.decoded-ident.ensures, c.in_default.ensures, c.requires.fit)
