use Rattle.ldm_shared.proofs.shared.Shared.call_onto.Given as goal

-- the entry of the call
abbrev pub ghosts-give : goal.ghosts-give
ghosts-give g a = record { entry = record { actor = a.actor; event = g.C.Asks.event; reply = g.C.Asks.reply a.answer.now a.into.now } }
