use Rattle.ldm_between_ends.proofs.MeetingWitness.{cut-feeding, cut-receiving, they-connect, is-granted, feeds-to, receives-to}
use Rattle.ldm_between_ends.proofs.meeting_examples.a_connection_can_be.Goals as goal

pub returns : goal.returns
returns c = (cut-feeding, cut-receiving, they-connect, is-granted, feeds-to, receives-to)
