-- Places that an actor was last answered.
use Rattle.std.proofs.Common.{◌≡◌, refl}
use Rattle.ldm_model.specs.declared.replies.InsertReply.{InsertReply}
use Rattle.ldm_model.specs.declared.replies.InsertReply.TheVariants.{Admitted, TooBig, Duplicate, TimeEnd, Locked}
use Rattle.ldm_model.specs.Answers.{insert_answer}
use Rattle.ldm_script.specs.declared.order.LastPlaces.{LastPlaces}
use Rattle.ldm_script.specs.Resolve.{last_after}

-- no insertion is answered with a place
pub insert_keeps : (last : LastPlaces) (reply : InsertReply) → last ≡ last_after last (insert_answer reply)
insert_keeps last (Admitted n time evicted) = refl
insert_keeps last (TooBig need arena) = refl
insert_keeps last (Duplicate n) = refl
insert_keeps last TimeEnd = refl
insert_keeps last (Locked held) = refl
