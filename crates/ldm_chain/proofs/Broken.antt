-- How a feeding over a mirror came out, part by part.
use Rattle.std.proofs.Common.{◌≡◌, ◌∙◌, Option, Some, None, inl, inr, refl, ap, subst, sym}
use Rattle.std.specs.Prelude.{◌⊎◌, IsSome}
use Rattle.ldm_shared.specs.Passes.{PassView}
use Rattle.ldm_intake.specs.declared.end.RecvEnd.{RecvEnd}
use Rattle.ldm_intake.specs.declared.end.RecvEnd.TheVariants as receive
use Rattle.ldm_sender.specs.declared.end.SendEnd.{SendEnd}
use Rattle.ldm_sender.specs.declared.end.SendEnd.TheVariants as feed
use Rattle.ldm_sender.specs.Asked.{Asked}
use Rattle.ldm_chain.specs.Beginning.{Beginning}
use Rattle.ldm_chain.specs.declared.node.Break.{Break}
use Rattle.ldm_chain.specs.declared.node.Break.TheVariants as broken
use Rattle.ldm_chain.specs.Breaking.{Came, CameRest, IsToldPart}
use Rattle.ldm_chain.specs.Ending.{by_receiver, ended_by}
use Rattle.ldm_chain.specs.Linking.{Fed, FedRest}
use Rattle.ldm_chain.specs.MirrorView.{MirrorView}
use Rattle.ldm_chain.specs.Reflecting.{Reflects}

-- ---- how a feeding ended

module _ (asked : Asked) (old new : PassView) (before after : MirrorView) where
  pub first-came : (why : SendEnd) (b : Beginning) → Fed why asked old new before after → (why ≡ feed.Reclassed → IsSome after.receiver.end) → Came (ended_by why) b asked old new before after
  first-came feed.Stopped b fed over = inl fed
  first-came feed.Reclassed b fed over = (λ no. cc no, inl (record { fed = fed; over = over }))
  first-came (feed.Denied rule) b fed over = (λ no. cc no, inl (record { fed = fed; over = over }))
  first-came (feed.PeerEnd at) b fed over = (λ no. cc no, inl (record { fed = fed; over = over }))
  first-came feed.LinkFault b fed over = (λ no. cc no, inl (record { fed = fed; over = over }))
  first-came feed.LogFault b fed over = (λ no. cc no, inl (record { fed = fed; over = over }))
  first-came (feed.BadReply at) b fed over = (λ no. cc no, inl (record { fed = fed; over = over }))
  first-came feed.AllBusy b fed over = (λ no. cc no, inl (record { fed = fed; over = over }))
  first-came feed.Worn b fed over = (λ no. cc no, inl (record { fed = fed; over = over }))
  first-came feed.OutOfMemory b fed over = (λ no. cc no, inl (record { fed = fed; over = over }))

-- ---- what is left of a class

module _ (b : Beginning) (asked : Asked) (old mid new : PassView) (before told after : MirrorView) (first : Fed feed.Reclassed asked old mid before told)
    (live : told.receiver.end ≡ None) (so_far : Reflects b told) where
  -- it was not fed
  told-part : new ≡ mid → after ≡ told → IsToldPart asked old new before after
  told-part pass_is mirror_is = record {
    fed = subst (λ (p : PassView). Fed feed.Reclassed asked old p before after) (sym pass_is)
        (subst (λ (m : MirrorView). Fed feed.Reclassed asked old mid before m) (sym mirror_is) first);
    goes_on = ap (λ (m : MirrorView). m.receiver.end) mirror_is ∙ live;
  }

  pub rest-came : (rest : Option Break) → CameRest rest asked mid new told after → Came rest b asked old new before after
  rest-came None came = inr (record { mid = mid; told = told; first = first; goes_on = live; so_far = so_far; rest = came })
  rest-came (Some (broken.Feed why)) came = (came.0, inr (record { mid = mid; told = told; first = first; goes_on = live; so_far = so_far; rest = came.1 }))
  rest-came (Some (broken.Receive end)) came = (came.0, told-part came.1 came.2)
  rest-came (Some broken.OutOfMemory) came = told-part came.0 came.1

-- how feeding what is left ended
module _ (asked : Asked) (old new : PassView) (before after : MirrorView) where
  pub rest-ended : (why : SendEnd) → FedRest why asked old new before after → CameRest (ended_by why) asked old new before after
  rest-ended feed.Stopped rest = rest
  rest-ended feed.Reclassed rest = (λ no. cc no, rest)
  rest-ended (feed.Denied rule) rest = (λ no. cc no, rest)
  rest-ended (feed.PeerEnd at) rest = (λ no. cc no, rest)
  rest-ended feed.LinkFault rest = (λ no. cc no, rest)
  rest-ended feed.LogFault rest = (λ no. cc no, rest)
  rest-ended (feed.BadReply at) rest = (λ no. cc no, rest)
  rest-ended feed.AllBusy rest = (λ no. cc no, rest)
  rest-ended feed.Worn rest = (λ no. cc no, rest)
  rest-ended feed.OutOfMemory rest = (λ no. cc no, rest)

-- ---- want of memory

-- a receiver that ended by what it was told decides
pub wants-memory : (over : Option RecvEnd) (fed : Option Break) → by_receiver over fed ≡ Some broken.OutOfMemory → (over ≡ None) ⊎ (over ≡ Some receive.OutOfMemory)
wants-memory None fed is = inl refl
wants-memory (Some receive.OutOfMemory) fed is = inr refl
wants-memory (Some receive.Ended) fed is = absurd (cc is)
wants-memory (Some (receive.Truncated at)) fed is = absurd (cc is)
wants-memory (Some (receive.BadFrame at)) fed is = absurd (cc is)
wants-memory (Some (receive.Refused answer)) fed is = absurd (cc is)
wants-memory (Some receive.LinkFault) fed is = absurd (cc is)
wants-memory (Some receive.LogFault) fed is = absurd (cc is)
wants-memory (Some receive.StreamLimit) fed is = absurd (cc is)
wants-memory (Some receive.Worn) fed is = absurd (cc is)
