-- What an announcement comes to, by what was tested.
use Rattle.std.proofs.Common.{◌≡◌, ℕ, ◌==◌, Bool, true, false, [], ◌∷◌, Some, refl, ap, ◌∙◌}
use Rattle.std.proofs.lemmas.Bool.{eq-eqb, ne_eqb}
use Rattle.std.specs.Prelude.{if◌then◌else◌, is_none, ◌&&◌}
use Rattle.ldm_types.specs.Info.{Metadata}
use Rattle.ldm_model.specs.Answers.{reserve_answer}
use Rattle.ldm_model.specs.declared.replies.ReserveReply.{ReserveReply}
use Rattle.ldm_model.specs.declared.replies.ReserveReply.TheVariants as reserving
use Rattle.ldm_relay.specs.declared.message.SoonAnswer.TheVariants as soon_answer
use Rattle.ldm_relay.specs.declared.message.TheConstants.{LARGEST_BLOCK}
use Rattle.ldm_relay.specs.Sent as sent
use Rattle.ldm_intake.specs.Course.{Course, Comes}
use Rattle.ldm_intake.specs.Notes.{Unwanted}
use Rattle.ldm_intake.specs.Products.{accepts, commits, comingsoon, comingsoon_wanted, declines, reserved, reserve_note}
use Rattle.ldm_intake.specs.Receiving.{Receiving, is_wanted}
use Rattle.ldm_intake.specs.Step.{Step, Goes, Bad}

-- blocks of a copy are to come
pub waits-copy : (old new : Receiving) (info copy : Metadata) (r : ℕ) → new ≡ record old { pending = Some (record { info = copy; r = r; blocks = 0 }) } → copy ≡ info
    → new ≡ record old { pending = Some (record { info = info; r = r; blocks = 0 }) }
waits-copy old new info copy r is same = is ∙ ap (λ (i : Metadata). record old { pending = Some (record { info = i; r = r; blocks = 0 }) }) same

module _ (s : Receiving) (now xid : ℕ) (info : Metadata) where
  -- a product that has a body
  pub accepts-blocks : (r : ℕ) → (info.size ≡ 0 → ⊥) → accepts s now xid info r
      ≡ Comes (Goes (record s { pending = Some (record { info = info; r = r; blocks = 0 }) }) (sent.ComingsoonReply xid soon_answer.Ok ∷ []) [])
  accepts-blocks r some =
      let waits : Course Step = Comes (Goes (record s { pending = Some (record { info = info; r = r; blocks = 0 }) }) (sent.ComingsoonReply xid soon_answer.Ok ∷ []) []) in
      ap (λ (none : Bool). if none then commits s now (sent.ComingsoonReply xid soon_answer.Ok ∷ []) info r else waits) (ne_eqb info.size 0 some)

  -- a product that has none
  pub accepts-empty : (r : ℕ) → info.size ≡ 0 → accepts s now xid info r ≡ commits s now (sent.ComingsoonReply xid soon_answer.Ok ∷ []) info r
  accepts-empty r none =
      let waits : Course Step = Comes (Goes (record s { pending = Some (record { info = info; r = r; blocks = 0 }) }) (sent.ComingsoonReply xid soon_answer.Ok ∷ []) []) in
      ap (λ (empty : Bool). if empty then commits s now (sent.ComingsoonReply xid soon_answer.Ok ∷ []) info r else waits) (eq-eqb info.size 0 none)

  -- a product that is not wanted
  pub comingsoon-unwanted : (block_size : ℕ) → is_none s.pending ≡ true → block_size ≡ LARGEST_BLOCK → is_wanted s.wanting info ≡ false
      → comingsoon s now xid info block_size ≡ declines s xid info (Unwanted info.ident ∷ [])
  comingsoon-unwanted block_size idle size unwanted =
      let declined : Course Step = declines s xid info (Unwanted info.ident ∷ []) in
      let bad : Course Step = Comes Bad in
      ap (λ (b : Bool). if b && (block_size == LARGEST_BLOCK) then (if is_wanted s.wanting info then comingsoon_wanted s now xid info else declined) else bad) idle
      ∙ ap (λ (b : Bool). if b then (if is_wanted s.wanting info then comingsoon_wanted s now xid info else declined) else bad) (eq-eqb block_size LARGEST_BLOCK size)
      ∙ ap (λ (b : Bool). if b then comingsoon_wanted s now xid info else declined) unwanted

  -- no room was reserved
  pub reserved-refused : (reply : ReserveReply) → ((r evicted : ℕ) → reply ≡ reserving.Reserved r evicted → ⊥)
      → reserved s now xid info (reserve_answer reply) ≡ declines s xid info (reserve_note info (reserve_answer reply))
  reserved-refused (reserving.TooBig need arena) refused = refl
  reserved-refused (reserving.Duplicate n) refused = refl
  reserved-refused reserving.AllReserved refused = refl
  reserved-refused (reserving.Locked held) refused = refl
  reserved-refused (reserving.Reserved r evicted) refused = absurd (refused r evicted refl)
