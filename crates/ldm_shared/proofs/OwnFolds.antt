-- What replies say over a whole history, they say over the owner's entries alone.
use Rattle.std.proofs.Common.{◌≡◌, ℕ, ◌==◌, Bool, true, false, cond, List, [], ◌∷◌, ◌++◌, Option, refl, ap, ◌∙◌}
use Rattle.std.specs.Prelude.{◌&&◌}
use Rattle.std.specs.Option.{option_map}
use Rattle.ldm_model.specs.declared.event.Reply.{Reply}
use Rattle.ldm_model.specs.declared.event.Reply.TheVariants as reply
use Rattle.ldm_model.specs.declared.event.Entry.{Entry}
use Rattle.ldm_model.specs.Law.{Point, Hold, at_entries, is_own, over_replies, after_hold}
use Rattle.ldm_shared.specs.Own.{own}
use Rattle.ldm_shared.specs.OwnReaders.{is_about, over_own, with_held}

-- an entry more in the history
over_own-entry : {A : Type 0} (k : ℕ) (change : A → Reply → A) (x : A) (mine : Bool) (entry : Entry) (entries : List Entry)
    → over_own k change (cond (mine && is_about k entry) (change x entry.reply) x) entries ≡ over_own k change x (cond mine (entry ∷ entries) entries)
over_own-entry k change x true entry entries = refl
over_own-entry k change x false entry entries = refl

pub over_own-same : {A : Type 0} (p : Point) (change : A → Reply → A) (x : A) (so_far entries : List Entry)
    → over_replies p (λ at y r. change y r) x so_far entries ≡ over_own p.k change x (own p.owner entries)
over_own-same p change x so_far [] = refl
over_own-same p change x so_far (entry ∷ entries) =
    over_own-same p change (cond (is_own p entry) (change x entry.reply) x) (so_far ++ entry ∷ []) entries
    ∙ over_own-entry p.k change x (entry.actor == p.owner) entry (own p.owner entries)

-- the number of a hold
abbrev pub number_of : Option Hold → Option ℕ
number_of hold = option_map (λ (h : Hold). h.number) hold

number_of-reply : (at : Point) (hold : Option Hold) (r : Reply) → number_of (after_hold at hold r) ≡ with_held (number_of hold) r
number_of-reply at hold (reply.Product n time info) = refl
number_of-reply at hold (reply.Released n) = refl
number_of-reply at hold _ = refl

number_of-entry : (at : Point) (hold : Option Hold) (r : Reply) (mine : Bool) → number_of (cond mine (after_hold at hold r) hold) ≡ cond mine (with_held (number_of hold) r) (number_of hold)
number_of-entry at hold r true = number_of-reply at hold r
number_of-entry at hold r false = refl

pub over_own-held : (p : Point) (hold : Option Hold) (so_far entries : List Entry)
    → number_of (over_replies p after_hold hold so_far entries) ≡ over_own p.k with_held (number_of hold) (own p.owner entries)
over_own-held p hold so_far [] = refl
over_own-held p hold so_far (entry ∷ entries) =
    over_own-held p (cond (is_own p entry) (after_hold (at_entries p so_far) hold entry.reply) hold) (so_far ++ entry ∷ []) entries
    ∙ (ap (λ (held : Option ℕ). over_own p.k with_held held (own p.owner entries)) (number_of-entry (at_entries p so_far) hold entry.reply (is_own p entry))
    ∙ over_own-entry p.k with_held (number_of hold) (entry.actor == p.owner) entry (own p.owner entries))
