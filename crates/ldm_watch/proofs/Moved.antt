-- What a record said, and what that came to.
use Rattle.std.proofs.Common.{◌≡◌, ℕ, true, List, [], ◌∷◌, ◌++◌, Option, Some, None, refl, ap, sym, subst, ◌∙◌, append_assoc}
use Rattle.std.proofs.lemmas.List.Concat.{flat_map-append}
use Rattle.std.proofs.lemmas.List.{flat_map_more}
use Rattle.ldm_types.specs.Info.{Metadata}
use Rattle.ldm_types.specs.declared.class.ClassSpec.{ClassSpec}
use Rattle.ldm_relay.specs.Spelling.{records_of, record_of, written as spelling_of}
use Rattle.ldm_relay.specs.Sent.{Sent}
use Rattle.ldm_relay.specs.Sent as sent
use Rattle.ldm_relay.specs.declared.message.ClassAnswer.{ClassAnswer}
use Rattle.ldm_watch.specs.declared.end.WatchEnd.{WatchEnd}
use Rattle.ldm_watch.specs.declared.end.WatchEnd.TheVariants.{BadFrame, Refused}
use Rattle.ldm_watch.specs.declared.form.NoticeForm.{NoticeForm}
use Rattle.ldm_watch.specs.declared.step.Step.{Step}
use Rattle.ldm_watch.specs.declared.step.Step.TheVariants.{Alive, Begins, AsksAgain, Notice, Bad, Declined}
use Rattle.ldm_watch.specs.declared.stop.Stop.{Stop}
use Rattle.ldm_watch.specs.declared.stop.Stop.TheVariants.{Over, OutOfMemory}
use Rattle.ldm_watch.specs.declared.watching.Phase.TheVariants.{Asked, Told}
use Rattle.ldm_watch.specs.declared.watching.Watching.{Watching}
use Rattle.ldm_watch.specs.Notices.{notice_line, notice_lines}
use Rattle.ldm_watch.specs.Taking.{Standing, IsAt, StepsTo, Moves, Counts, Takes, Finds}
use Rattle.ldm_watch.specs.Step.{watch_step}
use Rattle.ldm_watch.specs.Watched.{Watched, after_step, watched}
use Rattle.ldm_watch.proofs.Taken.{counted-form, watched-one}

pub alive : (at : ℕ) (old : Standing) → StepsTo None Alive at old old
alive at old t went written is = is

pub begins : (at : ℕ) (old : Standing) → StepsTo None Begins at old (record old { watching = record old.watching { phase = Told } })
begins at old t went written is = record {
  end_is = is.end_is;
  watching_is = ap (λ (w : Watching). record w { phase = Told }) is.watching_is;
  owed = is.owed;
  told = is.told;
}

pub bad : (at : ℕ) (old : Standing) → StepsTo (Some (BadFrame at)) Bad at old old
bad at old t went written is = record { end_is = refl; watching_is = is.watching_is; owed = is.owed; told = is.told }

pub declined : (answer : ClassAnswer) (at : ℕ) (old : Standing) → StepsTo (Some (Refused answer)) (Declined answer) at old old
declined answer at old t went written is = record { end_is = refl; watching_is = is.watching_is; owed = is.owed; told = is.told }

-- the message behind those that were owed before
module _ (class : ClassSpec) (at : ℕ) (w : Watching) (out new_out lines : List ℕ) (out_is : new_out ≡ out ++ records_of (sent.Notifyme 2 class ∷ [])) where
  pub asked : StepsTo None (AsksAgain class) at (record { watching = w; out = out; lines = lines })
      (record { watching = record w { class = class; phase = Asked true }; out = new_out; lines = lines })
  asked t went written is =
      let more = records_of (sent.Notifyme 2 class ∷ []) in
      record {
        end_is = is.end_is;
        watching_is = ap (λ (v : Watching). record v { class = class; phase = Asked true }) is.watching_is;
        owed = ap (λ (bytes : List ℕ). went ++ bytes) out_is ∙ sym (append_assoc went out more) ∙ ap (λ (bytes : List ℕ). bytes ++ more) is.owed
            ∙ sym (flat_map-append (λ (m : Sent). record_of (spelling_of m)) t.owed (sent.Notifyme 2 class ∷ []));
        told = is.told;
      }

-- the notice behind those before, and one fewer is left to come
module _ (info : Metadata) (at : ℕ) (w new : Watching) (out lines new_lines : List ℕ) (lines_are : new_lines ≡ lines ++ notice_line w.form info) where
  told_of : (t : Watched) (written : List ℕ) → w ≡ t.watching → written ++ lines ≡ notice_lines t.watching.form t.notices
      → written ++ new_lines ≡ notice_lines t.watching.form (t.notices ++ info ∷ [])
  told_of t written same is =
      let line = notice_line t.watching.form in
      ap (λ (bytes : List ℕ). written ++ bytes) (lines_are ∙ ap (λ (v : Watching). lines ++ notice_line v.form info) same)
      ∙ sym (append_assoc written lines (line info)) ∙ ap (λ (bytes : List ℕ). bytes ++ line info) is ∙ flat_map_more line [] t.notices info

  pub noticed : (result : Option Stop) → ((t : Watched) → w ≡ t.watching → Counts result t new)
      → Moves result (Notice info) at (record { watching = w; out = out; lines = lines }) (record { watching = new; out = out; lines = new_lines })
  noticed None counts = λ t went written is.
      let u = record t { notices = t.notices ++ info ∷ [] } in
      let counted_is = counts u is.watching_is in
      let form_is : t.watching.form ≡ new.form = sym (counted-form u u.watching.left) ∙ ap (λ (v : Watched). v.watching.form) counted_is in
      let told = told_of t written is.watching_is is.told ∙ ap (λ (form : NoticeForm). notice_lines form (t.notices ++ info ∷ [])) form_is in
      let there : IsAt (record u { watching = new }) None went written (record { watching = new; out = out; lines = new_lines }) =
      record { end_is = is.end_is; watching_is = refl; owed = is.owed; told = told } in
      subst (λ (v : Watched). IsAt v None went written (record { watching = new; out = out; lines = new_lines })) (sym counted_is) there
  noticed (Some (Over end)) counts = λ t went written is.
      let u = record t { notices = t.notices ++ info ∷ [] } in
      let counted_is = counts u is.watching_is in
      let there : IsAt (record u { end = Some end }) (Some end) went written (record { watching = new; out = out; lines = new_lines }) =
      record { end_is = refl; watching_is = counted_is.1; owed = is.owed; told = told_of t written is.watching_is is.told } in
      subst (λ (v : Watched). IsAt v (Some end) went written (record { watching = new; out = out; lines = new_lines })) (sym counted_is.0) there
  noticed (Some OutOfMemory) counts = tt

-- ---- a record, by what it says

moves-takes : (end : Option WatchEnd) (step : Step) (at : ℕ) (content : List ℕ) (old new : Standing) → step ≡ watch_step old.watching content → StepsTo end step at old new
    → Takes (record { at = at; content = content } ∷ []) end old new
moves-takes end step at content old new step_is steps t went written is =
    let said : step ≡ watch_step t.watching content = step_is ∙ ap (λ (w : Watching). watch_step w content) is.watching_is in
    let there : watched t (record { at = at; content = content } ∷ []) ≡ after_step t at step =
    watched-one t (record { at = at; content = content }) is.end_is ∙ ap (after_step t at) (sym said) in
    subst (λ (u : Watched). IsAt u end went written new) (sym there) (steps t went written is)

pub moves-finds : (result : Option Stop) (step : Step) (at : ℕ) (content : List ℕ) (old new : Standing) → step ≡ watch_step old.watching content → Moves result step at old new
    → Finds result at (Some content) old new
moves-finds None step at content old new step_is moves = moves-takes None step at content old new step_is moves
moves-finds (Some (Over end)) step at content old new step_is moves = moves-takes (Some end) step at content old new step_is moves
moves-finds (Some OutOfMemory) step at content old new step_is moves = tt
