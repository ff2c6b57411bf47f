use Rattle.std.proofs.Common.{◌≡◌, ◌∙◌, ◌+◌, ◌<◌, ◌^◌, ℕ, [], ◌∷◌, ◌++◌, ap, get_or, subst, sym}
use Rattle.ldm_wmo.specs.declared.stage.FrameStage.TheVariants.{Between, Head, Body, Lost}
use Rattle.ldm_wmo.specs.declared.stage.Stage.{Stage}
use Rattle.ldm_wmo.specs.declared.stage.Stage.TheVariants.{Framed}
use Rattle.ldm_wmo.specs.Scanning.{Scanning, is_line, place}
use Rattle.ldm_wmo.specs.Stages.{StageFits}
use Rattle.ldm_wmo.specs.Taking.{TakesFront}
use Rattle.ldm_wmo.proofs.Framed.{between_more, body_taken, head_more, headed_framed, lost_taken}
use Rattle.ldm_wmo.proofs.scanner.Scanner.take_some.Goals as goal

pub returns-in-Between-clause-front : goal.returns-in-Between-clause-front
returns-in-Between-clause-front c =
    let now = c.args.self.now in
    let new = c.take_head-in-Between.new.self in
    let stage : now.stage ≡ Framed Between = sym (ap (λ (s : Scanning). s.stage) c.self.view_is) ∙ c.in-Framed.is ∙ ap Framed c.in-Between.is in
    let P : ℕ → Type 0 = λ n. TakesFront now c.args.piece.now n new in
    subst P (sym c.take_head-in-Between.ensures.one)
    (between_more now new c.args.piece.now c.take_head.inside.place stage c.requires.some (ap (λ (s : Scanning). s.place) c.take_head.view_is) c.take_head-in-Between.ensures.headed)

pub returns-in-Between-clause-framed : goal.returns-in-Between-clause-framed
returns-in-Between-clause-framed c =
    let now = c.args.self.now in
    ap is_line c.take_head-in-Between.ensures.headed
    ∙ headed_framed c.take_head.inside.place (place (now.place + 1)) (now.candidate ++ get_or c.args.piece.now 0 0 ∷ [])

pub returns-in-Head-clause-front : goal.returns-in-Head-clause-front
returns-in-Head-clause-front c =
    let now = c.args.self.now in
    let new = c.take_head-in-Head.new.self in
    let stage : now.stage ≡ Framed (Head c.in-Head.at) = sym (ap (λ (s : Scanning). s.stage) c.self.view_is) ∙ c.in-Framed.is ∙ ap Framed c.in-Head.is in
    let P : ℕ → Type 0 = λ n. TakesFront now c.args.piece.now n new in
    subst P (sym c.take_head-in-Head.ensures.one) (head_more now new c.args.piece.now c.in-Head.at stage c.requires.some c.take_head-in-Head.ensures.headed)

pub returns-in-Head-clause-framed : goal.returns-in-Head-clause-framed
returns-in-Head-clause-framed c =
    let now = c.args.self.now in
    ap is_line c.take_head-in-Head.ensures.headed ∙ headed_framed c.in-Head.at (place (now.place + 1)) (now.candidate ++ get_or c.args.piece.now 0 0 ∷ [])

pub returns-in-Body-clause-front : goal.returns-in-Body-clause-front
returns-in-Body-clause-front c =
    let now = c.args.self.now in
    let at = c.in-Body.at in
    let left = c.in-Body.left in
    let kind = c.in-Body.kind in
    let inner : c.self.inside.stage ≡ Framed (Body at left kind) = c.in-Framed.is ∙ ap Framed c.in-Body.is in
    let stage : now.stage ≡ Framed (Body at left kind) = sym (ap (λ (s : Scanning). s.stage) c.self.view_is) ∙ inner in
    let P : Stage → Type 0 = λ st. StageFits st c.self.inside.candidate.items in
    let fits = subst P inner c.self.invariant.stage in
    let Q : ℕ → Type 0 = λ p. p < 2 ^ 64 in
    body_taken now c.take_body.new.self c.args.piece.now at left kind c.take_body.result stage
    (subst Q (ap (λ (s : Scanning). s.place) c.self.view_is) c.self.invariant.small) fits.0 c.take_body.ensures.count c.take_body.ensures.body

pub returns-in-Lost-clause-front : goal.returns-in-Lost-clause-front
returns-in-Lost-clause-front c =
    let now = c.args.self.now in
    let stage : now.stage ≡ Framed Lost = sym (ap (λ (s : Scanning). s.stage) c.self.view_is) ∙ c.in-Framed.is ∙ ap Framed c.in-Lost.is in
    let Q : ℕ → Type 0 = λ p. p < 2 ^ 64 in
    lost_taken now c.pass.new.self c.args.piece.now stage (subst Q (ap (λ (s : Scanning). s.place) c.self.view_is) c.self.invariant.small) c.pass.ensures
