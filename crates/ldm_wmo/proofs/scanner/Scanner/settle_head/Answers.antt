use Rattle.std.proofs.Common.{◌≡◌, ◌∙◌, ◌<◌, ◌≤◌, List, ℕ, None, ap, arith, length, rules, subst, sym, true, false}
use Rattle.std.specs.Str.{bytes_eq}
use Rattle.ldm_wmo.specs.declared.stage.FrameStage.TheVariants.{Head}
use Rattle.ldm_wmo.specs.declared.stage.Stage.{Stage}
use Rattle.ldm_wmo.specs.declared.stage.Stage.TheVariants.{Framed}
use Rattle.ldm_wmo.specs.Frames.{file_end, head_of}
use Rattle.ldm_wmo.specs.Scanning.{Scanning, headed, headed_as}
use Rattle.ldm_wmo.proofs.Framed.{head_open, headed_file, headed_ten}
use Rattle.ldm_wmo.proofs.Runs.{at_stage}
use Rattle.ldm_wmo.proofs.scanner.Scanner.settle_head.Goals as goal

pub returns-then-eq : goal.returns-then-eq
returns-then-eq c =
    let same : c.args.self.now.candidate ≡ c.as_slice.result.now = sym (c.as_slice.ensures.value ∙ ap (λ (s : Scanning). s.candidate) c.self.view_is) in
    let is : bytes_eq c.args.self.now.candidate file_end ≡ true = ap (λ (x : List ℕ). bytes_eq x file_end) same ∙ sym c.if-eq.ensures in
    c.restart.ensures ∙ sym (headed_file c.args.at c.args.self.now.place c.args.self.now.candidate is)

pub returns-then-len-lt-HEAD_LENGTH : goal.returns-then-len-lt-HEAD_LENGTH
returns-then-len-lt-HEAD_LENGTH c =
    let items = c.self.inside.candidate.items in
    let other : bytes_eq items file_end ≡ false = ap (λ (x : List ℕ). bytes_eq x file_end) (sym c.as_slice.ensures.value) ∙ sym c.if-eq.ensures in
    let len : c.len.result ≡ length items = search rules in
    let short : length items < 10 = omega (arith, len, c.if-len-lt-HEAD_LENGTH.true) in
    let P : Scanning → Type 0 = λ s. at_stage c.self.inside.place items (Framed (Head c.args.at)) ≡ headed c.args.at s.place s.candidate in
    subst P c.self.view_is (sym (head_open c.args.at c.self.inside.place items other short))

pub returns-in-Some : goal.returns-in-Some
returns-in-Some c =
    let now = c.args.self.now in
    let seen : now.candidate ≡ c.self.inside.candidate.items = sym (ap (λ (s : Scanning). s.candidate) c.self.view_is) in
    let same : now.candidate ≡ c.as_slice.result.now = seen ∙ sym c.as_slice.ensures.value in
    let other : bytes_eq now.candidate file_end ≡ false = ap (λ (x : List ℕ). bytes_eq x file_end) same ∙ sym c.if-eq.ensures in
    let len : c.len.result ≡ length c.self.inside.candidate.items = search rules in
    let long : 10 ≤ length now.candidate = omega (arith, len, c.if-len-lt-HEAD_LENGTH.false, ap length seen) in
    let again : now.candidate ≡ c.as_slice-else-len-lt-HEAD_LENGTH.result.now = seen ∙ sym c.as_slice-else-len-lt-HEAD_LENGTH.ensures.value in
    let head = ap head_of again ∙ c.in-Some.ensures.read in
    c.restart-in-Some.ensures ∙ sym (headed_ten c.args.at now.place now.candidate other long ∙ ap (headed_as c.args.at now.place now.candidate) head)

pub returns-in_default : goal.returns-in_default
returns-in_default c =
    let now = c.args.self.now in
    let seen : now.candidate ≡ c.self.inside.candidate.items = sym (ap (λ (s : Scanning). s.candidate) c.self.view_is) in
    let same : now.candidate ≡ c.as_slice.result.now = seen ∙ sym c.as_slice.ensures.value in
    let other : bytes_eq now.candidate file_end ≡ false = ap (λ (x : List ℕ). bytes_eq x file_end) same ∙ sym c.if-eq.ensures in
    let len : c.len.result ≡ length c.self.inside.candidate.items = search rules in
    let long : 10 ≤ length now.candidate = omega (arith, len, c.if-len-lt-HEAD_LENGTH.false, ap length seen) in
    let again : now.candidate ≡ c.as_slice-else-len-lt-HEAD_LENGTH.result.now = seen ∙ sym c.as_slice-else-len-lt-HEAD_LENGTH.ensures.value in
    let none : head_of now.candidate ≡ None = ap head_of again ∙ c.in_default.ensures.read in
    ap (λ (st : Stage). at_stage now.place now.candidate st) c.requires
    ∙ sym (headed_ten c.args.at now.place now.candidate other long ∙ ap (headed_as c.args.at now.place now.candidate) none)
