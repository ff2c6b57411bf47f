use Rattle.std.proofs.Common.{◌≡◌, ◌∙◌, ◌+◌, ◌-◌, ◌==◌, ℕ, false, List, [], ◌∷◌, ◌++◌, length, take, drop, None, Result, Ok, Err, IfErr, OnOk, sym, ap, subst, inl, inr, arith, eq-eqb}
use Rattle.memchr.specs.Find.{IsFirstByte, is_byte}
use Rattle.std.proofs.lemmas.Bool.{cases_lt, false≢true}
use Rattle.std.proofs.lemmas.Result.{err_from_is_err_and}
use Rattle.std.proofs.lemmas.List.{take_rest, length-take, length-drop}
use Rattle.ldm_script.specs.Lines.{lines_of}
use Rattle.ldm_script.proofs.SplitLemmas.{cut_at, lacks-none}
use Rattle.ldm_crowd.specs.OrdersView.{orders_in, IsFaultOf, IsFaultOfLine}
use Rattle.ldm_crowd.specs.declared.orders.OrdersFault.{OrdersFault}
use Rattle.ldm_crowd.proofs.Dealing.{IsReadTo, lines_of-line, lines_of-plain, last_line-some, in_front-nil, read_on, read_whole, fault_on}
use Rattle.ldm_crowd.proofs.orders.deal_all.Goals as goal

pub loop-at-init : goal.loop-at-init
loop-at-init c = record {
  number = omega arith;
  front = ([], c.requires.none, sym (in_front-nil _));
}

pub returns-in_err-deal-clause-faults : goal.returns-in_err-deal-clause-faults
returns-in_err-deal-clause-faults c =
    let front = c.loop-at.invariant.front in
    let rest = c.loop-at.rest.now in
    let at = c.in-Some.at in
    let cut = cut_at 10 rest at c.in-Some.ensures in
    let first : lines_of rest ≡ take at rest ∷ lines_of (drop (at + 1) rest) = ap lines_of cut.whole ∙ lines_of-line (take at rest) (drop (at + 1) rest) cut.front in
    let why = err_from_is_err_and c.from_residual.result c.from_residual.ensures.1 in
    rw (why.1, why.2)
    (fault_on c.args.actors c.args.text.now front.0 c.loop-at.number rest front.2 (take at rest) (lines_of (drop (at + 1) rest)) first c.in_err-deal.field-0.0 c.in_err-deal.ensures.faults)

pub loop-at-preserved : goal.loop-at-preserved
loop-at-preserved c =
    let front = c.loop-at.invariant.front in
    let rest = c.loop-at.rest.now in
    let at = c.in-Some.at in
    let cut = cut_at 10 rest at c.in-Some.ensures in
    let first : lines_of rest ≡ take at rest ∷ lines_of (drop (at + 1) rest) = ap lines_of cut.whole ∙ lines_of-line (take at rest) (drop (at + 1) rest) cut.front in
    let left = take_rest rest (at + 1) in
    let done = front.0 ++ orders_in c.args.actors (take at rest) in
    record {
      number = omega (arith, c.loop-at.invariant.number, length-take (length rest - (at + 1)) (drop (at + 1) rest), length-drop (at + 1) rest, cut.within);
      front = (
        done,
        c.in_ok-deal.ensures.dealt front.0 front.1,
        subst (λ (x : List ℕ). IsReadTo c.args.actors c.args.text.now done (c.loop-at.number + 1) x) (sym left)
            (read_on c.args.actors c.args.text.now front.0 c.loop-at.number rest front.2 (take at rest) (lines_of (drop (at + 1) rest)) first c.in_ok-deal.ensures.read),
      );
    }

-- the last line, which no newline ends
only_line : (rest : List ℕ) → IsFirstByte (is_byte 10) rest None → (length rest == 0) ≡ false → lines_of rest ≡ rest ∷ []
only_line rest none some =
    lines_of-plain rest (lacks-none 10 rest none)
    ∙ last_line-some rest (elim (cases_lt 0 (length rest)) [ inl more ↦ more | inr less ↦ absurd (false≢true (sym some ∙ eq-eqb (length rest) 0 (omega arith))) ])

faulty : (result : Result (Unit {0}) OrdersFault) (actors number : ℕ) (rest text : List ℕ) → ((f : OrdersFault) → IsFaultOfLine actors number rest f → IsFaultOf actors text f)
    → IfErr result (IsFaultOfLine actors number rest) → IfErr result (IsFaultOf actors text)
faulty (Ok x) actors number rest text on bad = bad
faulty (Err f) actors number rest text on bad = on f bad

pub returns-clause-faults : goal.returns-clause-faults
returns-clause-faults c =
    let front = c.loop-at.invariant.front in
    let rest = c.loop-at.rest.now in
    let only = only_line rest c.in_default.ensures (sym c.is_empty.ensures ∙ c.if-is_empty.false) in
    faulty c.deal-2.result c.args.actors c.loop-at.number rest c.args.text.now (fault_on c.args.actors c.args.text.now front.0 c.loop-at.number rest front.2 rest [] only) c.deal-2.ensures.faults

whole : (result : Result (Unit {0}) OrdersFault) {P Q R : Type 0} → (P → Q → R) → OnOk result P → OnOk result Q → OnOk result R
whole (Ok x) {P} {Q} {R} on p q = on p q
whole (Err f) {P} {Q} {R} on p q = p

pub returns-clause-dealt : goal.returns-clause-dealt
returns-clause-dealt c =
    let front = c.loop-at.invariant.front in
    let rest = c.loop-at.rest.now in
    let only = only_line rest c.in_default.ensures (sym c.is_empty.ensures ∙ c.if-is_empty.false) in
    let done = front.0 ++ orders_in c.args.actors rest in
    whole c.deal-2.result
    (λ dealt read. (
      done,
      dealt front.0 front.1,
      read_whole c.args.actors c.args.text.now done (c.loop-at.number + 1) (read_on c.args.actors c.args.text.now front.0 c.loop-at.number rest front.2 rest [] only read),
    ))
    c.deal-2.ensures.dealt c.deal-2.ensures.read
