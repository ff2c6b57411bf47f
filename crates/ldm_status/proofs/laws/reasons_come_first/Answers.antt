use Rattle.std.proofs.Common.{◌≡◌, ◌∙◌, ◌⊎◌, ℕ, ◌++◌, List, [], Bool, true, false, cond, refl, sym, ap, subst, lit≤}
use Rattle.ldm_outside.specs.Io.{SinkRecord, Takes, WritesFront}
use Rattle.ldm_outside.specs.Count.{Rose}
use Rattle.ldm_status.specs.declared.status.Status.{Status}
use Rattle.ldm_status.specs.declared.status.TheConstants.{LOG_FAULT}
use Rattle.ldm_status.specs.Status.{code_of, says_why, reason_line, log_line, log_lines}
use Rattle.ldm_status.proofs.laws.reasons_come_first.Goals as goal

-- the report of a status by a text
abbrev Told : Status → ℕ → SinkRecord → SinkRecord → List ℕ → Type 0
Told ending code old new text =
    ((code ≡ code_of ending) × Takes old text new) ⊎ ((code ≡ LOG_FAULT) × Rose old.faults new.faults × WritesFront old text new)

with_none : (says : Bool) (line : List ℕ) → cond says (reason_line []) [] ++ line ≡ line
with_none true line = refl
with_none false line = refl

pub returns-clause-none : goal.returns-clause-none
returns-clause-none c = λ ending code old new told. subst (Told ending code old new) (with_none (says_why ending) (log_line ending)) told

pub returns-clause-silent : goal.returns-clause-silent
returns-clause-silent c = λ ending code old new silent because.
    let is : log_lines because.0 ending ≡ log_line ending = ap (λ (says : Bool). cond says (reason_line because.0) [] ++ log_line ending) silent in
    subst (Told ending code old new) is because.2

pub returns-clause-alone : goal.returns-clause-alone
returns-clause-alone c = λ ending code old new told.
    ([], (lit≤ tt, refl), subst (Told ending code old new) (sym (with_none (says_why ending) (log_line ending))) told)
