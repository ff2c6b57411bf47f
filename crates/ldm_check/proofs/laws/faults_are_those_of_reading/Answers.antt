use Rattle.std.proofs.Common.{◌≡◌, [], ◌∷◌, refl, append-nil}
use Rattle.ldm_conf.specs.Reading.{Faulty, Read, Wants}
use Rattle.ldm_conf.specs.Statements.{meaning_of, statement_of}
use Rattle.ldm_text.specs.Words.{words_from}
use Rattle.ldm_check.proofs.Agreeing.{reading_agrees}
use Rattle.ldm_check.proofs.EachAlone.{each_alone}
use Rattle.ldm_check.specs.Says.{Fine, says}
use Rattle.ldm_check.proofs.laws.faults_are_those_of_reading.Goals as goal

blank : Fine ≡ says (meaning_of [])
unfolding meaning_of statement_of words_from
blank = refl

pub returns-clause-none : goal.returns-clause-none
returns-clause-none c = λ asked came path text conf gave is. rw (append-nil asked) at (reading_agrees [] asked came path text (Read conf) gave is)

pub returns-clause-first : goal.returns-clause-first
returns-clause-first c = λ asked later came path text fault found gave is has. reading_agrees later asked came path text (Faulty fault) gave is found has

pub returns-clause-unread : goal.returns-clause-unread
returns-clause-unread c = λ asked later one came path text line kind found gave is none has.
    reading_agrees (one ∷ later) asked came path text (Wants line one.path) gave is kind found (record { one = one; rest = later; first = refl; same = refl; is = none }) has

pub returns-clause-alone : goal.returns-clause-alone
returns-clause-alone c = λ asked count before behind line kind is. each_alone line kind behind (rw is refl) blank asked count before
