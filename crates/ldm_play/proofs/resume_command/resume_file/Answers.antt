use Rattle.std.proofs.Common.{[], inr, refl, sym, subst}
use Rattle.std.proofs.lemmas.Result.{err_from_is_err_and}
use Rattle.ldm_book.specs.View.{BookView}
use Rattle.ldm_book.specs.Stands.{StandsFor}
use Rattle.ldm_play.specs.OnBook.{beside, play_from}
use Rattle.ldm_play.specs.SavingComplete.{IsReadable}
use Rattle.ldm_play.proofs.OpenLemmas.{saves_again}
use Rattle.ldm_play.proofs.RunLemmas.{has_image, played_done}
use Rattle.ldm_play.proofs.resume_command.resume_file.Goals as goal
use Rattle.ldm_play.proofs.resume_command.resume_file.Goals.{in-Done, in_default-end}

pub returns-in_err-book-clause-comes : goal.returns-in_err-book-clause-comes
returns-in_err-book-clause-comes g c = λ log_before log_after book s readable stands runs.
    let why = err_from_is_err_and c.from_residual.result c.from_residual.ensures.1 in
    rw (why.1, why.2) (c.in_err-book.ensures.completes book readable)

pub returns-clause-ends : goal.returns-clause-ends
returns-clause-ends g c = λ log_before log_after.
    let old = g.D.Disk.tells c.args.disk.now in
    let mid = g.D.Disk.tells c.open_file.new.disk in
    let before = beside log_before (g.S.Source.tells c.args.source.now) (g.K.Sink.tells c.args.sink.now) in
    let after = beside log_after (g.S.Source.tells c.play_on.new.source) (g.K.Sink.tells c.play_on.new.sink) in
    let opened = c.in_ok-book.book in
    let played = c.in-Ok.played in
    elim c.match-played.branch [
      | in-Done w ↦
          let new = g.D.Disk.tells w.save_image.new.disk in
          rw (w.result-is, w.disk-is) (
            opened,
            (
              played.book,
              saves_again w.save_image.result opened played.book old mid new w.save_image.ensures.image (g.met.D.Disk.consistent c.args.disk.now) (g.met.D.Disk.consistent c.open_file.new.disk) (g.met.D.Disk.consistent w.save_image.new.disk) c.in_ok-book.ensures.faults_kept c.in_ok-book.ensures.opened w.save_image.ensures.saved w.save_image.ensures.ended,
              λ s history stands. played_done played.end (play_from s history) played.book before after w.in-Done.is (c.in-Ok.ensures.plays s history log_before log_after stands),
            ),
          )
      | in_default-end w ↦
          rw (w.result-is, w.disk-is) (opened, (w.in_default-end.not-Done, c.in_ok-book.ensures.opened, λ s history stands. (c.in-Ok.ensures.plays s history log_before log_after stands).plays))
    ]

pub returns-clause-law : goal.returns-clause-law
returns-clause-law g c = λ log_before log_after.
    inr (record {
      opened = c.in_ok-book.book;
      is_image = has_image c.in_ok-book.book (g.D.Disk.tells c.args.disk.now) (g.D.Disk.tells c.open_file.new.disk) (g.met.D.Disk.consistent c.open_file.new.disk) c.in_ok-book.ensures.opened;
      lawful = λ arena slots history legal stands. c.in-Ok.ensures.law arena slots history log_before log_after legal stands;
    })

pub returns-clause-comes : goal.returns-clause-comes
returns-clause-comes g c = λ log_before log_after book s readable stands runs.
    elim c.match-played.branch [
      | in-Done w ↦ rw w.result-is tt
      | in_default-end w ↦
          let old = g.D.Disk.tells c.args.disk.now in
          let here = subst (λ d. IsReadable book old (g.D.Disk.tells d)) w.disk-is readable in
          let same = c.in_ok-book.ensures.completes book here in
          let stands_now = subst (λ (b : BookView). StandsFor b s) (sym same) stands in
          rw w.result-is (w.in_default-end.not-Done (c.in-Ok.ensures.completes s [] log_before log_after stands_now runs))
    ]
