use Rattle.std.proofs.Common.{ℕ, List, subst}
use Rattle.std.specs.Prelude.{Option, Ok}
use Rattle.std.proofs.lemmas.Result.{err_from_is_err_and}
use Rattle.ldm_relay.specs.declared.message.SoonAnswer.{SoonAnswer}
use Rattle.ldm_session.specs.Hearing.{Heard}
use Rattle.ldm_session.specs.Looking.{Reads}
use Rattle.ldm_session.specs.Owed.{Code}
use Rattle.ldm_session.proofs.HearingLemmas.{hears_end, hears_more, hears_none}
use Rattle.ldm_session.proofs.replies.Replies.hear.Goals as goal

pub loop-init : goal.loop-init
loop-init g c = record { so_far = hears_none c.args.self.now (g.K.Link.tells c.args.link.now); not_closed = c.requires }

pub loop-preserved : goal.loop-preserved
loop-preserved g c =
    let tells = g.K.Link.tells in
    let now = c.loop.self in
    let looked = c.read.new.self in
    let P : Option SoonAnswer → Type 0 = λ found. (given : List ℕ) (codes : List Code) → Heard given codes now → Reads (Ok found) c.args.xid given codes looked in
    record {
      so_far = hears_more c.args.self.now now looked c.receive.new.self (tells c.args.link.now) (tells c.loop.link) (tells c.receive.new.link) c.args.xid c.loop.invariant.so_far
          (subst P c.in_default.is c.in_ok-answer.ensures.read) c.in_ok-receive.ensures.received c.in_ok-receive.ensures.faults_kept c.in_ok-receive.ensures.ends_kept;
      not_closed = c.in_ok-receive.ensures.still_open;
    }

pub returns-in_err-receive-clause-heard : goal.returns-in_err-receive-clause-heard
returns-in_err-receive-clause-heard g c =
    let tells = g.K.Link.tells in
    let now = c.loop.self in
    let looked = c.read.new.self in
    let P : Option SoonAnswer → Type 0 = λ found. (given : List ℕ) (codes : List Code) → Heard given codes now → Reads (Ok found) c.args.xid given codes looked in
    let why = err_from_is_err_and c.from_residual-in_err-receive.result c.from_residual-in_err-receive.ensures.1 in
    rw (why.1, why.2)
    (hears_end c.args.self.now now looked c.receive.new.self (tells c.args.link.now) (tells c.loop.link) (tells c.receive.new.link) c.args.xid c.in_err-receive.field-0.0 c.loop.invariant.so_far
    (subst P c.in_default.is c.in_ok-answer.ensures.read) c.in_err-receive.ensures.received)
