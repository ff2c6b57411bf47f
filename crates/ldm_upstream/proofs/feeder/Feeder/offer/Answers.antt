use Rattle.std.proofs.Common.{subst, arith}
use Rattle.std.proofs.lemmas.Result.{err_from_is_err_and}
use Rattle.ldm_relay.specs.declared.message.SoonAnswer.{SoonAnswer}
use Rattle.ldm_sender.specs.Does.{moment_of}
use Rattle.ldm_upstream.specs.Giving.{given_of}
use Rattle.ldm_upstream.specs.Offering.{Announced}
use Rattle.ldm_upstream.proofs.Offers.{offers_whole, offer_unanswered, offer_declined, offer_in_blocks}
use Rattle.ldm_upstream.proofs.feeder.Feeder.offer.Goals as goal

pub returns-then-size-self-clause-offers : goal.returns-then-size-self-clause-offers
returns-then-size-self-clause-offers g c = λ asked body max due holds.
    offers_whole c.give_whole.result asked _ _ _ _ _ _ _ due (omega (arith, max, c.size.ensures, c.if-size-self.true))
    (c.give_whole.ensures.gives body holds)

pub returns-in_err-announce-clause-offers : goal.returns-in_err-announce-clause-offers
returns-in_err-announce-clause-offers g c =
    let why = err_from_is_err_and c.from_residual.result c.from_residual.ensures.1 in
    rw (why.1, why.2) λ asked body max due holds.
    offer_unanswered _ asked _ _ _ _ _ _ _ due (omega (arith, max, c.size.ensures, c.if-size-self.false)) holds.cursor
    (c.in_err-announce.ensures.announces c.args.pass.now c.args.self.now.reader.k body)

pub returns-in-Ok-clause-offers : goal.returns-in-Ok-clause-offers
returns-in-Ok-clause-offers g c = λ asked body max due holds.
    let old = moment_of c.args.pass.now (g.K.Link.tells c.args.link.now)
    (g.C.Clock.tells c.args.clock.now) c.args.self.now.out.items in
    let mid = moment_of c.args.pass.now (g.K.Link.tells c.announce.new.link)
    (g.C.Clock.tells c.announce.new.clock) c.announce.new.out.items in
    let announced =
    subst (λ (answer : SoonAnswer). Announced c.args.self.now.reader.k (given_of c.args.held.now body) answer
    c.args.self.now.standing c.announce.new.standing old mid c.args.self.now.replies c.announce.new.replies)
    c.in-Ok.is (c.in_ok-announce.ensures.announces c.args.pass.now c.args.self.now.reader.k body) in
    offer_in_blocks c.give_blocks.result asked _ _ _ _ _ _ _ _ _ _ _ _ _ _ _ due
    (omega (arith, max, c.size.ensures, c.if-size-self.false)) announced
    (c.give_blocks.ensures.gives body holds)

pub returns-in-DontSend-clause-offers : goal.returns-in-DontSend-clause-offers
returns-in-DontSend-clause-offers g c = λ asked body max due holds.
    let old = moment_of c.args.pass.now (g.K.Link.tells c.args.link.now)
    (g.C.Clock.tells c.args.clock.now) c.args.self.now.out.items in
    let mid = moment_of c.args.pass.now (g.K.Link.tells c.announce.new.link)
    (g.C.Clock.tells c.announce.new.clock) c.announce.new.out.items in
    let announced =
    subst (λ (answer : SoonAnswer). Announced c.args.self.now.reader.k (given_of c.args.held.now body) answer
    c.args.self.now.standing c.announce.new.standing old mid c.args.self.now.replies c.announce.new.replies)
    c.in-DontSend.is (c.in_ok-announce.ensures.announces c.args.pass.now c.args.self.now.reader.k body) in
    offer_declined asked _ _ _ _ _ _ _ _ due (omega (arith, max, c.size.ensures, c.if-size-self.false)) holds announced
