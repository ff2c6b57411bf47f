use Rattle.std.proofs.Common.{rules, ap, subst}
use Rattle.ldm_relay.specs.declared.message.Message.{Message}
use Rattle.ldm_relay.specs.MessageView.{sent_of}
use Rattle.ldm_relay.specs.Writable.{IsSized}
use Rattle.ldm_relay.proofs.Bodies.{content_len_is}
use Rattle.ldm_relay.proofs.length.content_len.Goals as goal

pub returns-in-Hereis-clause-value : goal.returns-in-Hereis-clause-value
returns-in-Hereis-clause-value c =
    content_len_is c.args.message.now _ c.in-Hereis.m.body.now _ c.call_len.ensures.value (ap sent_of c.in-Hereis.is)
    (subst (λ (m : Message). IsSized (sent_of m)) c.in-Hereis.is c.requires.0)

pub returns-in-Put-clause-value : goal.returns-in-Put-clause-value
returns-in-Put-clause-value c =
    content_len_is c.args.message.now _ c.in-Put.m.body.now _ c.call_len-in-Put.ensures.value (ap sent_of c.in-Put.is)
    (subst (λ (m : Message). IsSized (sent_of m)) c.in-Put.is c.requires.0)

pub returns-in-Blkdata-clause-value : goal.returns-in-Blkdata-clause-value
returns-in-Blkdata-clause-value c =
    content_len_is c.args.message.now _ c.in-Blkdata.m.block.now _ c.call_len-in-Blkdata.ensures.value (ap sent_of c.in-Blkdata.is) (search rules)
