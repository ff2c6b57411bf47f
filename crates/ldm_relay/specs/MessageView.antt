-- What a contract sees of a message.
use Rattle.ldm_relay.specs.declared.message.Message.{Message}
use Rattle.ldm_relay.specs.declared.message.Message.TheVariants as message
use Rattle.ldm_relay.specs.declared.message.Refused.{Refused}
use Rattle.ldm_relay.specs.Sent.{Sent}
use Rattle.ldm_relay.specs.Sent as sent

abbrev pub sent_of : Message → Sent
sent_of (message.Feedme m) = sent.Feedme m.xid m.class m.max_hereis
sent_of (message.FeedmeReply m) = sent.FeedmeReply m.xid m.answer
sent_of (message.Hiya m) = sent.Hiya m.xid m.class
sent_of (message.HiyaReply m) = sent.HiyaReply m.xid m.max_hereis m.answer
sent_of (message.Hereis m) = sent.Hereis m.xid m.info m.body.now
sent_of (message.Comingsoon m) = sent.Comingsoon m.xid m.info m.block_size
sent_of (message.ComingsoonReply m) = sent.ComingsoonReply m.xid m.answer
sent_of (message.Blkdata m) = sent.Blkdata m.xid m.signature.0 m.number m.block.now
sent_of (message.Isalive m) = sent.Isalive m.xid
sent_of (message.Qstat m) = sent.Qstat m.xid
sent_of (message.QstatReply m) = sent.QstatReply m.xid m.stat
sent_of (message.Put m) = sent.Put m.xid m.info m.body.now
sent_of (message.PutReply m) = sent.PutReply m.xid m.answer
sent_of (message.Notifyme m) = sent.Notifyme m.xid m.class
sent_of (message.NotifymeReply m) = sent.NotifymeReply m.xid m.answer
sent_of (message.Notification m) = sent.Notification m.xid m.info
sent_of (message.Refused m) = sent.Refused m.xid m.why

abbrev pub refused_of : Refused → Sent
refused_of m = sent.Refused m.xid m.why
