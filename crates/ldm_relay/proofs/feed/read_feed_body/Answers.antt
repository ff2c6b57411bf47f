use Rattle.ldm_relay.proofs.FeedCalls.{feedme_is_other, hiya_is_other, put_is_other, notification_is_other, notifyme_is_other}
use Rattle.ldm_relay.proofs.feed.read_feed_body.Goals as goal

pub returns-in-Feedme-clause-read : goal.returns-in-Feedme-clause-read
returns-in-Feedme-clause-read c = rw c.in-Feedme.is (feedme_is_other c.args.xid c.args.fields.now)

pub returns-in-Hiya-clause-read : goal.returns-in-Hiya-clause-read
returns-in-Hiya-clause-read c = rw c.in-Hiya.is (hiya_is_other c.args.xid c.args.fields.now)

pub returns-in-Put-clause-read : goal.returns-in-Put-clause-read
returns-in-Put-clause-read c = rw c.in-Put.is (put_is_other c.args.xid c.args.fields.now)

pub returns-in-Notification-clause-read : goal.returns-in-Notification-clause-read
returns-in-Notification-clause-read c = rw c.in-Notification.is (notification_is_other c.args.xid c.args.fields.now)

pub returns-in-Notifyme-clause-read : goal.returns-in-Notifyme-clause-read
returns-in-Notifyme-clause-read c = rw c.in-Notifyme.is (notifyme_is_other c.args.xid c.args.fields.now)
