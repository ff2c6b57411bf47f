-- A message whose fields are within their bounds has its sizes.
use Rattle.ldm_relay.specs.Fits.{Fits}
use Rattle.ldm_relay.specs.Sent.{Sent}
use Rattle.ldm_relay.specs.Sent as sent
use Rattle.ldm_relay.specs.Writable.{IsSized}

pub fits_sized : (m : Sent) → Fits m → IsSized m
fits_sized (sent.Feedme xid class max_hereis) fits = tt
fits_sized (sent.FeedmeReply xid answer) fits = tt
fits_sized (sent.Hiya xid class) fits = tt
fits_sized (sent.HiyaReply xid max_hereis answer) fits = tt
fits_sized (sent.Hereis xid info body) fits = fits.2
fits_sized (sent.Comingsoon xid info block_size) fits = tt
fits_sized (sent.ComingsoonReply xid answer) fits = tt
fits_sized (sent.Blkdata xid signature number block) fits = fits.3
fits_sized (sent.Isalive xid) fits = tt
fits_sized (sent.Qstat xid) fits = tt
fits_sized (sent.QstatReply xid stat) fits = tt
fits_sized (sent.Put xid info body) fits = fits.2
fits_sized (sent.PutReply xid answer) fits = tt
fits_sized (sent.Notifyme xid class) fits = tt
fits_sized (sent.NotifymeReply xid answer) fits = tt
fits_sized (sent.Notification xid info) fits = tt
fits_sized (sent.Refused xid why) fits = tt
