-- What is read as another call is no call of a feed.
use Rattle.std.proofs.Common.{ℕ, List, [], ◌∷◌, Result, Ok, Err}
use Rattle.ldm_relay.specs.declared.fault.RelayFault.{RelayFault}
use Rattle.ldm_relay.specs.Sent.{Sent}
use Rattle.ldm_xdr.specs.Fields.{◌>>=◌, unsigned_in}
use Rattle.ldm_xdr.specs.Reading.{info_in}
use Rattle.ldm_relay.specs.Calls.{feedme_in, hiya_in, product_in, put_in, notifyme_in, notification_in}
use Rattle.ldm_relay.specs.Classes.{class_in}
use Rattle.ldm_relay.specs.FeedCalls.{IsNoFeedCall, IsNoFeedBody}
use Rattle.ldm_relay.specs.Reading.{whole, or_at}

behind : {A : Type 0} (r : Result A ℕ) (f : A → Result (Sent × List ℕ) ℕ) → ((x : A) → IsNoFeedBody (f x)) → IsNoFeedBody (r >>= f)
behind (Ok x) f each = each x
behind (Err bad) f each = tt

pub feedme_is_other : (xid : ℕ) (left : List ℕ) → IsNoFeedBody (feedme_in xid left)
unfolding feedme_in
feedme_is_other xid left = behind (class_in left) _ (λ class. behind (unsigned_in class.1) _ (λ number. tt))

pub hiya_is_other : (xid : ℕ) (left : List ℕ) → IsNoFeedBody (hiya_in xid left)
unfolding hiya_in
hiya_is_other xid left = behind (class_in left) _ (λ class. tt)

pub put_is_other : (xid : ℕ) (left : List ℕ) → IsNoFeedBody (put_in xid left)
unfolding put_in
put_is_other xid left = behind (product_in left) _ (λ product. tt)

pub notifyme_is_other : (xid : ℕ) (left : List ℕ) → IsNoFeedBody (notifyme_in xid left)
unfolding notifyme_in
notifyme_is_other xid left = behind (class_in left) _ (λ class. tt)

pub notification_is_other : (xid : ℕ) (left : List ℕ) → IsNoFeedBody (notification_in xid left)
unfolding notification_in
notification_is_other xid left = behind (info_in left) _ (λ info. tt)

-- whatever stands behind it
pub whole_is_other : (fault : ℕ → RelayFault) (bytes : List ℕ) (body : Result (Sent × List ℕ) ℕ)
    → IsNoFeedBody body → IsNoFeedCall (or_at fault bytes (whole body))
unfolding whole
whole_is_other fault bytes (Ok (m, [])) other = other
whole_is_other fault bytes (Ok (m, byte ∷ left)) other = tt
whole_is_other fault bytes (Err bad) other = tt
