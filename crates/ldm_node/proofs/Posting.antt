-- Stations that become posts, and posts that become stations.
use Rattle.std.proofs.Common.{◌≡◌, ℕ, zero, suc, ◌+◌, ◌<◌, List, [], ◌∷◌, ◌++◌, length, reverse, get_or, Option, None, Some, refl, sym, ap, subst, ◌∙◌, arith, append_assoc}
use Rattle.std.proofs.lemmas.List.{length-reverse}
use Rattle.std.specs.Prelude.{IfSome}
use Rattle.std.specs.List.{All}
use Rattle.std.specs.Option.{option_to_list}
use Rattle.ldm_outside.specs.Station.{StationRecord, IsNew}
use Rattle.ldm_shared.specs.Passes.{PassView}
use Rattle.ldm_node.specs.declared.post.Post.{Post}
use Rattle.ldm_node.specs.Posts.{AreLast, MayBegin, clerk_behind, post_of, posts_of, stations_of}
use Rattle.ldm_node.specs.Workers.{NoneOut}
use Rattle.ldm_node.proofs.Turned.{turned}

-- one post more is made
pub one_posted : {S K : Type 0} (posts : List (Post S K)) (stations : List S) (clerk : Option K) (station : S)
    → posts ++ posts_of (reverse (stations ++ station ∷ [])) clerk ≡ (posts ++ post_of station ∷ []) ++ posts_of (reverse stations) clerk
one_posted posts stations clerk station =
    ap (λ xs. posts ++ posts_of xs clerk) (turned stations station) ∙ sym (append_assoc posts (post_of station ∷ []) (posts_of (reverse stations) clerk))

-- one post more is taken apart
pub one_taken : {S K : Type 0} (stations : List S) (posts : List (Post S K)) (post : Post S K)
    → stations ++ stations_of (reverse (posts ++ post ∷ [])) ≡ (stations ++ option_to_list post.station) ++ stations_of (reverse posts)
one_taken stations posts post =
    ap (λ xs. stations ++ stations_of xs) (turned posts post) ∙ sym (append_assoc stations (option_to_list post.station) (stations_of (reverse posts)))

-- one has no clerk, and the others have
clerk_next : {S K : Type 0} (post : Post S K) (posts : List (Post S K)) → post.clerk ≡ None → clerk_behind None (post ∷ posts) ≡ clerk_behind None posts
clerk_next post posts none = ap (λ clerk. clerk_behind clerk posts) none

pub clerk_taken : {S K : Type 0} (posts : List (Post S K)) (post : Post S K) → post.clerk ≡ None
    → clerk_behind None (reverse (posts ++ post ∷ [])) ≡ clerk_behind None (reverse posts)
clerk_taken posts post none = ap (clerk_behind None) (turned posts post) ∙ clerk_next post (reverse posts) none

last_next : {S K : Type 0} (post : Post S K) (posts : List (Post S K)) → AreLast (post ∷ posts) → AreLast posts
last_next post [] last = tt
last_next post (next ∷ posts) last = last.1

pub last_taken : {S K : Type 0} (posts : List (Post S K)) (post : Post S K) → AreLast (reverse (posts ++ post ∷ [])) → AreLast (reverse posts)
last_taken posts post last = last_next post (reverse posts) (subst AreLast (turned posts post) last)

-- behind one that has a clerk there is none
none_behind : {S K : Type 0} (post : Post S K) (clerk : K) (posts : List (Post S K)) → post.clerk ≡ Some clerk → AreLast (post ∷ posts) → posts ≡ []
none_behind post clerk [] is last = refl
none_behind post clerk (next ∷ posts) is last = (let no : None ≡ Some clerk = sym last.0 ∙ is in absurd (cc no))

turned_none : {X : Type 0} (xs : List X) → reverse xs ≡ [] → xs ≡ []
turned_none [] is = refl
turned_none (x ∷ xs) is = absurd (omega (arith, ap length is, length-reverse (x ∷ xs)))

pub last_found : {S K : Type 0} (posts : List (Post S K)) (post : Post S K) (clerk : K) → post.clerk ≡ Some clerk → AreLast (reverse (posts ++ post ∷ [])) → posts ≡ []
last_found posts post clerk is last = turned_none posts (none_behind post clerk (reverse posts) is (subst AreLast (turned posts post) last))

pub last_cons : {S K : Type 0} (post : Post S K) (posts : List (Post S K)) → post.clerk ≡ None → AreLast posts → AreLast (post ∷ posts)
last_cons post [] none last = tt
last_cons post (next ∷ posts) none last = (none, last)

pub last-posts : {S K : Type 0} (stations : List S) (clerk : Option K) → AreLast (posts_of stations clerk)
last-posts [] clerk = tt
last-posts (station ∷ stations) clerk = last_cons (post_of station) (posts_of stations clerk) refl (last-posts stations clerk)

pub length-posts : {S K : Type 0} (stations : List S) (clerk : Option K) → length (posts_of stations clerk) ≡ length stations + 1
length-posts [] clerk = refl
length-posts (station ∷ stations) clerk = let e = length-posts stations clerk in omega (arith, e)

-- stations that become posts are the same after it
pub stations-posts : {S K : Type 0} (stations : List S) (clerk : Option K) → stations_of (posts_of stations clerk) ≡ stations
stations-posts [] clerk = refl
stations-posts (station ∷ stations) clerk = ap (λ xs. station ∷ xs) (stations-posts stations clerk)

-- and the clerk is
pub clerk-posts : {S K : Type 0} (stations : List S) (clerk before : Option K) → clerk_behind before (posts_of stations clerk) ≡ clerk
clerk-posts [] clerk before = refl
clerk-posts (station ∷ stations) clerk before = clerk-posts stations clerk None

-- no link of a new station is out
pub none_out : (idles : Option ℕ) (station : StationRecord) → IsNew idles station → NoneOut station
none_out idles station new = (new.door.2.out, new.dial.2.out)

-- workers may begin at the posts of stations of which no link is out, and of a clerk that is ready
module _ {S K : Type 0} (tells : S → StationRecord) (ready : PassView → K → Type 0) (clerk : Option K) where
  pub posts_begin : (stations : List S) (at : ℕ → PassView) → All (λ station. NoneOut (tells station)) stations → IfSome clerk (ready (at (length stations)))
      → (i : ℕ) (d : Post S K) → i < length (posts_of stations clerk) → MayBegin tells ready (at i) (get_or (posts_of stations clerk) i d)
  posts_begin [] at none is zero d less = (tt, is)
  posts_begin [] at none is (suc i) d less = absurd (omega arith)
  posts_begin (station ∷ stations) at none is zero d less = (none 0 station (omega arith), tt)
  posts_begin (station ∷ stations) at none is (suc i) d less =
      posts_begin stations (λ (k : ℕ). at (suc k)) (λ k e inside. none (suc k) e (omega arith)) is i d (omega arith)
