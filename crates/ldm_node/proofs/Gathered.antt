-- What all workers of a node together did.
use Rattle.std.proofs.Common.{◌≡◌, ℕ, zero, suc, ◌+◌, ◌<◌, ◌≤◌, List, [], ◌∷◌, ◌++◌, length, map, get_or, Option, Some, None, Result, Ok, Err, refl, sym, ap, subst, ◌∙◌, inl, inr, arith}
use Rattle.std.specs.Prelude.{OnOk, OnErr}
use Rattle.std.specs.List.{All}
use Rattle.std.specs.Option.{option_to_list}
use Rattle.ldm_outside.specs.Station.{StationRecord}
use Rattle.ldm_shared.specs.Passes.{SharedView, PassView, IsSamePass, HasAllOf, new_pass}
use Rattle.ldm_node.specs.declared.stop.NodeStop.{NodeStop}
use Rattle.ldm_node.specs.declared.stop.NodeStop.TheVariants.{Done, OutOfMemory}
use Rattle.ldm_shared.specs.Work.{AllWorked, Worked}
use Rattle.ldm_node.specs.declared.post.Post.{Post}
use Rattle.ldm_node.specs.Node.{Staffs}
use Rattle.ldm_node.specs.Posts.{AreLast, ClerkWorks, PostWorks, StationWorks, clerk_behind, last_post, post_of, posts_of, stations_of, stop_of}
use Rattle.ldm_node.specs.Roles.{Plan, role_of}
use Rattle.ldm_node.specs.Stops.{first_stop, or_stop}
use Rattle.ldm_node.specs.Workers.{HasCause, Runs, WorksAs}
use Rattle.ldm_node.proofs.Posting.{clerk-posts, last-posts, last_cons, length-posts, stations-posts}

-- what the worker without a station left, which may be a clerk
pub record Behind {K : Type 0} (does : PassView → K → PassView → K → Type 0) (last : PassView) (clerk : Option K) (old : PassView) (new : Option K) : Type 0 where
  pub pass : PassView
  pub same : IsSamePass old pass
  pub works : ClerkWorks does old clerk pass new
  pub has_all : HasAllOf last pass

module _ {S K : Type 0} (tells : S → StationRecord) (does : PassView → K → PassView → K → Type 0) (plan : Plan) (shared : SharedView) (last : PassView) (at : ℕ → PassView) where
  -- what the worker of an actor did
  abbrev Did : ℕ → Post S K → Post S K → Type 0
  Did actor old new = Worked (PostWorks tells does plan) last (at actor) old new

  -- one that has a station
  record Manned (actor : ℕ) (old : S) (new : Post S K) : Type 0 where
    pub left : S
    pub is : new.station ≡ Some left
    pub clerk : new.clerk ≡ None
    pub runs : Runs plan shared last actor new.stop (tells old) (tells left)

  manned_by : (actor : ℕ) → at actor ≡ new_pass shared actor → (old : S) (new : Post S K) (did : Did actor (post_of old) new) (station : Option S) → new.station ≡ station
      → StationWorks tells does plan (at actor) (post_of old) (Some old) did.pass new station → Manned actor old new
  manned_by actor is_new old new did None is works = absurd works
  manned_by actor is_new old new did (Some left) is works = record {
    left = left;
    is = is;
    clerk = works.2;
    runs = record {
      pass = did.pass;
      same = subst (λ (p : PassView). IsSamePass p did.pass) is_new did.same;
      works = subst (λ (p : PassView). WorksAs plan (role_of plan p.actor) new.stop p (tells old) did.pass (tells left)) is_new works.0;
      cause = subst (λ (p : PassView). HasCause plan (role_of plan p.actor) new.stop did.pass (tells old) (tells left)) is_new works.1;
      has_all = did.has_all;
    };
  }

  record Rested (actor : ℕ) (clerk : Option K) (new : Post S K) : Type 0 where
    pub is : new.station ≡ None
    pub stop : new.stop ≡ Done
    pub behind : Behind does last clerk (at actor) new.clerk

  rested_by : (actor : ℕ) (clerk : Option K) (new : Post S K) (did : Did actor (last_post clerk) new) (station : Option S) → new.station ≡ station
      → StationWorks tells does plan (at actor) (last_post clerk) None did.pass new station → Rested actor clerk new
  rested_by actor clerk new did None is works = record {
    is = is;
    stop = works.0;
    behind = record { pass = did.pass; same = did.same; works = works.1; has_all = did.has_all };
  }
  rested_by actor clerk new did (Some left) is works = absurd works

  -- those from an actor on
  record Gathered (actor : ℕ) (given : List S) (clerk : Option K) (news : List (Post S K)) : Type 0 where
    pub stops : List NodeStop
    pub left : List S
    pub stations : stations_of news ≡ left
    pub count_stops : length stops ≡ length given
    pub count : length left ≡ length given
    pub each : (i : ℕ) (d : S) → i < length given → Runs plan shared last (actor + i) (get_or stops i Done) (tells (get_or given i d)) (tells (get_or left i d))
    pub first : first_stop (map stop_of news) ≡ first_stop stops
    pub behind : (before : Option K) → Behind does last clerk (at (actor + length given)) (clerk_behind before news)
    pub are_last : AreLast news

  none_more : (actor : ℕ) (clerk : Option K) (new : Post S K) → Rested actor clerk new → Gathered actor [] clerk (new ∷ [])
  none_more actor clerk new rested = record {
    stops = [];
    left = [];
    stations = ap (λ (station : Option S). option_to_list station ++ []) rested.is;
    count_stops = refl;
    count = refl;
    each = λ i d less. absurd (omega (arith, less));
    first = ap (λ (stop : NodeStop). or_stop stop Done) rested.stop;
    behind = λ before. subst (λ (n : ℕ). Behind does last clerk (at n) new.clerk) (omega arith) rested.behind;
    are_last = tt;
  }

  each_more : (actor : ℕ) (old : S) (given : List S) (stop : NodeStop) (stops : List NodeStop) (new : S) (left : List S)
      → Runs plan shared last actor stop (tells old) (tells new)
      → ((i : ℕ) (d : S) → i < length given → Runs plan shared last ((actor + 1) + i) (get_or stops i Done) (tells (get_or given i d)) (tells (get_or left i d)))
      → (i : ℕ) (d : S) → i < length (old ∷ given)
      → Runs plan shared last (actor + i) (get_or (stop ∷ stops) i Done) (tells (get_or (old ∷ given) i d)) (tells (get_or (new ∷ left) i d))
  each_more actor old given stop stops new left runs each zero d less =
      subst (λ (n : ℕ). Runs plan shared last n stop (tells old) (tells new)) (omega arith) runs
  each_more actor old given stop stops new left runs each (suc i) d less =
      subst (λ (n : ℕ). Runs plan shared last n (get_or stops i Done) (tells (get_or given i d)) (tells (get_or left i d))) (omega arith) (each i d (omega arith))

  one_more : (actor : ℕ) (old : S) (given : List S) (clerk : Option K) (new : Post S K) (news : List (Post S K)) → Manned actor old new → Gathered (actor + 1) given clerk news
      → Gathered actor (old ∷ given) clerk (new ∷ news)
  one_more actor old given clerk new news manned more = record {
    stops = new.stop ∷ more.stops;
    left = manned.left ∷ more.left;
    stations = ap (λ (station : Option S). option_to_list station ++ stations_of news) manned.is ∙ ap (λ xs. manned.left ∷ xs) more.stations;
    count_stops = (let e = more.count_stops in omega (arith, e));
    count = (let e = more.count in omega (arith, e));
    each = each_more actor old given new.stop more.stops manned.left more.left manned.runs more.each;
    first = ap (or_stop new.stop) more.first;
    behind = λ before. subst (λ (n : ℕ). Behind does last clerk (at n) (clerk_behind new.clerk news)) (omega arith) (more.behind new.clerk);
    are_last = last_cons new news manned.clerk more.are_last;
  }

  gathered : (given : List S) (clerk : Option K) (news : List (Post S K)) (actor : ℕ) → length news ≡ length given + 1
      → ((i : ℕ) → i < length given → at (actor + i) ≡ new_pass shared (actor + i))
      → ((i : ℕ) (d : Post S K) → i < length given + 1 → Did (actor + i) (get_or (posts_of given clerk) i d) (get_or news i d)) → Gathered actor given clerk news
  gathered given clerk [] actor count new each = absurd (omega (arith, count))
  gathered [] clerk (one ∷ []) actor count new each =
      let did : Did actor (last_post clerk) one = subst (λ (n : ℕ). Did n (last_post clerk) one) (omega arith) (each 0 one (omega arith)) in
      none_more actor clerk one (rested_by actor clerk one did one.station refl did.works)
  gathered [] clerk (one ∷ other ∷ news) actor count new each = absurd (omega (arith, count))
  gathered (old ∷ given) clerk (one ∷ news) actor count new each =
      let did : Did actor (post_of old) one = subst (λ (n : ℕ). Did n (post_of old) one) (omega arith) (each 0 one (omega arith)) in
      let is_new : at actor ≡ new_pass shared actor = subst (λ (n : ℕ). at n ≡ new_pass shared n) (omega arith) (new 0 (omega arith)) in
      one_more actor old given clerk one news (manned_by actor is_new old one did one.station refl did.works)
      (gathered given clerk news (actor + 1) (omega (arith, count))
      (λ i less. subst (λ (n : ℕ). at n ≡ new_pass shared n) (omega arith) (new (suc i) (omega arith)))
      (λ i d less. subst (λ (n : ℕ). Did n (get_or (posts_of given clerk) i d) (get_or news i d)) (omega arith) (each (suc i) d (omega arith))))

  -- what all did
  abbrev pub AllDid : List S → Option K → List (Post S K) → Type 0
  AllDid given clerk news = (i : ℕ) (d : Post S K) → i < length given + 1 → Did i (get_or (posts_of given clerk) i d) (get_or news i d)

  module _ (given : List S) (clerk : Option K) (news : List (Post S K)) (new : (i : ℕ) → i < length given → at i ≡ new_pass shared i)
      (count : length news ≡ length given + 1) where
    all_gathered : AllDid given clerk news → Gathered 0 given clerk news
    all_gathered worked =
        gathered given clerk news 0 count (λ i less. subst (λ (n : ℕ). at n ≡ new_pass shared n) (omega arith) (new i less))
        (λ i d less. subst (λ (n : ℕ). Did n (get_or (posts_of given clerk) i d) (get_or news i d)) (omega arith) (worked i d less))

    -- so many stations come back
    pub come_back : {E : Type 0} (done : Result (Unit {0}) E) → OnOk done (AllDid given clerk news) → OnErr done (news ≡ posts_of given clerk) → length (stations_of news) ≡ length given
    come_back (Ok done) worked untouched =
        let all = all_gathered worked in
        ap length all.stations ∙ all.count
    come_back (Err error) worked untouched = ap (λ posts. length (stations_of posts)) untouched ∙ ap length (stations-posts given clerk)

    -- and only the last of them may have a clerk
    pub come_last : {E : Type 0} (done : Result (Unit {0}) E) → OnOk done (AllDid given clerk news) → OnErr done (news ≡ posts_of given clerk) → AreLast news
    come_last (Ok done) worked untouched = (all_gathered worked).are_last
    come_last (Err error) worked untouched = subst AreLast (sym untouched) (last-posts given clerk)

    -- what came of the stations
    pub staffed : (left : List S) (end first : NodeStop) {E : Type 0} (done : Result (Unit {0}) E) → OnOk done (AllDid given clerk news) → OnErr done (news ≡ posts_of given clerk)
        → OnErr done ((i : ℕ) → i < length given → HasAllOf last (at i)) → left ≡ stations_of news → first ≡ first_stop (map stop_of news) → OnOk done (end ≡ first)
        → OnErr done (end ≡ OutOfMemory) → Staffs tells plan shared given (record { pass = last; stations = left; end = end })
    staffed left end first (Ok done) worked untouched uncalled left_is first_is ended none_began =
        let all = all_gathered worked in
        let is : left ≡ all.left = left_is ∙ all.stations in
        inl (record {
          stops = all.stops;
          count_stops = all.count_stops;
          count = ap length is ∙ all.count;
          each = λ actor d less.
              subst (λ (xs : List S). Runs plan shared last actor (get_or all.stops actor Done) (tells (get_or given actor d)) (tells (get_or xs actor d))) (sym is)
              (subst (λ (n : ℕ). Runs plan shared last n (get_or all.stops actor Done) (tells (get_or given actor d)) (tells (get_or all.left actor d))) (omega arith)
              (all.each actor d less));
          end = ended ∙ first_is ∙ all.first;
        })
    staffed left end first (Err error) worked untouched uncalled left_is first_is ended none_began =
        inr (record {
          stations = left_is ∙ ap stations_of untouched ∙ stations-posts given clerk;
          uncalled = λ actor less. subst (HasAllOf last) (new actor less) (uncalled actor less);
          end = none_began;
        })

    -- what came of the clerk
    pub left_behind : (left : Option K) {E : Type 0} (done : Result (Unit {0}) E) → OnOk done (AllDid given clerk news) → left ≡ clerk_behind None news
        → OnOk done (Behind does last clerk (at (length given)) left)
    left_behind left (Ok done) worked is =
        subst (Behind does last clerk (at (length given))) (sym is)
        (subst (λ (n : ℕ). Behind does last clerk (at n) (clerk_behind None news)) (omega arith) ((all_gathered worked).behind None))
    left_behind left (Err error) worked is = tt

-- a clerk that did not begin is the same
pub left_same : {S K E : Type 0} (given : List S) (clerk left : Option K) (news : List (Post S K)) (done : Result (Unit {0}) E) → OnErr done (news ≡ posts_of given clerk)
    → left ≡ clerk_behind None news → OnErr done (left ≡ clerk)
left_same given clerk left news (Ok done) untouched is = tt
left_same given clerk left news (Err error) untouched is = is ∙ ap (clerk_behind None) untouched ∙ clerk-posts given clerk None

-- ---- the workers of a queue, by their places

module _ {S K : Type 0} (tells : S → StationRecord) (does : PassView → K → PassView → K → Type 0) (plan : Plan) (shared : SharedView) (last : PassView) (passes : List PassView) where
  pub all_did : {E : Type 0} (given : List S) (clerk : Option K) (news : List (Post S K)) (done : Result (Unit {0}) E)
      → OnOk done (AllWorked (PostWorks tells does plan) last passes (posts_of given clerk) news)
      → OnOk done (AllDid tells does plan shared last (λ (i : ℕ). get_or passes i last) given clerk news)
  all_did given clerk news (Ok done) worked = λ i d less. worked i last d (omega (arith, less, length-posts given clerk))
  all_did given clerk news (Err error) worked = tt

-- no calls were made, where none began
pub none_called : {E : Type 0} (last : PassView) (passes : List PassView) (n : ℕ) → n ≤ length passes → (done : Result (Unit {0}) E) → OnErr done (All (HasAllOf last) passes)
    → OnErr done ((i : ℕ) → i < n → HasAllOf last (get_or passes i last))
none_called last passes n le (Ok done) all = tt
none_called last passes n le (Err error) all = λ i less. all i last (omega (arith, less, le))

-- nor with the pass of a place
pub last_called : {E : Type 0} (last : PassView) (passes : List PassView) (done : Result (Unit {0}) E) → OnErr done (All (HasAllOf last) passes) → (n : ℕ) (d : PassView)
    → n < length passes → OnErr done (HasAllOf last (get_or passes n d))
last_called last passes (Ok done) all n d less = tt
last_called last passes (Err error) all n d less = all n d less
