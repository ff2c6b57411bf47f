-- What the counter has counted at the end of a gathering.
use Rattle.std.proofs.Common.{◌≡◌, ◌∙◌, ℕ, List, [], ◌∷◌, ◌++◌, codes, map, Option, Some, None, inl, inr, refl, sym, ap, subst, append_assoc}
use Rattle.std.proofs.lemmas.List.{append-nil}
use Rattle.ldm_intake.specs.declared.end.RecvEnd.{RecvEnd}
use Rattle.ldm_intake.specs.declared.end.RecvEnd.TheVariants as recv_end
use Rattle.ldm_gather.specs.declared.each_end.EachEnd.{EachEnd}
use Rattle.ldm_gather.specs.declared.each_end.EachEnd.TheVariants as each_end
use Rattle.ldm_gather.specs.declared.end.GatherEnd.{GatherEnd}
use Rattle.ldm_gather.specs.declared.end.GatherEnd.TheVariants as gather_end
use Rattle.ldm_gather.specs.declared.taker.EachStop.{EachStop}
use Rattle.ldm_gather.specs.declared.taker.EachStop.TheVariants.{ByTaker, LogFault, Worn}
use Rattle.ldm_gather.specs.EachCourse.{Stage, TakesEach}
use Rattle.ldm_gather.specs.EachRuns.{GathersEach, Makes, Situation, TakesIf, given_by, given_if, situation_of, stage_in}
use Rattle.ldm_shared.specs.Givens.{Gave, Given, Lost, Turn, products_of}
use Rattle.ldm_gather.specs.Orders.{OrderView}
use Rattle.ldm_gather.specs.Taking.{Hands, TakesAll, TakesLast, hands_of}
use Rattle.ldm_stats.specs.Table.{StandsFor, Table}
use Rattle.ldm_stats.specs.Totals.{Product}
use Rattle.ldm_pqstats.specs.declared.counter.Counter.{Counter}
use Rattle.ldm_pqstats.specs.declared.counter.CountStop.{CountStop}
use Rattle.ldm_pqstats.specs.Counting.{Adds, CountsProduct, counted_of}
use Rattle.ldm_pqstats.specs.declared.asked.StatsAsked.{StatsAsked}
use Rattle.ldm_pqstats.specs.Runs.{Counts, IfTold, Lent, counter_at, order_of}

abbrev pub Counting : Type 0
Counting = Hands Counter (Unit {0})

-- a table that counts these products more
pub record CountsAll (givens : List Given) (old new : Table) : Type 0 where
  pub window : new.window ≡ old.window
  pub stands : (products : List Product) → StandsFor old products → StandsFor new (products ++ map counted_of givens)

pub counts_all : (givens : List Given) (old new : Counting) → TakesAll CountsProduct givens old new → CountsAll givens old.taker.stats new.taker.stats
counts_all [] old new takes = record {
  window = ap (λ (h : Counting). h.taker.stats.window) takes;
  stands = λ products stands.
      subst (λ (h : Counting). StandsFor h.taker.stats (products ++ [])) (sym takes)
      (subst (λ (ps : List Product). StandsFor old.taker.stats ps) (sym (append-nil products)) stands);
}
counts_all (given ∷ givens) old new takes =
    let first : Adds (counted_of given) old.taker.stats takes.0.taker.stats = takes.1.0 in
    let later = counts_all givens takes.0 new takes.2 in
    record {
      window = later.window ∙ first.window;
      stands = λ products stands.
          subst (λ (ps : List Product). StandsFor new.taker.stats ps) (append_assoc products (counted_of given ∷ []) (map counted_of givens))
          (later.stands (products ++ counted_of given ∷ []) (first.stands products stands));
    }

-- the same over a gathering that ended so
over_all : (end : GatherEnd) (k : ℕ) (old new : Stage Counter (Unit {0})) (takes : TakesEach CountsProduct end k old new) → new.hands ≡ takes.mid
    → CountsAll (products_of takes.turns) old.hands.taker.stats new.hands.taker.stats
over_all end k old new takes same =
    counts_all (products_of takes.turns) old.hands new.hands (subst (λ (h : Counting). TakesAll CountsProduct (products_of takes.turns) old.hands h) (sym same) takes.taken)

-- it came to its end, and the taker did not stop it
abbrev IsWhole : Option GatherEnd → Type 0
IsWhole None = ⊥
IsWhole (Some (gather_end.Received e)) = Unit {0}
IsWhole (Some gather_end.Enough) = Unit {0}
IsWhole (Some gather_end.Stopped) = ⊥

took_all : (gathered : Option GatherEnd) (k : ℕ) (old new : Stage Counter (Unit {0})) (took : TakesIf CountsProduct gathered k old new) → IsWhole gathered
    → CountsAll (given_if CountsProduct gathered k old new took) old.hands.taker.stats new.hands.taker.stats
took_all None k old new took whole = absurd whole
took_all (Some (gather_end.Received e)) k old new took whole = over_all (gather_end.Received e) k old new took took.ends.1
took_all (Some gather_end.Enough) k old new took whole = over_all gather_end.Enough k old new took took.ends.1
took_all (Some gather_end.Stopped) k old new took whole = absurd whole

-- ---- over all

module _ (table : Table) (order : OrderView) (name : List ℕ) (old new : Situation Counter (Unit {0})) (from : old.hands.taker ≡ counter_at table) where
  abbrev CountsBy : (end : EachEnd) → GathersEach CountsProduct end order name old new → Type 0
  CountsBy end gathers = CountsAll (given_by CountsProduct gathers) table new.hands.taker.stats

  made_by : (end : EachEnd) (makes : Makes CountsProduct end order name old new) → IsWhole makes.collects.gathered
      → CountsAll (given_if CountsProduct makes.collects.gathered _ _ _ makes.collects.took) table new.hands.taker.stats
  made_by end makes whole =
      let all = makes.collects in
      let givens = given_if CountsProduct all.gathered _ _ _ all.took in
      let counts : CountsAll givens old.hands.taker.stats all.left.taker.stats = took_all all.gathered makes.k _ (stage_in all.left all.last new) all.took whole in
      subst (λ (c : Counter). CountsAll givens c.stats new.hands.taker.stats) from
      (subst (λ (c : Counter). CountsAll givens old.hands.taker.stats c.stats) (sym all.taker) counts)

  received_by : (e : RecvEnd) (gathers : GathersEach CountsProduct (each_end.Received e) order name old new) → CountsBy (each_end.Received e) gathers
  received_by e (inl none) = absurd (cc none.is)
  received_by e (inr makes) = made_by (each_end.Received e) makes (subst IsWhole (sym makes.collects.is_end) tt)

  enough_by : (gathers : GathersEach CountsProduct each_end.Enough order name old new) → CountsBy each_end.Enough gathers
  enough_by (inl none) = absurd (cc none.is)
  enough_by (inr makes) = made_by each_end.Enough makes (subst IsWhole (sym makes.collects.is_end) tt)

  told_counts : (end : EachEnd) (gathers : GathersEach CountsProduct end order name old new) → IfTold end (CountsBy end gathers)
  told_counts (each_end.Received recv_end.Ended) gathers = received_by recv_end.Ended gathers
  told_counts (each_end.Received recv_end.StreamLimit) gathers = received_by recv_end.StreamLimit gathers
  told_counts each_end.Enough gathers = enough_by gathers
  told_counts (each_end.Received (recv_end.Truncated at)) gathers = tt
  told_counts (each_end.Received (recv_end.BadFrame at)) gathers = tt
  told_counts (each_end.Received (recv_end.Refused answer)) gathers = tt
  told_counts (each_end.Received recv_end.LinkFault) gathers = tt
  told_counts (each_end.Received recv_end.LogFault) gathers = tt
  told_counts (each_end.Received recv_end.Worn) gathers = tt
  told_counts (each_end.Received recv_end.OutOfMemory) gathers = tt
  told_counts (each_end.NotMade why) gathers = tt
  told_counts each_end.Unreached gathers = tt
  told_counts (each_end.Stopped why) gathers = tt

if_told : (end : EachEnd) (P Q : Type 0) → (P → Q) → IfTold end P → IfTold end Q
if_told (each_end.Received recv_end.Ended) P Q f told = f told
if_told (each_end.Received recv_end.StreamLimit) P Q f told = f told
if_told each_end.Enough P Q f told = f told
if_told (each_end.Received (recv_end.Truncated at)) P Q f told = tt
if_told (each_end.Received (recv_end.BadFrame at)) P Q f told = tt
if_told (each_end.Received (recv_end.Refused answer)) P Q f told = tt
if_told (each_end.Received recv_end.LinkFault) P Q f told = tt
if_told (each_end.Received recv_end.LogFault) P Q f told = tt
if_told (each_end.Received recv_end.Worn) P Q f told = tt
if_told (each_end.Received recv_end.OutOfMemory) P Q f told = tt
if_told (each_end.NotMade why) P Q f told = tt
if_told each_end.Unreached P Q f told = tt
if_told (each_end.Stopped why) P Q f told = tt

-- all of the gathering
pub counts_of : (asked : StatsAsked) (table : Table) (end : EachEnd) (from counter : Counter) (old new : Lent)
    → GathersEach CountsProduct end (order_of asked) (codes "pqstats") (situation_of (hands_of from tt) old.net old.log old.clock)
    (situation_of (hands_of counter tt) new.net new.log new.clock)
    → from ≡ counter_at table → StandsFor table [] → table.window ≡ asked.hours → new.sink ≡ old.sink → Counts end counter asked old new
counts_of asked table end from counter old new gathers is empty window same =
    let last = situation_of (hands_of counter tt) new.net new.log new.clock in
    let first = situation_of (hands_of (counter_at table) tt) old.net old.log old.clock in
    let all : GathersEach CountsProduct end (order_of asked) (codes "pqstats") first last =
    subst (λ (c : Counter). GathersEach CountsProduct end (order_of asked) (codes "pqstats") (situation_of (hands_of c tt) old.net old.log old.clock) last) is gathers in
    let told = told_counts table (order_of asked) (codes "pqstats") first last refl end all in
    record {
      table = table;
      empty = empty;
      window = window;
      gathers = all;
      stands = if_told end _ _ (λ counts. counts.stands [] empty) told;
      hours = if_told end _ _ (λ counts. counts.window ∙ window) told;
      sink = same;
    }

-- ---- why the counter stopped

-- it knows why
pub record HasStopped (counter : Counter) : Type 0 where
  pub why : CountStop
  pub is : counter.why ≡ Some why

last_why : (in_hand : List Turn) (mid new : Counting) → TakesLast CountsProduct ByTaker in_hand mid new → HasStopped new.taker
last_why [] mid new last = absurd last
last_why (Lost count first end ∷ []) mid new last = absurd last
last_why (Gave given ∷ []) mid new last = record { why = last.0; is = ap (λ (c : Counter). c.why) last.1 }
last_why (Lost count first end ∷ next ∷ more) mid new last = absurd last
last_why (Gave given ∷ next ∷ more) mid new last = absurd last

took_why : (gathered : Option GatherEnd) (k : ℕ) (old new : Stage Counter (Unit {0})) → gathered ≡ Some gather_end.Stopped → new.why ≡ Some ByTaker
    → TakesIf CountsProduct gathered k old new → HasStopped new.hands.taker
took_why None k old new is why takes = absurd (cc is)
took_why (Some (gather_end.Received e)) k old new is why takes = absurd (cc is)
took_why (Some gather_end.Enough) k old new is why takes = absurd (cc is)
took_why (Some gather_end.Stopped) k old new is why takes = by_why takes.ends.0 takes.ends.1 takes.ends.2
  where
    by_why : (stop : EachStop) → new.why ≡ Some stop → TakesLast CountsProduct stop takes.in_hand takes.mid new.hands → HasStopped new.hands.taker
    by_why ByTaker same last = last_why takes.in_hand takes.mid new.hands last
    by_why LogFault same last = absurd (cc (same, why))
    by_why Worn same last = absurd (cc (same, why))

pub stop_known : (order : OrderView) (name : List ℕ) (old new : Situation Counter (Unit {0})) → GathersEach CountsProduct (each_end.Stopped ByTaker) order name old new
    → HasStopped new.hands.taker
stop_known order name old new (inl none) = absurd (cc none.is)
stop_known order name old new (inr makes) =
    let all = makes.collects in
    subst (λ (c : Counter). HasStopped c) (sym all.taker)
    (took_why all.gathered makes.k _ (stage_in all.left all.last new) all.is_end.0 all.is_end.1 all.took)
