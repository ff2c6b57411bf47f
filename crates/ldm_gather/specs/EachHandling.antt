-- What a call of the handler does that hands each product to a taker.
use Rattle.std.specs.Prelude.{◌≡◌, ◌<◌, ◌≤◌, length, Some, None}
use Rattle.std.specs.Option.{ForSome}
use Rattle.ldm_session.specs.declared.gaps.TheConstants.{LONGEST_NAME}
use Rattle.ldm_gather.specs.declared.end.Handled.{Handled}
use Rattle.ldm_gather.specs.declared.end.Handled.TheVariants.{On, Enough, Stopped}
use Rattle.ldm_gather.specs.declared.each.Each.{Each}
use Rattle.ldm_gather.specs.declared.each.Stepped.{Stepped}
use Rattle.ldm_gather.specs.declared.each.Stepped.TheVariants as stepped
use Rattle.ldm_gather.specs.declared.taker.EachStop.{EachStop}
use Rattle.ldm_gather.specs.declared.taker.Taken.{Taken}
use Rattle.ldm_shared.specs.Givens.{Given}
use Rattle.ldm_gather.specs.Scene.{Scene}
use Rattle.ldm_gather.specs.Stepping.{Sight, Steps, Tap, sight_of, tap_of}
use Rattle.ldm_gather.specs.Taking.{Hands, hands_of}

-- its cursor, and the name by which losses are logged
abbrev pub tap_in : {T : Type 0} → Each T → Tap
tap_in each = tap_of each.asking.name.now each.reader.k

abbrev pub sight_in : {T A : Type 0} → Scene (Each T) A (Unit {0}) → Sight T A
sight_in scene = sight_of scene.handler.left (hands_of scene.handler.taker scene.first) scene.pass scene.log

-- all but the count and the taker is as it was
abbrev pub IsSameEach : {T : Type 0} → Each T → Each T → Type 0
IsSameEach old new = new ≡ record old { left = new.left; taker = new.taker }

-- It did not stop, some products are left, where there is a count, and a line has room for its name.
pub record IsGoing {T : Type 0} (each : Each T) : Type 0 where
  pub goes : each.why ≡ None
  pub some : ForSome each.left (λ n. 0 < n)
  pub named : length each.asking.name.now ≤ LONGEST_NAME

module _ {T A : Type 0} (takes : Taken → Given → Hands T A → Hands T A → Type 0) where
  -- What its steps came to, from one scene to another.
  abbrev pub StepsIn : Stepped → Scene (Each T) A (Unit {0}) → Scene (Each T) A (Unit {0}) → Type 0
  StepsIn came old new = Steps takes (tap_in old.handler) came (sight_in old) (sight_in new)

  -- Each product that the cursor gave was taken, up to the end of the queue; or up to the last of the count; or it stopped.
  abbrev pub EachHandles : Handled → Scene (Each T) A (Unit {0}) → Scene (Each T) A (Unit {0}) → Type 0
  EachHandles On old new = StepsIn stepped.AtEnd old new × IsSameEach old.handler new.handler
  EachHandles Enough old new = StepsIn stepped.Enough old new × IsSameEach old.handler new.handler
  EachHandles Stopped old new =
      (why : EachStop) × StepsIn (stepped.Stopped why) old new
      × (new.handler ≡ record old.handler { left = new.handler.left; taker = new.handler.taker; why = Some why })
