use Rattle.std.proofs.Common.{◌≡◌, ◌∙◌, ℕ, ◌+◌, ◌<◌, ◌||◌, Bool, List, [], ◌∷◌, ◌++◌, length, take, drop, get_or, sym, ap, subst, arith}
use Rattle.std.specs.Prelude.{Ok, Err}
use Rattle.std.proofs.lemmas.List.{take_more}
use Rattle.ldm_pqstats.specs.Hours.{SendsHour, ends_tell}
use Rattle.ldm_pqstats.specs.Sending.{hour_at, next_number, number_behind}
use Rattle.ldm_pqstats.proofs.Sent.{Goes, goes_on, hand_in, number_more, split, stops_at}
use Rattle.ldm_pqstats.proofs.sending.put_hours.Goals as goal
use Rattle.ldm_pqstats.proofs.sending.put_hours.Goals.{then-refused, else-refused}

pub returns-in-Err-send_hour-clause-runs : goal.returns-in-Err-send_hour-clause-runs
returns-in-Err-send_hour-clause-runs g c =
    let old = ends_tell g.L.Link.tells g.K.Sink.tells g.C.Clock.tells c.args.link.now c.args.sink.now c.args.clock.now in
    let mid = ends_tell g.L.Link.tells g.K.Sink.tells g.C.Clock.tells c.loop-hour.link c.loop-hour.sink c.loop-hour.clock in
    let new = ends_tell g.L.Link.tells g.K.Sink.tells g.C.Clock.tells c.send_hour.new.link c.send_hour.new.sink c.send_hour.new.clock in
    let stats = c.args.stats.now in
    let hours = c.args.hours.now in
    let i = c.loop-hour.hour-index in
    let within : i < length hours = omega arith in
    let P : ℕ → Type 0 = λ n. SendsHour (Err c.in-Err-send_hour.why) stats (hour_at (get_or hours i 0) n) (hand_in c.loop-hour.puts mid) (hand_in c.send_hour.new.puts new) in
    stops_at stats hours (take i hours) (get_or hours i 0) (drop (i + 1) hours) c.loop-hour.refused c.in-Err-send_hour.why c.loop-hour.puts c.send_hour.new.puts old mid new
    (split hours i 0 within) c.loop-hour.invariant.goes
    (record { ends = c.loop-hour.invariant.ends; faults = c.loop-hour.invariant.faults; sink = c.loop-hour.invariant.sink }) (subst P c.loop-hour.invariant.number c.in-Err-send_hour.ensures.sends)

pub loop-hour-preserved : goal.loop-hour-preserved
loop-hour-preserved g c =
    let old = ends_tell g.L.Link.tells g.K.Sink.tells g.C.Clock.tells c.args.link.now c.args.sink.now c.args.clock.now in
    let mid = ends_tell g.L.Link.tells g.K.Sink.tells g.C.Clock.tells c.loop-hour.link c.loop-hour.sink c.loop-hour.clock in
    let new = ends_tell g.L.Link.tells g.K.Sink.tells g.C.Clock.tells c.send_hour.new.link c.send_hour.new.sink c.send_hour.new.clock in
    let stats = c.args.stats.now in
    let hours = c.args.hours.now in
    let i = c.loop-hour.hour-index in
    let within : i < length hours = omega arith in
    let hour = get_or hours i 0 in
    let this = c.in-Ok-send_hour.this_one in
    let P : ℕ → Type 0 = λ n. SendsHour (Ok this) stats (hour_at hour n) (hand_in c.loop-hour.puts mid) (hand_in c.send_hour.new.puts new) in
    let either : (c.loop-hour.refused || this) ≡ c.if-refused.refused = elim c.if-refused.branch [
      | then-refused w ↦ ap (λ (b : Bool). b || this) w.if-refused.true ∙ sym w.if-refused.true ∙ sym w.refused-is
      | else-refused w ↦ ap (λ (b : Bool). b || this) w.if-refused.false ∙ sym w.refused-is
    ] in
    let R : Bool → Type 0 = λ b. Goes stats (take i hours ++ hour ∷ []) b c.send_hour.new.puts old new in
    let S : List ℕ → Type 0 = λ done. Goes stats done c.if-refused.refused c.send_hour.new.puts old new in
    let more = take_more hours i 0 within in
    let faults = c.loop-hour.invariant.faults in
    let ends = c.loop-hour.invariant.ends in
    let sink = c.loop-hour.invariant.sink in
    let sent = c.in-Ok-send_hour.ensures in
    record {
      goes = subst S (sym more)
          (subst R either (goes_on stats (take i hours) hour c.loop-hour.refused this c.loop-hour.puts c.send_hour.new.puts old mid new c.loop-hour.invariant.goes
          (subst P c.loop-hour.invariant.number sent.sends)));
      faults = omega (arith, faults, sent.faults_kept);
      ends = omega (arith, ends, sent.ends_kept);
      sink = omega (arith, sink, sent.sink_kept);
      not_closed = sent.still_open;
      number =
          ap (λ (n : ℕ). next_number n) c.loop-hour.invariant.number
          ∙ (sym (number_more (take i hours) hour 0) ∙ ap (λ (done : List ℕ). number_behind done 0) (sym more));
    }
