use Rattle.std.proofs.Common.{◌≡◌, ℕ, ◌+◌, ◌<◌, ◌≤◌, [], ◌∷◌, ap, ◌∙◌, max, arith}
use Rattle.ldm_stats.specs.Place.{Place}
use Rattle.ldm_stats.specs.Totals.{Product, Total, hour_of, place_of, total_of}
use Rattle.ldm_stats.specs.Joining.{Entries, joined, total_at}
use Rattle.ldm_stats.specs.Table.{Table}
use Rattle.ldm_stats.proofs.Stands.{added, added_here, passed_over}
use Rattle.ldm_stats.proofs.stats.Stats.add.Goals as goal

pub returns-then-hour-self-clause-added : goal.returns-then-hour-self-clause-added
returns-then-hour-self-clause-added c = λ products one.
    let window = ap (λ (t : Table). t.window) c.self.view_is in
    let hour = ap (λ (t : Table). t.hour) c.self.view_is in
    passed_over c.args.self.now products (record { time = c.args.time; info = c.args.info.now }) one
    (omega (arith, c.if-hour-self.true, c.hour_of-hour.ensures.value, c.arrival.ensures, window, hour))

pub returns-then-self-hour-clause-added : goal.returns-then-self-hour-clause-added
returns-then-self-hour-clause-added c = λ products one.
    let product : Product = record { time = c.args.time; info = c.args.info.now } in
    let mine = ap (λ (t : Table). t.entries) c.self.view_is in
    let hour : c.hour_of-hour.result ≡ (place_of product).hour = c.hour_of-hour.ensures.value ∙ ap (λ (n : ℕ). hour_of n) c.arrival.ensures in
    added c.args.self.now c.advance.new.self c.join.new.self products product one
    (λ place.
    c.in_ok-join.ensures.totals place
    ∙ ap (λ (p : Place). joined (total_at place c.self.inside.kept) (total_at place ((p, c.of-2.result) ∷ []))) c.of.ensures
    ∙ ap (λ (t : Total). joined (total_at place c.self.inside.kept) (total_at place ((place_of product, t) ∷ []))) c.of-2.ensures
    ∙ ap (λ (es : Entries). joined (total_at place es) (total_at place ((place_of product, total_of (product ∷ [])) ∷ []))) mine)
    (c.advance.ensures.window ∙ ap (λ (t : Table). t.window) c.self.view_is)
    (c.advance.ensures.hour ∙ ap (λ (t : Table). max t.hour c.hour_of-hour.result) c.self.view_is ∙ ap (λ (n : ℕ). max c.args.self.now.hour n) hour)
    c.advance.ensures.entries
    c.advance.ensures.ascending

pub returns-else-self-hour-clause-added : goal.returns-else-self-hour-clause-added
returns-else-self-hour-clause-added c = λ products one.
    let product : Product = record { time = c.args.time; info = c.args.info.now } in
    let window = ap (λ (t : Table). t.window) c.self.view_is in
    let latest = ap (λ (t : Table). t.hour) c.self.view_is in
    let mine = ap (λ (t : Table). t.entries) c.self.view_is in
    let hour : c.hour_of-hour.result ≡ (place_of product).hour = c.hour_of-hour.ensures.value ∙ ap (λ (n : ℕ). hour_of n) c.arrival.ensures in
    let no_later : (place_of product).hour ≤ c.args.self.now.hour = omega (arith, hour, latest, c.if-self-hour.false) in
    let near : c.args.self.now.hour < (place_of product).hour + c.args.self.now.window = omega (arith, hour, latest, window, c.if-hour-self.false) in
    added_here c.args.self.now (record { window = c.self.inside.window; hour = c.self.inside.hour; entries = c.join.new.self }) products product one
    (λ place.
    c.in_ok-join.ensures.totals place
    ∙ ap (λ (p : Place). joined (total_at place c.self.inside.kept) (total_at place ((p, c.of-2.result) ∷ []))) c.of.ensures
    ∙ ap (λ (t : Total). joined (total_at place c.self.inside.kept) (total_at place ((place_of product, t) ∷ []))) c.of-2.ensures
    ∙ ap (λ (es : Entries). joined (total_at place es) (total_at place ((place_of product, total_of (product ∷ [])) ∷ []))) mine)
    window latest no_later near c.in_ok-join.ensures.ascending
