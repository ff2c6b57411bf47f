-- The order of places is total.
use Rattle.std.specs.Cmp.{IsTotalOrder, then_total, on_total, nat_cmp_total}
use Rattle.std.specs.Cmp.Lexicographic.{nat_list_cmp_total}
use Rattle.ldm_stats.specs.Place.{Place, place_cmp}

pub places_total : IsTotalOrder place_cmp
places_total =
    then_total (on_total (λ (p : Place). p.hour) nat_cmp_total)
    (then_total (on_total (λ (p : Place). p.feed) nat_cmp_total) (on_total (λ (p : Place). p.origin) nat_list_cmp_total))
