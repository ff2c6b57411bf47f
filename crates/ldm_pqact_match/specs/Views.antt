-- What contracts see of moments, and of what the forms in a word stand for.
use Rattle.std.specs.Prelude.{◌≤◌, ◌+◌, pos, unsigned_abs}
use Rattle.jiff_core.specs.Calendar.{IsBetween}
use Rattle.ldm_pattern.specs.Parts.{parts_of}
use Rattle.ldm_pqact_match.specs.Dates.{CivilDate, CivilMoment}
use Rattle.ldm_pqact_match.specs.Substitution.{Meanings}
use Rattle.ldm_pqact_match.specs.declared.day.TheConstants.{FIRST_YEAR, LAST_YEAR}
use Rattle.ldm_pqact_match.specs.declared.day.Day.TheInside.{Inside as DayInside}
use Rattle.ldm_pqact_match.specs.declared.moment.Moment.TheInside.{Inside as MomentInside}
use Rattle.ldm_pqact_match.specs.declared.sources.Sources.{Sources}

abbrev pub day_view : DayInside → CivilDate
day_view day = record { year = unsigned_abs day.date.year; month = day.date.month; day = day.date.day }

-- its year is one of those about the years that an instant can have
abbrev pub IsNearInstants : DayInside → Type 0
IsNearInstants day = IsBetween (pos FIRST_YEAR) (pos LAST_YEAR) day.date.year

abbrev pub moment_view : MomentInside → CivilMoment
moment_view moment = record { date = moment.day; hour = moment.time.hour; minute = moment.time.minute; second = moment.time.second }

-- its year is one that an instant can have
pub record IsInstant (moment : MomentInside) : Type 0 where
  pub first : FIRST_YEAR + 1 ≤ moment.day.year
  pub last : moment.day.year + 1 ≤ LAST_YEAR

abbrev pub meanings_of : Sources → Meanings
meanings_of sources = record { groups = parts_of sources.groups; inserted = sources.inserted.now; seqno = sources.seqno }
