-- What a table keeps, and which products it stands for.
use Rattle.std.specs.Prelude.{◌≡◌, ℕ, max, List}
use Rattle.ldm_stats.specs.Totals.{Product, greatest_hour, totals}
use Rattle.ldm_stats.specs.Joining.{Entries, within, IsAscending}

pub record Table : Type 0 where
  -- how many hours it keeps
  pub window : ℕ
  -- the greatest hour of an arrival, 0 where there was none
  pub hour : ℕ
  -- the totals of the hours kept, in ascending order of hour, feed and origin
  pub entries : Entries

-- a table stands for products where it has their greatest hour, and just their totals
pub record StandsFor (table : Table) (products : List Product) : Type 0 where
  pub hour : table.hour ≡ greatest_hour products
  pub entries : table.entries ≡ totals table.window products

-- a table that went on to an hour
pub record IsAdvanced (to : ℕ) (before after : Table) : Type 0 where
  pub window : after.window ≡ before.window
  pub hour : after.hour ≡ max before.hour to
  pub entries : after.entries ≡ within after.window after.hour before.entries
  pub ascending : IsAscending after.entries
