-- Values that meet the premises of the laws: a first insertion, a reader that is about to step, and a reservation that
-- is filled.
use Rattle.std.specs.Prelude.{◌≡◌, true, List, [], ◌∷◌, take, drop}
use Rattle.ldm_model.specs.declared.event.Start.TheVariants as start
use Rattle.ldm_model.specs.declared.event.Event.TheVariants.{Step, Commit}
use Rattle.ldm_model.specs.declared.event.Reply.TheVariants as reply
use Rattle.ldm_model.specs.declared.event.Entry.{Entry}
use Rattle.ldm_model.specs.Product.{Product}
use Rattle.ldm_model.specs.State.{empty}
use Rattle.ldm_model.specs.History.{IsLegal, entries_of}
use Rattle.ldm_model.specs.Law.{Point, IsPointOf, is_own}
use Rattle.ldm_model.specs.Filling.{Filling, IsFillingOf, is_filling}
use Rattle.ldm_model.specs.Always.{IsInsertable}
use Rattle.ldm_model.specs.Examples.{sample_info, insert_of, open_from, reserve_of, fill_of, by}

-- a product of four bytes is the first that is inserted
abbrev pub first_product : Product
first_product = record { info = sample_info 1 4; body = 65 ∷ 65 ∷ 65 ∷ 65 ∷ [] }

abbrev pub InsertsFirst : Type 0
InsertsFirst = IsInsertable (empty 168 10) first_product

-- actor 1 opens a cursor behind the first product, another is inserted, and actor 1 steps
abbrev pub entries_read : List Entry
entries_read =
    entries_of (empty 168 10)
    (by 0 (insert_of 100 1 4) ∷ by 1 (open_from start.Oldest) ∷ by 0 (insert_of 100 2 4) ∷ by 1 (Step 0) ∷ [])

-- the reader, before it steps
abbrev pub reader_waiting : Point
reader_waiting = record {
  arena = 168;
  slots = 10;
  before = take 1 entries_read;
  owner = 1;
  feed = 2;
  start = start.Oldest;
  k = 0;
  since = take 1 (drop 2 entries_read);
}

abbrev pub stepping : Entry
stepping = record { actor = 1; event = Step 0; reply = reply.Product 0 100 (sample_info 1 4) }

-- a point of a legal history, and the next entry is the owner's, about the cursor
abbrev pub ReadsOn : Type 0
ReadsOn =
    IsLegal 168 10 entries_read
    × ((at : IsPointOf 168 10 entries_read reader_waiting) × (at.rest ≡ stepping ∷ []))
    × (is_own reader_waiting stepping ≡ true)

-- actor 0 reserves a region, another product is inserted, actor 0 fills the whole body in, and commits
abbrev pub entries_filled : List Entry
entries_filled =
    entries_of (empty 168 10)
    (by 0 (reserve_of 1 2) ∷ by 1 (insert_of 100 2 4) ∷ by 0 (fill_of 0 (65 ∷ 66 ∷ [])) ∷ by 0 (Commit 0 500) ∷ [])

-- the reservation, before the commit
abbrev pub reservation_filled : Filling
reservation_filled = record {
  arena = 168;
  slots = 10;
  before = [];
  owner = 0;
  info = sample_info 1 2;
  r = 0;
  evicted = 0;
  since = take 2 (drop 1 entries_filled);
}

abbrev pub committing : Entry
committing = record { actor = 0; event = Commit 0 500; reply = reply.Committed 1 500 }

-- a point of a reservation of a legal history, and the next entry is the owner's, about it
abbrev pub FillsOn : Type 0
FillsOn =
    IsLegal 168 10 entries_filled
    × ((at : IsFillingOf 168 10 entries_filled reservation_filled) × (at.rest ≡ committing ∷ []))
    × (is_filling reservation_filled committing ≡ true)
