-- The fields of the rows of a file, in their order.
use Rattle.std.proofs.Common.{◌≡◌, ℕ, zero, suc, ◌+◌, ◌<◌, ◌≤◌, min, List, [], ◌∷◌, ◌++◌, refl, sym, ◌∙◌, ap, arith}
use Rattle.std.proofs.lemmas.List.{append_assoc}
use Rattle.ldm_types.specs.declared.limits.TheConstants.{MOST_SLOTS}
use Rattle.std.specs.List.{AllByRecursion}
use Rattle.ldm_image.specs.Fault.{Field, Magic, Version, Gate, Zeros, Arena, Slots, Admitted, Last, Count, RowNumber, RowTime, RowPlace, Bytes, Surplus, IsFieldLawful, IsFaultyAt, row_fields, row_start, fields, count_in, arena_start, arena_in}

-- the fields of some rows, and of those behind them
pub rows_split : (first count more : ℕ) → row_fields first (count + more) ≡ row_fields first count ++ row_fields (first + count) more
rows_split first zero more =
    let none : 0 + more ≡ more = omega arith in
    let at : first + 0 ≡ first = omega arith in
    ap (λ (n : ℕ). row_fields first n) none ∙ ap (λ (n : ℕ). row_fields n more) (sym at)
rows_split first (suc count) more =
    let sum : suc count + more ≡ suc (count + more) = omega arith in
    let at : first + 1 + count ≡ first + suc count = omega arith in
    ap (λ (n : ℕ). row_fields first n) sum
    ∙ ap (λ (l : List Field). RowNumber first ∷ RowTime first ∷ RowPlace first ∷ l)
    (rows_split (first + 1) count more ∙ ap (λ (n : ℕ). row_fields (first + 1) count ++ row_fields n more) at)

-- what holds of two lists of fields
pub both_lawful : (file : List ℕ) (fields more : List Field) → AllByRecursion (IsFieldLawful file) fields → AllByRecursion (IsFieldLawful file) more
    → AllByRecursion (IsFieldLawful file) (fields ++ more)
both_lawful file [] more first next = next
both_lawful file (field ∷ fields) more first next = (first.0, both_lawful file fields more first.1 next)

-- the fields of rows are lawful where each row is
pub rows_lawful : (file : List ℕ) (first count : ℕ)
    → ((row : ℕ) → first ≤ row → row < first + count → IsFieldLawful file (RowNumber row) × IsFieldLawful file (RowTime row) × IsFieldLawful file (RowPlace row))
    → AllByRecursion (IsFieldLawful file) (row_fields first count)
rows_lawful file first zero each = tt
rows_lawful file first (suc count) each =
    let here = each first (omega arith) (omega arith) in
    (here.0, (here.1, (here.2, rows_lawful file (first + 1) count (λ row le less. each row (omega (arith, le)) (omega (arith, less))))))

-- the fields in front of the rows
abbrev pub head_fields : List Field
head_fields = Magic ∷ Version ∷ Gate ∷ Zeros ∷ Arena ∷ Slots ∷ Admitted ∷ Last ∷ Count ∷ []

-- all fields, by those of one row
pub fields_at_row : (file : List ℕ) (row more : ℕ) → min (count_in file) MOST_SLOTS ≡ row + suc more
    → fields file ≡ (head_fields ++ row_fields 0 row) ++ RowNumber row ∷ RowTime row ∷ RowPlace row ∷ (row_fields (row + 1) more ++ Bytes ∷ Surplus ∷ [])
fields_at_row file row more is =
    let here : 0 + row ≡ row = omega arith in
    let split : row_fields 0 (min (count_in file) MOST_SLOTS) ≡ row_fields 0 row ++ row_fields row (suc more) =
    ap (λ (n : ℕ). row_fields 0 n) is ∙ rows_split 0 row (suc more) ∙ ap (λ (n : ℕ). row_fields 0 row ++ row_fields n (suc more)) here in
    ap (λ (l : List Field). head_fields ++ (l ++ Bytes ∷ Surplus ∷ [])) split
    ∙ ap (λ (l : List Field). head_fields ++ l) (append_assoc (row_fields 0 row) (row_fields row (suc more)) (Bytes ∷ Surplus ∷ []))
    ∙ sym (append_assoc head_fields (row_fields 0 row) (row_fields row (suc more) ++ Bytes ∷ Surplus ∷ []))

-- all fields, by those behind the rows
pub fields_behind_rows : (file : List ℕ) (count : ℕ) → min (count_in file) MOST_SLOTS ≡ count → fields file ≡ (head_fields ++ row_fields 0 count) ++ Bytes ∷ Surplus ∷ []
fields_behind_rows file count is =
    ap (λ (n : ℕ). head_fields ++ (row_fields 0 n ++ Bytes ∷ Surplus ∷ [])) is ∙ sym (append_assoc head_fields (row_fields 0 count) (Bytes ∷ Surplus ∷ []))

-- the three fields of each row before one are lawful
abbrev pub AreLawfulBefore : List ℕ → ℕ → Type 0
AreLawfulBefore file row =
    (earlier : ℕ) → earlier < row → IsFieldLawful file (RowNumber earlier) × IsFieldLawful file (RowTime earlier) × IsFieldLawful file (RowPlace earlier)

module _ (file : List ℕ) (heads : AllByRecursion (IsFieldLawful file) head_fields) where
  front_lawful : (row : ℕ) → AreLawfulBefore file row → AllByRecursion (IsFieldLawful file) (head_fields ++ row_fields 0 row)
  front_lawful row before = both_lawful file head_fields (row_fields 0 row) heads (rows_lawful file 0 row (λ r le less. before r (omega (arith, less))))

  pub faulty_number : (row more : ℕ) → min (count_in file) MOST_SLOTS ≡ row + suc more → AreLawfulBefore file row → ¬ (IsFieldLawful file (RowNumber row))
      → IsFaultyAt file (row_start row)
  faulty_number row more is before not = record {
    before = head_fields ++ row_fields 0 row;
    field = RowNumber row;
    behind = _;
    all = fields_at_row file row more is;
    lawful = front_lawful row before;
    not_lawful = not;
    at_it = refl;
  }

  pub faulty_time : (row more : ℕ) → min (count_in file) MOST_SLOTS ≡ row + suc more → AreLawfulBefore file row → IsFieldLawful file (RowNumber row)
      → ¬ (IsFieldLawful file (RowTime row)) → IsFaultyAt file (row_start row + 8)
  faulty_time row more is before number not = record {
    before = (head_fields ++ row_fields 0 row) ++ RowNumber row ∷ [];
    field = RowTime row;
    behind = RowPlace row ∷ (row_fields (row + 1) more ++ Bytes ∷ Surplus ∷ []);
    all = fields_at_row file row more is
        ∙ sym (append_assoc (head_fields ++ row_fields 0 row) (RowNumber row ∷ []) (RowTime row ∷ RowPlace row ∷ (row_fields (row + 1) more ++ Bytes ∷ Surplus ∷ [])));
    lawful = both_lawful file (head_fields ++ row_fields 0 row) (RowNumber row ∷ []) (front_lawful row before) (number, tt);
    not_lawful = not;
    at_it = refl;
  }

  pub faulty_place : (row more : ℕ) → min (count_in file) MOST_SLOTS ≡ row + suc more → AreLawfulBefore file row → IsFieldLawful file (RowNumber row)
      → IsFieldLawful file (RowTime row) → ¬ (IsFieldLawful file (RowPlace row)) → IsFaultyAt file (row_start row + 16)
  faulty_place row more is before number time not = record {
    before = (head_fields ++ row_fields 0 row) ++ RowNumber row ∷ RowTime row ∷ [];
    field = RowPlace row;
    behind = row_fields (row + 1) more ++ Bytes ∷ Surplus ∷ [];
    all = fields_at_row file row more is
        ∙ sym (append_assoc (head_fields ++ row_fields 0 row) (RowNumber row ∷ RowTime row ∷ []) (RowPlace row ∷ (row_fields (row + 1) more ++ Bytes ∷ Surplus ∷ [])));
    lawful = both_lawful file (head_fields ++ row_fields 0 row) (RowNumber row ∷ RowTime row ∷ []) (front_lawful row before) (number, (time, tt));
    not_lawful = not;
    at_it = refl;
  }

  pub faulty_bytes : (count : ℕ) → min (count_in file) MOST_SLOTS ≡ count → AreLawfulBefore file count → ¬ (IsFieldLawful file Bytes) → IsFaultyAt file (arena_start file)
  faulty_bytes count is before not = record {
    before = head_fields ++ row_fields 0 count;
    field = Bytes;
    behind = Surplus ∷ [];
    all = fields_behind_rows file count is;
    lawful = front_lawful count before;
    not_lawful = not;
    at_it = refl;
  }

  pub faulty_surplus : (count : ℕ) → min (count_in file) MOST_SLOTS ≡ count → AreLawfulBefore file count → IsFieldLawful file Bytes → ¬ (IsFieldLawful file Surplus)
      → IsFaultyAt file (arena_start file + arena_in file)
  faulty_surplus count is before bytes not = record {
    before = (head_fields ++ row_fields 0 count) ++ Bytes ∷ [];
    field = Surplus;
    behind = [];
    all = fields_behind_rows file count is ∙ sym (append_assoc (head_fields ++ row_fields 0 count) (Bytes ∷ []) (Surplus ∷ []));
    lawful = both_lawful file (head_fields ++ row_fields 0 count) (Bytes ∷ []) (front_lawful count before) (bytes, tt);
    not_lawful = not;
    at_it = refl;
  }
