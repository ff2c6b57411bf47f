-- The names of the feedtypes, each with the number whose bits are its members.
use Rattle.std.specs.Prelude.{ℕ, ◌-◌, ◌^◌, List, [], ◌∷◌, codes}

-- upper-case letters stand for letters of either case
unfoldable pub feed_names : List (List ℕ × ℕ)
feed_names =
    (codes "NONE", 0) ∷
    (codes "PPS", 1) ∷
    (codes "DDS", 2) ∷
    (codes "DOMESTIC", 2) ∷
    (codes "DDPLUS", 3) ∷
    (codes "HDS", 4) ∷
    (codes "HRS", 4) ∷
    (codes "IDS", 8) ∷
    (codes "INTNL", 8) ∷
    (codes "WMO", 15) ∷
    (codes "SPARE", 16) ∷
    (codes "UNIWISC", 32) ∷
    (codes "MCIDAS", 32) ∷
    (codes "UNIDATA", 47) ∷
    (codes "EXP", 2 ^ 30) ∷
    (codes "ANY", 2 ^ 32 - 1) ∷
    (codes "FT0", 2 ^ 0) ∷
    (codes "FT1", 2 ^ 1) ∷
    (codes "FT2", 2 ^ 2) ∷
    (codes "FT3", 2 ^ 3) ∷
    (codes "FT4", 2 ^ 4) ∷
    (codes "FT5", 2 ^ 5) ∷
    (codes "FT6", 2 ^ 6) ∷
    (codes "FT7", 2 ^ 7) ∷
    (codes "FT8", 2 ^ 8) ∷
    (codes "FT9", 2 ^ 9) ∷
    (codes "FT10", 2 ^ 10) ∷
    (codes "FT11", 2 ^ 11) ∷
    (codes "FT12", 2 ^ 12) ∷
    (codes "FT13", 2 ^ 13) ∷
    (codes "FT14", 2 ^ 14) ∷
    (codes "FT15", 2 ^ 15) ∷
    (codes "FT16", 2 ^ 16) ∷
    (codes "FT17", 2 ^ 17) ∷
    (codes "FT18", 2 ^ 18) ∷
    (codes "FT19", 2 ^ 19) ∷
    (codes "FT20", 2 ^ 20) ∷
    (codes "FT21", 2 ^ 21) ∷
    (codes "FT22", 2 ^ 22) ∷
    (codes "FT23", 2 ^ 23) ∷
    (codes "FT24", 2 ^ 24) ∷
    (codes "FT25", 2 ^ 25) ∷
    (codes "FT26", 2 ^ 26) ∷
    (codes "FT27", 2 ^ 27) ∷
    (codes "FT28", 2 ^ 28) ∷
    (codes "FT29", 2 ^ 29) ∷
    (codes "FT30", 2 ^ 30) ∷
    (codes "FT31", 2 ^ 31) ∷
    []
