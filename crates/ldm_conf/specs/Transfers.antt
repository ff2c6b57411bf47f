-- How the products come that a REQUEST line asks for.
use Rattle.std.specs.Prelude.{ℕ, Bool, List, [], ◌∷◌, codes, Option}
use Rattle.std.specs.List.{find}
use Rattle.std.specs.Str.{str_eq_ignore_ascii_case}
use Rattle.ldm_conf.specs.declared.limits.TheConstants.{ALTERNATE_MAX_HEREIS, PRIMARY_MAX_HEREIS}
use Rattle.ldm_conf.specs.declared.transfer.Transfer.{Transfer}
use Rattle.ldm_conf.specs.declared.transfer.Transfer.TheVariants.{Primary, Alternate}

abbrev pub transfer_name : Transfer → List ℕ
transfer_name Primary = codes "PRIMARY"
transfer_name Alternate = codes "ALTERNATE"

abbrev pub transfers : List Transfer
transfers = Primary ∷ Alternate ∷ []

abbrev pub is_named : List ℕ → Transfer → Bool
is_named word transfer = str_eq_ignore_ascii_case (transfer_name transfer) word

-- the transfer that a word names, in letters of either case
unfoldable pub transfer_of : List ℕ → Option Transfer
transfer_of word = find (is_named word) transfers

-- the size of the largest product that is asked for whole, in one message: a larger one is announced first, and comes in blocks
abbrev pub max_hereis : Transfer → ℕ
max_hereis Primary = PRIMARY_MAX_HEREIS
max_hereis Alternate = ALTERNATE_MAX_HEREIS
