-- What a line means that stands alone.
use Rattle.std.specs.Prelude.{◌≡◌, ℕ, List, Ok}
use Rattle.ldm_conf.specs.declared.reader.ConfLine.{ConfLine}
use Rattle.ldm_conf.specs.declared.reader.ConfLine.TheVariants as alone
use Rattle.ldm_conf.specs.Confs.{conf_view, no_conf}
use Rattle.ldm_conf.specs.Statements.{Includes, meaning_of}
use Rattle.ldm_conf.specs.States.{AddsLine}

abbrev pub MeansAlone : List ℕ → ConfLine → Type 0
-- it adds what the configuration has, or nothing
MeansAlone text (alone.Conf conf) = AddsLine text no_conf (conf_view conf)
MeansAlone text (alone.Includes path) = meaning_of text ≡ Ok (Includes path.now)
