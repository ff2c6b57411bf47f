-- What a proof unfolds to compute forms of words that are written out.
use Rattle.std.specs.Prelude.{⊤}
use Rattle.clap.proofs.OnLiterals.{clap_on_literals}
use Rattle.ldm_conf.specs.Addresses.{address_of}
use Rattle.ldm_feedtype.specs.FeedSets.{number_below}
use Rattle.ldm_feedtype.specs.Names.{feed_names}
use Rattle.ldm_words.specs.Commands.{file_command, matched, node_command, notifyme_command, pqact_command, pqcat_command, pqinsert_command, pqmon_command}
use Rattle.ldm_words.specs.Commands.{pqstats_command, save_command, wmo_command}

unfoldable pub on_literals : ⊤
unfolding clap_on_literals matched node_command notifyme_command pqact_command pqcat_command pqinsert_command pqmon_command pqstats_command save_command wmo_command file_command address_of feed_names number_below
on_literals = tt
