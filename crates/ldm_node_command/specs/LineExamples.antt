-- A sample request for the worked examples.
use Rattle.std.specs.Prelude.{codes}
use Rattle.ldm_conf.specs.declared.transfer.Transfer.TheVariants.{Alternate}
use Rattle.ldm_conf.specs.Confs.{RequestView, all_times}

-- host `h` at port 388 is asked for the products of feedtype 4, of all idents
abbrev pub sample_request : RequestView
sample_request = record { class = all_times 4 (codes ".*"); host = codes "h"; port = 388; transfer = Alternate }
