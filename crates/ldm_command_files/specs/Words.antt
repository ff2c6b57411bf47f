-- What is wrong with a line, in words.
use Rattle.std.specs.Prelude.{ℕ, List, codes}
use Rattle.ldm_conf.specs.declared.fault.ConfKind.{ConfKind}
use Rattle.ldm_conf.specs.declared.fault.ConfKind.TheVariants as conf
use Rattle.ldm_pqact_conf.specs.declared.fault.PqactKind.{PqactKind}
use Rattle.ldm_pqact_conf.specs.declared.fault.PqactKind.TheVariants as pqact

-- of an ldmd.conf
abbrev pub conf_words : ConfKind → List ℕ
conf_words conf.Keyword = codes "no such keyword"
conf_words conf.Fields = codes "too few words, too many, or one of a wrong form"
conf_words conf.Feed = codes "no such feedtype"
conf_words conf.Pattern = codes "a pattern that does not read"
conf_words conf.Depth = codes "a file too deep, or one too many"
conf_words conf.Store = codes "the file cannot be read"
conf_words conf.Long = codes "the file is too long"
conf_words conf.OutOfMemory = codes "no memory"

-- of a pqact.conf
abbrev pub pqact_words : PqactKind → List ℕ
pqact_words pqact.Fields = codes "too few fields, too many, or one of a wrong form"
pqact_words pqact.Feed = codes "no such feedtype"
pqact_words pqact.Pattern = codes "a pattern that does not read"
pqact_words pqact.Action = codes "no such action"
pqact_words pqact.Option = codes "no such option of the action"
pqact_words pqact.OutOfMemory = codes "no memory"
