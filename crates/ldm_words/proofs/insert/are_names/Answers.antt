use Rattle.std.proofs.Common.{◌∙◌, sym}
use Rattle.std.specs.Borrow.{Bor}
use Rattle.std.specs.Prelude.{is_none, option_copied}
use Rattle.std.proofs.lemmas.List.Folds.{list_all-map}
use Rattle.clap.specs.Words.{Text}
use Rattle.ldm_types.specs.Info.{texts_fault}
use Rattle.ldm_words.specs.Values.{ident_or}
use Rattle.ldm_words.proofs.insert.are_names.Goals as goal

pub returns : goal.returns
returns c = c.all_are_names.ensures
    ∙ sym (list_all-map (λ (file : Text). is_none (texts_fault c.args.origin.now (ident_or (option_copied c.args.ident) file))) (λ (file : Bor Text). file.now) c.args.files.now)
