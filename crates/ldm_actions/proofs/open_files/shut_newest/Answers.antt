use Rattle.std.proofs.Common.{◌≡◌, ◌∙◌, Ok, List, drop, sym, subst}
use Rattle.ldm_actions.specs.Kept.{first_of}
use Rattle.ldm_actions.specs.OpenFiles.{KeepsFiles, KeepsOr, file_side, shut_in}
use Rattle.ldm_actions.proofs.FileSteps.{shuts_newest, shuts_none}
use Rattle.ldm_actions.proofs.KeptLemmas.{Entry}
use Rattle.ldm_actions.proofs.open_files.shut_newest.Goals as goal

pub returns-in-Some : goal.returns-in-Some
returns-in-Some g c =
    let old = g.F.Store.tells c.args.store.now in
    let new = g.F.Store.tells c.shut.new.self in
    let kept = c.take_newest.new.self in
    subst
    (λ (all : List Entry). KeepsFiles (file_side all old) → KeepsOr c.shut.result (drop 1 all) (shut_in (first_of all) old) (file_side all old) (file_side kept new))
    (sym c.in-Some.ensures.1)
    (shuts_newest c.shut.result (c.in-Some.ensures.0, c.in-Some.number) kept old new c.shut.ensures.shut)
    c.requires

pub returns-in-None : goal.returns-in-None
returns-in-None g c =
    let store = g.F.Store.tells c.args.store.now in
    let files = c.args.files.now in
    let same : files ≡ c.take_newest.new.self = c.in-None.ensures.0 ∙ sym c.in-None.ensures.1 in
    subst (λ (now : List Entry). KeepsOr (Ok tt) (drop 1 files) (shut_in (first_of files) store) (file_side files store) (file_side now store)) same
    (shuts_none files store c.in-None.ensures.0 c.requires)
