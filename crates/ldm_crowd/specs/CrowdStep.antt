-- What playing a text in a crowd leaves, before anything is written.
use Rattle.std.specs.Prelude.{◌≡◌, ℕ, List, Ok}
use Rattle.ldm_model.specs.declared.event.Entry.{Entry}
use Rattle.ldm_model.specs.History.{after}
use Rattle.ldm_script.specs.Order.{Asked}
use Rattle.ldm_model.specs.Lawful.{IsLawful}
use Rattle.ldm_book.specs.View.{BookView}
use Rattle.ldm_book.specs.Stands.{StandsFor}
use Rattle.ldm_crowd.specs.Script.{script_of}
use Rattle.ldm_crowd.specs.Interleaving.{IsInterleaving, texts_from}
use Rattle.ldm_crowd.specs.CrowdEnding.{CrowdSize}

-- A text was played: all calls stand in this history, the book stands for the state after it, and these are the answers to
-- each actor.
pub record HasPlayed (size : CrowdSize) (text : List ℕ) (history : List Entry) (book : BookView) (answers : List (List ℕ)) : Type 0 where
  pub script : List (List Asked)
  pub read : script_of size.workers text ≡ Ok script
  pub lawful : IsLawful size.arena size.slots history
  pub interleaving : IsInterleaving script history
  pub stands : StandsFor book (after size.arena size.slots history)
  pub answered : answers ≡ texts_from 0 script history
