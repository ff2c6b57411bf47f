-- What taking a configuration or entries comes to.
use Rattle.std.proofs.Common.{◌≡◌, ◌⊎◌, ℕ, inl, inr, List, refl, sym, subst}
use Rattle.std.specs.Prelude.{Result, Ok, Err, Some}
use Rattle.ldm_outside.specs.Count.{Rose}
use Rattle.ldm_outside.specs.Store.{File, StoreRecord, ReadsFile}
use Rattle.ldm_outside.specs.declared.store.FileRead.{FileRead}
use Rattle.ldm_outside.specs.declared.store.FileRead.TheVariants as file
use Rattle.ldm_text.specs.declared.limits.TheConstants.{LONGEST_CONFIGURATION}
use Rattle.ldm_conf.specs.declared.conf.Conf.{Conf}
use Rattle.ldm_conf.specs.declared.fault.ConfFault.{ConfFault}
use Rattle.ldm_conf.specs.declared.fault.ConfKind.{ConfKind}
use Rattle.ldm_conf.specs.declared.fault.ConfKind.TheVariants as kind
use Rattle.ldm_conf.specs.Causes.{HasCause, IsIn, IsOfFile, ReadsTo, first_too_long}
use Rattle.ldm_conf.specs.Confs.{conf_view}
use Rattle.ldm_conf.specs.Reading.{End, Faulty, Read, Wants}
use Rattle.ldm_command_files.specs.declared.conf_file.ConfNotTaken.{ConfNotTaken}
use Rattle.ldm_command_files.specs.declared.conf_file.ConfNotTaken.TheVariants.{Bad, Store, OutOfMemory}
use Rattle.ldm_command_files.specs.ConfFiles.{CompletesConf, FileReadsTo, IsAnswer, IsBad, IsWanted, TakesConf}
use Rattle.ldm_command_files.specs.Texts.{ReadsText, by_kind}
use Rattle.ldm_command_files.proofs.Agreeing.{Agree, HasFile, files_agree}
use Rattle.ldm_command_files.proofs.Keeping.{Keeps, keeps_all, keeps_failed, keeps_long, long_none}

keeps_bad : (cause : ConfKind) (fault : ConfFault) (path : List ℕ) (old new : StoreRecord) → IsBad cause fault path old new → Keeps old new
keeps_bad kind.Keyword fault path old new bad = keeps_all old new bad.1
keeps_bad kind.Fields fault path old new bad = keeps_all old new bad.1
keeps_bad kind.Feed fault path old new bad = keeps_all old new bad.1
keeps_bad kind.Pattern fault path old new bad = keeps_all old new bad.1
keeps_bad kind.Depth fault path old new bad = keeps_all old new bad.1
keeps_bad kind.Long fault path old new bad = keeps_long bad.wanted old new bad.answered
keeps_bad kind.Store fault path old new bad = absurd bad
keeps_bad kind.OutOfMemory fault path old new bad = absurd bad

pub taking_keeps : (result : Result Conf ConfNotTaken) (path : List ℕ) (old new : StoreRecord) → TakesConf result path old new → Keeps old new
taking_keeps (Ok conf) path old new takes = keeps_all old new takes.1
taking_keeps (Err (Bad fault)) path old new takes = keeps_bad fault.kind fault path old new takes
taking_keeps (Err Store) path old new takes = keeps_failed old new takes.3
taking_keeps (Err OutOfMemory) path old new takes = keeps_all old new takes

module _ (path bytes : List ℕ) (old new : StoreRecord) (is_in : IsIn old (record { path = path; bytes = bytes })) where
  file_reads : (end : End) → ReadsTo old bytes end → FileReadsTo old path end
  file_reads end reads = record { bytes = bytes; first = is_in; reads = reads }

  included : (answer : FileRead) (fault : ConfFault) → (h : IsOfFile (ReadsTo old bytes) answer fault old new) → IsWanted old path fault h.path
  included answer fault h = inr (record { line = h.line; reads = file_reads (Wants h.line h.path) h.wanted; place = h.place })

  bad_by : (cause : ConfKind) (fault : ConfFault) → fault.kind ≡ cause → IsBad cause fault path old new → IsBad fault.kind fault path old new
  bad_by cause fault is bad = subst (λ (k : ConfKind). IsBad k fault path old new) (sym is) bad

  -- the answer by the kind of a fault of the lines
  taken_by : (cause : ConfKind) (fault : ConfFault) → fault.kind ≡ cause → HasCause (ReadsTo old bytes) cause fault old new → TakesConf (Err (by_kind cause fault)) path old new
  taken_by kind.Keyword fault is h = bad_by kind.Keyword fault is (file_reads (Faulty fault) h.0, h.1)
  taken_by kind.Fields fault is h = bad_by kind.Fields fault is (file_reads (Faulty fault) h.0, h.1)
  taken_by kind.Feed fault is h = bad_by kind.Feed fault is (file_reads (Faulty fault) h.0, h.1)
  taken_by kind.Pattern fault is h = bad_by kind.Pattern fault is (file_reads (Faulty fault) h.0, h.1)
  taken_by kind.Depth fault is h = bad_by kind.Depth fault is (file_reads (Faulty fault) h.0, h.1)
  taken_by kind.Long fault is h = bad_by kind.Long fault is (record { wanted = h.path; is_wanted = included file.TooLong fault h; answered = h.answered })
  taken_by kind.Store fault is h = (h.path, fault, included file.Failed fault h, h.answered)
  taken_by kind.OutOfMemory fault is h = h

  -- the bytes of the first file came
  pub takes_text : (result : Result Conf ConfNotTaken) → ReadsText result bytes old new → TakesConf result path old new
  takes_text (Ok conf) reads = (file_reads (Read (conf_view conf)) reads.0, reads.1)
  takes_text (Err why) reads =
      subst (λ (w : ConfNotTaken). TakesConf (Err w) path old new) (sym reads.1) (taken_by reads.0.kind reads.0 refl reads.2)

-- the first file is too long
pub first_long : (path : List ℕ) (old new : StoreRecord) → ReadsFile file.TooLong path LONGEST_CONFIGURATION old new → TakesConf (Err (Bad first_too_long)) path old new
first_long path old new answered = record { wanted = path; is_wanted = inl (refl, refl); answered = answered }

-- or could not be read
pub first_failed : (path : List ℕ) (old new : StoreRecord) → ReadsFile file.Failed path LONGEST_CONFIGURATION old new → TakesConf (Err Store) path old new
first_failed path old new answered = (path, first_too_long, inl (refl, refl), answered)

module _ (path : List ℕ) (old new : StoreRecord) (files : List File) (told : old.files ≡ Some files) where
  answers_wanted : (end : End) (result : Result Conf ConfNotTaken) → HasFile old end → IsAnswer end result
  answers_wanted (Read conf) result has = absurd has
  answers_wanted (Faulty fault) result has = absurd has
  answers_wanted (Wants line wanted) result has = tt

  -- an end of these files other than the own one has the same answer
  answers : (own end : End) (result : Result Conf ConfNotTaken) → FileReadsTo old path own → IsAnswer own result → ¬ HasFile old own → FileReadsTo old path end → IsAnswer end result
  answers own end result to_own answer none to_end = by_agree (files_agree old files told path own end to_own to_end)
    where
      by_agree : Agree old own end → IsAnswer end result
      by_agree (inl same) = subst (λ (e : End). IsAnswer e result) same answer
      by_agree (inr (inl has)) = absurd (none has)
      by_agree (inr (inr has)) = answers_wanted end result has

  answers_unread : (fault : ConfFault) (wanted : List ℕ) (end : End) (result : Result Conf ConfNotTaken) → ReadsFile file.TooLong wanted LONGEST_CONFIGURATION old new
      → IsWanted old path fault wanted → FileReadsTo old path end → IsAnswer end result
  answers_unread fault wanted end result answered (inl first) to_end =
      absurd (long_none wanted to_end.bytes old new files told answered (subst (λ (p : List ℕ). IsIn old (record { path = p; bytes = to_end.bytes })) (sym first.0) to_end.first))
  answers_unread fault wanted end result answered (inr inside) to_end =
      answers (Wants inside.line wanted) end result inside.reads tt (λ has. long_none wanted has.0 old new files told answered has.1) to_end

  answers_bad : (cause : ConfKind) (fault : ConfFault) (end : End) → IsBad cause fault path old new → FileReadsTo old path end → IsAnswer end (Err (Bad fault))
  answers_bad kind.Keyword fault end bad to_end = answers (Faulty fault) end (Err (Bad fault)) bad.0 refl (λ has. has) to_end
  answers_bad kind.Fields fault end bad to_end = answers (Faulty fault) end (Err (Bad fault)) bad.0 refl (λ has. has) to_end
  answers_bad kind.Feed fault end bad to_end = answers (Faulty fault) end (Err (Bad fault)) bad.0 refl (λ has. has) to_end
  answers_bad kind.Pattern fault end bad to_end = answers (Faulty fault) end (Err (Bad fault)) bad.0 refl (λ has. has) to_end
  answers_bad kind.Depth fault end bad to_end = answers (Faulty fault) end (Err (Bad fault)) bad.0 refl (λ has. has) to_end
  answers_bad kind.Long fault end bad to_end = answers_unread fault bad.wanted end (Err (Bad fault)) bad.answered bad.is_wanted to_end
  answers_bad kind.Store fault end bad to_end = absurd bad
  answers_bad kind.OutOfMemory fault end bad to_end = absurd bad

  answered_by : (result : Result Conf ConfNotTaken) (end : End) → TakesConf result path old new → FileReadsTo old path end → ¬ Rose old.faults new.faults
      → IsAnswer end result ⊎ (result ≡ Err OutOfMemory)
  answered_by (Ok conf) end takes to_end still = inl (answers (Read (conf_view conf)) end (Ok conf) takes.0 (conf, refl, refl) (λ has. has) to_end)
  answered_by (Err (Bad fault)) end takes to_end still = inl (answers_bad fault.kind fault end takes to_end)
  answered_by (Err Store) end takes to_end still = absurd (still takes.3.0)
  answered_by (Err OutOfMemory) end takes to_end still = inr refl

pub taking_completes : (result : Result Conf ConfNotTaken) (path : List ℕ) (old new : StoreRecord) → TakesConf result path old new → CompletesConf result path old new
taking_completes result path old new takes = λ files end told to_end still. answered_by path old new files told result end takes to_end still
