-- What is told of the faults of files.
use Rattle.std.proofs.Common.{◌≡◌, ◌∙◌, ℕ, ◌+◌, ◌-◌, List, [], ◌∷◌, ◌++◌, length, Option, Some, None, Err, option_map, refl, ap, sym, subst, append-nil, append_assoc, arith}
use Rattle.ldm_outside.specs.Store.{StoreRecord}
use Rattle.ldm_text.specs.Lines.{lines_of}
use Rattle.ldm_pqact_conf.specs.declared.fault.PqactFault.{PqactFault}
use Rattle.ldm_pqact_conf.specs.Entries.{entries_from}
use Rattle.ldm_check.specs.ConfFaults as conf
use Rattle.ldm_check.specs.ConfFaults.{conf_faults, faults_of, lines_in}
use Rattle.ldm_check.specs.Files.{Scene, TellsConf, TellsPqact, conf_text, pqact_line, pqact_text}
use Rattle.ldm_check.specs.PqactFaults.{Found, HasFaults, behind_entry, found_at, line_behind}
use Rattle.ldm_check.specs.Walks.{Passes, State}

abbrev pub scene : StoreRecord → List ℕ → Scene
scene store told = record { store = store; told = told }

-- ---- an ldmd.conf

-- all lines of a file were looked at
pub told_conf : (path bytes : List ℕ) (s t : StoreRecord) (a b : State) (lines : List conf.Line) → a.count ≡ 1 → lines ≡ lines_in path 0 bytes → Passes s t a lines b []
    → TellsConf path bytes (scene s a.told) (scene t b.told)
unfolding conf_faults
told_conf path bytes s t a b lines one is p = by (faults_of p.asked a.count lines) refl (rw (append-nil p.asked, append-nil lines) at (p.on [] []))
  where
    by : (faults : Option (List conf.Found)) → faults_of p.asked a.count lines ≡ faults → option_map (λ found. a.told ++ conf_text found) faults ≡ Some (b.told ++ [])
        → TellsConf path bytes (scene s a.told) (scene t b.told)
    by None e all = cc
    by (Some found) e all =
        let same : a.told ++ conf_text found ≡ b.told ++ [] = cc in
        record { asked = p.asked; asks = p.asks; found = found; faults = rw (one, is) at e; told = sym (same ∙ append-nil b.told) }

-- ---- a pqact.conf

-- what is told of the faults of a file, where those of these lines are still to be told
abbrev pub StillTells : (path bytes old : List ℕ) (before : ℕ) → List (List ℕ) → List ℕ → Type 0
StillTells path bytes old before lines now =
    (more : List Found) → HasFaults before lines more → (found : List Found) × HasFaults 0 (lines_of bytes) found × (old ++ pqact_text path found ≡ now ++ pqact_text path more)

-- nothing is still to be told
pub told_pqact : (path bytes old now : List ℕ) (before : ℕ) (lines : List (List ℕ)) → HasFaults before lines [] → StillTells path bytes old before lines now → (store : StoreRecord)
    → TellsPqact path bytes (scene store old) (scene store now)
told_pqact path bytes old now before lines none still store =
    let all = still [] none in
    record { found = all.0; faults = all.1; told = ap (scene store) (sym (append-nil now) ∙ sym all.2) }

-- a fault in front of those of the lines from the next entry on
one_more : (before passed : ℕ) (lines left : List (List ℕ)) (fault : PqactFault) (more : List Found) → entries_from 1 lines ≡ Err fault → left ≡ behind_entry fault.line lines
    → passed + length left ≡ length lines → HasFaults (before + passed) left more → HasFaults before lines (found_at before lines fault ∷ more)
one_more before passed lines left fault more is left_is count has =
    let many : passed ≡ length lines - length left = omega (arith, count) in
    let counted : HasFaults (before + (length lines - length left)) left more = subst (λ (n : ℕ). HasFaults (before + n) left more) many has in
    (fault, is, refl, subst (λ (others : List (List ℕ)). HasFaults (before + (length lines - length others)) others more) left_is counted)

-- one fault more was told
pub told_one : (path bytes old now new : List ℕ) (before passed : ℕ) (text line : List ℕ) (left : List (List ℕ)) (fault : PqactFault) → entries_from 1 (lines_of text) ≡ Err fault
    → line ≡ line_behind (fault.line - 1) (lines_of text) → left ≡ behind_entry fault.line (lines_of text) → passed + length left ≡ length (lines_of text)
    → new ≡ now ++ pqact_line path (record { number = before + fault.line; text = line; kind = fault.kind }) → StillTells path bytes old before (lines_of text) now
    → StillTells path bytes old (before + passed) left new
told_one path bytes old now new before passed text line left fault is line_is left_is count told still = λ more has.
    let first : Found = found_at before (lines_of text) fault in
    let all = still (first ∷ more) (one_more before passed (lines_of text) left fault more is left_is count has) in
    let first_told : new ≡ now ++ pqact_line path first = rw line_is at told in
    let both : now ++ (pqact_line path first ++ pqact_text path more) ≡ new ++ pqact_text path more =
    sym (append_assoc now (pqact_line path first) (pqact_text path more)) ∙ ap (λ (text : List ℕ). text ++ pqact_text path more) (sym first_told) in
    (all.0, all.1, all.2 ∙ both)
