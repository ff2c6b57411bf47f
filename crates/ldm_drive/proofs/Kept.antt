-- A file that was opened is open, and stays so over writes. A child that was started takes bytes, also where another is started beside
-- it, and is not waited for by shutting its input.
use Rattle.std.proofs.Common.{ℕ, ◌≢◌, Bool, List, ◌++◌, [], take, Result, Ok, Err, IfOk, arith}
use Rattle.std.specs.Prelude.{String}
use Rattle.std.specs.declared.alloc.Global.{Global}
use Rattle.ldm_outside.specs.declared.fault.Failed.{Failed}
use Rattle.ldm_outside.specs.declared.io.Put.{Put}
use Rattle.ldm_outside.specs.declared.io.Put.TheVariants as put
use Rattle.ldm_outside.specs.declared.launcher.ChildNo.{ChildNo}
use Rattle.ldm_outside.specs.declared.store.FileNo.{FileNo}
use Rattle.ldm_outside.specs.Launcher.{LauncherRecord, IsTaking, IsNotWaitedFor, ShutsInput, StartsChild}
use Rattle.ldm_outside.specs.Store.{StoreRecord, IsOpen, EmptiesFile, OpensFile, WritesFile}
use Rattle.ldm_outside.proofs.StoreLemmas.{IsOpen-last, IsOpen-changes, IsOpen-fails, IsTaking-last, IsTaking-before, IsTaking-fails, IsNotWaitedFor-taking, IsNotWaitedFor-own, IsNotWaitedFor-fails}

pub opened : (result : Result FileNo Failed) (path : List ℕ) (old new : StoreRecord) → OpensFile result path old new → IfOk result (λ file. IsOpen file new)
opened (Ok file) path old new is = IsOpen-last file path old new is.0 is.1
opened (Err failed) path old new fails = tt

pub open_after_write : (result : Put) (file : FileNo) (piece : List ℕ) (old new : StoreRecord) → WritesFile result file piece old new → IsOpen file old → IsOpen file new
open_after_write (put.Took n) file piece old new is open_file = IsOpen-changes file file (λ bytes. bytes ++ take n piece) old new is.2 open_file
open_after_write put.Failed file piece old new fails open_file = IsOpen-fails file old new fails open_file

pub open_after_empty : (result : Result (Unit {0}) Failed) (file : FileNo) (old new : StoreRecord) → EmptiesFile result file old new → IsOpen file old → IsOpen file new
open_after_empty (Ok done) file old new is open_file = IsOpen-changes file file (λ _. []) old new is open_file
open_after_empty (Err failed) file old new fails open_file = IsOpen-fails file old new fails open_file

pub started : (result : Result ChildNo Failed) (words : List (String Global)) (piped : Bool) (old new : LauncherRecord) → StartsChild result words piped old new → IfOk result (λ child. IsTaking child new)
started (Ok child) words piped old new is = IsTaking-last child words piped old new is.0 is.1
started (Err failed) words piped old new fails = tt

pub taking_after_start : (result : Result ChildNo Failed) (words : List (String Global)) (piped : Bool) (other : ChildNo) (old new : LauncherRecord) → StartsChild result words piped old new → IsTaking other old → IsTaking other new
taking_after_start (Ok child) words piped other old new is taking = IsTaking-before other words piped old new is.1 taking
taking_after_start (Err failed) words piped other old new fails taking = IsTaking-fails other old new fails taking

pub started_beside : (result : Result ChildNo Failed) (words : List (String Global)) (piped : Bool) (other : ChildNo) (old new : LauncherRecord) → StartsChild result words piped old new → IsTaking other old
    → IfOk result (λ child. IsTaking child new × (child.0 ≢ other.0))
started_beside (Ok child) words piped other old new is taking = (IsTaking-last child words piped old new is.0 is.1, omega (arith, is.0, taking.given))
started_beside (Err failed) words piped other old new fails taking = tt

pub not_waited_after_shut : (result : Result (Unit {0}) Failed) (child : ChildNo) (old new : LauncherRecord) → ShutsInput result child old new → IsTaking child old → IsNotWaitedFor child new
not_waited_after_shut (Ok done) child old new is taking = IsNotWaitedFor-own child old new is (IsNotWaitedFor-taking child old taking)
not_waited_after_shut (Err failed) child old new fails taking = IsNotWaitedFor-fails child old new fails (IsNotWaitedFor-taking child old taking)
