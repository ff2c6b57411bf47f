use Rattle.std.proofs.Common.{ℕ, List, subst}
use Rattle.std.specs.Prelude.{Ok, Some, None}
use Rattle.ldm_journal.specs.declared.fault.JournalFault.TheVariants.{BadRecord}
use Rattle.ldm_journal.specs.Reading.{Fetches, HasNoRecord, JudgesRecord, ReadsRecord}
use Rattle.ldm_journal.proofs.Stays.{in_bytes}
use Rattle.ldm_journal.proofs.ReadLemmas.{read_so, read_none}
use Rattle.ldm_journal.proofs.next.read_record.Goals as goal

pub returns-in-Some-clause-read : goal.returns-in-Some-clause-read
returns-in-Some-clause-read g c =
    let ring = c.args.ring in
    let from = c.args.from in
    let left = c.args.left in
    let buffer = c.fetch.new.buffer.items in
    let entry = c.in-Some.entry in
    let done = c.in-Ok.field-0 in
    let judged : JudgesRecord (Some entry) buffer = subst (λ (l : List ℕ). JudgesRecord (Some entry) l) c.deref.ensures.value c.in-Some.ensures.judged in
    in_bytes (λ bytes. Fetches (Ok done) ring from left buffer bytes) (λ bytes. ReadsRecord (Ok entry) ring from left buffer bytes) (g.D.Disk.tells c.args.disk.now).file
    (λ bytes fetched. read_so done entry ring from left buffer bytes fetched judged) c.in-Ok.ensures.fetched

pub returns-in-None-clause-read : goal.returns-in-None-clause-read
returns-in-None-clause-read g c =
    let ring = c.args.ring in
    let from = c.args.from in
    let left = c.args.left in
    let buffer = c.fetch.new.buffer.items in
    let done = c.in-Ok.field-0 in
    let judged : JudgesRecord None buffer = subst (λ (l : List ℕ). JudgesRecord None l) c.deref.ensures.value c.in-None.ensures.judged in
    in_bytes (λ bytes. Fetches (Ok done) ring from left buffer bytes) (λ bytes. HasNoRecord BadRecord ring from left bytes) (g.D.Disk.tells c.args.disk.now).file
    (λ bytes fetched. read_none done ring from left buffer bytes fetched judged) c.in-Ok.ensures.fetched

pub returns-in-Err-clause-read : goal.returns-in-Err-clause-read
returns-in-Err-clause-read g c = c.in-Err.ensures.fetched
