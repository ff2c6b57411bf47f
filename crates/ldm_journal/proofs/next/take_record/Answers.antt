use Rattle.std.proofs.Common.{ℕ, List, subst}
use Rattle.std.specs.Prelude.{Ok, Some, None}
use Rattle.ldm_journal.specs.declared.fault.JournalFault.TheVariants.{BadRecord}
use Rattle.ldm_journal.specs.Reading.{Fetches, HasNoRecord, TakesRecord, TellsRecord}
use Rattle.ldm_journal.proofs.Stays.{in_bytes}
use Rattle.ldm_journal.proofs.ReadLemmas.{read_none, took}
use Rattle.ldm_journal.proofs.next.take_record.Goals as goal

pub returns-in-Some-clause-taken : goal.returns-in-Some-clause-taken
returns-in-Some-clause-taken g c =
    let ring = c.args.ring in
    let from = c.args.from in
    let left = c.args.left in
    let buffer = c.fetch.new.buffer.items in
    let entry = c.in-Some.entry in
    let done = c.in-Ok.field-0 in
    let told : TellsRecord (Some entry) buffer = subst (λ (l : List ℕ). TellsRecord (Some entry) l) c.deref.ensures.value c.in-Some.ensures.told in
    in_bytes (λ bytes. Fetches (Ok done) ring from left buffer bytes) (λ bytes. TakesRecord (Ok entry) ring from left buffer bytes) (g.D.Disk.tells c.args.disk.now).file
    (λ bytes fetched. took done entry ring from left buffer bytes fetched told) c.in-Ok.ensures.fetched

pub returns-in-None-clause-taken : goal.returns-in-None-clause-taken
returns-in-None-clause-taken g c =
    let ring = c.args.ring in
    let from = c.args.from in
    let left = c.args.left in
    let buffer = c.fetch.new.buffer.items in
    let done = c.in-Ok.field-0 in
    let told : TellsRecord None buffer = subst (λ (l : List ℕ). TellsRecord None l) c.deref.ensures.value c.in-None.ensures.told in
    in_bytes (λ bytes. Fetches (Ok done) ring from left buffer bytes) (λ bytes. HasNoRecord BadRecord ring from left bytes) (g.D.Disk.tells c.args.disk.now).file
    (λ bytes fetched. read_none done ring from left buffer bytes fetched told) c.in-Ok.ensures.fetched

pub returns-in-Err-clause-taken : goal.returns-in-Err-clause-taken
returns-in-Err-clause-taken g c = c.in-Err.ensures.fetched
