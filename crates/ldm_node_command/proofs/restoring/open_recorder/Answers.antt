use Rattle.std.proofs.Common.{◌≡◌, ◌∙◌, ◌++◌, List, Option, take, drop, length, sym, subst, arith}
use Rattle.std.proofs.lemmas.List.{take_at}
use Rattle.ldm_types.specs.declared.signature.Signature.{Signature}
use Rattle.ldm_recorder.specs.declared.end.RestoreEnd.TheVariants.{NotRead, Restored}
use Rattle.ldm_recorder.specs.declared.line.Line.{Line}
use Rattle.ldm_recorder.specs.Opening.{OpensReady}
use Rattle.ldm_recorder.specs.Restoring.{Restores, source_of}
use Rattle.ldm_node_command.specs.Lines.{noted}
use Rattle.ldm_node_command.proofs.restoring.open_recorder.Goals as goal

pub returns-in-Ready-clause-back : goal.returns-in-Ready-clause-back
returns-in-Ready-clause-back g c =
    let tells = g.F.Disk.tells in
    let journal = c.in-Ok-open.journal in
    let opened = tells c.open.new.disk in
    let left = c.restore.new.lasts in
    let long : length left ≡ c.args.known.lasts.len = omega (arith, c.restore.auto.lasts, c.as_mut_slice.ensures.len) in
    let same : take c.args.known.lasts.len (left ++ drop (length left) c.args.known.lasts.items) ≡ left =
    take_at left (drop (length left) c.args.known.lasts.items) c.args.known.lasts.len long in
    record {
      journal = journal;
      opened = opened;
      is_opened = record { attached = tells c.attach.new.self; attaches = c.in-Ok.ensures.attached; opens = c.in-Ok-open.ensures.opened };
      count = c.in-Restored.count;
      restored = c.restore.new.pass;
      restores =
          subst (λ (lasts : List (Option Signature)). Restores (Restored c.in-Restored.count) (source_of journal.marks opened.file (noted journal.marks.note c.args.known.lines.items)) lasts c.args.pass.now c.restore.new.pass) (sym same)
          (subst (λ (lines : List Line). Restores (Restored c.in-Restored.count) (source_of journal.marks opened.file lines) left c.args.pass.now c.restore.new.pass)
          (c.as_slice.ensures.value ∙ c.told_by-lines.ensures) c.in-Restored.ensures.restored);
      file = c.restore.ensures.file;
      ready =
          subst (λ (lines : List Line). OpensReady c.in-Ready.recorder journal lines c.restore.new.pass c.open-2.new.pass) c.told_by-lines.ensures
          c.in-Ready.ensures.opened;
    }

pub returns-in-NotRead-clause-back : goal.returns-in-NotRead-clause-back
returns-in-NotRead-clause-back g c =
    let tells = g.F.Disk.tells in
    let journal = c.in-Ok-open.journal in
    let opened = tells c.open.new.disk in
    record {
      marks = journal.marks;
      opened = opened;
      is_opened = record { attached = tells c.attach.new.self; attaches = c.in-Ok.ensures.attached; opens = c.in-Ok-open.ensures.opened };
      lasts = c.restore.new.lasts;
      restores =
          subst (λ (lines : List Line). Restores (NotRead c.in-NotRead.why) (source_of journal.marks opened.file lines) c.restore.new.lasts c.args.pass.now c.restore.new.pass)
          (c.as_slice.ensures.value ∙ c.told_by-lines.ensures) c.in-NotRead.ensures.restored;
      file = c.restore.ensures.file;
      fault = c.in-NotRead.ensures.failed;
    }
