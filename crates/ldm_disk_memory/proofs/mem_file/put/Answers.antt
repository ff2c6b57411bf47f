use Rattle.std.proofs.Common.{◌≡◌, ◌+◌, ◌-◌, ◌≤◌, ◌++◌, List, ℕ, length, take, replicate, sym, ◌∙◌, ap, arith, length-append, length-take, Vec}
use Rattle.std.specs.declared.alloc.Global.{Global}
use borrow.Rule.Slice.PartMut.{put_mid}
use Rattle.std.proofs.lemmas.List.{with_items_is, length-replicate}
use Rattle.ldm_disk_memory.proofs.MemFiles.{put_within, put_over, length-put}
use Rattle.ldm_disk_memory.proofs.mem_file.put.Goals as goal
use Rattle.ldm_disk_memory.proofs.mem_file.put.Goals.{then-len-end+in_ok-resize, else-len-end}

pub returns-clause-written : goal.returns-clause-written
returns-clause-written c =
    let bytes = c.if-len-end.bytes in
    let piece = c.args.piece.now in
    let at = c.args.at in
    let end = c.args.end in
    let xs = c.deref_mut.result.now in
    let ys = c.copy_from_slice.new.self in
    let same : ys ≡ piece = c.copy_from_slice.ensures.after in
    let long : length piece ≡ end - at = omega (arith, c.requires.end) in
    elim c.if-len-end.branch [
      | then-len-end+in_ok-resize w ↦
          let old = c.args.bytes.now.items in
          let old_len : length old ≡ c.len.result = omega (arith, c.args.bytes.now.ok.0, c.len.ensures) in
          let is : bytes.items ≡ take end old ++ replicate (end - length old) 0 =
          ap (λ (v : Vec ℕ Global). v.items) w.bytes-is ∙ (w.in_ok-resize.ensures.items ∙ ap (λ (n : ℕ). take end old ++ replicate (end - n) 0) c.args.bytes.now.ok.0) in
          let now : xs ≡ take end old ++ replicate (end - length old) 0 = c.deref_mut.ensures.value ∙ is in
          let whole : length xs ≡ end = omega (arith, ap length now, length-append (take end old) (replicate (end - length old) 0), length-take end old, length-replicate {A = ℕ} (end - length old) 0, w.if-len-end.true, old_len) in
          let within : at + (end - at) ≤ length xs = omega (arith, whole, c.requires.end) in
          with_items_is bytes (put_mid at (end - at) xs ys) (length-put at (end - at) xs ys within (ap length same ∙ long) ∙ (ap length c.deref_mut.ensures.value ∙ sym bytes.ok.0))
          ∙ ap (λ (l : List ℕ). put_mid at (end - at) xs l) same
          ∙ ap (λ (l : List ℕ). put_mid at (end - at) l piece) now
          ∙ put_over old piece at end c.requires.some c.requires.end (omega (arith, w.if-len-end.true, old_len))
      | else-len-end w ↦
          let old = c.args.bytes.now.items in
          let old_len : length old ≡ c.len.result = omega (arith, c.args.bytes.now.ok.0, c.len.ensures) in
          let now : xs ≡ old = c.deref_mut.ensures.value ∙ ap (λ (v : Vec ℕ Global). v.items) w.bytes-is in
          let enough : end ≤ length old = omega (arith, w.if-len-end.false, old_len) in
          let within : at + (end - at) ≤ length xs = omega (arith, ap length now, enough, c.requires.end) in
          with_items_is bytes (put_mid at (end - at) xs ys) (length-put at (end - at) xs ys within (ap length same ∙ long) ∙ (ap length c.deref_mut.ensures.value ∙ sym bytes.ok.0))
          ∙ ap (λ (l : List ℕ). put_mid at (end - at) xs l) same
          ∙ ap (λ (l : List ℕ). put_mid at (end - at) l piece) now
          ∙ put_within old piece at end c.requires.some c.requires.end enough
    ]
