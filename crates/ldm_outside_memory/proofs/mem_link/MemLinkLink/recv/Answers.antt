use Rattle.std.proofs.Common.{◌≡◌, ◌∙◌, ℕ, List, Some, false, Result, Ok, Err, is_err, OnOk, refl, sym, ap, arith}
use Rattle.ldm_outside.specs.declared.fault.Failed.{Failed}
use Rattle.ldm_outside_memory.specs.Memory.{after_call}
use Rattle.ldm_outside_memory.specs.MemCalls.{CallsState, Begins}
use Rattle.ldm_outside.specs.Link.{then_piece}
use Rattle.ldm_outside_memory.proofs.CopyFront.{drop-copied}
use Rattle.std.proofs.lemmas.List.{take_rest}
use Rattle.ldm_outside_memory.proofs.mem_link.MemLinkLink.recv.Goals as goal

-- a call that did not fail is counted, and nothing else
begun : (r : Result (Unit {0}) Failed) (old new : CallsState) → Begins r old new → is_err r ≡ false → new ≡ record { plan = after_call old.plan; faults = old.faults }
begun (Ok done) old new begins good = begins.1
begun (Err failed) old new begins good = absurd (cc)

-- what holds where there is no error
kept : {E P : Type 0} (r : Result (Unit {0}) E) → OnOk r P → is_err r ≡ false → P
kept (Ok done) holds good = holds
kept (Err e) holds good = absurd (cc)

pub returns-clause-given : goal.returns-clause-given
returns-clause-given c =
    let copied = rw (take_rest, c.deref.ensures.value) at c.copy_next.ensures.front in
    let calls = begun c.begin.result c.self.inside.calls c.begin.new.self c.begin.ensures.begun (sym c.is_err.ensures.value ∙ c.if-is_err.false) in
    let kept_bytes = kept c.keep_piece.result (rw (take_rest, c.deref.ensures.value) at c.keep_piece.ensures.kept) (sym c.is_err-2.ensures.value ∙ c.if-is_err-2.false) in
    let passed = kept_bytes ∙ ap (λ (bytes : List ℕ). then_piece bytes c.self.inside.passed.items) (sym copied) in
    rw (← c.self.view_is, calls, passed) (
      omega arith,
      omega arith,
      (ap (λ (xs : List ℕ). Some xs) (drop-copied c.self.inside.bytes.items c.copy_next.new.into c.self.inside.at c.min-n.result copied), refl),
    )
