-- The body of a product, piece by piece.
use Rattle.std.proofs.Common.{◌≡◌, ◌∙◌, ℕ, ◌+◌, ◌≤◌, List, [], ◌++◌, take, drop, refl, sym, ap, subst, append_assoc, arith}
use Rattle.std.specs.Prelude.{Ok}
use Rattle.std.proofs.Math.Seq.{take-add}
use Rattle.std.proofs.lemmas.List.{take-append-drop, take_all}
use Rattle.ldm_outside.specs.Io.{SinkRecord, WritesFront}
use Rattle.ldm_outside.proofs.CallerLemmas.{Rose-later, Takes-nothing, Takes-then, WritesFront-behind}
use Rattle.ldm_shared.specs.Passes.{FindsWorn, IsSamePass, PassView}
use Rattle.ldm_shared.specs.declared.reader.Held.{Held}
use Rattle.ldm_shared.specs.Reader.{Holds}
use Rattle.ldm_shared.proofs.Using.{same_then, uses_none, uses_then, uses_worn}
use Rattle.ldm_gather.specs.declared.body.WriteStop.{WriteStop}
use Rattle.ldm_gather.specs.declared.body.WriteStop.TheVariants.{SinkFault, Worn}
use Rattle.ldm_gather.specs.Writing.{Reads, Sight, WriteCause, Writes, WritesPart, part_of, sight_of}

-- nothing was taken: a front of any bytes
pub front_none : (sink : SinkRecord) (bytes : List ℕ) → WritesFront sink bytes sink
front_none sink bytes = ([], bytes, refl, Takes-nothing sink sink refl)

pub worn_part : (k turns : ℕ) (bytes : List ℕ) (old new : PassView) (sink : SinkRecord) → FindsWorn old new turns → WritesPart Worn k bytes (sight_of old sink) (sight_of new sink)
worn_part k turns bytes old new sink worn = record {
  uses = uses_worn k turns old new worn;
  front = front_none sink bytes;
  kept = omega arith;
  cause = worn.long ∙ worn.turns_are;
}

-- ---- one piece behind others

writes_then : (k : ℕ) (first second : List ℕ) (a b c : Sight) → Writes k first a b → Writes k second b c → Writes k (first ++ second) a c
writes_then k first second a b c one two = record {
  uses = uses_then k a.pass b.pass c.pass [] [] one.uses two.uses;
  written = Takes-then a.sink b.sink c.sink first second one.written two.written;
  kept = omega (arith, one.kept, two.kept);
}

cause_later : (why : WriteStop) (a b c : Sight) → a.sink.faults ≤ b.sink.faults → WriteCause why b c → WriteCause why a c
cause_later SinkFault a b c kept cause = Rose-later a.sink.faults b.sink.faults c.sink.faults kept cause
cause_later Worn a b c kept cause = cause

part_then : (why : WriteStop) (k : ℕ) (first second behind : List ℕ) (a b c : Sight) → Writes k first a b → WritesPart why k second b c
    → WritesPart why k (first ++ second ++ behind) a c
part_then why k first second behind a b c one two = record {
  uses = uses_then k a.pass b.pass c.pass [] [] one.uses two.uses;
  front = WritesFront-behind a.sink b.sink c.sink first second behind one.written two.front;
  kept = omega (arith, one.kept, two.kept);
  cause = cause_later why a b c one.kept two.cause;
}

-- ---- the loop

-- the pieces in front of an offset were written
pub record KeepsBody (k : ℕ) (held : Held) (offset : ℕ) (old new : Sight) : Type 0 where
  pub same : IsSamePass old.pass new.pass
  pub inside : offset ≤ held.info.size
  pub reads : (body : List ℕ) → Holds old.pass k held body → Writes k (take offset body) old new × Holds new.pass k held body

pub body_begins : (k : ℕ) (held : Held) (now : Sight) → KeepsBody k held 0 now now
body_begins k held now = record {
  same = refl;
  inside = omega arith;
  reads = λ body holds. (record { uses = uses_none k now.pass; written = Takes-nothing now.sink now.sink refl; kept = omega arith }, holds);
}

pub body_goes_on : (k : ℕ) (held : Held) (offset given len : ℕ) (a b c : Sight) → KeepsBody k held offset a b → IsSamePass b.pass c.pass
    → given ≡ len → offset + len ≤ held.info.size
    → ((body : List ℕ) → Holds b.pass k held body → Reads (Ok tt) k (part_of held body (take given (drop offset body))) b c)
    → KeepsBody k held (offset + len) a c
body_goes_on k held offset given len a b c so_far same long inside step = record {
  same = same_then a.pass b.pass c.pass so_far.same same;
  inside = inside;
  reads = λ body holds.
      let one = so_far.reads body holds in
      let two = subst (λ (n : ℕ). Reads (Ok tt) k (part_of held body (take n (drop offset body))) b c) long (step body one.1) in (
        subst (λ (x : List ℕ). Writes k x a c) (sym (take-add offset len body)) (writes_then k (take offset body) (take len (drop offset body)) a b c one.0 two.0),
        two.1,
      );
}

split_at : (offset len : ℕ) (body : List ℕ) → take offset body ++ (take len (drop offset body) ++ drop len (drop offset body)) ≡ body
split_at offset len body = ap (λ (x : List ℕ). take offset body ++ x) (take-append-drop len (drop offset body)) ∙ take-append-drop offset body

pub body_breaks : (why : WriteStop) (k : ℕ) (held : Held) (offset len : ℕ) (a b c : Sight) → KeepsBody k held offset a b
    → ((body : List ℕ) → Holds b.pass k held body → WritesPart why k (take len (drop offset body)) b c)
    → (body : List ℕ) → Holds a.pass k held body → WritesPart why k body a c
body_breaks why k held offset len a b c so_far step body holds =
    let one = so_far.reads body holds in
    let rest = drop offset body in
    subst (λ (x : List ℕ). WritesPart why k x a c) (append_assoc (take offset body) (take len rest) (drop len rest) ∙ split_at offset len body)
    (part_then why k (take offset body) (take len rest) (drop len rest) a b c one.0 (step body one.1))

pub body_whole : (k : ℕ) (held : Held) (offset : ℕ) (old new : Sight) → KeepsBody k held offset old new → held.info.size ≤ offset
    → (body : List ℕ) → Holds old.pass k held body → Reads (Ok tt) k (part_of held body body) old new
body_whole k held offset old new so_far past body holds =
    let whole : take offset body ≡ body = take_all offset body (omega (arith, holds.whole, past)) in
    subst (λ (x : List ℕ). Reads (Ok tt) k (part_of held body x) old new) whole (so_far.reads body holds)
