-- The body of a product, piece by piece.
use Rattle.std.proofs.Common.{◌≡◌, ℕ, ◌+◌, ◌≤◌, List, [], take, drop, Some, Result, refl, sym, subst, arith}
use Rattle.std.proofs.Math.Seq.{take-add}
use Rattle.std.proofs.lemmas.List.{take-append-drop, take_all}
use Rattle.ldm_shared.specs.Passes.{IsSamePass}
use Rattle.ldm_actions.specs.declared.answers.Done.{Done}
use Rattle.ldm_actions.specs.declared.answers.Done.TheVariants as done
use Rattle.ldm_actions.specs.Effects.{InHand}
use Rattle.ldm_actions.specs.Outputs.{Gives, HasInHand, KeepsUnlessSpent}
use Rattle.ldm_pqact.specs.declared.end.ActEnd.{ActEnd}
use Rattle.ldm_pqact.specs.declared.holding.Holding.{Holding}
use Rattle.ldm_pqact.specs.Handling.{GivesAll, GivesPart, Giving, IsHeld, Lent, Reads, ReadsAll, ReadsPart, done_result, giving_of}
use Rattle.ldm_shared.specs.Uses.{Uses}
use Rattle.ldm_pqact.proofs.Giving.{gives_nothing, gives_part_before, gives_part_then, gives_piece, gives_then}
use Rattle.ldm_shared.proofs.Using.{same_then, uses_none, uses_then}

-- a piece was read, and given or not
read_piece : (result : Done) (it : Giving) (bytes : List ℕ) (old new : Lent) → Uses it.of.holding.reader.k old.pass new.pass []
    → IsHeld new.pass it.of.holding it.of.body → HasInHand (Some it.hand) old.standing → Gives result bytes old.standing new.standing → Reads (done_result result) it bytes old new
read_piece done.Ok it bytes old new uses holds has gives = record {
  uses = uses;
  holds = holds;
  gives = gives_piece done.Ok it.hand bytes old.standing new.standing has gives;
}
read_piece done.StoreFault it bytes old new uses holds has gives = record {
  uses = uses;
  gives = gives_piece done.StoreFault it.hand bytes old.standing new.standing has gives;
  cause = tt;
  no_log = tt;
  cursor = (Some it.of.holding.held.n, holds.cursor);
}
read_piece done.LaunchFault it bytes old new uses holds has gives = record {
  uses = uses;
  gives = gives_piece done.LaunchFault it.hand bytes old.standing new.standing has gives;
  cause = tt;
  no_log = tt;
  cursor = (Some it.of.holding.held.n, holds.cursor);
}

-- by what it came to
pub piece_read : (result : Done) (came : Result (Unit {0}) ActEnd) (it : Giving) (bytes : List ℕ) (old new : Lent) → done_result result ≡ came
    → Uses it.of.holding.reader.k old.pass new.pass [] → IsHeld new.pass it.of.holding it.of.body → HasInHand (Some it.hand) old.standing
    → Gives result bytes old.standing new.standing → Reads came it bytes old new
piece_read result came it bytes old new is uses holds has gives =
    subst (λ (r : Result (Unit {0}) ActEnd). Reads r it bytes old new) is (read_piece result it bytes old new uses holds has gives)

-- a front of what was left of the body
pub part_of_rest : (why : ActEnd) (it : Giving) (len : ℕ) (rest : List ℕ) (old new : Lent) → ReadsPart why it (take len rest) old new → ReadsPart why it rest old new
part_of_rest why it len rest old new part = record {
  uses = part.uses;
  gives =
      subst (λ (x : List ℕ). GivesPart why it.hand x old.standing new.standing) (take-append-drop len rest)
      (gives_part_before why it.hand (take len rest) (drop len rest) old.standing new.standing part.gives);
  cause = part.cause;
  no_log = part.no_log;
  cursor = part.cursor;
}

-- the pieces in front of an offset were given
pub record KeepsBody (holding : Holding) (offset : ℕ) (old new : Lent) : Type 0 where
  pub same : IsSamePass old.pass new.pass
  pub keeps : KeepsUnlessSpent new.standing
  pub inside : offset ≤ holding.held.info.size
  pub reads : (hand : InHand) (body : List ℕ) → IsHeld old.pass holding body → HasInHand (Some hand) old.standing
      → ReadsAll (giving_of holding body hand) (take offset body) old new

pub body_begins : (holding : Holding) (now : Lent) → KeepsUnlessSpent now.standing → KeepsBody holding 0 now now
body_begins holding now keeps = record {
  same = refl;
  keeps = keeps;
  inside = omega arith;
  reads = λ hand body holds has. record { uses = uses_none holding.reader.k now.pass; holds = holds; gives = gives_nothing hand now.standing has };
}

pub body_goes_on : (holding : Holding) (offset len : ℕ) (a b c : Lent) → KeepsBody holding offset a b → IsSamePass b.pass c.pass → KeepsUnlessSpent c.standing
    → offset + len ≤ holding.held.info.size
    → ((hand : InHand) (body : List ℕ) → IsHeld b.pass holding body → HasInHand (Some hand) b.standing
    → ReadsAll (giving_of holding body hand) (take len (drop offset body)) b c) → KeepsBody holding (offset + len) a c
body_goes_on holding offset len a b c so_far same keeps inside step = record {
  same = same_then a.pass b.pass c.pass so_far.same same;
  keeps = keeps;
  inside = inside;
  reads = λ hand body holds has.
      let one = so_far.reads hand body holds has in
      let two = step hand body one.holds one.gives.in_hand in
      record {
        uses = uses_then holding.reader.k a.pass b.pass c.pass [] [] one.uses two.uses;
        holds = two.holds;
        gives =
            subst (λ (x : List ℕ). GivesAll hand x a.standing c.standing) (sym (take-add offset len body))
            (gives_then hand (take offset body) (take len (drop offset body)) a.standing b.standing c.standing one.gives two.gives);
      };
}

pub body_breaks : (why : ActEnd) (holding : Holding) (offset : ℕ) (a b c : Lent) → KeepsBody holding offset a b
    → ((hand : InHand) (body : List ℕ) → IsHeld b.pass holding body → HasInHand (Some hand) b.standing
    → ReadsPart why (giving_of holding body hand) (drop offset body) b c)
    → (hand : InHand) (body : List ℕ) → IsHeld a.pass holding body → HasInHand (Some hand) a.standing → ReadsPart why (giving_of holding body hand) body a c
body_breaks why holding offset a b c so_far step hand body holds has =
    let one = so_far.reads hand body holds has in
    let two = step hand body one.holds one.gives.in_hand in
    record {
      uses = uses_then holding.reader.k a.pass b.pass c.pass [] [] one.uses two.uses;
      gives =
          subst (λ (x : List ℕ). GivesPart why hand x a.standing c.standing) (take-append-drop offset body)
          (gives_part_then why hand (take offset body) (drop offset body) a.standing b.standing c.standing has one.gives two.gives);
      cause = two.cause;
      no_log = two.no_log;
      cursor = two.cursor;
    }

pub body_whole : (holding : Holding) (offset : ℕ) (a b : Lent) → KeepsBody holding offset a b → holding.held.info.size ≤ offset
    → (hand : InHand) (body : List ℕ) → IsHeld a.pass holding body → HasInHand (Some hand) a.standing → ReadsAll (giving_of holding body hand) body a b
body_whole holding offset a b so_far past hand body holds has =
    let whole : take offset body ≡ body = take_all offset body (omega (arith, holds.whole, past)) in
    subst (λ (x : List ℕ). ReadsAll (giving_of holding body hand) x a b) whole (so_far.reads hand body holds has)
