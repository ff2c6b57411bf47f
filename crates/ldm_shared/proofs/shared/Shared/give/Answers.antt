use Rattle.std.proofs.Common.{◌∷◌, [], sym, subst}
use Rattle.ldm_model.specs.State.{State}
use Rattle.ldm_model.specs.History.{after}
use Rattle.ldm_book.specs.Stands.{StandsFor}
use Rattle.ldm_shared.proofs.Growing.{answered, history-more}
use Rattle.ldm_shared.proofs.shared.Shared.give.Goals as goal

pub end-requires-clause-legal : goal.end-requires-clause-legal
end-requires-clause-legal g c =
    let v = c.args.seat.now.me.0 in
    (c.histories_append.ensures.legal v.arena v.slots v.seen (g.C.Called.entry ∷ [])).1
    (c.requires.history.legal, answered (after v.arena v.slots v.seen) g.C.Called.entry c.args.actor c.requires.turn.0 c.requires.actor c.get.ensures.bound c.requires.possible c.requires.turn.2)

pub end-requires-clause-turn : goal.end-requires-clause-turn
end-requires-clause-turn g c =
    let v = c.args.seat.now.me.0 in
    let book = c.requires.turn.0 in (
      book,
      c.requires.turn.1,
      subst (λ (s : State). StandsFor book s) (sym (c.histories_append.ensures.state v.arena v.slots v.seen (g.C.Called.entry ∷ []))) c.requires.turn.2.state,
    )

pub returns-clause-history : goal.returns-clause-history
returns-clause-history g c =
    let v = c.args.seat.now.me.0 in
    history-more v c.end.new.seat.me g.C.Called.entry c.end.ensures.added c.requires.history c.requires.own c.requires.few
    ((c.histories_append.ensures.legal v.arena v.slots v.seen (g.C.Called.entry ∷ [])).1
    (c.requires.history.legal, answered (after v.arena v.slots v.seen) g.C.Called.entry c.args.actor c.requires.turn.0 c.requires.actor c.get.ensures.bound c.requires.possible c.requires.turn.2))
