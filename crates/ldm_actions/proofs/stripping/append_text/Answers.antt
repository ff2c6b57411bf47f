use Rattle.std.proofs.Common.{List, ℕ, sym, subst}
use Rattle.std.specs.Prelude.{filter}
use Rattle.std.proofs.lemmas.Result.{err_from_is_err_and}
use Rattle.ldm_actions.specs.Strip.{is_text}
use Rattle.ldm_actions.specs.Writing.{AppendsFront}
use Rattle.ldm_actions.proofs.TextFronts.{AppendsBefore, append_begins, append_fails, append_goes_on, append_open}
use Rattle.ldm_actions.proofs.stripping.append_text.Goals as goal

pub loop-rest-init : goal.loop-rest-init
loop-rest-init g c = append_begins c.args.piece.now c.args.file (g.F.Store.tells c.args.store.now)

pub append_part-requires-clause-is_open : goal.append_part-requires-clause-is_open
append_part-requires-clause-is_open g c =
    append_open c.args.piece.now c.args.file c.loop-rest.rest.now (g.F.Store.tells c.args.store.now) (g.F.Store.tells c.loop-rest.store) c.requires
    c.loop-rest.invariant

pub returns-in_err-append_part : goal.returns-in_err-append_part
returns-in_err-append_part g c =
    let tells = g.F.Store.tells in
    let p = err_from_is_err_and c.from_residual.result c.from_residual.ensures.1 in
    rw p.1
    (append_fails c.args.piece.now c.args.file c.loop-rest.rest.now c.min.result (tells c.args.store.now) (tells c.loop-rest.store) (tells c.append_part.new.store)
    c.loop-rest.invariant
    (subst (λ (part : List ℕ). AppendsFront c.args.file (filter is_text part) (tells c.loop-rest.store) (tells c.append_part.new.store)) c.split_at.ensures.front
    c.in_err-append_part.ensures))

pub loop-rest-preserved : goal.loop-rest-preserved
loop-rest-preserved g c =
    let tells = g.F.Store.tells in
    subst
    (λ (rest : List ℕ). AppendsBefore c.args.file c.args.piece.now rest (tells c.args.store.now) (tells c.append_part.new.store))
    (sym c.split_at.ensures.back)
    (append_goes_on c.args.piece.now c.args.file c.loop-rest.rest.now c.min.result (tells c.args.store.now) (tells c.loop-rest.store)
    (tells c.append_part.new.store) c.loop-rest.invariant (rw c.split_at.ensures.front at c.in_ok-append_part.ensures))
