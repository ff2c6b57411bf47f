use Rattle.std.proofs.Common.{◌∙◌, ℕ, List, map, refl, subst}
use Rattle.std.proofs.lemmas.Result.{err_from_is_err_and}
use Rattle.ldm_outside.specs.Io.{Takes, WritesFront}
use Rattle.ldm_chain.specs.Work.{chain_outside, IsGoodSize, work_of}
use Rattle.ldm_chain.specs.CommandNodes.{queue_of}
use Rattle.ldm_chain.proofs.RanLemmas.{chains-of, stops-unfed}
use Rattle.ldm_chain.proofs.chain_command.feed_and_write.Goals as goal

pub returns-in_err-write_all-clause-ends : goal.returns-in_err-write_all-clause-ends
returns-in_err-write_all-clause-ends g c = λ log_before log_after.
    let p = err_from_is_err_and c.from_residual-in_err-write_all.result c.from_residual-in_err-write_all.ensures.1 in
    let work = work_of c.args.setup in
    let old = chain_outside (record { source = g.S.Source.tells c.args.source.now; sink = g.K.Sink.tells c.args.sink.now; log = log_before })
    (g.C.Clock.tells c.args.clock.now) (g.F.Store.tells c.args.store.now) in
    let new = chain_outside (record { source = g.S.Source.tells c.take_script.new.source; sink = g.K.Sink.tells c.write_all.new.sink; log = log_after })
    (g.C.Clock.tells c.fed_nodes.new.clock) (g.F.Store.tells c.take_policy.new.store) in
    let sizes = c.in_ok-check_sizes.ensures.good in
    let good : IsGoodSize work = record { arena = sizes.0; most = sizes.1; slots = sizes.2 } in
    let nodes = c.in_ok-nodes.nodes.items in
    let chains = chains-of work old new c.as_slice.result.now c.in_ok-script.script.items c.as_slice.ensures.value c.in_ok-policy.policy good c.in_ok-policy.ensures.taken
    c.in_ok-script.ensures.whole nodes c.in_ok-nodes.ensures.fed c.in_ok-text.ensures.legal in
    let failed = c.in_err-write_all.ensures.written in
    rw (p.1, p.2) (
      map queue_of nodes,
      chains,
      failed.0,
      subst (λ (t : List ℕ). WritesFront old.streams.sink t new.streams.sink) (c.as_slice-2.ensures.value ∙ c.in_ok-text.ensures.text) failed.1,
    )

pub returns-clause-ends : goal.returns-clause-ends
returns-clause-ends g c = λ log_before log_after.
    let work = work_of c.args.setup in
    let old = chain_outside (record { source = g.S.Source.tells c.args.source.now; sink = g.K.Sink.tells c.args.sink.now; log = log_before })
    (g.C.Clock.tells c.args.clock.now) (g.F.Store.tells c.args.store.now) in
    let new = chain_outside (record { source = g.S.Source.tells c.take_script.new.source; sink = g.K.Sink.tells c.write_all.new.sink; log = log_after })
    (g.C.Clock.tells c.fed_nodes.new.clock) (g.F.Store.tells c.take_policy.new.store) in
    let sizes = c.in_ok-check_sizes.ensures.good in
    let good : IsGoodSize work = record { arena = sizes.0; most = sizes.1; slots = sizes.2 } in
    let nodes = c.in_ok-nodes.nodes.items in
    let chains = chains-of work old new c.as_slice.result.now c.in_ok-script.script.items c.as_slice.ensures.value c.in_ok-policy.policy good c.in_ok-policy.ensures.taken
    c.in_ok-script.ensures.whole nodes c.in_ok-nodes.ensures.fed c.in_ok-text.ensures.legal in (
      map queue_of nodes,
      chains,
      subst (λ (t : List ℕ). Takes old.streams.sink t new.streams.sink) (c.as_slice-2.ensures.value ∙ c.in_ok-text.ensures.text)
          c.in_ok-write_all.ensures.written,
    )

pub returns-in_err-nodes-clause-ends : goal.returns-in_err-nodes-clause-ends
returns-in_err-nodes-clause-ends g c = λ log_before log_after.
    let p = err_from_is_err_and c.from_residual-in_err-nodes.result c.from_residual-in_err-nodes.ensures.1 in
    let work = work_of c.args.setup in
    let old = chain_outside (record { source = g.S.Source.tells c.args.source.now; sink = g.K.Sink.tells c.args.sink.now; log = log_before })
    (g.C.Clock.tells c.args.clock.now) (g.F.Store.tells c.args.store.now) in
    let new = chain_outside (record { source = g.S.Source.tells c.take_script.new.source; sink = g.K.Sink.tells c.args.sink.now; log = log_after })
    (g.C.Clock.tells c.fed_nodes.new.clock) (g.F.Store.tells c.take_policy.new.store) in
    let sizes = c.in_ok-check_sizes.ensures.good in
    let good : IsGoodSize work = record { arena = sizes.0; most = sizes.1; slots = sizes.2 } in
    rw (p.1, p.2)
    (stops-unfed c.in_err-nodes.field-0.0 work old new c.as_slice.result.now c.in_ok-script.script.items c.as_slice.ensures.value c.in_ok-policy.policy good
    c.in_ok-policy.ensures.taken c.in_ok-script.ensures.whole refl c.in_err-nodes.ensures.unfed)
