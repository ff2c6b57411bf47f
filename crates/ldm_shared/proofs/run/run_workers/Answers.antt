use Rattle.std.proofs.Common.{◌≡◌, ◌∙◌, ℕ, ◌<◌, List, length, map, reverse, get_or, sym, ap, subst, arith}
use Rattle.std.specs.List.{All}
use Rattle.std.proofs.lemmas.List.{length-reverse, with_items_is}
use Rattle.ldm_shared.specs.Passes.{AreAllOf, HasAllOf, PassView}
use Rattle.ldm_shared.specs.declared.worker.Worker.{Worker}
use Rattle.ldm_shared.specs.Work.{AllWorked}
use Rattle.ldm_shared.specs.Workers.{Begins, Works}
use Rattle.ldm_shared.proofs.Gathered.{all_begin, all_worked, come_back, own_of, pass_of}
use Rattle.ldm_shared.proofs.Turned.{seen_from_end}
use Rattle.ldm_shared.proofs.run.run_workers.Goals as goal

pub returns-in_default-clause-uncalled : goal.returns-in_default-clause-uncalled
returns-in_default-clause-uncalled g c = c.finish-book.ensures.all

pub run_all-requires-after_bounds : goal.run_all-requires-after_bounds
run_all-requires-after_bounds g c κs within =
    subst (All (Begins (g.W.Work.begins c.args.work.now) c.args.shared)) (sym c.deref_mut.ensures.value)
    (all_begin (g.W.Work.begins c.args.work.now) c.args.shared c.args.passes.items c.args.own.items c.hire.new.workers.items c.requires.passes c.hire.ensures.passes c.hire.ensures.own c.requires.begins)

-- all passes come back, in the order of their actors
pub finish-book-requires-2 : goal.finish-book-requires-2
finish-book-requires-2 g c =
    let does = g.W.Work.works c.args.work.now in
    let olds = c.hire.new.workers.items in
    let news = c.run_all.new.workers in
    let count : length news ≡ length olds = omega (arith, c.run_all.auto.workers, ap length c.deref_mut.ensures.value) in
    let written = with_items_is c.hire.new.workers news (omega (arith, count, c.hire.new.workers.ok)) in
    let each : (i : ℕ) (d : Worker g.row.T.Denot) → i < length olds → Works does (get_or olds i d) (get_or news i d) =
    subst (λ (ws : List (Worker g.row.T.Denot)). (i : ℕ) (d : Worker g.row.T.Denot) → i < length ws → Works does (get_or ws i d) (get_or news i d)) c.deref_mut.ensures.value c.run_all.ensures in
    subst (AreAllOf c.args.shared) (sym (c.dismiss.ensures.passes ∙ ap (λ (ws : List (Worker g.row.T.Denot)). map pass_of (reverse ws)) written))
    (come_back does c.args.shared (reverse olds) (reverse news) (subst (AreAllOf c.args.shared) c.hire.ensures.passes c.requires.passes)
    (length-reverse news ∙ count ∙ sym (length-reverse olds)) (seen_from_end (Works does) olds news count each))

pub returns-clause-worked : goal.returns-clause-worked
returns-clause-worked g c =
    let does = g.W.Work.works c.args.work.now in
    let olds = c.hire.new.workers.items in
    let news = c.run_all.new.workers in
    let last = c.finish-book-2.result.1 in
    let count : length news ≡ length olds = omega (arith, c.run_all.auto.workers, ap length c.deref_mut.ensures.value) in
    let written = with_items_is c.hire.new.workers news (omega (arith, count, c.hire.new.workers.ok)) in
    let each : (i : ℕ) (d : Worker g.row.T.Denot) → i < length olds → Works does (get_or olds i d) (get_or news i d) =
    subst (λ (ws : List (Worker g.row.T.Denot)). (i : ℕ) (d : Worker g.row.T.Denot) → i < length ws → Works does (get_or ws i d) (get_or news i d)) c.deref_mut.ensures.value c.run_all.ensures in
    let passes = c.dismiss.ensures.passes ∙ ap (λ (ws : List (Worker g.row.T.Denot)). map pass_of (reverse ws)) written in
    let own_now = c.dismiss.ensures.own ∙ ap (λ (ws : List (Worker g.row.T.Denot)). map own_of (reverse ws)) written in
    subst (λ (xs : List g.row.T.Denot). AllWorked does last c.args.passes.items c.args.own.items xs) (sym own_now)
    (subst (λ (ps : List PassView). AllWorked does last ps c.args.own.items (map own_of (reverse news))) (sym c.hire.ensures.passes)
    (subst (λ (xs : List g.row.T.Denot). AllWorked does last (map pass_of (reverse olds)) xs (map own_of (reverse news))) (sym c.hire.ensures.own)
    (all_worked does c.args.shared (reverse olds) (reverse news) (subst (AreAllOf c.args.shared) c.hire.ensures.passes c.requires.passes)
    (length-reverse news ∙ count ∙ sym (length-reverse olds)) (seen_from_end (Works does) olds news count each)
    last (subst (All (HasAllOf last)) passes c.finish-book-2.ensures.all))))
