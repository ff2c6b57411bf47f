use Rattle.std.proofs.Common.{◌∙◌, ◌∷◌, ◌++◌, [], List, sym, ap, subst}
use Rattle.ldm_shared.specs.Passes.{PassView, AreAllOf}
use Rattle.ldm_shared.proofs.CallerLemmas.{two_are_all}
use Rattle.test_threads.proofs.shared.end_of_two.Goals as goal

pub finish-requires : goal.finish-requires
finish-requires c =
    subst (AreAllOf c.args.shared)
    (sym (c.in_ok-push-2.ensures.items ∙ ap (λ (ps : List PassView). ps ++ c.args.second ∷ []) (c.in_ok-push.ensures.items ∙ ap (λ (ps : List PassView). ps ++ c.args.first ∷ []) c.requires.none)))
    (two_are_all c.args.shared c.args.first c.args.second c.requires.two c.requires.first c.requires.second)
