use Rattle.ldm_between_ends.proofs.Whole.{alone-given, nothing-lost, alone-unchanged}
use Rattle.ldm_between_ends.proofs.alone.a_sole_reader_is_given_all.Goals as goal

pub returns-clause-given : goal.returns-clause-given
returns-clause-given c arena slots actor front behind asked feeding missed k end legal opened stopped zero none rows =
    let stays = c.products_stay.ensures.stays arena slots front _ legal in
    alone-given arena slots actor front behind asked feeding legal stays missed k end opened stopped zero none rows

pub returns-clause-nothing_lost : goal.returns-clause-nothing_lost
returns-clause-nothing_lost c arena slots actor front behind asked feeding legal is = nothing-lost arena slots actor front behind asked feeding legal is

pub returns-clause-unchanged : goal.returns-clause-unchanged
returns-clause-unchanged c = alone-unchanged
