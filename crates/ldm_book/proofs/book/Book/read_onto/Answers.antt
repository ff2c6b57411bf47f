use Rattle.ldm_book.proofs.book.Book.read_onto.Goals as goal

pub returns-in-Err-clause-answers : goal.returns-in-Err-clause-answers
returns-in-Err-clause-answers c = λ s stands. c.in-Err.ensures.refused _ s stands
