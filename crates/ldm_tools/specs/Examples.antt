-- Samples for the worked examples.
use Rattle.std.specs.Prelude.{List, [], ◌∷◌, codes, false, None}
use Rattle.ldm_relay.specs.declared.message.PutAnswer.{PutAnswer}
use Rattle.ldm_relay.specs.declared.message.PutAnswer.TheVariants.{Admitted, Duplicate, Denied}
use Rattle.ldm_tools.specs.Files.{Step, Put, TooLong}
use Rattle.ldm_tools.specs.Inserting.{Inserting}

-- the files `f`, `g` and `h`, for the queue at port 388 of host `a`
abbrev pub sample_files : Inserting
sample_files = record {
  peer = record { host = codes "a"; port = 388 };
  feed = 1;
  origin = codes "localhost";
  ident = None;
  sign_ident = false;
  files = codes "f" ∷ codes "g" ∷ codes "h" ∷ [];
}

-- The first is admitted, the second is too long, and the third has the body of the first.
abbrev pub sample_steps : List Step
sample_steps = Put (codes "abc") 100 (Admitted 0 100 0) ∷ TooLong ∷ Put (codes "abc") 200 (Duplicate 0) ∷ []

-- the answers that three files are owed
abbrev pub sample_answers : List PutAnswer
sample_answers = Admitted 0 100 0 ∷ Admitted 1 200 0 ∷ Duplicate 0 ∷ []

-- the answers that they are owed where the second is denied
abbrev pub sample_denial : List PutAnswer
sample_denial = Admitted 0 100 0 ∷ Denied ∷ []
