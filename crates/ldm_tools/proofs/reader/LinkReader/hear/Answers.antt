use Rattle.std.proofs.Common.{ℕ, List, Bool, subst}
use Rattle.std.specs.Prelude.{Ok}
use Rattle.std.proofs.lemmas.Result.{err_from_is_err_and}
use Rattle.ldm_rpc.specs.Streams.{Placed}
use Rattle.ldm_tools.specs.Hearing.{Heard}
use Rattle.ldm_tools.specs.Looking.{Shows, WaitsOn}
use Rattle.ldm_tools.proofs.Heard.{hears_end, hears_more, hears_no_record, hears_none, hears_record}
use Rattle.ldm_tools.proofs.reader.LinkReader.hear.Goals as goal

pub loop-self-init : goal.loop-self-init
loop-self-init g c =
    record { so_far = hears_none c.args.self.now c.forget.new.self (g.K.Link.tells c.args.link.now) c.forget.ensures; not_closed = c.requires }

pub returns-in_err-look-clause-heard : goal.returns-in_err-look-clause-heard
returns-in_err-look-clause-heard g c =
    let tells = g.K.Link.tells in
    let why = err_from_is_err_and c.from_residual.result c.from_residual.ensures.1 in
    rw (why.1, why.2)
    (hears_no_record c.args.self.now c.loop-self.self c.look.new.self (tells c.args.link.now) (tells c.loop-self.link) c.in_err-look.field-0.0 c.loop-self.invariant.so_far
    c.in_err-look.ensures.shows c.in_err-look.ensures.own)

pub loop-self-preserved : goal.loop-self-preserved
loop-self-preserved g c =
    let tells = g.K.Link.tells in
    let now = c.loop-self.self in
    let looked = c.look.new.self in
    let P : Bool → Type 0 = λ found. (given : List ℕ) (heard : List Placed) → Heard given heard now → Shows (Ok found) given heard looked in
    let Q : Bool → Type 0 = λ found. WaitsOn (Ok found) now looked in
    record {
      so_far = hears_more c.args.self.now now looked c.receive.new.self (tells c.args.link.now) (tells c.loop-self.link) (tells c.receive.new.link) c.loop-self.invariant.so_far
          (subst P c.if-not-branch.true c.in_ok-look.ensures.shows) (subst Q c.if-not-branch.true c.in_ok-look.ensures.waits) c.in_ok-receive.ensures.received
          c.in_ok-receive.ensures.faults_kept c.in_ok-receive.ensures.ends_kept;
      not_closed = c.in_ok-receive.ensures.still_open;
    }

pub returns-in_err-receive-clause-heard : goal.returns-in_err-receive-clause-heard
returns-in_err-receive-clause-heard g c =
    let tells = g.K.Link.tells in
    let now = c.loop-self.self in
    let looked = c.look.new.self in
    let P : Bool → Type 0 = λ found. (given : List ℕ) (heard : List Placed) → Heard given heard now → Shows (Ok found) given heard looked in
    let Q : Bool → Type 0 = λ found. WaitsOn (Ok found) now looked in
    let why = err_from_is_err_and c.from_residual-in_err-receive.result c.from_residual-in_err-receive.ensures.1 in
    rw (why.1, why.2)
    (hears_end c.args.self.now now looked c.receive.new.self (tells c.args.link.now) (tells c.loop-self.link) (tells c.receive.new.link) c.in_err-receive.field-0.0 c.loop-self.invariant.so_far
    (subst P c.if-not-branch.true c.in_ok-look.ensures.shows) (subst Q c.if-not-branch.true c.in_ok-look.ensures.waits) c.in_err-receive.ensures.received)

pub returns-clause-heard : goal.returns-clause-heard
returns-clause-heard g c =
    let tells = g.K.Link.tells in
    let now = c.loop-self.self in
    let looked = c.look.new.self in
    let P : Bool → Type 0 = λ found. (given : List ℕ) (heard : List Placed) → Heard given heard now → Shows (Ok found) given heard looked in
    hears_record c.args.self.now now looked (tells c.args.link.now) (tells c.loop-self.link) c.loop-self.invariant.so_far
    (subst P c.if-not-branch.false c.in_ok-look.ensures.shows)
