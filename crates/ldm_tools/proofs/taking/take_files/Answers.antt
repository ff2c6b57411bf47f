use Rattle.std.proofs.Common.{◌≡◌, ◌∙◌, ℕ, ◌+◌, ◌<◌, ◌||◌, Bool, List, [], ◌∷◌, ◌++◌, length, map, get_or, take, drop, Bor, sym, ap, subst, arith}
use Rattle.std.specs.Prelude.{Ok, Err}
use Rattle.std.proofs.lemmas.List.{get_or-map, length-map, take_more}
use Rattle.ldm_tools.specs.Inserting.{IsNamed, inserting}
use Rattle.ldm_tools.specs.Moments.{hands_tell}
use Rattle.ldm_tools.specs.Parts.{TakesOne}
use Rattle.ldm_tools.proofs.Running.{Goes, front_length, goes_on, hands_then, split, stops_at}
use Rattle.ldm_tools.proofs.taking.take_files.Goals as goal
use Rattle.ldm_tools.proofs.taking.take_files.Goals.{then-refused, else-refused}

-- the path under a place
here : (files : List (Bor (List ℕ))) (i : ℕ) (d : Bor (List ℕ)) → i < length files → get_or (map (λ (path : Bor (List ℕ)). path.now) files) i [] ≡ (get_or files i d).now
here files i d within = get_or-map (λ (path : Bor (List ℕ)). path.now) files i d [] within

inside : (files : List (Bor (List ℕ))) (i : ℕ) → i < length files → i < length (map (λ (path : Bor (List ℕ)). path.now) files)
inside files i within = omega (arith, length-map files (λ (path : Bor (List ℕ)). path.now))

pub take_file-requires-clause-named : goal.take_file-requires-clause-named
take_file-requires-clause-named g c =
    let files = c.args.insertion.now.files.now in
    let i = c.loop-path.path-index in
    let within : i < length files = omega arith in
    let P : List ℕ → Type 0 = λ path. IsNamed (inserting c.args.insertion.now) path in
    subst P (here files i _ within) (c.requires.names i [] (inside files i within))

pub returns-in-Err-take_file-clause-runs : goal.returns-in-Err-take_file-clause-runs
returns-in-Err-take_file-clause-runs g c =
    let old = hands_tell g.F.Store.tells g.L.Link.tells g.K.Sink.tells g.C.Clock.tells c.args.store.now c.args.link.now c.args.sink.now c.args.clock.now in
    let mid = hands_tell g.F.Store.tells g.L.Link.tells g.K.Sink.tells g.C.Clock.tells c.loop-path.store c.loop-path.link c.loop-path.sink c.loop-path.clock in
    let new = hands_tell g.F.Store.tells g.L.Link.tells g.K.Sink.tells g.C.Clock.tells c.take_file.new.store c.take_file.new.link c.take_file.new.sink c.take_file.new.clock in
    let all = inserting c.args.insertion.now in
    let files = c.args.insertion.now.files.now in
    let i = c.loop-path.path-index in
    let within : i < length files = omega arith in
    let path = get_or all.files i [] in
    let number : c.loop-path.number ≡ length (take i all.files) = c.loop-path.invariant.number ∙ sym (front_length all.files i (inside files i within)) in
    let P : ℕ → Type 0 = λ n. TakesOne (Err c.in-Err-take_file.why) all (record { number = n; path = path }) c.loop-path.puts c.take_file.new.puts mid new in
    let Q : List ℕ → Type 0 = λ p. TakesOne (Err c.in-Err-take_file.why) all (record { number = c.loop-path.number; path = p }) c.loop-path.puts c.take_file.new.puts mid new in
    stops_at all (take i all.files) path (drop (i + 1) all.files) c.loop-path.refused c.in-Err-take_file.why c.loop-path.puts c.take_file.new.puts old mid new
    (split all.files i (inside files i within)) c.loop-path.invariant.goes c.loop-path.invariant.kept (subst P number (subst Q (sym (here files i _ within)) c.in-Err-take_file.ensures.takes))

pub loop-path-preserved : goal.loop-path-preserved
loop-path-preserved g c =
    let old = hands_tell g.F.Store.tells g.L.Link.tells g.K.Sink.tells g.C.Clock.tells c.args.store.now c.args.link.now c.args.sink.now c.args.clock.now in
    let mid = hands_tell g.F.Store.tells g.L.Link.tells g.K.Sink.tells g.C.Clock.tells c.loop-path.store c.loop-path.link c.loop-path.sink c.loop-path.clock in
    let new = hands_tell g.F.Store.tells g.L.Link.tells g.K.Sink.tells g.C.Clock.tells c.take_file.new.store c.take_file.new.link c.take_file.new.sink c.take_file.new.clock in
    let all = inserting c.args.insertion.now in
    let files = c.args.insertion.now.files.now in
    let i = c.loop-path.path-index in
    let within : i < length files = omega arith in
    let path = get_or all.files i [] in
    let this = c.in-Ok-take_file.this_one in
    let number : c.loop-path.number ≡ length (take i all.files) = c.loop-path.invariant.number ∙ sym (front_length all.files i (inside files i within)) in
    let P : ℕ → Type 0 = λ n. TakesOne (Ok this) all (record { number = n; path = path }) c.loop-path.puts c.take_file.new.puts mid new in
    let Q : List ℕ → Type 0 = λ p. TakesOne (Ok this) all (record { number = c.loop-path.number; path = p }) c.loop-path.puts c.take_file.new.puts mid new in
    let either : (c.loop-path.refused || this) ≡ c.if-refused.refused = elim c.if-refused.branch [
      | then-refused w ↦ ap (λ (b : Bool). b || this) w.if-refused.true ∙ sym w.if-refused.true ∙ sym w.refused-is
      | else-refused w ↦ ap (λ (b : Bool). b || this) w.if-refused.false ∙ sym w.refused-is
    ] in
    let R : Bool → Type 0 = λ b. Goes all (take i all.files ++ path ∷ []) b c.take_file.new.puts old new in
    let S : List (List ℕ) → Type 0 = λ paths. Goes all paths c.if-refused.refused c.take_file.new.puts old new in
    record {
      goes = subst S (sym (take_more all.files i [] (inside files i within)))
          (subst R either (goes_on all (take i all.files) path c.loop-path.refused this c.loop-path.puts c.take_file.new.puts old mid new c.loop-path.invariant.goes
          (subst P number (subst Q (sym (here files i _ within)) c.in-Ok-take_file.ensures.takes))));
      kept = hands_then old mid new c.loop-path.invariant.kept c.in-Ok-take_file.ensures.counts;
      not_closed = c.in-Ok-take_file.ensures.still_open;
      number = (let n = c.loop-path.invariant.number in omega arith);
    }
