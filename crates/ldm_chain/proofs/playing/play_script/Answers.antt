use Rattle.std.proofs.Common.{refl}
use Rattle.ldm_script.specs.Resolve.{new_play}
use Rattle.ldm_play.specs.PlayerView.{StandsForPlay}
use Rattle.ldm_chain.proofs.playing.play_script.Goals as goal

pub returns-clause-played : goal.returns-clause-played
returns-clause-played c =
    let p = new_play c.args.arena c.args.slots in
    let stands : StandsForPlay _ p = record { state = c.in_ok-book.ensures.new; last = refl } in
    let played = c.in_ok-play_lines.ensures p stands in
    record {
      to_end = played.0;
      legal = played.1.legal c.args.arena c.args.slots (record { legal = tt; state = refl });
      stands = played.1.stands.state;
    }
