use Rattle.std.proofs.Common.{◌≡◌, ◌≤◌, map, take, length, vec_len}
use Rattle.std.specs.Vec.{vec_capacity}
use Rattle.ldm_conf.specs.Confs.{request_view}
use Rattle.ldm_node_command.specs.Lines.{lines_from}
use Rattle.ldm_node_command.proofs.lines.lines_of.Given as goal

abbrev pub invariant-loop-place : goal.invariant-loop-place
invariant-loop-place l = record {
  lines : l.lines.items ≡ lines_from l.workers (map request_view (take l.place l.requests));
  many : vec_len l.lines ≡ l.place;
  lasts : vec_len l.lasts ≡ l.place;
  room : length l.requests ≤ vec_capacity l.lines;
  places : length l.requests ≤ vec_capacity l.lasts;
}
