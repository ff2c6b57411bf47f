-- How many passes and stations a node has, and what it is told of the last pass.
use Rattle.std.proofs.Common.{◌≡◌, ℕ, ◌+◌, List, length, map, get_or, ap, subst, ◌∙◌, arith}
use Rattle.std.specs.List.{All, range_with_len}
use Rattle.std.proofs.lemmas.List.{length-map}
use Rattle.std.proofs.lemmas.List.FromFn.{length-map-range_with_len}
use Rattle.ldm_outside.specs.Station.{StationRecord, IsNew}
use Rattle.ldm_model.specs.History.{IsLegal}
use Rattle.ldm_shared.specs.Passes.{SharedView, PassView, IsLast, new_pass}
use Rattle.ldm_node.specs.Workers.{NoneOut}
use Rattle.ldm_node.proofs.Posting.{none_out}
use Rattle.std.specs.Prelude.{Option}

-- as many stations as workers have one
pub one_each : {X Y : Type 0} (f : X → Y) (xs : List X) (count workers : ℕ) → count ≡ workers + length xs → count ≡ workers + length (map f xs)
one_each f xs count workers is = omega (arith, is, length-map xs f)

-- what the last pass has seen is a legal history of its queue
pub last_legal : (shared : SharedView) (last : PassView) → IsLast shared last → IsLegal shared.arena shared.slots last.seen
last_legal shared last is = subst (λ (p : PassView). IsLegal p.arena p.slots last.seen) is.ended is.has_seen.legal

pub all_out : {S : Type 0} (tells : S → StationRecord) (idles : Option ℕ) (stations : List S) → All (λ station. IsNew idles (tells station)) stations
    → All (λ station. NoneOut (tells station)) stations
all_out tells idles stations new k d less = none_out idles (tells (get_or stations k d)) (new k d less)

pub count_passes : (shared : SharedView) (passes : List PassView) → passes ≡ map (new_pass shared) (range_with_len 0 shared.passes) → length passes ≡ shared.passes
count_passes shared passes are = ap length are ∙ length-map-range_with_len (new_pass shared) 0 shared.passes
