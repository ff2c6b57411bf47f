-- The REQUEST lines of a configuration.
use Rattle.std.proofs.Common.{◌≡◌, ◌∙◌, ℕ, ◌+◌, ◌<◌, List, [], ◌∷◌, ◌++◌, length, map, take, get_or, sym, ap, arith}
use Rattle.std.proofs.lemmas.List.{length-map, length-take, map-append, take_more}
use Rattle.ldm_conf.specs.declared.request.Request.{Request}
use Rattle.ldm_conf.specs.Confs.{RequestView, request_view}
use Rattle.ldm_recorder.specs.declared.line.Line.{Line}
use Rattle.ldm_node_command.specs.Lines.{line_of, lines_from}

-- one request more
lines_from-more : (actor : ℕ) (requests : List RequestView) (request : RequestView)
    → lines_from actor (requests ++ request ∷ []) ≡ lines_from actor requests ++ line_of (actor + length requests) request ∷ []
lines_from-more actor [] request = ap (λ (n : ℕ). line_of n request ∷ []) (omega arith)
lines_from-more actor (first ∷ requests) request =
    ap (λ (lines : List Line). line_of actor first ∷ lines)
    (lines_from-more (actor + 1) requests request
    ∙ ap (λ (n : ℕ). lines_from (actor + 1) requests ++ line_of n request ∷ []) (omega arith))

-- the line of the request at a place, behind those before it
pub one_line : (workers : ℕ) (requests : List Request) (i : ℕ) (request : Request) → i < length requests → request ≡ get_or requests i request
    → (lines more : List Line) → lines ≡ lines_from workers (map request_view (take i requests)) → more ≡ lines ++ line_of (workers + i) (request_view request) ∷ []
    → more ≡ lines_from workers (map request_view (take (i + 1) requests))
one_line workers requests i request less is lines more before pushed =
    let front = map request_view (take i requests) in
    let long : length front ≡ i = omega (arith, length-map (take i requests) request_view, length-take i requests, less) in
    pushed
    ∙ ap (λ (xs : List Line). xs ++ line_of (workers + i) (request_view request) ∷ []) before
    ∙ ap (λ (n : ℕ). lines_from workers front ++ line_of (workers + n) (request_view request) ∷ []) (sym long)
    ∙ sym (lines_from-more workers front (request_view request))
    ∙ ap (λ (r : Request). lines_from workers (front ++ request_view r ∷ [])) is
    ∙ sym (ap (lines_from workers) (map-append request_view (take i requests) (get_or requests i request ∷ [])))
    ∙ sym (ap (λ (rs : List Request). lines_from workers (map request_view rs)) (take_more requests i request less))
