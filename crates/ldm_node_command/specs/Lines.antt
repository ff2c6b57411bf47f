-- The REQUEST lines of a configuration, as a journal tells of them.
use Rattle.std.specs.Prelude.{ℕ, ◌+◌, List, [], ◌∷◌, ◌++◌, map}
use Rattle.std.specs.Int.{w16, w32, to_be_bytes}
use Rattle.std.specs.List.{flat_map}
use Rattle.md5.specs.Md5.{md5}
use Rattle.ldm_types.specs.declared.class.Spec.{Spec}
use Rattle.ldm_conf.specs.Confs.{ConfView, RequestView}
use Rattle.ldm_recorder.specs.declared.line.Line.{Line}
use Rattle.ldm_recorder.specs.Lines.{with_note}
use Rattle.ldm_node_command.specs.Setup.{Setup}

-- a specification as bytes: its feedtypes in four, its pattern, and a zero
abbrev pub spec_bytes : Spec → List ℕ
spec_bytes spec = to_be_bytes w32 spec.feed.0 ++ spec.pattern.items ++ 0 ∷ []

-- what a line asks for, as bytes: its host and a zero, its port in two, and each specification of its class
abbrev pub request_bytes : RequestView → List ℕ
request_bytes request = request.host ++ 0 ∷ to_be_bytes w16 request.port ++ flat_map spec_bytes request.class.specs.items

-- what names a line in each run: the digest of these bytes (RFC 1321)
abbrev pub key_of : RequestView → List ℕ
key_of request = md5 (request_bytes request)

-- a line of which no product is known, with an actor
abbrev pub line_of : ℕ → RequestView → Line
line_of actor request = record { key = key_of request; actor = actor; last = 0 }

-- the lines of requests, in order, the first of them with this actor
abbrev pub lines_from : ℕ → List RequestView → List Line
lines_from actor [] = []
lines_from actor (request ∷ requests) = line_of actor request ∷ lines_from (actor + 1) requests

-- those of a configuration: a worker asks for each, behind those that let peers in
abbrev pub lines_for : Setup → ConfView → List Line
lines_for setup conf = lines_from setup.workers conf.requests

-- the same, with what a note tells of them
abbrev pub noted : List ℕ → List Line → List Line
noted note lines = map (with_note note) lines
