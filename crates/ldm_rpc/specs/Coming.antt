-- What came of a content, with more bytes.
use Rattle.std.specs.Prelude.{ℕ, List, ◌++◌}
use Rattle.ldm_rpc.specs.declared.came.Coming.{Coming}

abbrev pub with_coming : List ℕ → Coming → List ℕ
with_coming came more = came ++ more.bytes.now
