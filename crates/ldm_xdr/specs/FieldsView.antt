-- What a contract sees of the fields that are left of a record.
use Rattle.std.specs.Prelude.{ℕ, List}
use Rattle.ldm_xdr.specs.declared.fields.Fields.TheInside.{Inside}

abbrev pub left_of : Inside → List ℕ
left_of fields = fields.rest.now
