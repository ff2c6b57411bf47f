-- What an entry means, part by part.
use Rattle.std.proofs.Common.{◌≡◌, ℕ, List, Some, None, Err, refl}
use Rattle.std.specs.Option.{ok_or}
use Rattle.ldm_pqact_conf.specs.declared.fault.PqactKind.{PqactKind}
use Rattle.ldm_pqact_conf.specs.declared.fault.PqactKind.TheVariants as kind
use Rattle.ldm_pqact_conf.specs.Entries.{entry_of, with_fields}
use Rattle.ldm_pqact_conf.specs.Fields.{Fields, fields_of}
use Rattle.ldm_pqact_conf.specs.Lines.{Raw}
use Rattle.ldm_pqact_conf.specs.Arguments.{arguments_of}

module _ (raw : Raw) where
  pub no_fields : fields_of raw.text ≡ None → entry_of raw ≡ Err kind.Fields
  unfolding entry_of
  no_fields none = rw none refl

  pub bad_words : (fields : Fields) (cause : PqactKind) → fields_of raw.text ≡ Some fields → ok_or (arguments_of fields.arguments) kind.Fields ≡ Err cause →
      entry_of raw ≡ Err cause
  unfolding entry_of
  bad_words fields cause is bad = rw (is, bad) refl

  pub by_fields : (fields : Fields) (words : List (List ℕ)) → fields_of raw.text ≡ Some fields → arguments_of fields.arguments ≡ Some words →
      entry_of raw ≡ with_fields raw.line fields words
  unfolding entry_of
  by_fields fields words is some = rw (is, some) refl
