-- The rules of access: who may be fed what, and who may push what, as the lines ALLOW and ACCEPT of ldmd.conf say in
-- this project's profile.
use Rattle.std.specs.Prelude.{ℕ, Bool, true, false, ◌==◌, ◌&&◌, ◌||◌, not, List, fold, map, filter, unwrap_or, Option, Some, None, if◌then◌else◌, bit_and, bit_or}
use Rattle.std.specs.List.{list_all, filter_map, position_from}
use Rattle.ldm_types.specs.Feed.{feeds_meet}
use Rattle.ldm_types.specs.Info.{Metadata}
use Rattle.ldm_types.specs.declared.class.ClassSpec.{ClassSpec}
use Rattle.ldm_types.specs.declared.class.Spec.{Spec}
use Rattle.ldm_class.specs.Classes.{is_resumption}
use Rattle.ldm_pattern.specs.Patterns.{found}
use Rattle.ldm_class.specs.declared.answers.Reduced.{Reduced}
use Rattle.ldm_class.specs.declared.answers.Reduced.TheVariants.{Same, Fewer, Nothing}
use Rattle.ldm_class.specs.declared.answers.Verdict.{Verdict}
use Rattle.ldm_class.specs.declared.answers.Verdict.TheVariants.{Yes, No}
use Rattle.ldm_class.specs.Rules.{Rule}

-- whether a pattern is found in a text, or what holds where there is no pattern
abbrev pub found_or : Bool → Option (List ℕ) → List ℕ → Bool
found_or otherwise None text = otherwise
found_or otherwise (Some pattern) text = found pattern text

-- whether a rule is about a host: its host pattern is found in the host's name
abbrev pub is_about : List ℕ → Rule → Bool
is_about host rule = found_or true rule.host host

-- whether a rule meets a host and a product
abbrev pub meets : List ℕ → Metadata → Rule → Bool
meets host info rule = feeds_meet rule.feed info.feed && is_about host rule

-- whether a rule that meets lets the product pass: what is to be found in the ident is, and what is not to be found is not
abbrev pub passes : Metadata → Rule → Bool
passes info rule = found_or true rule.ok info.ident && not (found_or false rule.not info.ident)

-- the number, from 1, of the first rule that a test holds of, if there is one
abbrev pub first_rule : (Rule → Bool) → List Rule → Option ℕ
first_rule test rules = position_from test 1 rules

-- a number, or 0 for none
abbrev pub or_none : Option ℕ → ℕ
or_none number = unwrap_or number 0

-- the verdict, by the number of the first rule that passes, and that of the first rule that meets
abbrev pub verdict_by : Option ℕ → Option ℕ → Verdict
verdict_by (Some passing) meeting = Yes passing
verdict_by None meeting = No (or_none meeting)

-- whether a host may be fed a product, or push it, by these rules
abbrev pub verdict : List Rule → List ℕ → Metadata → Verdict
verdict rules host info =
    verdict_by (first_rule (λ rule. meets host info rule && passes info rule) rules) (first_rule (meets host info) rules)

-- the feedtypes of all rules that are about a host, as one set
abbrev pub feeds_for : List ℕ → List Rule → ℕ
feeds_for host rules = fold bit_or 0 (map (λ (rule : Rule). rule.feed) (filter (is_about host) rules))

-- what is left of a specification under these feedtypes: one that names a signature to go on behind is kept as it is,
-- and one that meets none of them is dropped
abbrev pub narrowed : ℕ → Spec → Option Spec
narrowed feeds spec =
    if is_resumption spec then Some spec
    else (if feeds_meet spec.feed.0 feeds then Some (record spec { feed = record { 0 = bit_and spec.feed.0 feeds } }) else None)

-- whether a specification is left as it is
abbrev pub is_within : ℕ → Spec → Bool
is_within feeds spec = is_resumption spec || (feeds_meet spec.feed.0 feeds && (bit_and spec.feed.0 feeds == spec.feed.0))

-- what is left of these specifications
abbrev pub left_of : ℕ → List Spec → List Spec
left_of feeds specs = filter_map (narrowed feeds) specs

-- What is left of a class under these feedtypes, where that is the number of the first rule about the host, or 0 for
-- none. A specification that names a signature does not count where nothing else is left.
abbrev pub reduced : ℕ → ℕ → ClassSpec → Reduced
reduced feeds rule class =
    if list_all is_resumption (left_of feeds class.specs.items) then Nothing rule
    else (if list_all (is_within feeds) class.specs.items then Same
    else Fewer (record class { specs = record { items = left_of feeds class.specs.items } }))

-- what is left of a class that a host asks for, by these rules
abbrev pub reduce : List Rule → List ℕ → ClassSpec → Reduced
reduce rules host class = reduced (feeds_for host rules) (or_none (first_rule (is_about host) rules)) class

-- whether it may
abbrev pub is_yes : Verdict → Bool
is_yes (Yes rule) = true
is_yes (No rule) = false
