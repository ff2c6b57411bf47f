-- A command for whose words `clap` has no kind of error takes them.
use Rattle.std.proofs.Common.{◌≡◌, ◌&&◌, ◌||◌, ℕ, zero, suc, Bool, true, false, not, List, [], ◌∷◌, length, drop, Option, Some, None, is_some, refl}
use Rattle.std.proofs.Common.{arith}
use Rattle.std.specs.Prelude.{codes, encode_utf8, if◌then◌else◌, nat_le, slice_get}
use Rattle.std.specs.List.{list_all, list_any}
use Rattle.std.specs.Option.{option_map_or}
use Rattle.std.specs.Str.{bytes_eq, chars}
use Rattle.clap.specs.Lexer.{long_of, short_of}
use Rattle.clap.specs.Values.{refused_kind}
use Rattle.clap.specs.ValueTests.{accepts}
use Rattle.clap.specs.Facts.{explicit_source, parser_of_value, unwrap_or_range}
use Rattle.clap.specs.Walk.{Held, Names, Row, Rule, Step, Text, Waiting, Walk, action_of, arg_by_id, arg_by_index, arg_by_short, arg_by_long}
use Rattle.clap.specs.Walk.{attached_value, finished, has_row, is_pending, most_values, next, nothing_held, reacted, settled, subcommand}
use Rattle.clap.specs.Walk.{subcommand_met, takes_several, takes_values, trailing, value, values_or_missing, walk, walk_from, walked, word_met}
use Rattle.clap.specs.Simple.{App, Shape, argument_words, built, entered, names_of}
use Rattle.clap.specs.Kinds.{Kinds, check_kinds, or_else, range_kinds, values_kinds}
use Rattle.clap.specs.Faults.{action_fault, bundle_fault, bundle_step_fault, check_fault, count_fault, fault_of, flag_word_fault, flags_fault}
use Rattle.clap.specs.Faults.{is_simple_and_free, long_fault, option_fault, other_fault, positional_fault, react_fault, set_fault, settle_fault}
use Rattle.clap.specs.Faults.{short_fault, step_fault, stray_fault, turn_fault, use_fault, walk_fault, word_fault}
use Rattle.clap.specs.Takes.{action_passes, bundle_passes, bundle_step_passes, count_passes, default_passes, entered_passes, flag_word_passes}
use Rattle.clap.specs.Takes.{flags_pass, is_given, is_valid, long_passes, option_passes, other_passes, positional_passes, react_passes, set_passes}
use Rattle.clap.specs.Takes.{settle_passes, short_passes, step_passes, takes, turn_passes, use_passes, walk_passes, word_passes}
use Rattle.clap.specs.declared.builder.action.ArgAction.{ArgAction}
use Rattle.clap.specs.declared.builder.action.ArgAction.TheVariants.{Set, Append, SetTrue, SetFalse, Count, Help, HelpShort, HelpLong, Version}
use Rattle.clap.specs.declared.builder.value_parser.ValueParser.{ValueParser}
use Rattle.clap.specs.declared.error.kind.ErrorKind.{ErrorKind}
use Rattle.clap.specs.declared.error.kind.ErrorKind.TheVariants as kind

-- ---- tests and lists of kinds

and : (a b : Bool) → a ≡ true → b ≡ true → (a && b) ≡ true
and a b p q = rw (p, q) refl

parts : (a b : Bool) → (a && b) ≡ true → (a ≡ true) × (b ≡ true)
parts true b e = (refl, e)
parts false b e = cc

or_else_none : (a b : Kinds) → or_else a b ≡ [] → (a ≡ []) × (b ≡ [])
or_else_none [] b e = (refl, e)
or_else_none (k ∷ ks) b e = cc

-- a kind that comes unless a test passes
unless : (b : Bool) (k : ErrorKind) → (if b then [] else k ∷ []) ≡ [] → b ≡ true
unless true k e = refl
unless false k e = cc

-- a kind that comes where a test passes
where_not : (b : Bool) (k : ErrorKind) (ks : Kinds) → (if b then k ∷ ks else []) ≡ [] → b ≡ false
where_not true k ks e = cc
where_not false k ks e = refl

or_not : (a b : Bool) → (a && not b) ≡ false → (not a || b) ≡ true
or_not true true e = refl
or_not true false e = cc
or_not false b e = refl

-- ---- one use of an argument

values_ok : (ignore_case : Bool) (parser : ValueParser) (values : List Text) → values_kinds ignore_case parser values ≡ []
    → list_all (accepts ignore_case parser) values ≡ true
values_ok ignore_case parser [] e = refl
values_ok ignore_case parser (v ∷ vs) e =
    let each = or_else_none _ _ e in
    and _ _ (unless (accepts ignore_case parser v) (refused_kind parser) each.0) (values_ok ignore_case parser vs each.1)

range_ok : (least most n : ℕ) → range_kinds least most n ≡ [] → (nat_le least n ≡ true) × (nat_le n most ≡ true)
range_ok least most n e = (grind arith, grind arith)

set_ok : (again : Bool) (a : Rule) (values : List Text) (rows : List Row) → set_fault again a values rows ≡ [] → set_passes again a values rows ≡ true
set_ok again a values rows e =
    let each = or_else_none _ _ e in
    and _ _ (or_not (has_row a.id rows) again (where_not (has_row a.id rows && not again) _ [] each.0)) (values_ok a.ignore_case (parser_of_value a.parser) values each.1)

count_ok : (a : Rule) (values : List Text) (rows : List Row) → count_fault a values rows ≡ [] → count_passes a values rows ≡ true
count_ok a [] rows e = unless _ _ e
count_ok a (v ∷ vs) rows e = values_ok a.ignore_case (parser_of_value a.parser) (v ∷ vs) e

action_ok : (action : ArgAction) (again : Bool) (a : Rule) (values : List Text) (rows : List Row)
    → action_fault action again a values rows ≡ [] → action_passes action again a values rows ≡ true
action_ok Set again a values rows e = set_ok again a values rows e
action_ok SetTrue again a values rows e = set_ok again a values rows e
action_ok SetFalse again a values rows e = set_ok again a values rows e
action_ok Append again a values rows e = values_ok a.ignore_case (parser_of_value a.parser) values e
action_ok Count again a values rows e = count_ok a values rows e
action_ok Help again a values rows e = cc
action_ok HelpShort again a values rows e = cc
action_ok HelpLong again a values rows e = cc
action_ok Version again a values rows e = cc

use_ok : (again : Bool) (a : Rule) (values : List Text) (rows : List Row) → use_fault again a values rows ≡ [] → use_passes again a values rows ≡ true
use_ok again a values rows e =
    let each = or_else_none _ _ e in
    let range = range_ok (unwrap_or_range a.range).start_inclusive (most_values a) (length values) each.0 in
    and _ _ range.0 (and _ _ range.1 (action_ok (action_of a) again a (values_or_missing a values) rows each.1))

-- ---- the walk

module _ (c : List Rule) (again : Bool) where
  settle_ok : (h : Held) → settle_fault c again h ≡ [] → settle_passes c again h ≡ true
  settle_ok h e = go h.pending e
    where
      by_rule : (a : Option Rule) (values : List Text) → option_map_or (λ x. use_fault again x values h.rows) a [] ≡ []
          → option_map_or (λ x. use_passes again x values h.rows) a true ≡ true
      by_rule None values none = refl
      by_rule (Some a) values none = use_ok again a values h.rows none

      go : (p : Option (Text × List Text)) → option_map_or (λ q. option_map_or (λ a. use_fault again a q.1 h.rows) (arg_by_id c q.0) []) p [] ≡ []
          → option_map_or (λ q. option_map_or (λ a. use_passes again a q.1 h.rows) (arg_by_id c q.0) true) p true ≡ true
      go None none = refl
      go (Some p) none = by_rule (arg_by_id c p.0) p.1 none

  react_ok : (a : Rule) (values : List Text) (h : Held) → react_fault c again a values h ≡ [] → react_passes c again a values h ≡ true
  react_ok a values h e =
      let each = or_else_none _ _ e in
      and _ _ (settle_ok h each.0) (use_ok again a values (settled c h).rows each.1)

  option_ok : (a : Rule) (v : Option Text) (h : Held) → option_fault c again a v h ≡ [] → option_passes c again a v h ≡ true
  option_ok a (Some v) h e = react_ok a (v ∷ []) h e
  option_ok a None h e = settle_ok h e

  long_ok : (found : Option Rule) (v : Option Text) (h : Held) → long_fault c again found v h ≡ [] → long_passes c again found v h ≡ true
  long_ok None v h e = cc
  long_ok (Some a) v h e = go (takes_values a) v e
    where
      go : (b : Bool) (w : Option Text) → (if b then option_fault c again a w h else (if is_some w then kind.TooManyValues ∷ [] else react_fault c again a [] h)) ≡ []
          → (if b then option_passes c again a w h else (not (is_some w) && react_passes c again a [] h)) ≡ true
      go true w none = option_ok a w h none
      go false (Some w) none = cc
      go false None none = react_ok a [] h none

  short_ok : (found : Option Rule) (rest : Text) (h : Held) (fault : Held → Kinds) (passes : Held → Bool) → ((k : Held) → fault k ≡ [] → passes k ≡ true)
      → short_fault c again found rest h fault ≡ [] → short_passes c again found rest h passes ≡ true
  short_ok None rest h fault passes more e = cc
  short_ok (Some a) rest h fault passes more e = go (takes_values a) e
    where
      go : (b : Bool) → (if b then option_fault c again a (attached_value rest) h else or_else (react_fault c again a [] h) (fault (reacted c a [] h))) ≡ []
          → (if b then option_passes c again a (attached_value rest) h else (react_passes c again a [] h && passes (reacted c a [] h))) ≡ true
      go true none = option_ok a (attached_value rest) h none
      go false none =
          let each = or_else_none _ _ none in
          and _ _ (react_ok a [] h each.0) (more (reacted c a [] h) each.1)

  bundle_step_ok : (o : Option ℕ) (flags : Text) (skip : ℕ) (h : Held) (fault : Text → ℕ → Held → Kinds) (passes : Text → ℕ → Held → Bool)
      → ((t : Text) (n : ℕ) (k : Held) → fault t n k ≡ [] → passes t n k ≡ true)
      → bundle_step_fault c again o flags skip h fault ≡ [] → bundle_step_passes c again o flags skip h passes ≡ true
  bundle_step_ok None flags skip h fault passes more e = refl
  bundle_step_ok (Some x) flags zero h fault passes more e =
      let rest = drop (length (encode_utf8 x)) flags in
      short_ok (arg_by_short c x) rest h (fault rest 0) (passes rest 0) (more rest 0) e
  bundle_step_ok (Some x) flags (suc skip) h fault passes more e = more (drop (length (encode_utf8 x)) flags) skip h e

  flags_ok : (k : ℕ) (flags : Text) (skip : ℕ) (h : Held) → flags_fault c again k flags skip h ≡ [] → flags_pass c again k flags skip h ≡ true
  unfolding flags_fault flags_pass
  flags_ok zero flags skip h e = refl
  flags_ok (suc k) flags skip h e = bundle_step_ok (slice_get (chars flags) 0) flags skip h (flags_fault c again k) (flags_pass c again k) (flags_ok k) e

  flag_word_ok : (name : Option (Text × Option Text)) (word : Text) (h : Held) → flag_word_fault c again name word h ≡ [] → flag_word_passes c again name word h ≡ true
  flag_word_ok (Some p) word h e = long_ok (arg_by_long c p.0) p.1 h e
  flag_word_ok None word h e = go (short_of word) e
    where
      go : (o : Option Text) → option_map_or (λ f. bundle_fault c again f h) o [] ≡ [] → option_map_or (λ f. bundle_passes c again f h) o true ≡ true
      go None none = refl
      go (Some f) none = flags_ok (length f) f h.skip (record h { skip = 0 }) none

  positional_ok : (a : Rule) (h : Held) → positional_fault c again a h ≡ [] → positional_passes c again a h ≡ true
  positional_ok a h e = go (is_pending a h.pending && takes_several a) e
    where
      go : (b : Bool) → (if b then [] else settle_fault c again h) ≡ [] → (b || settle_passes c again h) ≡ true
      go true none = refl
      go false none = settle_ok h none

other_ok : (s : Shape) (met : Option Text) (word : Text) (h : Held) → other_fault s met word h ≡ [] → other_passes s met word h ≡ true
other_ok s (Some name) word h e = or_not (bytes_eq name (codes "help")) s.disable_help_subcommand (where_not _ _ _ e)
other_ok s None word h e = go (bytes_eq word (45 ∷ 45 ∷ [])) e
  where
    go : (b : Bool) → (if b then [] else flag_word_fault s.rules s.args_override_self (long_of word) word h) ≡ []
        → (b || flag_word_passes s.rules s.args_override_self (long_of word) word h) ≡ true
    go true none = refl
    go false none = flag_word_ok s.rules s.args_override_self (long_of word) word h none

word_ok : (s : Shape) (names : Names) (is_trailing : Bool) (waiting : Waiting) (word : Text) (h : Held)
    → word_fault s names is_trailing waiting word h ≡ [] → word_passes s names is_trailing waiting word h ≡ true
word_ok s names true waiting word h e = refl
word_ok s names false waiting word h e = other_ok s (subcommand_met names waiting word) word h e

step_ok : (s : Shape) (position : ℕ) (h : Held) (step : Step) → step_fault s position h step ≡ [] → step_passes s position h step ≡ true
step_ok s position h value e = go (arg_by_index s.rules position) e
  where
    stray : (b : Bool) (k l : ErrorKind) → (if b then k ∷ [] else k ∷ l ∷ []) ≡ [] → false ≡ true
    stray true k l none = cc
    stray false k l none = cc

    go : (o : Option Rule) → option_map_or (λ a. positional_fault s.rules s.args_override_self a h) o (stray_fault s) ≡ []
        → option_map_or (λ a. positional_passes s.rules s.args_override_self a h) o false ≡ true
    go None none = stray s.is_leaf _ _ none
    go (Some a) none = positional_ok s.rules s.args_override_self a h none
step_ok s position h (next w) e = refl
step_ok s position h (trailing n) e = refl
step_ok s position h (subcommand name) e = refl

module _ (s : Shape) (names : Names) where
  turn_ok : (w : Walk) (word : Text) → turn_fault s names w word ≡ [] → turn_passes s names w word ≡ true
  turn_ok w word e = go (is_some w.stopped) e
    where
      met : Held × Step
      met = word_met s.rules names w.is_trailing w.waiting w.position word w.held

      go : (b : Bool) → (if b then [] else or_else (word_fault s names w.is_trailing w.waiting word w.held) (step_fault s w.position met.0 met.1)) ≡ []
          → (b || (word_passes s names w.is_trailing w.waiting word w.held && step_passes s w.position met.0 met.1)) ≡ true
      go true none = refl
      go false none =
          let each = or_else_none _ _ none in
          and _ _ (word_ok s names w.is_trailing w.waiting word w.held each.0) (step_ok s w.position met.0 met.1 each.1)

  walk_ok : (w : Walk) (words : List Text) → walk_fault s names w words ≡ [] → walk_passes s names w words ≡ true
  unfolding walk_fault walk_passes
  walk_ok w [] e = refl
  walk_ok w (word ∷ words) e =
      let each = or_else_none _ _ e in
      and _ _ (turn_ok w word each.0) (walk_ok (walked s.rules names w word) words each.1)

-- ---- after the walk

checks : (a b c : Bool) → check_kinds a b c ≡ [] → (a ≡ false) × (b ≡ false) × (c ≡ false)
checks true b c e = cc
checks false true c e = cc
checks false false true e = cc
checks false false false e = (refl, refl, refl)

help_ok : (given needs some : Bool) → (not given && (needs && not some)) ≡ false → (not needs || (given || some)) ≡ true
help_ok true true some e = refl
help_ok true false some e = refl
help_ok false true true e = refl
help_ok false true false e = cc
help_ok false false some e = refl

needs_ok : (given needs : Bool) → (not given && needs) ≡ false → (not needs || given) ≡ true
needs_ok true true e = refl
needs_ok true false e = refl
needs_ok false true e = cc
needs_ok false false e = refl

all_given : (given : Rule → Bool) (rules : List Rule) → list_any (λ a. a.required && not (given a)) rules ≡ false
    → list_all (λ a. not a.required || given a) rules ≡ true
all_given given [] e = refl
all_given given (a ∷ rules) e = go (a.required && not (given a)) refl e (all_given given rules)
  where
    go : (b : Bool) → (a.required && not (given a)) ≡ b → (b || list_any (λ x. x.required && not (given x)) rules) ≡ false
        → (list_any (λ x. x.required && not (given x)) rules ≡ false → list_all (λ x. not x.required || given x) rules ≡ true)
        → ((not a.required || given a) && list_all (λ x. not x.required || given x) rules) ≡ true
    go true is none others = cc
    go false is none others = and _ _ (or_not a.required (given a) is) (others none)

required_ok : (lifted : Bool) (given : Rule → Bool) (rules : List Rule) → (not lifted && list_any (λ a. a.required && not (given a)) rules) ≡ false
    → (lifted || list_all (λ a. not a.required || given a) rules) ≡ true
required_ok true given rules e = refl
required_ok false given rules e = all_given given rules e

valid_ok : (s : Shape) (rows : List Row) (given : Bool) → list_all (λ a. a.is_free) s.rules ≡ true → check_fault s rows given ≡ [] → is_valid s rows given ≡ true
valid_ok s rows given free e =
    let each = checks _ _ _ e in
    and _ _ (help_ok given s.arg_required_else_help (list_any (λ r. explicit_source r.source) rows) each.0)
    (and _ _ (needs_ok given s.subcommand_required each.1)
    (and _ _ free (required_ok (s.subcommand_negates_reqs && given) (λ a. is_given a.id rows) s.rules each.2)))

-- a command without subcommands enters none
enters : (a : App) (stop : Option (Text × List Text)) → a.subs ≡ [] → entered_passes a stop ≡ true
enters a None none = refl
enters a (Some p) none = rw none refl

-- where no kind of error comes, a command takes the words that has no subcommand, and whose defaults pass
pub faultless : (a : App) (words : List Text) → is_simple_and_free a ≡ true → (built a).subs ≡ [] → list_all default_passes (built a).top.rules ≡ true
    → fault_of a words ≡ [] → takes a words ≡ true
faultless a words simple no_subs defaults e =
    let b = built a in
    let given = argument_words a words in
    let whole = parts _ _ simple in
    let free = parts _ _ whole.1 in
    let at = walk b.top.rules (names_of b) nothing_held given in
    let walking = or_else_none _ _ e in
    let below = or_else_none _ _ walking.1 in
    let settling = or_else_none _ _ below.1 in
    let ending = or_else_none _ _ settling.1 in
    and _ _ whole.0 (and _ _ (enters b at.stopped no_subs)
    (and _ _ (walk_ok b.top (names_of b) (walk_from nothing_held) given walking.0)
    (and _ _ (settle_ok b.top.rules b.top.args_override_self at.held settling.0)
    (and _ _ defaults (valid_ok b.top (finished b.top.rules at.held) (is_some (entered b at.stopped)) free.0 ending.1)))))
