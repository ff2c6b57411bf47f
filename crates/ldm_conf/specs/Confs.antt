-- A configuration, and what a line adds to it.
use Rattle.std.specs.Prelude.{ℕ, Bool, false, List, [], ◌∷◌, ◌++◌, map, is_some, string_bytes}
use Rattle.std.specs.Option.{option_to_list}
use Rattle.ldm_types.specs.declared.class.ClassSpec.{ClassSpec}
use Rattle.ldm_types.specs.declared.limits.TheConstants.{GREATEST_INSTANT}
use Rattle.ldm_class.specs.Classes.{bad_place}
use Rattle.ldm_class.specs.Rules.{Rule, Rules, no_rules, with_allow, with_accept}
use Rattle.ldm_class.specs.PolicyFaults.{bad_from}
use Rattle.ldm_conf.specs.declared.conf.Conf.{Conf}
use Rattle.ldm_conf.specs.declared.command.Command.{Command}
use Rattle.ldm_conf.specs.declared.request.Request.{Request as CodeRequest}
use Rattle.ldm_conf.specs.declared.transfer.Transfer.{Transfer}

-- the class to ask for, whom, and how its products are to come
pub record RequestView : Type 0 where
  pub class : ClassSpec
  pub host : List ℕ
  pub port : ℕ
  pub transfer : Transfer

abbrev pub request_view : CodeRequest → RequestView
request_view request = record { class = request.class; host = request.host.items; port = request.port; transfer = request.transfer }

-- the words of a program to start
abbrev pub command_view : Command → List (List ℕ)
command_view command = map string_bytes command.words.items

-- the rules of access, what to ask for, and the words of each program to start, each in the order of the lines
pub record ConfView : Type 0 where
  pub policy : Rules
  pub requests : List RequestView
  pub commands : List (List (List ℕ))

-- what contracts see of a `Conf`
abbrev pub conf_view : Conf → ConfView
conf_view conf = record {
  policy = conf.policy;
  requests = map request_view conf.requests.items;
  commands = map command_view conf.commands.items;
}

-- a configuration without lines
abbrev pub no_conf : ConfView
no_conf = record { policy = no_rules; requests = []; commands = [] }

-- what a line says, INCLUDE lines apart
pub data Directive : Type 0 where
  -- who may be fed what
  Allow : (rule : Rule) → Directive
  -- who may push what
  Accept : (rule : Rule) → Directive
  -- what to ask for
  Request : (request : RequestView) → Directive
  -- the words of a program to start
  Exec : (words : List (List ℕ)) → Directive

-- the configuration with one line more
abbrev pub with_directive : ConfView → Directive → ConfView
with_directive conf (Allow rule) = record conf { policy = with_allow conf.policy rule }
with_directive conf (Accept rule) = record conf { policy = with_accept conf.policy rule }
with_directive conf (Request request) = record conf { requests = conf.requests ++ request ∷ [] }
with_directive conf (Exec words) = record conf { commands = conf.commands ++ words ∷ [] }

-- the class of the products of all times that have one of these feedtypes and in whose ident a pattern is found
abbrev pub all_times : ℕ → List ℕ → ClassSpec
all_times feed pattern = record {
  from = 0;
  to = GREATEST_INSTANT;
  specs = record { items = record { feed = record { 0 = feed }; pattern = record { items = pattern } } ∷ [] };
}

-- whether some pattern of a line means nothing
abbrev pub has_bad_pattern : Directive → Bool
has_bad_pattern (Allow rule) = is_some (bad_from 0 (option_to_list rule.host ++ option_to_list rule.ok ++ option_to_list rule.not))
has_bad_pattern (Accept rule) = is_some (bad_from 0 (option_to_list rule.ok ++ option_to_list rule.host))
has_bad_pattern (Request request) = is_some (bad_place request.class.specs.items)
has_bad_pattern (Exec words) = false
