-- What the types of the code say.
use Rattle.std.specs.Prelude.{◌≡◌, false, List}
use Rattle.std.specs.Option.{option_copied}
use Rattle.clap.specs.Words.{Row, Rule, found_of, rows_of, rule_of}
use Rattle.clap.specs.declared.builder.arg.Arg.{Arg}
use Rattle.clap.specs.declared.parser.matches.ArgMatches.{ArgMatches}
use Rattle.ldm_conf.specs.AddressViews.{address_view}
use Rattle.ldm_words.specs.declared.said.NodeWords.{NodeWords}
use Rattle.ldm_words.specs.declared.said.ActWords.{ActWords}
use Rattle.ldm_words.specs.declared.said.CatWords.{CatWords}
use Rattle.ldm_words.specs.declared.said.ChainWords.{ChainWords}
use Rattle.ldm_words.specs.declared.said.InsertWords.{InsertWords}
use Rattle.ldm_words.specs.declared.said.MonWords.{MonWords}
use Rattle.ldm_words.specs.declared.said.NoticesWords.{NoticesWords}
use Rattle.ldm_words.specs.declared.said.Receiving.{Receiving}
use Rattle.ldm_words.specs.declared.said.SaveWords.{SaveWords}
use Rattle.ldm_words.specs.declared.said.StatsWords.{StatsWords}
use Rattle.ldm_words.specs.declared.said.WmoWords.{WmoWords}
use Rattle.ldm_words.specs.Values.{texts_of}
use Rattle.ldm_words.specs.Forms.{ActForm, CatForm, ChainForm, InsertForm, MonForm, NodeForm, NoticesForm, ReceivingForm, SaveForm, StatsForm, WmoForm}

-- an argument of a command has this rule
abbrev pub HasRule : Rule → Arg → Type 0
HasRule rule arg = (rule_of arg ≡ rule) × (arg.global ≡ false)

-- the rows of matches
abbrev pub rows_in : ArgMatches → List Row
rows_in matches = rows_of (found_of matches)

abbrev pub mon_view : MonWords → MonForm
mon_view words = record { every = words.every; peer = address_view words.peer }

abbrev pub receiving_view : Receiving → ReceivingForm
receiving_view words = record { class = words.class; count = words.count; peer = address_view words.peer }

abbrev pub cat_view : CatWords → CatForm
cat_view words = record {
  class = words.class;
  count = words.count;
  arena = words.arena;
  slots = words.slots;
  peer = address_view words.peer;
}

abbrev pub notices_view : NoticesWords → NoticesForm
notices_view words = record { class = words.class; count = words.count; text = words.text; peer = address_view words.peer }

abbrev pub act_view : ActWords → ActForm
act_view words = record {
  class = words.class;
  count = words.count;
  arena = words.arena;
  slots = words.slots;
  state = option_copied words.state;
  conf = words.conf.now;
  peer = address_view words.peer;
}

abbrev pub insert_view : InsertWords → InsertForm
insert_view words = record {
  feed = words.feed.0;
  ident = option_copied words.ident;
  origin = words.origin.now;
  sign_ident = words.sign_ident;
  peer = address_view words.peer;
  files = texts_of words.files.items;
}

abbrev pub wmo_view : WmoWords → WmoForm
wmo_view words = record { feed = words.feed.0; origin = words.origin.now; socket = words.socket; peer = address_view words.peer }

abbrev pub stats_view : StatsWords → StatsForm
stats_view words = record {
  class = words.class;
  count = words.count;
  hours = words.hours;
  send = words.send;
  peer = address_view words.peer;
}

abbrev pub save_view : SaveWords → SaveForm
save_view words = record { file = words.file.now; arena = words.arena; slots = words.slots }

abbrev pub node_view : NodeWords → NodeForm
node_view words = record {
  arena = words.arena;
  slots = words.slots;
  port = words.port;
  workers = words.workers;
  sessions = words.sessions;
  idles = words.idles;
  journal = option_copied words.journal;
  ends_with_input = words.ends_with_input;
  conf = words.conf.now;
}

abbrev pub chain_view : ChainWords → ChainForm
chain_view words = record {
  conf = option_copied words.conf;
  arena = words.arena;
  slots = words.slots;
  max_hereis = words.max_hereis;
  classes = words.classes.items;
}
