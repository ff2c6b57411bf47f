-- What the words behind a command say, where they are a form of it.
use Rattle.std.specs.Prelude.{ℕ, Bool, if◌then◌else◌, List, [], ◌∷◌, Option, Some, None, codes}
use Rattle.std.specs.Str.{bytes_eq}
use Rattle.clap.specs.Words.{Row, Text, first_of}
use Rattle.ldm_types.specs.declared.class.ClassSpec.{ClassSpec}
use Rattle.ldm_conf.specs.Addresses.{Address, port_of}
use Rattle.ldm_feedtype.specs.Reading.{feed_number}
use Rattle.ldm_words.specs.Commands.{file_command, matched, node_command, notifyme_command, pqact_command, pqcat_command, pqinsert_command, pqmon_command}
use Rattle.ldm_words.specs.Commands.{pqstats_command, save_command, wmo_command}
use Rattle.ldm_words.specs.Values.{◌>>=◌, are_names, class_of, classes_of, count_of, few_classes, files_of, hours_of, is_used, long_number, optional}
use Rattle.ldm_words.specs.Values.{origin_of, peer_of, said, seconds_of, short_number}

-- ---- pqmon

pub record MonForm : Type 0 where
  -- how many seconds pass before it asks again, at least 1, or none where it asks once
  pub every : Option ℕ
  pub peer : Address

abbrev pub mon_of : List Row → Option MonForm
mon_of rows =
    optional seconds_of (first_of (codes "every") rows) >>= λ every.
    said peer_of (codes "peer") rows >>= λ peer.
    Some (record { every = every; peer = peer })

abbrev pub mon_form : List Text → Option MonForm
mon_form words = matched pqmon_command words >>= mon_of

-- ---- what the tools receive

pub record ReceivingForm : Type 0 where
  pub class : ClassSpec
  -- of products, at least 1
  pub count : Option ℕ
  pub peer : Address

abbrev pub receiving_of : List Row → Option ReceivingForm
receiving_of rows =
    class_of rows >>= λ class.
    optional count_of (first_of (codes "count") rows) >>= λ count.
    said peer_of (codes "peer") rows >>= λ peer.
    Some (record { class = class; count = count; peer = peer })

-- ---- pqcat

pub record CatForm : Type 0 where
  pub class : ClassSpec
  -- of products, at least 1
  pub count : Option ℕ
  -- bytes of the arena of the tool's own queue
  pub arena : ℕ
  pub slots : ℕ
  pub peer : Address

abbrev pub cat_of : List Row → Option CatForm
cat_of rows =
    receiving_of rows >>= λ receiving.
    said long_number (codes "arena") rows >>= λ arena.
    said short_number (codes "slots") rows >>= λ slots.
    Some (record { class = receiving.class; count = receiving.count; arena = arena; slots = slots; peer = receiving.peer })

abbrev pub cat_form : List Text → Option CatForm
cat_form words = matched pqcat_command words >>= cat_of

-- ---- notifyme

pub record NoticesForm : Type 0 where
  pub class : ClassSpec
  -- of products, at least 1
  pub count : Option ℕ
  -- whether the lines are for people
  pub text : Bool
  pub peer : Address

abbrev pub notices_of : List Row → Option NoticesForm
notices_of rows =
    receiving_of rows >>= λ receiving.
    Some (record {
      class = receiving.class;
      count = receiving.count;
      text = is_used (first_of (codes "text") rows);
      peer = receiving.peer;
    })

abbrev pub notices_form : List Text → Option NoticesForm
notices_form words = matched notifyme_command words >>= notices_of

-- ---- pqact

pub record ActForm : Type 0 where
  pub class : ClassSpec
  -- of products, at least 1
  pub count : Option ℕ
  -- bytes of the arena of the tool's own queue
  pub arena : ℕ
  pub slots : ℕ
  -- the path of the file with the state, where one is kept
  pub state : Option Text
  -- the path of the file with the entries
  pub conf : Text
  pub peer : Address

abbrev pub act_of : List Row → Option ActForm
act_of rows =
    receiving_of rows >>= λ receiving.
    said long_number (codes "arena") rows >>= λ arena.
    said short_number (codes "slots") rows >>= λ slots.
    first_of (codes "conf") rows >>= λ conf.
    Some (record {
      class = receiving.class;
      count = receiving.count;
      arena = arena;
      slots = slots;
      state = first_of (codes "state") rows;
      conf = conf;
      peer = receiving.peer;
    })

abbrev pub act_form : List Text → Option ActForm
act_form words = matched pqact_command words >>= act_of

-- ---- pqinsert

pub record InsertForm : Type 0 where
  -- a set of feedtypes, as a number whose bits are the members
  pub feed : ℕ
  -- the ident of each product, or none where that is the name of its file
  pub ident : Option Text
  pub origin : Text
  -- whether signatures are those of idents, and not of bodies
  pub sign_ident : Bool
  pub peer : Address
  pub files : List Text

-- a form, if its products may have their origin and idents
abbrev pub sound_insert : InsertForm → Option InsertForm
sound_insert form = if are_names form.origin form.ident form.files then Some form else None

abbrev pub insert_of : List Row → Option InsertForm
insert_of rows =
    said feed_number (codes "feed") rows >>= λ feed.
    first_of (codes "origin") rows >>= λ origin.
    said peer_of (codes "peer") rows >>= λ peer.
    files_of rows >>= λ files.
    sound_insert (record {
      feed = feed;
      ident = first_of (codes "ident") rows;
      origin = origin;
      sign_ident = is_used (first_of (codes "sign") rows);
      peer = peer;
      files = files;
    })

abbrev pub insert_form : List Text → Option InsertForm
insert_form words = matched pqinsert_command words >>= insert_of

-- ---- wmo

pub record WmoForm : Type 0 where
  -- a set of feedtypes, as a number whose bits are the members
  pub feed : ℕ
  pub origin : Text
  -- whether each bulletin is in a frame, as over a socket
  pub socket : Bool
  pub peer : Address

abbrev pub wmo_of : List Row → Option WmoForm
wmo_of rows =
    said feed_number (codes "feed") rows >>= λ feed.
    said origin_of (codes "origin") rows >>= λ origin.
    said peer_of (codes "peer") rows >>= λ peer.
    Some (record { feed = feed; origin = origin; socket = is_used (first_of (codes "socket") rows); peer = peer })

abbrev pub wmo_form : List Text → Option WmoForm
wmo_form words = matched wmo_command words >>= wmo_of

-- ---- pqstats

pub record StatsForm : Type 0 where
  pub class : ClassSpec
  -- of products, at least 1
  pub count : Option ℕ
  -- how many hours the report goes back
  pub hours : ℕ
  -- whether the lines of each hour are sent to the node
  pub send : Bool
  pub peer : Address

abbrev pub stats_of : List Row → Option StatsForm
stats_of rows =
    receiving_of rows >>= λ receiving.
    said hours_of (codes "hours") rows >>= λ hours.
    Some (record {
      class = receiving.class;
      count = receiving.count;
      hours = hours;
      send = is_used (first_of (codes "send") rows);
      peer = receiving.peer;
    })

abbrev pub stats_form : List Text → Option StatsForm
stats_form words = matched pqstats_command words >>= stats_of

-- ---- save, resume and pqcheck

pub record SaveForm : Type 0 where
  -- the path of the file
  pub file : Text
  -- bytes of the queue's arena
  pub arena : ℕ
  pub slots : ℕ

abbrev pub save_of : List Row → Option SaveForm
save_of rows =
    first_of (codes "file") rows >>= λ file.
    said long_number (codes "arena") rows >>= λ arena.
    said short_number (codes "slots") rows >>= λ slots.
    Some (record { file = file; arena = arena; slots = slots })

abbrev pub save_form : List Text → Option SaveForm
save_form words = matched save_command words >>= save_of

-- the path of the file that words name
abbrev pub file_form : List Text → Option Text
file_form words = matched file_command words >>= first_of (codes "file")

-- ---- node

pub record NodeForm : Type 0 where
  -- bytes of the queue's arena
  pub arena : ℕ
  pub slots : ℕ
  -- the port of the doors
  pub port : ℕ
  -- the workers at the doors
  pub workers : ℕ
  -- how many sessions a worker has
  pub sessions : ℕ
  -- how often a worker is idle
  pub idles : Option ℕ
  -- the path of the journal of the queue, if one is named
  pub journal : Option Text
  -- whether it ends with its standard input
  pub ends_with_input : Bool
  -- the path of the configuration
  pub conf : Text

abbrev pub node_of : List Row → Option NodeForm
node_of rows =
    said long_number (codes "arena") rows >>= λ arena.
    said short_number (codes "slots") rows >>= λ slots.
    said port_of (codes "port") rows >>= λ port.
    said short_number (codes "workers") rows >>= λ workers.
    said short_number (codes "sessions") rows >>= λ sessions.
    optional short_number (first_of (codes "idles") rows) >>= λ idles.
    first_of (codes "conf") rows >>= λ conf.
    Some (record {
      arena = arena;
      slots = slots;
      port = port;
      workers = workers;
      sessions = sessions;
      idles = idles;
      journal = first_of (codes "journal") rows;
      ends_with_input = is_used (first_of (codes "input") rows);
      conf = conf;
    })

abbrev pub node_form : List Text → Option NodeForm
node_form words = matched node_command words >>= node_of

-- ---- chain

pub record ChainForm : Type 0 where
  -- the path of the configuration, if one is named
  pub conf : Option Text
  -- bytes of the arena of each queue
  pub arena : ℕ
  -- slots of each queue
  pub slots : ℕ
  -- bytes of the largest product that is to come whole
  pub max_hereis : ℕ
  -- what each node from 1 on asks of the node before it
  pub classes : List ClassSpec

-- `ARENA SLOTS MAXHEREIS FEED PATTERN ..`, behind the configuration
abbrev pub chain_of : Option Text → List Text → Option ChainForm
chain_of conf (arena_word ∷ slots_word ∷ max_hereis_word ∷ pairs) =
    long_number arena_word >>= λ arena.
    short_number slots_word >>= λ slots.
    short_number max_hereis_word >>= λ max_hereis.
    classes_of pairs >>= few_classes >>= λ classes.
    Some (record { conf = conf; arena = arena; slots = slots; max_hereis = max_hereis; classes = classes })
chain_of conf words = None

-- `CONF ARENA SLOTS MAXHEREIS FEED PATTERN ..`
abbrev pub chain_with_conf : List Text → Option ChainForm
chain_with_conf [] = None
chain_with_conf (conf ∷ words) = chain_of (Some conf) words

-- `[-a CONF] ARENA SLOTS MAXHEREIS FEED PATTERN [FEED PATTERN ..]`
abbrev pub chain_form : List Text → Option ChainForm
chain_form [] = None
chain_form (first ∷ words) = if bytes_eq first (codes "-a") then chain_with_conf words else chain_of None (first ∷ words)
