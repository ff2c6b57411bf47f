-- The limits of the program, each with its number, and the numbers of its statuses. Wherever a definition or a clause
-- names one of these constants, it means this number.
use Rattle.std.specs.Prelude.{◌≡◌, ℕ}
use Rattle.ldm_types.specs.declared.limits.TheConstants as values
use Rattle.ldm_types.specs.declared.numbers.TheConstants.Actor as actors
use Rattle.ldm_types.specs.declared.numbers.TheConstants.CursorNo as cursors
use Rattle.ldm_model.specs.declared.numbers.TheConstants.ReserveNo as reservations
use Rattle.ldm_xdr.specs.declared.length.TheConstants as metadata
use Rattle.ldm_feedtype.specs.declared.reader.TheConstants as feeds
use Rattle.ldm_shared.specs.declared.steps.TheConstants as shared
use Rattle.ldm_script.specs.declared.line.TheConstants as lines
use Rattle.ldm_answers.specs.declared.answer.TheConstants as answers
use Rattle.ldm_script.specs.declared.body.TheConstants as bodies
use Rattle.ldm_play.specs.declared.play_command.TheConstants as plays
use Rattle.ldm_status.specs.declared.whole_script.TheConstants as scripts
use Rattle.ldm_exercise.specs.declared.order.TheConstants as drawn
use Rattle.ldm_rpc.specs.declared.stage.TheConstants as fragments
use Rattle.ldm_rpc.specs.declared.records.TheConstants as records
use Rattle.ldm_rpc.specs.declared.kept.TheConstants as kept
use Rattle.ldm_relay.specs.declared.message.TheConstants as messages
use Rattle.ldm_relay.specs.declared.front.TheConstants as fronts
use Rattle.ldm_relay.specs.declared.procedure.TheConstants as procedures
use Rattle.ldm_session.specs.declared.limits.TheConstants as streams
use Rattle.ldm_session.specs.declared.gathering.TheConstants as gathering
use Rattle.ldm_session.specs.declared.gaps.TheConstants as hosts
use Rattle.ldm_session.specs.declared.idle.TheConstants as idle
use Rattle.ldm_intake.specs.declared.notes.TheConstants as notes
use Rattle.ldm_intake.specs.declared.replies.TheConstants as owed
use Rattle.ldm_downstream.specs.declared.limits.TheConstants as pieces
use Rattle.ldm_watch.specs.declared.limits.TheConstants as watched
use Rattle.ldm_serve.specs.declared.hiya.TheConstants as offers
use Rattle.ldm_serve.specs.declared.saying.TheConstants as sayings
use Rattle.ldm_outside.specs.declared.door.TheConstants as doors
use Rattle.ldm_outside.specs.declared.reason.TheConstants as reasons
use Rattle.ldm_text.specs.declared.limits.TheConstants as texts
use Rattle.ldm_conf.specs.declared.limits.TheConstants as confs
use Rattle.ldm_words.specs.declared.limits.TheConstants as words
use Rattle.ldm_pqact_match.specs.declared.day.TheConstants as days
use Rattle.ldm_pqact_match.specs.declared.chosen.TheConstants as chosen
use Rattle.ldm_chain.specs.declared.setup.TheConstants as chains
use Rattle.ldm_actions.specs.declared.limits.TheConstants as actions
use Rattle.ldm_pqact.specs.declared.limits.TheConstants as acting
use Rattle.ldm_gather.specs.declared.limits.TheConstants as gathers
use Rattle.ldm_gather.specs.declared.cat_limits.TheConstants as cats
use Rattle.ldm_tools.specs.declared.limits.TheConstants as inserts
use Rattle.ldm_check.specs.declared.command.TheConstants as checks
use Rattle.ldm_pqact_command.specs.declared.state.TheConstants as states
use Rattle.ldm_wmo.specs.declared.write.TheConstants as bulletins
use Rattle.ldm_serve.specs.declared.keeping.TheConstants as keeping
use Rattle.ldm_journal.specs.declared.places.TheConstants as places
use Rattle.ldm_recorder.specs.declared.line.TheConstants as requests
use Rattle.ldm_recorder.specs.declared.recorder.TheConstants as recorders
use Rattle.ldm_status.specs.declared.status.TheConstants as log
use Rattle.ldm_status.specs.declared.status.Status.TheVariants as status
use Rattle.ldm_status.specs.Status.{code_of}

-- The queue: instants, arenas, slots, texts of a product, cursor and reservation places, calls.
pub record QueueLimits : Type 0 where
  pub greatest_instant : values.GREATEST_INSTANT ≡ 4294967295999999
  pub smallest_arena : values.SMALLEST_ARENA ≡ 64
  pub largest_arena : values.LARGEST_ARENA ≡ 1073741824
  pub arena_unit : values.ARENA_UNIT ≡ 8
  pub most_slots : values.MOST_SLOTS ≡ 1048576
  pub longest_origin : values.LONGEST_ORIGIN ≡ 64
  pub longest_ident : values.LONGEST_IDENT ≡ 255
  pub longest_pattern : values.LONGEST_PATTERN ≡ 255
  pub most_specs : values.MOST_SPECS ≡ 32
  pub actors : actors.COUNT ≡ 64
  pub cursors : cursors.COUNT ≡ 64
  pub reservations : reservations.COUNT ≡ 64
  pub longest_metadata : metadata.LONGEST_METADATA ≡ 364
  pub most_open_parentheses : feeds.MOST_OPEN ≡ 64
  pub most_turns : shared.MOST_TURNS ≡ 4611686018427387904

-- Scripts, their lines and answers.
pub record ScriptLimits : Type 0 where
  pub longest_line : lines.LONGEST_LINE ≡ 65536
  pub longest_read : answers.LONGEST_READ ≡ 4096
  pub longest_answer : answers.LONGEST_ANSWER ≡ 16384
  pub longest_body : bodies.LONGEST_BODY ≡ 1048576
  pub script_limit : plays.SCRIPT_LIMIT ≡ 1099511627776
  pub longest_script : scripts.LONGEST_SCRIPT ≡ 67108864
  pub most_drawn : drawn.MOST_DRAWN ≡ 1000000
  pub body_limit : drawn.BODY_LIMIT ≡ 40000
  pub read_size : drawn.READ_SIZE ≡ 64

-- Records and messages.
pub record MessageLimits : Type 0 where
  pub last_fragment : fragments.LAST_FRAGMENT ≡ 2147483648
  pub largest_kept : records.LARGEST_KEPT ≡ 4194304
  pub least_front : kept.LEAST_FRONT ≡ 10240
  pub largest_block : messages.LARGEST_BLOCK ≡ 16384
  pub largest_content : messages.LARGEST_CONTENT ≡ 1073742848
  pub largest_record : messages.LARGEST_RECORD ≡ 1073742848
  pub largest_reply : messages.LARGEST_REPLY ≡ 1024
  pub longest_call : fronts.LONGEST_CALL ≡ 10240
  pub longest_block_call : fronts.LONGEST_BLOCK_CALL ≡ 20480
  pub program : procedures.PROGRAM ≡ 300029
  pub version : procedures.VERSION ≡ 6

-- Sessions.
pub record SessionLimits : Type 0 where
  pub longest_stream : streams.LONGEST_STREAM ≡ 281474976710656
  pub gathered : gathering.GATHERED ≡ 65536
  pub longest_name : hosts.LONGEST_NAME ≡ 255
  pub longest_silence : idle.LONGEST_SILENCE ≡ 30000000
  pub longest_note : notes.LONGEST_NOTE ≡ 17165
  pub soon_reply : owed.SOON_REPLY ≡ 32
  pub longest_piece_of_a_feed : pieces.LONGEST_PIECE ≡ 262144
  pub longest_piece_of_notices : watched.LONGEST_PIECE ≡ 65536
  pub hereis_that_is_taken : offers.MAX_HEREIS ≡ 16384
  pub longest_answer_of_a_link : sayings.LONGEST_ANSWER ≡ 72
  pub longest_host : doors.LONGEST_HOST ≡ 64
  pub longest_carried : keeping.LONGEST_CARRIED ≡ 65536

-- Configurations and words.
pub record FileLimits : Type 0 where
  pub longest_configuration : texts.LONGEST_CONFIGURATION ≡ 1048576
  pub deepest_include : confs.DEEPEST_INCLUDE ≡ 8
  pub most_files : confs.MOST_FILES ≡ 1024
  pub longest_host_name : confs.LONGEST_HOST_NAME ≡ 255
  pub default_port : confs.DEFAULT_PORT ≡ 388
  pub hereis_of_primary : confs.PRIMARY_MAX_HEREIS ≡ 1048576
  pub hereis_of_alternate : confs.ALTERNATE_MAX_HEREIS ≡ 16384
  pub most_classes : words.MOST_CLASSES ≡ 7
  pub first_year : days.FIRST_YEAR ≡ 1969
  pub last_year : days.LAST_YEAR ≡ 2201
  pub last_place : chosen.LAST_PLACE ≡ 4294967295

-- Commands: queues of their own, open outputs, files.
pub record CommandLimits : Type 0 where
  pub largest_chain_arena : chains.LARGEST_CHAIN_ARENA ≡ 67108864
  pub most_open_files : actions.MOST_OPEN ≡ 32
  pub most_open_programs : actions.MOST_PIPED ≡ 32
  pub largest_piece_of_pqact : acting.LARGEST_PIECE ≡ 65536
  pub feedtypes_of_pqact : acting.EVERY_FEEDTYPE ≡ 4294967295
  pub tool_arena : gathers.ARENA ≡ 67108864
  pub tool_slots : gathers.SLOTS ≡ 16384
  pub tool_passes : gathers.PASSES ≡ 1
  pub tool_hereis : gathers.LARGEST_HEREIS ≡ 16384
  pub tool_feedtypes : gathers.EVERY_FEEDTYPE ≡ 4294967295
  pub pqcat_piece : cats.LARGEST_PIECE ≡ 16384
  pub largest_file : inserts.LARGEST_FILE ≡ 1073741824
  pub longest_reason : reasons.LONGEST_REASON ≡ 200
  pub faulty : checks.FAULTY ≡ 65
  pub longest_state : states.LONGEST_STATE ≡ 33
  pub largest_seqno : bulletins.LARGEST_SEQNO ≡ 99999

-- The journal of a node: the places of its file in bytes, the room of its note, and what is recorded.
pub record JournalLimits : Type 0 where
  pub selecting_byte : places.SELECT ≡ 24
  pub first_head : places.HEAD_A ≡ 4096
  pub second_head : places.HEAD_B ≡ 8192
  pub ring : places.RING ≡ 12288
  pub note : places.NOTE ≡ 1536
  pub largest_ring : places.LARGEST_RING ≡ 1099511627776
  pub most_lines : requests.MOST_LINES ≡ 64
  pub feedtypes : recorders.EVERY_FEEDTYPE ≡ 4294967295

-- The statuses that the program ends with.
pub record StatusNumbers : Type 0 where
  pub done : code_of status.Done ≡ 0
  pub usage : code_of status.Usage ≡ 64
  pub bad_line : (line column : ℕ) → code_of (status.BadLine line column) ≡ 65
  pub bad_frame : (at : ℕ) → code_of (status.BadFrame at) ≡ 65
  pub bad_conf : (file line kind : ℕ) → code_of (status.BadConf file line kind) ≡ 65
  pub bad_pqact : (line kind : ℕ) → code_of (status.BadPqact line kind) ≡ 65
  pub bad_image : (at : ℕ) → code_of (status.BadImage at) ≡ 65
  pub stream_limit : code_of status.StreamLimit ≡ 66
  pub refused_arena : (arena : ℕ) → code_of (status.RefusedArena arena) ≡ 67
  pub refused_slots : (slots : ℕ) → code_of (status.RefusedSlots slots) ≡ 67
  pub refused_passes : (passes : ℕ) → code_of (status.RefusedPasses passes) ≡ 67
  pub net_fault : code_of status.NetFault ≡ 69
  pub no_memory : code_of status.NoMemory ≡ 71
  pub store_fault : code_of status.StoreFault ≡ 72
  pub child_fault : code_of status.ChildFault ≡ 73
  pub source_fault : code_of status.SourceFault ≡ 74
  pub sink_fault : code_of status.SinkFault ≡ 75
  pub worn : code_of status.Worn ≡ 77
  pub denied : code_of status.Denied ≡ 78
  pub refused : code_of status.Refused ≡ 79
  pub unclean : code_of status.Unclean ≡ 80
  pub log_fault : log.LOG_FAULT ≡ 76
