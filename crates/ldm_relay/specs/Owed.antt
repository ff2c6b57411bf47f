-- What a call is owed that could not be read.
use Rattle.std.specs.Prelude.{ℕ, Option, Some, None, ◌==◌, if◌then◌else◌}
use Rattle.ldm_relay.specs.declared.fault.RelayFault.{RelayFault}
use Rattle.ldm_relay.specs.declared.fault.RelayFault.TheVariants.{NotRpc, WrongProgram, WrongProcedure, BadMessage}
use Rattle.ldm_relay.specs.declared.message.Refusal.{Refusal}
use Rattle.ldm_relay.specs.declared.message.Refusal.TheVariants as refusal
use Rattle.ldm_relay.specs.declared.message.Refused.{Refused}
use Rattle.ldm_relay.specs.declared.procedure.TheConstants.{PROGRAM, VERSION}

-- another version of this program, or another program
abbrev pub wrong_program : ℕ → Refusal
wrong_program program = if program == PROGRAM then refusal.ProgramMismatch VERSION VERSION else refusal.ProgramUnavailable

-- a reply to the call of that number; none where it is not known that it is a call
abbrev pub refusal_owed : RelayFault → Option Refused
refusal_owed (NotRpc at) = None
refusal_owed (WrongProgram xid program version) = Some (record { xid = xid; why = wrong_program program })
refusal_owed (WrongProcedure xid procedure) = Some (record { xid = xid; why = refusal.ProcedureUnavailable })
refusal_owed (BadMessage xid at) = Some (record { xid = xid; why = refusal.GarbageArguments })
