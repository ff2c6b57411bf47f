-- The statuses, with their log lines.
use Rattle.std.specs.Prelude.{◌≡◌, ◌⊎◌, ℕ, ◌++◌, List, [], ◌∷◌, Bool, true, false, cond, codes, decimal}
use Rattle.ldm_outside.specs.Count.{Rose}
use Rattle.ldm_outside.specs.Io.{SinkRecord, Takes, WritesFront}
use Rattle.ldm_outside.specs.Reason.{IsReason}
use Rattle.ldm_status.specs.declared.status.TheConstants.{LOG_FAULT}
use Rattle.ldm_status.specs.declared.status.Status.{Status}
use Rattle.ldm_status.specs.declared.status.Status.TheVariants as status

-- the number that the program ends with
abbrev pub code_of : Status → ℕ
code_of status.Done = 0
code_of status.Usage = 64
code_of (status.BadLine line column) = 65
code_of (status.BadFrame at) = 65
code_of (status.BadConf file line kind) = 65
code_of (status.BadPqact line kind) = 65
code_of (status.BadImage at) = 65
code_of status.StreamLimit = 66
code_of (status.RefusedArena arena) = 67
code_of (status.RefusedSlots slots) = 67
code_of (status.RefusedPasses passes) = 67
code_of status.NetFault = 69
code_of status.NoMemory = 71
code_of status.StoreFault = 72
code_of status.ChildFault = 73
code_of status.SourceFault = 74
code_of status.SinkFault = 75
code_of status.Worn = 77
code_of status.Denied = 78
code_of status.Refused = 79
code_of status.Unclean = 80

-- the log line, with its newline: nothing where all went well
abbrev pub log_line : Status → List ℕ
log_line status.Done = []
log_line status.Usage = codes "ldm: usage\n"
log_line (status.BadLine line column) = codes "ldm: bad line " ++ decimal line ++ codes " column " ++ decimal column ++ 10 ∷ []
log_line (status.BadFrame at) = codes "ldm: bad frame at " ++ decimal at ++ 10 ∷ []
log_line (status.BadConf file line kind) =
    codes "ldm: bad conf file " ++ decimal file ++ codes " line " ++ decimal line ++ codes " kind " ++ decimal kind ++ 10 ∷ []
log_line (status.BadPqact line kind) = codes "ldm: bad pqact line " ++ decimal line ++ codes " kind " ++ decimal kind ++ 10 ∷ []
log_line (status.BadImage at) = codes "ldm: bad image at " ++ decimal at ++ 10 ∷ []
log_line status.StreamLimit = codes "ldm: stream limit\n"
log_line (status.RefusedArena arena) = codes "ldm: refused arena " ++ decimal arena ++ 10 ∷ []
log_line (status.RefusedSlots slots) = codes "ldm: refused slots " ++ decimal slots ++ 10 ∷ []
log_line (status.RefusedPasses passes) = codes "ldm: refused passes " ++ decimal passes ++ 10 ∷ []
log_line status.NetFault = codes "ldm: net fault\n"
log_line status.NoMemory = codes "ldm: no memory\n"
log_line status.StoreFault = codes "ldm: store fault\n"
log_line status.ChildFault = codes "ldm: child fault\n"
log_line status.SourceFault = codes "ldm: source fault\n"
log_line status.SinkFault = codes "ldm: sink fault\n"
log_line status.Worn = codes "ldm: worn\n"
log_line status.Denied = codes "ldm: denied\n"
log_line status.Refused = codes "ldm: refused\n"
log_line status.Unclean = codes "ldm: unclean image\n"

-- The number that ends the program, and what the log took: the status and its line; or 76, where the log failed,
-- and a front of the line.
abbrev pub Reports : Status → ℕ → SinkRecord → SinkRecord → Type 0
Reports ending code old new =
    ((code ≡ code_of ending) × Takes old (log_line ending) new)
    ⊎ ((code ≡ LOG_FAULT) × Rose old.faults new.faults × WritesFront old (log_line ending) new)

-- whether a status is of the words, of a configuration or of the outside, so that a line before its own may say why
abbrev pub says_why : Status → Bool
says_why status.Done = false
says_why status.Usage = true
says_why (status.BadLine line column) = false
says_why (status.BadFrame at) = false
says_why (status.BadConf file line kind) = true
says_why (status.BadPqact line kind) = true
says_why (status.BadImage at) = false
says_why status.StreamLimit = false
says_why (status.RefusedArena arena) = false
says_why (status.RefusedSlots slots) = false
says_why (status.RefusedPasses passes) = false
says_why status.NetFault = true
says_why status.NoMemory = false
says_why status.StoreFault = true
says_why status.ChildFault = true
says_why status.SourceFault = false
says_why status.SinkFault = false
says_why status.Worn = false
says_why status.Denied = false
says_why status.Refused = false
says_why status.Unclean = false

-- Of what is said of a configuration, a store, a net and a launcher, what is of a status: nothing of a status that is about none of them.
abbrev pub reason_among : Status → (conf store net launcher : List ℕ) → List ℕ
reason_among (status.BadConf file line kind) conf store net launcher = conf
reason_among (status.BadPqact line kind) conf store net launcher = conf
reason_among status.StoreFault conf store net launcher = store
reason_among status.NetFault conf store net launcher = net
reason_among status.ChildFault conf store net launcher = launcher
reason_among _ conf store net launcher = []

-- the line of a reason, with its newline: none where there is no reason
abbrev pub reason_line : List ℕ → List ℕ
reason_line [] = []
reason_line (byte ∷ more) = codes "ldm: " ++ (byte ∷ more) ++ 10 ∷ []

-- all that is logged of a status with its reason
abbrev pub log_lines : List ℕ → Status → List ℕ
log_lines reason ending = cond (says_why ending) (reason_line reason) [] ++ log_line ending

-- The number that ends the program, and what the log took: the status, a line that says why, and the status's own line;
-- or 76, where the log failed, and a front of these.
abbrev pub ReportsFor : List ℕ → Status → ℕ → SinkRecord → SinkRecord → Type 0
ReportsFor reason ending code old new =
    ((code ≡ code_of ending) × Takes old (log_lines reason ending) new)
    ⊎ ((code ≡ LOG_FAULT) × Rose old.faults new.faults × WritesFront old (log_lines reason ending) new)

-- A status was reported, and before its line stands at most one more, of some reason.
abbrev pub ReportsBecause : Status → ℕ → SinkRecord → SinkRecord → Type 0
ReportsBecause ending code old new = (reason : List ℕ) × IsReason reason × ReportsFor reason ending code old new
