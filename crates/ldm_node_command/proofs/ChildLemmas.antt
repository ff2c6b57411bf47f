-- What a launcher that tells its children tells of those that were started and waited for one after another.
use Rattle.std.proofs.Common.{◌≡◌, ◌∙◌, ℕ, ◌+◌, true, false, List, [], ◌∷◌, ◌++◌, length, map, Some, refl, sym, ap, append_assoc, arith, length-append}
use Rattle.std.specs.Prelude.{option_map}
use Rattle.std.specs.List.{All}
use Rattle.std.proofs.lemmas.List.{append-nil, get_or_at, map-append, set_at}
use Rattle.std.proofs.lemmas.List.Elements.{All-map}
use Rattle.ldm_outside.specs.declared.launcher.ChildNo.{ChildNo}
use Rattle.ldm_outside.specs.Launcher.{Child, LauncherFails, LauncherRecord, child_at, with_waited}
use Rattle.ldm_node_command.specs.Commands.{Words, child_of, numbers_from, with_command, with_commands, with_wait, with_waits}

-- a command that was waited for
abbrev pub waited_of : Words → Child
waited_of words = record { words = words; piped = false; given = []; shut = false; waited = true }

-- commands that were started stand behind the children that there were
pub children-with_commands : (commands : List Words) (before : List Child) (old : LauncherRecord) → old.children ≡ Some before
    → (with_commands commands old).children ≡ Some (before ++ map child_of commands)
children-with_commands [] before old told = told ∙ ap Some (sym (append-nil before))
children-with_commands (words ∷ commands) before old told =
    let one : (with_command words old).children ≡ Some (before ++ child_of words ∷ []) = ap (option_map (λ (children : List Child). children ++ child_of words ∷ [])) told in
    children-with_commands commands (before ++ child_of words ∷ []) (with_command words old) one ∙ ap Some (append_assoc before (child_of words ∷ []) (map child_of commands))

-- the child at a place was waited for
one_waited_at : (before behind : List Child) (words : Words) (child : ChildNo) → length before ≡ child.0 → with_waited child (before ++ child_of words ∷ behind) ≡ before ++ waited_of words ∷ behind
one_waited_at before behind words child place =
    let over : Child = record { words = []; piped = false; given = []; shut = true; waited = true } in
    let was : child_at child (before ++ child_of words ∷ behind) ≡ child_of words = get_or_at before (child_of words) behind over child.0 place in
    set_at before (child_of words) behind (record (child_at child (before ++ child_of words ∷ behind)) { waited = true }) child.0 place
    ∙ ap (λ (it : Child). before ++ record it { waited = true } ∷ behind) was

-- the first of the children behind those that there were, each at the place of its number, were waited for
pub children-with_waits : (commands : List Words) (before behind : List Child) (next : ℕ) (old : LauncherRecord) → length before ≡ next
    → old.children ≡ Some (before ++ (map child_of commands ++ behind))
    → (with_waits (numbers_from next commands) old).children ≡ Some (before ++ (map waited_of commands ++ behind))
children-with_waits [] before behind next old place told = told
children-with_waits (words ∷ commands) before behind next old place told =
    let child : ChildNo = record { 0 = next } in
    let left = map child_of commands ++ behind in
    let one : (with_wait child old).children ≡ Some (before ++ waited_of words ∷ left) =
    ap (option_map (with_waited child)) told ∙ ap Some (one_waited_at before left words child place) in
    let longer : length (before ++ waited_of words ∷ []) ≡ next + 1 = omega (arith, length-append before (waited_of words ∷ []), place) in
    children-with_waits commands (before ++ waited_of words ∷ []) behind (next + 1) (with_wait child old) longer (one ∙ ap Some (sym (append_assoc before (waited_of words ∷ []) left)))
    ∙ ap Some (append_assoc before (waited_of words ∷ []) (map waited_of commands ++ behind))

-- the first numbers are those of the first commands
pub first_numbers : (waited : List ChildNo) (rest : List ChildNo) (next : ℕ) (commands : List Words) → numbers_from next commands ≡ waited ++ rest
    → (front : List Words) × (back : List Words) × (commands ≡ front ++ back) × (waited ≡ numbers_from next front)
first_numbers [] rest next commands are = ([], commands, refl, refl)
first_numbers (child ∷ waited) rest next [] are = absurd (cc)
first_numbers (child ∷ waited) rest next (words ∷ commands) are =
    let number : record { 0 = next } ≡ child = cc in
    let others : numbers_from (next + 1) commands ≡ waited ++ rest = cc in
    let later = first_numbers waited rest (next + 1) commands others in (
      words ∷ later.0,
      later.1,
      ap (λ (all : List Words). words ∷ all) later.2,
      ap (λ (it : ChildNo). it ∷ waited) (sym number) ∙ ap (λ (all : List ChildNo). record { 0 = next } ∷ all) later.3,
    )

-- the words of children are those that they were started with
pub words_of-child_of : (commands : List Words) → map (λ (child : Child). child.words) (map child_of commands) ≡ commands
words_of-child_of [] = refl
words_of-child_of (words ∷ commands) = ap (λ (all : List Words). words ∷ all) (words_of-child_of commands)

pub words_of-waited_of : (commands : List Words) → map (λ (child : Child). child.words) (map waited_of commands) ≡ commands
words_of-waited_of [] = refl
words_of-waited_of (words ∷ commands) = ap (λ (all : List Words). words ∷ all) (words_of-waited_of commands)

-- the words of children of which the first were waited for
pub words_of-some : (front back : List Words) → map (λ (child : Child). child.words) (map waited_of front ++ map child_of back) ≡ front ++ back
words_of-some front back =
    map-append (λ (child : Child). child.words) (map waited_of front) (map child_of back)
    ∙ ap (λ (words : List Words). words ++ map (λ (child : Child). child.words) (map child_of back)) (words_of-waited_of front)
    ∙ ap (λ (words : List Words). front ++ words) (words_of-child_of back)

-- children that were all waited for
pub all_waited : (commands : List Words) → All (λ (child : Child). child.waited ≡ true) (map waited_of commands)
all_waited commands = All-map (λ (child : Child). child.waited ≡ true) waited_of commands (λ k d less. refl)

-- a launcher that failed tells the same children
pub children-fails : (old new : LauncherRecord) → LauncherFails old new → new.children ≡ old.children
children-fails old new fails = ap (λ (l : LauncherRecord). l.children) fails.1
