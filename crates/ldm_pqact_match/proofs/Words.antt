-- Words, piece by piece.
use Rattle.std.proofs.Common.{◌<◌, ◌+◌, suc, length, get_or, drop-cons, arith, ◌≡◌, ℕ, List, [], ◌∷◌, ◌++◌, drop, Result, Ok, Err, refl, sym, ap, ◌∙◌, append_assoc, append-nil}
use Rattle.ldm_pqact_match.specs.declared.forms.Form.{Form}
use Rattle.ldm_pqact_match.specs.declared.substitute.WordFault.{WordFault}
use Rattle.ldm_pqact_match.specs.declared.substitute.WordFault.TheVariants.{NoDay, OutOfMemory}
use Rattle.ldm_pqact_match.specs.Forms.{pieces_behind, pieces_of}
use Rattle.ldm_pqact_match.specs.Substitution.{Meanings, in_front, piece_text, pieces_text, word_text, words_text}
use Rattle.ldm_pqact_match.specs.Reading.{HasFront, IsStopOf, behind, behind_words, Appends}

joined : (bytes text : List ℕ) (rest : Result (List ℕ) ℕ) → behind (bytes ++ text) rest ≡ behind bytes (in_front (λ text later. text ++ later) (Ok text) rest)
joined bytes text (Ok later) = ap Ok (append_assoc bytes text later)
joined bytes text (Err group) = refl

-- what a piece becomes stands behind what stood already
pub piece_taken : (meanings : Meanings) (bytes new text : List ℕ) (form : Form) → HasFront text form → Appends (piece_text meanings form.piece) bytes new →
    behind new (pieces_text meanings (pieces_of (drop form.length text))) ≡ behind bytes (pieces_text meanings (pieces_of text))
unfolding pieces_text
piece_taken meanings bytes new text form front added =
    rw (front.pieces, added.1, added.2) (joined bytes added.0 (pieces_text meanings (pieces_of (drop form.length text))))

-- a piece that stops a word stops it whatever stands already
pub piece_stops : (meanings : Meanings) (bytes text word : List ℕ) (form : Form) (stop : WordFault) → HasFront text form →
    behind bytes (pieces_text meanings (pieces_of text)) ≡ word_text meanings word → IsStopOf (piece_text meanings form.piece) stop →
    IsStopOf (word_text meanings word) stop
unfolding pieces_text
piece_stops meanings bytes text word form (NoDay group) front so_far why = sym so_far ∙ rw (front.pieces, why) refl
piece_stops meanings bytes text word form OutOfMemory front so_far why = tt

-- where nothing is left, what stands is the word
pub word_ends : (meanings : Meanings) (bytes word : List ℕ) →
    behind bytes (pieces_text meanings (pieces_of [])) ≡ word_text meanings word → word_text meanings word ≡ Ok bytes
unfolding pieces_text pieces_behind
word_ends meanings bytes word so_far = sym so_far ∙ ap Ok (append-nil bytes)

joined_words : (texts : List (List ℕ)) (text : List ℕ) (rest : Result (List (List ℕ)) ℕ) →
    behind_words (texts ++ text ∷ []) rest ≡ behind_words texts (in_front (λ text later. text ∷ later) (Ok text) rest)
joined_words texts text (Ok later) = ap Ok (append_assoc texts (text ∷ []) later)
joined_words texts text (Err group) = refl

-- the same of words
pub word_taken : (meanings : Meanings) (texts : List (List ℕ)) (text word : List ℕ) (words : List (List ℕ)) → word_text meanings word ≡ Ok text →
    behind_words (texts ++ text ∷ []) (words_text meanings words) ≡ behind_words texts (words_text meanings (word ∷ words))
unfolding words_text
word_taken meanings texts text word words is = rw is (joined_words texts text (words_text meanings words))

pub word_stops : (meanings : Meanings) (texts : List (List ℕ)) (word : List ℕ) (words all : List (List ℕ)) (stop : WordFault) →
    behind_words texts (words_text meanings (word ∷ words)) ≡ words_text meanings all → IsStopOf (word_text meanings word) stop →
    IsStopOf (words_text meanings all) stop
unfolding words_text
word_stops meanings texts word words all (NoDay group) so_far why = sym so_far ∙ rw why refl
word_stops meanings texts word words all OutOfMemory so_far why = tt

pub words_end : (meanings : Meanings) (texts all : List (List ℕ)) →
    behind_words texts (words_text meanings []) ≡ words_text meanings all → words_text meanings all ≡ Ok texts
unfolding words_text
words_end meanings texts all so_far = sym so_far ∙ ap Ok (append-nil texts)

-- the words that are left, from that place on
pub word_split : (words : List (List ℕ)) (place : ℕ) (word : List ℕ) → place < length words → word ≡ get_or words place word →
    drop place words ≡ word ∷ drop (place + 1) words
word_split words place word inside is =
    let next : suc place ≡ place + 1 = omega arith in
    drop-cons words place word inside ∙ rw (next, ← is) refl

abbrev IsAsMany : ℕ → Result (List (List ℕ)) ℕ → Type 0
IsAsMany count (Ok texts) = length texts ≡ count
IsAsMany count (Err group) = Unit {0}

one_in_front : (count : ℕ) (first : Result (List ℕ) ℕ) (later : Result (List (List ℕ)) ℕ) → IsAsMany count later →
    IsAsMany (suc count) (in_front (λ text later. text ∷ later) first later)
one_in_front count (Err group) later few = tt
one_in_front count (Ok first) (Err group) few = tt
one_in_front count (Ok first) (Ok later) few = ap suc few

all_in_front : (meanings : Meanings) (words : List (List ℕ)) → IsAsMany (length words) (words_text meanings words)
unfolding words_text
all_in_front meanings [] = refl
all_in_front meanings (word ∷ words) = one_in_front (length words) (word_text meanings word) (words_text meanings words) (all_in_front meanings words)

-- words become as many words
pub as_many : (meanings : Meanings) (words texts : List (List ℕ)) → words_text meanings words ≡ Ok texts → length texts ≡ length words
as_many meanings words texts e = rw e at (all_in_front meanings words)
