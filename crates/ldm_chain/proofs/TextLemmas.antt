-- The text of nodes, one behind the other.
use Rattle.std.proofs.Common.{◌≡◌, ◌∙◌, ℕ, zero, suc, ◌+◌, ◌<◌, List, [], ◌∷◌, ◌++◌, length, map, drop, get_or, Some, Result, Ok, Err, sym, ap, subst, append_assoc, append-nil, arith}
use Rattle.std.specs.Prelude.{OnOk, remove, slice_get, slice_index_or}
use Rattle.std.specs.List.{AllByRecursion, flat_map}
use mathlib.Core.List.{IsPrefix}
use Rattle.ldm_model.specs.declared.event.Entry.{Entry}
use Rattle.ldm_model.specs.History.{IsLegal}
use Rattle.ldm_shared.specs.Own.{own}
use Rattle.ldm_shared.specs.Passes.{AreAllOf, HasAllOf, HasSeen, IsLast, IsPassOf, PassView, SharedView}
use Rattle.ldm_model.specs.State.{State, Queued, queued}
use Rattle.ldm_book.specs.View.{BookView}
use Rattle.ldm_model.specs.declared.stat.Stat.{Stat}
use Rattle.ldm_model.specs.Answers.{stat_answer}
use Rattle.ldm_model.specs.Stat.{stat, stat_reply}
use Rattle.ldm_book.specs.Answers.{Follows}
use Rattle.ldm_answers.specs.Answer.{answer_line}
use Rattle.ldm_chain.specs.declared.node.ChainNode.{ChainNode}
use Rattle.ldm_chain.specs.CommandQueues.{node_line, node_text, nodes_text, product_line}
use Rattle.ldm_chain.specs.CommandNodes.{HasLegal, queue_of}
use Rattle.ldm_chain.proofs.ListedLemmas.{left-some}

-- Some nodes were written, and these are left.
pub record WrittenTo (all : List ChainNode) (text : List ℕ) (i : ℕ) (left : List ChainNode) : Type 0 where
  pub text_is : text ++ nodes_text i (map queue_of left) ≡ nodes_text 1 (map queue_of all)
  pub legal : AllByRecursion HasLegal left → AllByRecursion HasLegal all

pub written-more : (all : List ChainNode) (text : List ℕ) (i : ℕ) (node : ChainNode) (behind : List ChainNode) (new : List ℕ) → WrittenTo all text i (node ∷ behind)
    → new ≡ text ++ node_text i (queue_of node) → HasLegal node → WrittenTo all new (i + 1) behind
written-more all text i node behind new so_far is legal = record {
  text_is =
      ap (λ (t : List ℕ). t ++ nodes_text (i + 1) (map queue_of behind)) is
      ∙ append_assoc text (node_text i (queue_of node)) (nodes_text (i + 1) (map queue_of behind)) ∙ so_far.text_is;
  legal = λ rest. so_far.legal (legal, rest);
}

pub written-all : (all : List ChainNode) (text : List ℕ) (i : ℕ) (left : List ChainNode) → WrittenTo all text i left → length left ≡ 0
    → (text ≡ nodes_text 1 (map queue_of all)) × AllByRecursion HasLegal all
written-all all text i [] so_far none = (sym (append-nil text) ∙ so_far.text_is, so_far.legal tt)
written-all all text i (node ∷ left) so_far none = absurd (omega arith)

-- the lines of a product more
pub listed-more : (qs : List Queued) (i : ℕ) (q : Queued) (all text new : List ℕ) → slice_get qs i ≡ Some q → new ≡ text ++ product_line q
    → text ++ flat_map product_line (drop i qs) ≡ all → new ++ flat_map product_line (drop (i + 1) qs) ≡ all
listed-more qs i q all text new at is so_far =
    let behind = flat_map product_line (drop (i + 1) qs) in
    ap (λ (t : List ℕ). t ++ behind) is ∙ append_assoc text (product_line q) behind
    ∙ sym (ap (λ (left : List Queued). text ++ flat_map product_line left) (left-some qs i q at)) ∙ so_far

pub listed-all : (left : List Queued) (all text : List ℕ) → left ≡ [] → text ++ flat_map product_line left ≡ all → text ≡ all
listed-all left all text none so_far = sym (append-nil text) ∙ sym (ap (λ (qs : List Queued). text ++ flat_map product_line qs) none) ∙ so_far

-- the queue of a new list of nodes
pub first-taken : (xs : List ChainNode) (x : ChainNode) → 0 < length xs → x ≡ slice_index_or xs 0 x → xs ≡ x ∷ remove xs 0
first-taken [] x some is = absurd (omega arith)
first-taken (y ∷ ys) x some is = ap (λ (z : ChainNode). z ∷ ys) (sym is)

-- ---- a queue that ends

-- one pass is all
pub one-is-all : (shared : SharedView) (pass : PassView) → IsPassOf shared pass → shared.passes ≡ 1 → pass.actor ≡ 0 → AreAllOf shared (pass ∷ [])
one-is-all shared pass is one zeroth = record { of = each; all = λ actor less. (0, omega arith, zeroth ∙ omega (arith, less, one)) }
  where
    each : (k : ℕ) (d : PassView) → k < length (pass ∷ []) → IsPassOf shared (get_or (pass ∷ []) k d)
    each zero d less = is
    each (suc k) d less = absurd (omega arith)

-- What the only pass has seen is the whole.
pub record EndsAs (shared : SharedView) (pass last : PassView) : Type 0 where
  pub same : last.seen ≡ pass.seen
  pub legal : IsLegal shared.arena shared.slots pass.seen

pub ends-as : (all_own : (pass : PassView) → HasSeen pass → pass.passes ≡ 1 → own 0 pass.seen ≡ pass.seen)
    (front : (pass : PassView) (seen : List Entry) → HasSeen pass → IsPrefix seen pass.seen → HasSeen (record pass { seen = seen }))
    (shared : SharedView) (pass last : PassView) → IsLast shared last → HasAllOf last pass → shared.passes ≡ 1 → pass.actor ≡ 0 → EndsAs shared pass last
ends-as all_own front shared pass last is_last has one zeroth =
    let passes : last.passes ≡ 1 = ap (λ (p : PassView). p.passes) is_last.ended ∙ one in
    let before : PassView = record last { seen = pass.seen } in
    let seen : HasSeen before = front last pass.seen is_last.has_seen has.begins in
    let added : own 0 last.seen ≡ own 0 pass.seen ++ [] = subst (λ (a : ℕ). own a last.seen ≡ own a pass.seen ++ []) zeroth has.own in
    record {
      same = sym (all_own last is_last.has_seen passes) ∙ added ∙ append-nil (own 0 pass.seen) ∙ all_own before seen passes;
      legal = subst (λ (p : PassView). IsLegal p.arena p.slots pass.seen) is_last.ended seen.legal;
    }

-- ---- lines

-- how full the queue is
pub stat-is : (r : Stat) (s : State) (book : BookView) → Follows (stat_answer r) book (stat s) → stat_answer r ≡ stat_reply s
unfolding stat
stat-is r s book follows = follows.reply

-- the text of a node, part by part
pub node-text-is : (i : ℕ) (s : State) (text one two three : List ℕ) → one ≡ text ++ node_line i → two ≡ one ++ flat_map product_line (queued s)
    → three ≡ two ++ answer_line (stat_reply s) → three ≡ text ++ node_text i s
node-text-is i s text one two three first second third =
    third ∙ ap (λ (t : List ℕ). t ++ answer_line (stat_reply s)) (second ∙ ap (λ (t : List ℕ). t ++ flat_map product_line (queued s)) first)
    ∙ append_assoc (text ++ node_line i) (flat_map product_line (queued s)) (answer_line (stat_reply s))
    ∙ append_assoc text (node_line i) (flat_map product_line (queued s) ++ answer_line (stat_reply s))
    ∙ ap (λ (t : List ℕ). text ++ t) (sym (append_assoc (node_line i) (flat_map product_line (queued s)) (answer_line (stat_reply s))))

pub on-ok : {E : Type 0} {P Q : Type 0} (result : Result (Unit {0}) E) → (P → Q) → OnOk result P → OnOk result Q
on-ok (Ok done) on p = on p
on-ok (Err why) on p = p
