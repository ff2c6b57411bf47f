-- Courses, one behind another, and the entries that they lead to.
use Rattle.std.proofs.Common.{◌≡◌, ℕ, List, [], ◌∷◌, ◌++◌, refl, ap, sym, subst, ◌∙◌}
use Rattle.std.proofs.Math.Path.{fun_ext}
use Rattle.ldm_model.specs.declared.event.Reply.{Reply}
use Rattle.ldm_model.specs.declared.event.Entry.{Entry}
use Rattle.ldm_intake.specs.Course.{Course, Comes, Asks, then, Leads, Begins}

-- what comes to something is a unit of `then`, on both sides
pub then-comes : {X Y : Type 0} (x : X) (rest : X → Course Y) → then (Comes x) rest ≡ rest x
then-comes x rest = refl

pub then-to_comes : {X : Type 0} (c : Course X) → then c (λ (x : X). Comes x) ≡ c
then-to_comes (Comes to) = refl
then-to_comes {X} (Asks event on) = ap (λ (f : Reply → Course X). Asks event f) (fun_ext (λ (reply : Reply). then-to_comes (on reply)))

-- `then` is associative
pub then-then : {X Y Z : Type 0} (c : Course X) (f : X → Course Y) (g : Y → Course Z) → then (then c f) g ≡ then c (λ (x : X). then (f x) g)
then-then (Comes to) f g = refl
then-then {X} {Y} {Z} (Asks event on) f g = ap (λ (h : Reply → Course Z). Asks event h) (fun_ext (λ (reply : Reply). then-then (on reply) f g))

-- what goes on in the same way at each value comes to the same
pub then-same : {X Y : Type 0} (c : Course X) (f g : X → Course Y) → ((x : X) → f x ≡ g x) → then c f ≡ then c g
then-same c f g same = ap (then c) (fun_ext same)

-- no entries begin each course
pub begins_none : {X : Type 0} (actor : ℕ) (c : Course X) → Begins actor c []
begins_none actor (Comes to) = tt
begins_none actor (Asks event on) = tt

-- the entries that a course leads by begin it
pub leads-begins : {X : Type 0} (actor : ℕ) (c : Course X) (entries : List Entry) (x : X) → Leads actor c entries x → Begins actor c entries
leads-begins actor (Comes to) [] x leads = tt
leads-begins actor (Comes to) (entry ∷ entries) x leads = absurd leads
leads-begins actor (Asks event on) [] x leads = tt
leads-begins actor (Asks event on) (entry ∷ entries) x leads = (leads.0, leads-begins actor (on entry.reply) entries x leads.1)

-- the entries of both courses lead through one behind the other
pub leads-then : {X Y : Type 0} (actor : ℕ) (c : Course X) (rest : X → Course Y) (entries more : List Entry) (x : X) (y : Y)
    → Leads actor c entries x → Leads actor (rest x) more y → Leads actor (then c rest) (entries ++ more) y
leads-then {X} {Y} actor (Comes to) rest [] more x y leads goes = subst (λ (v : X). Leads actor (rest v) more y) (sym leads) goes
leads-then actor (Comes to) rest (entry ∷ entries) more x y leads goes = absurd leads
leads-then actor (Asks event on) rest [] more x y leads goes = absurd leads
leads-then actor (Asks event on) rest (entry ∷ entries) more x y leads goes = (leads.0, leads-then actor (on entry.reply) rest entries more x y leads.1 goes)

-- where nothing is asked behind a course, its entries lead through both
pub leads-then_comes : {X Y : Type 0} (actor : ℕ) (c : Course X) (rest : X → Course Y) (entries : List Entry) (x : X) (y : Y)
    → Leads actor c entries x → rest x ≡ Comes y → Leads actor (then c rest) entries y
leads-then_comes {X} {Y} actor (Comes to) rest [] x y leads comes =
    subst (λ (d : Course Y). Leads actor d [] y) (sym (ap rest leads ∙ comes)) refl
leads-then_comes actor (Comes to) rest (entry ∷ entries) x y leads comes = absurd leads
leads-then_comes actor (Asks event on) rest [] x y leads comes = absurd leads
leads-then_comes actor (Asks event on) rest (entry ∷ entries) x y leads comes = (leads.0, leads-then_comes actor (on entry.reply) rest entries x y leads.1 comes)

-- the first entries of a course begin it with another behind it
pub begins-then : {X Y : Type 0} (actor : ℕ) (c : Course X) (rest : X → Course Y) (entries : List Entry) → Begins actor c entries → Begins actor (then c rest) entries
begins-then actor (Comes to) rest [] begins = begins_none actor (rest to)
begins-then actor (Comes to) rest (entry ∷ entries) begins = absurd begins
begins-then actor (Asks event on) rest [] begins = tt
begins-then actor (Asks event on) rest (entry ∷ entries) begins = (begins.0, begins-then actor (on entry.reply) rest entries begins.1)

-- all entries of a course, and the first of the one behind it
pub begins-then_more : {X Y : Type 0} (actor : ℕ) (c : Course X) (rest : X → Course Y) (entries more : List Entry) (x : X)
    → Leads actor c entries x → Begins actor (rest x) more → Begins actor (then c rest) (entries ++ more)
begins-then_more {X} {Y} actor (Comes to) rest [] more x leads begins = subst (λ (v : X). Begins actor (rest v) more) (sym leads) begins
begins-then_more actor (Comes to) rest (entry ∷ entries) more x leads begins = absurd leads
begins-then_more actor (Asks event on) rest [] more x leads begins = absurd leads
begins-then_more actor (Asks event on) rest (entry ∷ entries) more x leads begins = (leads.0, begins-then_more actor (on entry.reply) rest entries more x leads.1 begins)

-- an equation of courses carries what they lead to, and what begins them
pub leads-same : {X : Type 0} (actor : ℕ) (c d : Course X) (entries : List Entry) (x : X) → c ≡ d → Leads actor c entries x → Leads actor d entries x
leads-same {X} actor c d entries x same leads = subst (λ (e : Course X). Leads actor e entries x) same leads

pub begins-same : {X : Type 0} (actor : ℕ) (c d : Course X) (entries : List Entry) → c ≡ d → Begins actor c entries → Begins actor d entries
begins-same {X} actor c d entries same begins = subst (λ (e : Course X). Begins actor e entries) same begins

-- What leads through one course behind another leads through the first, and then through the second.
pub record Parts {X Y : Type 0} (actor : ℕ) (c : Course X) (rest : X → Course Y) (entries : List Entry) (y : Y) : Type 0 where
  pub mid : X
  pub made : List Entry
  pub more : List Entry
  pub all : entries ≡ made ++ more
  pub first : Leads actor c made mid
  pub second : Leads actor (rest mid) more y

pub leads-then_parts : {X Y : Type 0} (actor : ℕ) (c : Course X) (rest : X → Course Y) (entries : List Entry) (y : Y)
    → Leads actor (then c rest) entries y → Parts actor c rest entries y
leads-then_parts actor (Comes to) rest entries y leads = record { mid = to; made = []; more = entries; all = refl; first = refl; second = leads }
leads-then_parts actor (Asks event on) rest [] y leads = absurd leads
leads-then_parts actor (Asks event on) rest (entry ∷ entries) y leads =
    let parts = leads-then_parts actor (on entry.reply) rest entries y leads.1 in
    record {
      mid = parts.mid;
      made = entry ∷ parts.made;
      more = parts.more;
      all = ap (λ (es : List Entry). entry ∷ es) parts.all;
      first = (leads.0, parts.first);
      second = parts.second;
    }
