-- Actions one after another, and where they are broken off.
use Rattle.std.proofs.Common.{◌≡◌, ◌∙◌, ℕ, List, [], ◌∷◌, ◌++◌, inl, inr, Option, Some, None, refl, sym, ap, subst, append_assoc}
use Rattle.ldm_outside.specs.Count.{Rose}
use Rattle.ldm_actions.specs.declared.answers.Fault.{Fault}
use Rattle.ldm_actions.specs.declared.answers.Fault.TheVariants as fault
use Rattle.ldm_actions.specs.Effects.{Action, effects}
use Rattle.ldm_actions.specs.Outputs.{Standing}
use Rattle.ldm_actions.specs.World.{Outside, World}
use Rattle.ldm_pqact.specs.declared.end.ActEnd.{ActEnd}
use Rattle.ldm_pqact.specs.declared.end.ActEnd.TheVariants as end
use Rattle.ldm_pqact.specs.Carried.{BreaksOff, Faulted, IsAsBefore, IsPartOfFirst, LauncherCount, Stands, StoreCount, world_in}

abbrev pub Deed : Type 0
Deed = Action × List ℕ

effects-append : (one two : List Deed) (world : World) → effects (one ++ two) world ≡ effects two (effects one world)
effects-append [] two world = refl
effects-append (deed ∷ one) two world = effects-append one two _

-- ---- all were done

same_as_before : (spent : Option Fault) (now : Standing) → now.outputs.spent ≡ spent → IsAsBefore spent now now
same_as_before None now is = is
same_as_before (Some fault) now is = refl

pub stands_none : (now : Standing) → Stands [] now now
stands_none now = record { world = refl; store_faults = refl; launcher_faults = refl; as_before = same_as_before now.outputs.spent now refl }

as_before_then : (spent : Option Fault) (a b c : Standing) → a.outputs.spent ≡ spent → IsAsBefore spent a b → IsAsBefore b.outputs.spent b c → IsAsBefore spent a c
as_before_then None a b c is one two = subst (λ (o : Option Fault). IsAsBefore o b c) one two
as_before_then (Some fault) a b c is one two =
    let spent : b.outputs.spent ≡ Some fault = ap (λ (s : Standing). s.outputs.spent) one ∙ is in
    subst (λ (o : Option Fault). IsAsBefore o b c) spent two ∙ one

pub stands_then : (first second : List Deed) (a b c : Standing) → Stands first a b → Stands second b c → Stands (first ++ second) a c
stands_then first second a b c one two = record {
  world = two.world ∙ (ap (effects second) one.world ∙ sym (effects-append first second (world_in a)));
  store_faults = two.store_faults ∙ one.store_faults;
  launcher_faults = two.launcher_faults ∙ one.launcher_faults;
  as_before = as_before_then a.outputs.spent a b c refl one.as_before two.as_before;
}

-- ---- they were broken off

-- a fault that was there before was there at first
spent_before : (spent : Option Fault) (why : Fault) (a b c : Standing) → a.outputs.spent ≡ spent → IsAsBefore spent a b → b.outputs.spent ≡ Some why → c ≡ b
    → (a.outputs.spent ≡ Some why) × (c ≡ a)
spent_before None why a b c is one has same = absurd (let no : None ≡ Some why = sym one ∙ has in cc)
spent_before (Some fault) why a b c is one has same = (ap (λ (s : Standing). s.outputs.spent) (sym one) ∙ has, same ∙ one)

faulted_then : (why : Fault) (m n o : ℕ) (a b c : Standing) → n ≡ m → IsAsBefore a.outputs.spent a b → Faulted why n o b c → Faulted why m o a c
faulted_then why m n o a b c same one (inl rose) = inl (subst (λ (x : ℕ). Rose x o) same rose)
faulted_then why m n o a b c same one (inr spent) = inr (spent_before a.outputs.spent why a b c refl one spent.0 spent.1)

pub store_count_then : (why : ActEnd) (a b c : Standing) → b.store.faults ≡ a.store.faults → IsAsBefore a.outputs.spent a b → StoreCount why b c → StoreCount why a c
store_count_then end.Stopped a b c same one two = two ∙ same
store_count_then end.StoreFault a b c same one two = faulted_then fault.Store a.store.faults b.store.faults c.store.faults a b c same one two
store_count_then end.LaunchFault a b c same one two = two ∙ same
store_count_then end.LogFault a b c same one two = two ∙ same
store_count_then end.AllBusy a b c same one two = two ∙ same
store_count_then end.Worn a b c same one two = two ∙ same
store_count_then end.OutOfMemory a b c same one two = two ∙ same

pub launcher_count_then : (why : ActEnd) (a b c : Standing) → b.launcher.faults ≡ a.launcher.faults → IsAsBefore a.outputs.spent a b → LauncherCount why b c
    → LauncherCount why a c
launcher_count_then end.Stopped a b c same one two = two ∙ same
launcher_count_then end.StoreFault a b c same one two = two ∙ same
launcher_count_then end.LaunchFault a b c same one two = faulted_then fault.Launch a.launcher.faults b.launcher.faults c.launcher.faults a b c same one two
launcher_count_then end.LogFault a b c same one two = two ∙ same
launcher_count_then end.AllBusy a b c same one two = two ∙ same
launcher_count_then end.Worn a b c same one two = two ∙ same
launcher_count_then end.OutOfMemory a b c same one two = two ∙ same

-- the earlier ones are more
pub breaks_off_then : (why : ActEnd) (first earlier deeds : List Deed) (a b c : Standing) → Stands first a b → BreaksOff why earlier deeds b c
    → BreaksOff why (first ++ earlier) deeds a c
breaks_off_then why first earlier deeds a b c one two =
    let there = two.part in
    let at : effects ((first ++ earlier) ++ there.whole) (world_in a) ≡ effects (earlier ++ there.whole) (world_in b) =
    ap (λ (ds : List Deed). effects ds (world_in a)) (append_assoc first earlier there.whole)
    ∙ (effects-append first (earlier ++ there.whole) (world_in a) ∙ ap (effects (earlier ++ there.whole)) (sym one.world)) in
    record {
      part = record {
        whole = there.whole;
        others = there.others;
        are = there.are;
        part = subst (λ (w : World). IsPartOfFirst there.others w (world_in c).outside) (sym at) there.part;
      };
      store_count = store_count_then why a b c one.store_faults one.as_before two.store_count;
      launcher_count = launcher_count_then why a b c one.launcher_faults one.as_before two.launcher_count;
    }

-- the first of those in hand were done
pub breaks_off_behind : (why : ActEnd) (first second : List Deed) (a b c : Standing) → Stands first a b → BreaksOff why [] second b c
    → BreaksOff why [] (first ++ second) a c
breaks_off_behind why first second a b c one two =
    let there = two.part in
    let at : effects (first ++ there.whole) (world_in a) ≡ effects there.whole (world_in b) =
    effects-append first there.whole (world_in a) ∙ ap (effects there.whole) (sym one.world) in
    record {
      part = record {
        whole = first ++ there.whole;
        others = there.others;
        are = append_assoc first there.whole there.others ∙ ap (λ (x : List Deed). first ++ x) there.are;
        part = subst (λ (w : World). IsPartOfFirst there.others w (world_in c).outside) (sym at) there.part;
      };
      store_count = store_count_then why a b c one.store_faults one.as_before two.store_count;
      launcher_count = launcher_count_then why a b c one.launcher_faults one.as_before two.launcher_count;
    }

still_part : (others more : List Deed) (world : World) (outside : Outside) → IsPartOfFirst others world outside → IsPartOfFirst (others ++ more) world outside
still_part [] [] world outside is = is
still_part [] (deed ∷ more) world outside is = inl is
still_part (deed ∷ others) more world outside is = is

-- more actions were to come
pub breaks_off_before : (why : ActEnd) (first second : List Deed) (a b : Standing) → BreaksOff why [] first a b → BreaksOff why [] (first ++ second) a b
breaks_off_before why first second a b one =
    let there = one.part in
    record {
      part = record {
        whole = there.whole;
        others = there.others ++ second;
        are = sym (append_assoc there.whole there.others second) ∙ ap (λ (x : List Deed). x ++ second) there.are;
        part = still_part there.others second _ _ there.part;
      };
      store_count = one.store_count;
      launcher_count = one.launcher_count;
    }

-- nothing was done yet, and no count rose
pub breaks_off_here : (why : ActEnd) (deeds : List Deed) (now : Standing) → StoreCount why now now → LauncherCount why now now → BreaksOff why [] deeds now now
breaks_off_here why deeds now store launcher = breaks_off_before why [] deeds now now (record {
  part = record { whole = []; others = []; are = refl; part = refl };
  store_count = store;
  launcher_count = launcher;
})
